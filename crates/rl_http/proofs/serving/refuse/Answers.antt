use Rattle.std.proofs.Common.{◌∙◌, ap, inr}
use Rattle.rl_http.specs.Answers.{refused_text}
use Rattle.rl_http.proofs.SentLemmas.{finishes_given, finishes_text}
use Rattle.rl_http.proofs.serving.refuse.Goals as goal

pub returns-in-Ok-give-clause-finishes : goal.returns-in-Ok-give-clause-finishes
returns-in-Ok-give-clause-finishes g c =
    finishes_text _ _ (g.C.Conn.written c.args.conn.now) (g.C.Conn.written c.finish.new.conn) c.args.out.now.items c.as_bytes.result.now _
    (c.as_bytes.ensures ∙ (c.in-Ok.ensures ∙ ap refused_text c.refusal_for.ensures))
    (finishes_given _ _ (g.C.Conn.written c.args.conn.now) (g.C.Conn.written c.give.new.conn) (g.C.Conn.written c.finish.new.conn)
    c.args.out.now.items c.as_bytes.result.now c.give.new.out.items c.in-Ok-give.ensures.whole c.finish.ensures.finishes)

pub returns-clause-finishes : goal.returns-clause-finishes
returns-clause-finishes g c =
    finishes_text _ _ (g.C.Conn.written c.args.conn.now) (g.C.Conn.written c.give.new.conn) c.args.out.now.items c.as_bytes.result.now _
    (c.as_bytes.ensures ∙ (c.in-Ok.ensures ∙ ap refused_text c.refusal_for.ensures))
    (inr (c.in-Err.error, c.end_by.ensures, c.in-Err.ensures.front))
