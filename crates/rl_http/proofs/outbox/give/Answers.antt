use Rattle.rl_http.proofs.SentLemmas.{gives_sent, front_behind, where_ok, where_err}
use Rattle.rl_http.proofs.outbox.give.Goals as goal

pub returns-clause-whole : goal.returns-clause-whole
returns-clause-whole g c =
    where_ok c.write_all.result _ _
    (λ w. gives_sent (g.C.Conn.written c.args.conn.now) (g.C.Conn.written c.flush.new.conn) (g.C.Conn.written c.write_all.new.conn)
    c.args.out.now.items c.args.text.now c.flush.new.out.items c.in_ok-flush.ensures.whole w c.in_ok-flush.ensures.empty)
    c.write_all.ensures.whole

pub returns-clause-front : goal.returns-clause-front
returns-clause-front g c =
    where_err c.write_all.result _ _
    (λ f. front_behind (g.C.Conn.written c.args.conn.now) (g.C.Conn.written c.flush.new.conn) (g.C.Conn.written c.write_all.new.conn)
    c.args.out.now.items c.args.text.now c.in_ok-flush.ensures.whole f)
    c.write_all.ensures.front
