use Rattle.std.proofs.Common.{rules}
use Rattle.rl_http.proofs.WrittenLemmas.{appended_piece}
use Rattle.rl_http.proofs.writing.write_all.Goals as goal

pub loop-at-preserved : goal.loop-at-preserved
loop-at-preserved g c = record {
  within = search rules;
  written = appended_piece (g.C.Conn.written c.args.conn.now) (g.C.Conn.written c.loop-at.conn) (g.C.Conn.written c.write.new.self)
      c.args.text.now c.loop-at.at c.in_ok-count.count c.loop-at.invariant.written c.in_ok-count.ensures.most c.in_ok-count.ensures.takes;
  left = search rules;
  later = search rules;
}
