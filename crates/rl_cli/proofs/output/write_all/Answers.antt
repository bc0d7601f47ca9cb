use Rattle.std.proofs.Common.{rules}
use Rattle.rl_cli.proofs.WrittenLemmas.{appended_piece}
use Rattle.rl_cli.proofs.output.write_all.Goals as goal

pub loop-at-preserved : goal.loop-at-preserved
loop-at-preserved g c = record {
  within = search rules;
  written = appended_piece (g.O.Sink.written c.args.out.now) (g.O.Sink.written c.loop-at.out) (g.O.Sink.written c.write.new.self) c.args.text.now c.loop-at.at
      c.in_ok-count.count c.loop-at.invariant.written c.in_ok-count.ensures.most c.in_ok-count.ensures.takes;
  later = search rules;
}
