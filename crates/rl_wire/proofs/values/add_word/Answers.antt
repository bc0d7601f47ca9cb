use Rattle.std.proofs.Common.{rules}
use Rattle.rl_wire.specs.Line.{state_arguments}
use Rattle.rl_wire.proofs.PrintedLemmas.{written}
use Rattle.rl_wire.proofs.values.add_word.Goals as goal

pub returns : goal.returns
returns c =
    written _ _ _ _ (state_arguments c.args.name.now c.args.word.now) (search rules) (search rules) c.text_of.ensures
