use Rattle.std.proofs.Common.{codes}
use Rattle.rl_wire.specs.Line.{arguments_text, state_arguments}
use Rattle.rl_wire.proofs.AppendingLemmas.{append_then}
use Rattle.rl_wire.proofs.line.add_state.Goals as goal

pub returns : goal.returns
returns c =
    append_then _ (codes "mw.loader.state(") _ _ _ c.in_ok-push_str.ensures.bytes
    (append_then _ (arguments_text (state_arguments c.args.name.now c.args.word.now)) (codes ");") _ _ c.in_ok-add_word.ensures
    c.in_ok-push_str-2.ensures.bytes)
