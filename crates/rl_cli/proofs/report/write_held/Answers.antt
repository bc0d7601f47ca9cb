use Rattle.std.proofs.Common.{refl, subst}
use Rattle.std.proofs.Output.{has_written_append}
use Rattle.std.specs.Fmt.{HasWritten}
use Rattle.rl_view_spec.specs.Closure.{Text}
use Rattle.rl_cli.specs.Told.{state_text}
use Rattle.rl_cli.proofs.report.write_held.Goals as goal

pub returns : goal.returns
returns g c = λ plain ok.
    let state : HasWritten g.W.Write.write_str_gives c.args.f.now (state_text c.args.file.now c.args.name.now c.state_word-word.result.now) c.write_state.new.f =
    c.in_ok-write_state.ensures plain refl in
    has_written_append _ _ _ _ _ _
    (subst (λ (state : Text). HasWritten g.W.Write.write_str_gives c.args.f.now (state_text c.args.file.now c.args.name.now state) c.write_state.new.f)
    c.state_word-word.ensures state)
    (c.write_blamed.ensures state.plain ok)
