use Rattle.std.proofs.Common.{map, sym, ◌∙◌, ap, ℕ, Bool}
use Rattle.std.proofs.lemmas.Slice.Zip.{firsts-zip}
use Rattle.rl_view_spec.specs.Progress.{Progress}
use Rattle.rl_states.proofs.table.Table.log.Goals as goal

pub returns : goal.returns
returns c =
    c.as_slice.ensures.value ∙ sym (firsts-zip c.self.inside.log.items c.self.inside.threw.items c.self.invariant.paired)
    ∙ ap (λ (t : Progress). map (λ (run : ℕ × Bool). run.0) t.ran) c.self.view_is
