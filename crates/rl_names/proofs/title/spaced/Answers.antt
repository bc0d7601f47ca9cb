use Rattle.std.proofs.lemmas.Grind.{common_steps}
use Rattle.std.proofs.Common.{arith, take, map}
use Rattle.std.specs.Prelude.{flat_map}
use Rattle.std.specs.List.{slice_split}
use Rattle.rl_names.specs.Title.{is_space}
use Rattle.rl_names.proofs.SpacingLemmas.{joined}
use Rattle.rl_names.proofs.title.spaced.Goals as goal

pub returns : goal.returns
returns c =
    let law = joined (flat_map (slice_split is_space) (map (λ x. x.now) (take c.parts.part-index c.in_ok-parts.parts.items))) in
    grind (arith, common_steps, law, c.parts.invariant)
