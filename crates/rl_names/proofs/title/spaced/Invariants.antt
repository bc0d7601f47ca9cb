use Rattle.std.proofs.Common.{◌≡◌, [], take, map, string_bytes}
use Rattle.std.specs.Prelude.{fold, flat_map}
use Rattle.std.specs.List.{slice_split}
use Rattle.rl_names.specs.Spacing.{with_word}
use Rattle.rl_names.specs.Title.{is_space}
use Rattle.rl_names.proofs.title.spaced.Given as goal

abbrev pub invariant-parts : goal.invariant-parts
invariant-parts l = string_bytes l.out ≡ fold with_word [] (flat_map (slice_split is_space) (map (λ x. x.now) (take l.part-index l.part-items)))
