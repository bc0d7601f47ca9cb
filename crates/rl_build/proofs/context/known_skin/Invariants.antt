use Rattle.std.proofs.Common.{◌≡◌, ℕ, List, drop, bytes_eq}
use Rattle.std.specs.List.{list_any}
use Rattle.rl_build.proofs.context.known_skin.Given as goal

abbrev pub invariant-skins : goal.invariant-skins
invariant-skins l =
    list_any (λ (skin : List ℕ). bytes_eq skin l.name) (drop l.skin-index l.skin-items)
    ≡ list_any (λ (skin : List ℕ). bytes_eq skin l.name) l.skin-items
