use Rattle.std.proofs.Common.{◌≡◌, ℕ, List, take}
use Rattle.rl_startup.specs.Places.{place_by}
use Rattle.rl_startup.specs.Rows.{names_of, place_in}
use Rattle.rl_startup.proofs.places.places_of_names.Given as goal

-- the places of those so far
abbrev pub invariant-modules : goal.invariant-modules
invariant-modules l = (q : List ℕ) → place_by l.places q ≡ place_in (names_of (take l.at l.modules)) q
