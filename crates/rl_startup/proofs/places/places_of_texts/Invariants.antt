use Rattle.std.proofs.Common.{◌≡◌, ℕ, List, take}
use Rattle.rl_startup.specs.Places.{place_by}
use Rattle.rl_startup.specs.Rows.{place_in}
use Rattle.rl_startup.proofs.places.places_of_texts.Given as goal

-- the places of those so far
abbrev pub invariant-texts : goal.invariant-texts
invariant-texts l = (q : List ℕ) → place_by l.places q ≡ place_in (take l.at l.texts) q
