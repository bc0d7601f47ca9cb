use Rattle.std.proofs.Common.{◌≡◌, ◌≤◌, length, drop}
use Rattle.rl_book.specs.Held.{firsts_of, parts_at}
use Rattle.rl_book.proofs.held.places_of.Given as goal

abbrev pub decreases-parts : goal.decreases-parts
decreases-parts l = l.at

-- the places are those of the parts from here on
abbrev pub invariant-parts : goal.invariant-parts
invariant-parts l = record {
  low : l.at ≤ length l.parts;
  long : length l.places.items ≡ length l.registry.rows;
  places : parts_at l.parts l.places.items ≡ firsts_of l.registry (drop l.at l.parts);
}
