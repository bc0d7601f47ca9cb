use Rattle.std.proofs.Common.{◌≡◌, ◌≤◌, map, take, length}
use Rattle.rl_book.specs.Held.{NamesBelow, gift_in, gifts_at}
use Rattle.rl_book.proofs.held.places_for.Given as goal

-- the places of the rows so far
abbrev pub invariant-loop-row : goal.invariant-loop-row
invariant-loop-row l = record {
  low : l.row ≤ length l.registry.rows;
  gifts : gifts_at l.parts l.store.pairs l.places.items ≡ map (gift_in l.parts l.debug l.store.pairs) (take l.row l.registry.rows);
  named : NamesBelow l.row l.parts l.debug l.store.pairs l.registry.rows;
}
