use Rattle.std.proofs.Common.{◌≡◌, ◌≤◌, ◌+◌, ◌++◌, length, vec_len}
use Rattle.std.specs.List.Sorted.{IsPermutation}
use Rattle.std.specs.Vec.{vec_capacity}
use Rattle.rl_store.specs.Merging.{picked}
use Rattle.rl_store.proofs.merging.gather.Given as goal

abbrev pub invariant-pairs : goal.invariant-pairs
invariant-pairs l = record {
  long : length l.marks.items ≡ length l.pairs.items;
  room : length l.into.items + length (picked l.marks.items l.pairs.items) ≤ vec_capacity l.into;
  moved : IsPermutation (l.fn.into.items ++ picked l.fn.marks.items l.fn.pairs.items) (l.into.items ++ picked l.marks.items l.pairs.items);
}

abbrev pub decreases-pairs : goal.decreases-pairs
decreases-pairs l = vec_len l.pairs
