use Rattle.std.proofs.Common.{◌≡◌, ◌≤◌, ◌+◌, drop, length}
use Rattle.rl_names.specs.Counting.{has_dot, piece_count}
use Rattle.rl_names.proofs.packing.expanded_count.Given as goal

abbrev pub invariant-places : goal.invariant-places
invariant-places l = record {
  count : l.count ≡ piece_count (drop l.at l.packed);
  before_dot : l.before_dot ≡ has_dot (drop l.at l.packed);
  most : l.count + l.at ≤ length l.packed + 1;
}
