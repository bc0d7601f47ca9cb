use Rattle.std.proofs.Common.{◌≡◌, ◌+◌, ◌++◌, drop, length}
use Rattle.std.specs.Vec.Iter.{into_iter_items}
use Rattle.rl_compact.specs.Unmarked.{unmarked}
use Rattle.rl_compact.proofs.brought.keep_unmarked.Given as goal

abbrev pub invariant-loop-dep : goal.invariant-loop-dep
invariant-loop-dep l = record {
  long : l.at + length (into_iter_items l.dep-iterator) ≡ length l.numbers;
  kept : l.kept.items ++ unmarked (into_iter_items l.dep-iterator) (drop l.at l.numbers) l.marks ≡ unmarked l.fn.deps.items l.numbers l.marks;
}
