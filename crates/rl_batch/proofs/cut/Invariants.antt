use Rattle.std.proofs.Common.{◌≡◌, ◌≤◌, ◌++◌, ◌-◌, drop, length, map}
use Rattle.rl_book_spec.specs.Batches.{batch_of}
use Rattle.rl_batch.specs.Split.{cuts, goes, seen}
use Rattle.rl_batch.proofs.cut.Given as goal

-- the batches so far and those of the rows that are left are all
abbrev pub invariant-batches : goal.invariant-batches
invariant-batches l = record {
  within : l.at ≤ length l.rows;
  told : l.batches.items ++ map (batch_of l.base) (cuts (goes l.base l.limit) (drop l.at (map seen l.rows)))
      ≡ map (batch_of l.base) (cuts (goes l.base l.limit) (map seen l.rows));
}

abbrev pub decreases-batches : goal.decreases-batches
decreases-batches l = length l.rows - l.at
