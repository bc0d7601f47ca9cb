use Rattle.std.proofs.Common.{◌≡◌, ◌+◌, ◌<◌, ◌≤◌, ◌^◌, ◌++◌, length, map}
use Rattle.std.specs.Prelude.{vec_capacity}
use Rattle.std.specs.List.{range_with_len}
use Rattle.std.specs.Vec.Iter.{into_iter_items}
use Rattle.std.specs.VecDeque.{deque_capacity}
use Rattle.rl_book_spec.specs.Traffic.{fresh}
use Rattle.rl_batch.proofs.requests.push_all.Given as goal

-- what is added and what is left is all
abbrev pub invariant-loop-batch : goal.invariant-loop-batch
invariant-loop-batch l = record {
  few : length l.batches.items + length (into_iter_items l.batch-iterator) < 2 ^ 32;
  batches_room : length l.batches.items + length (into_iter_items l.batch-iterator) ≤ vec_capacity l.batches;
  waiting_room : length l.waiting.items + length (into_iter_items l.batch-iterator) ≤ deque_capacity l.waiting;
  batches : l.batches.items ++ map fresh (into_iter_items l.batch-iterator) ≡ l.fn.batches.items ++ map fresh l.fn.new.items;
  waiting : l.waiting.items ++ range_with_len (length l.batches.items) (length (into_iter_items l.batch-iterator)) ≡ l.fn.waiting.items
      ++ range_with_len (length l.fn.batches.items) (length l.fn.new.items);
  capacity : deque_capacity l.fn.waiting ≤ deque_capacity l.waiting;
}
