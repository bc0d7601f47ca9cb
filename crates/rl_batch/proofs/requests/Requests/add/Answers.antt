use Rattle.std.proofs.Common.{ℕ, List, ap, ap₂, arith, length, map, ◌++◌, ◌∙◌}
use Rattle.std.specs.List.{range_with_len}
use Rattle.rl_book_spec.specs.Traffic.{fresh}
use Rattle.rl_book_spec.specs.declared.Sent.{Sent}
use Rattle.rl_batch.proofs.KeptLemmas.{kept_added}
use Rattle.rl_batch.proofs.requests.Requests.add.Goals as goal

pub invariant_of-self-2 : goal.invariant_of-self-2
invariant_of-self-2 c =
    kept_added c.self.inside.batches.items c.self.inside.waiting.items c.self.inside.asks.items _ _ c.args.new.items c.push_all.new.batches.items
    c.push_all.new.waiting.items
    c.self.invariant (omega arith) (omega (arith, c.in_ok-reserve-2.ensures.ok, c.push_all.ensures.capacity))
    (c.push_all.ensures.batches ∙ ap (λ (xs : List Sent). xs ++ map fresh c.args.new.items) c.reserve.ensures.items)
    (c.push_all.ensures.waiting ∙ ap₂ (λ (ws : List ℕ) (bs : List Sent). ws ++ range_with_len (length bs) (length c.args.new.items))
    c.reserve-2.ensures.items c.reserve.ensures.items)
