use Rattle.std.proofs.Common.{◌∙◌, ◌++◌, ◌∷◌, [], List, false, ap, arith}
use Rattle.rl_book_spec.specs.declared.Asked.{Asked}
use Rattle.rl_batch.proofs.KeptLemmas.{kept_taken}
use Rattle.rl_batch.proofs.requests.Requests.take.Goals as goal

pub invariant_of-self-in-Some : goal.invariant_of-self-in-Some
invariant_of-self-in-Some c =
    kept_taken c.self.inside.batches.items c.self.inside.waiting.items c.pop_front-batch.new.self.items c.self.inside.asks.items c.push_reserved.new.self.items
    _ _ c.in-Some.batch c.self.invariant c.in-Some.ensures.items
    (c.push_reserved.ensures.items ∙ ap (λ (xs : List Asked). xs ++ record { batch = c.in-Some.batch; lost = false } ∷ []) c.reserve.ensures.items)
    (omega (arith, c.if-len-ge-MAX.false)) c.pop_front-batch.ensures.capacity
