use Rattle.std.proofs.Common.{◌++◌, ◌∷◌, [], ◌∙◌, List, ap}
use Rattle.std.proofs.Common.{ℕ, sym, zero-add}
use Rattle.std.specs.List.{range_with_len}
use Rattle.rl_batch.proofs.WholeLemmas.{range_pushed}
use Rattle.rl_batch.proofs.tests.numbers.Goals as goal

pub loop-number-preserved : goal.loop-number-preserved
loop-number-preserved c =
    c.in_ok-push.ensures.items ∙ ap (λ (xs : List ℕ). xs ++ c.loop-number.number ∷ []) c.loop-number.invariant
    ∙ ap (λ (n : ℕ). range_with_len 0 c.loop-number.number ++ n ∷ []) (sym (zero-add c.loop-number.number)) ∙ range_pushed 0 c.loop-number.number
