-- The steps of calls, summed.
use Rattle.std.proofs.Common.{ℕ, ◌+◌, ◌*◌, ◌≤◌, List, [], ◌∷◌, cond, arith}
use Rattle.std.specs.Prelude.{count_by, length, sum_by}
use Rattle.std.proofs.lemmas.List.Sums.{sum_by-cons}
use Rattle.rl_view_spec.specs.Closure.{Registered}
use Rattle.rl_view_spec.specs.Progress.{Progress, HasDistinctNames}
use Rattle.rl_states.specs.Bound.{Call, Touch, Answer, FirstRun, NextRun, Ran, SetVersion, Costs, Counts, after_call, counts_steps, given}
use Rattle.rl_states.specs.Changes.{fresh_progress}
use Rattle.rl_states.specs.Credit.{credit, entries}
use Rattle.rl_states.proofs.ChangesLemmas.{spoiled_fresh}
use Rattle.rl_states.proofs.CreditLemmas.{credit_fresh}

-- what a call may make beside the credit that it uses up
abbrev allowed : Call → ℕ
allowed call = 160 * cond (counts_steps call) 1 0 + 8 * given call

one_call : (call : Call) (t : Progress) (before after : ℕ) → Costs call t before after
    → after + credit (after_call call t) ≤ before + credit t + allowed call
one_call (Touch rows) t before after h = omega (arith, h)
one_call (Answer row outcome) t before after h = omega (arith, h)
one_call FirstRun t before after h = omega (arith, h)
one_call NextRun t before after h = omega (arith, h)
one_call (Ran row threw) t before after h = omega (arith, h)
one_call (SetVersion row version) t before after h = omega (arith, h.0, h.1)

all_calls : (calls : List Call) (t : Progress) (before after : ℕ) → Counts calls t before after
    → after ≤ before + credit t + 160 * count_by counts_steps calls + 8 * sum_by given calls
all_calls [] t before after h = omega (arith, h)
all_calls (call ∷ calls) t before after h =
    omega (
      arith,
      one_call call t before h.0 h.1,
      all_calls calls (after_call call t) h.0 after h.2,
      sum_by-cons (λ (c : Call). cond (counts_steps c) 1 0) call calls,
      sum_by-cons given call calls,
    )

pub steps_bounded : (r : Registered) (calls : List Call) (steps : ℕ) → HasDistinctNames r → Counts calls (fresh_progress r) 0 steps →
    steps ≤ 64 * length r.rows + 8 * entries r + 160 * count_by counts_steps calls + 8 * sum_by given calls
steps_bounded r calls steps distinct h =
    omega (arith, all_calls calls (fresh_progress r) 0 steps h, credit_fresh r [] distinct (spoiled_fresh r))
