-- How many steps the calls of a table make together, over a whole view.
use Rattle.std.specs.Prelude.{◌≡◌, ℕ, ◌+◌, ◌*◌, ◌≤◌, List, [], ◌∷◌, Bool, true, false, count_by, length, sum_by}
use Rattle.rl_view_spec.specs.declared.Outcome.{Outcome}
use Rattle.rl_view_spec.specs.Closure.{Text, Registered}
use Rattle.rl_view_spec.specs.Progress.{Progress, HasDistinctNames, next_row}
use Rattle.rl_registry.specs.Rows.{with_version}
use Rattle.rl_states.specs.Changes.{fresh_progress, after_touch, after_outcome, after_ran}
use Rattle.rl_states.specs.Credit.{credit, entries}

-- a call that counts steps, or gives a row a version
pub data Call : Type 0 where
  Touch : (rows : List ℕ) → Call
  Answer : (row : ℕ) (outcome : Outcome) → Call
  FirstRun : Call
  NextRun : Call
  Ran : (row : ℕ) (threw : Bool) → Call
  SetVersion : (row : ℕ) (version : Text) → Call

abbrev pub after_call : Call → Progress → Progress
after_call (Touch rows) t = after_touch rows t
after_call (Answer row outcome) t = after_outcome row outcome t
after_call FirstRun t = t
after_call NextRun t = record t { executing = next_row t }
after_call (Ran row threw) t = after_ran row threw t
after_call (SetVersion row version) t = record t { registered = with_version t.registered row version }

-- What the clauses of the call say of a counter that stands at the one number before it and at the other after it.
abbrev pub Costs : Call → Progress → ℕ → ℕ → Type 0
Costs (Touch rows) t before after = after + credit (after_touch rows t) ≤ before + credit t + 8 * length rows + 8
Costs (Answer row outcome) t before after = after + credit (after_outcome row outcome t) ≤ before + credit t + 8
Costs FirstRun t before after = after ≤ before + 160
Costs NextRun t before after = after ≤ before + 160
Costs (Ran row threw) t before after = after + credit (after_ran row threw t) ≤ before + credit t + 8
Costs (SetVersion row version) t before after =
    (after ≡ before) × (credit (record t { registered = with_version t.registered row version }) ≡ credit t)

-- these calls lead the counter from the one number to the other
abbrev pub Counts : List Call → Progress → ℕ → ℕ → Type 0
Counts [] t before after = before ≡ after
Counts (call ∷ calls) t before after = (between : ℕ) × Costs call t before between × Counts calls (after_call call t) between after

abbrev pub counts_steps : Call → Bool
counts_steps (SetVersion row version) = false
counts_steps other = true

-- how many rows a call of `touch` was given
abbrev pub given : Call → ℕ
given (Touch rows) = length rows
given other = 0

-- 64 for each row, 8 for each entry, 160 for each call that counts, and 8 for each row given to `touch`
abbrev pub StepsAreBounded : Type 0
StepsAreBounded =
    (r : Registered) (calls : List Call) (steps : ℕ) → HasDistinctNames r → Counts calls (fresh_progress r) 0 steps →
    steps ≤ 64 * length r.rows + 8 * entries r + 160 * count_by counts_steps calls + 8 * sum_by given calls
