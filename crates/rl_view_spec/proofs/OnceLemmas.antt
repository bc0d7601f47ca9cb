-- No row runs twice.
use Rattle.std.proofs.Common.{◌≡◌, ◌≢◌, ℕ, zero, suc, ◌<◌, List, [], ◌∷◌, ◌++◌, Bool, true, false, cond, ◌&&◌, ◌||◌, not}
use Rattle.std.proofs.Common.{nat_eq, length, map, get_or, Option, Some, None, refl, ap, sym, subst, ◌∙◌, arith, eq-eqb, append-nil, append_assoc}
use Rattle.std.specs.Prelude.{find, AllPairs, option_to_list}
use Rattle.std.specs.List.{list_any}
use Rattle.std.proofs.lemmas.Bool.{or_left, or_right}
use Rattle.std.proofs.lemmas.List.Quantifiers.{all_pairs_push}
use Rattle.std.proofs.lemmas.Grind.{common_steps}
use Rattle.rl_view_spec.specs.Progress.{Progress, has_run, is_runnable, next_row, row_numbers, name_at, is_touched_at, is_skipped_at, is_impl, outcome_at}
use Rattle.rl_view_spec.specs.Progress.{all_needed, is_done}
use Rattle.rl_view_spec.specs.View.{View, Event, progress_of, throws_at, run_once, run_times, log_of}

and_left : (a b : Bool) → (a && b) ≡ true → a ≡ true
and_left true b h = refl
and_left false b h = cc

and_right : (a b : Bool) → (a && b) ≡ true → b ≡ true
and_right true b h = h
and_right false b h = cc

-- what is found passes
pub found_passes : (p : ℕ → Bool) (xs : List ℕ) (x : ℕ) → find p xs ≡ Some x → p x ≡ true
found_passes p [] x h = cc
found_passes p (y ∷ ys) x h = step (λ g. found_passes p ys x g) (p y) refl
  where
    step : (find p ys ≡ Some x → p x ≡ true) → (b : Bool) → p y ≡ b → p x ≡ true
    step rest true e = let g : Some y ≡ Some x = subst (λ (b : Bool). cond b (Some y) (find p ys) ≡ Some x) e h in let same : y
        ≡ x = cc in ap p (sym same) ∙ e
    step rest false e = rest (subst (λ (b : Bool). cond b (Some y) (find p ys) ≡ Some x) e h)

-- a row that may run did not run
not_run : (t : Progress) (row : ℕ) → is_runnable t row ≡ true → has_run t row ≡ true → ⊥
not_run t row h ran =
    let first : (is_touched_at t row && not (is_skipped_at t.registered row) && is_impl (outcome_at t row) && not (has_run t row))
    ≡ true = and_left _ (all_needed t.registered row (λ other. nat_eq other row || is_done t other)) h in
    let unrun : not (has_run t row) ≡ true = and_right (is_touched_at t row && not (is_skipped_at t.registered row) && is_impl (outcome_at t row))
    (not (has_run t row)) first in
    let both : not true ≡ true = subst (λ (b : Bool). not b ≡ true) ran unrun in cc

-- a row of the log ran
in_log_ran : (f : ℕ → Bool) (log : List ℕ) (row k : ℕ) → k < length log → get_or log k row ≡ row →
    list_any (λ (run : ℕ × Bool). nat_eq run.0 row) (map (λ (r : ℕ). (r, f r)) log) ≡ true
in_log_ran f [] row k low e = absurd (omega (arith, low))
in_log_ran f (x ∷ log) row zero low e = or_left (nat_eq x row) _ (eq-eqb x row e)
in_log_ran f (x ∷ log) row (suc k) low e = or_right (nat_eq x row) _ (in_log_ran f log row k (omega (arith, low)) e)

-- one run more
pub once_kept : (v : View) (past : List Event) (log : List ℕ) → AllPairs (λ (a b : ℕ). a ≢ b) log →
    AllPairs (λ (a b : ℕ). a ≢ b) (run_once v past log)
once_kept v past log h = step (next_row (progress_of v past log)) refl
  where
    same_default : (k d e : ℕ) → k < length log → get_or log k e ≡ get_or log k d
    same_default k d e low = grind (arith, common_steps)

    step : (o : Option ℕ) → next_row (progress_of v past log) ≡ o → AllPairs (λ (a b : ℕ). a ≢ b) (log ++ option_to_list o)
    step None e = subst (λ (xs : List ℕ). AllPairs (λ (a b : ℕ). a ≢ b) xs) (sym (append-nil log)) h
    step (Some row) e = all_pairs_push (λ (a b : ℕ). a ≢ b) log row h (λ k d low is.
        not_run (progress_of v past log) row (found_passes (is_runnable (progress_of v past log)) (row_numbers v.registered) row e)
        (in_log_ran (λ r. throws_at v past (name_at v.registered r)) log row k low (same_default k d row low ∙ is)))

pub once_many : (v : View) (past : List Event) (times : ℕ) (log : List ℕ) → AllPairs (λ (a b : ℕ). a ≢ b) log →
    AllPairs (λ (a b : ℕ). a ≢ b) (run_times v past times log)
once_many v past zero log h = h
once_many v past (suc times) log h = once_many v past times (run_once v past log) (once_kept v past log h)

-- no row runs twice in any view
pub runs_once : (v : View) (past : List Event) → AllPairs (λ (a b : ℕ). a ≢ b) (log_of v past)
runs_once v [] = λ i j d h low. absurd (omega (arith, low))
runs_once v (event ∷ past) = once_many v (event ∷ past) (length v.registered.rows) (log_of v past) (runs_once v past)

-- ---- nothing is taken away

pub grows_many : (v : View) (past : List Event) (times : ℕ) (log : List ℕ) → (added : List ℕ) × (run_times v past times log ≡ log ++ added)
grows_many v past zero log = ([], sym (append-nil log))
grows_many v past (suc times) log =
    let m = grows_many v past times (run_once v past log) in
    (option_to_list (next_row (progress_of v past log)) ++ m.0, m.1 ∙ append_assoc log (option_to_list (next_row (progress_of v past log))) m.0)

pub log_grows : (v : View) (event : Event) (past : List Event) → (added : List ℕ) × (log_of v (event ∷ past) ≡ log_of v past ++ added)
log_grows v event past = grows_many v (event ∷ past) (length v.registered.rows) (log_of v past)
