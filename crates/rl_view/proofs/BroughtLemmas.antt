-- The answers that a request brings by itself, row by row.
use Rattle.std.proofs.Common.{◌≡◌, ℕ, zero, suc, ◌+◌, List, [], ◌∷◌, Bool, true, false, cond, map, Option, Some, None, refl, ap, ap₂, sym}
use Rattle.std.proofs.Common.{subst, ◌∙◌, ⊎_elim, arith, append-nil}
use Rattle.std.specs.Prelude.{filter, if◌then◌else◌, option_and_then, option_map, option_to_list, slice_get}
use Rattle.std.specs.List.{cons_option, enumerate_from, filter_map}
use Rattle.std.proofs.lemmas.Bool.{cases_Bool}
use Rattle.std.proofs.lemmas.Option.{slice_get_within}
use Rattle.rl_names.specs.declared.row.Row.{Row}
use Rattle.rl_view_spec.specs.Closure.{Text, Registered, closure_rows, in_closures}
use Rattle.rl_view_spec.specs.Keys.{counts}
use Rattle.rl_view_spec.specs.Numbers.{closure_numbers}
use Rattle.rl_view_spec.specs.Progress.{Progress, name_at}
use Rattle.rl_view_spec.specs.Requests.{given_by, request}
use Rattle.rl_view_spec.specs.View.{View, Event, Answer, log_of}
use Rattle.rl_view_spec.proofs.PlacesLemmas.{name_there}
use Rattle.rl_view.specs.Seen.{IsDue, after_answer, brought_at, counts_at, for_outcomes, given_to, with_answer, with_answers}
use Rattle.rl_view.proofs.AnswersLemmas.{counting_at, counting_here, outcomes_passed, outcomes_plain, seen_passed, seen_used}

-- ---- one row

module _ (v : View) (answer : Row → Option Answer) (event : Event) (past : List Event) (k : ℕ) (row : Row)
    (there : slice_get v.registered.rows k ≡ Some row) where
  abbrev next : Event
  next = with_answers (option_to_list (given_by answer row)) event

  -- a row is given its answer, where it has one that counts
  pub seen_given : (t t' : Progress) → IsDue v event past t → t' ≡ given_to k (answer row) t → IsDue v next past t'
  seen_given t t' s e = step (answer row) e
    where
      step : (given : Option Answer) → t' ≡ given_to k given t →
          IsDue v (with_answers (option_to_list (option_map (λ answer. (row.name, answer)) given)) event) past t'
      step None e =
          subst (λ (came : List (Text × Answer)). IsDue v (record event { came = came }) past t') (sym (append-nil event.came))
          (subst (λ (p : Progress). IsDue v event past p) (sym e) s)
      step (Some given) e = ⊎_elim
          (λ counts.
          let c = counting_here v (event ∷ past) (log_of v past) t k s (slice_get_within v.registered.rows k row there) counts in
          subst (λ (name : Text). IsDue v (with_answer name given event) past t') (name_there v.registered k row there)
          (seen_used v (name_at v.registered k) given event past k t t' s c (e ∙ ap (λ (b : Bool). if b then after_answer k given t else t) counts)))
          (λ passed.
          let c : counts v (event ∷ past) row.name ≡ false =
          ap (counts v (event ∷ past)) (sym (name_there v.registered k row there))
          ∙ sym (counting_at v (event ∷ past) (log_of v past) t k s (slice_get_within v.registered.rows k row there)) ∙ passed in
          subst (λ (p : Progress). IsDue v (with_answer row.name given event) past p)
          (sym (e ∙ ap (λ (b : Bool). if b then after_answer k given t else t) passed))
          (seen_passed v row.name given event past t s c))
          (cases_Bool (counts_at t k))

  -- what follows of that answer as of none is as before
  pub outcomes_given : {X : Type 0} (f : Option Answer → X) (t : Progress) → IsDue v event past t →
      ((given : Answer) → answer row ≡ Some given → f (Some given) ≡ f None)
      → for_outcomes f v (next ∷ past) ≡ for_outcomes f v (event ∷ past)
  outcomes_given {X = X} f t s plain = step (answer row) plain
    where
      step : (given : Option Answer) → ((one : Answer) → given ≡ Some one → f (Some one) ≡ f None)
          → for_outcomes f v (with_answers (option_to_list (option_map (λ answer. (row.name, answer)) given)) event ∷ past)
          ≡ for_outcomes f v (event ∷ past)
      step None plain = ap (λ (came : List (Text × Answer)). for_outcomes f v (record event { came = came } ∷ past)) (append-nil event.came)
      step (Some given) plain = ⊎_elim
          (λ counts.
          let c = counting_here v (event ∷ past) (log_of v past) t k s (slice_get_within v.registered.rows k row there) counts in
          subst (λ (name : Text). for_outcomes f v (with_answer name given event ∷ past) ≡ for_outcomes f v (event ∷ past))
          (name_there v.registered k row there)
          (outcomes_plain f v (name_at v.registered k) given event past k c (plain given refl)))
          (λ passed.
          let c : counts v (event ∷ past) row.name ≡ false =
          ap (counts v (event ∷ past)) (sym (name_there v.registered k row there))
          ∙ sym (counting_at v (event ∷ past) (log_of v past) t k s (slice_get_within v.registered.rows k row there)) ∙ passed in
          outcomes_passed f v row.name given event past c)
          (cases_Bool (counts_at t k))

-- ---- all rows of the closures

-- by numbers and by the elements themselves
by_numbers : {X Y : Type 0} (h : X → Option Y) (at : ℕ → Option X) (p : ℕ → Bool) (q : X → Bool) (n : ℕ) (xs : List X)
    → ((k : ℕ) (x : X) → slice_get xs k ≡ Some x → (at (n + k) ≡ Some x) × (p (n + k) ≡ q x))
    → filter_map (λ k. option_and_then h (at k)) (filter p (map (λ (numbered : ℕ × X). numbered.0) (enumerate_from n xs))) ≡ filter_map h (filter q xs)
by_numbers h at p q n [] each = refl
by_numbers {X = X} {Y = Y} h at p q n (x ∷ xs) each =
    let first : n + 0 ≡ n = omega arith in
    let here = each zero x refl in
    let found : at n ≡ Some x = subst (λ (m : ℕ). at m ≡ Some x) first here.0 in
    let passes : p n ≡ q x = subst (λ (m : ℕ). p m ≡ q x) first here.1 in
    let rest = by_numbers h at p q (n + 1) xs (λ k y s. let next : n + suc k
    ≡ (n + 1) + k = omega arith in subst (λ (m : ℕ). (at m ≡ Some y) × (p m ≡ q y)) next (each (suc k) y s)) in
    step (p n) (q x) passes found rest
  where
    rest_of : List ℕ
    rest_of = filter p (map (λ (numbered : ℕ × X). numbered.0) (enumerate_from (n + 1) xs))

    step : (a b : Bool) → a ≡ b → at n ≡ Some x → filter_map (λ k. option_and_then h (at k)) rest_of ≡ filter_map h (filter q xs)
        → filter_map (λ k. option_and_then h (at k)) (cond a (n ∷ rest_of) rest_of) ≡ filter_map h (cond b (x ∷ filter q xs) (filter q xs))
    step true true e found rest = ap₂ cons_option (ap (option_and_then h) found) rest
    step true false e found rest = cc
    step false true e found rest = cc
    step false false e found rest = rest

pub brought_all : (answer : Row → Option Answer) (r : Registered) (names : List Text)
    → filter_map (brought_at answer r) (closure_numbers r names) ≡ filter_map (given_by answer) (closure_rows r names)
brought_all answer r names =
    by_numbers (given_by answer) (slice_get r.rows) (λ row. in_closures r names (name_at r row)) (λ row. in_closures r names row.name) 0 r.rows
    (λ k row there. let zero : k ≡ 0 + k = omega arith in
    subst (λ (m : ℕ). (slice_get r.rows m ≡ Some row) × (in_closures r names (name_at r m) ≡ in_closures r names row.name)) zero
    (there, ap (in_closures r names) (name_there r k row there)))
