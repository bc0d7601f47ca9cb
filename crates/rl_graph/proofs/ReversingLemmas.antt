-- What leads to each number, gathered one number after another.
use Rattle.std.proofs.Common.{◌≡◌, ◌≢◌, ℕ, ◌+◌, ◌<◌, ◌≤◌, List, [], ◌∷◌, ◌++◌, Bool, true, false, cond, ◌&&◌, not}
use Rattle.std.proofs.Common.{length, set, replicate, nat_eq, nat_lt, refl, ap, sym, subst, ◌∙◌, ⊎_elim, arith}
use Rattle.std.proofs.lemmas.Bool.{cases_eq, cases_lt, eq-eqb, ne_eqb, lt-ltb, le-ltb}
use Rattle.std.proofs.lemmas.Bool.Decides.{nat_tests}
use Rattle.std.proofs.lemmas.List.{get_or-set_same, get_or-set_other, get_or_past, length-set, length-replicate, get_or-replicate}
use Rattle.rl_graph.specs.Graph.{next_in}
use Rattle.rl_graph.specs.Reversed.{times, AddsEdges, AreReversed}
use Rattle.rl_graph.proofs.CountsLemmas.{count_push, none_from}

pub adds_none : (from : ℕ) (lists : List (List ℕ)) → AddsEdges from [] lists lists
adds_none from lists = record { long = refl; each = λ to other low. step (nat_eq other from && not (nat_eq from to)) (times other (next_in lists to)) }
  where
    step : (b : Bool) (n : ℕ) → n ≡ n + cond b 0 0
    step true n = omega arith
    step false n = omega arith

-- the number leads to itself
pub adds_itself : (from : ℕ) (next : List ℕ) (lists lists' : List (List ℕ)) → AddsEdges from next lists lists' →
    AddsEdges from (next ++ from ∷ []) lists lists'
adds_itself from next lists lists' a = record {
  long = a.long;
  each = λ to other low. a.each to other low
      ∙ ap (λ (n : ℕ). times other (next_in lists to) + n) (step to (nat_eq other from) (nat_eq from to) refl);
}
  where
    step : (to : ℕ) (b c : Bool) → nat_eq from to ≡ c → cond (b && not c) (times to next) 0 ≡ cond (b && not c) (times to (next ++ from ∷ [])) 0
    step to true true e = refl
    step to true false e =
        let off : nat_eq to from ≡ false = grind (arith, nat_tests) in
        omega (arith, count_push (nat_eq to) next from, none_from (nat_eq to from) off)
    step to false true e = refl
    step to false false e = refl

-- it leads to another
pub adds_other : (from at : ℕ) (next : List ℕ) (lists lists' : List (List ℕ)) → AddsEdges from next lists lists' → at ≢ from → at < length lists'
    → AddsEdges from (next ++ at ∷ []) lists (set lists' at (next_in lists' at ++ from ∷ []))
adds_other from at next lists lists' a ne low = record {
  long = length-set lists' at (next_in lists' at ++ from ∷ []) ∙ a.long;
  each = λ to other there_to. ⊎_elim (λ e. here to other there_to e) (λ e. there to other there_to e) (cases_eq to at);
}
  where
    here : (to other : ℕ) → to < length lists → to ≡ at →
        times other (next_in (set lists' at (next_in lists' at ++ from ∷ [])) to)
        ≡ times other (next_in lists to) + cond (nat_eq other from && not (nat_eq from to)) (times to (next ++ at ∷ [])) 0
    here to other there_to e =
        let is : next_in (set lists' at (next_in lists' at ++ from ∷ [])) to ≡ next_in lists' to ++ from ∷ [] =
        subst (λ (k : ℕ). next_in (set lists' at (next_in lists' at ++ from ∷ [])) k ≡ next_in lists' k ++ from ∷ []) (sym e)
        (get_or-set_same lists' at (next_in lists' at ++ from ∷ []) [] low) in
        let one : nat_eq to at ≡ true = eq-eqb to at e in
        let apart : nat_eq from to ≡ false = ne_eqb from to (λ f. ne (sym e ∙ sym f)) in
        let more : times to (next ++ at ∷ []) ≡ times to next + 1 = count_push (nat_eq to) next at ∙ ap (λ (b : Bool). times to next + cond b 1 0) one in
        ap (times other) is ∙ count_push (nat_eq other) (next_in lists' to) from
        ∙ ap (λ (n : ℕ). n + cond (nat_eq other from) 1 0) (a.each to other there_to)
        ∙ step (nat_eq other from) (nat_eq from to) (times other (next_in lists to)) (times to next) (times to (next ++ at ∷ [])) apart more
      where
        step : (b c : Bool) (n m m' : ℕ) → c ≡ false → m' ≡ m + 1 → (n + cond (b && not c) m 0) + cond b 1 0 ≡ n + cond (b && not c) m' 0
        step b true n m m' e f = cc
        step true false n m m' e f = omega (arith, f)
        step false false n m m' e f = omega arith

    there : (to other : ℕ) → to < length lists → to ≢ at →
        times other (next_in (set lists' at (next_in lists' at ++ from ∷ [])) to)
        ≡ times other (next_in lists to) + cond (nat_eq other from && not (nat_eq from to)) (times to (next ++ at ∷ [])) 0
    there to other there_to ne' =
        let is : next_in (set lists' at (next_in lists' at ++ from ∷ [])) to
        ≡ next_in lists' to = get_or-set_other lists' at to (next_in lists' at ++ from ∷ []) [] ne' in
        let same : times to (next ++ at ∷ []) ≡ times to next =
        omega (arith, count_push (nat_eq to) next at, none_from (nat_eq to at) (ne_eqb to at ne')) in
        ap (times other) is ∙ a.each to other there_to ∙ ap
        (λ (n : ℕ). times other (next_in lists to) + cond (nat_eq other from && not (nat_eq from to)) n 0) (sym same)

-- what leads to each number, of the first numbers
pub record Gathered (edges : List (List ℕ)) (n : ℕ) (lists : List (List ℕ)) : Type 0 where
  pub long : length lists ≡ length edges
  pub each : (to from : ℕ) → to < length edges → times from (next_in lists to)
      ≡ cond (nat_lt from n) (cond (nat_eq from to) 0 (times to (next_in edges from))) 0

pub gathered_none : (edges : List (List ℕ)) (lists : List (List ℕ)) → lists ≡ replicate (length edges) [] → Gathered edges 0 lists
gathered_none edges lists e = record {
  long = ap length e ∙ length-replicate (length edges) [];
  each = λ to from low. ap (λ (ls : List (List ℕ)). times from (next_in ls to)) e ∙ ap (times from) (get_or-replicate (length edges) to [] [] low)
      ∙ sym (ap (λ (b : Bool). cond b (cond (nat_eq from to) 0 (times to (next_in edges from))) 0) (le-ltb from 0 (omega arith)));
}

pub gathered_more : (edges : List (List ℕ)) (n : ℕ) (lists lists' : List (List ℕ)) → Gathered edges n lists →
    AddsEdges n (next_in edges n) lists lists' → Gathered edges (n + 1) lists'
gathered_more edges n lists lists' g a = record {
  long = a.long ∙ g.long;
  each = λ to from low.
      a.each to from (omega (arith, g.long)) ∙ ap (λ (k : ℕ). k + cond (nat_eq from n && not (nat_eq n to)) (times to (next_in edges n)) 0)
      (g.each to from low)
      ∙ ⊎_elim (λ e. here to from e) (λ ne. there to from ne) (cases_eq from n);
}
  where
    here : (to from : ℕ) → from ≡ n
        → cond (nat_lt from n) (cond (nat_eq from to) 0 (times to (next_in edges from))) 0 + cond (nat_eq from n && not (nat_eq n to))
        (times to (next_in edges n)) 0
        ≡ cond (nat_lt from (n + 1)) (cond (nat_eq from to) 0 (times to (next_in edges from))) 0
    here to from e =
        let not_yet : nat_lt from n ≡ false = grind (arith, nat_tests) in
        let now : nat_lt from (n + 1) ≡ true = grind (arith, nat_tests) in
        let is : nat_eq from n ≡ true = eq-eqb from n e in
        let m : ℕ = times to (next_in edges from) in
        let same : times to (next_in edges n) ≡ m = ap (λ (k : ℕ). times to (next_in edges k)) (sym e) in
        let places : nat_eq n to ≡ nat_eq from to = ap (λ (k : ℕ). nat_eq k to) (sym e) in
        rw (not_yet, now, is, same, places) (step (nat_eq from to) m)
      where
        step : (b : Bool) (m : ℕ) → 0 + cond (not b) m 0 ≡ cond b 0 m
        step true m = refl
        step false m = omega arith

    there : (to from : ℕ) → from ≢ n
        → cond (nat_lt from n) (cond (nat_eq from to) 0 (times to (next_in edges from))) 0 + cond (nat_eq from n && not (nat_eq n to))
        (times to (next_in edges n)) 0
        ≡ cond (nat_lt from (n + 1)) (cond (nat_eq from to) 0 (times to (next_in edges from))) 0
    there to from ne =
        let is : nat_eq from n ≡ false = ne_eqb from n ne in
        let same : nat_lt from (n + 1) ≡ nat_lt from n = grind (arith, nat_tests) in
        rw (is, same) (omega arith)

pub gathered_all : (edges : List (List ℕ)) (lists : List (List ℕ)) → Gathered edges (length edges) lists → AreReversed edges lists
gathered_all edges lists g = record {
  long = g.long;
  each = λ from to low. g.each to from low ∙ ⊎_elim (λ lt. within to from lt) (λ ge. past to from ge) (cases_lt from (length edges));
}
  where
    within : (to from : ℕ) → from < length edges
        → cond (nat_lt from (length edges)) (cond (nat_eq from to) 0 (times to (next_in edges from))) 0
        ≡ cond (nat_eq from to) 0 (times to (next_in edges from))
    within to from lt = let t : nat_lt from (length edges) ≡ true = lt-ltb from (length edges) lt in rw t refl

    past : (to from : ℕ) → length edges ≤ from
        → cond (nat_lt from (length edges)) (cond (nat_eq from to) 0 (times to (next_in edges from))) 0
        ≡ cond (nat_eq from to) 0 (times to (next_in edges from))
    past to from ge =
        let t : nat_lt from (length edges) ≡ false = le-ltb from (length edges) ge in
        let none : next_in edges from ≡ [] = get_or_past edges from [] ge in
        rw (t, none) (step (nat_eq from to))
      where
        step : (b : Bool) → ◌≡◌ {A = ℕ} 0 (cond b 0 0)
        step true = refl
        step false = refl
