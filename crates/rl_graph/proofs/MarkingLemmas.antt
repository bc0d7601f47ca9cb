-- Marks, and the list of what is marked.
use Rattle.std.proofs.Common.{◌≡◌, ◌≢◌, ℕ, ◌+◌, ◌<◌, ◌≤◌, List, [], ◌∷◌, ◌++◌, ◌⊎◌, Bool, true, false, cond, length}
use Rattle.std.proofs.Common.{take, set, get_or, ap, sym, subst, ◌∙◌, inl, inr, ⊎_elim, arith, length-append}
use Rattle.std.specs.Prelude.{Contains, count_by}
use Rattle.std.proofs.lemmas.Bool.{both_ways, cases_eq, cases_lt}
use Rattle.std.proofs.lemmas.Grind.{common_steps}
use Rattle.std.proofs.lemmas.List.{get_or_past, get_or-set_same, get_or-set_other}
use Rattle.std.proofs.lemmas.List.Elements.{Contains-append_left, Contains-push, Contains-push_cases}
use Rattle.std.proofs.lemmas.List.Sums.{sum_by-set, count_by-le-length}
use Rattle.rl_graph.proofs.ToolsLemmas.{contains_head, contains_none, contains_one}
use Rattle.rl_graph.specs.Graph.{marked}
use Rattle.rl_graph.specs.Marks.{AreMarked, Marks}

-- what is marked has a place
pub marked_low : (marks : List Bool) (number : ℕ) → marked marks number ≡ true → number < length marks
marked_low marks number h = ⊎_elim (λ lt. lt) (λ ge. absurd (both_ways (marked marks number) (get_or_past marks number false ge) h))
    (cases_lt number (length marks))

pub set_here : (marks : List Bool) (number : ℕ) → number < length marks → marked (set marks number true) number ≡ true
set_here marks number low = get_or-set_same marks number true false low

pub set_other : (marks : List Bool) (number other : ℕ) → other ≢ number → marked (set marks number true) other ≡ marked marks other
set_other marks number other ne = get_or-set_other marks number other true false ne

pub set_keeps : (marks : List Bool) (number other : ℕ) → number < length marks → marked marks other ≡ true →
    marked (set marks number true) other ≡ true
set_keeps marks number other low h = ⊎_elim
    (λ e. subst (λ (k : ℕ). marked (set marks number true) k ≡ true) (sym e) (set_here marks number low))
    (λ ne. set_other marks number other ne ∙ h)
    (cases_eq other number)

pub set_cases : (marks : List Bool) (number other : ℕ) → marked (set marks number true) other ≡ true →
    (other ≡ number) ⊎ (marked marks other ≡ true)
set_cases marks number other h = ⊎_elim (λ e. inl e) (λ ne. inr (sym (set_other marks number other ne) ∙ h)) (cases_eq other number)

-- one mark more
pub count_more : (marks : List Bool) (number : ℕ) → number < length marks → marked marks number ≡ false →
    count_by (λ mark. mark) (set marks number true) ≡ count_by (λ mark. mark) marks + 1
count_more marks number low h =
    let gone : ◌≡◌ {A = ℕ} (cond (get_or marks number false) 1 0) 0 = ap (λ (b : Bool). cond b 1 0) h in
    omega (arith, sum_by-set (λ (mark : Bool). cond mark 1 0) marks number true false low, gone)

-- where one is not marked they are fewer than there are places
pub count_below : (marks : List Bool) (number : ℕ) → number < length marks → marked marks number ≡ false →
    count_by (λ mark. mark) marks < length marks
count_below marks number low h =
    let long : length (set marks number true) ≡ length marks = grind (arith, common_steps) in
    omega (arith, count_more marks number low h, count_by-le-length (λ (mark : Bool). mark) (set marks number true), long)

pub marks_more : (marks : List Bool) (found : List ℕ) (number : ℕ) → AreMarked marks found → number < length marks → marked marks number ≡ false →
    AreMarked (set marks number true) (found ++ number ∷ [])
marks_more marks found number m low h = record {
  sound = λ other c. ⊎_elim (λ d. set_keeps marks number other low (m.sound other d))
      (λ e. subst (λ (k : ℕ). marked (set marks number true) k ≡ true) e (set_here marks number low)) (Contains-push_cases found number other c);
  complete = λ other d. ⊎_elim
      (λ e. subst (λ (k : ℕ). Contains (found ++ number ∷ []) k) (sym e) (Contains-push found number))
      (λ d. Contains-append_left found (number ∷ []) other (m.complete other d))
      (set_cases marks number other d);
  count = omega (arith, length-append found (number ∷ []), m.count, count_more marks number low h);
}

pub adds_none : (marks : List Bool) (found : List ℕ) → Marks [] marks marks found found
adds_none marks found = record {
  keeps = λ number h. h;
  all = λ number c. absurd (contains_none number c);
  only = λ number h. inl h;
  front = grind (arith, common_steps);
  grows = omega arith;
}

pub adds_one : (marks : List Bool) (found : List ℕ) (number : ℕ) → number < length marks →
    Marks (number ∷ []) marks (set marks number true) found (found ++ number ∷ [])
adds_one marks found number low = record {
  keeps = λ other h. set_keeps marks number other low h;
  all = λ other c. subst (λ (k : ℕ). marked (set marks number true) k ≡ true) (contains_one number other c) (set_here marks number low);
  only = λ other h. ⊎_elim (λ e. inr (subst (λ (k : ℕ). Contains (number ∷ []) k) (sym e) (contains_head number []))) (λ d. inl d)
      (set_cases marks number other h);
  front = grind (arith, common_steps);
  grows = omega (arith, length-append found (number ∷ []));
}

pub adds_marked : (marks : List Bool) (found : List ℕ) (number : ℕ) → marked marks number ≡ true → Marks (number ∷ []) marks marks found found
adds_marked marks found number h = record {
  keeps = λ other m. m;
  all = λ other c. subst (λ (k : ℕ). marked marks k ≡ true) (contains_one number other c) h;
  only = λ other m. inl m;
  front = grind (arith, common_steps);
  grows = omega arith;
}

pub take_take : (n m : ℕ) (xs : List ℕ) → n ≤ m → take n (take m xs) ≡ take n xs
take_take n m xs h = grind (arith, common_steps)

pub adds_more : (next : List ℕ) (number : ℕ) (a b c : List Bool) (xs ys zs : List ℕ) → Marks next a b xs ys → Marks (number ∷ []) b c ys zs →
    Marks (next ++ number ∷ []) a c xs zs
adds_more next number a b c xs ys zs v w = record {
  keeps = λ other h. w.keeps other (v.keeps other h);
  all = λ other h. ⊎_elim (λ d. w.keeps other (v.all other d)) (λ e. subst (λ (k : ℕ). marked c k ≡ true) e (w.all number (contains_head number [])))
      (Contains-push_cases next number other h);
  only = λ other h. ⊎_elim
      (λ d. ⊎_elim (λ e. inl e) (λ e. inr (Contains-append_left next (number ∷ []) other e)) (v.only other d))
      (λ d. inr (subst (λ (k : ℕ). Contains (next ++ number ∷ []) k) (contains_one number other d) (Contains-push next number)))
      (w.only other h);
  front = sym (take_take (length xs) (length ys) zs v.grows) ∙ ap (take (length xs)) w.front ∙ v.front;
  grows = omega (arith, v.grows, w.grows);
}
