-- How marks spread along lists.
use Rattle.std.proofs.Common.{◌≡◌, ℕ, ◌+◌, ◌<◌, ◌≤◌, ◌⊎◌, List, [], ◌∷◌, ◌++◌, Bool, true, false, length, take, get_or}
use Rattle.std.proofs.Common.{replicate, refl, ap, sym, subst, ◌∙◌, inl, inr, ⊎_elim, arith}
use Rattle.std.specs.Prelude.{Contains}
use Rattle.std.proofs.lemmas.Bool.{both_ways, cases_lt}
use Rattle.std.proofs.lemmas.List.{get_or_default, get_or-take}
use Rattle.std.proofs.lemmas.List.Elements.{Contains-get_or}
use Rattle.std.proofs.lemmas.Grind.{common_steps}
use Rattle.std.proofs.lemmas.List.Sums.{count_by-le-length}
use Rattle.rl_graph.specs.Graph.{next_in, marked, Walks, ReachedFrom, MarksReached}
use Rattle.rl_graph.specs.Marks.{AreMarked, IsClosed, Marks, Spreads}
use Rattle.rl_graph.proofs.MarkingLemmas.{marked_low}

-- A walk so far, which began with these marks and starts: what the first of the marked numbers lead to is marked.
pub record Spreading (lists : List (List ℕ)) (starts : List ℕ) (before marks : List Bool) (found : List ℕ) (at : ℕ) : Type 0 where
  pub are_marked : AreMarked marks found
  pub long : length marks ≡ length lists
  pub reached : at ≤ length found
  pub begins : (number : ℕ) → Contains starts number → marked marks number ≡ true
  pub keeps : (number : ℕ) → marked before number ≡ true → marked marks number ≡ true
  pub closed : (i next : ℕ) → i < at → Contains (next_in lists (get_or found i 0)) next → marked marks next ≡ true
  pub only : (number : ℕ) → marked marks number ≡ true → (marked before number ≡ true) ⊎ ReachedFrom lists starts number

pub few : (lists : List (List ℕ)) (starts : List ℕ) (before marks : List Bool) (found : List ℕ) (at : ℕ) →
    Spreading lists starts before marks found at → length found ≤ length lists
few lists starts before marks found at s = omega (arith, s.are_marked.count, s.long, count_by-le-length (λ (mark : Bool). mark) marks)

-- one step more
walks_more : (lists : List (List ℕ)) (chain : List ℕ) (a b c : ℕ) → Walks lists a chain b → Contains (next_in lists b) c →
    Walks lists a (chain ++ c ∷ []) c
walks_more lists [] a b c w e = (subst (λ (x : ℕ). Contains (next_in lists x) c) (sym w) e, refl)
walks_more lists (x ∷ chain) a b c w e = (w.0, walks_more lists chain x b c w.1 e)

pub further : (lists : List (List ℕ)) (starts : List ℕ) (b c : ℕ) → ReachedFrom lists starts b → Contains (next_in lists b) c →
    ReachedFrom lists starts c
further lists starts b c f e = record {
  start = f.start;
  is_start = f.is_start;
  walk =
      (f.walk.0 ++ c ∷ [], walks_more lists f.walk.0 f.start b c f.walk.1 e);
}

read_front : (xs ys : List ℕ) (i : ℕ) → take (length xs) ys ≡ xs → i < length xs → get_or ys i 0 ≡ get_or xs i 0
read_front xs ys i front low = sym (get_or-take (length xs) ys i 0 low) ∙ ap (λ (zs : List ℕ). get_or zs i 0) front

pub spreading_begun : (lists : List (List ℕ)) (starts : List ℕ) (before marks : List Bool) (found found' : List ℕ) → length before ≡ length lists →
    length marks ≡ length before → IsClosed lists before → AreMarked before found
    → AreMarked marks found' → Marks starts before marks found found' → Spreading lists starts before marks found' (length found)
spreading_begun lists starts before marks found found' long same closed was now adds = record {
  are_marked = now;
  long = same ∙ long;
  reached = adds.grows;
  begins = adds.all;
  keeps = adds.keeps;
  closed = λ i next low c.
      let e : get_or found' i 0 ≡ get_or found i 0 = read_front found found' i adds.front low in
      adds.keeps next (closed (get_or found i 0) next (was.sound (get_or found i 0) (Contains-get_or found i 0 low))
      (subst (λ (k : ℕ). Contains (next_in lists k) next) e c));
  only = λ number m. ⊎_elim
      (λ d. inl d)
      (λ c. inr (record { start = number; is_start = c; walk = ([], refl) }))
      (adds.only number m);
}

pub spreading_more : (lists : List (List ℕ)) (starts : List ℕ) (before marks marks' : List Bool) (found found' : List ℕ) (at number : ℕ) →
    IsClosed lists before → Spreading lists starts before marks found at → at < length found
    → number ≡ get_or found at 0 → length marks' ≡ length marks → AreMarked marks' found' →
    Marks (next_in lists number) marks marks' found found' → Spreading lists starts before marks' found' (at + 1)
spreading_more lists starts before marks marks' found found' at number closed s low is same now adds = record {
  are_marked = now;
  long = same ∙ s.long;
  reached = omega (arith, adds.grows);
  begins = λ other h. adds.keeps other (s.begins other h);
  keeps = λ other h. adds.keeps other (s.keeps other h);
  closed = λ i next lt c.
      let e : get_or found' i 0 ≡ get_or found i 0 = read_front found found' i adds.front (omega (arith, lt, low)) in
      let c' : Contains (next_in lists (get_or found i 0)) next = subst (λ (k : ℕ). Contains (next_in lists k) next) e c in
      ⊎_elim
      (λ below. adds.keeps next (s.closed i next below c'))
      (λ above. let here : i ≡ at = omega (arith, lt, above) in
      adds.all next (subst (λ (k : ℕ). Contains (next_in lists k) next) (ap (λ (j : ℕ). get_or found j 0) here ∙ sym is) c'))
      (cases_lt i at);
  only = λ other m. ⊎_elim
      (λ d. s.only other d)
      (λ c. ⊎_elim
      (λ d. inl (closed number other d c))
      (λ d. inr (further lists starts number other d c))
      (s.only number (s.are_marked.sound number (subst (λ (k : ℕ). Contains found k) (sym is) (Contains-get_or found at 0 low)))))
      (adds.only other m);
}

pub spreading_done : (lists : List (List ℕ)) (starts : List ℕ) (before marks : List Bool) (found : List ℕ) (at : ℕ) →
    Spreading lists starts before marks found at → length found ≤ at → Spreads lists starts before marks
spreading_done lists starts before marks found at s end = record {
  begins = s.begins;
  keeps = s.keeps;
  closed = λ number next m c.
      let d = s.are_marked.complete number m in
      let e : get_or found d.0 0 ≡ number = get_or_default found d.0 0 number d.1 ∙ d.2 in
      s.closed d.0 next (omega (arith, d.1, end)) (subst (λ (k : ℕ). Contains (next_in lists k) next) (sym e) c);
  only = s.only;
}

-- what is read of the marked numbers has a list
pub read_there : (lists : List (List ℕ)) (starts : List ℕ) (before marks : List Bool) (found : List ℕ) (at number : ℕ) →
    Spreading lists starts before marks found at → at < length found → number ≡ get_or found at number → number < length lists
read_there lists starts before marks found at number s low is =
    omega (
      arith,
      s.long,
      marked_low marks number (s.are_marked.sound number
          (subst (λ (k : ℕ). Contains found k) (sym is) (Contains-get_or found at number low))),
    )

-- ---- from no marks on

pub none_marked : (n number : ℕ) → marked (replicate n false) number ≡ true → ⊥
none_marked n number h = both_ways (marked (replicate n false) number) (none n number) h
  where
    none : (n number : ℕ) → marked (replicate n false) number ≡ false
    none n number = grind (arith, common_steps)

-- the test passes at what a number leads to where it passes at the number
abbrev pub PassesOn : List (List ℕ) → (ℕ → Bool) → Type 0
PassesOn lists test = (from to : ℕ) → test from ≡ true → Contains (next_in lists from) to → test to ≡ true

-- so it passes along a chain
pub passes_along : (lists : List (List ℕ)) (test : ℕ → Bool) → PassesOn lists test → (chain : List ℕ) (a b : ℕ) → test a ≡ true →
    Walks lists a chain b → test b ≡ true
passes_along lists test on [] a b h w = subst (λ (x : ℕ). test x ≡ true) w h
passes_along lists test on (x ∷ chain) a b h w = passes_along lists test on chain x b (on a x h w.0) w.1

pub all_reached : (lists : List (List ℕ)) (starts : List ℕ) (before marks : List Bool) → length marks ≡ length lists →
    ((number : ℕ) → marked before number ≡ true → ⊥) → Spreads lists starts before marks → MarksReached lists starts marks
all_reached lists starts before marks long none s = record {
  long = long;
  reached = λ number m. ⊎_elim (λ d. absurd (none number d)) (λ r. r) (s.only number m);
  all = λ number r. passes_along lists (marked marks) s.closed r.walk.0 r.start number (s.begins r.start r.is_start) r.walk.1;
}
