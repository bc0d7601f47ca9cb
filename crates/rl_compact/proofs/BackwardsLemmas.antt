-- Chains of a graph that is turned round.
use Rattle.std.proofs.Common.{◌≡◌, ◌≢◌, ℕ, ◌+◌, ◌<◌, List, [], ◌∷◌, ◌++◌, Bool, true, false, cond, length, nat_eq, refl, ap}
use Rattle.std.proofs.Common.{sym, subst, ◌∙◌, ⊎_elim, arith}
use Rattle.std.specs.Prelude.{Contains}
use Rattle.std.proofs.lemmas.Bool.{cases_eq, cases_lt, ne_eqb}
use Rattle.std.proofs.lemmas.List.{get_or_past}
use Rattle.std.proofs.lemmas.List.Elements.{Contains-push, Contains-push_cases, Contains-append_left}
use Rattle.rl_graph.specs.Graph.{next_in, marked, IsWithin, Walks, Reaches, ReachedFrom, MarksReached}
use Rattle.rl_graph.specs.Reversed.{times, AreReversed}
use Rattle.rl_graph.proofs.CountsLemmas.{counted_in, some_counted}
use Rattle.rl_graph.proofs.SpreadingLemmas.{further}
use Rattle.rl_graph.proofs.ToolsLemmas.{contains_none, contains_head, contains_one}
use Rattle.rl_compact.specs.Unresolved.{IsLooped, IsBad, AreBad, MarkUnresolved}

low_of : (lists : List (List ℕ)) (from to : ℕ) → Contains (next_in lists from) to → from < length lists
low_of lists from to c = ⊎_elim (λ lt. lt) (λ ge. absurd (contains_none to (subst (λ (xs : List ℕ). Contains xs to) (get_or_past lists from [] ge) c)))
    (cases_lt from (length lists))

-- an edge that is turned round was one,
edge_was : (lists back : List (List ℕ)) → AreReversed lists back → (from to : ℕ) → Contains (next_in back to) from →
    Contains (next_in lists from) to
edge_was lists back a from to c =
    let low : to < length lists = omega (arith, a.long, low_of back to from c) in
    some_counted to (next_in lists from) (λ z. counted_in from (next_in back to) (a.each from to low ∙ step (nat_eq from to) z) c)
  where
    step : (b : Bool) → times to (next_in lists from) ≡ 0 → cond b 0 (times to (next_in lists from)) ≡ 0
    step true z = refl
    step false z = z

-- and one that goes elsewhere is turned round
edge_back : (lists back : List (List ℕ)) → AreReversed lists back → IsWithin lists → (from to : ℕ) → from ≢ to →
    Contains (next_in lists from) to → Contains (next_in back to) from
edge_back lists back a within from to ne c =
    some_counted from (next_in back to) (λ z. counted_in to (next_in lists from)
    (sym (ap (λ (b : Bool). cond b 0 (times to (next_in lists from))) (ne_eqb from to ne)) ∙ sym (a.each from to (within from to c)) ∙ z) c)

pub back_within : (lists back : List (List ℕ)) → AreReversed lists back → IsWithin back
back_within lists back a to from c = omega (arith, a.long, low_of lists from to (edge_was lists back a from to c))

one_start : (lists : List (List ℕ)) (a b : ℕ) → Reaches lists a b → ReachedFrom lists (a ∷ []) b
one_start lists a b r = record { start = a; is_start = contains_head a []; walk = r }

reach_more : (lists : List (List ℕ)) (a b c : ℕ) → Reaches lists a b → Contains (next_in lists b) c → Reaches lists a c
reach_more lists a b c r e =
    let f = further lists (a ∷ []) b c (one_start lists a b r) e in
    subst (λ (x : ℕ). Reaches lists x c) (own f.start f.is_start) f.walk
  where
    own : (x : ℕ) → Contains (a ∷ []) x → x ≡ a
    own x c = sym (contains_one a x c)

pub chain_was : (lists back : List (List ℕ)) → AreReversed lists back → (b : ℕ) (chain : List ℕ) (a : ℕ) → Walks back b chain a →
    Reaches lists a b
chain_was lists back r b [] a w = ([], sym w)
chain_was lists back r b (x ∷ chain) a w = reach_more lists a x b (chain_was lists back r x chain a w.1) (edge_was lists back r x b w.0)

pub chain_back : (lists back : List (List ℕ)) → AreReversed lists back → IsWithin lists → (a : ℕ) (chain : List ℕ) (b : ℕ) →
    Walks lists a chain b → Reaches back b a
chain_back lists back r within a [] b w = ([], sym w)
chain_back lists back r within a (x ∷ chain) b w =
    let rest : Reaches back b x = chain_back lists back r within x chain b w.1 in
    ⊎_elim
    (λ e. subst (λ (y : ℕ). Reaches back b y) (sym e) rest)
    (λ ne. reach_more back b x a rest (edge_back lists back r within a x ne w.0))
    (cases_eq a x)

pub unresolved : (lists back : List (List ℕ)) (lacks : List Bool) (bad : List ℕ) (marks : List Bool) → AreReversed lists back → IsWithin lists →
    AreBad lists lacks (length lists) bad → MarksReached back bad marks → MarkUnresolved lists lacks marks
unresolved lists back lacks bad marks r within are m = record {
  long = m.long ∙ r.long;
  sound = λ number h.
      let f = m.reached number h in
      (f.start, chain_was lists back r f.start f.walk.0 number f.walk.1, (are.sound f.start f.is_start).1);
  complete = λ number b low reaches is.
      m.all number (record { start = b; is_start = are.complete b low is; walk = chain_back lists back r within number reaches.0 b reaches.1 });
}

-- ---- the bad numbers, one after another

pub bad_none : (lists : List (List ℕ)) (lacks : List Bool) → AreBad lists lacks 0 []
bad_none lists lacks = record { sound = λ number c. absurd (contains_none number c); complete = λ number low is. absurd (omega (arith, low)) }

pub bad_more : (lists : List (List ℕ)) (lacks : List Bool) (n : ℕ) (bad : List ℕ) → AreBad lists lacks n bad → IsBad lists lacks n →
    AreBad lists lacks (n + 1) (bad ++ n ∷ [])
bad_more lists lacks n bad a is = record {
  sound = λ number c. ⊎_elim
      (λ d. let s = a.sound number d in (omega (arith, s.0), s.1))
      (λ e. (omega (arith, e), subst (λ (k : ℕ). IsBad lists lacks k) e is))
      (Contains-push_cases bad n number c);
  complete = λ number low b. ⊎_elim
      (λ lt. Contains-append_left bad (n ∷ []) number (a.complete number lt b))
      (λ ge. let e : n ≡ number = omega (arith, low, ge) in subst (λ (k : ℕ). Contains (bad ++ n ∷ []) k) e (Contains-push bad n))
      (cases_lt number n);
}

pub bad_same : (lists : List (List ℕ)) (lacks : List Bool) (n : ℕ) (bad : List ℕ) → AreBad lists lacks n bad → (IsBad lists lacks n → ⊥) →
    AreBad lists lacks (n + 1) bad
bad_same lists lacks n bad a not = record {
  sound = λ number c. let s = a.sound number c in (omega (arith, s.0), s.1);
  complete = λ number low b. ⊎_elim
      (λ lt. a.complete number lt b)
      (λ ge. let e : number ≡ n = omega (arith, low, ge) in absurd (not (subst (λ (k : ℕ). IsBad lists lacks k) e b)))
      (cases_lt number n);
}

-- ---- one number

pub looped_by : (lists : List (List ℕ)) (number : ℕ) (next : List ℕ) (given marks : List Bool) (b : Bool) → next ≡ next_in lists number →
    given ≡ marks → MarksReached lists next marks → b ≡ marked given number
    → (b ≡ true → IsLooped lists number) × (IsLooped lists number → b ≡ true)
looped_by lists number next given marks b e f m g =
    let m' : MarksReached lists (next_in lists number) marks = subst (λ (xs : List ℕ). MarksReached lists xs marks) e m in
    let is : b ≡ marked marks number = g ∙ ap (λ (ms : List Bool). marked ms number) f in
    ((λ h. m'.reached number (sym is ∙ h)), (λ l. is ∙ m'.all number l))
