-- How failures are passed on: the rows whose failure is to be passed on are linked by their marks.
use Rattle.std.proofs.Common.{◌≡◌, ◌≢◌, ℕ, suc, ◌+◌, ◌<◌, ◌≤◌, ◌⊎◌, List, [], ◌∷◌, ◌++◌, Bool, true, false, cond}
use Rattle.std.proofs.Common.{length, set, Option, Some, None, refl, ap, sym, subst, ◌∙◌, inl, inr, ⊎_elim, append_assoc, option_map, arith}
use Rattle.std.proofs.Common.{length-append}
use Rattle.std.specs.Prelude.{All, Contains, count_by, slice_get, sum_by}
use Rattle.std.proofs.lemmas.Bool.{both_ways, ne_eqb, eq-eqb}
use Rattle.std.proofs.lemmas.List.{length-map, length-set, map-set}
use Rattle.std.proofs.lemmas.List.Elements.{Contains-append_left, Contains-append_right, Contains-append_cases}
use Rattle.std.proofs.lemmas.List.Sums.{sum_by-append, count_by-le-length}
use Rattle.std.proofs.lemmas.Option.{get_or_from_slice_get, slice_get-get_or, slice_get-map, slice_get_within}
use Rattle.rl_graph.specs.Graph.{next_in, marked, ReachedFrom}
use Rattle.rl_graph.specs.Marks.{IsClosed, Spreads}
use Rattle.rl_graph.proofs.MarkingLemmas.{count_more, set_cases, set_here, set_keeps}
use Rattle.rl_graph.proofs.SpreadingLemmas.{further}
use Rattle.rl_graph.proofs.ToolsLemmas.{contains_cases, contains_head, contains_none, contains_one}
use Rattle.rl_states.specs.declared.cell.Mark.{Mark}
use Rattle.rl_states.specs.Spoiled.{AreLinked, all_pushed, left, pushed, spoiled_in}
use Rattle.rl_states.proofs.CostsLemmas.{left_set}
use Rattle.rl_states.proofs.StandingsLemmas.{set_place}

-- what is read of a row
pub read_mark : (marks : List Mark) (row : ℕ) (mark : Mark) → slice_get marks row ≡ Some mark → slice_get (spoiled_in marks) row ≡ Some mark.spoiled
read_mark marks row mark e = slice_get-map (λ (m : Mark). m.spoiled) marks row ∙ ap (λ (o : Option Mark). option_map (λ (m : Mark). m.spoiled) o) e

pub mark_says : (marks : List Mark) (row : ℕ) (mark : Mark) → slice_get marks row ≡ Some mark → marked (spoiled_in marks) row ≡ mark.spoiled
mark_says marks row mark e = get_or_from_slice_get (spoiled_in marks) row mark.spoiled false (read_mark marks row mark e)

-- a row that was not noted is in no chain of rows that are
linked_set : (marks : List Mark) (row : ℕ) (mark : Mark) (head : Option ℕ) (rows : List ℕ) → row < length marks →
    marked (spoiled_in marks) row ≡ false → AreLinked marks head rows → AreLinked (set marks row mark) head rows
linked_set marks row mark head [] low off l = l
linked_set marks row mark head (first ∷ rows) low off l =
    let other : first ≢ row = λ e. both_ways (marked (spoiled_in marks) first) (ap (marked (spoiled_in marks)) e ∙ off)
    (mark_says marks first l.1.0 l.1.1 ∙ l.1.2) in
    let there : slice_get (set marks row mark) first ≡ Some l.1.0 = set_place marks row mark first low
    ∙ ap (λ (b : Bool). cond b (Some mark) (slice_get marks first)) (ne_eqb first row other) ∙ l.1.1 in
    (l.0, (l.1.0, there, l.1.2, linked_set marks row mark l.1.0.next rows low off l.1.3))

-- ---- rows that are pushed

-- what pushing these rows does: those that were not noted are noted, each once, and linked before the others
pub record Pushes (rows : List ℕ) (marks marks' : List Mark) (head' : Option ℕ) (pending : List ℕ) : Type 0 where
  pub added : List ℕ
  pub linked : AreLinked marks' head' (added ++ pending)
  pub long : length marks' ≡ length marks
  pub keeps : (row : ℕ) → marked (spoiled_in marks) row ≡ true → marked (spoiled_in marks') row ≡ true
  pub all : (row : ℕ) → Contains rows row → marked (spoiled_in marks') row ≡ true
  pub only : (row : ℕ) → marked (spoiled_in marks') row ≡ true → (marked (spoiled_in marks) row ≡ true) ⊎ Contains rows row
  pub fresh : (row : ℕ) → marked (spoiled_in marks') row ≡ true → (marked (spoiled_in marks) row ≡ true) ⊎ Contains added row
  pub counted : length added + count_by (λ mark. mark) (spoiled_in marks) ≡ count_by (λ mark. mark) (spoiled_in marks')
  pub weighed : (f : ℕ → ℕ) → sum_by f added + left f (spoiled_in marks') ≡ left f (spoiled_in marks)

pushes_none : (marks : List Mark) (head : Option ℕ) (pending : List ℕ) → AreLinked marks head pending → Pushes [] marks marks head pending
pushes_none marks head pending l = record {
  added = [];
  linked = l;
  long = refl;
  keeps = λ row h. h;
  all = λ row c. absurd (contains_none row c);
  only = λ row h. inl h;
  fresh = λ row h. inl h;
  counted = omega arith;
  weighed = λ f. omega arith;
}

-- one that was noted
pushes_noted : (marks : List Mark) (head : Option ℕ) (pending : List ℕ) (row : ℕ) → AreLinked marks head pending →
    marked (spoiled_in marks) row ≡ true → Pushes (row ∷ []) marks marks head pending
pushes_noted marks head pending row l on = record {
  added = [];
  linked = l;
  long = refl;
  keeps = λ other h. h;
  all = λ other c. subst (λ (k : ℕ). marked (spoiled_in marks) k ≡ true) (contains_one row other c) on;
  only = λ other h. inl h;
  fresh = λ other h. inl h;
  counted = omega arith;
  weighed = λ f. omega arith;
}

-- one that was not
pushes_new : (marks : List Mark) (head : Option ℕ) (pending : List ℕ) (row : ℕ) → row < length marks → AreLinked marks head pending →
    marked (spoiled_in marks) row ≡ false
    → Pushes (row ∷ []) marks (set marks row (record { spoiled = true; next = head })) (Some row) pending
pushes_new marks head pending row low l off = record {
  added = row ∷ [];
  linked = (refl, (noted, here, refl, linked_set marks row noted head pending low off l));
  long = length-set marks row noted;
  keeps = λ other h. subst (λ (bits : List Bool). marked bits other ≡ true) (sym bits) (set_keeps (spoiled_in marks) row other inside h);
  all = λ other c. subst (λ (bits : List Bool). marked bits other ≡ true) (sym bits)
      (subst (λ (k : ℕ). marked (set (spoiled_in marks) row true) k ≡ true) (contains_one row other c) (set_here (spoiled_in marks) row inside));
  only = λ other h. cases other h;
  fresh = λ other h. cases other h;
  counted = omega (arith, ap (count_by (λ (mark : Bool). mark)) bits, count_more (spoiled_in marks) row inside off);
  weighed = λ f. omega (arith, ap (left f) bits, left_set f (spoiled_in marks) row unset inside);
}
  where
    noted : Mark
    noted = record { spoiled = true; next = head }

    here : slice_get (set marks row noted) row ≡ Some noted
    here = set_place marks row noted row low ∙ ap (λ (b : Bool). cond b (Some noted) (slice_get marks row)) (eq-eqb row row refl)

    bits : spoiled_in (set marks row noted) ≡ set (spoiled_in marks) row true
    bits = map-set (λ (m : Mark). m.spoiled) marks row noted

    inside : row < length (spoiled_in marks)
    inside = omega (arith, low, length-map marks (λ (m : Mark). m.spoiled))

    unset : slice_get (spoiled_in marks) row ≡ Some false
    unset = slice_get-get_or (spoiled_in marks) row false inside ∙ ap Some off

    cases : (other : ℕ) → marked (spoiled_in (set marks row noted)) other ≡ true →
        (marked (spoiled_in marks) other ≡ true) ⊎ Contains (row ∷ []) other
    cases other h = ⊎_elim
        (λ is. inr (subst (λ (k : ℕ). Contains (row ∷ []) k) (sym is) (contains_head row [])))
        (λ was. inl was)
        (set_cases (spoiled_in marks) row other (subst (λ (bs : List Bool). marked bs other ≡ true) bits h))

pub pushes_one : (marks : List Mark) (head : Option ℕ) (pending : List ℕ) (row : ℕ) → row < length marks → AreLinked marks head pending
    → Pushes (row ∷ []) marks (pushed (marks, head) row).0 (pushed (marks, head) row).1 pending
pushes_one marks head pending row low l = step (marked (spoiled_in marks) row) refl
  where
    step : (b : Bool) → marked (spoiled_in marks) row ≡ b
        → Pushes (row ∷ []) marks (let state : List Mark
        × Option ℕ = cond b (marks, head) (set marks row (record { spoiled = true; next = head }), Some row) in state.0)
        (let state : List Mark × Option ℕ = cond b (marks, head) (set marks row (record { spoiled = true; next = head }), Some row) in state.1) pending
    step true e = pushes_noted marks head pending row l e
    step false e = pushes_new marks head pending row low l e

-- some rows, and then more
pushes_more : (xs ys : List ℕ) (a b c : List Mark) (head head' : Option ℕ) (pending : List ℕ) (p : Pushes xs a b head pending) →
    Pushes ys b c head' (p.added ++ pending) → Pushes (xs ++ ys) a c head' pending
pushes_more xs ys a b c head head' pending p q = record {
  added = q.added ++ p.added;
  linked = subst (λ (rows : List ℕ). AreLinked c head' rows) (sym (append_assoc q.added p.added pending)) q.linked;
  long = q.long ∙ p.long;
  keeps = λ row h. q.keeps row (p.keeps row h);
  all = λ row h. ⊎_elim (λ d. q.keeps row (p.all row d)) (λ d. q.all row d) (Contains-append_cases xs ys row h);
  only = λ row h. ⊎_elim
      (λ d. ⊎_elim (λ e. inl e) (λ e. inr (Contains-append_left xs ys row e)) (p.only row d))
      (λ d. inr (Contains-append_right xs ys row d))
      (q.only row h);
  fresh = λ row h. ⊎_elim
      (λ d. ⊎_elim (λ e. inl e) (λ e. inr (Contains-append_right q.added p.added row e)) (p.fresh row d))
      (λ d. inr (Contains-append_left q.added p.added row d))
      (q.fresh row h);
  counted = omega (arith, length-append q.added p.added, p.counted, q.counted);
  weighed = λ f. omega (arith, sum_by-append f q.added p.added, p.weighed f, q.weighed f);
}

pub pushes_all : (rows : List ℕ) (marks : List Mark) (head : Option ℕ) (pending : List ℕ) → All (λ row. row < length marks) rows →
    AreLinked marks head pending
    → Pushes rows marks (all_pushed (marks, head) rows).0 (all_pushed (marks, head) rows).1 pending
pushes_all [] marks head pending low l = pushes_none marks head pending l
pushes_all (row ∷ rows) marks head pending low l =
    let p : Pushes (row ∷ []) marks (pushed (marks, head) row).0 (pushed (marks, head) row).1 pending =
    pushes_one marks head pending row (low 0 0 (omega arith)) l in
    pushes_more (row ∷ []) rows marks (pushed (marks, head) row).0 (all_pushed (marks, head) (row ∷ rows)).0 (pushed (marks, head) row).1
    (all_pushed (marks, head) (row ∷ rows)).1 pending p
    (pushes_all rows (pushed (marks, head) row).0 (pushed (marks, head) row).1 (p.added ++ pending)
    (λ k d inside. omega (arith, low (suc k) d (omega (arith, inside)), p.long)) p.linked)

-- ---- the rows that are passed on, one after another

-- How far it came: each row that is noted has all that need it noted too, or its failure is to be passed on.
pub record Passing (lists : List (List ℕ)) (start : ℕ) (before : List Bool) (marks : List Mark) (head : Option ℕ) (pending : List ℕ) (turn : ℕ) : Type
    0 where
  pub linked : AreLinked marks head pending
  pub long : length marks ≡ length lists
  pub begins : marked (spoiled_in marks) start ≡ true
  pub keeps : (row : ℕ) → marked before row ≡ true → marked (spoiled_in marks) row ≡ true
  pub closed : (row user : ℕ) → marked (spoiled_in marks) row ≡ true → Contains (next_in lists row) user →
      (marked (spoiled_in marks) user ≡ true) ⊎ Contains pending row
  pub only : (row : ℕ) → marked (spoiled_in marks) row ≡ true → (marked before row ≡ true) ⊎ ReachedFrom lists (start ∷ []) row
  pub counted : turn + length pending + count_by (λ mark. mark) before ≡ count_by (λ mark. mark) (spoiled_in marks)

pub passing_begun : (lists : List (List ℕ)) (start : ℕ) (marks marks' : List Mark) (head : Option ℕ) → length marks ≡ length lists →
    IsClosed lists (spoiled_in marks) → (p : Pushes (start ∷ []) marks marks' head [])
    → Passing lists start (spoiled_in marks) marks' head (p.added ++ []) 0
passing_begun lists start marks marks' head long closed p = record {
  linked = p.linked;
  long = p.long ∙ long;
  begins = p.all start (contains_head start []);
  keeps = p.keeps;
  closed = λ row user h c. ⊎_elim (λ was. inl (p.keeps user (closed row user was c))) (λ d. inr (Contains-append_left p.added [] row d)) (p.fresh row h);
  only = λ row h. ⊎_elim (λ was. inl was) (λ d. inr (record { start = row; is_start = d; walk = ([], refl) })) (p.only row h);
  counted = omega (arith, length-append {A = ℕ} p.added [], p.counted);
}

-- the first of those rows is passed on
pub passing_more : (lists : List (List ℕ)) (start : ℕ) (before : List Bool) (marks marks' : List Mark) (head head' : Option ℕ) (turn row : ℕ)
    (pending rest : List ℕ) → IsClosed lists before
    → Passing lists start before marks head pending turn → marked (spoiled_in marks) row ≡ true → pending ≡ row ∷ rest →
    (q : Pushes (next_in lists row) marks marks' head' rest)
    → Passing lists start before marks' head' (q.added ++ rest) (turn + 1)
passing_more lists start before marks marks' head head' turn row pending rest closed p noted is q = record {
  linked = q.linked;
  long = q.long ∙ p.long;
  begins = q.keeps start p.begins;
  keeps = λ other h. q.keeps other (p.keeps other h);
  closed = λ other user h c. ⊎_elim
      (λ was. ⊎_elim
      (λ d. inl (q.keeps user d))
      (λ d. ⊎_elim
      (λ e. inl (q.all user (subst (λ (k : ℕ). Contains (next_in lists k) user) (sym e) c)))
      (λ e. inr (Contains-append_right q.added rest other e))
      (contains_cases row rest other (subst (λ (xs : List ℕ). Contains xs other) is d)))
      (p.closed other user was c))
      (λ d. inr (Contains-append_left q.added rest other d))
      (q.fresh other h);
  only = λ other h. ⊎_elim
      (λ was. p.only other was)
      (λ d. ⊎_elim
      (λ was. inl (closed row other was d))
      (λ r. inr (further lists (start ∷ []) row other r d))
      (p.only row noted))
      (q.only other h);
  counted = omega (arith, length-append q.added rest, q.counted, p.counted, ap length is);
}

-- none is left to be passed on
pub passing_done : (lists : List (List ℕ)) (start : ℕ) (before : List Bool) (marks : List Mark) (head : Option ℕ) (pending : List ℕ) (turn : ℕ) →
    Passing lists start before marks head pending turn → pending ≡ [] → Spreads lists (start ∷ []) before (spoiled_in marks)
passing_done lists start before marks head pending turn p is = record {
  begins = λ row c. subst (λ (k : ℕ). marked (spoiled_in marks) k ≡ true) (contains_one start row c) p.begins;
  keeps = p.keeps;
  closed = λ row user h c. ⊎_elim (λ d. d) (λ d. absurd (contains_none row (subst (λ (xs : List ℕ). Contains xs row) is d))) (p.closed row user h c);
  only = p.only;
}

-- the first of the rows that are linked
linked_none : (marks : List Mark) (rows : List ℕ) → AreLinked marks None rows → rows ≡ []
linked_none marks [] l = refl
linked_none marks (row ∷ rows) l = let e : None ≡ Some row = l.0 in cc

pub none_pending : (marks : List Mark) (head : Option ℕ) (pending : List ℕ) → AreLinked marks head pending → head ≡ None → pending ≡ []
none_pending marks head pending linked e = linked_none marks pending (subst (λ (o : Option ℕ). AreLinked marks o pending) e linked)

-- after as many turns as there are rows none is left
pub all_passed : (lists : List (List ℕ)) (start : ℕ) (before : List Bool) (marks : List Mark) (head : Option ℕ) (pending : List ℕ) (turn : ℕ) →
    Passing lists start before marks head pending turn → length marks ≤ turn → pending ≡ []
all_passed lists start before marks head pending turn p end = step pending refl
  where
    step : (rows : List ℕ) → pending ≡ rows → pending ≡ []
    step [] e = e
    step (row ∷ rows) e =
        let few : count_by (λ (mark : Bool). mark) (spoiled_in marks) ≤ length (spoiled_in marks) =
        count_by-le-length (λ (mark : Bool). mark) (spoiled_in marks) in
        absurd (omega (arith, few, length-map marks (λ (m : Mark). m.spoiled), p.counted, ap length e, end))

-- one is left, and its mark leads on
pub record Next (marks : List Mark) (row : ℕ) (mark : Mark) (pending : List ℕ) : Type 0 where
  pub rest : List ℕ
  pub is : pending ≡ row ∷ rest
  pub noted : marked (spoiled_in marks) row ≡ true
  pub linked : AreLinked marks mark.next rest

pub first_row : (marks : List Mark) (row : ℕ) (pending : List ℕ) → AreLinked marks (Some row) pending → row < length marks
first_row marks row [] l = let e : Some row ≡ None = l in cc
first_row marks row (first ∷ rest) l = let e : Some row ≡ Some first = l.0 in let same : row
    ≡ first = cc in omega (arith, same, slice_get_within marks first l.1.0 l.1.1)

pub next_of : (marks : List Mark) (row : ℕ) (mark : Mark) (pending : List ℕ) → slice_get marks row ≡ Some mark →
    AreLinked marks (Some row) pending → Next marks row mark pending
next_of marks row mark [] at l = let e : Some row ≡ None = l in cc
next_of marks row mark (first ∷ rest) at l =
    let e : Some row ≡ Some first = l.0 in
    let same : row ≡ first = cc in
    let read : Some l.1.0 ≡ Some mark = sym l.1.1 ∙ ap (slice_get marks) (sym same) ∙ at in
    let here : l.1.0 ≡ mark = cc in
    record {
      rest = rest;
      is = ap (λ (k : ℕ). k ∷ rest) (sym same);
      noted = mark_says marks row mark at ∙ ap (λ (m : Mark). m.spoiled) (sym here) ∙ l.1.2;
      linked = subst (λ (m : Mark). AreLinked marks m.next rest) here l.1.3;
    }

-- ---- one push, by what was read

pub pushed_noted : (marks : List Mark) (head : Option ℕ) (row : ℕ) (mark : Mark) → slice_get marks row ≡ Some mark → mark.spoiled ≡ true →
    pushed (marks, head) row ≡ (marks, head)
pushed_noted marks head row mark at on =
    ap (λ (b : Bool). let state : List Mark × Option ℕ = cond b (marks, head) (set marks row (record { spoiled = true; next = head }), Some row) in state)
    (mark_says marks row mark at ∙ on)

pub pushed_new : (marks : List Mark) (head : Option ℕ) (row : ℕ) (mark : Mark) → slice_get marks row ≡ Some mark → mark.spoiled ≡ false
    → pushed (marks, head) row ≡ (set marks row (record { spoiled = true; next = head }), Some row)
pushed_new marks head row mark at off =
    ap (λ (b : Bool). let state : List Mark × Option ℕ = cond b (marks, head) (set marks row (record { spoiled = true; next = head }), Some row) in state)
    (mark_says marks row mark at ∙ off)

pub pushed_long : (marks : List Mark) (head : Option ℕ) (row : ℕ) → length (pushed (marks, head) row).0 ≡ length marks
pushed_long marks head row = step (marked (spoiled_in marks) row)
  where
    step : (b : Bool) → length (let state : List Mark × Option ℕ =
        cond b (marks, head) (set marks row (record { spoiled = true; next = head }), Some row) in state.0) ≡ length marks
    step true = refl
    step false = length-set marks row _
