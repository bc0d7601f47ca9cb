-- How many parts of an answer were used.
use Rattle.std.proofs.Common.{◌≡◌, ℕ, ◌+◌, List, [], ◌∷◌, Bool, true, false, cond, ◌&&◌, not, map, get_or}
use Rattle.std.proofs.Common.{Option, Some, None, refl, ap, ap₂, sym, ◌∙◌, arith, nat_eq}
use Rattle.std.specs.Prelude.{count_by, if◌then◌else◌, is_none, is_some, option_and_then, option_map, slice_get, slice_set}
use Rattle.std.specs.List.{list_any}
use Rattle.std.specs.Option.{option_map_or}
use Rattle.std.proofs.lemmas.Bool.{and_parts}
use Rattle.std.proofs.lemmas.List.Sums.{sum_by-cons, sum_by-set}
use Rattle.std.proofs.lemmas.Option.{get_or_from_slice_get, slice_get_within}
use Rattle.rl_names.specs.declared.row.Row.{Row}
use Rattle.rl_view_spec.specs.Closure.{is_skipped}
use Rattle.rl_view_spec.specs.Keys.{never}
use Rattle.rl_view_spec.specs.Numbers.{number_of}
use Rattle.rl_view_spec.specs.Progress.{Cell, Progress, is_skipped_at, is_touched_at, outcome_at}
use Rattle.rl_view_spec.specs.View.{View, Event, Answer, Implementation, Missing, Failed, GivenUp, Throws, answer_in, cell_of, first_of, is_touched, kind_of}
use Rattle.rl_view_spec.proofs.ObservedLemmas.{first_same}
use Rattle.rl_view.specs.Seen.{HasSeen, after_answer, counts_at}
use Rattle.rl_wire.specs.declared.part.Part.{Part}
use Rattle.rl_book_spec.specs.Book.{event_of, events_of}
use Rattle.rl_book_spec.specs.Given.{outcome_of, used_by}
use Rattle.rl_book_spec.specs.Opening.{Opening, answer_of, part_name, view_of}
use Rattle.rl_book_spec.specs.declared.Call.{Call}
use Rattle.rl_book_spec.specs.declared.Mark.{Mark}
use Rattle.rl_book_spec.proofs.AskedForLemmas.{still_some}
use Rattle.rl_book.specs.Delivering.{Taking, after_part, after_parts, row_for, table_with, used_with}

-- ---- rows with outcomes

abbrev has_outcome : Cell → Bool
has_outcome cell = is_some cell.outcome

abbrev answered : Progress → ℕ
answered t = count_by has_outcome t.cells

one_more : (cells : List Cell) (k : ℕ) (found : Option Cell) (outcome : Cell) → slice_get cells k ≡ found
    → option_map_or (λ (cell : Cell). cell.touched) found false ≡ true → is_none (option_map_or (λ (cell : Cell). cell.outcome) found None) ≡ true
    → has_outcome outcome ≡ true → count_by has_outcome (slice_set cells k outcome) ≡ count_by has_outcome cells + 1
one_more cells k None outcome e touched none some = cc
one_more cells k (Some cell) outcome e touched none some =
    let set = sum_by-set (λ (cell : Cell). cond {A = ℕ} (has_outcome cell) 1 0) cells k outcome cell (slice_get_within cells k cell e) in
    let before : cond {A = ℕ} (has_outcome (get_or cells k cell)) 1 0 ≡ 0 =
    ap (λ (c : Cell). cond {A = ℕ} (has_outcome c) 1 0) (get_or_from_slice_get cells k cell cell e) ∙ nothing cell.outcome none in
    let after : cond {A = ℕ} (has_outcome outcome) 1 0 ≡ 1 = ap (λ (b : Bool). cond {A = ℕ} b 1 0) some in
    omega (arith, set, before, after)
  where
    nothing : {X : Type 0} (o : Option X) → is_none o ≡ true → cond {A = ℕ} (is_some o) 1 0 ≡ 0
    nothing None h = refl
    nothing (Some x) h = cc

-- an answer that counts is the outcome of one row more
pub answered_more : (t : Progress) (k : ℕ) (answer : Answer) → counts_at t k ≡ true → answered (after_answer k answer t) ≡ answered t + 1
answered_more t k answer counts = step answer
  where
    plain : (answer : Answer) → count_by has_outcome (slice_set t.cells k (record { touched = true; outcome = Some (kind_of answer) })) ≡ answered t + 1
    plain answer =
        let due = and_parts (is_touched_at t k && not (is_skipped_at t.registered k)) (is_none (outcome_at t k)) counts in
        one_more t.cells k (slice_get t.cells k) (record { touched = true; outcome = Some (kind_of answer) }) refl
        (and_parts (is_touched_at t k) (not (is_skipped_at t.registered k)) due.0).0 due.1 refl

    step : (answer : Answer) → answered (after_answer k answer t) ≡ answered t + 1
    step (Implementation version script) = plain (Implementation version script)
    step Missing = plain Missing
    step Failed = plain Failed
    step GivenUp = plain GivenUp

-- what takes a part counts
row_counts : (rows : List ℕ) (t : Progress) (k : ℕ) (found : Option ℕ)
    → option_and_then (λ row. if list_any (nat_eq row) rows then Some row else None) (option_and_then (λ row. if counts_at t row then Some row else None) found)
    ≡ Some k
    → counts_at t k ≡ true
row_counts rows t k None e = cc
row_counts rows t k (Some j) e = step (counts_at t j) (list_any (nat_eq j) rows) refl refl e
  where
    step : (counts held : Bool) → counts_at t j ≡ counts → list_any (nat_eq j) rows ≡ held
        → option_and_then (λ row. if list_any (nat_eq row) rows then Some row else None) (if counts then Some j else None) ≡ Some k → counts_at t k ≡ true
    step false held c h e = cc
    step true held c h e =
        let at : (if held then Some j else None) ≡ Some k = ap (λ (b : Bool). if b then Some j else None) (sym h) ∙ e in
        last held at
      where
        last : (held : Bool) → (if held then Some j else None) ≡ Some k → counts_at t k ≡ true
        last false e = cc
        last true e = let is : j ≡ k = cc in ap (counts_at t) (sym is) ∙ c

used_once : (rows : List ℕ) (mark : Mark) (s : Taking) (part : Part)
    → (after_part rows mark s part).used + answered s.table ≡ s.used + answered (after_part rows mark s part).table
used_once rows mark s part = step (row_for rows s.table part) refl
  where
    step : (row : Option ℕ) → row_for rows s.table part ≡ row
        → used_with row s.used + answered s.table ≡ s.used + answered (table_with row part s.table)
    step None e = refl
    step (Some k) e =
        let more = answered_more s.table k (answer_of part) (row_counts rows s.table k (number_of s.table.registered (part_name part)) e) in
        omega (arith, more)

-- each part that is used is the outcome of one row more
pub used_all : (rows : List ℕ) (mark : Mark) (parts : List Part) (s : Taking)
    → (after_parts rows mark parts s).used + answered s.table ≡ s.used + answered (after_parts rows mark parts s).table
used_all rows mark [] s = refl
used_all rows mark (part ∷ parts) s =
    let first = used_once rows mark s part in
    let rest = used_all rows mark parts (after_part rows mark s part) in
    omega (arith, first, rest)

-- ---- rows that have an outcome since

count_cons : {X : Type 0} (p : X → Bool) (x : X) (xs : List X) → count_by p (x ∷ xs) ≡ cond {A = ℕ} (p x) 1 0 + count_by p xs
count_cons p x xs = sum_by-cons (λ x. cond {A = ℕ} (p x) 1 0) x xs

count_map : {X Y : Type 0} (p : Y → Bool) (f : X → Y) (xs : List X) → count_by p (map f xs) ≡ count_by (λ x. p (f x)) xs
count_map p f [] = refl
count_map p f (x ∷ xs) =
    count_cons p (f x) (map f xs) ∙ ap (λ (n : ℕ). cond {A = ℕ} (p (f x)) 1 0 + n) (count_map p f xs) ∙ sym (count_cons (λ x. p (f x)) x xs)

some_kind : (o : Option Answer) → is_some (option_map kind_of o) ≡ is_some o
some_kind None = refl
some_kind (Some answer) = refl

count_alike : {X : Type 0} (p q : X → Bool) (xs : List X) → ((x : X) → p x ≡ q x) → count_by p xs ≡ count_by q xs
count_alike p q [] each = refl
count_alike p q (x ∷ xs) each =
    count_cons p x xs ∙ ap₂ (λ (b : Bool) (n : ℕ). cond {A = ℕ} b 1 0 + n) (each x) (count_alike p q xs each) ∙ sym (count_cons q x xs)

since_one : (b a : Option Answer) (fresh before after : ℕ) → (is_some b ≡ true → is_some a ≡ true) → fresh + before ≡ after
    → (cond {A = ℕ} (is_none b && is_some a) 1 0 + fresh) + (cond {A = ℕ} (is_some b) 1 0 + before) ≡ cond {A = ℕ} (is_some a) 1 0 + after
since_one None None fresh before after s e = omega (arith, e)
since_one None (Some a) fresh before after s e = omega (arith, e)
since_one (Some b) None fresh before after s e = let wrong : false ≡ true = s refl in absurd (cc)
since_one (Some b) (Some a) fresh before after s e = omega (arith, e)

count_since : {X : Type 0} (before after : X → Option Answer) (xs : List X) → ((x : X) → is_some (before x) ≡ true → is_some (after x) ≡ true)
    → count_by (λ x. is_none (before x) && is_some (after x)) xs + count_by (λ x. is_some (before x)) xs ≡ count_by (λ x. is_some (after x)) xs
count_since before after [] stays = refl
count_since before after (x ∷ xs) stays =
    ap₂ (λ (n m : ℕ). n + m) (count_cons (λ x. is_none (before x) && is_some (after x)) x xs) (count_cons (λ x. is_some (before x)) x xs)
    ∙ since_one (before x) (after x) (count_by (λ x. is_none (before x) && is_some (after x)) xs) (count_by (λ x. is_some (before x)) xs)
    (count_by (λ x. is_some (after x)) xs) (stays x) (count_since before after xs stays)
    ∙ sym (count_cons (λ x. is_some (after x)) x xs)

-- the rows that have outcomes in a table are those that have one in its view
answered_seen : (throws : Throws) (o : Opening) (past : List Call) (log : List ℕ) (t : Progress) → HasSeen (view_of throws o) (events_of o past) log t
    → answered t ≡ count_by (λ row. is_some (outcome_of o past row.name)) o.registered.rows
answered_seen throws o past log t s =
    let v : View = view_of throws o in
    let events : List Event = events_of o past in
    ap (λ (p : Progress). answered p) s.table
    ∙ count_map has_outcome (cell_of v events) o.registered.rows
    ∙ count_alike (λ (row : Row). is_some (option_map kind_of (first_of v events row.name))) (λ (row : Row). is_some (outcome_of o past row.name))
    o.registered.rows
    (λ row. some_kind (first_of v events row.name) ∙ ap (λ (first : Option Answer). is_some first) (first_same v never events row.name))

-- as many parts are used as there are rows that have an outcome since
pub used_is : (throws : Throws) (o : Opening) (past : List Call) (call : Call) (log log' : List ℕ) (rows : List ℕ) (mark : Mark) (parts : List Part)
    (s : Taking) → s.used ≡ 0 → HasSeen (view_of throws o) (events_of o past) log s.table
    → HasSeen (view_of throws o) (events_of o (call ∷ past)) log' (after_parts rows mark parts s).table
    → (after_parts rows mark parts s).used ≡ used_by o past call
used_is throws o past call log log' rows mark parts s none before after =
    let all = used_all rows mark parts s in
    let first = answered_seen throws o past log s.table before in
    let last = answered_seen throws o (call ∷ past) log' (after_parts rows mark parts s).table after in
    let since = count_since (λ (row : Row). outcome_of o past row.name) (λ (row : Row). outcome_of o (call ∷ past) row.name) o.registered.rows
    (λ row. still_some (outcome_of o past row.name)
    (if is_touched (view_of never o) (events_of o (call ∷ past)) row.name && not (is_skipped o.registered row.name)
    then answer_in row.name (event_of o past call) else None)) in
    omega (arith, all, first, last, since, none)
