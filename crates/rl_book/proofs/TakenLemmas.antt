-- Which part each row took of an answer.
use Rattle.std.proofs.Common.{◌≡◌, ◌≢◌, ℕ, ◌<◌, List, [], ◌∷◌, Bool, true, false, cond, ◌&&◌, not, length}
use Rattle.std.proofs.Common.{Option, Some, None, refl, ap, ap₂, sym, subst, ◌∙◌, ⊎_elim, nat_eq}
use Rattle.std.specs.Prelude.{bytes_eq, Contains, if◌then◌else◌, is_none, option_and_then, slice_get, slice_set}
use Rattle.std.specs.List.{list_any}
use Rattle.std.specs.Option.{option_map_or}
use Rattle.std.proofs.lemmas.Bool.{and_parts, both_ways, cases_Bool}
use Rattle.std.proofs.lemmas.List.{length-set}
use Rattle.rl_view_spec.specs.Closure.{Text}
use Rattle.rl_view_spec.specs.Numbers.{number_of}
use Rattle.rl_view_spec.specs.Progress.{Cell, Progress, HasDistinctNames, is_skipped_at, is_touched_at, name_at, outcome_at}
use Rattle.rl_view_spec.specs.View.{View, Event, Answer, Implementation, Missing, Failed, GivenUp, kind_of, log_of}
use Rattle.rl_view_spec.proofs.ChainsLemmas.{same}
use Rattle.rl_view_spec.proofs.PlacesLemmas.{bytes_eq-from, apart}
use Rattle.rl_view_spec.proofs.PlacesLemmas as rows
use Rattle.rl_view_spec.proofs.ToolsLemmas.{place_there}
use Rattle.rl_rows.proofs.EdgesLemmas.{number_found, number_named}
use Rattle.rl_registry.specs.Rows.{with_version}
use Rattle.rl_registry.proofs.VersionsLemmas.{versions_change_nothing}
use Rattle.rl_view.specs.Seen.{IsDue, after_answer, counts_at, with_answers}
use Rattle.rl_view.proofs.ListsLemmas.{set_here, set_other}
use Rattle.rl_view.proofs.ReadingsLemmas.{found_seen}
use Rattle.rl_wire.specs.declared.part.Part.{Part}
use Rattle.rl_book_spec.specs.Opening.{answer_of, part_name, part_of}
use Rattle.rl_book_spec.specs.Traffic.{holds}
use Rattle.rl_book_spec.specs.declared.Batch.{Batch}
use Rattle.rl_book_spec.specs.declared.Mark.{Mark}
use Rattle.rl_book.specs.Delivering.{Taking, after_part, after_parts, delivered_with, row_for, table_with}
use Rattle.rl_book.specs.declared.given.Delivered.{Delivered}
use Rattle.rl_book.proofs.DeliveringLemmas.{came_of, part_due, row_at, row_by}

-- ---- which answers count after one that did

other_cells : (t : Progress) (j k : ℕ) (cell : Cell) → k ≢ j
    → (is_touched_at (record t { cells = slice_set t.cells j cell }) k ≡ is_touched_at t k)
    × (outcome_at (record t { cells = slice_set t.cells j cell }) k ≡ outcome_at t k)
other_cells t j k cell ne =
    let e = set_other t.cells j k cell ne in (
      ap (λ (found : Option Cell). option_map_or (λ (cell : Cell). cell.touched) found false) e,
      ap (λ (found : Option Cell). option_map_or (λ (cell : Cell). cell.outcome) found None) e,
    )

counts_by : Bool → Bool → Bool → Bool
counts_by touched skipped none = touched && not skipped && none

-- an answer of another row
pub counts_other : (t : Progress) (j k : ℕ) (answer : Answer) → k ≢ j → counts_at (after_answer j answer t) k ≡ counts_at t k
counts_other t j k answer ne = step answer
  where
    plain : (answer : Answer) → (is_touched_at (record t { cells = slice_set t.cells j (record { touched = true; outcome = Some (kind_of answer) }) }) k
        && not (is_skipped_at t.registered k)
        && is_none (outcome_at (record t { cells = slice_set t.cells j (record { touched = true; outcome = Some (kind_of answer) }) }) k)) ≡ counts_at t k
    plain answer =
        let e = other_cells t j k (record { touched = true; outcome = Some (kind_of answer) }) ne in
        ap (λ (b : Bool). b && not (is_skipped_at t.registered k)
        && is_none (outcome_at (record t { cells = slice_set t.cells j (record { touched = true; outcome = Some (kind_of answer) }) }) k)) e.0
        ∙ ap (λ (o : Option _). is_touched_at t k && not (is_skipped_at t.registered k) && is_none o) e.1

    step : (answer : Answer) → counts_at (after_answer j answer t) k ≡ counts_at t k
    step (Implementation version script) =
        ap (λ (b : Bool). is_touched_at (record t { cells = slice_set t.cells j (record { touched = true; outcome = Some (kind_of (Implementation version script)) }) }) k
        && not b
        && is_none (outcome_at (record t { cells = slice_set t.cells j (record { touched = true; outcome = Some (kind_of (Implementation version script)) }) }) k))
        ((versions_change_nothing t.registered j version).skips k)
        ∙ plain (Implementation version script)
    step Missing = plain Missing
    step Failed = plain Failed
    step GivenUp = plain GivenUp

no_more : (b : Bool) → (b && false) ≡ false
no_more true = refl
no_more false = refl

touched_cell : (cells : List Cell) (k : ℕ) → option_map_or (λ (cell : Cell). cell.touched) (slice_get cells k) false ≡ true
    → (cell : Cell) × (slice_get cells k ≡ Some cell)
touched_cell cells k touched = step (slice_get cells k) refl touched
  where
    step : (found : Option Cell) → slice_get cells k ≡ found → option_map_or (λ (cell : Cell). cell.touched) found false ≡ true
        → (cell : Cell) × (slice_get cells k ≡ Some cell)
    step None e touched = cc
    step (Some cell) e touched = (cell, e)

-- an answer of the row itself
pub counts_no_more : (t : Progress) (k : ℕ) (answer : Answer) → counts_at t k ≡ true → counts_at (after_answer k answer t) k ≡ false
counts_no_more t k answer counts = step answer
  where
    set : (answer : Answer) → is_none (outcome_at (record t { cells = slice_set t.cells k (record { touched = true; outcome = Some (kind_of answer) }) }) k)
        ≡ false
    set answer =
        let due = and_parts (is_touched_at t k && not (is_skipped_at t.registered k)) (is_none (outcome_at t k)) counts in
        let m = touched_cell t.cells k (and_parts (is_touched_at t k) (not (is_skipped_at t.registered k)) due.0).0 in
        ap (λ (found : Option Cell). is_none (option_map_or (λ (cell : Cell). cell.outcome) found None))
        (set_here t.cells k m.0 (record { touched = true; outcome = Some (kind_of answer) }) m.1)

    by : (answer : Answer) (touched skipped : Bool)
        → (touched && not skipped
        && is_none (outcome_at (record t { cells = slice_set t.cells k (record { touched = true; outcome = Some (kind_of answer) }) }) k)) ≡ false
    by answer touched skipped = ap (λ (b : Bool). touched && not skipped && b) (set answer) ∙ no_more (touched && not skipped)

    step : (answer : Answer) → counts_at (after_answer k answer t) k ≡ false
    step (Implementation version script) = by (Implementation version script)
        (is_touched_at (record t { cells = slice_set t.cells k (record { touched = true; outcome = Some (kind_of (Implementation version script)) }) }) k)
        (is_skipped_at (with_version t.registered k version) k)
    step Missing = by Missing
        (is_touched_at (record t { cells = slice_set t.cells k (record { touched = true; outcome = Some (kind_of Missing) }) }) k) (is_skipped_at t.registered k)
    step Failed = by Failed
        (is_touched_at (record t { cells = slice_set t.cells k (record { touched = true; outcome = Some (kind_of Failed) }) }) k) (is_skipped_at t.registered k)
    step GivenUp = by GivenUp
        (is_touched_at (record t { cells = slice_set t.cells k (record { touched = true; outcome = Some (kind_of GivenUp) }) }) k) (is_skipped_at t.registered k)

-- ---- the part of one row

-- a row has the part that it took, if it took one
abbrev pub taken_by : Mark → Bool → Option Part → Option (Option Delivered) → Option (Option Delivered)
taken_by mark true (Some part) before = Some (Some (record { part = part; mark = mark }))
taken_by mark true None before = before
taken_by mark false part before = before

none_taken : (mark : Mark) (takes : Bool) (before : Option (Option Delivered)) → before ≡ taken_by mark takes None before
none_taken mark true before = refl
none_taken mark false before = refl

-- who takes a part has its name
row_number : (rows : List ℕ) (t : Progress) (found : Option ℕ) (j : ℕ) → row_by rows t found ≡ Some j → found ≡ Some j
row_number rows t None j e = cc
row_number rows t (Some i) j e = step (counts_at t i) refl e
  where
    last : (held : Bool) → (if held then Some i else None) ≡ Some j → Some i ≡ Some j
    last true e = e
    last false e = cc

    step : (counts : Bool) → counts_at t i ≡ counts
        → option_and_then (λ row. if list_any (nat_eq row) rows then Some row else None) (if counts then Some i else None) ≡ Some j → Some i ≡ Some j
    step true c e = last (list_any (nat_eq i) rows) e
    step false c e = cc

module _ (v : View) (past : List Event) (batch : Batch) (within : (j : ℕ) → Contains batch.rows j → j < length v.registered.rows) (mark : Mark)
    (k : ℕ) (low : k < length v.registered.rows) where
  abbrev name : Text
  name = name_at v.registered k

  abbrev held : Bool
  held = list_any (nat_eq k) batch.rows

  pub number_here : HasDistinctNames v.registered → number_of v.registered name ≡ Some k
  number_here distinct =
      let f = number_found v.registered name (rows.number_named v.registered k low) in
      let n = number_named v.registered name f.0 f.1 in
      f.1 ∙ ap (λ (j : ℕ). Some j) (apart v.registered distinct f.0 k n.0 low n.1)

  -- what becomes of it where that row takes a part, and others follow
  abbrev by_row : Part → List Part → Taking → Option ℕ → Option (Option Delivered)
  by_row part parts s row = taken_by mark (counts_at (table_with row part s.table) k && held) (part_of parts name)
      (slice_get (delivered_with row (record { part = part; mark = mark }) s.delivered) k)

  own : (part : Part) (parts : List Part) (s : Taking) → k < length s.delivered → (counts takes : Bool) → counts_at s.table k ≡ counts → held ≡ takes
      → by_row part parts s (if counts && takes then Some k else None) ≡ taken_by mark (counts && takes) (Some part) (slice_get s.delivered k)
  own part parts s long true true c h =
      let m = place_there s.delivered k long in
      ap (λ (b : Bool). taken_by mark (b && held) (part_of parts name)
      (slice_get (slice_set s.delivered k (Some (record { part = part; mark = mark }))) k)) (counts_no_more s.table k (answer_of part) c)
      ∙ set_here s.delivered k m.0 (Some (record { part = part; mark = mark })) m.1
  own part parts s long true false c h =
      ap (λ (b : Bool). taken_by mark (counts_at s.table k && b) (part_of parts name) (slice_get s.delivered k)) h
      ∙ ap (λ (b : Bool). taken_by mark b (part_of parts name) (slice_get s.delivered k)) (no_more (counts_at s.table k))
  own part parts s long false takes c h =
      ap (λ (b : Bool). taken_by mark (b && held) (part_of parts name) (slice_get s.delivered k)) c

  other : (part : Part) (parts : List Part) (s : Taking) (row : Option ℕ) → ((j : ℕ) → row ≡ Some j → k ≢ j)
      → by_row part parts s row ≡ taken_by mark (counts_at s.table k && held) (part_of parts name) (slice_get s.delivered k)
  other part parts s None apart_from = refl
  other part parts s (Some j) apart_from =
      ap₂ (λ (b : Bool) (found : Option (Option Delivered)). taken_by mark (b && held) (part_of parts name) found)
      (counts_other s.table j k (answer_of part) (apart_from j refl))
      (set_other s.delivered j k (Some (record { part = part; mark = mark })) (apart_from j refl))

  one : (event : Event) (part : Part) (parts : List Part) (s : Taking) → IsDue v event past s.table → k < length s.delivered
      → by_row part parts s (row_for batch.rows s.table part)
      ≡ taken_by mark (counts_at s.table k && held) (part_of (part ∷ parts) name) (slice_get s.delivered k)
  one event part parts s due long = ⊎_elim
      (λ e.
      let named : part_name part ≡ name = same (part_name part) name e in
      let row : row_for batch.rows s.table part ≡ (if counts_at s.table k && held then Some k else None) =
      ap (row_by batch.rows s.table) (found ∙ ap (number_of v.registered) named ∙ number_here due.distinct)
      ∙ row_at batch.rows s.table k held (counts_at s.table k) refl refl in
      ap (by_row part parts s) row
      ∙ own part parts s long (counts_at s.table k) held refl refl
      ∙ ap (λ (b : Bool). taken_by mark (counts_at s.table k && held) (cond b (Some part) (part_of parts name)) (slice_get s.delivered k)) (sym e))
      (λ e.
      other part parts s (row_for batch.rows s.table part)
      (λ j row eq.
      let n = number_named v.registered (part_name part) j (sym found ∙ row_number batch.rows s.table (number_of s.table.registered (part_name part)) j row) in
      both_ways (bytes_eq (part_name part) name) e (bytes_eq-from (part_name part) name (sym n.1 ∙ ap (name_at v.registered) (sym eq))))
      ∙ ap (λ (b : Bool). taken_by mark (counts_at s.table k && held) (cond b (Some part) (part_of parts name)) (slice_get s.delivered k)) (sym e))
      (cases_Bool (bytes_eq (part_name part) name))
    where
      found : number_of s.table.registered (part_name part) ≡ number_of v.registered (part_name part)
      found = found_seen v (event ∷ past) (log_of v past) s.table due (part_name part)

  still_long : (part : Part) (s : Taking) (row : Option ℕ) → k < length s.delivered
      → k < length (delivered_with row (record { part = part; mark = mark }) s.delivered)
  still_long part s None long = long
  still_long part s (Some j) long =
      subst (λ (n : ℕ). k < n) (sym (length-set s.delivered j (Some (record { part = part; mark = mark })))) long

  -- after the parts of an answer a row has the first of its name, where it takes one
  pub kept_at : (event : Event) (parts : List Part) (s : Taking) → IsDue v event past s.table → k < length s.delivered
      → slice_get (after_parts batch.rows mark parts s).delivered k
      ≡ taken_by mark (counts_at s.table k && held) (part_of parts name) (slice_get s.delivered k)
  kept_at event [] s due long = none_taken mark (counts_at s.table k && held) (slice_get s.delivered k)
  kept_at event (part ∷ parts) s due long =
      kept_at (with_answers (came_of v past batch within part (holds v.registered batch (part_name part))) event) parts (after_part batch.rows mark s part)
      (part_due v past batch within event s.table part due) (still_long part s (row_for batch.rows s.table part) long)
      ∙ one event part parts s due long

-- each row keeps its place
long_with : (row : Option ℕ) (part : Delivered) (delivered : List (Option Delivered)) → length (delivered_with row part delivered) ≡ length delivered
long_with None part delivered = refl
long_with (Some row) part delivered = length-set delivered row (Some part)

pub long_after : (rows : List ℕ) (mark : Mark) (parts : List Part) (s : Taking) → length (after_parts rows mark parts s).delivered ≡ length s.delivered
long_after rows mark [] s = refl
long_after rows mark (part ∷ parts) s =
    long_after rows mark parts (after_part rows mark s part)
    ∙ long_with (row_for rows s.table part) (record { part = part; mark = mark }) s.delivered
