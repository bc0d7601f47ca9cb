-- What a well-formed answer changes of what a view keeps.
use Rattle.std.proofs.Common.{◌≡◌, ℕ, ◌<◌, List, [], ◌∷◌, ◌++◌, Bool, true, false, cond, ◌&&◌, length, map}
use Rattle.std.proofs.Common.{Option, Some, None, refl, ap, sym, subst, ◌∙◌, append_assoc, append-nil, nat_eq}
use Rattle.std.specs.Prelude.{bytes_eq, Contains, filter, if◌then◌else◌, option_and_then}
use Rattle.std.specs.List.{list_any}
use Rattle.std.proofs.lemmas.Bool.{eqb-true, eq-eqb, false_from_ne_true}
use Rattle.rl_view_spec.specs.Closure.{Text, Registered}
use Rattle.rl_view_spec.specs.Keys.{counts}
use Rattle.rl_view_spec.specs.Numbers.{number_of}
use Rattle.rl_view_spec.specs.Progress.{Progress, HasDistinctNames, name_at}
use Rattle.rl_view_spec.specs.View.{View, Event, Answer, log_of}
use Rattle.rl_view_spec.proofs.ChainsLemmas.{same}
use Rattle.rl_view_spec.proofs.PlacesLemmas as places
use Rattle.rl_view_spec.proofs.PlacesLemmas.{apart, bytes_eq-from}
use Rattle.rl_view_spec.proofs.StatesLemmas.{iff_same}
use Rattle.rl_view_spec.proofs.ToolsLemmas.{any_one, one_any}
use Rattle.rl_rows.proofs.EdgesLemmas.{number_found, number_named}
use Rattle.rl_view.specs.Seen.{HasSeen, IsDue, after_answer, asks, counting_row, counts_at, with_answers}
use Rattle.rl_view.proofs.AnswersLemmas.{counting, counting_at, seen_passed, seen_used}
use Rattle.rl_view.proofs.NowLemmas.{seen_begin}
use Rattle.rl_view.proofs.ReadingsLemmas.{found_seen}
use Rattle.rl_wire.specs.declared.part.Part.{Part}
use Rattle.rl_book_spec.specs.Book.{bring, parts_for}
use Rattle.rl_book_spec.specs.Opening.{answer_of, part_name}
use Rattle.rl_book_spec.specs.Traffic.{holds}
use Rattle.rl_book_spec.specs.declared.Batch.{Batch}
use Rattle.rl_book_spec.specs.declared.Mark.{Mark}
use Rattle.rl_book.specs.Delivering.{Taking, after_part, after_parts, row_for, table_with}

-- ---- the row of a part

-- the row of a name takes its part where it is one of these and the part counts
abbrev pub row_by : List ℕ → Progress → Option ℕ → Option ℕ
row_by rows t found = option_and_then (λ row. if list_any (nat_eq row) rows then Some row else None)
    (option_and_then (λ row. if counts_at t row then Some row else None) found)

pub row_at : (rows : List ℕ) (t : Progress) (k : ℕ) (held counts : Bool) → list_any (nat_eq k) rows ≡ held → counts_at t k ≡ counts
    → row_by rows t (Some k) ≡ (if counts && held then Some k else None)
row_at rows t k held true e c =
    ap (λ (b : Bool). option_and_then (λ row. if list_any (nat_eq row) rows then Some row else None) (if b then Some k else None)) c
    ∙ ap (λ (b : Bool). if b then Some k else None) e
row_at rows t k held false e c =
    ap (λ (b : Bool). option_and_then (λ row. if list_any (nat_eq row) rows then Some row else None) (if b then Some k else None)) c

module _ (r : Registered) (distinct : HasDistinctNames r) (batch : Batch) (within : (k : ℕ) → Contains batch.rows k → k < length r.rows) where
  -- a batch holds a name where it asks for its row
  pub held_row : (name : Text) (k : ℕ) → number_of r name ≡ Some k → list_any (nat_eq k) batch.rows ≡ holds r batch name
  held_row name k e =
      let n = number_named r name k e in
      iff_same (list_any (nat_eq k) batch.rows) (holds r batch name)
      (λ h. let m = any_one (nat_eq k) batch.rows h in
      one_any (λ row. bytes_eq (name_at r row) name) batch.rows k (subst (λ (j : ℕ). Contains batch.rows j) (sym (eqb-true k m.0 m.2)) m.1)
      (bytes_eq-from (name_at r k) name n.1))
      (λ h. let m = any_one (λ row. bytes_eq (name_at r row) name) batch.rows h in
      one_any (nat_eq k) batch.rows m.0 m.1
      (eq-eqb k m.0 (apart r distinct k m.0 n.0 (within m.0 m.1) (n.1 ∙ sym (same (name_at r m.0) name m.2)))))

  pub held_nowhere : (name : Text) → number_of r name ≡ None → holds r batch name ≡ false
  held_nowhere name e = false_from_ne_true (holds r batch name) (λ h.
      let m = any_one (λ row. bytes_eq (name_at r row) name) batch.rows h in
      let f = number_found r (name_at r m.0) (places.number_named r m.0 (within m.0 m.1)) in
      let g : None ≡ Some f.0 = sym e ∙ ap (number_of r) (sym (same (name_at r m.0) name m.2)) ∙ f.1 in
      absurd (cc))

-- ---- what came of an answer

module _ (v : View) (past : List Event) (batch : Batch) (within : (k : ℕ) → Contains batch.rows k → k < length v.registered.rows) where
  abbrev pub came_of : Part → Bool → List (Text × Answer)
  came_of part held = if held then (part_name part, answer_of part) ∷ [] else []

  pub part_due : (event : Event) (t : Progress) (part : Part) → IsDue v event past t
      → IsDue v (with_answers (came_of part (holds v.registered batch (part_name part))) event) past (table_with (row_for batch.rows t part) part t)
  part_due event t part s = step (number_of v.registered name) refl
    where
      name : Text
      name = part_name part

      found : number_of t.registered name ≡ number_of v.registered name
      found = found_seen v (event ∷ past) (log_of v past) t s name

      none : (held : Bool) → held ≡ false → IsDue v (with_answers (came_of part held) event) past t
      none true e = cc
      none false e = subst (λ (came : List (Text × Answer)). IsDue v (record event { came = came }) past t) (sym (append-nil event.came)) s

      at : (k : ℕ) → number_of v.registered name ≡ Some k → (held counts : Bool) → list_any (nat_eq k) batch.rows ≡ held → counts_at t k ≡ counts
          → IsDue v (with_answers (came_of part held) event) past (table_with (if counts && held then Some k else None) part t)
      at k e false false h c = none false refl
      at k e false true h c = none false refl
      at k e true true h c =
          let counted : counting_row t name ≡ Some k =
          ap (option_and_then (λ row. if counts_at t row then Some row else None)) (found ∙ e) ∙ ap (λ (b : Bool). if b then Some k else None) c in
          seen_used v name (answer_of part) event past k t (after_answer k (answer_of part) t) s
          (counting v (event ∷ past) (log_of v past) t name k s counted) refl
      at k e true false h c =
          let n = number_named v.registered name k e in
          seen_passed v name (answer_of part) event past t s
          (ap (counts v (event ∷ past)) (sym n.1) ∙ sym (counting_at v (event ∷ past) (log_of v past) t k s n.0) ∙ c)

      step : (o : Option ℕ) → number_of v.registered name ≡ o
          → IsDue v (with_answers (came_of part (holds v.registered batch name)) event) past (table_with (row_for batch.rows t part) part t)
      step None e =
          subst (λ (row : Option ℕ). IsDue v (with_answers (came_of part (holds v.registered batch name)) event) past (table_with row part t))
          (sym (ap (row_by batch.rows t) (found ∙ e)))
          (none (holds v.registered batch name) (held_nowhere v.registered s.distinct batch within name e))
      step (Some k) e =
          let held : list_any (nat_eq k) batch.rows ≡ holds v.registered batch name = held_row v.registered s.distinct batch within name k e in
          subst (λ (row : Option ℕ). IsDue v (with_answers (came_of part (holds v.registered batch name)) event) past (table_with row part t))
          (sym (ap (row_by batch.rows t) (found ∙ e) ∙ row_at batch.rows t k (holds v.registered batch name) (counts_at t k) held refl))
          (at k e (holds v.registered batch name) (counts_at t k) held refl)

  pair_first : (part : Part) (more : List Part) (held : Bool) → map (λ part. (part_name part, answer_of part)) (cond held (part ∷ more) more)
      ≡ came_of part held ++ map (λ part. (part_name part, answer_of part)) more
  pair_first part more true = refl
  pair_first part more false = refl

  pub parts_due : (mark : Mark) (event : Event) (parts : List Part) (s : Taking) → IsDue v event past s.table
      → IsDue v (with_answers (parts_for v.registered batch parts) event) past (after_parts batch.rows mark parts s).table
  parts_due mark event [] s due =
      subst (λ (came : List (Text × Answer)). IsDue v (record event { came = came }) past s.table) (sym (append-nil event.came)) due
  parts_due mark event (part ∷ parts) s due =
      let held : Bool = holds v.registered batch (part_name part) in
      let more : List Part = filter (λ part. holds v.registered batch (part_name part)) parts in
      subst (λ (came : List (Text × Answer)). IsDue v (record event { came = came }) past
      (after_parts batch.rows mark parts (after_part batch.rows mark s part)).table)
      (append_assoc event.came (came_of part held) (parts_for v.registered batch parts)
      ∙ ap (λ (came : List (Text × Answer)). event.came ++ came) (sym (pair_first part more held)))
      (parts_due mark (with_answers (came_of part held) event) parts (after_part batch.rows mark s part) (part_due event s.table part due))

  -- the answer as a whole, where nothing may run
  pub brought_due : (mark : Mark) (parts : List Part) (s : Taking) → HasSeen v past (log_of v past) s.table
      → IsDue v (bring (parts_for v.registered batch parts)) past (after_parts batch.rows mark parts s).table
  brought_due mark parts s seen = parts_due mark (asks []) parts s (seen_begin v past s.table seen)
