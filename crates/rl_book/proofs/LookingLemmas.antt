-- What a view tells of itself.
use Rattle.std.proofs.Common.{◌≡◌, ◌≢◌, ℕ, List, Bool, true, false, Option, Some, None, refl, ap, sym, subst, ◌∙◌}
use Rattle.std.specs.Prelude.{IsTrue, IsFalse, is_none, is_some, option_map, slice_get}
use Rattle.std.proofs.lemmas.Bool.{both_ways}
use Rattle.std.proofs.lemmas.Option.{slice_get-map}
use Rattle.rl_view_spec.specs.Closure.{Text, has_row}
use Rattle.rl_view_spec.specs.Numbers.{number_of}
use Rattle.rl_view_spec.specs.Progress.{Progress, next_row, phase_of}
use Rattle.rl_view_spec.specs.View.{View, Event, log_of, progress_of, state_of}
use Rattle.rl_view_spec.specs.declared.Phase.{Phase}
use Rattle.rl_view_spec.proofs.PlacesLemmas.{name_there}
use Rattle.rl_view_spec.proofs.ToolsLemmas.{place_there}
use Rattle.rl_rows.proofs.EdgesLemmas.{number_named}
use Rattle.rl_registry.proofs.BlamedLemmas.{named_rowless, rowless_named}
use Rattle.rl_view.specs.Seen.{HasSeen}
use Rattle.rl_view.proofs.ReadingsLemmas.{found_seen, phase_seen, registered_seen}
use Rattle.rl_view.proofs.RunsLemmas.{next_seen}
use Rattle.rl_book_spec.specs.Kept.{Booked, events_in, is_due, registered_in, rows_run, threw_in, view_in}
use Rattle.rl_book_spec.proofs.LawfulLemmas.{books_lawful}
use Rattle.rl_book_spec.proofs.StageLemmas.{stage_ends}
use Rattle.rl_book.specs.Calls.{IsRun, Rests}
use Rattle.rl_book.specs.Kept.{IsKept, booked}
use Rattle.rl_book.specs.declared.answer.Run.{Run}
use Rattle.rl_book.specs.declared.visit.Visit.TheInside.{Inside}
use Rattle.rl_book.proofs.SeenLemmas.{registered_seen_in}

-- what runs next in the table is what the history says
pub due_is : (i : Inside) → IsKept i → is_some (next_row i.table) ≡ is_due (booked i)
due_is i k = ap is_some (next_seen (view_in (booked i)) (events_in (booked i)) (rows_run (booked i)) i.table k.seen)

pub registered_is : (i : Inside) → IsKept i → i.table.registered ≡ registered_in (booked i)
registered_is i k =
    let b : Booked = booked i in
    registered_seen (view_in b) (events_in b) (rows_run b) i.table k.seen
    ∙ registered_seen_in (threw_in b.opening.registered b.ran) b.opening b.past

one_some : {X : Type 0} (o : Option X) (x y : X) → o ≡ Some x → o ≡ Some y → x ≡ y
one_some o x y e f = cc

pub run_kept : (i : Inside) (k : ℕ) (run : Run) (ran : ℕ × Bool) → IsKept i → slice_get i.runs.items k ≡ Some run
    → slice_get (booked i).ran k ≡ Some ran
    → IsRun (booked i) ran run
run_kept i k run ran kept there said =
    let pair : Run → ℕ × Bool = λ run. (run.row, run.threw) in
    let got : slice_get (booked i).ran k ≡ Some (run.row, run.threw) = slice_get-map pair i.runs.items k ∙ ap (option_map pair) there in
    subst (λ (r : ℕ × Bool). IsRun (booked i) r run) (one_some (slice_get (booked i).ran k) (run.row, run.threw) ran got said) (kept.runs k run there)

none_left : {X : Type 0} (o : Option X) → is_some o ≡ false → o ≡ None
none_left None e = refl
none_left (Some x) e = cc

-- the rows by now have the numbers that they had
number_then : (i : Inside) (name : Text) → IsKept i → number_of i.table.registered name ≡ number_of (booked i).opening.registered name
number_then i name k = found_seen (view_in (booked i)) (events_in (booked i)) (rows_run (booked i)) i.table k.seen name

pub no_row : (i : Inside) (name : Text) → IsKept i → number_of i.table.registered name ≡ None → IsFalse (has_row (booked i).opening.registered name)
no_row i name k none = rowless_named (booked i).opening.registered name (ap is_none (sym (number_then i name k) ∙ none))

pub some_row : (i : Inside) (name : Text) (row : ℕ) → IsKept i → number_of i.table.registered name ≡ Some row →
    IsTrue (has_row (booked i).opening.registered name)
some_row i name row k there = step (has_row (booked i).opening.registered name) refl
  where
    step : (s : Bool) → has_row (booked i).opening.registered name ≡ s → s ≡ true
    step true h = refl
    step false h = absurd (both_ways (is_none (number_of (booked i).opening.registered name)) (ap is_none (sym (number_then i name k) ∙ there))
        (named_rowless (booked i).opening.registered name h))

pub state_then : (i : Inside) (name : Text) (row : ℕ) (phase : Phase) → IsKept i → number_of i.table.registered name ≡ Some row
    → (i.table.executing ≢ Some row → phase ≡ phase_of i.table row) → Rests (booked i)
    → phase ≡ state_of (view_in (booked i)) (events_in (booked i)) name
state_then i name row phase k there told rests =
    let b : Booked = booked i in
    let v : View = view_in b in
    let past : List Event = events_in b in
    let n = number_named v.registered name row (sym (number_then i name k) ∙ there) in
    let m = place_there v.registered.rows row n.0 in
    let idle : i.table.executing ≡ None = ap (λ (p : Progress). p.executing) k.seen.table in
    let ends : rows_run b ≡ log_of v past = stage_ends v past (rows_run b) k.book.stage (none_left (next_row (progress_of v past (rows_run b))) rests) in
    told (λ s. none_some (sym idle ∙ s))
    ∙ phase_seen v past i.table row m.0 (books_lawful (threw_in b.opening.registered b.ran) b.opening b.past)
    (subst (λ (log : List ℕ). HasSeen v past log i.table) ends k.seen) m.1
    ∙ ap (state_of v past) (sym (name_there v.registered row m.0 m.1) ∙ n.1)
  where
    none_some : None ≡ Some row → ⊥
    none_some s = cc
