-- A view stays one where a row executes.
use Rattle.std.proofs.Common.{◌≡◌, ℕ, ◌≤◌, ◌<◌, ◌+◌, List, [], ◌∷◌, ◌++◌, Bool, true, Global, Option, Some, length, map, ap, sym, subst, ◌∙◌, ⊎_elim}
use Rattle.std.proofs.Common.{zero, suc, arith, length-append}
use Rattle.std.specs.declared.vec.Vec.{Vec}
use Rattle.std.specs.Prelude.{slice_get, vec_capacity}
use Rattle.std.proofs.lemmas.List.{length-map, map_push}
use Rattle.rl_view_spec.specs.Closure.{Text}
use Rattle.rl_view_spec.specs.Keys.{never}
use Rattle.rl_view_spec.specs.Progress.{HasDistinctNames, Progress, name_at, next_row}
use Rattle.rl_view_spec.specs.View.{is_implementation}
use Rattle.rl_view_spec.proofs.ObservedLemmas.{first_same}
use Rattle.rl_states.specs.Changes.{after_ran}
use Rattle.rl_view.specs.Seen.{HasSeen}
use Rattle.rl_view.proofs.RunsLemmas.{next_seen}
use Rattle.rl_book_spec.specs.Kept.{Booked, IsBook, IsStage, events_in, rows_run, view_in}
use Rattle.rl_book_spec.proofs.ListsLemmas.{get_either}
use Rattle.rl_book_spec.specs.Opening.{Opening}
use Rattle.rl_book.specs.Calls.{IsRun, due_row, is_answered}
use Rattle.rl_book.specs.Kept.{IsKept, booked, rows_said}
use Rattle.rl_book.specs.declared.answer.Run.{Run}
use Rattle.rl_book.specs.declared.visit.Visit.TheInside.{Inside}
use Rattle.rl_book.proofs.OthersLemmas.{answered, inside, seen_ran_on, stage_ran, stage_short}

-- the row that is due is the one that runs next in the table
pub next_due : (i : Inside) (row : ℕ) → IsKept i → due_row (booked i) ≡ Some row → next_row i.table ≡ Some row
next_due i row k due = next_seen (view_in (booked i)) (events_in (booked i)) (rows_run (booked i)) i.table k.seen ∙ due

-- what an execution is does not depend on what else executed
run_alike : (b : Booked) (more : List (ℕ × Bool)) (ran : ℕ × Bool) (run : Run) → IsRun b ran run → IsRun (record b { ran = more }) ran run
run_alike b more ran run r = record { row = r.row; threw = r.threw; name = r.name; part = r.part }

one_there : (run other : Run) (at : ℕ) → slice_get (run ∷ []) at ≡ Some other → run ≡ other
one_there run other zero e = cc
one_there run other (suc at) e = cc

module _ (i : Inside) (run : Run) (k : IsKept i) (due : due_row (booked i) ≡ Some run.row) where
  abbrev b : Booked
  b = booked i

  abbrev with_ran : List (ℕ × Bool) → Booked
  with_ran ran = record b { ran = ran }

  abbrev more : List (ℕ × Bool)
  more = b.ran ++ (run.row, run.threw) ∷ []

  rows_more : rows_run (with_ran more) ≡ rows_run b ++ run.row ∷ []
  rows_more = map_push (λ (ran : ℕ × Bool). ran.0) b.ran (run.row, run.threw)

  stage_more : IsStage (view_in (with_ran more)) (events_in b) (rows_run (with_ran more))
  stage_more = subst (λ (log : List ℕ). IsStage (view_in (with_ran more)) (events_in b) log) (sym rows_more)
      (stage_ran b.opening (events_in b) b.ran run.row k.book.distinct k.book.stage due run.threw)

  -- there was room for it
  pub fits : length i.runs.items + 1 ≤ length (rows_said i.startup)
  fits =
      let few = stage_short (view_in (with_ran more)) (events_in b) (rows_run (with_ran more)) stage_more in
      let rows = ap length rows_more in
      let one = length-append (rows_run b) (run.row ∷ []) in
      let ran : length (rows_run b) ≡ length b.ran = length-map b.ran (λ (ran : ℕ × Bool). ran.0) in
      let runs : length b.ran ≡ length i.runs.items = length-map {B = ℕ × Bool} i.runs.items (λ (run : Run). (run.row, run.threw)) in
      omega (arith, few, rows, one, ran, runs)

  module _ (table : Progress) (runs : Vec Run Global) (grown : runs.items ≡ i.runs.items ++ run ∷ []) where
    pub ran_more : map (λ (run : Run). (run.row, run.threw)) runs.items ≡ more
    ran_more = ap (map (λ (run : Run). (run.row, run.threw))) grown ∙ map_push (λ (run : Run). (run.row, run.threw)) i.runs.items run

    pub ran_kept : IsRun b (run.row, run.threw) run → table ≡ after_ran run.row run.threw i.table → vec_capacity runs ≡ vec_capacity i.runs
        → IsKept (record i { table = table; runs = runs })
    ran_kept is ran room =
        let seen : HasSeen (view_in (with_ran more)) (events_in b) (rows_run (with_ran more)) table =
        subst (λ (log : List ℕ). HasSeen (view_in (with_ran more)) (events_in b) log table) (sym rows_more)
        (seen_ran_on b.opening (events_in b) b.ran run.row k.book.distinct k.book.stage due run.threw i.table table k.seen ran) in
        let long = ap length grown ∙ length-append i.runs.items (run ∷ []) in
        let enough = fits in
        let room_before = k.room_to_run in
        record {
          book = subst (λ (ran : List (ℕ × Bool)). IsBook (with_ran ran)) (sym ran_more)
              (record { few = k.book.few; distinct = k.book.distinct; stage = stage_more });
          base = k.base;
          seen = subst (λ (ran : List (ℕ × Bool)). HasSeen (view_in (with_ran ran)) (events_in b) (rows_run (with_ran ran)) table) (sym ran_more) seen;
          gifts = k.gifts;
          named = k.named;
          parts = k.parts;
          requests = k.requests;
          runs = λ at other there.
              run_alike b (map (λ (run : Run). (run.row, run.threw)) runs.items) (other.row, other.threw) other
              (⊎_elim (λ before. k.runs at other before)
              (λ m. subst (λ (r : Run). IsRun b (r.row, r.threw) r) (one_there run other m.0 m.2) is)
              (get_either i.runs.items (run ∷ []) at other (ap (λ (xs : List Run). slice_get xs at) (sym grown) ∙ there)));
          few_runs = omega (arith, long, enough);
          room_to_run = omega (arith, room, room_before);
          few_calls = k.few_calls;
          room = k.room;
        }

-- ---- the row that is due

pub due_here : (i : Inside) (b : Booked) (o : Option ℕ) → IsKept i → booked i ≡ b → o ≡ next_row i.table → due_row b ≡ o
due_here i b o k view e =
    ap due_row (sym view) ∙ sym (next_seen (view_in (booked i)) (events_in (booked i)) (rows_run (booked i)) i.table k.seen) ∙ sym e

-- it is a row
pub due_inside : (i : Inside) (b : Booked) (row : ℕ) → IsKept i → booked i ≡ b → due_row b ≡ Some row → row < length b.opening.registered.rows
due_inside i b row k view due =
    subst (λ (b : Booked). row < length b.opening.registered.rows) view
    (inside (booked i).opening (events_in (booked i)) (booked i).ran row k.book.distinct k.book.stage (ap due_row view ∙ due))

-- that was answered with an implementation
pub due_answered : (i : Inside) (b : Booked) (row : ℕ) → IsKept i → booked i ≡ b → due_row b ≡ Some row → is_answered b row ≡ true
due_answered i b row k view due =
    let o : Opening = (booked i).opening in
    let name : Text = name_at o.registered row in
    ap (λ (b : Booked). is_answered b row) (sym view)
    ∙ ap is_implementation (sym (first_same (view_in (booked i)) never (events_in (booked i)) name))
    ∙ answered o (events_in (booked i)) (booked i).ran row k.book.distinct k.book.stage (ap due_row view ∙ due)

pub distinct_here : (i : Inside) (b : Booked) → IsKept i → booked i ≡ b → HasDistinctNames b.opening.registered
distinct_here i b k view = subst (λ (b : Booked). HasDistinctNames b.opening.registered) view k.book.distinct
