-- Versions change nothing of the progress of a view.
use mathlib.Core.Path.{fun_ext}
use Rattle.std.proofs.Common.{◌≡◌, ℕ, List, [], ◌∷◌, Bool, true, false, ◌&&◌, not, length, map, Option, Some, None, refl, ap, ap₂, sym}
use Rattle.std.proofs.Common.{◌∙◌}
use Rattle.std.specs.Prelude.{filter, if◌then◌else◌, option_map, slice_get}
use Rattle.std.specs.List.{list_any}
use Rattle.std.proofs.lemmas.List.{length-map}
use Rattle.std.proofs.lemmas.Option.{slice_get-map}
use Rattle.rl_names.specs.declared.row.Row.{Row}
use Rattle.rl_view_spec.specs.Closure.{Text, Registered, in_closure, is_skipped}
use Rattle.rl_view_spec.specs.Keys.{version_of}
use Rattle.rl_view_spec.specs.Numbers.{closure_numbers}
use Rattle.rl_view_spec.specs.Progress.{Cell, Progress, name_at, next_row, phase_of, row_numbers, HasDistinctNames}
use Rattle.rl_view_spec.specs.Versions.{AreAlike, without_version}
use Rattle.rl_view_spec.specs.View.{View, Event, Answer, or_else, is_touched, first_of, kind_of, progress_of, log_of}
use Rattle.rl_view_spec.proofs.AfterLemmas.{run_out}
use Rattle.rl_view_spec.proofs.StepsLemmas.{map_alike, runs_stay}
use Rattle.rl_view_spec.proofs.VersionsLemmas.{alike_but_for_versions, alike_progress}
use Rattle.rl_states.specs.Changes.{fresh_progress}
use Rattle.rl_view.specs.Seen.{HasSeen, IsDue, asks, for_outcomes, progress_now, registered_now, versioned}

-- ---- the registry

bare_rows : (v : View) (past : List Event) (rows : List Row) → map without_version (map (versioned v past) rows) ≡ map without_version rows
bare_rows v past [] = refl
bare_rows v past (row ∷ rows) = ap (λ (rest : List Row). without_version row ∷ rest) (bare_rows v past rows)

pub alike_now : (v : View) (past : List Event) → AreAlike (registered_now v past) v.registered
alike_now v past =
    alike_but_for_versions (registered_now v past) v.registered
    (ap (λ (rows : List Row). record v.registered { rows = rows }) (bare_rows v past v.registered.rows))

pub long_now : (v : View) (past : List Event) → length (registered_now v past).rows ≡ length v.registered.rows
long_now v past = length-map v.registered.rows (versioned v past)

pub row_now : (v : View) (past : List Event) (k : ℕ) (row : Row) → slice_get v.registered.rows k ≡ Some row
    → slice_get (registered_now v past).rows k ≡ Some (versioned v past row)
row_now v past k row there = slice_get-map (versioned v past) v.registered.rows k ∙ ap (option_map (versioned v past)) there

-- the closures are the same
abbrev closures_by : List Text → List ℕ → (ℕ → Text) → (Text → Text → Bool) → List ℕ
closures_by asked numbers names closure = filter (λ row. list_any (λ name. closure name (names row)) asked) numbers

pub closures_now : (v : View) (past : List Event) (names : List Text) → closure_numbers (registered_now v past) names ≡ closure_numbers v.registered names
closures_now v past names =
    let r : Registered = v.registered in
    let s : Registered = registered_now v past in
    let a = alike_now v past in
    ap (λ (numbers : List ℕ). closures_by names numbers (name_at s) (in_closure s)) a.numbers
    ∙ ap (λ (at : ℕ → Text). closures_by names (row_numbers r) at (in_closure s)) (fun_ext a.names)
    ∙ ap (closures_by names (row_numbers r) (name_at r)) (fun_ext (λ name. fun_ext (a.closures name)))

-- ---- the progress

pub next_now : (v : View) (past : List Event) (log : List ℕ) → next_row (progress_now v past log) ≡ next_row (progress_of v past log)
next_now v past log = (alike_progress (registered_now v past) (progress_of v past log) (alike_now v past)).next

pub phase_now : (v : View) (past : List Event) (log : List ℕ) (row : ℕ) → phase_of (progress_now v past log) row ≡ phase_of (progress_of v past log) row
phase_now v past log = (alike_progress (registered_now v past) (progress_of v past log) (alike_now v past)).phases

abbrev pub cell_by : Bool → Option Answer → Cell
cell_by touched answer = record { touched = touched; outcome = option_map kind_of answer }

abbrev pub progress_by : Registered → List Cell → List (ℕ × Bool) → Progress
progress_by r cells ran = record { registered = r; cells = cells; ran = ran; executing = None }

-- the progress by what was touched, what came and what ran
abbrev now_by : View → (Text → Bool) → (Text → Option Answer) → List (ℕ × Bool) → Progress
now_by v touched first ran =
    progress_by (record v.registered {
      rows = map {A = Row} {B = Row} (λ row. record row { version = version_of (first row.name) row.version })
          v.registered.rows;
    })
    (map (λ row. cell_by (touched row.name) (first row.name)) v.registered.rows) ran

-- ---- a view with another past

-- where as much was touched, and the same came, nothing changes
pub seen_as : (v : View) (event other : Event) (past : List Event) (t : Progress) → IsDue v event past t
    → ((name : Text) → is_touched v (other ∷ past) name ≡ is_touched v (event ∷ past) name)
    → ((name : Text) → first_of v (other ∷ past) name ≡ first_of v (event ∷ past) name) → IsDue v other past t
seen_as v event other past t s touched first = record {
  distinct = s.distinct;
  table =
      s.table
      ∙ ap₂ (λ (touched : Text → Bool) (first : Text → Option Answer). now_by v touched first (progress_of v (event ∷ past) (log_of v past)).ran)
      (fun_ext (λ name. sym (touched name))) (fun_ext (λ name. sym (first name)))
      ∙ ap (now_by v (is_touched v (other ∷ past)) (first_of v (other ∷ past))) (runs_stay v event past ∙ sym (runs_stay v other past));
}

pub or_none : (b : Bool) (o : Option Answer) → or_else o (if b then None else None) ≡ o
or_none true None = refl
or_none true (Some answer) = refl
or_none false None = refl
or_none false (Some answer) = refl

pub first_asked : (v : View) (names : List Text) (past : List Event) (name : Text) → first_of v (asks names ∷ past) name ≡ first_of v past name
first_asked v names past name = or_none (is_touched v (asks names ∷ past) name && not (is_skipped v.registered name)) (first_of v past name)

-- nothing is asked for, and nothing came
pub seen_begin : (v : View) (past : List Event) (t : Progress) → HasSeen v past (log_of v past) t → IsDue v (asks []) past t
seen_begin v past t s = record {
  distinct = s.distinct;
  table =
      s.table
      ∙ ap (λ (first : Text → Option Answer). now_by v (is_touched v past) first (progress_of v past (log_of v past)).ran)
      (fun_ext (λ name. sym (first_asked v [] past name)))
      ∙ ap (now_by v (is_touched v past) (first_of v (asks [] ∷ past))) (sym (runs_stay v (asks []) past));
}

-- ---- the beginning

same_rows : (v : View) (rows : List Row) → rows ≡ map (versioned v []) rows
same_rows v [] = refl
same_rows v (row ∷ rows) = ap (λ (rest : List Row). row ∷ rest) (same_rows v rows)

pub seen_fresh : (v : View) (t : Progress) → HasDistinctNames v.registered → t ≡ fresh_progress v.registered → HasSeen v [] [] t
seen_fresh v t distinct e = record {
  distinct = distinct;
  table = e ∙ ap (λ (rows : List Row). record (fresh_progress v.registered) { registered = record v.registered { rows = rows } })
      (same_rows v v.registered.rows);
}

pub fresh_rest : (v : View) (t : Progress) → t ≡ fresh_progress v.registered → next_row t ≡ None
fresh_rest v t e = ap next_row e ∙ run_out v []

pub outcomes_asked : {X : Type 0} (f : Option Answer → X) (v : View) (names : List Text) (past : List Event) →
    for_outcomes f v (asks names ∷ past) ≡ for_outcomes f v past
outcomes_asked f v names past = map_alike (λ (row : Row). f (first_of v (asks names ∷ past) row.name)) (λ (row : Row). f (first_of v past row.name))
    v.registered.rows
    (λ row c. ap f (first_asked v names past row.name))
