-- What a request does to a table.
use Rattle.std.proofs.Common.{◌≡◌, ℕ, ◌+◌, ◌<◌, List, ◌∷◌, Bool, true, false, ◌||◌, length, map, nat_eq, Option, Some, refl, ap}
use Rattle.std.proofs.Common.{ap₂, sym, subst, ◌∙◌, arith, get_or}
use Rattle.std.specs.Prelude.{All, Contains, filter, if◌then◌else◌, slice_get}
use Rattle.std.specs.List.{list_any}
use Rattle.std.proofs.lemmas.Bool.{eqb-true, eq-eqb}
use Rattle.std.proofs.lemmas.List.Elements.{Contains-get_or}
use Rattle.std.proofs.lemmas.Option.{slice_get_within}
use Rattle.rl_names.specs.declared.row.Row.{Row}
use Rattle.rl_view_spec.specs.Closure.{Text, Registered, in_closures}
use Rattle.rl_view_spec.specs.Keys.{version_of}
use Rattle.rl_view_spec.specs.Numbers.{closure_numbers}
use Rattle.rl_view_spec.specs.Progress.{Progress, Cell, name_at, row_numbers}
use Rattle.rl_view_spec.specs.View.{View, Event, Answer, is_touched, first_of, cell_of, progress_of, log_of}
use Rattle.rl_view_spec.proofs.ToolsLemmas.{any_one, one_any, contains_filter, filter_contains}
use Rattle.rl_view_spec.proofs.PlacesLemmas.{name_there, number_in, number_within}
use Rattle.rl_view_spec.proofs.StatesLemmas.{iff_same}
use Rattle.rl_view_spec.proofs.StepsLemmas.{map_alike, runs_stay}
use Rattle.rl_states.specs.Changes.{after_touch}
use Rattle.rl_states.specs.Standings.{by_place}
use Rattle.rl_view.specs.Seen.{HasSeen, IsDue, asks, progress_now, registered_now, versioned}
use Rattle.rl_view.proofs.ListsLemmas.{placed}
use Rattle.rl_view.proofs.NowLemmas.{cell_by, closures_now, first_asked, progress_by}

-- a number is kept by a filter where it passes
any_filter : (p : ℕ → Bool) (xs : List ℕ) (k : ℕ) → Contains xs k → list_any (nat_eq k) (filter p xs) ≡ p k
any_filter p xs k c = iff_same (list_any (nat_eq k) (filter p xs)) (p k)
    (λ h. let m = any_one (nat_eq k) (filter p xs) h in
    let e : k ≡ m.0 = eqb-true k m.0 m.2 in
    ap p e ∙ (filter_contains p xs m.0 m.1).1)
    (λ h. one_any (nat_eq k) (filter p xs) k (contains_filter p xs k c h) (eq-eqb k k refl))

closure_any : (r : Registered) (names : List Text) (k : ℕ) → k < length r.rows →
    list_any (nat_eq k) (closure_numbers r names) ≡ in_closures r names (name_at r k)
closure_any r names k low = any_filter (λ row. in_closures r names (name_at r row)) (row_numbers r) k (number_in r k low)

-- the rows of closures are rows
pub closure_within : (r : Registered) (names : List Text) → All (λ row. row < length r.rows) (closure_numbers r names)
closure_within r names k d low =
    number_within r (get_or (closure_numbers r names) k d)
    (filter_contains (λ row. in_closures r names (name_at r row)) (row_numbers r) (get_or (closure_numbers r names) k d)
    (Contains-get_or (closure_numbers r names) k d low)).0

cell_asked : (v : View) (names : List Text) (past : List Event) (row : Row)
    → cell_of v (asks names ∷ past) row ≡ cell_by (in_closures v.registered names row.name || is_touched v past row.name) (first_of v past row.name)
cell_asked v names past row = ap (cell_by (in_closures v.registered names row.name || is_touched v past row.name)) (first_asked v names past row.name)

touch_if : (b t : Bool) (o : Option Answer) → (if b then record (cell_by t o) { touched = true } else cell_by t o) ≡ cell_by (b || t) o
touch_if true t o = refl
touch_if false t o = refl

touch_cell : (v : View) (names : List Text) (past : List Event) (k : ℕ) (row : Row) → slice_get v.registered.rows k ≡ Some row
    → (if list_any (nat_eq k) (closure_numbers v.registered names) then record (cell_of v past row) { touched = true } else cell_of v past row)
    ≡ cell_of v (asks names ∷ past) row
touch_cell v names past k row there =
    let r : Registered = v.registered in
    let low : k < length r.rows = slice_get_within r.rows k row there in
    let among : list_any (nat_eq k) (closure_numbers r names) ≡ in_closures r names row.name =
    closure_any r names k low ∙ ap (in_closures r names) (name_there r k row there) in
    ap (λ (b : Bool). if b then record (cell_of v past row) { touched = true } else cell_of v past row) among
    ∙ touch_if (in_closures r names row.name) (is_touched v past row.name) (first_of v past row.name)
    ∙ sym (cell_asked v names past row)

asked_rows : (v : View) (names : List Text) (past : List Event) → (registered_now v past).rows ≡ (registered_now v (asks names ∷ past)).rows
asked_rows v names past = map_alike (versioned v past) (versioned v (asks names ∷ past)) v.registered.rows
    (λ row c. ap (λ (o : Option Answer). record row { version = version_of o row.version }) (sym (first_asked v names past row.name)))

-- the closures of the names are touched
pub seen_touch : (v : View) (names : List Text) (past : List Event) (t t' : Progress)
    → HasSeen v past (log_of v past) t → t' ≡ after_touch (closure_numbers t.registered names) t → IsDue v (asks names) past t'
seen_touch v names past t t' s e =
    let r : Registered = v.registered in
    let log : List ℕ = log_of v past in
    let rows : List ℕ = closure_numbers r names in
    let are : by_place (λ row cell. if list_any (nat_eq row) rows then record cell { touched = true } else cell) (map (cell_of v past) r.rows)
    ≡ map (cell_of v (asks names ∷ past)) r.rows =
    placed (λ row cell. if list_any (nat_eq row) rows then record cell { touched = true } else cell)
    (cell_of v past) (cell_of v (asks names ∷ past)) 0 r.rows
    (λ k row there. let zero : 0 + k ≡ k = omega arith in
    subst (λ (m : ℕ). (if list_any (nat_eq m) rows then record (cell_of v past row) { touched = true } else cell_of v past row)
    ≡ cell_of v (asks names ∷ past) row)
    (sym zero) (touch_cell v names past k row there)) in
    record {
      distinct = s.distinct;
      table =
          e ∙ ap (λ (p : Progress). after_touch (closure_numbers p.registered names) p) s.table
          ∙ ap (λ (numbers : List ℕ). after_touch numbers (progress_now v past log)) (closures_now v past names)
          ∙ ap (λ (cells : List Cell). progress_by (registered_now v past) cells (progress_of v past log).ran) are
          ∙ ap₂ (λ (rows : List Row) (ran : List (ℕ × Bool)). progress_by (record r { rows = rows }) (map (cell_of v (asks names ∷ past)) r.rows) ran)
          (asked_rows v names past) (sym (runs_stay v (asks names) past));
    }
