-- What an answer does to a table.
use Rattle.std.proofs.Common.{◌≡◌, ◌≢◌, ℕ, ◌<◌, List, [], ◌∷◌, Bool, true, false, ◌&&◌, not, length, map, Option, Some, None, refl}
use Rattle.std.proofs.Common.{ap, ap₂, sym, ◌∙◌, ⊎_elim}
use Rattle.std.specs.Prelude.{bytes_eq, find, if◌then◌else◌, is_none, is_some, option_and_then, option_map, slice_get, slice_set}
use Rattle.std.specs.Option.{option_map_or, option_or}
use Rattle.std.proofs.lemmas.Bool.{and_left, and_parts, both_ways, cases_Bool, false_from_ne_true}
use Rattle.std.proofs.lemmas.List.Folds.{find-append}
use Rattle.std.proofs.lemmas.Option.{slice_get_within}
use Rattle.rl_names.specs.declared.row.Row.{Row}
use Rattle.rl_view_spec.specs.Closure.{Text, Registered, is_skipped}
use Rattle.rl_view_spec.specs.Keys.{counts, version_of}
use Rattle.rl_view_spec.specs.Laws.{AreLawful}
use Rattle.rl_view_spec.specs.Numbers.{number_of}
use Rattle.rl_view_spec.specs.Progress.{Progress, HasDistinctNames, name_at, is_skipped_at, outcome_at}
use Rattle.rl_view_spec.specs.View.{View, Event, Answer, Implementation, Missing, Failed, GivenUp, or_else, is_touched, first_of, kind_of, cell_of, progress_of}
use Rattle.rl_view_spec.specs.View.{log_of}
use Rattle.rl_view_spec.proofs.ChainsLemmas.{same}
use Rattle.rl_view_spec.proofs.LogLemmas.{touched_row, outcome_row}
use Rattle.rl_view_spec.proofs.PlacesLemmas.{alike, apart, bytes_eq-from, name_there, skips_alike}
use Rattle.rl_view_spec.proofs.ResolveLemmas.{closure_itself, touched_resolves}
use Rattle.rl_view_spec.proofs.StepsLemmas.{map_alike, runs_stay}
use Rattle.rl_view_spec.proofs.ToolsLemmas.{place_there}
use Rattle.rl_rows.proofs.EdgesLemmas.{number_found, number_named}
use Rattle.rl_registry.specs.Rows.{with_version}
use Rattle.rl_states.specs.Changes.{after_outcome}
use Rattle.rl_view.specs.Seen.{HasSeen, IsDue, after_answer, counting_row, counts_at, for_outcomes, progress_now, registered_now, with_answer}
use Rattle.rl_view.proofs.ListsLemmas.{set_placed}
use Rattle.rl_view.proofs.NowLemmas.{alike_now, cell_by, or_none, progress_by, row_now, seen_as}

-- ---- one answer more

join : (first : Option Answer) (due here : Bool) (found : Option (Text × Answer)) (name : Text) (answer : Answer)
    → or_else first (if due then option_map (λ (coming : Text × Answer). coming.1) (option_or found (if here then Some (name, answer) else None)) else None)
    ≡ or_else (or_else first (if due then option_map (λ (coming : Text × Answer). coming.1) found else None))
    (if due then (if here then Some answer else None) else None)
join (Some first) due here found name answer = refl
join None false here found name answer = refl
join None true here (Some found) name answer = refl
join None true true None name answer = refl
join None true false None name answer = refl

-- the first outcome is that before it, or the answer where it is for the name
pub first_more : (v : View) (part : Text) (answer : Answer) (event : Event) (past : List Event) (name : Text)
    → first_of v (with_answer part answer event ∷ past) name
    ≡ or_else (first_of v (event ∷ past) name)
    (if is_touched v (event ∷ past) name && not (is_skipped v.registered name) then (if bytes_eq part name then Some answer else None) else None)
first_more v part answer event past name =
    let due : Bool = is_touched v (event ∷ past) name && not (is_skipped v.registered name) in
    ap (λ (found : Option (Text × Answer)). or_else (first_of v past name) (if due then option_map (λ (coming : Text × Answer). coming.1) found else None))
    (find-append (λ (coming : Text × Answer). bytes_eq coming.0 name) event.came ((part, answer) ∷ []))
    ∙ join (first_of v past name) due (bytes_eq part name) (find (λ (coming : Text × Answer). bytes_eq coming.0 name) event.came) part answer

-- ---- where it is passed over

kept : (b : Bool) (o : Option Answer) (answer : Answer) → (b && is_none o) ≡ false → or_else o (if b then Some answer else None) ≡ o
kept true None answer h = cc
kept true (Some other) answer h = refl
kept false None answer h = refl
kept false (Some other) answer h = refl

first_passed : (v : View) (part : Text) (answer : Answer) (event : Event) (past : List Event) (name : Text) → counts v (event ∷ past) part ≡ false
    → first_of v (with_answer part answer event ∷ past) name ≡ first_of v (event ∷ past) name
first_passed v part answer event past name c = first_more v part answer event past name ∙ step (bytes_eq part name) refl
  where
    step : (here : Bool) → bytes_eq part name ≡ here
        → or_else (first_of v (event ∷ past) name) (if is_touched v (event ∷ past) name && not (is_skipped v.registered name) then
        (if here then Some answer else None) else None)
        ≡ first_of v (event ∷ past) name
    step false e = or_none (is_touched v (event ∷ past) name && not (is_skipped v.registered name)) (first_of v (event ∷ past) name)
    step true e = kept (is_touched v (event ∷ past) name && not (is_skipped v.registered name)) (first_of v (event ∷ past) name) answer
        (ap (counts v (event ∷ past)) (sym (same part name e)) ∙ c)

-- an answer that does not count changes nothing
pub seen_passed : (v : View) (part : Text) (answer : Answer) (event : Event) (past : List Event) (t : Progress)
    → IsDue v event past t → counts v (event ∷ past) part ≡ false → IsDue v (with_answer part answer event) past t
seen_passed v part answer event past t s c =
    seen_as v event (with_answer part answer event) past t s (λ name. refl) (λ name. first_passed v part answer event past name c)

pub outcomes_passed : {X : Type 0} (f : Option Answer → X) (v : View) (part : Text) (answer : Answer) (event : Event) (past : List Event)
    → counts v (event ∷ past) part ≡ false → for_outcomes f v (with_answer part answer event ∷ past) ≡ for_outcomes f v (event ∷ past)
outcomes_passed f v part answer event past c = map_alike
    (λ (row : Row). f (first_of v (with_answer part answer event ∷ past) row.name)) (λ (row : Row). f (first_of v (event ∷ past) row.name))
    v.registered.rows
    (λ row d. ap f (first_passed v part answer event past row.name c))

-- ---- the row for which it counts

is_none_kind : (o : Option Answer) → is_none (option_map kind_of o) ≡ is_none o
is_none_kind None = refl
is_none_kind (Some answer) = refl

-- a row counts where its name does
pub counting_at : (v : View) (past : List Event) (log : List ℕ) (t : Progress) (k : ℕ) → HasSeen v past log t → k < length v.registered.rows
    → counts_at t k ≡ counts v past (name_at v.registered k)
counting_at v past log t k s low =
    let name : Text = name_at v.registered k in
    ap (λ (p : Progress). counts_at p k) s.table
    ∙ ap (λ (b : Bool). b && not (is_skipped_at (registered_now v past) k) && is_none (outcome_at (progress_of v past log) k)) (touched_row v past log k low)
    ∙ ap (λ (b : Bool). is_touched v past name && not b && is_none (outcome_at (progress_of v past log) k))
    ((alike_now v past).skips k ∙ skips_alike v.registered s.distinct k low)
    ∙ ap (λ (b : Bool). is_touched v past name && not (is_skipped v.registered name) && b)
    (ap is_none (outcome_row v past log k low) ∙ is_none_kind (first_of v past name))

some_if : (b : Bool) (k : ℕ) → is_some (if b then Some k else None) ≡ b
some_if true k = refl
some_if false k = refl

found_now : (v : View) (past : List Event) (log : List ℕ) (t : Progress) (name : Text) → HasSeen v past log t →
    number_of t.registered name ≡ number_of v.registered name
found_now v past log t name s = ap (λ (p : Progress). number_of p.registered name) s.table ∙ (alike_now v past).found name

-- an answer counts for a row exactly where it counts for its name
pub counting_alike : (v : View) (past : List Event) (log : List ℕ) (t : Progress) (name : Text) → AreLawful v past → HasSeen v past log t
    → is_some (counting_row t name) ≡ counts v past name
counting_alike v past log t name lawful s =
    ap (λ (o : Option ℕ). is_some (option_and_then (λ row. if counts_at t row then Some row else None) o)) (found_now v past log t name s)
    ∙ step (number_of v.registered name) refl
  where
    step : (o : Option ℕ) → number_of v.registered name ≡ o
        → is_some (option_and_then (λ row. if counts_at t row then Some row else None) o) ≡ counts v past name
    step None e =
        let untouched : is_touched v past name ≡ false = false_from_ne_true (is_touched v past name) (λ t.
        let f = number_found v.registered name ((touched_resolves v past name lawful t).known name (closure_itself v.registered name)) in
        let g : None ≡ Some f.0 = sym e ∙ f.1 in absurd (cc)) in
        sym (and_left (is_touched v past name && not (is_skipped v.registered name)) (is_none (first_of v past name))
        (and_left (is_touched v past name) (not (is_skipped v.registered name)) untouched))
    step (Some k) e =
        let n = number_named v.registered name k e in
        some_if (counts_at t k) k ∙ counting_at v past log t k s n.0 ∙ ap (counts v past) n.1

-- an answer of this name counts for the row of this number
pub record Counting (v : View) (past : List Event) (part : Text) (k : ℕ) : Type 0 where
  pub inside : k < length v.registered.rows
  pub named : name_at v.registered k ≡ part
  pub due : (is_touched v past part && not (is_skipped v.registered part)) ≡ true
  pub touched : is_touched v past part ≡ true
  pub first : first_of v past part ≡ None

none_is : (o : Option Answer) → is_none o ≡ true → o ≡ None
none_is None h = refl
none_is (Some answer) h = cc

counting_from : (v : View) (past : List Event) (part : Text) (k : ℕ) → k < length v.registered.rows → name_at v.registered k ≡ part →
    counts v past part ≡ true → Counting v past part k
counting_from v past part k low named c =
    let parts = and_parts (is_touched v past part && not (is_skipped v.registered part)) (is_none (first_of v past part)) c in
    record {
      inside = low;
      named = named;
      due = parts.0;
      touched = (and_parts (is_touched v past part) (not (is_skipped v.registered part)) parts.0).0;
      first = none_is (first_of v past part) parts.1;
    }

-- by the number of a row
pub counting_here : (v : View) (past : List Event) (log : List ℕ) (t : Progress) (k : ℕ) → HasSeen v past log t → k < length v.registered.rows →
    counts_at t k ≡ true
    → Counting v past (name_at v.registered k) k
counting_here v past log t k s low c = counting_from v past (name_at v.registered k) k low refl (sym (counting_at v past log t k s low) ∙ c)

some_is : (b : Bool) (k row : ℕ) → (if b then Some row else None) ≡ Some k → (b ≡ true) × (row ≡ k)
some_is true k row h = (refl, cc)
some_is false k row h = absurd (cc)

-- by its name
pub counting : (v : View) (past : List Event) (log : List ℕ) (t : Progress) (part : Text) (k : ℕ) → HasSeen v past log t →
    counting_row t part ≡ Some k → Counting v past part k
counting v past log t part k s h =
    step (number_of v.registered part) refl (ap (option_and_then (λ row. if counts_at t row then Some row else None)) (sym (found_now v past log t part s))
    ∙ h)
  where
    step : (o : Option ℕ) → number_of v.registered part ≡ o → option_and_then (λ row. if counts_at t row then Some row else None) o ≡ Some k →
        Counting v past part k
    step None e h = absurd (cc)
    step (Some row) e h =
        let m = some_is (counts_at t row) k row h in
        let n = number_named v.registered part k (e ∙ ap Some m.1) in
        counting_from v past part k n.0 n.1
        (ap (counts v past) (sym n.1) ∙ sym (counting_at v past log t k s n.0) ∙ ap (counts_at t) (sym m.1) ∙ m.0)

-- ---- where it is used

module _ (v : View) (part : Text) (answer : Answer) (event : Event) (past : List Event) (k : ℕ) (c : Counting v (event ∷ past) part k) where
  abbrev next : Event
  next = with_answer part answer event

  first_used : first_of v (next ∷ past) part ≡ Some answer
  first_used =
      first_more v part answer event past part
      ∙ ap (λ (o : Option Answer). or_else o (if is_touched v (event ∷ past) part && not (is_skipped v.registered part) then
      (if bytes_eq part part then Some answer else None) else None)) c.first
      ∙ ap (λ (b : Bool). if b then (if bytes_eq part part then Some answer else None) else None) c.due
      ∙ ap (λ (b : Bool). if b then Some answer else None) (alike part)

  first_other : (name : Text) → (part ≡ name → ⊥) → first_of v (next ∷ past) name ≡ first_of v (event ∷ past) name
  first_other name ne =
      first_more v part answer event past name
      ∙ ap (λ (b : Bool). or_else (first_of v (event ∷ past) name)
      (if is_touched v (event ∷ past) name && not (is_skipped v.registered name) then (if b then Some answer else None) else None))
      (false_from_ne_true (bytes_eq part name) (λ e. ne (same part name e)))
      ∙ or_none (is_touched v (event ∷ past) name && not (is_skipped v.registered name)) (first_of v (event ∷ past) name)

  module _ (distinct : HasDistinctNames v.registered) where
    apart_from : (j : ℕ) (row : Row) → slice_get v.registered.rows j ≡ Some row → j ≢ k → part ≡ row.name → ⊥
    apart_from j row there ne q =
        ne (apart v.registered distinct j k (slice_get_within v.registered.rows j row there) c.inside
        (name_there v.registered j row there ∙ sym q ∙ sym c.named))

    -- what follows of the first outcomes changes at that row alone
    pub set_used : {X : Type 0} (f : Row → Option Answer → X) (x : X)
        → ((row : Row) → slice_get v.registered.rows k ≡ Some row → f row (Some answer) ≡ x)
        → slice_set (map (λ row. f row (first_of v (event ∷ past) row.name)) v.registered.rows) k x
        ≡ map (λ row. f row (first_of v (next ∷ past) row.name)) v.registered.rows
    set_used {X = X} f x h =
        let m = place_there v.registered.rows k c.inside in
        let name : m.0.name ≡ part = sym (name_there v.registered k m.0 m.1) ∙ c.named in
        let here : f m.0 (first_of v (next ∷ past) m.0.name) ≡ x =
        ap (λ (n : Text). f m.0 (first_of v (next ∷ past) n)) name ∙ ap (f m.0) first_used ∙ h m.0 m.1 in
        ap (slice_set (map (λ (row : Row). f row (first_of v (event ∷ past) row.name)) v.registered.rows) k) (sym here)
        ∙ set_placed (λ (row : Row). f row (first_of v (event ∷ past) row.name)) (λ (row : Row). f row (first_of v (next ∷ past) row.name))
        v.registered.rows k m.0 m.1
        (λ j row there ne. ap (f row) (sym (first_other row.name (apart_from j row there ne))))

    pub outcomes_used : {X : Type 0} (f : Option Answer → X) →
        slice_set (for_outcomes f v (event ∷ past)) k (f (Some answer)) ≡ for_outcomes f v (next ∷ past)
    outcomes_used f = set_used (λ row. f) (f (Some answer)) (λ row there. refl)

    cells_used : slice_set (map (cell_of v (event ∷ past)) v.registered.rows) k (cell_by true (Some answer))
        ≡ map (cell_of v (next ∷ past)) v.registered.rows
    cells_used =
        set_used (λ row. cell_by (is_touched v (event ∷ past) row.name)) (cell_by true (Some answer))
        (λ row there. ap (λ (b : Bool). cell_by b (Some answer))
        (ap (is_touched v (event ∷ past)) (sym (name_there v.registered k row there) ∙ c.named) ∙ c.touched))

-- ---- the table

-- what follows of the answer as of none is as before
plain_map : {X : Type 0} (v : View) (part : Text) (answer : Answer) (event : Event) (past : List Event) (k : ℕ) → Counting v (event ∷ past) part k
    → (f : Row → Option Answer → X) → ((row : Row) → f row (Some answer) ≡ f row None)
    → map (λ row. f row (first_of v (with_answer part answer event ∷ past) row.name)) v.registered.rows
    ≡ map (λ row. f row (first_of v (event ∷ past) row.name)) v.registered.rows
plain_map v part answer event past k c f plain =
    map_alike (λ row. f row (first_of v (with_answer part answer event ∷ past) row.name)) (λ row. f row (first_of v (event ∷ past) row.name))
    v.registered.rows
    (λ row d. ⊎_elim
    (λ e. let named : part ≡ row.name = same part row.name e in
    ap (f row) (ap (first_of v (with_answer part answer event ∷ past)) (sym named) ∙ first_used v part answer event past k c)
    ∙ plain row
    ∙ ap (f row) (sym c.first ∙ ap (first_of v (event ∷ past)) named))
    (λ ne. ap (f row) (first_other v part answer event past k c row.name (λ e. both_ways (bytes_eq part row.name) ne (bytes_eq-from part row.name e))))
    (cases_Bool (bytes_eq part row.name)))

pub outcomes_plain : {X : Type 0} (f : Option Answer → X) (v : View) (part : Text) (answer : Answer) (event : Event) (past : List Event) (k : ℕ)
    → Counting v (event ∷ past) part k → f (Some answer) ≡ f None →
    for_outcomes f v (with_answer part answer event ∷ past) ≡ for_outcomes f v (event ∷ past)
outcomes_plain f v part answer event past k c plain = plain_map v part answer event past k c (λ row. f) (λ row. plain)

same_version : (v : View) (part : Text) (answer : Answer) (event : Event) (past : List Event) (k : ℕ) → Counting v (event ∷ past) part k
    → ((version : Option Text) → version_of (Some answer) version ≡ version) →
    registered_now v (event ∷ past) ≡ registered_now v (with_answer part answer event ∷ past)
same_version v part answer event past k c plain =
    ap (λ (rows : List Row). record v.registered { rows = rows })
    (sym (plain_map v part answer event past k c (λ row o. record row { version = version_of o row.version })
    (λ row. ap (λ (version : Option Text). record row { version = version }) (plain row.version))))

new_version : (v : View) (part version script : Text) (event : Event) (past : List Event) (k : ℕ) → HasDistinctNames v.registered →
    Counting v (event ∷ past) part k
    → with_version (registered_now v (event ∷ past)) k version ≡ registered_now v (with_answer part (Implementation version script) event ∷ past)
new_version v part version script event past k distinct c =
    let r : Registered = v.registered in
    let s : Registered = registered_now v (event ∷ past) in
    let m = place_there r.rows k c.inside in
    ap (λ (o : Option Row). record s { rows = option_map_or (λ found. slice_set s.rows k (record found { version = Some version })) o s.rows })
    (row_now v (event ∷ past) k m.0 m.1)
    ∙ ap (λ (rows : List Row). record r { rows = rows })
    (set_used v part (Implementation version script) event past k c distinct (λ row o. record row { version = version_of o row.version })
    (record m.0 { version = Some version })
    (λ row there. let same : Some row ≡ Some m.0 = sym there ∙ m.1 in let is : row
    ≡ m.0 = cc in ap (λ (found : Row). record found { version = Some version }) is))

-- the first answer of a row
pub seen_used : (v : View) (part : Text) (answer : Answer) (event : Event) (past : List Event) (k : ℕ) (t t' : Progress)
    → IsDue v event past t → Counting v (event ∷ past) part k → t' ≡ after_answer k answer t → IsDue v (with_answer part answer event) past t'
seen_used v part answer event past k t t' s c e = record { distinct = s.distinct; table = e ∙ ap (after_answer k answer) s.table ∙ changed answer c }
  where
    ran : (answer : Answer) → (progress_of v (event ∷ past) (log_of v past)).ran
        ≡ (progress_of v (with_answer part answer event ∷ past) (log_of v past)).ran
    ran answer = runs_stay v event past ∙ sym (runs_stay v (with_answer part answer event) past)

    plain : (answer : Answer) → Counting v (event ∷ past) part k → ((version : Option Text) → version_of (Some answer) version ≡ version)
        → after_outcome k (kind_of answer) (progress_now v (event ∷ past) (log_of v past))
        ≡ progress_now v (with_answer part answer event ∷ past) (log_of v past)
    plain answer c h =
        ap (λ (r : Registered). progress_by r (slice_set (map (cell_of v (event ∷ past)) v.registered.rows) k (cell_by true (Some answer)))
        (progress_of v (event ∷ past) (log_of v past)).ran)
        (same_version v part answer event past k c h)
        ∙ ap₂ (progress_by (registered_now v (with_answer part answer event ∷ past))) (cells_used v part answer event past k c s.distinct) (ran answer)

    changed : (answer : Answer) → Counting v (event ∷ past) part k →
        after_answer k answer (progress_now v (event ∷ past) (log_of v past)) ≡ progress_now v (with_answer part answer event ∷ past) (log_of v past)
    changed (Implementation version script) c =
        ap (λ (r : Registered). progress_by r (slice_set (map (cell_of v (event ∷ past)) v.registered.rows) k
        (cell_by true (Some (Implementation version script)))) (progress_of v (event ∷ past) (log_of v past)).ran)
        (new_version v part version script event past k s.distinct c)
        ∙ ap₂ (progress_by (registered_now v (with_answer part (Implementation version script) event ∷ past)))
        (cells_used v part (Implementation version script) event past k c s.distinct) (ran (Implementation version script))
    changed Missing c = plain Missing c (λ version. refl)
    changed Failed c = plain Failed c (λ version. refl)
    changed GivenUp c = plain GivenUp c (λ version. refl)
