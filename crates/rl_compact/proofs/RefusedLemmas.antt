-- The marks say which rows do not resolve.
use Rattle.std.proofs.Common.{◌≡◌, ◌≢◌, ℕ, suc, ◌<◌, ◌≤◌, List, [], ◌∷◌, Bool, true, false, cond, not, length, map, get_or}
use Rattle.std.proofs.Common.{nat_eq, Option, Some, None, refl, ap, sym, subst, ◌∙◌, ⊎_elim, inl, inr, arith}
use Rattle.std.specs.Prelude.{Contains, filter, is_none, option_map, option_and_then}
use Rattle.std.specs.Option.{option_map_or}
use Rattle.std.specs.List.{list_all, list_any, filter_map, cons_option}
use Rattle.std.proofs.lemmas.Bool.{both_ways, cases_Bool, false_from_ne_true, ne_eqb, eqb-false, eqb-true, ltb-true}
use Rattle.std.proofs.lemmas.List.{get_or-map}
use Rattle.rl_names.specs.declared.row.Row.{Row}
use Rattle.rl_names.specs.declared.row.Dep.{Dep}
use Rattle.rl_names.specs.declared.row.Dep.TheVariants.{At, Named}
use Rattle.rl_graph.specs.Graph.{next_in, marked, Reaches, Walks}
use Rattle.rl_view_spec.specs.Closure.{Text, Registered, Refusal, Unknown, Cycle, row_of, has_row, deps_of, deps_of_row, dep_name, Leads, InClosure, IsCyclic}
use Rattle.rl_view_spec.specs.Closure.{resolves, Resolves, refusal_of}
use Rattle.rl_view_spec.specs.Direct.{is_within}
use Rattle.rl_view_spec.specs.Numbers.{needed, number_of, number_of_dep}
use Rattle.rl_view_spec.specs.Progress.{name_at, HasDistinctNames}
use Rattle.rl_view_spec.proofs.ChainsLemmas.{row_from_dep}
use Rattle.rl_view_spec.proofs.DepsLemmas.{contains_filter_map, filter_map_contains}
use Rattle.rl_view_spec.proofs.PlacesLemmas as places
use Rattle.rl_view_spec.proofs.RefusalsLemmas.{refused_unknown, refused_cycle}
use Rattle.rl_view_spec.proofs.ResolveLemmas.{closure_on, resolves_itself}
use Rattle.rl_view_spec.proofs.StatesLemmas.{iff_same}
use Rattle.rl_view_spec.proofs.ToolsLemmas.{all_each, contains_head, contains_tail, contains_cases, contains_none, place_in}
use Rattle.rl_rows.specs.Edges.{IsIndexed}
use Rattle.rl_rows.proofs.EdgesLemmas.{blank, kept_indexed, row_there, row_is, number_found, number_named}
use Rattle.rl_rows.proofs.WalkingLemmas.{led_has_row, leads_from_walk, walk_from_leads}
use Rattle.rl_compact.specs.Compact.{plain, names_in, brings, is_brought}
use Rattle.rl_compact.specs.Laws.{lacks, LeftIsUnmarked, MarksSayUnresolved}
use Rattle.rl_compact.specs.Unmarked.{unmarked}
use Rattle.rl_compact.specs.Unresolved.{IsBad}
use Rattle.rl_compact.proofs.ClosuresLemmas.{no_feature}
use Rattle.rl_compact.proofs.MarkedLemmas.{all_names, marks_say_brought}

-- ---- lists of what each has

filter_le : {X Y : Type 0} (f : X → Option Y) (xs : List X) → length (filter_map f xs) ≤ length xs
filter_le f [] = omega arith
filter_le {Y = Y} f (x ∷ xs) = step (f x) (filter_le f xs)
  where
    step : (o : Option Y) → length (filter_map f xs) ≤ length xs → length (cons_option o (filter_map f xs)) ≤ suc (length xs)
    step None h = omega (arith, h)
    step (Some y) h = omega (arith, h)

-- one without a value makes it shorter
one_less : {X Y : Type 0} (f : X → Option Y) (xs : List X) (x : X) → Contains xs x → f x ≡ None → length (filter_map f xs) < length xs
one_less f [] x c e = absurd (contains_none x c)
one_less {Y = Y} f (z ∷ xs) x c e = ⊎_elim (λ s. here (ap f s ∙ e)) (λ t. there (f z) (one_less f xs x t e)) (contains_cases z xs x c)
  where
    here : f z ≡ None → length (cons_option (f z) (filter_map f xs)) < suc (length xs)
    here g = subst (λ (o : Option Y). length (cons_option o (filter_map f xs)) < suc (length xs)) (sym g) (omega (arith, filter_le f xs))

    there : (o : Option Y) → length (filter_map f xs) < length xs → length (cons_option o (filter_map f xs)) < suc (length xs)
    there None h = omega (arith, h)
    there (Some y) h = omega (arith, h)

-- where it is shorter one has no value
lacking : {X Y : Type 0} (f : X → Option Y) (xs : List X) → length (filter_map f xs) < length xs → (x : X) × Contains xs x × (f x ≡ None)
lacking f [] h = absurd (omega (arith, h))
lacking {X = X} {Y = Y} f (z ∷ xs) h = step (f z) refl (λ g. lacking f xs g) h
  where
    step : (o : Option Y) → f z ≡ o → (length (filter_map f xs) < length xs → (x : X) × Contains xs x × (f x ≡ None)) →
        length (cons_option o (filter_map f xs)) < suc (length xs) → (x : X) × Contains (z ∷ xs) x × (f x ≡ None)
    step None e rest g = (z, contains_head z xs, e)
    step (Some y) e rest g = let m = rest (omega (arith, g)) in (m.0, contains_tail z xs m.0 m.1, m.2)

contains_one_text : (a x : Text) → Contains (a ∷ []) x → a ≡ x
contains_one_text a x c = ⊎_elim (λ e. e) (λ d. absurd (contains_none x d)) (contains_cases a [] x c)

-- ---- rows that lack a row

all_needed : (rows : List Row) (row : Row) → needed (plain rows) row ≡ filter_map (number_of_dep (plain rows)) row.deps
all_needed rows row = ap (λ (b : Bool). cond b [] (filter_map (number_of_dep (plain rows)) row.deps)) (no_feature rows row.skip)

-- the name of a dependency that has no row
named_dep : (rows : List Row) (dep : Dep) → is_within (plain rows) dep ≡ true → (name : Text) × (dep_name (plain rows) dep ≡ Some name)
named_dep rows (At k) h = let low : k < length rows = ltb-true k (length rows) h in
    ((get_or rows k blank).name, ap (option_map (λ row. row.name)) (row_there rows k low))
named_dep rows (Named name) h = (name, refl)

no_number : (rows : List Row) (name : Text) → number_of (plain rows) name ≡ None → has_row (plain rows) name ≡ true → ⊥
no_number rows name e h = let n = number_found (plain rows) name h in let g : None ≡ Some n.0 = sym e ∙ n.1 in cc

number_none : (rows : List Row) (name : Text) → has_row (plain rows) name ≡ false → number_of (plain rows) name ≡ None
number_none rows name h = step (number_of (plain rows) name) refl
  where
    step : (o : Option ℕ) → number_of (plain rows) name ≡ o → o ≡ None
    step None e = refl
    step (Some k) e =
        let n = number_named (plain rows) name k e in
        absurd (both_ways (has_row (plain rows) name) h (subst (λ (x : Text). has_row (plain rows) x ≡ true) n.1 (places.number_named (plain rows) k n.0)))

-- a row that lacks something depends on a name without a row
lacks_name : (rows : List Row) (row : Row) → list_all (is_within (plain rows)) row.deps ≡ true → lacks rows row ≡ true →
    (name : Text) × Contains (names_in rows row) name × (number_of (plain rows) name ≡ None)
lacks_name rows row within h =
    let off : nat_eq (length (needed (plain rows) row)) (length row.deps)
    ≡ false = ⊎_elim (λ t. absurd (both_ways (lacks rows row) (ap not t) h)) (λ f. f)
    (cases_Bool (nat_eq (length (needed (plain rows) row)) (length row.deps))) in
    let ne : length (needed (plain rows) row) ≢ length row.deps = eqb-false (length (needed (plain rows) row)) (length row.deps) off in
    let m = lacking (number_of_dep (plain rows)) row.deps (omega (arith, ne, ap length (all_needed rows row), filter_le (number_of_dep (plain rows)) row.deps))
    in
    let d = named_dep rows m.0 (all_each (is_within (plain rows)) row.deps m.0 within m.1) in
    (d.0, contains_filter_map (dep_name (plain rows)) row.deps m.0 d.0 m.1 d.1, sym (ap (option_and_then (number_of (plain rows))) d.1) ∙ m.2)

-- and one that depends on such a name lacks something
name_lacks : (rows : List Row) (row : Row) (name : Text) → Contains (names_in rows row) name → has_row (plain rows) name ≡ false →
    lacks rows row ≡ true
name_lacks rows row name c h =
    let m = filter_map_contains (dep_name (plain rows)) row.deps name c in
    let none : number_of_dep (plain rows) m.0 ≡ None = ap (option_and_then (number_of (plain rows))) m.2 ∙ number_none rows name h in
    let less : length (needed (plain rows) row) < length row.deps =
    omega (arith, one_less (number_of_dep (plain rows)) row.deps m.0 m.1 none, ap length (all_needed rows row)) in
    ap not (ne_eqb (length (needed (plain rows) row)) (length row.deps) (λ e. omega (arith, e, less)))

-- ---- chains that end at a name without a row

last_dep : (r : Registered) (name : Text) (chain : List Text) (n : Text) → has_row r name ≡ true → has_row r n ≡ false → Leads r name chain n →
    (a : Text) × InClosure r name a × Contains (deps_of r a) n
last_dep r name [] n h f l = absurd (both_ways (has_row r name) (ap (has_row r) l ∙ f) h)
last_dep r name (x ∷ []) n h f l = (name, ([], refl), subst (λ (y : Text). Contains (deps_of r name) y) l.1 l.0)
last_dep r name (x ∷ y ∷ chain) n h f l =
    let m = last_dep r x (y ∷ chain) n (row_from_dep r (row_of r x) y l.1.0) f l.1 in
    (m.0, (x ∷ m.1.0, (l.0, m.1.1)), m.2)

walk_low : (lists : List (List ℕ)) (n : ℕ) → ((from to : ℕ) → Contains (next_in lists from) to → to < n) →
    (a : ℕ) (chain : List ℕ) (b : ℕ) → a < n → Walks lists a chain b → b < n
walk_low lists n within a [] b low w = subst (λ (x : ℕ). x < n) w low
walk_low lists n within a (x ∷ chain) b low w = walk_low lists n within x chain b (within a x w.0) w.1

pub lacks_at : (rows : List Row) (k : ℕ) → k < length rows → marked (map (lacks rows) rows) k ≡ lacks rows (get_or rows k blank)
lacks_at rows k low = get_or-map (lacks rows) rows k blank false low

-- what the row of a number depends on
deps_here : (rows : List Row) (k : ℕ) → HasDistinctNames (plain rows) → k < length rows →
    deps_of (plain rows) (name_at (plain rows) k) ≡ names_in rows (get_or rows k blank)
deps_here rows k distinct low = ap (deps_of_row (plain rows)) (row_is (plain rows) k distinct low) ∙ all_names rows (get_or rows k blank)

pub marks_say_unresolved : MarksSayUnresolved
marks_say_unresolved rows edges marks k distinct within e m low = iff_same (marked marks k) (not (resolves (plain rows) (name_at (plain rows) k))) to from
  where
    i : IsIndexed (plain rows) edges
    i = kept_indexed (plain rows) edges (record { distinct = distinct; edges_are = e })

    inside_rows : (from to : ℕ) → Contains (next_in edges from) to → to < length rows
    inside_rows a b c = subst (λ (n : ℕ). b < n) i.long (i.within a b c)

    -- a bad number in the closure refuses
    not_both : (bad : ℕ) → Reaches edges k bad → IsBad edges (map (lacks rows) rows) bad → Resolves (plain rows) (name_at (plain rows) k) → ⊥
    not_both bad reaches is res =
        let low_bad : bad < length rows = walk_low edges (length rows) inside_rows k reaches.0 bad low reaches.1 in
        let inside : InClosure (plain rows) (name_at (plain rows) k) (name_at (plain rows) bad) =
        (map (name_at (plain rows)) reaches.0, leads_from_walk (plain rows) edges reaches.0 k bad i low reaches.1) in
        ⊎_elim
        (λ l. let row : Row = get_or rows bad blank in
        let n = lacks_name rows row (within row (place_in rows bad row (row_there rows bad low_bad))) (sym (lacks_at rows bad low_bad) ∙ l) in
        let dep : Contains (deps_of (plain rows) (name_at (plain rows) bad)) n.0 =
        subst (λ (xs : List Text). Contains xs n.0) (sym (deps_here rows bad distinct low_bad)) n.1 in
        no_number rows n.0 n.2 (res.known n.0 (closure_on (plain rows) (name_at (plain rows) k) (name_at (plain rows) bad) n.0 inside
        (n.0 ∷ [], (dep, refl)))))
        (λ f. let low_start : f.start < length rows = inside_rows bad f.start f.is_start in
        res.acyclic (name_at (plain rows) bad) inside (
          name_at (plain rows) f.start,
          map (name_at (plain rows)) f.walk.0,
          ((i.each bad f.start low_bad low_start).0 f.is_start, leads_from_walk (plain rows) edges f.walk.0 f.start bad i low_start f.walk.1),
        ))
        is

    to : marked marks k ≡ true → not (resolves (plain rows) (name_at (plain rows) k)) ≡ true
    to h =
        let s = m.sound k h in
        ap not (false_from_ne_true (resolves (plain rows) (name_at (plain rows) k))
        (λ t. not_both s.0 s.1 s.2 (resolves_itself (plain rows) (name_at (plain rows) k) t)))

    -- a name of the closure that has a row is reached
    reached : (a : Text) → InClosure (plain rows) (name_at (plain rows) k) a → has_row (plain rows) a ≡ true →
        (b : ℕ) × (b < length rows) × (name_at (plain rows) b ≡ a) × Reaches edges k b
    reached a c h =
        let n = number_found (plain rows) a h in
        let p = number_named (plain rows) a n.0 n.1 in (
          n.0,
          p.0,
          p.1,
          walk_from_leads (plain rows) edges c.0 k n.0 i low p.0
              (subst (λ (x : Text). Leads (plain rows) (name_at (plain rows) k) c.0 x) (sym p.1) c.1),
        )

    from_unknown : (n : Text) → InClosure (plain rows) (name_at (plain rows) k) n → has_row (plain rows) n ≡ false → marked marks k ≡ true
    from_unknown n c f =
        let d = last_dep (plain rows) (name_at (plain rows) k) c.0 n (places.number_named (plain rows) k low) f c.1 in
        let b = reached d.0 d.1 (row_from_dep (plain rows) (row_of (plain rows) d.0) n d.2) in
        let has : Contains (names_in rows (get_or rows b.0 blank)) n =
        subst (λ (xs : List Text). Contains xs n) (deps_here rows b.0 distinct b.1)
        (subst (λ (x : Text). Contains (deps_of (plain rows) x) n) (sym b.2) d.2) in
        m.complete k b.0 (subst (λ (j : ℕ). b.0 < j) (sym i.long) b.1) b.3 (inl (lacks_at rows b.0 b.1 ∙ name_lacks rows (get_or rows b.0 blank) n has f))

    from_cycle : (n : Text) → InClosure (plain rows) (name_at (plain rows) k) n → IsCyclic (plain rows) n → marked marks k ≡ true
    from_cycle n c l =
        let b = reached n c (row_from_dep (plain rows) (row_of (plain rows) n) l.0 l.2.0) in
        let back : Leads (plain rows) l.0 l.1 (name_at (plain rows) b.0) = subst (λ (x : Text). Leads (plain rows) l.0 l.1 x) (sym b.2) l.2.1 in
        let s = led_has_row (plain rows) l.0 l.1 b.0 distinct b.1 back in
        let p = number_named (plain rows) l.0 s.0 s.1 in
        let step : Contains (next_in edges b.0) s.0 = (i.each b.0 s.0 b.1 p.0).1
        (subst (λ (x : Text). Contains (deps_of (plain rows) x) (name_at (plain rows) s.0)) (sym b.2)
        (subst (λ (x : Text). Contains (deps_of (plain rows) n) x) (sym p.1) l.2.0)) in
        let walk : Reaches edges s.0 b.0 = walk_from_leads (plain rows) edges l.1 s.0 b.0 i p.0 b.1
        (subst (λ (x : Text). Leads (plain rows) x l.1 (name_at (plain rows) b.0)) (sym p.1) back) in
        m.complete k b.0 (subst (λ (j : ℕ). b.0 < j) (sym i.long) b.1) b.3 (inr (record { start = s.0; is_start = step; walk = walk }))

    for_own : (nm n : Text) → Contains (name_at (plain rows) k ∷ []) nm → InClosure (plain rows) nm n →
        InClosure (plain rows) (name_at (plain rows) k) n
    for_own nm n c l = subst (λ (x : Text). InClosure (plain rows) x n) (sym (contains_one_text (name_at (plain rows) k) nm c)) l

    refused : (o : Option Refusal) → refusal_of (plain rows) (name_at (plain rows) k ∷ []) ≡ o → is_none o ≡ false → marked marks k ≡ true
    refused None g h = cc
    refused (Some (Unknown n)) g h =
        let u = (refused_unknown (plain rows) (name_at (plain rows) k ∷ []) n g).holds in
        from_unknown n (for_own u.0.0 n u.0.1 u.0.2) (false_from_ne_true (has_row (plain rows) n) (λ t. both_ways (has_row (plain rows) n) u.1 t))
    refused (Some (Cycle n)) g h =
        let u = (refused_cycle (plain rows) (name_at (plain rows) k ∷ []) n g).1.holds in
        from_cycle n (for_own u.0.0 n u.0.1 u.0.2) u.1

    from : not (resolves (plain rows) (name_at (plain rows) k)) ≡ true → marked marks k ≡ true
    from h = refused (refusal_of (plain rows) (name_at (plain rows) k ∷ [])) refl
        (⊎_elim (λ t. absurd (both_ways (not (resolves (plain rows) (name_at (plain rows) k))) (ap not t) h)) (λ f. f)
        (cases_Bool (resolves (plain rows) (name_at (plain rows) k))))

-- ---- what is left of a row that resolves

filtered_unmarked : (f : Dep → Option ℕ) (brought : Dep → Bool) (marks : List Bool) (deps : List Dep) → length (filter_map f deps) ≡ length deps →
    ((dep : Dep) (n : ℕ) → f dep ≡ Some n → brought dep ≡ marked marks n)
    → filter (λ dep. not (brought dep)) deps ≡ unmarked deps (filter_map f deps) marks
filtered_unmarked f brought marks [] e h = refl
filtered_unmarked f brought marks (dep ∷ deps) e h = step (f dep) refl e (λ g. filtered_unmarked f brought marks deps g h)
  where
    last : (a b : Bool) → a ≡ b → (xs ys : List Dep) → xs ≡ ys → cond (not a) (dep ∷ xs) xs ≡ cond b ys (dep ∷ ys)
    last true true e xs ys g = g
    last false false e xs ys g = ap (λ zs. dep ∷ zs) g
    last true false e xs ys g = cc
    last false true e xs ys g = cc

    step : (o : Option ℕ) → f dep ≡ o → length (cons_option o (filter_map f deps)) ≡ suc (length deps) →
        (length (filter_map f deps) ≡ length deps → filter (λ dep. not (brought dep)) deps ≡ unmarked deps (filter_map f deps) marks)
        → cond (not (brought dep)) (dep ∷ filter (λ dep. not (brought dep)) deps) (filter (λ dep. not (brought dep)) deps)
        ≡ unmarked (dep ∷ deps) (cons_option o (filter_map f deps)) marks
    step None g l rest = absurd (omega (arith, l, filter_le f deps))
    step (Some n) g l rest = last (brought dep) (marked marks n) (h dep n g) (filter (λ dep. not (brought dep)) deps) (unmarked deps (filter_map f deps) marks)
        (rest (omega (arith, l)))

pub left_is_unmarked : LeftIsUnmarked
left_is_unmarked rows edges row marks distinct e m res full =
    ap (λ (t : Bool). cond t (filter (λ dep. not (is_brought rows row dep)) row.deps) row.deps) res
    ∙ filtered_unmarked (number_of_dep (plain rows)) (is_brought rows row) marks row.deps whole each
    ∙ ap (λ (ns : List ℕ). unmarked row.deps ns marks) (sym (all_needed rows row))
  where
    whole : length (filter_map (number_of_dep (plain rows)) row.deps) ≡ length row.deps
    whole = ap length (sym (all_needed rows row)) ∙ eqb-true (length (needed (plain rows) row)) (length row.deps)
        (⊎_elim (λ t. t) (λ f. absurd (both_ways (lacks rows row) full (ap not f)))
        (cases_Bool (nat_eq (length (needed (plain rows) row)) (length row.deps))))

    each : (dep : Dep) (n : ℕ) → number_of_dep (plain rows) dep ≡ Some n → is_brought rows row dep ≡ marked marks n
    each dep n g = step (dep_name (plain rows) dep) refl g
      where
        step : (o : Option Text) → dep_name (plain rows) dep ≡ o → option_and_then (number_of (plain rows)) o ≡ Some n →
            is_brought rows row dep ≡ marked marks n
        step None f g = cc
        step (Some name) f g =
            let p = number_named (plain rows) name n g in
            ap (λ (o : Option Text). option_map_or (λ name. list_any (λ from. brings rows from name) (names_in rows row)) o false) f
            ∙ ap (λ (x : Text). list_any (λ from. brings rows from x) (names_in rows row)) (sym p.1)
            ∙ sym (marks_say_brought rows edges row marks n distinct e m p.0)
