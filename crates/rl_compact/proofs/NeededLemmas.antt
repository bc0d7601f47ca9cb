-- Each dependency that is left is needed.
use Rattle.std.proofs.Common.{◌≡◌, ◌≢◌, ℕ, zero, suc, ◌<◌, List, [], ◌∷◌, Bool, true, false, cond, not, length, set, get_or, ◌⊎◌}
use Rattle.std.proofs.Common.{Option, Some, None, refl, ap, sym, subst, ◌∙◌, inl, inr, ⊎_elim, arith}
use Rattle.std.specs.Prelude.{bytes_eq, All, AllPairs, Contains, filter, find, option_map, slice_get, slice_set}
use Rattle.std.specs.List.{filter_map, cons_option, list_any, remove}
use Rattle.std.specs.Option.{option_map_or}
use Rattle.std.proofs.lemmas.Bool.{both_ways, cases_Bool, false_from_ne_true}
use Rattle.std.proofs.lemmas.List.Elements.{Contains-get_or}
use Rattle.std.proofs.lemmas.List.Kept.{AllPairs-cons}
use Rattle.std.proofs.lemmas.Option.{slice_get-map, slice_get_within}
use Rattle.rl_names.specs.declared.row.Row.{Row}
use Rattle.rl_names.specs.declared.row.Dep.{Dep}
use Rattle.rl_names.specs.declared.row.Dep.TheVariants.{At, Named}
use Rattle.rl_view_spec.specs.Closure.{Text, Registered, row_of, deps_of, deps_of_row, dep_name, has_feature, Leads, InClosure, in_closure, resolves}
use Rattle.rl_view_spec.specs.Progress.{name_at, HasDistinctNames}
use Rattle.rl_view_spec.proofs.ChainsLemmas.{same, led_in_closure, reaches_from_led}
use Rattle.rl_view_spec.proofs.PlacesLemmas.{bytes_eq-from, apart, name_there, number_named, place_of}
use Rattle.rl_view_spec.proofs.ResolveLemmas.{closure_itself, resolves_itself}
use Rattle.rl_view_spec.proofs.ToolsLemmas.{one_any, contains_head, contains_tail, contains_cases, contains_none, filter_contains, place_in}
use Rattle.rl_compact.specs.Compact.{plain, barest, Brings, brings, names_in, is_brought, left, compact_row, compacted}
use Rattle.rl_compact.specs.Laws.{EachIsNeeded, IsPlainRow, Loses, less, less_row}
use Rattle.rl_compact.proofs.LeftLemmas.{chain_brings, from_filter, left_in, named_same, row_same}
use Rattle.rl_view_spec.proofs.VersionsLemmas.{filter_map_same}
use Rattle.rl_compact.proofs.ClosuresLemmas.{small, unskipped, IsDep, dep_join, small_join}

-- ---- one element less

head_apart : {X : Type 0} (z : X) (zs : List X) → AllPairs (λ a b. a ≢ b) (z ∷ zs) → (y : X) → Contains zs y → z ≢ y
head_apart {X = X} z zs h y c = subst (λ (w : X). z ≢ w) c.2 (h 0 (suc c.0) y (omega arith) (omega (arith, c.1)))

tail_apart : {X : Type 0} (z : X) (zs : List X) → AllPairs (λ a b. a ≢ b) (z ∷ zs) → AllPairs (λ a b. a ≢ b) zs
tail_apart z zs h = λ i j d lt low. h (suc i) (suc j) d (omega (arith, lt)) (omega (arith, low))

-- what has a value has it in the list of values
has_value : {X Y : Type 0} (f : X → Option Y) (xs : List X) (j : ℕ) (x : X) (y : Y) → slice_get xs j ≡ Some x → f x ≡ Some y →
    Contains (filter_map f xs) y
has_value f [] j x y e g = cc
has_value {X = X} {Y = Y} f (z ∷ xs) zero x y e g =
    let is : z ≡ x = cc in
    subst (λ (o : Option Y). Contains (cons_option o (filter_map f xs)) y) (sym (ap f is ∙ g)) (contains_head y (filter_map f xs))
has_value {X = X} {Y = Y} f (z ∷ xs) (suc j) x y e g = more (f z) (has_value f xs j x y e g)
  where
    more : (o : Option Y) → Contains (filter_map f xs) y → Contains (cons_option o (filter_map f xs)) y
    more None d = d
    more (Some w) d = contains_tail w (filter_map f xs) y d

-- what is left after a removal was there, and is another
pub removed : {X Y : Type 0} (f : X → Option Y) (xs : List X) (j : ℕ) (x : X) (name y : Y) → slice_get xs j ≡ Some x → f x ≡ Some name →
    AllPairs (λ a b. a ≢ b) (filter_map f xs) → Contains (filter_map f (remove xs j)) y
    → (name ≢ y) × Contains (filter_map f xs) y
removed f [] j x name y e g apart c = cc
removed {X = X} {Y = Y} f (z ∷ xs) zero x name y e g apart c =
    let is : z ≡ x = cc in
    let first : f z ≡ Some name = ap f is ∙ g in
    let split : AllPairs (λ a b. a ≢ b) (name ∷ filter_map f xs) =
    subst (λ (o : Option Y). AllPairs (λ a b. a ≢ b) (cons_option o (filter_map f xs))) first apart in (
      head_apart name (filter_map f xs) split y c,
      subst (λ (o : Option Y). Contains (cons_option o (filter_map f xs)) y) (sym first)
          (contains_tail name (filter_map f xs) y c),
    )
removed {X = X} {Y = Y} f (z ∷ xs) (suc j) x name y e g apart c = step (f z) (λ h d. removed f xs j x name y e g h d) apart c
  where
    step : (o : Option Y) → (AllPairs (λ a b. a ≢ b) (filter_map f xs) → Contains (filter_map f (remove xs j)) y →
        (name ≢ y) × Contains (filter_map f xs) y)
        → AllPairs (λ a b. a ≢ b) (cons_option o (filter_map f xs)) → Contains (cons_option o (filter_map f (remove xs j))) y →
        (name ≢ y) × Contains (cons_option o (filter_map f xs)) y
    step None rest h d = rest h d
    step (Some w) rest h d = ⊎_elim
        (λ s. (
          (λ n. head_apart w (filter_map f xs) h name (has_value f xs j x name e g) (s ∙ sym n)),
          subst
              (λ (v : Y). Contains (w ∷ filter_map f xs) v) s (contains_head w (filter_map f xs)),
        ))
        (λ t. let r = rest (tail_apart w (filter_map f xs) h) t in (r.0, contains_tail w (filter_map f xs) y r.1))
        (contains_cases w (filter_map f (remove xs j)) y d)

-- ---- one row replaced by another of its name

set_named : (xs : List Row) (k : ℕ) (row w : Row) → slice_get xs k ≡ Some row → w.name ≡ row.name → (i : ℕ) →
    option_map (λ row. row.name) (slice_get (set xs k w) i) ≡ option_map (λ row. row.name) (slice_get xs i)
set_named [] k row w e n i = refl
set_named (x ∷ xs) zero row w e n zero = let is : x ≡ row = cc in ap Some (n ∙ sym (ap (λ (r : Row). r.name) is))
set_named (x ∷ xs) zero row w e n (suc i) = refl
set_named (x ∷ xs) (suc k) row w e n zero = refl
set_named (x ∷ xs) (suc k) row w e n (suc i) = set_named xs k row w e n i

set_found : (xs : List Row) (k : ℕ) (row w : Row) (name : Text) → slice_get xs k ≡ Some row → w.name ≡ row.name
    → (find (λ row. bytes_eq row.name name) (set xs k w) ≡ find (λ row. bytes_eq row.name name) xs)
    ⊎ ((find (λ row. bytes_eq row.name name) xs ≡ Some row) × (find (λ row. bytes_eq row.name name) (set xs k w) ≡ Some w))
set_found [] k row w name e n = cc
set_found (x ∷ xs) zero row w name e n =
    let is : x ≡ row = cc in
    ⊎_elim
    (λ t. let u : bytes_eq x.name name ≡ true = ap (λ (m : Text). bytes_eq m name) (ap (λ (r : Row). r.name) is ∙ sym n) ∙ t in
    inr (
      ap (λ (b : Bool). cond b (Some x) (find (λ row. bytes_eq row.name name) xs)) u
          ∙ ap Some is,
      ap (λ (b : Bool). cond b (Some w) (find (λ row. bytes_eq row.name name) xs)) t,
    ))
    (λ t. let u : bytes_eq x.name name ≡ false = ap (λ (m : Text). bytes_eq m name) (ap (λ (r : Row). r.name) is ∙ sym n) ∙ t in
    inl (ap (λ (b : Bool). cond b (Some w) (find (λ row. bytes_eq row.name name) xs)) t
    ∙ sym (ap (λ (b : Bool). cond b (Some x) (find (λ row. bytes_eq row.name name) xs)) u)))
    (cases_Bool (bytes_eq w.name name))
set_found (x ∷ xs) (suc k) row w name e n = step (bytes_eq x.name name) (set_found xs k row w name e n)
  where
    step : (b : Bool)
        → (find (λ row. bytes_eq row.name name) (set xs k w) ≡ find (λ row. bytes_eq row.name name) xs)
        ⊎ ((find (λ row. bytes_eq row.name name) xs ≡ Some row) × (find (λ row. bytes_eq row.name name) (set xs k w) ≡ Some w))
        → (cond b (Some x) (find (λ row. bytes_eq row.name name) (set xs k w)) ≡ cond b (Some x) (find (λ row. bytes_eq row.name name) xs))
        ⊎ ((cond b (Some x) (find (λ row. bytes_eq row.name name) xs) ≡ Some row)
        × (cond b (Some x) (find (λ row. bytes_eq row.name name) (set xs k w)) ≡ Some w))
    step true rest = inl refl
    step false rest = rest

-- where no earlier row has the name the new row is found
set_first : (xs : List Row) (k : ℕ) (row w : Row) (name : Text) → slice_get xs k ≡ Some row → w.name ≡ name →
    ((i : ℕ) → i < k → option_map (λ row. row.name) (slice_get xs i) ≡ Some name → ⊥)
    → find (λ row. bytes_eq row.name name) (set xs k w) ≡ Some w
set_first [] k row w name e n first = cc
set_first (x ∷ xs) zero row w name e n first = ap (λ (b : Bool). cond b (Some w) (find (λ row. bytes_eq row.name name) xs)) (bytes_eq-from w.name name n)
set_first (x ∷ xs) (suc k) row w name e n first =
    let off : bytes_eq x.name name ≡ false = false_from_ne_true (bytes_eq x.name name) (λ t. first 0 (omega arith) (ap Some (same x.name name t))) in
    ap (λ (b : Bool). cond b (Some x) (find (λ row. bytes_eq row.name name) (set xs k w))) off
    ∙ set_first xs k row w name e n (λ i lt g. first (suc i) (omega (arith, lt)) g)

-- ---- the rows, and those with one dependency less

record Less (rows : List Row) (k j : ℕ) (row : Row) (dep : Dep) (name : Text) : Type 0 where
  pub distinct : HasDistinctNames (plain rows)
  pub there : slice_get rows k ≡ Some row
  pub is_plain : IsPlainRow rows row
  pub at : slice_get (left rows row) j ≡ Some dep
  pub named : dep_name (plain rows) dep ≡ Some name

abbrev changed : List Row → ℕ → Row → Row
changed rows j row = less_row j (compact_row rows row)

-- the rows that are left, and the features that skip each row with a skip
abbrev smaller : List Row → ℕ → ℕ → Row → Registered
smaller rows k j row = record { rows = set (compacted rows) k (changed rows j row); features = (barest rows).features }

compact_there : (rows : List Row) (k : ℕ) (row : Row) → slice_get rows k ≡ Some row → slice_get (compacted rows) k ≡ Some (compact_row rows row)
compact_there rows k row e = slice_get-map (compact_row rows) rows k ∙ ap (option_map (compact_row rows)) e

smaller_name : (rows : List Row) (k j : ℕ) (row : Row) → slice_get rows k ≡ Some row → (dep : Dep) →
    dep_name (smaller rows k j row) dep ≡ dep_name (plain rows) dep
smaller_name rows k j row e (At i) = set_named (compacted rows) k (compact_row rows row) (changed rows j row) (compact_there rows k row e) refl i
    ∙ named_same rows rows i
smaller_name rows k j row e (Named name) = refl

smaller_feature : (rows : List Row) (k j : ℕ) (row : Row) (skip : Option Text) → has_feature (smaller rows k j row) skip ≡ has_feature (barest rows) skip
smaller_feature rows k j row None = refl
smaller_feature rows k j row (Some text) = refl

apart_filter : {X Y : Type 0} (f : X → Option Y) (p : X → Bool) (xs : List X) → AllPairs (λ a b. a ≢ b) (filter_map f xs) →
    AllPairs (λ a b. a ≢ b) (filter_map f (filter p xs))
apart_filter f p [] h = h
apart_filter {X = X} {Y = Y} f p (x ∷ xs) h = step (λ d. apart_filter f p xs d) (p x) (f x) refl h
  where
    all : (w : Y) → AllPairs (λ a b. a ≢ b) (w ∷ filter_map f xs) → All (λ v. w ≢ v) (filter_map f (filter p xs))
    all w g = λ i d low. head_apart w (filter_map f xs) g (get_or (filter_map f (filter p xs)) i d)
        (from_filter f p xs (get_or (filter_map f (filter p xs)) i d) (Contains-get_or (filter_map f (filter p xs)) i d low))

    step : (AllPairs (λ a b. a ≢ b) (filter_map f xs) → AllPairs (λ a b. a ≢ b) (filter_map f (filter p xs))) → (b : Bool) (o : Option Y) →
        f x ≡ o → AllPairs (λ a b. a ≢ b) (cons_option o (filter_map f xs))
        → AllPairs (λ a b. a ≢ b) (filter_map f (cond b (x ∷ filter p xs) (filter p xs)))
    step rest false None e g = rest g
    step rest false (Some w) e g = rest (tail_apart w (filter_map f xs) g)
    step rest true None e g = subst (λ (o : Option Y). AllPairs (λ a b. a ≢ b) (cons_option o (filter_map f (filter p xs)))) (sym e) (rest g)
    step rest true (Some w) e g = subst (λ (o : Option Y). AllPairs (λ a b. a ≢ b) (cons_option o (filter_map f (filter p xs)))) (sym e)
        (AllPairs-cons (λ a b. a ≢ b) w (filter_map f (filter p xs)) (all w g) (rest (tail_apart w (filter_map f xs) g)))

left_apart : (rows : List Row) (row : Row) → IsPlainRow rows row → AllPairs (λ a b. a ≢ b) (filter_map (dep_name (plain rows)) (left rows row))
left_apart rows row p = step (resolves (plain rows) row.name)
  where
    step : (b : Bool) → AllPairs (λ a b. a ≢ b) (filter_map (dep_name (plain rows))
        (cond b (filter (λ dep. not (is_brought rows row dep)) row.deps) row.deps))
    step true = apart_filter (dep_name (plain rows)) (λ dep. not (is_brought rows row dep)) row.deps p.once
    step false = p.once

smaller_names : (rows : List Row) (k j : ℕ) (row : Row) → slice_get rows k ≡ Some row → (deps : List Dep) →
    filter_map (dep_name (smaller rows k j row)) deps ≡ filter_map (dep_name (plain rows)) deps
smaller_names rows k j row e deps = filter_map_same (dep_name (smaller rows k j row)) (dep_name (plain rows)) deps (smaller_name rows k j row e)

-- what the changed row depends on is another dependency that is left
changed_dep : (rows : List Row) (k j : ℕ) (row : Row) (dep : Dep) (name y : Text) → Less rows k j row dep name →
    Contains (deps_of_row (smaller rows k j row) (Some (changed rows j row))) y
    → (name ≢ y) × Contains (filter_map (dep_name (plain rows)) (left rows row)) y
changed_dep rows k j row dep name y l c =
    let u = unskipped (has_feature (smaller rows k j row) row.skip) (filter_map (dep_name (smaller rows k j row)) (remove (left rows row) j)) y c in
    removed (dep_name (plain rows)) (left rows row) j dep name y l.at l.named (left_apart rows row l.is_plain)
    (subst (λ (xs : List Text). Contains xs y) (smaller_names rows k j row l.there (remove (left rows row) j)) u.1)

-- each dependency there is one that is left
smaller_split : (rows : List Row) (k j : ℕ) (row : Row) (dep : Dep) (name : Text) → Less rows k j row dep name → (x y : Text) →
    Contains (deps_of (smaller rows k j row) x) y → IsDep rows (barest rows).features x (left rows) y
smaller_split rows k j row dep name l x y c = ⊎_elim
    (λ e. same_row (row_of (plain rows) x) refl (subst (λ (o : Option Row). Contains (deps_of_row (smaller rows k j row) o) y)
    (e ∙ row_same rows (barest rows).features x) c))
    (λ e. new_row (row_of (plain rows) x) refl (sym (row_same rows (barest rows).features x) ∙ e.0)
    (subst (λ (o : Option Row). Contains (deps_of_row (smaller rows k j row) o) y) e.1 c))
    (set_found (compacted rows) k (compact_row rows row) (changed rows j row) x (compact_there rows k row l.there) refl)
  where
    same_row : (o : Option Row) → row_of (plain rows) x ≡ o → Contains (deps_of_row (smaller rows k j row) (option_map (compact_row rows) o)) y →
        IsDep rows (barest rows).features x (left rows) y
    same_row None e c = absurd (contains_none y c)
    same_row (Some r) e c =
        let u = unskipped (has_feature (smaller rows k j row) r.skip) (filter_map (dep_name (smaller rows k j row)) (left rows r)) y c in
        record {
          row = r;
          found = e;
          plainly = sym (smaller_feature rows k j row r.skip)
              ∙ u.0;
          has = subst (λ (xs : List Text). Contains xs y) (smaller_names rows k j row l.there (left rows r)) u.1;
        }

    new_row : (o : Option Row) → row_of (plain rows) x ≡ o → option_map (compact_row rows) o ≡ Some (compact_row rows row) →
        Contains (deps_of_row (smaller rows k j row) (Some (changed rows j row))) y → IsDep rows (barest rows).features x (left rows) y
    new_row None e f c = cc
    new_row (Some r) e f c =
        let is : compact_row rows r ≡ compact_row rows row = cc in
        let skip : r.skip ≡ None = ap (λ (q : Row). q.skip) is ∙ l.is_plain.skip in
        let deps : left rows r ≡ left rows row = ap (λ (q : Row). q.deps) is in
        record {
          row = r;
          found = e;
          plainly = ap (has_feature (barest rows)) skip;
          has = subst (λ (ds : List Dep). Contains (filter_map (dep_name (plain rows)) ds) y) (sym deps) (changed_dep rows k j row dep name y l c).1;
        }

-- so chains there are chains that no skip breaks
smaller_bare : (rows : List Row) (k j : ℕ) (row : Row) (dep : Dep) (name : Text) → Less rows k j row dep name →
    (x : Text) (chain : List Text) (last : Text) → Leads (smaller rows k j row) x chain last → Leads (barest rows) x chain last
smaller_bare rows k j row dep name l x [] last c = c
smaller_bare rows k j row dep name l x (next ∷ chain) last c =
    let d = smaller_split rows k j row dep name l x next c.0 in (
      dep_join rows (barest rows).features x next (record { row = d.row; found = d.found; plainly = d.plainly; has = left_in rows d.row next d.has }),
      smaller_bare rows k j row dep name l next chain last c.1,
    )

-- the row has its name for itself
own_row : (rows : List Row) (k : ℕ) (row : Row) → HasDistinctNames (plain rows) → slice_get rows k ≡ Some row →
    row_of (plain rows) row.name ≡ Some row
own_row rows k row distinct e =
    let low : k < length rows = slice_get_within rows k row e in
    let named : name_at (plain rows) k ≡ row.name = name_there (plain rows) k row e in
    let p = place_of (plain rows) (name_at (plain rows) k) (number_named (plain rows) k low) in
    let at : p.at ≡ k = apart (plain rows) distinct p.at k p.inside low p.named in
    let there : slice_get rows k ≡ Some p.row = subst (λ (m : ℕ). slice_get rows m ≡ Some p.row) at p.there in
    sym (ap (λ (n : Text). row_of (plain rows) n) named) ∙ p.found ∙ sym there ∙ e

-- and the changed row is found by it
changed_found : (rows : List Row) (k j : ℕ) (row : Row) → HasDistinctNames (plain rows) → slice_get rows k ≡ Some row →
    row_of (smaller rows k j row) row.name ≡ Some (changed rows j row)
changed_found rows k j row distinct e = set_first (compacted rows) k (compact_row rows row) (changed rows j row) row.name (compact_there rows k row e) refl
    (λ i lt g. earlier i lt (sym (named_same rows rows i) ∙ g))
  where
    earlier : (i : ℕ) → i < k → option_map (λ row. row.name) (slice_get rows i) ≡ Some row.name → ⊥
    earlier i lt g = step (slice_get rows i) refl g
      where
        low : k < length rows
        low = slice_get_within rows k row e

        step : (o : Option Row) → slice_get rows i ≡ o → option_map (λ row. row.name) o ≡ Some row.name → ⊥
        step None f g = cc
        step (Some r) f g =
            let names : r.name ≡ row.name = cc in
            omega (
              arith,
              lt,
              apart (plain rows) distinct i k (omega (arith, lt, low)) low
                  (name_there (plain rows) i r f ∙ names ∙ sym (name_there (plain rows) k row e)),
            )

-- a dependency that is left is not brought
left_alone : (rows : List Row) (k j : ℕ) (row : Row) (dep : Dep) (name : Text) → Less rows k j row dep name → (from : Text) →
    Contains (names_in rows row) from → Brings rows from name → ⊥
left_alone rows k j row dep name l from c b =
    let whole : left rows row ≡ filter (λ dep. not (is_brought rows row dep)) row.deps =
    ap (λ (t : Bool). cond t (filter (λ dep. not (is_brought rows row dep)) row.deps) row.deps) l.is_plain.closed in
    let m = filter_contains (λ dep. not (is_brought rows row dep)) row.deps dep
    (subst (λ (ds : List Dep). Contains ds dep) whole (place_in (left rows row) j dep l.at)) in
    let brought : is_brought rows row dep ≡ true = ap (λ (o : Option Text). option_map_or
    (λ name. list_any (λ from. brings rows from name) (names_in rows row)) o false) l.named
    ∙ one_any (λ from. brings rows from name) (names_in rows row) from c (chain_brings rows from name b) in
    both_ways (not (is_brought rows row dep)) (ap not brought) m.1

had_before : (rows : List Row) (k j : ℕ) (row : Row) (dep : Dep) (name : Text) → Less rows k j row dep name →
    InClosure (small rows (barest rows).features) row.name name
had_before rows k j row dep name l = (
  name ∷ [],
  (
    small_join rows (barest rows).features row.name name (record {
      row = row;
      found = own_row rows k row l.distinct l.there;
      plainly = ap (has_feature (barest rows)) l.is_plain.skip;
      has = has_value (dep_name (plain rows)) (left rows row) j dep name l.at l.named;
    }),
    refl,
  ),
)

gone_after : (rows : List Row) (k j : ℕ) (row : Row) (dep : Dep) (name : Text) → Less rows k j row dep name → (chain : List Text) →
    Leads (smaller rows k j row) row.name chain name → ⊥
gone_after rows k j row dep name l [] c =
    let direct : Contains (deps_of (plain rows) row.name) name = dep_join rows [] row.name name (record {
      row = row;
      found = own_row rows k row l.distinct l.there;
      plainly = ap (has_feature (plain rows)) l.is_plain.skip;
      has = left_in rows row name (has_value (dep_name (plain rows)) (left rows row) j dep name l.at l.named);
    }) in
    (resolves_itself (plain rows) row.name l.is_plain.closed).acyclic row.name (closure_itself (plain rows) row.name) (name, [], (direct, sym c))
gone_after rows k j row dep name l (next ∷ []) c =
    (changed_dep rows k j row dep name next l (subst (λ (o : Option Row). Contains (deps_of_row (smaller rows k j row) o) next)
    (changed_found rows k j row l.distinct l.there) c.0)).0 (sym c.1)
gone_after rows k j row dep name l (next ∷ second ∷ chain) c =
    let d = changed_dep rows k j row dep name next l (subst (λ (o : Option Row). Contains (deps_of_row (smaller rows k j row) o) next)
    (changed_found rows k j row l.distinct l.there) c.0) in
    left_alone rows k j row dep name l next (left_in rows row next d.1) (second, chain, smaller_bare rows k j row dep name l next (second ∷ chain) name c.1)

pub each_is_needed : EachIsNeeded
each_is_needed rows k j row dep name distinct there is_plain at named =
    let l : Less rows k j row dep name = record { distinct = distinct; there = there; is_plain = is_plain; at = at; named = named } in
    let is : less (compacted rows) k j ≡ set (compacted rows) k (changed rows j row) =
    ap (λ (o : Option Row). option_map_or (λ row. slice_set (compacted rows) k (less_row j row)) o (compacted rows)) (compact_there rows k row there) in
    subst (λ (rs : List Row). Loses (compacted rows) rs row.name) (sym is)
    (record {
      features = (barest rows).features;
      member = name;
      had = reaches_from_led (small rows (barest rows).features) row.name name (had_before rows k j row dep name l);
      lost = false_from_ne_true (in_closure (smaller rows k j row) row.name name)
          (λ h. let m = led_in_closure (smaller rows k j row) row.name name h in gone_after rows k j row dep name l m.0 m.1);
    })
