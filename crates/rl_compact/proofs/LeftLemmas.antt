-- What is left of a row's dependencies.
use Rattle.std.proofs.Common.{◌≡◌, ℕ, List, [], ◌∷◌, Bool, true, false, cond, not, map, ◌⊎◌, Option, Some, None, refl, ap, sym, subst}
use Rattle.std.proofs.Common.{◌∙◌, inl, inr, ⊎_elim}
use Rattle.std.specs.Prelude.{bytes_eq, Contains, filter, find, option_map, slice_get}
use Rattle.std.specs.List.{list_any, filter_map, cons_option}
use Rattle.std.specs.Option.{option_map_or}
use Rattle.std.proofs.lemmas.Bool.{cases_Bool, both_ways}
use Rattle.std.proofs.lemmas.Option.{slice_get-map}
use Rattle.rl_names.specs.declared.row.Row.{Row}
use Rattle.rl_names.specs.declared.row.Dep.{Dep}
use Rattle.rl_names.specs.declared.row.Dep.TheVariants.{At, Named}
use Rattle.rl_view_spec.specs.Closure.{Text, row_of, deps_of, dep_name, InClosure, in_closure, resolves}
use Rattle.rl_view_spec.proofs.ChainsLemmas.{led_in_closure, reaches_from_led}
use Rattle.rl_view_spec.proofs.ToolsLemmas.{any_one, one_any, contains_head, contains_tail, contains_cases}
use Rattle.rl_compact.specs.Compact.{plain, barest, Brings, brings, names_in, is_brought, left, compact_row, compacted}

pub brings_chain : (rows : List Row) (from last : Text) → brings rows from last ≡ true → Brings rows from last
brings_chain rows from last h =
    let m = any_one (λ next. in_closure (barest rows) next last) (deps_of (barest rows) from) h in
    let led : InClosure (barest rows) m.0 last = led_in_closure (barest rows) m.0 last m.2 in
    (m.0, led.0, (m.1, led.1))

pub chain_brings : (rows : List Row) (from last : Text) → Brings rows from last → brings rows from last ≡ true
chain_brings rows from last b = one_any (λ next. in_closure (barest rows) next last) (deps_of (barest rows) from) b.0 b.2.0
    (reaches_from_led (barest rows) b.0 last (b.1, b.2.1))

-- ---- lists of what some of a list have

pub from_filter : {X Y : Type 0} (f : X → Option Y) (p : X → Bool) (xs : List X) (y : Y) → Contains (filter_map f (filter p xs)) y →
    Contains (filter_map f xs) y
from_filter f p [] y c = c
from_filter {X = X} {Y = Y} f p (x ∷ xs) y c = step (λ d. from_filter f p xs y d) (p x) c
  where
    more : (o : Option Y) → Contains (filter_map f xs) y → Contains (cons_option o (filter_map f xs)) y
    more None d = d
    more (Some z) d = contains_tail z (filter_map f xs) y d

    both : (Contains (filter_map f (filter p xs)) y → Contains (filter_map f xs) y) → (o : Option Y) →
        Contains (cons_option o (filter_map f (filter p xs))) y → Contains (cons_option o (filter_map f xs)) y
    both rest None d = rest d
    both rest (Some z) d = ⊎_elim
        (λ e. subst (λ (w : Y). Contains (z ∷ filter_map f xs) w) e (contains_head z (filter_map f xs)))
        (λ t. contains_tail z (filter_map f xs) y (rest t))
        (contains_cases z (filter_map f (filter p xs)) y d)

    step : (Contains (filter_map f (filter p xs)) y → Contains (filter_map f xs) y) → (b : Bool) →
        Contains (filter_map f (cond b (x ∷ filter p xs) (filter p xs))) y → Contains (cons_option (f x) (filter_map f xs)) y
    step rest true d = both rest (f x) d
    step rest false d = more (f x) (rest d)

-- what is not in the filtered list comes from an element that was filtered out
pub filtered_out : {X Y : Type 0} (f : X → Option Y) (p : X → Bool) (xs : List X) (y : Y) → Contains (filter_map f xs) y →
    Contains (filter_map f (filter p xs)) y ⊎ ((x : X) × (f x ≡ Some y) × (p x ≡ false))
filtered_out f p [] y c = inl c
filtered_out {X = X} {Y = Y} f p (x ∷ xs) y c = step (λ d. filtered_out f p xs y d) (p x) refl (f x) refl c
  where
    more : (b : Bool) (o : Option Y) → f x ≡ o → Contains (filter_map f (filter p xs)) y →
        Contains (filter_map f (cond b (x ∷ filter p xs) (filter p xs))) y
    more false o e d = d
    more true None e d = subst (λ (q : Option Y). Contains (cons_option q (filter_map f (filter p xs))) y) (sym e) d
    more true (Some z) e d = subst (λ (q : Option Y). Contains (cons_option q (filter_map f (filter p xs))) y) (sym e)
        (contains_tail z (filter_map f (filter p xs)) y d)

    here : (b : Bool) → p x ≡ b → (z : Y) → f x ≡ Some z → z ≡ y →
        Contains (filter_map f (cond b (x ∷ filter p xs) (filter p xs))) y ⊎ ((z : X) × (f z ≡ Some y) × (p z ≡ false))
    here true g z e s = inl (subst (λ (q : Option Y). Contains (cons_option q (filter_map f (filter p xs))) y) (sym e)
        (subst (λ (w : Y). Contains (z ∷ filter_map f (filter p xs)) w) s (contains_head z (filter_map f (filter p xs)))))
    here false g z e s = inr (x, e ∙ ap Some s, g)

    later : (Contains (filter_map f xs) y → Contains (filter_map f (filter p xs)) y ⊎ ((z : X) × (f z ≡ Some y) × (p z ≡ false))) →
        (b : Bool) (o : Option Y) → f x ≡ o → Contains (filter_map f xs) y →
        Contains (filter_map f (cond b (x ∷ filter p xs) (filter p xs))) y ⊎ ((z : X) × (f z ≡ Some y) × (p z ≡ false))
    later rest b o e d = ⊎_elim (λ k. inl (more b o e k)) (λ k. inr k) (rest d)

    step : (Contains (filter_map f xs) y → Contains (filter_map f (filter p xs)) y ⊎ ((z : X) × (f z ≡ Some y) × (p z ≡ false))) → (b : Bool) →
        p x ≡ b → (o : Option Y) → f x ≡ o → Contains (cons_option o (filter_map f xs)) y →
        Contains (filter_map f (cond b (x ∷ filter p xs) (filter p xs))) y ⊎ ((z : X) × (f z ≡ Some y) × (p z ≡ false))
    step rest b g None e d = later rest b None e d
    step rest b g (Some z) e d = ⊎_elim (λ s. here b g z e s) (λ t. later rest b (Some z) e t) (contains_cases z (filter_map f xs) y d)

-- ---- names are the same

pub named_same : (all rows : List Row) (k : ℕ) → option_map (λ row. row.name) (slice_get (map (compact_row all) rows) k)
    ≡ option_map (λ row. row.name) (slice_get rows k)
named_same all rows k = ap (option_map (λ row. row.name)) (slice_get-map (compact_row all) rows k) ∙ step (slice_get rows k)
  where
    step : (o : Option Row) → option_map (λ row. row.name) (option_map (compact_row all) o) ≡ option_map (λ row. row.name) o
    step None = refl
    step (Some row) = refl

pub dep_named_same : (rows : List Row) (features : List Text) (dep : Dep) →
    dep_name (record { rows = compacted rows; features = features }) dep ≡ dep_name (record { rows = rows; features = features }) dep
dep_named_same rows features (At k) = named_same rows rows k
dep_named_same rows features (Named name) = refl

pub names_same : (rows : List Row) (features : List Text) (deps : List Dep) →
    filter_map (dep_name (record { rows = compacted rows; features = features })) deps
    ≡ filter_map (dep_name (record { rows = rows; features = features })) deps
names_same rows features [] = refl
names_same rows features (dep ∷ deps) =
    ap (λ (o : Option Text). cons_option o (filter_map (dep_name (record { rows = compacted rows; features = features })) deps))
    (dep_named_same rows features dep)
    ∙ ap (cons_option (dep_name (record { rows = rows; features = features }) dep)) (names_same rows features deps)

found_same : (all rows : List Row) (name : Text) → find (λ row. bytes_eq row.name name) (map (compact_row all) rows)
    ≡ option_map (compact_row all) (find (λ row. bytes_eq row.name name) rows)
found_same all [] name = refl
found_same all (row ∷ rows) name =
    ap (cond (bytes_eq row.name name) (Some (compact_row all row))) (found_same all rows name) ∙ step (bytes_eq row.name name)
  where
    step : (b : Bool) → cond b (Some (compact_row all row)) (option_map (compact_row all) (find (λ row. bytes_eq row.name name) rows))
        ≡ option_map (compact_row all) (cond b (Some row) (find (λ row. bytes_eq row.name name) rows))
    step true = refl
    step false = refl

pub row_same : (rows : List Row) (features : List Text) (name : Text) →
    row_of (record { rows = compacted rows; features = features }) name
    ≡ option_map (compact_row rows) (row_of (record { rows = rows; features = features }) name)
row_same rows features name = found_same rows rows name

-- ---- the dependencies of a name, before and after

-- what is left was there
pub left_in : (rows : List Row) (row : Row) (y : Text) → Contains (filter_map (dep_name (plain rows)) (left rows row)) y → Contains (names_in rows row) y
left_in rows row y = step (resolves (plain rows) row.name)
  where
    step : (b : Bool) → Contains (filter_map (dep_name (plain rows)) (cond b (filter (λ dep. not (is_brought rows row dep)) row.deps) row.deps)) y →
        Contains (names_in rows row) y
    step true c = from_filter (dep_name (plain rows)) (λ dep. not (is_brought rows row dep)) row.deps y c
    step false c = c

-- what is not left is brought
pub record IsBrought (rows : List Row) (row : Row) (y : Text) : Type 0 where
  pub closed : resolves (plain rows) row.name ≡ true
  pub from : Text
  pub beside : Contains (names_in rows row) from
  pub chain : Brings rows from y

pub left_or_brought : (rows : List Row) (row : Row) (y : Text) → Contains (names_in rows row) y →
    Contains (filter_map (dep_name (plain rows)) (left rows row)) y ⊎ IsBrought rows row y
left_or_brought rows row y c = step (resolves (plain rows) row.name) refl
  where
    brought : resolves (plain rows) row.name ≡ true → (dep : Dep) → dep_name (plain rows) dep ≡ Some y → not (is_brought rows row dep) ≡ false →
        IsBrought rows row y
    brought res dep e g =
        let h : is_brought rows row dep ≡ true = ⊎_elim (λ t. t) (λ f. absurd (both_ways (not (is_brought rows row dep)) g (ap not f)))
        (cases_Bool (is_brought rows row dep)) in
        let a : list_any (λ from. brings rows from y) (names_in rows row) ≡ true =
        sym (ap (λ (o : Option Text). option_map_or (λ name. list_any (λ from. brings rows from name) (names_in rows row)) o false) e) ∙ h in
        let m = any_one (λ from. brings rows from y) (names_in rows row) a in
        record { closed = res; from = m.0; beside = m.1; chain = brings_chain rows m.0 y m.2 }

    step : (b : Bool) → resolves (plain rows) row.name ≡ b →
        Contains (filter_map (dep_name (plain rows)) (cond b (filter (λ dep. not (is_brought rows row dep)) row.deps) row.deps)) y ⊎ IsBrought rows row y
    step false e = inl c
    step true e = ⊎_elim (λ k. inl k) (λ k. inr (brought e k.0 k.1 k.2))
        (filtered_out (dep_name (plain rows)) (λ dep. not (is_brought rows row dep)) row.deps y c)
