-- What a row depends on directly, read off its list of dependencies.
use Rattle.std.proofs.Common.{◌≡◌, ℕ, ◌<◌, List, [], ◌∷◌, Bool, true, false, cond, ◌||◌, not, length, Option, Some, None, refl, ap, sym}
use Rattle.std.proofs.Common.{subst, ◌∙◌, ⊎_elim}
use Rattle.std.specs.Prelude.{Contains, bytes_eq, slice_get, option_map}
use Rattle.std.specs.List.{list_all, filter_map, cons_option}
use Rattle.std.proofs.lemmas.Bool.{or_cases, or_left, or_right, cases_Bool, ltb-true}
use Rattle.rl_names.specs.declared.row.Row.{Row}
use Rattle.rl_names.specs.declared.row.Dep.{Dep}
use Rattle.rl_names.specs.declared.row.Dep.TheVariants.{At, Named}
use Rattle.rl_view_spec.specs.Closure.{Text, Registered, has_feature, dep_name, deps_of_row}
use Rattle.rl_view_spec.specs.Progress.{name_at, row_numbers, HasDistinctNames}
use Rattle.rl_view_spec.specs.Direct.{deps_at, all_direct, dep_passes, is_within}
use Rattle.rl_view_spec.proofs.ChainsLemmas.{same}
use Rattle.rl_view_spec.proofs.ToolsLemmas.{all_each, each_all, contains_head, contains_tail, contains_cases, contains_none, place_there}
use Rattle.rl_view_spec.proofs.PlacesLemmas.{name_there, number_in, number_within, apart, bytes_eq-from, not_first, not_given}
use Rattle.rl_view_spec.proofs.StatesLemmas.{iff_same}
use Rattle.rl_view_spec.proofs.DirectLemmas.{direct_each, each_direct}

-- what has a value has it in the list of values, and the other way round
pub contains_filter_map : {X Y : Type 0} (h : X → Option Y) (xs : List X) (x : X) (y : Y) → Contains xs x → h x ≡ Some y → Contains (filter_map h xs) y
contains_filter_map h [] x y c e = absurd (contains_none x c)
contains_filter_map {X = X} {Y = Y} h (z ∷ xs) x y c e = ⊎_elim (λ s. here (h z) (ap h s ∙ e)) (λ t. there (h z) (contains_filter_map h xs x y t e))
    (contains_cases z xs x c)
  where
    here : (o : Option Y) → o ≡ Some y → Contains (cons_option o (filter_map h xs)) y
    here None f = cc
    here (Some w) f = let g : w ≡ y = cc in subst (λ (u : Y). Contains (w ∷ filter_map h xs) u) g (contains_head w (filter_map h xs))

    there : (o : Option Y) → Contains (filter_map h xs) y → Contains (cons_option o (filter_map h xs)) y
    there None t = t
    there (Some w) t = contains_tail w (filter_map h xs) y t

pub filter_map_contains : {X Y : Type 0} (h : X → Option Y) (xs : List X) (y : Y) → Contains (filter_map h xs) y →
    (x : X) × Contains xs x × (h x ≡ Some y)
filter_map_contains h [] y c = absurd (contains_none y c)
filter_map_contains {X = X} {Y = Y} h (z ∷ xs) y c = step (h z) refl c (λ t. filter_map_contains h xs y t)
  where
    step : (o : Option Y) → h z ≡ o → Contains (cons_option o (filter_map h xs)) y →
        (Contains (filter_map h xs) y → (x : X) × Contains xs x × (h x ≡ Some y)) → (x : X) × Contains (z ∷ xs) x × (h x ≡ Some y)
    step None e d rest = let m = rest d in (m.0, contains_tail z xs m.0 m.1, m.2)
    step (Some w) e d rest = ⊎_elim (λ s. (z, contains_head z xs, e ∙ ap Some s)) (λ t. let m = rest t in (m.0, contains_tail z xs m.0 m.1, m.2))
        (contains_cases w (filter_map h xs) y d)

-- a dependency passes where each row of its name does
dep_all : (r : Registered) → HasDistinctNames r → (test : ℕ → Bool) (dep : Dep) → is_within r dep ≡ true →
    ((other : ℕ) → other < length r.rows → dep_name r dep ≡ Some (name_at r other) → test other ≡ true) → dep_passes r test dep ≡ true
dep_all r distinct test (At j) within f =
    let low : j < length r.rows = ltb-true j (length r.rows) within in
    let m = place_there r.rows j low in
    f j low (ap (option_map (λ (row : Row). row.name)) m.1 ∙ ap Some (sym (name_there r j m.0 m.1)))
dep_all r distinct test (Named name) within f = each_all (λ (other : ℕ). not (bytes_eq name (name_at r other)) || test other) (row_numbers r)
    (λ other c. not_given (bytes_eq name (name_at r other)) (test other) (λ e. f other (number_within r other c) (ap Some (same name (name_at r other) e))))

all_dep : (r : Registered) → HasDistinctNames r → (test : ℕ → Bool) (dep : Dep) → is_within r dep ≡ true → dep_passes r test dep ≡ true →
    (other : ℕ) → other < length r.rows → dep_name r dep ≡ Some (name_at r other) → test other ≡ true
all_dep r distinct test (At j) within h other there e =
    let low : j < length r.rows = ltb-true j (length r.rows) within in
    let m = place_there r.rows j low in
    let g : Some m.0.name ≡ Some (name_at r other) = sym (ap (option_map (λ (row : Row). row.name)) m.1) ∙ e in
    let names : m.0.name ≡ name_at r other = cc in
    subst (λ (k : ℕ). test k ≡ true) (apart r distinct j other low there (name_there r j m.0 m.1 ∙ names)) h
all_dep r distinct test (Named name) within h other there e =
    let names : name ≡ name_at r other = cc in
    not_first (bytes_eq name (name_at r other)) (test other)
    (all_each (λ (other : ℕ). not (bytes_eq name (name_at r other)) || test other) (row_numbers r) other h (number_in r other there))
    (bytes_eq-from name (name_at r other) names)

-- each row that this one depends on passes where each dependency of its list does
pub direct_by_deps : (r : Registered) → HasDistinctNames r → (row : ℕ) (found : Row) (test : ℕ → Bool) → slice_get r.rows row ≡ Some found →
    list_all (is_within r) found.deps ≡ true
    → all_direct r row test ≡ (has_feature r found.skip || list_all (dep_passes r test) found.deps)
direct_by_deps r distinct row found test at within = iff_same (all_direct r row test) (has_feature r found.skip || list_all (dep_passes r test) found.deps)
    there back
  where
    deps : deps_at r row ≡ cond (has_feature r found.skip) [] (filter_map (dep_name r) found.deps)
    deps = ap (deps_of_row r) at

    there : all_direct r row test ≡ true → (has_feature r found.skip || list_all (dep_passes r test) found.deps) ≡ true
    there h = ⊎_elim (λ s. or_left (has_feature r found.skip) (list_all (dep_passes r test) found.deps) s)
        (λ u. or_right (has_feature r found.skip) (list_all (dep_passes r test) found.deps) (each_all (dep_passes r test) found.deps (λ dep c.
        dep_all r distinct test dep (all_each (is_within r) found.deps dep within c) (λ other low e.
        direct_each r row test h other low
        (subst (λ (xs : List Text). Contains xs (name_at r other)) (sym (deps ∙ ap (λ (b : Bool). cond b [] (filter_map (dep_name r) found.deps)) u))
        (contains_filter_map (dep_name r) found.deps dep (name_at r other) c e))))))
        (cases_Bool (has_feature r found.skip))

    back : (has_feature r found.skip || list_all (dep_passes r test) found.deps) ≡ true → all_direct r row test ≡ true
    back h = each_direct r row test (λ other low c. ⊎_elim
        (λ s. absurd (contains_none (name_at r other) (subst (λ (xs : List Text). Contains xs (name_at r other))
        (deps ∙ ap (λ (b : Bool). cond b [] (filter_map (dep_name r) found.deps)) s) c)))
        (λ all. from_list all other low (has_feature r found.skip) refl (subst (λ (xs : List Text). Contains xs (name_at r other)) deps c))
        (or_cases (has_feature r found.skip) (list_all (dep_passes r test) found.deps) h))
      where
        from_list : list_all (dep_passes r test) found.deps ≡ true → (other : ℕ) → other < length r.rows → (b : Bool) →
            has_feature r found.skip ≡ b → Contains (cond b [] (filter_map (dep_name r) found.deps)) (name_at r other) → test other ≡ true
        from_list all other low true e c = absurd (contains_none (name_at r other) c)
        from_list all other low false e c =
            let m = filter_map_contains (dep_name r) found.deps (name_at r other) c in
            all_dep r distinct test m.0 (all_each (is_within r) found.deps m.0 within m.1) (all_each (dep_passes r test) found.deps m.0 all m.1) other low m.2
