-- The names that no row has.
use Rattle.std.proofs.Common.{◌≡◌, ℕ, ◌<◌, ◌≤◌, suc, List, [], ◌∷◌, Bool, true, false, cond, length, get_or, Option, Some, None, refl}
use Rattle.std.proofs.Common.{ap, sym, ◌∙◌, arith}
use Rattle.std.specs.Prelude.{slice_get, option_and_then, is_none, All, Contains}
use Rattle.std.specs.List.{filter_map, cons_option}
use Rattle.std.specs.Option.{option_map_or}
use Rattle.std.proofs.lemmas.List.Elements.{Contains-get_or}
use Rattle.rl_names.specs.declared.row.Row.{Row}
use Rattle.rl_names.specs.declared.row.Dep.{Dep}
use Rattle.rl_view_spec.specs.Closure.{Text, Registered, dep_name, deps_of_row, has_feature, in_closures}
use Rattle.rl_view_spec.specs.Numbers.{number_of, number_of_dep, needed, needs_of, closure_numbers}
use Rattle.rl_view_spec.proofs.PlacesLemmas.{number_in, number_within}
use Rattle.rl_view_spec.proofs.ToolsLemmas.{contains_filter, filter_contains}
use Rattle.rl_registry.specs.Search.{unknown, unknown_of}
use Rattle.rl_view_spec.specs.Progress.{is_skipped_at, name_at, row_numbers}
use Rattle.rl_registry.specs.Search.{unknown_dep, if_unknown}

unknown_deps : (r : Registered) (deps : List Dep) → unknown r (filter_map (dep_name r) deps) ≡ filter_map (unknown_dep r) deps
unknown_deps r [] = refl
unknown_deps r (dep ∷ deps) = step (dep_name r dep) (unknown_deps r deps)
  where
    last : (name : Text) (o : Option ℕ) → unknown r (filter_map (dep_name r) deps) ≡ filter_map (unknown_dep r) deps
        → cond (is_none o) (name ∷ unknown r (filter_map (dep_name r) deps)) (unknown r (filter_map (dep_name r) deps))
        ≡ cons_option (option_map_or (λ row. None) o (Some name)) (filter_map (unknown_dep r) deps)
    last name None e = ap (λ ns. name ∷ ns) e
    last name (Some k) e = e

    step : (o : Option Text) → unknown r (filter_map (dep_name r) deps) ≡ filter_map (unknown_dep r) deps
        → unknown r (cons_option o (filter_map (dep_name r) deps)) ≡ cons_option (option_and_then (if_unknown r) o) (filter_map (unknown_dep r) deps)
    step None e = e
    step (Some name) e = last name (number_of r name) e

pub unknown_of_is : (r : Registered) (k : ℕ) (row : Row) → slice_get r.rows k ≡ Some row →
    unknown_of r k ≡ cond (is_skipped_at r k) [] (filter_map (unknown_dep r) row.deps)
unknown_of_is r k row there =
    ap (λ o. unknown r (deps_of_row r o)) there ∙ step (has_feature r row.skip)
    ∙ ap (λ o. cond (option_map_or (λ found. has_feature r found.skip) o false) [] (filter_map (unknown_dep r) row.deps)) (sym there)
  where
    step : (b : Bool) → unknown r (cond b [] (filter_map (dep_name r) row.deps)) ≡ cond b [] (filter_map (unknown_dep r) row.deps)
    step true = refl
    step false = unknown_deps r row.deps

pub closure_low : (r : Registered) (names : List Text) → All (λ k. k < length r.rows) (closure_numbers r names)
closure_low r names = λ i d low.
    number_within r (get_or (closure_numbers r names) i d)
    (filter_contains (λ row. in_closures r names (name_at r row)) (row_numbers r) (get_or (closure_numbers r names) i d)
    (Contains-get_or (closure_numbers r names) i d low)).0

-- the numbers of the closures
pub closure_has : (r : Registered) (names : List Text) (k : ℕ) → Contains (closure_numbers r names) k →
    (k < length r.rows) × (in_closures r names (name_at r k) ≡ true)
closure_has r names k c = let m = filter_contains (λ row. in_closures r names (name_at r row)) (row_numbers r) k c in (number_within r k m.0, m.1)

pub has_closure : (r : Registered) (names : List Text) (k : ℕ) → k < length r.rows → in_closures r names (name_at r k) ≡ true →
    Contains (closure_numbers r names) k
has_closure r names k low h = contains_filter (λ row. in_closures r names (name_at r row)) (row_numbers r) k (number_in r k low) h

pub unknown_skipped : (r : Registered) (k : ℕ) → is_skipped_at r k ≡ true → unknown_of r k ≡ []
unknown_skipped r k = step (slice_get r.rows k)
  where
    step : (o : Option Row) → option_map_or (λ found. has_feature r found.skip) o false ≡ true → unknown r (deps_of_row r o) ≡ []
    step None h = cc
    step (Some row) h = rw h refl

shorter : {X Y : Type 0} (f : X → Option Y) (xs : List X) → length (filter_map f xs) ≤ length xs
shorter f [] = omega arith
shorter f (x ∷ xs) = step (f x) (shorter f xs)
  where
    step : (o : Option _) → length (filter_map f xs) ≤ length xs → length (cons_option o (filter_map f xs)) ≤ suc (length xs)
    step None h = omega (arith, h)
    step (Some y) h = omega (arith, h)

-- where as many dependencies have rows as there are, none has no row
known_all : (r : Registered) (deps : List Dep) → length (filter_map (number_of_dep r) deps) ≡ length deps → filter_map (unknown_dep r) deps ≡ []
known_all r [] e = refl
known_all r (dep ∷ deps) e = step (dep_name r dep) e (λ h. known_all r deps h)
  where
    last : (name : Text) (o : Option ℕ) → length (cons_option o (filter_map (number_of_dep r) deps)) ≡ suc (length deps) →
        (length (filter_map (number_of_dep r) deps) ≡ length deps → filter_map (unknown_dep r) deps ≡ [])
        → cons_option (option_map_or (λ row. None) o (Some name)) (filter_map (unknown_dep r) deps) ≡ []
    last name None e rest = absurd (omega (arith, e, shorter (number_of_dep r) deps))
    last name (Some k) e rest = rest (omega (arith, e))

    step : (o : Option Text) → length (cons_option (option_and_then (number_of r) o) (filter_map (number_of_dep r) deps)) ≡ suc (length deps) →
        (length (filter_map (number_of_dep r) deps) ≡ length deps → filter_map (unknown_dep r) deps ≡ [])
        → cons_option (option_and_then (if_unknown r) o) (filter_map (unknown_dep r) deps) ≡ []
    step None e rest = absurd (omega (arith, e, shorter (number_of_dep r) deps))
    step (Some name) e rest = last name (number_of r name) e rest

pub unknown_none : (r : Registered) (k : ℕ) (row : Row) → slice_get r.rows k ≡ Some row → length (needs_of r k) ≡ length row.deps →
    unknown_of r k ≡ []
unknown_none r k row there e = unknown_of_is r k row there ∙ step (has_feature r row.skip) skipped needs
  where
    skipped : is_skipped_at r k ≡ has_feature r row.skip
    skipped = ap (λ (o : Option Row). option_map_or (λ found. has_feature r found.skip) o false) there

    needs : length (cond (has_feature r row.skip) [] (filter_map (number_of_dep r) row.deps)) ≡ length row.deps
    needs = ap length (sym (ap (λ (o : Option Row). option_map_or (needed r) o []) there)) ∙ e

    step : (b : Bool) → is_skipped_at r k ≡ b → length (cond b [] (filter_map (number_of_dep r) row.deps)) ≡ length row.deps →
        cond (is_skipped_at r k) [] (filter_map (unknown_dep r) row.deps) ≡ []
    step true s e = rw s refl
    step false s e = rw s (known_all r row.deps e)
