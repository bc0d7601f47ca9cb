-- A version changes nothing that requests and progress look at.
use mathlib.Core.Path.{fun_ext}
use Rattle.std.proofs.Common.{◌≡◌, ℕ, zero, suc, ◌+◌, List, [], ◌∷◌, Bool, true, false, cond, ◌&&◌, ◌||◌, not, length, map, Option}
use Rattle.std.proofs.Common.{Some, None, refl, ap, sym, ◌∙◌}
use Rattle.std.specs.Prelude.{◌==◌, if◌then◌else◌, bytes_eq, filter, find, flat_map, is_some, position, slice_get, option_map, option_and_then}
use Rattle.std.specs.List.{filter_map, list_all, list_any, enumerate_from, prefix_len}
use Rattle.std.specs.Option.{option_map_or}
use Rattle.std.proofs.lemmas.List.{length-map}
use Rattle.std.proofs.lemmas.Option.{slice_get-map}
use Rattle.rl_names.specs.declared.row.Row.{Row}
use Rattle.rl_names.specs.declared.row.Dep.{Dep}
use Rattle.rl_names.specs.declared.row.Dep.TheVariants.{At, Named}
use Rattle.rl_view_spec.specs.Closure.{Text, Registered, dep_name, has_feature, row_of, has_row, deps_of, deps_of_row, reaches, in_closure, in_closures}
use Rattle.rl_view_spec.specs.Closure.{leads_back, mentioned, refusal_of}
use Rattle.rl_view_spec.specs.Numbers.{number_of, number_of_dep, needed, needs_of}
use Rattle.rl_view_spec.specs.Progress.{Progress, row_numbers, name_at, is_skipped_at, is_touched_at, outcome_at, is_impl, has_run, has_thrown, is_lost}
use Rattle.rl_view_spec.specs.Progress.{is_missing}
use Rattle.rl_view_spec.specs.Versions.{without_version, without_versions, AreAlike, AlikeButForVersions, AlikeProgress}
use Rattle.rl_view_spec.specs.declared.Phase.{Phase}
use Rattle.rl_view_spec.specs.declared.Phase.TheVariants as phase

position_map : (p : Row → Bool) (rows : List Row) → ((row : Row) → p (without_version row) ≡ p row) →
    position p (map without_version rows) ≡ position p rows
position_map p rows same =
    rw (prefix_map rows, length-map rows without_version) refl
  where
    prefix_map : (rows : List Row) → prefix_len (λ row. not (p row)) (map without_version rows) ≡ prefix_len (λ row. not (p row)) rows
    prefix_map [] = refl
    prefix_map (row ∷ rows) = rw (same row, prefix_map rows) refl

pub number_bare : (r : Registered) (name : Text) → number_of (without_versions r) name ≡ number_of r name
number_bare r name = position_map (λ row. bytes_eq row.name name) r.rows (λ row. refl)

pub feature_bare : (r : Registered) (skip : Option Text) → has_feature (without_versions r) skip ≡ has_feature r skip
feature_bare r None = refl
feature_bare r (Some skip) = refl

pub dep_bare : (r : Registered) (dep : Dep) → dep_name (without_versions r) dep ≡ dep_name r dep
dep_bare r (Named name) = refl
dep_bare r (At k) = ap (option_map (λ row. row.name)) (slice_get-map without_version r.rows k) ∙ step (slice_get r.rows k)
  where
    step : (o : Option Row) → option_map (λ row. row.name) (option_map without_version o) ≡ option_map (λ row. row.name) o
    step None = refl
    step (Some row) = refl

number_of_dep_bare : (r : Registered) (dep : Dep) → number_of_dep (without_versions r) dep ≡ number_of_dep r dep
number_of_dep_bare r dep = ap (option_and_then (number_of (without_versions r))) (dep_bare r dep) ∙ step (dep_name r dep)
  where
    step : (o : Option Text) → option_and_then (number_of (without_versions r)) o ≡ option_and_then (number_of r) o
    step None = refl
    step (Some name) = number_bare r name

pub filter_map_same : {X Y : Type 0} (f g : X → Option Y) (xs : List X) → ((x : X) → f x ≡ g x) → filter_map f xs ≡ filter_map g xs
filter_map_same f g [] same = refl
filter_map_same f g (x ∷ xs) same = rw (same x, filter_map_same f g xs same) refl

pub needed_bare : (r : Registered) (row : Row) → needed (without_versions r) (without_version row) ≡ needed r row
needed_bare r row =
    ap (λ b. cond b [] (filter_map (number_of_dep (without_versions r)) row.deps)) (feature_bare r row.skip)
    ∙ ap (λ (ns : List ℕ). cond (has_feature r row.skip) [] ns)
    (filter_map_same (number_of_dep (without_versions r)) (number_of_dep r) row.deps (number_of_dep_bare r))

-- what is the same without versions is the same with any
but_for : {X : Type 0} (f : Registered → X) → ((r : Registered) → f (without_versions r) ≡ f r) → (r s : Registered) →
    without_versions r ≡ without_versions s → f r ≡ f s
but_for f same r s e = sym (same r) ∙ ap f e ∙ same s

any_same : (f g : Text → Bool) (xs : List Text) → ((x : Text) → f x ≡ g x) → list_any f xs ≡ list_any g xs
any_same f g [] same = refl
any_same f g (x ∷ xs) same = rw (same x, any_same f g xs same) refl

filter_same : (f g : Text → Bool) (xs : List Text) → ((x : Text) → f x ≡ g x) → filter f xs ≡ filter g xs
filter_same f g [] same = refl
filter_same f g (x ∷ xs) same = rw (same x, filter_same f g xs same) refl

numbers_from : (n : ℕ) (rows : List Row) → map (λ (numbered : ℕ × Row). numbered.0) (enumerate_from n (map without_version rows))
    ≡ map (λ (numbered : ℕ × Row). numbered.0) (enumerate_from n rows)
numbers_from n [] = refl
numbers_from n (row ∷ rows) = ap (λ (ns : List ℕ). n ∷ ns) (numbers_from (n + 1) rows)

name_bare : (r : Registered) (row : ℕ) → name_at (without_versions r) row ≡ name_at r row
name_bare r row = ap (λ (o : Option Row). option_map_or (λ found. found.name) o []) (slice_get-map without_version r.rows row) ∙ step (slice_get r.rows row)
  where
    step : (o : Option Row) → option_map_or (λ found. found.name) (option_map without_version o) [] ≡ option_map_or (λ found. found.name) o []
    step None = refl
    step (Some found) = refl

skip_bare : (r : Registered) (row : ℕ) → is_skipped_at (without_versions r) row ≡ is_skipped_at r row
skip_bare r row = ap (λ (o : Option Row). option_map_or (λ found. has_feature (without_versions r) found.skip) o false)
    (slice_get-map without_version r.rows row) ∙ step (slice_get r.rows row)
  where
    step : (o : Option Row) → option_map_or (λ found. has_feature (without_versions r) found.skip) (option_map without_version o) false
        ≡ option_map_or (λ found. has_feature r found.skip) o false
    step None = refl
    step (Some found) = feature_bare r found.skip

needs_bare : (r : Registered) (row : ℕ) → needs_of (without_versions r) row ≡ needs_of r row
needs_bare r row = ap (λ (o : Option Row). option_map_or (needed (without_versions r)) o []) (slice_get-map without_version r.rows row)
    ∙ step (slice_get r.rows row)
  where
    step : (o : Option Row) → option_map_or (needed (without_versions r)) (option_map without_version o) [] ≡ option_map_or (needed r) o []
    step None = refl
    step (Some found) = needed_bare r found

find_bare : (p : Row → Bool) (rows : List Row) → ((row : Row) → p (without_version row) ≡ p row) →
    find p (map without_version rows) ≡ option_map without_version (find p rows)
find_bare p [] same = refl
find_bare p (row ∷ rows) same = ap (λ b. cond b (Some (without_version row)) (find p (map without_version rows))) (same row)
    ∙ step (p row) (find_bare p rows same)
  where
    step : (b : Bool) → find p (map without_version rows) ≡ option_map without_version (find p rows) →
        cond b (Some (without_version row)) (find p (map without_version rows)) ≡ option_map without_version (cond b (Some row) (find p rows))
    step true e = refl
    step false e = e

row_bare : (r : Registered) (name : Text) → row_of (without_versions r) name ≡ option_map without_version (row_of r name)
row_bare r name = find_bare (λ row. bytes_eq row.name name) r.rows (λ row. refl)

has_bare : (r : Registered) (name : Text) → has_row (without_versions r) name ≡ has_row r name
has_bare r name = ap is_some (row_bare r name) ∙ step (row_of r name)
  where
    step : (o : Option Row) → is_some (option_map without_version o) ≡ is_some o
    step None = refl
    step (Some found) = refl

deps_of_row_bare : (r : Registered) (row : Row) → deps_of_row (without_versions r) (Some (without_version row)) ≡ deps_of_row r (Some row)
deps_of_row_bare r row = rw (feature_bare r row.skip, filter_map_same (dep_name (without_versions r)) (dep_name r) row.deps (dep_bare r)) refl

deps_bare : (r : Registered) (name : Text) → deps_of (without_versions r) name ≡ deps_of r name
deps_bare r name = ap (deps_of_row (without_versions r)) (row_bare r name) ∙ step (row_of r name)
  where
    step : (o : Option Row) → deps_of_row (without_versions r) (option_map without_version o) ≡ deps_of_row r o
    step None = refl
    step (Some found) = deps_of_row_bare r found

reaches_bare : (r : Registered) (n : ℕ) (name last : Text) → reaches (without_versions r) n name last ≡ reaches r n name last
reaches_bare r zero name last = refl
reaches_bare r (suc n) name last =
    ap (λ b. bytes_eq name last || b)
    (ap (list_any (λ next. reaches (without_versions r) n next last)) (deps_bare r name)
    ∙ any_same (λ next. reaches (without_versions r) n next last) (λ next. reaches r n next last) (deps_of r name) (λ next. reaches_bare r n next last))

closure_bare : (r : Registered) (name member : Text) → in_closure (without_versions r) name member ≡ in_closure r name member
closure_bare r name member = ap (λ n. reaches (without_versions r) n name member) (length-map r.rows without_version)
    ∙ reaches_bare r (length r.rows) name member

closures_bare : (r : Registered) (names : List Text) (member : Text) → in_closures (without_versions r) names member ≡ in_closures r names member
closures_bare r names member = any_same (λ name. in_closure (without_versions r) name member) (λ name. in_closure r name member) names
    (λ name. closure_bare r name member)

back_bare : (r : Registered) (name : Text) → leads_back (without_versions r) name ≡ leads_back r name
back_bare r name =
    ap (list_any (λ next. in_closure (without_versions r) next name)) (deps_bare r name)
    ∙ any_same (λ next. in_closure (without_versions r) next name) (λ next. in_closure r next name) (deps_of r name) (λ next. closure_bare r next name)

names_bare : (rows : List Row) → map (λ row. row.name) (map without_version rows) ≡ map (λ row. row.name) rows
names_bare [] = refl
names_bare (row ∷ rows) = ap (λ (ns : List Text). row.name ∷ ns) (names_bare rows)

all_deps_bare : (r : Registered) (rows : List Row) → flat_map (λ row. deps_of_row (without_versions r) (Some row)) (map without_version rows)
    ≡ flat_map (λ row. deps_of_row r (Some row)) rows
all_deps_bare r [] = refl
all_deps_bare r (row ∷ rows) = rw (deps_of_row_bare r row, all_deps_bare r rows) refl

mentioned_bare : (r : Registered) (names : List Text) → mentioned (without_versions r) names ≡ mentioned r names
mentioned_bare r names = rw (names_bare r.rows, all_deps_bare r r.rows) refl

refusal_bare : (r : Registered) (names : List Text) → refusal_of (without_versions r) names ≡ refusal_of r names
refusal_bare r names = rw (first, second) refl
  where
    first : filter (λ name. in_closures (without_versions r) names name && not (has_row (without_versions r) name)) (mentioned (without_versions r) names)
        ≡ filter (λ name. in_closures r names name && not (has_row r name)) (mentioned r names)
    first =
        ap (filter (λ name. in_closures (without_versions r) names name && not (has_row (without_versions r) name))) (mentioned_bare r names)
        ∙ filter_same (λ name. in_closures (without_versions r) names name && not (has_row (without_versions r) name))
        (λ name. in_closures r names name && not (has_row r name)) (mentioned r names)
        (λ name. rw (closures_bare r names name, has_bare r name) refl)

    second : filter (λ name. in_closures (without_versions r) names name && leads_back (without_versions r) name) (mentioned (without_versions r) names)
        ≡ filter (λ name. in_closures r names name && leads_back r name) (mentioned r names)
    second =
        ap (filter (λ name. in_closures (without_versions r) names name && leads_back (without_versions r) name)) (mentioned_bare r names)
        ∙ filter_same (λ name. in_closures (without_versions r) names name && leads_back (without_versions r) name)
        (λ name. in_closures r names name && leads_back r name) (mentioned r names)
        (λ name. rw (closures_bare r names name, back_bare r name) refl)

pub alike_but_for_versions : AlikeButForVersions
alike_but_for_versions r s e = record {
  numbers = but_for row_numbers (λ q. numbers_from 0 q.rows) r s e;
  names = λ k. but_for (λ q. name_at q k) (λ q. name_bare q k) r s e;
  skips = λ k. but_for (λ q. is_skipped_at q k) (λ q. skip_bare q k) r s e;
  needs = λ k. but_for (λ q. needs_of q k) (λ q. needs_bare q k) r s e;
  found = λ name. but_for (λ q. number_of q name) (λ q. number_bare q name) r s e;
  closures = λ name member. but_for (λ q. in_closure q name member) (λ q. closure_bare q name member) r s e;
  refusals = λ names. but_for (λ q. refusal_of q names) (λ q. refusal_bare q names) r s e;
}

-- ---- progress

-- what is looked at of a registry
abbrev all_by : List ℕ → (ℕ → Text) → (Text → Text → Bool) → ℕ → (ℕ → Bool) → Bool
all_by numbers names closure row test = list_all (λ other. not (closure (names row) (names other)) || test other) numbers

abbrev done_by : (ℕ → Bool) → List (ℕ × Bool) → ℕ → Bool
done_by skips ran row = skips row || list_any (λ run. run.0 == row && not run.1) ran

abbrev runnable_by : List ℕ → (ℕ → Text) → (ℕ → Bool) → (Text → Text → Bool) → Progress → ℕ → Bool
runnable_by numbers names skips closure t row =
    is_touched_at t row && not (skips row) && is_impl (outcome_at t row) && not (has_run t row)
    && all_by numbers names closure row (λ other. other == row || done_by skips t.ran other)

abbrev phase_by : List ℕ → (ℕ → Text) → (ℕ → Bool) → (Text → Text → Bool) → Progress → ℕ → Phase
phase_by numbers names skips closure t row =
    if not (is_touched_at t row) then phase.Registered
    else if all_by numbers names closure row (done_by skips t.ran) then phase.Ready
    else if is_missing (outcome_at t row) then phase.Missing
    else if not (all_by numbers names closure row (λ other. not (is_lost (outcome_at t other) || has_thrown t other))) then phase.Error
    else if is_impl (outcome_at t row) then phase.Loaded
    else phase.Loading

-- what is made of it is the same over alike registries
by_parts : {Y : Type 0} (f : List ℕ → (ℕ → Text) → (ℕ → Bool) → (Text → Text → Bool) → Y) (r s : Registered) → AreAlike s r
    → f (row_numbers s) (name_at s) (is_skipped_at s) (in_closure s) ≡ f (row_numbers r) (name_at r) (is_skipped_at r) (in_closure r)
by_parts f r s a =
    ap (λ (numbers : List ℕ). f numbers (name_at s) (is_skipped_at s) (in_closure s)) a.numbers
    ∙ ap (λ (names : ℕ → Text). f (row_numbers r) names (is_skipped_at s) (in_closure s)) (fun_ext a.names)
    ∙ ap (λ (skips : ℕ → Bool). f (row_numbers r) (name_at r) skips (in_closure s)) (fun_ext a.skips)
    ∙ ap (λ (closure : Text → Text → Bool). f (row_numbers r) (name_at r) (is_skipped_at r) closure) (fun_ext (λ name. fun_ext (a.closures name)))

pub alike_progress : AlikeProgress
alike_progress s t a = record {
  runnable = λ row. by_parts (λ numbers names skips closure. runnable_by numbers names skips closure t row) t.registered s a;
  next = by_parts (λ numbers names skips closure. find (runnable_by numbers names skips closure t) numbers) t.registered s a;
  phases = λ row. by_parts (λ numbers names skips closure. phase_by numbers names skips closure t row) t.registered s a;
}
