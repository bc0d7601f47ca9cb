-- Closures are the same.
use Rattle.std.proofs.Common.{◌≡◌, ℕ, zero, suc, ◌+◌, ◌<◌, ◌≤◌, List, [], ◌∷◌, ◌++◌, Bool, true, false, cond, ◌⊎◌, Option}
use Rattle.std.proofs.Common.{Some, None, refl, ap, sym, subst, ◌∙◌, ⊎_elim, arith}
use Rattle.std.specs.Prelude.{bytes_eq, Contains, option_map}
use Rattle.std.specs.List.{filter_map, cons_option}
use Rattle.std.proofs.lemmas.Bool.{both_ways}
use Rattle.rl_names.specs.declared.row.Row.{Row}
use Rattle.rl_names.specs.declared.row.Dep.{Dep}
use Rattle.rl_names.specs.declared.row.Dep.TheVariants.{At, Named}
use Rattle.rl_view_spec.specs.Closure.{Text, Registered, row_of, deps_of, deps_of_row, dep_name, has_feature, is_among, Leads, InClosure, in_closure, resolves}
use Rattle.rl_view_spec.specs.Closure.{Resolves}
use Rattle.rl_view_spec.proofs.ChainsLemmas.{same, led_in_closure, reaches_from_led}
use Rattle.rl_view_spec.proofs.PlacesLemmas.{alike}
use Rattle.rl_view_spec.proofs.ResolveLemmas.{leads_on, closure_on, closure_itself, resolves_itself}
use Rattle.rl_view_spec.proofs.StatesLemmas.{iff_same}
use Rattle.rl_view_spec.proofs.VersionsLemmas.{filter_map_same}
use Rattle.rl_view_spec.proofs.ToolsLemmas.{one_any, contains_head, contains_tail, contains_cases, contains_none, found_in, found_place}
use Rattle.rl_compact.specs.Compact.{plain, barest, Brings, names_in, left, compact_row, compacted}
use Rattle.rl_compact.specs.Laws.{ClosuresStay}
use Rattle.rl_compact.proofs.FallsLemmas.{rank, rank_falls, rank_falls_along}
use Rattle.rl_compact.proofs.LeftLemmas.{dep_named_same, row_same, left_in, left_or_brought, IsBrought}

abbrev pub under : List Row → List Text → Registered
under rows features = record { rows = rows; features = features }

abbrev pub small : List Row → List Text → Registered
small rows features = record { rows = compacted rows; features = features }

pub name_plain : (rows : List Row) (features : List Text) (dep : Dep) → dep_name (under rows features) dep ≡ dep_name (plain rows) dep
name_plain rows features (At k) = refl
name_plain rows features (Named name) = refl

names_plain : (rows : List Row) (features : List Text) (deps : List Dep) →
    filter_map (dep_name (under rows features)) deps ≡ filter_map (dep_name (plain rows)) deps
names_plain rows features deps = filter_map_same (dep_name (under rows features)) (dep_name (plain rows)) deps (name_plain rows features)

pub names_small : (rows : List Row) (features : List Text) (deps : List Dep) →
    filter_map (dep_name (small rows features)) deps ≡ filter_map (dep_name (plain rows)) deps
names_small rows features deps = filter_map_same (dep_name (small rows features)) (dep_name (plain rows)) deps
    (λ dep. dep_named_same rows features dep ∙ name_plain rows features dep)

pub feature_small : (rows : List Row) (features : List Text) (skip : Option Text) →
    has_feature (small rows features) skip ≡ has_feature (under rows features) skip
feature_small rows features None = refl
feature_small rows features (Some text) = refl

-- ---- what a name depends on comes from its row

pub record IsDep (rows : List Row) (features : List Text) (name : Text) (deps : Row → List Dep) (next : Text) : Type 0 where
  pub row : Row
  pub found : row_of (plain rows) name ≡ Some row
  pub plainly : has_feature (under rows features) row.skip ≡ false
  pub has : Contains (filter_map (dep_name (plain rows)) (deps row)) next

pub unskipped : (b : Bool) (xs : List Text) (next : Text) → Contains (cond b [] xs) next → (b ≡ false) × Contains xs next
unskipped true xs next c = absurd (contains_none next c)
unskipped false xs next c = (refl, c)

skipless : (b : Bool) (xs : List Text) (next : Text) → b ≡ false → Contains xs next → Contains (cond b [] xs) next
skipless b xs next e c = subst (λ (t : Bool). Contains (cond t [] xs) next) (sym e) c

pub dep_split : (rows : List Row) (features : List Text) (name next : Text) → Contains (deps_of (under rows features) name) next →
    IsDep rows features name (λ row. row.deps) next
dep_split rows features name next = step (row_of (plain rows) name) refl
  where
    step : (o : Option Row) → row_of (plain rows) name ≡ o → Contains (deps_of_row (under rows features) o) next →
        IsDep rows features name (λ row. row.deps) next
    step None e c = absurd (contains_none next c)
    step (Some row) e c =
        let u = unskipped (has_feature (under rows features) row.skip) (filter_map (dep_name (under rows features)) row.deps) next c in
        record { row = row; found = e; plainly = u.0; has = subst (λ (xs : List Text). Contains xs next) (names_plain rows features row.deps) u.1 }

pub dep_join : (rows : List Row) (features : List Text) (name next : Text) → IsDep rows features name (λ row. row.deps) next →
    Contains (deps_of (under rows features) name) next
dep_join rows features name next d =
    subst (λ (o : Option Row). Contains (deps_of_row (under rows features) o) next) (sym d.found)
    (skipless (has_feature (under rows features) d.row.skip) (filter_map (dep_name (under rows features)) d.row.deps) next d.plainly
    (subst (λ (xs : List Text). Contains xs next) (sym (names_plain rows features d.row.deps)) d.has))

pub small_split : (rows : List Row) (features : List Text) (name next : Text) → Contains (deps_of (small rows features) name) next →
    IsDep rows features name (left rows) next
small_split rows features name next c = step (row_of (plain rows) name) refl
    (subst (λ (o : Option Row). Contains (deps_of_row (small rows features) o) next) (row_same rows features name) c)
  where
    step : (o : Option Row) → row_of (plain rows) name ≡ o → Contains (deps_of_row (small rows features) (option_map (compact_row rows) o)) next →
        IsDep rows features name (left rows) next
    step None e c = absurd (contains_none next c)
    step (Some row) e c =
        let u = unskipped (has_feature (small rows features) row.skip) (filter_map (dep_name (small rows features)) (left rows row)) next c in
        record {
          row = row;
          found = e;
          plainly = sym (feature_small rows features row.skip)
              ∙ u.0;
          has = subst (λ (xs : List Text). Contains xs next) (names_small rows features (left rows row)) u.1;
        }

pub small_join : (rows : List Row) (features : List Text) (name next : Text) → IsDep rows features name (left rows) next →
    Contains (deps_of (small rows features) name) next
small_join rows features name next d =
    subst (λ (o : Option Row). Contains (deps_of_row (small rows features) o) next)
    (sym (row_same rows features name ∙ ap (option_map (compact_row rows)) d.found))
    (skipless (has_feature (small rows features) d.row.skip) (filter_map (dep_name (small rows features)) (left rows d.row)) next
    (feature_small rows features d.row.skip ∙ d.plainly)
    (subst (λ (xs : List Text). Contains xs next) (sym (names_small rows features (left rows d.row))) d.has))

pub no_feature : (rows : List Row) (skip : Option Text) → has_feature (plain rows) skip ≡ false
no_feature rows None = refl
no_feature rows (Some text) = refl

-- a dependency under some features is one without features
pub dep_plain : (rows : List Row) (features : List Text) (name next : Text) → Contains (deps_of (under rows features) name) next →
    Contains (deps_of (plain rows) name) next
dep_plain rows features name next c =
    let d = dep_split rows features name next c in
    dep_join rows [] name next (record { row = d.row; found = d.found; plainly = no_feature rows d.row.skip; has = d.has })

skip_listed : (rows : List Row) (row : Row) (skip : Text) → Contains rows row → row.skip ≡ Some skip →
    Contains (filter_map (λ row. row.skip) rows) skip
skip_listed [] row skip c e = absurd (contains_none row c)
skip_listed (first ∷ rows) row skip c e = step (λ t. skip_listed rows row skip t e) (first.skip) refl (contains_cases first rows row c)
  where
    more : (o : Option Text) → Contains (filter_map (λ row. row.skip) rows) skip → Contains (cons_option o (filter_map (λ row. row.skip) rows)) skip
    more None d = d
    more (Some z) d = contains_tail z (filter_map (λ row. row.skip) rows) skip d

    step : (Contains rows row → Contains (filter_map (λ row. row.skip) rows) skip) → (o : Option Text) → first.skip ≡ o →
        (first ≡ row) ⊎ Contains rows row → Contains (cons_option (first.skip) (filter_map (λ row. row.skip) rows)) skip
    step rest o e' d = ⊎_elim
        (λ is. subst (λ (q : Option Text). Contains (cons_option q (filter_map (λ row. row.skip) rows)) skip) (sym (ap (λ (x : Row). x.skip) is ∙ e))
        (contains_head skip (filter_map (λ row. row.skip) rows)))
        (λ t. more first.skip (rest t))
        d

-- where no feature of all skips one the row has no skip
no_skip : (rows : List Row) (row : Row) → Contains rows row → has_feature (barest rows) row.skip ≡ false → row.skip ≡ None
no_skip rows row c h = step row.skip refl h
  where
    step : (o : Option Text) → row.skip ≡ o → has_feature (barest rows) o ≡ false → o ≡ None
    step None e h = refl
    step (Some skip) e h = absurd (both_ways (is_among (barest rows).features skip) h
        (one_any (bytes_eq skip) (barest rows).features skip (skip_listed rows row skip c e) (alike skip)))

-- a dependency under all features is one under any
pub bare_dep : (rows : List Row) (features : List Text) (name next : Text) → Contains (deps_of (barest rows) name) next →
    Contains (deps_of (under rows features) name) next
bare_dep rows features name next c =
    let d = dep_split rows (barest rows).features name next c in
    let none : d.row.skip ≡ None = no_skip rows d.row (found_in (λ row. bytes_eq row.name name) rows d.row d.found) d.plainly in
    dep_join rows features name next (record { row = d.row; found = d.found; plainly = ap (has_feature (under rows features)) none; has = d.has })

-- the row that is found has the name
pub found_named : (rows : List Row) (name : Text) (row : Row) → row_of (plain rows) name ≡ Some row → row.name ≡ name
found_named rows name row e = same row.name name (found_place (λ row. bytes_eq row.name name) rows row e).2

-- ---- chains after compaction are chains before

pub chain_before : (rows : List Row) (features : List Text) (name : Text) (chain : List Text) (last : Text) → Leads (small rows features) name chain last →
    Leads (under rows features) name chain last
chain_before rows features name [] last l = l
chain_before rows features name (next ∷ chain) last l =
    let d = small_split rows features name next l.0 in (
      dep_join rows features name next (record { row = d.row; found = d.found; plainly = d.plainly; has = left_in rows d.row next d.has }),
      chain_before rows
          features next chain last l.1,
    )

-- ---- and where chains lead before they lead after

pub bare_chain : (rows : List Row) (features : List Text) (name : Text) (chain : List Text) (last : Text) → Leads (barest rows) name chain last →
    Leads (under rows features) name chain last
bare_chain rows features name [] last l = l
bare_chain rows features name (next ∷ chain) last l = (bare_dep rows features name next l.0, bare_chain rows features next chain last l.1)

-- each dependency of a name of at most this rank is still in its closure
abbrev Keeps : List Row → List Text → ℕ → Type 0
Keeps rows features k = (name next : Text) → rank (plain rows) name ≤ k → Contains (deps_of (under rows features) name) next →
    InClosure (small rows features) name next

-- so a chain that no skip breaks is too
walk : (rows : List Row) (features : List Text) (k : ℕ) → Keeps rows features k → (top : Text) → Resolves (plain rows) top →
    (name : Text) (chain : List Text) (last : Text) → InClosure (plain rows) top name → rank (plain rows) name ≤ k
    → Leads (barest rows) name chain last → InClosure (small rows features) name last
walk rows features k keeps top res name [] last m low l = ([], l)
walk rows features k keeps top res name (next ∷ chain) last m low l =
    let step : Contains (deps_of (plain rows) name) next = bare_dep rows [] name next l.0 in
    let falls : rank (plain rows) next < rank (plain rows) name = rank_falls (plain rows) name next (res.acyclic name m) step in
    closure_on (small rows features) name next last
    (keeps name next low (bare_dep rows features name next l.0))
    (walk rows features k keeps top res next chain last (closure_on (plain rows) top name next m (next ∷ [], (step, refl))) (omega (arith, falls, low)) l.1)

-- a row that resolves, and that is not skipped
record Open (rows : List Row) (features : List Text) (k : ℕ) (name : Text) (row : Row) : Type 0 where
  pub found : row_of (plain rows) name ≡ Some row
  pub plainly : has_feature (under rows features) row.skip ≡ false
  pub resolved : Resolves (plain rows) name
  pub low : rank (plain rows) name ≤ suc k

open_dep : (rows : List Row) (features : List Text) (k : ℕ) (name : Text) (row : Row) → Open rows features k name row → (next : Text) →
    Contains (names_in rows row) next → Contains (deps_of (plain rows) name) next
open_dep rows features k name row o next c = dep_join rows [] name next (record { row = row; found = o.found; plainly = no_feature rows row.skip; has = c })

open_falls : (rows : List Row) (features : List Text) (k : ℕ) (name : Text) (row : Row) → Open rows features k name row → (next : Text) →
    Contains (names_in rows row) next → rank (plain rows) next < rank (plain rows) name
open_falls rows features k name row o next c = rank_falls (plain rows) name next (o.resolved.acyclic name (closure_itself (plain rows) name))
    (open_dep rows features k name row o next c)

-- what brings another has a greater rank
brought_falls : (rows : List Row) (features : List Text) (k : ℕ) (name : Text) (row : Row) → Open rows features k name row → (next : Text) →
    (d : IsBrought rows row next) → rank (plain rows) next < rank (plain rows) d.from
brought_falls rows features k name row o next d =
    let inside : InClosure (plain rows) name d.from = (d.from ∷ [], (open_dep rows features k name row o d.from d.beside, refl)) in
    let step : Contains (deps_of (plain rows) d.from) d.chain.0 = bare_dep rows [] d.from d.chain.0 d.chain.2.0 in
    let there : InClosure (plain rows) name d.chain.0 = closure_on (plain rows) name d.from d.chain.0 inside (d.chain.0 ∷ [], (step, refl)) in
    omega (
      arith,
      rank_falls (plain rows) d.from d.chain.0 (o.resolved.acyclic d.from inside) step,
      rank_falls_along (plain rows) name o.resolved d.chain.0 d.chain.1 next there (bare_chain rows [] d.chain.0 d.chain.1 next d.chain.2.1),
    )

-- what a dependency brings is in the closure: the dependency is left, or another one brings it, of greater rank
up : (rows : List Row) (features : List Text) (k : ℕ) → Keeps rows features k → (name : Text) (row : Row) → Open rows features k name row →
    (m : ℕ) (from : Text) → rank (plain rows) name ≤ rank (plain rows) from + m
    → Contains (names_in rows row) from → (last : Text) → Brings rows from last → InClosure (small rows features) name last
up rows features k keeps name row o zero from far c last b =
    let falls : rank (plain rows) from < rank (plain rows) name = open_falls rows features k name row o from c in
    absurd (omega (arith, falls, far))
up rows features k keeps name row o (suc m) from far c last b =
    let falls : rank (plain rows) from < rank (plain rows) name = open_falls rows features k name row o from c in
    let inside : InClosure (plain rows) name from = (from ∷ [], (open_dep rows features k name row o from c, refl)) in
    let rest : InClosure (small rows features) from last = walk rows features k keeps name o.resolved from (b.0 ∷ b.1) last inside
    (omega (arith, falls, o.low)) b.2 in
    ⊎_elim
    (λ kept. closure_on (small rows features) name from last
    (from ∷ [], (small_join rows features name from (record { row = row; found = o.found; plainly = o.plainly; has = kept }), refl)) rest)
    (λ d. up rows features k keeps name row o m d.from (omega (arith, far, brought_falls rows features k name row o from d)) d.beside last
    (d.chain.0, d.chain.1 ++ b.0 ∷ b.1, (d.chain.2.0, leads_on (barest rows) d.chain.0 d.chain.1 from (b.0 ∷ b.1) last d.chain.2.1 b.2)))
    (left_or_brought rows row from c)

kept_step : (rows : List Row) (features : List Text) (name next : Text) (row : Row) → row_of (plain rows) name ≡ Some row →
    has_feature (under rows features) row.skip ≡ false
    → Contains (filter_map (dep_name (plain rows)) (left rows row)) next → InClosure (small rows features) name next
kept_step rows features name next row found plainly kept = (
  next
      ∷ [],
  (small_join rows features name next (record { row = row; found = found; plainly = plainly; has = kept }), refl),
)

opened : (rows : List Row) (features : List Text) (k : ℕ) (name next : Text) (row : Row) → row_of (plain rows) name ≡ Some row →
    has_feature (under rows features) row.skip ≡ false → rank (plain rows) name ≤ suc k → IsBrought rows row next → Open rows features k name row
opened rows features k name next row found plainly low d = record {
  found = found;
  plainly = plainly;
  resolved = resolves_itself (plain rows) name (subst (λ (x : Text). resolves (plain rows) x ≡ true) (found_named rows name row found) d.closed);
  low = low;
}

-- of each dependency, by the rank of the name
steps : (rows : List Row) (features : List Text) (k : ℕ) → Keeps rows features k
steps rows features zero name next low c =
    let d = dep_split rows features name next c in
    ⊎_elim
    (λ kept. kept_step rows features name next d.row d.found d.plainly kept)
    (λ b. absurd (omega (
      arith,
      low,
      open_falls rows features 0 name d.row (opened rows features 0 name next d.row d.found d.plainly (omega (arith, low)) b)
          b.from b.beside,
    )))
    (left_or_brought rows d.row next d.has)
steps rows features (suc k) name next low c =
    let d = dep_split rows features name next c in
    ⊎_elim
    (λ kept. kept_step rows features name next d.row d.found d.plainly kept)
    (λ b. up rows features k (steps rows features k) name d.row (opened rows features k name next d.row d.found d.plainly low b) (rank (plain rows) name)
    b.from (omega arith) b.beside next b.chain)
    (left_or_brought rows d.row next d.has)

pub chain_after : (rows : List Row) (features : List Text) (name : Text) (chain : List Text) (last : Text) → Leads (under rows features) name chain last →
    InClosure (small rows features) name last
chain_after rows features name [] last l = ([], l)
chain_after rows features name (next ∷ chain) last l =
    closure_on (small rows features) name next last (steps rows features (rank (plain rows) name) name next (omega arith) l.0)
    (chain_after rows features next chain last l.1)

pub closures_stay : ClosuresStay
closures_stay rows features name member = iff_same (in_closure (small rows features) name member) (in_closure (under rows features) name member)
    (λ h. let m : InClosure (small rows features) name member =
    led_in_closure (small rows features) name member h in
    reaches_from_led (under rows features) name member (m.0, chain_before rows features name m.0 member m.1))
    (λ h. let m : InClosure (under rows features) name member =
    led_in_closure (under rows features) name member h in
    reaches_from_led (small rows features) name member (chain_after rows features name m.0 member m.1))
