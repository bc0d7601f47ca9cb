-- The names that a search finds are those that a refusal blames.
use Rattle.std.proofs.Common.{◌≡◌, ℕ, List, [], ◌∷◌, Bool, true, false, Option, Some, None, refl, ap, sym, subst, ◌∙◌, ⊎_elim}
use Rattle.std.specs.Prelude.{Contains, flat_map, is_none, slice_get}
use Rattle.std.proofs.lemmas.List.Elements.{Contains-append_left, Contains-append_right, Contains-append_cases}
use Rattle.std.proofs.lemmas.Bool.{true_from_ne_false}
use Rattle.rl_view_spec.specs.Closure.{Text, Registered, has_row, row_of, deps_of, deps_of_row, Leads, InClosure, in_closures, least, refusal_of, Unknown}
use Rattle.rl_view_spec.specs.Closure.{Cycle}
use Rattle.rl_view_spec.specs.Numbers.{number_of, closure_numbers}
use Rattle.rl_view_spec.specs.Progress.{name_at, HasDistinctNames}
use Rattle.rl_view_spec.specs.Laws.{IsUnknown, IsLooped}
use Rattle.rl_view_spec.proofs.ChainsLemmas.{row_from_dep}
use Rattle.rl_view_spec.proofs.ToolsLemmas.{contains_filter, filter_contains, contains_flat_map, flat_map_contains}
use Rattle.rl_view_spec.proofs.PlacesLemmas.{place_of, number_named, deps_alike}
use Rattle.rl_view_spec.proofs.ResolveLemmas.{closure_on, closure_itself, in_one, of_one, resolves_accepted}
use Rattle.rl_view_spec.proofs.RefusalsLemmas.{unknown_refused, cycle_refused}
use Rattle.rl_registry.specs.Kept.{AreClosures}
use Rattle.rl_registry.specs.Search.{unknown, unknown_of, unknown_in}
use Rattle.rl_rows.specs.Index.{IsLeastRow}
use Rattle.rl_rows.proofs.EdgesLemmas as kept
use Rattle.rl_view_spec.proofs.LeastLemmas.{least_of, none_of}
use Rattle.rl_registry.proofs.LoopsLemmas.{loops, loop_least}
use Rattle.rl_registry.proofs.UnknownsLemmas.{closure_has, has_closure}

-- a name without a number has no row
pub rowless_named : (r : Registered) (name : Text) → is_none (number_of r name) ≡ true → has_row r name ≡ false
rowless_named r name h = step (has_row r name) refl
  where
    step : (b : Bool) → has_row r name ≡ b → has_row r name ≡ false
    step false e = e
    step true e =
        let n = kept.number_found r name e in
        let no : false ≡ true = sym (ap is_none n.1) ∙ h in
        cc

pub named_rowless : (r : Registered) (name : Text) → has_row r name ≡ false → is_none (number_of r name) ≡ true
named_rowless r name h = step (number_of r name) refl
  where
    step : (o : Option ℕ) → number_of r name ≡ o → is_none (number_of r name) ≡ true
    step None e = ap is_none e
    step (Some k) e =
        let n = kept.number_named r name k e in
        let yes : has_row r name ≡ true = subst (λ (x : Text). has_row r x ≡ true) n.1 (number_named r k n.0) in
        let no : true ≡ false = sym yes ∙ h in
        cc

-- what the last step of a chain leaves
last_step : (r : Registered) (name next : Text) (chain : List Text) (last : Text) → Contains (deps_of r name) next → Leads r next chain last →
    (x : Text) × InClosure r name x × Contains (deps_of r x) last
last_step r name next [] last c l = (name, closure_itself r name, subst (λ (y : Text). Contains (deps_of r name) y) l c)
last_step r name next (other ∷ chain) last c l =
    let m = last_step r next other chain last l.0 l.1 in
    (m.0, closure_on r name next m.0 (next ∷ [], (c, refl)) m.1, m.2)

-- ---- the names without a row

pub unknown_to : (r : Registered) (names : List Text) (m : Text) → HasDistinctNames r → Contains (unknown_in r names) m → IsUnknown r names m
unknown_to r names m distinct c = ⊎_elim given needed (Contains-append_cases (unknown r names) (flat_map (unknown_of r) (closure_numbers r names)) m c)
  where
    given : Contains (unknown r names) m → IsUnknown r names m
    given h =
        let f = filter_contains (λ name. is_none (number_of r name)) names m h in
        ((m, f.0, closure_itself r m), rowless_named r m f.1)

    needed : Contains (flat_map (unknown_of r) (closure_numbers r names)) m → IsUnknown r names m
    needed h =
        let k = flat_map_contains (unknown_of r) (closure_numbers r names) m h in
        let low = closure_has r names k.0 k.1 in
        let f = filter_contains (λ name. is_none (number_of r name)) (deps_of_row r (slice_get r.rows k.0)) m k.2 in
        let top = of_one r names (name_at r k.0) low.1 in
        let dep : Contains (deps_of r (name_at r k.0)) m = subst (λ (xs : List Text). Contains xs m) (deps_alike r distinct k.0 low.0) f.0 in
        ((top.0, top.1, closure_on r top.0 (name_at r k.0) m top.2 (m ∷ [], (dep, refl))), rowless_named r m f.1)

pub unknown_from : (r : Registered) (names : List Text) (m : Text) → HasDistinctNames r → IsUnknown r names m → Contains (unknown_in r names) m
unknown_from r names m distinct u = step u.0.2.0 u.0.2.1
  where
    none : is_none (number_of r m) ≡ true
    none = named_rowless r m u.1

    step : (chain : List Text) → Leads r u.0.0 chain m → Contains (unknown_in r names) m
    step [] l =
        Contains-append_left (unknown r names) (flat_map (unknown_of r) (closure_numbers r names)) m
        (contains_filter (λ name. is_none (number_of r name)) names m (subst (λ (y : Text). Contains names y) l u.0.1) none)
    step (next ∷ chain) l =
        let s = last_step r u.0.0 next chain m l.0 l.1 in
        let p = place_of r s.0 (row_from_dep r (row_of r s.0) m s.2) in
        let inside = has_closure r names p.at p.inside (subst (λ (x : Text). in_closures r names x ≡ true) (sym p.named)
        (in_one r names u.0.0 s.0 u.0.1 s.1)) in
        let dep : Contains (deps_of_row r (slice_get r.rows p.at)) m =
        subst (λ (xs : List Text). Contains xs m) (sym (deps_alike r distinct p.at p.inside))
        (subst (λ (x : Text). Contains (deps_of r x) m) (sym p.named) s.2) in
        Contains-append_right (unknown r names) (flat_map (unknown_of r) (closure_numbers r names)) m
        (contains_flat_map (unknown_of r) (closure_numbers r names) p.at m inside
        (contains_filter (λ name. is_none (number_of r name)) (deps_of_row r (slice_get r.rows p.at)) m dep none))

-- ---- the refusals

pub refuses_unknown : (r : Registered) (names : List Text) (n : Text) → HasDistinctNames r → least (unknown_in r names) ≡ Some n →
    refusal_of r names ≡ Some (Unknown n)
refuses_unknown r names n distinct h =
    unknown_refused r names n (least_of (IsUnknown r names) (unknown_in r names) n (λ m c. unknown_to r names m distinct c)
    (λ m u. unknown_from r names m distinct u) h)

pub knows_all : (r : Registered) (names : List Text) → HasDistinctNames r → least (unknown_in r names) ≡ None → (m : Text) → IsUnknown r names m →
    ⊥
knows_all r names distinct h = none_of (IsUnknown r names) (unknown_in r names) (λ m u. unknown_from r names m distinct u) h

pub refuses_cycle : (r : Registered) (names : List Text) (marks : List Bool) (row : ℕ) → HasDistinctNames r → least (unknown_in r names) ≡ None →
    AreClosures r names marks → IsLeastRow r (loops r marks) (Some row)
    → refusal_of r names ≡ Some (Cycle (name_at r row))
refuses_cycle r names marks row distinct known m l = cycle_refused r names (name_at r row) (knows_all r names distinct known) (loop_least r names marks row m l)

-- nothing is to blame
pub accepts : (r : Registered) (names : List Text) → HasDistinctNames r → least (unknown_in r names) ≡ None →
    ((m : Text) → IsLooped r names m → ⊥) → refusal_of r names ≡ None
accepts r names distinct known free = resolves_accepted r names (λ name c. record {
  known = λ member m. true_from_ne_false (has_row r member) (λ e. knows_all r names distinct known member ((name, c, m), e));
  acyclic = λ member m loop. free member ((name, c, m), loop);
})
