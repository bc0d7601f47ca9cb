-- A walk over the rows finds a closure.
use Rattle.std.proofs.Common.{◌≡◌, ℕ, ◌<◌, ◌≤◌, List, [], ◌∷◌, Bool, true, length, refl, ap, sym, subst, ◌∙◌, arith}
use Rattle.std.specs.Prelude.{Contains}
use Rattle.rl_view_spec.specs.Closure.{Text, Registered, deps_of, Leads, InClosure}
use Rattle.rl_view_spec.specs.Progress.{name_at, HasDistinctNames}
use Rattle.rl_view_spec.specs.Reach.{LeadsAt, AreEdges, EdgesLead, ClosedHasClosure, RankedIsAcyclic}
use Rattle.rl_view_spec.proofs.PlacesLemmas.{place_of, number_named, apart}
use Rattle.rl_view_spec.proofs.ResolveLemmas.{closure_on}
use Rattle.rl_view_spec.proofs.DirectLemmas.{step_has_row}

by_names : (r : Registered) (edges : ℕ → List ℕ) → AreEdges r edges → (row : ℕ) → row < length r.rows → (rows : List ℕ) (last : ℕ) →
    LeadsAt edges row rows last → InClosure r (name_at r row) (name_at r last)
by_names r edges e row low [] last l = ([], ap (name_at r) l)
by_names r edges e row low (next ∷ rows) last l =
    let there : next < length r.rows = e.inside row next low l.0 in
    let m : InClosure r (name_at r next) (name_at r last) = by_names r edges e next there rows last l.1 in
    (name_at r next ∷ m.0, ((e.means row next low there).0 l.0, m.1))

by_numbers : (r : Registered) (edges : ℕ → List ℕ) → HasDistinctNames r → AreEdges r edges → (row : ℕ) → row < length r.rows →
    (chain : List Text) (last : ℕ) → last < length r.rows
    → Leads r (name_at r row) chain (name_at r last) → (rows : List ℕ) × LeadsAt edges row rows last
by_numbers r edges distinct e row low [] last there l = ([], apart r distinct row last low there l)
by_numbers r edges distinct e row low (next ∷ chain) last there l =
    let p = place_of r next (step_has_row r next chain (name_at r last) l.1 (number_named r last there)) in
    let m : (rows : List ℕ) × LeadsAt edges p.at rows last =
    by_numbers r edges distinct e p.at p.inside chain last there (subst (λ (x : Text). Leads r x chain (name_at r last)) (sym p.named) l.1) in
    (p.at ∷ m.0, ((e.means row p.at low p.inside).1 (subst (λ (x : Text). Contains (deps_of r (name_at r row)) x) (sym p.named) l.0), m.1))

pub edges_lead : EdgesLead
edges_lead r edges distinct e row last low there =
    ((λ m. by_names r edges e row low m.0 last m.1), (λ m. by_numbers r edges distinct e row low m.0 last there m.1))

stays_in : (r : Registered) (set : Text → Bool) → ((one next : Text) → set one ≡ true → Contains (deps_of r one) next → set next ≡ true) →
    (name : Text) (chain : List Text) (last : Text) → set name ≡ true → Leads r name chain last → set last ≡ true
stays_in r set closed name [] last h l = ap set (sym l) ∙ h
stays_in r set closed name (next ∷ chain) last h l = stays_in r set closed next chain last (closed name next h l.0) l.1

pub closed_has_closure : ClosedHasClosure
closed_has_closure r name set h closed member m = stays_in r set closed name m.0 member h m.1

falls : (r : Registered) (top : Text) (rank : Text → ℕ) →
    ((one next : Text) → InClosure r top one → Contains (deps_of r one) next → rank next < rank one) →
    (name : Text) (chain : List Text) (last : Text) → InClosure r top name → Leads r name chain last → rank last ≤ rank name
falls r top rank low name [] last c l = omega (arith, ap rank l)
falls r top rank low name (next ∷ chain) last c l =
    omega (arith, low name next c l.0, falls r top rank low next chain last (closure_on r top name next c (next ∷ [], (l.0, refl))) l.1)

pub ranked_is_acyclic : RankedIsAcyclic
ranked_is_acyclic r name rank low member m loop =
    absurd (omega (
      arith,
      low member loop.0 m loop.2.0,
      falls r name rank low loop.0 loop.1 member
          (closure_on r name member loop.0 m (loop.0 ∷ [], (loop.2.0, refl))) loop.2.1,
    ))
