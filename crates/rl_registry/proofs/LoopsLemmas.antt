-- The rows that lead back to themselves, and ranks by which there are none.
use Rattle.std.proofs.Common.{◌≡◌, ℕ, suc, ◌<◌, List, Bool, true, false, ◌&&◌, length, nat_lt, Option, Some, None, refl, ap, sym, subst}
use Rattle.std.proofs.Common.{◌∙◌, arith}
use Rattle.std.specs.Prelude.{Contains, slice_index}
use Rattle.std.specs.List.{list_all}
use Rattle.std.specs.Option.{option_map_or}
use Rattle.std.specs.Ordering.{nat_cmp, is_lt}
use Rattle.std.specs.Cmp.Lexicographic.{slice_cmp}
use Rattle.std.proofs.lemmas.Bool.{and_from, and_parts, both_ways, ltb-true}
use Rattle.rl_view_spec.proofs.ToolsLemmas.{all_each}
use Rattle.rl_view_spec.specs.Closure.{Text, Registered, row_of, deps_of, InClosure, in_closures, leads_back}
use Rattle.rl_view_spec.specs.Numbers.{number_of, closure_numbers}
use Rattle.rl_view_spec.specs.Progress.{name_at}
use Rattle.rl_view_spec.specs.Laws.{IsLooped, IsLeast}
use Rattle.rl_view_spec.proofs.ChainsLemmas.{row_from_dep}
use Rattle.rl_view_spec.proofs.PlacesLemmas.{place_of}
use Rattle.rl_view_spec.proofs.ReachLemmas.{ranked_is_acyclic}
use Rattle.rl_view_spec.proofs.ResolveLemmas.{in_one, of_one, back_from_cyclic, cyclic_from_back}
use Rattle.rl_graph.specs.Graph.{next_in, marked}
use Rattle.rl_graph.specs.Ranks.{falls_at}
use Rattle.rl_registry.specs.Kept.{AreClosures}
use Rattle.rl_rows.specs.Edges.{HasEdges}
use Rattle.rl_rows.specs.Index.{IsLeastRow}
use Rattle.rl_rows.proofs.EdgesLemmas as kept
use Rattle.rl_registry.proofs.UnknownsLemmas.{has_closure}

abbrev pub loops : Registered → List Bool → ℕ → Bool
loops r marks row = marked marks row && leads_back r (name_at r row)

-- a name of the closures that leads back to itself is that of such a row
pub looped_place : (r : Registered) (names : List Text) (marks : List Bool) (other : Text) → AreClosures r names marks → IsLooped r names other
    → (k : ℕ) × (k < length r.rows) × (name_at r k ≡ other) × (loops r marks k ≡ true)
looped_place r names marks other m u =
    let p = place_of r other (row_from_dep r (row_of r other) u.1.0 u.1.2.0) in (
      p.at,
      p.inside,
      p.named,
      and_from (marked marks p.at) (leads_back r (name_at r p.at))
          (m.each p.at p.inside ∙ ap (in_closures r names) p.named ∙ in_one r names u.0.0 other u.0.1 u.0.2)
          (ap (leads_back r) p.named ∙ back_from_cyclic r other u.1),
    )

pub loop_least : (r : Registered) (names : List Text) (marks : List Bool) (row : ℕ) → AreClosures r names marks →
    IsLeastRow r (loops r marks) (Some row) → IsLeast (IsLooped r names) (name_at r row)
loop_least r names marks row m l =
    let parts = and_parts (marked marks row) (leads_back r (name_at r row)) l.1 in
    record {
      holds = (of_one r names (name_at r row) (sym (m.each row l.0) ∙ parts.0), cyclic_from_back r (name_at r row) parts.1);
      below = λ other u.
          let k = looped_place r names marks other m u in
          subst (λ (x : Text). is_lt (slice_cmp nat_cmp x (name_at r row)) ≡ false) k.2 (l.2 k.0 k.1 k.3);
    }

pub loop_none : (r : Registered) (names : List Text) (marks : List Bool) → AreClosures r names marks → IsLeastRow r (loops r marks) None → (m : Text) →
    IsLooped r names m → ⊥
loop_none r names marks m l other u =
    let k = looped_place r names marks other m u in
    both_ways (loops r marks k.0) (l k.0 k.1) k.3

-- ---- ranks that fall

-- the ranks fall at each of these numbers
abbrev pub AllFall : List (List ℕ) → List ℕ → List ℕ → Type 0
AllFall edges ranks numbers = list_all (falls_at edges ranks) numbers ≡ true

falls_along : (edges : List (List ℕ)) (ranks numbers : List ℕ) → AllFall edges ranks numbers → (a b : ℕ) → Contains numbers a →
    Contains (next_in edges a) b → slice_index ranks b < slice_index ranks a
falls_along edges ranks numbers all a b c e =
    let here : falls_at edges ranks a ≡ true = all_each (falls_at edges ranks) numbers a all c in
    ltb-true (slice_index ranks b) (slice_index ranks a)
    (all_each (λ to. nat_lt (slice_index ranks to) (slice_index ranks a)) (next_in edges a) b here e)

abbrev rank_of : Registered → List ℕ → Text → ℕ
rank_of r ranks name = option_map_or (λ k. suc (slice_index ranks k)) (number_of r name) 0

falls_named : (r : Registered) (edges : List (List ℕ)) (ranks : List ℕ) (names : List Text) (name : Text) → HasEdges r edges →
    AllFall edges ranks (closure_numbers r names) → Contains names name
    → (one next : Text) → InClosure r name one → Contains (deps_of r one) next → rank_of r ranks next < rank_of r ranks one
falls_named r edges ranks names name has falls c one next m dep =
    let p = place_of r one (row_from_dep r (row_of r one) next dep) in
    let number : number_of r one ≡ Some p.at = ap (number_of r) (sym p.named) ∙ kept.number_is r p.at has.distinct p.inside in
    let rank : rank_of r ranks one ≡ suc (slice_index ranks p.at) = ap (λ (o : Option ℕ). option_map_or (λ k. suc (slice_index ranks k)) o 0) number in
    let inside : Contains (closure_numbers r names) p.at = has_closure r names p.at p.inside (ap (in_closures r names) p.named ∙ in_one r names name one c m)
    in
    subst (λ (n : ℕ). rank_of r ranks next < n) (sym rank) (step p.at p.inside p.named inside (number_of r next) refl)
  where
    step : (at : ℕ) → at < length r.rows → name_at r at ≡ one → Contains (closure_numbers r names) at → (o : Option ℕ) → number_of r next ≡ o
        → option_map_or (λ k. suc (slice_index ranks k)) o 0 < suc (slice_index ranks at)
    step at low named inside None e = omega arith
    step at low named inside (Some k) e =
        let n = kept.number_named r next k e in
        let edge : Contains (next_in edges at) k = ((kept.kept_indexed r edges has).each at k low n.0).1
        (subst (λ (x : Text). Contains (deps_of r (name_at r at)) x) (sym n.1) (subst (λ (x : Text). Contains (deps_of r x) next) (sym named) dep)) in
        omega (arith, falls_along edges ranks (closure_numbers r names) falls at k inside edge)

-- nothing leads back to itself
pub no_loops : (r : Registered) (edges : List (List ℕ)) (ranks : List ℕ) (names : List Text) → HasEdges r edges →
    AllFall edges ranks (closure_numbers r names) → (m : Text) → IsLooped r names m → ⊥
no_loops r edges ranks names kept falls m u =
    ranked_is_acyclic r u.0.0 (rank_of r ranks) (falls_named r edges ranks names u.0.0 kept falls u.0.1) m u.0.2 u.1
