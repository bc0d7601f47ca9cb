-- Along dependencies fewer and fewer rows are in the closure.
use Rattle.std.proofs.Common.{◌≡◌, ℕ, suc, ◌<◌, ◌≤◌, List, [], ◌∷◌, true, not, refl, ap, subst, ⊎_elim, arith}
use Rattle.std.specs.Prelude.{bytes_eq, Contains}
use Rattle.std.proofs.lemmas.Bool.{and_from, cases_Bool}
use Rattle.rl_view_spec.specs.Closure.{Text, Registered, row_of, deps_of, Leads, InClosure, IsCyclic, in_closure, Resolves}
use Rattle.rl_view_spec.proofs.ChainsLemmas.{count, without, count_le, count_without, row_from_dep, same, led_in_closure, reaches_from_led}
use Rattle.rl_view_spec.proofs.ResolveLemmas.{closure_on, within_itself, within_on}

-- how many rows are in the closure of a name
abbrev pub rank : Registered → Text → ℕ
rank r name = count (in_closure r name) r.rows

pub rank_falls : (r : Registered) (name next : Text) → (IsCyclic r name → ⊥) → Contains (deps_of r name) next → rank r next < rank r name
rank_falls r name next acyclic c =
    let most : suc (count (without (in_closure r name) name) r.rows) ≤ count (in_closure r name) r.rows =
    count_without (in_closure r name) name r.rows (within_itself r name) (row_from_dep r (row_of r name) next c) in
    let fewer : count (in_closure r next) r.rows ≤ count (without (in_closure r name) name) r.rows =
    count_le (without (in_closure r name) name) (in_closure r next) r.rows each in
    omega (arith, most, fewer)
  where
    each : (other : Text) → in_closure r next other ≡ true → without (in_closure r name) name other ≡ true
    each other h = and_from (in_closure r name other) (not (bytes_eq other name))
        (within_on r name next other (reaches_from_led r name next (next ∷ [], (c, refl))) h)
        (⊎_elim
        (λ e. let led : InClosure r next name = subst (λ (x : Text). InClosure r next x) (same other name e) (led_in_closure r next other h) in
        absurd (acyclic (next, led.0, (c, led.1))))
        (λ e. ap not e)
        (cases_Bool (bytes_eq other name)))

-- so along a chain, where nothing in the closure leads back
pub rank_falls_along : (r : Registered) (name : Text) → Resolves r name → (a : Text) (chain : List Text) (b : Text) → InClosure r name a →
    Leads r a chain b → rank r b ≤ rank r a
rank_falls_along r name res a [] b m l = omega (arith, ap (rank r) l)
rank_falls_along r name res a (next ∷ chain) b m l =
    omega (
      arith,
      rank_falls r a next (res.acyclic a m) l.0,
      rank_falls_along r name res next chain b (closure_on r name a next m (next ∷ [], (l.0, refl)))
          l.1,
    )
