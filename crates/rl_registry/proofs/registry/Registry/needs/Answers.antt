use Rattle.std.proofs.Common.{◌≡◌, ◌<◌, ℕ, List, get_or, length, sym, subst, ◌∙◌}
use Rattle.rl_view_spec.specs.Closure.{Registered}
use Rattle.rl_view_spec.specs.Numbers.{needs_of}
use Rattle.std.specs.Prelude.{Contains}
use Rattle.std.proofs.lemmas.List.Elements.{Contains-get_or}
use Rattle.rl_rows.proofs.EdgesLemmas.{needs_at, needs_within}
use Rattle.rl_registry.proofs.registry.Registry.needs.Goals as goal

pub returns-clause-value : goal.returns-clause-value
returns-clause-value c =
    let inside : Registered = record { rows = c.self.inside.rows.items; features = c.self.inside.features.items } in
    let low : c.args.row < length inside.rows = subst (λ (r : Registered). c.args.row < length r.rows) (sym c.self.view_is) c.requires in
    subst (λ (r : Registered). c.as_slice.result.now ≡ needs_of r c.args.row) c.self.view_is
    (c.as_slice.ensures.value ∙ needs_at inside c.self.inside.edges.items c.args.row c.index.result.now c.self.invariant.has_edges low c.index.ensures)

pub returns-clause-within : goal.returns-clause-within
returns-clause-within c = λ i d low.
    needs_within c.args.self.now c.args.row (get_or c.as_slice.result.now i d)
    (subst (λ (ns : List ℕ). Contains ns (get_or c.as_slice.result.now i d)) (returns-clause-value c) (Contains-get_or c.as_slice.result.now i d low))
