use Rattle.std.proofs.Common.{◌≡◌, sym, subst, ap, map, ◌∙◌}
use Rattle.rl_graph.specs.Graph.{edge_lists, IsWithin}
use Rattle.rl_view_spec.specs.Closure.{Registered}
use Rattle.rl_view_spec.specs.Numbers.{needed}
use Rattle.rl_rows.proofs.EdgesLemmas.{kept_indexed}
use Rattle.rl_registry.proofs.registry.Registry.edges.Goals as goal

pub returns-clause-value : goal.returns-clause-value
returns-clause-value c =
    subst (λ (r : Registered). edge_lists c.as_slice.result.now ≡ map (needed r) r.rows) c.self.view_is
    (ap (λ es. edge_lists es) c.as_slice.ensures.value ∙ c.self.invariant.has_edges.edges_are)

pub returns-clause-within : goal.returns-clause-within
returns-clause-within c =
    let inside : Registered = record { rows = c.self.inside.rows.items; features = c.self.inside.features.items } in
    subst (λ es. IsWithin (edge_lists es)) (sym c.as_slice.ensures.value)
    (kept_indexed inside (edge_lists c.self.inside.edges.items) c.self.invariant.has_edges).within
