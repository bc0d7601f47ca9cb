use Rattle.std.proofs.Common.{Bool, List, ℕ, ◌<◌, sym, subst, ap, ◌∙◌}
use Rattle.std.specs.Prelude.{All}
use Rattle.std.proofs.lemmas.List.{length-map}
use Rattle.rl_graph.specs.Graph.{edge_lists, marked, IsWithin}
use Rattle.rl_view_spec.specs.Closure.{Registered}
use Rattle.rl_rows.proofs.EdgesLemmas.{kept_indexed}
use Rattle.rl_registry.proofs.MarkedLemmas.{back_of, back_fits}
use Rattle.rl_registry.proofs.registry.Registry.leads_back.Goals as goal

pub reach-requires-clause-within : goal.reach-requires-clause-within
reach-requires-clause-within c =
    let inside : Registered = record { rows = c.self.inside.rows.items; features = c.self.inside.features.items } in
    subst (λ es. IsWithin (edge_lists es)) (sym c.as_slice.ensures.value)
    (kept_indexed inside (edge_lists c.self.inside.edges.items) c.self.invariant.has_edges).within

pub reach-requires-clause-low : goal.reach-requires-clause-low
reach-requires-clause-low c =
    subst (λ (n : ℕ). All (λ k. k < n) c.needs.result.now) (length-map c.as_slice.result.now _)
    (back_fits (record { rows = c.self.inside.rows.items; features = c.self.inside.features.items }) c.args.self.now (edge_lists c.self.inside.edges.items)
    (edge_lists c.as_slice.result.now) c.args.row c.needs.result.now
    c.self.invariant.has_edges c.self.view_is (ap (λ es. edge_lists es) c.as_slice.ensures.value) c.needs.ensures.value c.requires)

pub returns : goal.returns
returns c =
    c.is_marked.ensures ∙ ap (λ (marks : List Bool). marked marks c.args.row) c.as_slice-2.ensures.value
    ∙ back_of (record { rows = c.self.inside.rows.items; features = c.self.inside.features.items }) c.args.self.now (edge_lists c.self.inside.edges.items)
    (edge_lists c.as_slice.result.now) c.args.row c.needs.result.now c.in_ok-marks.marks.items
    c.self.invariant.has_edges c.self.view_is (ap (λ es. edge_lists es) c.as_slice.ensures.value) c.needs.ensures.value c.requires c.in_ok-marks.ensures
