use Rattle.std.proofs.Common.{ℕ, ◌<◌, ap, sym, subst}
use Rattle.std.specs.Prelude.{All}
use Rattle.std.proofs.lemmas.List.{length-map}
use Rattle.std.proofs.lemmas.Result.{IfOk-weaker}
use Rattle.rl_graph.specs.Graph.{edge_lists, IsWithin}
use Rattle.rl_view_spec.specs.Closure.{Registered}
use Rattle.rl_rows.proofs.EdgesLemmas.{kept_indexed}
use Rattle.rl_registry.proofs.MarkedLemmas.{closures_marked, closure_fits}
use Rattle.rl_registry.proofs.registry.Registry.reached.Goals as goal

pub reach-requires-clause-within : goal.reach-requires-clause-within
reach-requires-clause-within c =
    let inside : Registered = record { rows = c.self.inside.rows.items; features = c.self.inside.features.items } in
    subst (λ es. IsWithin (edge_lists es)) (sym c.as_slice.ensures.value)
    (kept_indexed inside (edge_lists c.self.inside.edges.items) c.self.invariant.has_edges).within

pub reach-requires-clause-low : goal.reach-requires-clause-low
reach-requires-clause-low c =
    subst (λ (n : ℕ). All (λ k. k < n) c.as_slice-2.result.now) (length-map c.as_slice.result.now _)
    (closure_fits (record { rows = c.self.inside.rows.items; features = c.self.inside.features.items }) c.args.self.now (edge_lists c.self.inside.edges.items)
    (edge_lists c.as_slice.result.now) c.args.names.now c.in_ok-starts.starts.items c.as_slice-2.result.now
    c.self.invariant.has_edges c.self.view_is (ap (λ es. edge_lists es) c.as_slice.ensures.value) c.as_slice-2.ensures.value c.in_ok-starts.ensures)

pub returns : goal.returns
returns c =
    IfOk-weaker c.reach.result _ _
    (λ marks h. closures_marked (record { rows = c.self.inside.rows.items; features = c.self.inside.features.items }) c.args.self.now
    (edge_lists c.self.inside.edges.items) (edge_lists c.as_slice.result.now) c.args.names.now c.in_ok-starts.starts.items c.as_slice-2.result.now
    marks.items
    c.self.invariant.has_edges c.self.view_is (ap (λ es. edge_lists es) c.as_slice.ensures.value) c.as_slice-2.ensures.value c.in_ok-starts.ensures h)
    c.reach.ensures
