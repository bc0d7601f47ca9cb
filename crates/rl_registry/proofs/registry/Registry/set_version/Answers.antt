use Rattle.std.proofs.Common.{◌<◌, length, sym, subst, ap, ◌∙◌}
use Rattle.rl_view_spec.specs.Closure.{Registered}
use Rattle.rl_registry.specs.Rows.{with_version}
use Rattle.rl_graph.specs.Graph.{edge_lists}
use Rattle.rl_registry.specs.Kept.{IsKept}
use Rattle.rl_registry.proofs.VersionsLemmas.{kept_versioned, versioned_at}
use Rattle.rl_registry.proofs.registry.Registry.set_version.Goals as goal

pub invariant_of-self : goal.invariant_of-self
invariant_of-self c =
    let inside : Registered = record { rows = c.self.inside.rows.items; features = c.self.inside.features.items } in
    let low : c.args.row < length inside.rows = subst (λ (r : Registered). c.args.row < length r.rows) (sym c.self.view_is) c.requires in
    subst (λ (r : Registered). IsKept r c.self.inside.order.items c.self.inside.skips.items (edge_lists c.self.inside.edges.items))
    (versioned_at inside c.args.row c.args.version c.index_mut.result.now low c.index_mut.ensures.value)
    (kept_versioned inside c.self.inside.order.items c.self.inside.skips.items (edge_lists c.self.inside.edges.items) c.args.row c.args.version
    c.self.invariant)

pub returns : goal.returns
returns c =
    let inside : Registered = record { rows = c.self.inside.rows.items; features = c.self.inside.features.items } in
    let low : c.args.row < length inside.rows = subst (λ (r : Registered). c.args.row < length r.rows) (sym c.self.view_is) c.requires in
    sym (versioned_at inside c.args.row c.args.version c.index_mut.result.now low c.index_mut.ensures.value)
    ∙ ap (λ (r : Registered). with_version r c.args.row c.args.version) c.self.view_is
