use Rattle.std.proofs.Common.{◌<◌, ℕ, List, length, get_or, take, subst, ◌∙◌, arith}
use Rattle.std.specs.Prelude.{Contains}
use Rattle.std.proofs.lemmas.List.{length-map}
use Rattle.std.proofs.lemmas.List.Elements.{Contains-get_or}
use Rattle.rl_graph.specs.Graph.{edge_lists, next_in}
use Rattle.rl_view_spec.proofs.ToolsLemmas.{flat_map_contains}
use Rattle.rl_compact.proofs.brought.mark_brought.Goals as goal

pub reach-requires-clause-low : goal.reach-requires-clause-low
reach-requires-clause-low c = λ k d low.
    let lists : List (List ℕ) = edge_lists c.args.edges.now in
    let ns : List ℕ = take c.loop-dep.dep-index c.args.deps.now in
    let s = flat_map_contains (next_in lists) ns (get_or c.as_slice-2.result.now k d)
    (subst (λ (xs : List ℕ). Contains xs (get_or c.as_slice-2.result.now k d)) (c.as_slice-2.ensures.value ∙ c.loop-dep.invariant)
    (Contains-get_or c.as_slice-2.result.now k d low)) in
    let there : get_or c.as_slice-2.result.now k d < length lists = c.requires.within s.0 (get_or c.as_slice-2.result.now k d) s.2 in
    omega (arith, there, length-map c.args.edges.now (λ v. v.items))
