use Rattle.std.proofs.Common.{length}
use Rattle.std.proofs.lemmas.List.{length-map}
use Rattle.rl_graph.specs.Graph.{edge_lists}
use Rattle.rl_graph.proofs.ToolsLemmas.{all_within, listed}
use Rattle.rl_compact.proofs.BackwardsLemmas.{looped_by}
use Rattle.rl_compact.proofs.unresolved.leads_back.Goals as goal

pub reach-requires-clause-low : goal.reach-requires-clause-low
reach-requires-clause-low c =
    all_within (edge_lists c.args.edges.now) c.args.number c.as_slice.result.now (length c.args.edges.now) c.requires.within
    (listed c.args.edges.now c.args.number c.index-edges-number.result c.as_slice.result.now c.requires.low c.index-edges-number.is c.as_slice.ensures.value)
    (length-map c.args.edges.now (λ v. v.items))

pub returns : goal.returns
returns c =
    looped_by (edge_lists c.args.edges.now) c.args.number c.as_slice.result.now c.as_slice-2.result.now c.in_ok-marks.marks.items c.is_marked.result
    (listed c.args.edges.now c.args.number c.index-edges-number.result c.as_slice.result.now c.requires.low c.index-edges-number.is c.as_slice.ensures.value)
    c.as_slice-2.ensures.value c.in_ok-marks.ensures c.is_marked.ensures
