use Rattle.std.proofs.Common.{◌≡◌, ◌<◌, length, arith, rules, subst, sym, ◌∙◌, ℕ, List, Vec}
use Rattle.std.specs.declared.alloc.Global.{Global}
use Rattle.std.proofs.lemmas.List.{get_or_read, length-map}
use Rattle.rl_graph.specs.Graph.{edge_lists}
use Rattle.rl_graph.specs.Marks.{Marks}
use Rattle.rl_graph.proofs.SpreadingLemmas.{spreading_begun, spreading_more, spreading_done, read_there}
use Rattle.rl_graph.proofs.ToolsLemmas.{all_within, listed}
use Rattle.rl_graph.proofs.marks.spread.Goals as goal

long : (edges : List (Vec ℕ Global)) → length (edge_lists edges) ≡ length edges
long edges = length-map edges (λ (v : Vec ℕ Global). v.items)

pub loop-at-init : goal.loop-at-init
loop-at-init c =
    let at : c.len-at.result ≡ length c.args.found.now.items = omega arith in record {
      spreading = rw at (spreading_begun _ _ _ _ _ _ (c.requires.long ∙ sym (long c.args.edges.now)) c.mark_all.auto.marks c.requires.closed c.requires.marked
          c.mark_all.ensures.marked c.mark_all.ensures.adds);
      room = search rules;
    }

pub bounds-edges-index : goal.bounds-edges-index
bounds-edges-index c =
    let low : c.loop-at.at < length c.loop-at.found.items = omega arith in
    omega (arith, long c.args.edges.now, read_there _ _ _ _ _ _ c.index.result.now c.loop-at.invariant.spreading low c.index.ensures)

pub mark_all-requires-in-loop-at-clause-low : goal.mark_all-requires-in-loop-at-clause-low
mark_all-requires-in-loop-at-clause-low c =
    let low : c.loop-at.at < length c.loop-at.found.items = omega arith in
    let there : c.index.result.now < length c.args.edges.now =
    omega (arith, long c.args.edges.now, read_there _ _ _ _ _ _ c.index.result.now c.loop-at.invariant.spreading low c.index.ensures) in
    all_within (edge_lists c.args.edges.now) c.index.result.now c.as_slice.result.now (length c.loop-at.marks) c.requires.within
    (listed c.args.edges.now c.index.result.now c.index-edges-index.result c.as_slice.result.now there c.index-edges-index.is c.as_slice.ensures.value)
    (sym c.loop-at.invariant.spreading.long)

pub loop-at-preserved : goal.loop-at-preserved
loop-at-preserved c =
    let low : c.loop-at.at < length c.loop-at.found.items = omega arith in
    let there : c.index.result.now < length c.args.edges.now =
    omega (arith, long c.args.edges.now, read_there _ _ _ _ _ _ c.index.result.now c.loop-at.invariant.spreading low c.index.ensures) in record {
      spreading = spreading_more _ _ _ _ _ _ _ _ c.index.result.now c.requires.closed c.loop-at.invariant.spreading low
          (get_or_read c.loop-at.found.items c.loop-at.at c.index.result.now low c.index.ensures 0) c.mark_all-in-loop-at.auto.marks
          c.mark_all-in-loop-at.ensures.marked
          (subst (λ (xs : List ℕ). Marks xs c.loop-at.marks c.mark_all-in-loop-at.new.marks c.loop-at.found.items c.mark_all-in-loop-at.new.found.items)
          (listed c.args.edges.now c.index.result.now c.index-edges-index.result c.as_slice.result.now there c.index-edges-index.is c.as_slice.ensures.value)
          c.mark_all-in-loop-at.ensures.adds);
      room = search rules;
    }

pub returns-clause-spreads : goal.returns-clause-spreads
returns-clause-spreads c = spreading_done _ _ _ _ _ _ c.loop-at.invariant.spreading (omega arith)
