use Rattle.std.proofs.Common.{◌<◌, ℕ, List, length, take, get_or, arith, Vec}
use Rattle.std.specs.declared.alloc.Global.{Global}
use Rattle.std.proofs.lemmas.List.{take_more, length-map}
use Rattle.rl_graph.specs.Graph.{edge_lists}
use Rattle.rl_graph.proofs.CountsLemmas.{pushed}
use Rattle.rl_graph.proofs.ReversingLemmas.{adds_none, adds_itself, adds_other}
use Rattle.rl_graph.proofs.edges.add_edges.Goals as goal
use Rattle.rl_graph.proofs.edges.add_edges.Goals.{then-to-from+in_ok-push, else-to-from}

pub loop-to-init : goal.loop-to-init
loop-to-init c = adds_none c.args.from (edge_lists c.args.lists.now)

pub loop-to-preserved : goal.loop-to-preserved
loop-to-preserved c =
    let i : c.loop-to.to-index < length c.args.next.now = omega arith in
    let lists : List (Vec ℕ Global) = c.loop-to.lists in
    let to : ℕ = get_or c.args.next.now c.loop-to.to-index 0 in
    rw (take_more c.args.next.now c.loop-to.to-index 0 i)
    (elim c.if-to-from.branch [
      | then-to-from+in_ok-push w ↦
          let low : to < length lists = omega (arith, c.requires c.loop-to.to-index 0 i) in
          rw (w.lists-is, pushed lists to c.args.from w.index-lists-to.result w.push.new.self low w.in_ok-push.ensures.items)
          (adds_other c.args.from to (take c.loop-to.to-index c.args.next.now) (edge_lists c.args.lists.now) (edge_lists lists) c.loop-to.invariant
          w.if-to-from.true (omega (arith, length-map lists (λ (v : Vec ℕ Global). v.items))))
      | else-to-from w ↦
          rw (w.lists-is, w.if-to-from.false) (adds_itself c.args.from (take c.loop-to.to-index c.args.next.now) (edge_lists c.args.lists.now)
          (edge_lists lists) c.loop-to.invariant)
    ])
