use Rattle.std.proofs.lemmas.Bool.{both_ways}
use Rattle.rl_graph.specs.Graph.{edge_lists}
use Rattle.rl_compact.proofs.BackwardsLemmas.{bad_more, bad_same}
use Rattle.rl_compact.proofs.unresolved.bad_numbers.Goals as goal
use Rattle.rl_compact.proofs.unresolved.bad_numbers.Goals.{then-branch+in_ok-push, else-branch}

pub loop-at-preserved : goal.loop-at-preserved
loop-at-preserved c = elim c.if-branch.branch [
  | then-branch+in_ok-push w ↦
      rw (w.bad-is, w.in_ok-push.ensures.items)
      (bad_more (edge_lists c.args.edges.now) c.args.lacks.now c.loop-at.at c.loop-at.bad.items c.loop-at.invariant (c.in_ok-is_bad.ensures.0 w.if-branch.true))
  | else-branch w ↦
      rw w.bad-is
      (bad_same (edge_lists c.args.edges.now) c.args.lacks.now c.loop-at.at c.loop-at.bad.items c.loop-at.invariant
      (λ b. both_ways _ w.if-branch.false (c.in_ok-is_bad.ensures.1 b)))
]
