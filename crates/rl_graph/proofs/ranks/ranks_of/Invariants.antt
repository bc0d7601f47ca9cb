use Rattle.std.proofs.Common.{◌-◌, length}
use Rattle.rl_graph.specs.Graph.{edge_lists}
use Rattle.rl_graph.specs.Reversed.{AreReversed}
use Rattle.rl_graph.proofs.RankingLemmas.{IsRanking}
use Rattle.rl_graph.proofs.ranks.ranks_of.Given as goal

abbrev pub invariant-loop-rank : goal.invariant-loop-rank
invariant-loop-rank l = AreReversed (edge_lists l.edges) (edge_lists l.leading.items)
    × IsRanking (edge_lists l.edges) l.rank l.left.items l.ranked.items l.ranks.items

abbrev pub decreases-loop-rank : goal.decreases-loop-rank
decreases-loop-rank l = length l.edges - l.rank
