use Rattle.std.proofs.Common.{◌≡◌, ◌<◌, ◌+◌, ℕ, List, length, map, set, get_or, replicate, nat_eq, rules, arith, ap, sym, subst, ◌∙◌, Vec}
use Rattle.std.specs.declared.alloc.Global.{Global}
use Rattle.std.proofs.lemmas.Grind.{common_steps}
use Rattle.std.proofs.lemmas.List.{length-map}
use Rattle.rl_graph.specs.Graph.{edge_lists, next_in, places_from}
use Rattle.rl_graph.specs.Ranks.{Releases}
use Rattle.rl_graph.specs.Reversed.{AreReversed}
use Rattle.rl_graph.proofs.CountsLemmas.{lent_back}
use Rattle.rl_graph.proofs.RankingLemmas.{IsRanking, ranking_begins, ranking_advances, ranking_ends, next_low, next_enough, ranked_low}
use Rattle.rl_graph.proofs.ToolsLemmas.{listed}
use Rattle.rl_graph.proofs.ranks.ranks_of.Goals as goal

abbrev Edges : Type 0
Edges = List (Vec ℕ Global)

-- what an index read
read_at : (found : List ℕ) (at r : ℕ) → r ≡ get_or found at r → at < length found → get_or found at 0 ≡ r
read_at found at r e h = grind (arith, common_steps)

long : (edges : Edges) → length (edge_lists edges) ≡ length edges
long edges = length-map edges (λ (v : Vec ℕ Global). v.items)

-- the number that comes next, and what leads to it
at_low : (edges leading : Edges) (i at : ℕ) (left ranked ranks : List ℕ) →
    AreReversed (edge_lists edges) (edge_lists leading) × IsRanking (edge_lists edges) i left ranked ranks → i < length ranked → at ≡ get_or ranked i at
    → (at < length leading) × (at < length ranks) × (get_or ranked i 0 ≡ at)
at_low edges leading i at left ranked ranks k low is =
    let e : get_or ranked i 0 ≡ at = read_at ranked i at is low in
    let there : get_or ranked i 0 < length (edge_lists edges) = ranked_low (edge_lists edges) i left ranked ranks k.1 i low in
    (omega (arith, e, there, k.0.long, long leading), omega (arith, e, there, k.1.long_ranks), e)

next_is : (leading : Edges) (i at : ℕ) (ranked : List ℕ) (d : Vec ℕ Global) (next : List ℕ) → at < length leading → get_or ranked i 0 ≡ at →
    d ≡ get_or leading at d → next ≡ d.items → next ≡ next_in (edge_lists leading) (get_or ranked i 0)
next_is leading i at ranked d next low e is f = listed leading at d next low is f ∙ ap (next_in (edge_lists leading)) (sym e)

pub loop-rank-init : goal.loop-rank-init
loop-rank-init c =
    let made : c.in_ok-ranks.ranks.items ≡ replicate (length c.args.edges.now) 0 = search rules in (
      c.in_ok-leading.ensures,
      ranking_begins (edge_lists c.args.edges.now) c.in_ok-left.left.items c.in_ok-ranked.ranked.items c.in_ok-ranks.ranks.items
          c.in_ok-left.ensures
          (c.in_ok-ranked.ensures ∙ ap (λ (ls : List ℕ). places_from 0 (map (λ n. nat_eq n 0) ls)) c.as_slice.ensures.value)
          (made ∙ ap (λ (n : ℕ). replicate n 0) (sym (long c.args.edges.now))),
    )

pub index_mut-requires : goal.index_mut-requires
index_mut-requires c =
    let low : c.loop-rank.rank < length c.loop-rank.ranked.items = search rules in
    let p = at_low c.args.edges.now c.in_ok-leading.leading.items c.loop-rank.rank c.index.result.now c.loop-rank.left.items c.loop-rank.ranked.items
    c.loop-rank.ranks.items c.loop-rank.invariant low c.index.ensures in
    omega (arith, p.1)

pub index-requires-in-loop-rank : goal.index-requires-in-loop-rank
index-requires-in-loop-rank c =
    let low : c.loop-rank.rank < length c.loop-rank.ranked.items = search rules in
    let p = at_low c.args.edges.now c.in_ok-leading.leading.items c.loop-rank.rank c.index.result.now c.loop-rank.left.items c.loop-rank.ranked.items
    c.loop-rank.ranks.items c.loop-rank.invariant low c.index.ensures in
    omega (arith, p.0)

pub release-requires-clause-low : goal.release-requires-clause-low
release-requires-clause-low c =
    let low : c.loop-rank.rank < length c.loop-rank.ranked.items = search rules in
    let p = at_low c.args.edges.now c.in_ok-leading.leading.items c.loop-rank.rank c.index.result.now c.loop-rank.left.items c.loop-rank.ranked.items
    c.loop-rank.ranks.items c.loop-rank.invariant low c.index.ensures in
    let next : c.as_slice-in-loop-rank.result.now ≡ next_in (edge_lists c.in_ok-leading.leading.items) (get_or c.loop-rank.ranked.items c.loop-rank.rank 0) =
    next_is c.in_ok-leading.leading.items c.loop-rank.rank c.index.result.now c.loop-rank.ranked.items c.index-in-loop-rank.result.now
    c.as_slice-in-loop-rank.result.now p.0 p.2 c.index-in-loop-rank.ensures c.as_slice-in-loop-rank.ensures.value in
    rw (next, c.deref_mut.ensures.value)
    (next_low (edge_lists c.args.edges.now) (edge_lists c.in_ok-leading.leading.items) c.loop-rank.rank c.loop-rank.left.items c.loop-rank.ranked.items
    c.loop-rank.ranks.items c.loop-rank.invariant.0 c.loop-rank.invariant.1 low)

pub release-requires-clause-enough : goal.release-requires-clause-enough
release-requires-clause-enough c =
    let low : c.loop-rank.rank < length c.loop-rank.ranked.items = search rules in
    let p = at_low c.args.edges.now c.in_ok-leading.leading.items c.loop-rank.rank c.index.result.now c.loop-rank.left.items c.loop-rank.ranked.items
    c.loop-rank.ranks.items c.loop-rank.invariant low c.index.ensures in
    let next : c.as_slice-in-loop-rank.result.now ≡ next_in (edge_lists c.in_ok-leading.leading.items) (get_or c.loop-rank.ranked.items c.loop-rank.rank 0) =
    next_is c.in_ok-leading.leading.items c.loop-rank.rank c.index.result.now c.loop-rank.ranked.items c.index-in-loop-rank.result.now
    c.as_slice-in-loop-rank.result.now p.0 p.2 c.index-in-loop-rank.ensures c.as_slice-in-loop-rank.ensures.value in
    simp (next, c.deref_mut.ensures.value)
    (next_enough (edge_lists c.args.edges.now) (edge_lists c.in_ok-leading.leading.items) c.loop-rank.rank c.loop-rank.left.items c.loop-rank.ranked.items
    c.loop-rank.ranks.items c.loop-rank.invariant.0 c.loop-rank.invariant.1 low)

pub loop-rank-preserved : goal.loop-rank-preserved
loop-rank-preserved c =
    let low : c.loop-rank.rank < length c.loop-rank.ranked.items = search rules in
    let p = at_low c.args.edges.now c.in_ok-leading.leading.items c.loop-rank.rank c.index.result.now c.loop-rank.left.items c.loop-rank.ranked.items
    c.loop-rank.ranks.items c.loop-rank.invariant low c.index.ensures in
    let next : c.as_slice-in-loop-rank.result.now ≡ next_in (edge_lists c.in_ok-leading.leading.items) (get_or c.loop-rank.ranked.items c.loop-rank.rank 0) =
    next_is c.in_ok-leading.leading.items c.loop-rank.rank c.index.result.now c.loop-rank.ranked.items c.index-in-loop-rank.result.now
    c.as_slice-in-loop-rank.result.now p.0 p.2 c.index-in-loop-rank.ensures c.as_slice-in-loop-rank.ensures.value in
    let same : length c.release.new.left ≡ length c.loop-rank.left.items = c.release.auto.left ∙ ap length c.deref_mut.ensures.value in
    let whole : length c.loop-rank.left.items ≡ c.loop-rank.left.len = omega arith in
    let released : Releases (next_in (edge_lists c.in_ok-leading.leading.items) (get_or c.loop-rank.ranked.items c.loop-rank.rank 0)) c.loop-rank.left.items
    c.release.new.left c.loop-rank.ranked.items c.release.new.ranked.items =
    subst (λ (ns : List ℕ). Releases ns c.loop-rank.left.items c.release.new.left c.loop-rank.ranked.items c.release.new.ranked.items) next
    (subst (λ (ls : List ℕ). Releases c.as_slice-in-loop-rank.result.now ls c.release.new.left c.loop-rank.ranked.items c.release.new.ranked.items)
    c.deref_mut.ensures.value c.in_ok-release.ensures) in
    let ranked : IsRanking (edge_lists c.args.edges.now) (c.loop-rank.rank + 1) c.release.new.left c.release.new.ranked.items
    (set c.loop-rank.ranks.items c.index.result.now c.loop-rank.rank) =
    subst (λ (at : ℕ). IsRanking (edge_lists c.args.edges.now) (c.loop-rank.rank + 1) c.release.new.left c.release.new.ranked.items
    (set c.loop-rank.ranks.items at c.loop-rank.rank)) p.2
    (ranking_advances (edge_lists c.args.edges.now) (edge_lists c.in_ok-leading.leading.items) c.loop-rank.rank c.loop-rank.left.items c.release.new.left
    c.loop-rank.ranked.items c.release.new.ranked.items c.loop-rank.ranks.items (record {
      leads = c.loop-rank.invariant.0;
      ranking = c.loop-rank.invariant.1;
      low = low;
      released = released;
    })) in (
      c.loop-rank.invariant.0,
      subst (λ (ls : List ℕ). IsRanking (edge_lists c.args.edges.now) (c.loop-rank.rank + 1) ls c.release.new.ranked.items
          (set c.loop-rank.ranks.items c.index.result.now c.loop-rank.rank))
          (sym (lent_back c.loop-rank.left.len c.release.new.left c.loop-rank.left.items same whole)) ranked,
    )

pub returns : goal.returns
returns c = ranking_ends (edge_lists c.args.edges.now) c.loop-rank.rank c.loop-rank.left.items c.loop-rank.ranked.items c.loop-rank.ranks.items (record {
  ranking = c.loop-rank.invariant.1;
  over = search rules;
  range = c.requires.within;
})
