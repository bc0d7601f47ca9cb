use Rattle.std.proofs.Common.{◌≡◌, ◌+◌, [], ℕ, List, length, replicate, arith, ap, subst, sym, ◌∙◌, Vec}
use Rattle.std.specs.declared.alloc.Global.{Global}
use Rattle.std.proofs.lemmas.List.{length-map}
use Rattle.rl_graph.specs.Graph.{edge_lists, next_in}
use Rattle.rl_graph.specs.Reversed.{AddsEdges}
use Rattle.rl_graph.proofs.CountsLemmas.{lent_back}
use Rattle.rl_graph.proofs.ReversingLemmas.{Gathered, gathered_none, gathered_more, gathered_all}
use Rattle.rl_graph.proofs.ToolsLemmas.{all_within, listed}
use Rattle.rl_graph.proofs.edges.reversed.Goals as goal

pub loop-from-init : goal.loop-from-init
loop-from-init c = gathered_none (edge_lists c.args.edges.now) (edge_lists c.in_ok-lists.lists.items)
    (c.in_ok-lists.ensures ∙ ap (λ (n : ℕ). replicate n []) (sym (length-map c.args.edges.now (λ (v : Vec ℕ Global). v.items))))

pub add_edges-requires : goal.add_edges-requires
add_edges-requires c =
    let long : length (edge_lists c.args.edges.now) ≡ length c.as_mut_slice.result.now =
    sym c.loop-from.invariant.long ∙ length-map c.loop-from.lists.items (λ (v : Vec ℕ Global). v.items) ∙ ap length (sym c.as_mut_slice.ensures.value) in
    all_within (edge_lists c.args.edges.now) c.loop-from.from c.as_slice.result.now (length c.as_mut_slice.result.now) c.requires.within
    (listed c.args.edges.now c.loop-from.from c.index-edges-from.result c.as_slice.result.now c.loop-from-test.true c.index-edges-from.is
    c.as_slice.ensures.value) long

pub loop-from-preserved : goal.loop-from-preserved
loop-from-preserved c =
    let same : length c.add_edges.new.lists ≡ length c.loop-from.lists.items = c.add_edges.auto.lists ∙ ap length c.as_mut_slice.ensures.value in
    let long : length c.loop-from.lists.items ≡ c.loop-from.lists.len = omega arith in
    let adds : AddsEdges c.loop-from.from (next_in (edge_lists c.args.edges.now) c.loop-from.from) (edge_lists c.loop-from.lists.items)
    (edge_lists c.add_edges.new.lists) =
    subst (λ (xs : List ℕ). AddsEdges c.loop-from.from xs (edge_lists c.loop-from.lists.items) (edge_lists c.add_edges.new.lists))
    (listed c.args.edges.now c.loop-from.from c.index-edges-from.result c.as_slice.result.now c.loop-from-test.true c.index-edges-from.is
    c.as_slice.ensures.value)
    (subst (λ (ls : List (Vec ℕ Global)). AddsEdges c.loop-from.from c.as_slice.result.now (edge_lists ls) (edge_lists c.add_edges.new.lists))
    c.as_mut_slice.ensures.value c.in_ok-add_edges.ensures) in
    subst (λ (ls : List (Vec ℕ Global)). Gathered (edge_lists c.args.edges.now) (c.loop-from.from + 1) (edge_lists ls))
    (sym (lent_back c.loop-from.lists.len c.add_edges.new.lists c.loop-from.lists.items same long))
    (gathered_more (edge_lists c.args.edges.now) c.loop-from.from (edge_lists c.loop-from.lists.items) (edge_lists c.add_edges.new.lists) c.loop-from.invariant
    adds)

pub returns : goal.returns
returns c =
    let all : c.loop-from.from ≡ length (edge_lists c.args.edges.now) = omega (arith, length-map c.args.edges.now (λ (v : Vec ℕ Global). v.items)) in
    gathered_all (edge_lists c.args.edges.now) (edge_lists c.loop-from.lists.items)
    (subst (λ (n : ℕ). Gathered (edge_lists c.args.edges.now) n (edge_lists c.loop-from.lists.items)) all c.loop-from.invariant)
