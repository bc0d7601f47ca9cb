use Rattle.std.proofs.Common.{◌≡◌, ◌∙◌, ap, sym, subst, arith, rules, List, Bool, length, replicate, true, false}
use Rattle.std.proofs.lemmas.List.{length-map, length-replicate}
use Rattle.rl_graph.specs.Graph.{edge_lists, marked, MarksReached}
use Rattle.rl_graph.proofs.CountsLemmas.{lent_back}
use Rattle.rl_graph.proofs.SpreadingLemmas.{all_reached, none_marked}
use Rattle.rl_graph.proofs.marks.reach.Goals as goal

pub returns : goal.returns
returns c =
    let made : c.in_ok-marks.marks.items ≡ replicate (length c.args.edges.now) false = search rules in
    let same : length c.spread.new.marks ≡ length c.in_ok-marks.marks.items = c.spread.auto.marks ∙ ap length c.as_mut_slice.ensures.value in
    let long : length c.in_ok-marks.marks.items ≡ c.in_ok-marks.marks.len = omega arith in
    let lists : length (edge_lists c.args.edges.now) ≡ length c.args.edges.now = length-map c.args.edges.now _ in
    let whole : length c.spread.new.marks ≡ length (edge_lists c.args.edges.now) = same ∙ ap length made
    ∙ length-replicate (length c.args.edges.now) false ∙ sym lists in
    subst (λ (marks : List Bool). MarksReached (edge_lists c.args.edges.now) c.args.starts.now marks)
    (sym (lent_back c.in_ok-marks.marks.len c.spread.new.marks c.in_ok-marks.marks.items same long))
    (all_reached (edge_lists c.args.edges.now) c.args.starts.now c.as_mut_slice.result.now c.spread.new.marks whole
    (λ number m. none_marked (length c.args.edges.now) number
    (subst (λ (marks : List Bool). marked marks number ≡ true) (c.as_mut_slice.ensures.value ∙ made) m)) c.spread.ensures.spreads)
