use Rattle.std.proofs.Common.{◌≡◌, ◌<◌, ◌-◌, ℕ, List, Some, length, get_or, sym, ap, ◌∙◌, arith}
use Rattle.rl_view_spec.proofs.ChainsLemmas.{same}
use Rattle.rl_rows.specs.Index.{name_in}
use Rattle.rl_rows.proofs.IndexLemmas.{index_within, named_at, repeat_found, repeat_none}
use Rattle.rl_rows.proofs.index.least_repeated.Goals as goal

pub bounds-rows-order : goal.bounds-rows-order
bounds-rows-order c = index_within c.args.rows.now c.args.order.now c.loop-at.at 0 c.requires (omega arith)

pub returns-then-eq : goal.returns-then-eq
returns-then-eq c =
    let low : c.loop-at.at < length c.args.order.now = omega arith in
    let alike : name_in c.args.rows.now (get_or c.args.order.now (c.loop-at.at - 1) 0) ≡ name_in c.args.rows.now (get_or c.args.order.now c.loop-at.at 0) =
    sym c.name_in.ensures ∙ same c.name_in.result.now c.name_in-in-loop-at.result.now (sym c.eq.ensures ∙ c.if-eq.true) ∙ c.name_in-in-loop-at.ensures in
    let is : name_in c.args.rows.now (get_or c.args.order.now c.loop-at.at 0) ≡ c.as_str.result.now =
    named_at c.args.rows.now (get_or c.args.order.now c.loop-at.at 0) c.index-rows-order.result
    (index_within c.args.rows.now c.args.order.now c.loop-at.at 0 c.requires low) ∙ sym c.as_str.ensures in
    ap (λ (x : List ℕ). Some x) (sym is) ∙ sym (repeat_found c.args.rows.now c.args.order.now (c.loop-at.at - 1) c.loop-at.at (omega arith) c.requires low
    alike c.loop-at.invariant)

pub returns : goal.returns
returns c = sym (repeat_none c.args.rows.now c.args.order.now c.requires (λ k high. c.loop-at.invariant k (omega (arith, high))))
