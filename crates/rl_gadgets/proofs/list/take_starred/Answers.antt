use Rattle.std.proofs.Common.{◌≡◌, Some, ap, sym, ◌∙◌}
use Rattle.std.specs.Result.{result_ok}
use Rattle.rl_gadgets.specs.Cut.{behind_all}
use Rattle.rl_gadgets.specs.Line.{behind_stars, gadget_in}
use Rattle.rl_gadgets.specs.List.{row_behind, with_row}
use Rattle.rl_gadgets.proofs.RowLemmas.{found_ok}
use Rattle.rl_gadgets.proofs.list.take_starred.Goals as goal

pub returns-in_ok-take_gadget-in-Some-clause-list : goal.returns-in_ok-take_gadget-in-Some-clause-list
returns-in_ok-take_gadget-in-Some-clause-list c =
    let text : c.behind_all-text.result.now ≡ behind_stars c.args.line.now = c.behind_all-text.ensures ∙ ap (behind_all 32) c.behind_all.ensures in
    let some : Some c.in-Some.gadget ≡ result_ok (gadget_in c.args.number (behind_stars c.args.line.now)) =
    sym c.in-Some.is ∙ c.in_ok-gadget.ensures ∙ ap (λ t. result_ok (gadget_in c.args.number t)) text in
    c.in_ok-take_gadget-in-Some.ensures.list
    ∙ ap (λ found. with_row (record { rows = c.args.rows.now.items; passed = c.args.passed.now.items }) c.args.number
    (row_behind c.args.rows.now.items found))
    (sym (found_ok (gadget_in c.args.number (behind_stars c.args.line.now)) c.in-Some.gadget some))
