use Rattle.std.proofs.Common.{[], sym, ◌∙◌}
use Rattle.rl_gadgets.specs.Line.{is_page}
use Rattle.rl_gadgets.proofs.OptionLemmas.{one_does}
use Rattle.rl_gadgets.proofs.pages.has_page.Goals as goal

pub returns-then-is_page : goal.returns-then-is_page
returns-then-is_page c =
    sym (one_does is_page c.args.pages.now c.pages.page-index (record { ref_ptr = (0, 0); now = [] }) c.pages-test.true
    (sym c.is_page.ensures ∙ c.if-is_page.true))
