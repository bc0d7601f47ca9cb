use Rattle.std.proofs.Common.{ap, ◌∙◌, map}
use Rattle.rl_pages.proofs.OptionLemmas.{shown, shown-insert}
use Rattle.rl_pages.proofs.options.put.Goals as goal

pub returns : goal.returns
returns c = ap (map shown) (c.in_ok-insert.ensures.entries) ∙ shown-insert c.args.values.now.entries c.args.key c.args.value
