use Rattle.std.proofs.Common.{ap, ◌∙◌, option_map}
use Rattle.rl_gadgets.proofs.OptionLemmas.{last_after}
use Rattle.rl_gadgets.proofs.options.last_value.Goals as goal

pub options-preserved : goal.options-preserved
options-preserved c =
    ap (option_map (λ v. v.now)) c.or-last.ensures
    ∙ last_after c.args.key.now c.args.options.now c.options.option-index _ c.options.last c.value_under.result c.options-test.true c.options.invariant
    c.value_under.ensures
