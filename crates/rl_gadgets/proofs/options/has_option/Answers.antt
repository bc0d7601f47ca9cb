use Rattle.std.proofs.Common.{[], sym, ◌∙◌}
use Rattle.std.specs.Prelude.{bytes_eq}
use Rattle.rl_gadgets.proofs.OptionLemmas.{one_does}
use Rattle.rl_gadgets.proofs.options.has_option.Goals as goal

pub returns-then-eq : goal.returns-then-eq
returns-then-eq c =
    sym (one_does (λ option. bytes_eq option c.args.word.now) c.args.options.now c.options.option-index (record { ref_ptr = (0, 0); now = [] })
    c.options-test.true (sym c.eq.ensures ∙ c.if-eq.true))
