use Rattle.std.proofs.Common.{ap, sym, ◌∙◌, refl, []}
use Rattle.rl_names.specs.Name.{is_name}
use Rattle.rl_gadgets.proofs.OptionLemmas.{not_all}
use Rattle.rl_gadgets.proofs.options.names.Goals as goal

pub returns-then-not-is : goal.returns-then-not-is
returns-then-not-is c =
    let none = not_all is_name c.args.words.now c.words.word-index (record { ref_ptr = (0, 0); now = [] }) c.words-test.true
    (ap is_name (sym c.as_bytes.ensures.value) ∙ sym c.is.ensures ∙ c.if-not-is.true) in
    rw none refl
