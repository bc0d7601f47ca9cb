use Rattle.std.proofs.Common.{ap, sym, ◌∙◌}
use Rattle.std.proofs.lemmas.Str.{IsUtf8-string_bytes}
use Rattle.rl_names.specs.Title.{spaced, is_title}
use Rattle.rl_names.proofs.TitleAgainLemmas.{title_again}
use Rattle.rl_names.proofs.TitleLemmas.{no_title, title_spelt}
use Rattle.rl_names.proofs.title.Title.read.Goals as goal

pub returns-in_default : goal.returns-in_default
returns-in_default c refusal told = no_title c.args.bytes.now c.in_default.ensures.cases.0

pub returns-then-is_title : goal.returns-then-is_title
returns-then-is_title c = title_spelt c.args.bytes.now c.in_ok-text.text.bytes.items c.in-Ok.ensures.cases.1
    (ap spaced (sym c.in-Ok.ensures.cases.0) ∙ sym c.in_ok-text.ensures)
    (ap is_title (sym c.as_bytes.ensures.value) ∙ sym c.is_title.ensures ∙ c.if-is_title.true)

pub invariant_of-result : goal.invariant_of-result
invariant_of-result c = title_again c.args.bytes.now c.in_ok-text.text.bytes.items (IsUtf8-string_bytes c.in_ok-text.text)
    (ap spaced (sym c.in-Ok.ensures.cases.0) ∙ sym c.in_ok-text.ensures)
    (ap is_title (sym c.as_bytes.ensures.value) ∙ sym c.is_title.ensures ∙ c.if-is_title.true)
