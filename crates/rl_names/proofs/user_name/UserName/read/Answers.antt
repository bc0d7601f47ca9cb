use Rattle.std.proofs.Common.{ap, sym, ◌∙◌}
use Rattle.std.proofs.lemmas.Str.{IsUtf8-string_bytes}
use Rattle.rl_names.specs.Title.{spaced, is_user_name}
use Rattle.rl_names.proofs.TitleAgainLemmas.{user_name_again}
use Rattle.rl_names.proofs.TitleLemmas.{no_user_name, user_name_spelt}
use Rattle.rl_names.proofs.user_name.UserName.read.Goals as goal

pub returns-in_default : goal.returns-in_default
returns-in_default c refusal told = no_user_name c.args.bytes.now c.in_default.ensures.cases.0

pub returns-then-is_user_name : goal.returns-then-is_user_name
returns-then-is_user_name c = user_name_spelt c.args.bytes.now c.in_ok-text.text.bytes.items c.in-Ok.ensures.cases.1
    (ap spaced (sym c.in-Ok.ensures.cases.0) ∙ sym c.in_ok-text.ensures)
    (ap is_user_name (sym c.as_bytes.ensures.value) ∙ sym c.is_user_name.ensures ∙ c.if-is_user_name.true)

pub invariant_of-result : goal.invariant_of-result
invariant_of-result c = user_name_again c.args.bytes.now c.in_ok-text.text.bytes.items (IsUtf8-string_bytes c.in_ok-text.text)
    (ap spaced (sym c.in-Ok.ensures.cases.0) ∙ sym c.in_ok-text.ensures)
    (ap is_user_name (sym c.as_bytes.ensures.value) ∙ sym c.is_user_name.ensures ∙ c.if-is_user_name.true)
