use Rattle.std.proofs.Common.{ap, sym, ◌∙◌}
use Rattle.std.proofs.lemmas.Bool.{false≢true}
use Rattle.rl_names.specs.Title.{no_user_name_told, user_name_of}
use Rattle.rl_steps.proofs.UsersLemmas.{no_user}
use Rattle.rl_steps.proofs.line.user_of.Goals as goal

pub returns-in-Err-BadUserName : goal.returns-in-Err-BadUserName
returns-in-Err-BadUserName c =
    no_user c.args.text (λ none. false≢true (c.if-is_empty.ensures.1 none))
    (ap user_name_of (sym c.as_bytes.ensures) ∙ c.in-Err-BadUserName.ensures tt (ap no_user_name_told c.in-Err-BadUserName.field-0-is))
