use Rattle.std.proofs.Common.{ap, sym, ◌∙◌}
use Rattle.rl_names.specs.Title.{no_user_name_told, user_name_of}
use Rattle.rl_defs.proofs.words.user_name.Goals as goal

pub returns-in-Err-BadUserName : goal.returns-in-Err-BadUserName
returns-in-Err-BadUserName c =
    let refused = c.in-Err-BadUserName.ensures tt (ap no_user_name_told c.in-Err-BadUserName.field-0-is) in
    sym refused ∙ ap user_name_of c.as_bytes.ensures.value
