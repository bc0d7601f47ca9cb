use Rattle.std.proofs.Common.{ap, sym, ◌∙◌}
use Rattle.std.specs.Prelude.{option_map}
use Rattle.rl_names.specs.Title.{no_user_name_told, user_name_of}
use Rattle.rl_pages.specs.declared.viewer.Viewer.TheVariants.{User}
use Rattle.rl_cli.proofs.words.viewer_named.Goals as goal

pub returns-in-Err-BadUserName : goal.returns-in-Err-BadUserName
returns-in-Err-BadUserName c =
    rw (sym c.if-eq.ensures) (sym (ap (option_map (λ name. User name)) (ap user_name_of (sym c.as_bytes.ensures.value)
    ∙ c.in-Err-BadUserName.ensures tt (ap no_user_name_told c.in-Err-BadUserName.field-0-is))))
