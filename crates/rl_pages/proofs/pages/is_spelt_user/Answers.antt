use Rattle.std.proofs.Common.{bytes_eq, false, sym, ap}
use Rattle.std.specs.Option.{option_map_or}
use Rattle.rl_names.specs.Title.{no_user_name_told}
use Rattle.rl_pages.proofs.pages.is_spelt_user.Goals as goal

pub returns-in-Err-BadUserName : goal.returns-in-Err-BadUserName
returns-in-Err-BadUserName c =
    sym (ap (λ o. option_map_or (bytes_eq c.args.name.now) o false) (c.in-Err-BadUserName.ensures tt (ap no_user_name_told c.in-Err-BadUserName.field-0-is)))
