use Rattle.std.proofs.Common.{bytes_eq, false, if◌then◌else◌, Some, None, sym, ap}
use Rattle.std.specs.Option.{option_map_or}
use Rattle.rl_names.specs.Title.{no_title_told}
use Rattle.rl_keeper.proofs.record.title_in.Goals as goal

pub returns-in-Err-BadTitle : goal.returns-in-Err-BadTitle
returns-in-Err-BadTitle c =
    sym (ap (λ o. if option_map_or (bytes_eq c.args.bytes.now) o false then Some c.args.bytes.now else None)
    (c.in-Err-BadTitle.ensures tt (ap no_title_told c.in-Err-BadTitle.field-0-is)))
