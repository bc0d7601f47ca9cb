use Rattle.std.proofs.Common.{◌≡◌, None, ap, string_bytes}
use Rattle.rl_names.specs.Title.{title_of, no_title_told}
use Rattle.rl_pages.specs.Seen.{shown}
use Rattle.rl_build.proofs.PagesLemmas.{no_page}
use Rattle.rl_build.proofs.pages.push_page.Goals as goal

pub returns-in-Err-BadTitle : goal.returns-in-Err-BadTitle
returns-in-Err-BadTitle c =
    let none : title_of c.args.title.now ≡ None = c.in-Err-BadTitle.ensures tt (ap no_title_told c.in-Err-BadTitle.field-0-is) in
    no_page (shown c.args.pages.now.entries c.args.viewer.now) (string_bytes c.args.out.now) c.args.title.now none
