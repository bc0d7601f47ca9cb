use Rattle.std.proofs.Common.{rules, refl, sym, ap, ◌∙◌, Some, None, []}
use Rattle.rl_names.specs.Title.{title_of}
use Rattle.rl_cli.proofs.CheckLemmas.{listed, page_some}
use Rattle.rl_cli.proofs.check.gadgets_of.Goals as goal

pub returns-in-Err-BadTitle : goal.returns-in-Err-BadTitle
returns-in-Err-BadTitle c =
    listed c.args.pages.now.entries None [] c.read_gadgets.result (c.in-Err-BadTitle.ensures tt (rw c.in-Err-BadTitle.field-0-is refl)) refl
    c.read_gadgets.ensures.list

pub returns-in-Some : goal.returns-in-Some
returns-in-Some c =
    listed c.args.pages.now.entries (Some c.in-Ok.title) c.in-Some.page.now c.read_gadgets-in-Some.result c.in-Ok.ensures
    (page_some c.args.pages.now.entries c.in-Ok.title c.in-Some.page.now (search rules)) (search rules)
