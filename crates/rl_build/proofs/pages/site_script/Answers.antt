use Rattle.std.proofs.Common.{◌∙◌, ap, codes, string_bytes}
use Rattle.rl_pages.specs.Seen.{shown}
use Rattle.rl_build.specs.Page.{site_page}
use Rattle.rl_build.proofs.PagesLemmas.{two_pages}
use Rattle.rl_build.proofs.pages.site_script.Goals as goal

pub returns : goal.returns
returns c =
    two_pages (shown c.args.pages.now.entries c.args.viewer.now) (codes "MediaWiki:Common.js") (site_page c.args.skin.now)
    (string_bytes c.new-out.result) (string_bytes c.push_page.new.out) (string_bytes c.push_page-2.new.out) c.deref.result.now
    c.new-out.ensures.bytes c.in_ok-push_page.ensures
    (c.deref.ensures.value ∙ c.in_ok-page.ensures ∙ ap site_page c.as_bytes.ensures.value) c.in_ok-push_page-2.ensures
