use Rattle.std.proofs.Common.{◌++◌, codes, ap, sym, ◌∙◌}
use Rattle.rl_names.specs.Title.{no_title_told, title_of}
use Rattle.rl_gadgets.proofs.pages.page_title.Goals as goal

pub returns-in-Err-BadTitle : goal.returns-in-Err-BadTitle
returns-in-Err-BadTitle c =
    sym (c.in-Err-BadTitle.ensures tt (ap no_title_told c.in-Err-BadTitle.field-0-is))
    ∙ ap title_of (c.as_bytes.ensures.value ∙ c.in_ok-push_str-2.ensures.bytes
    ∙ ap (λ l. l ++ c.args.page.now) (c.in_ok-push_str.ensures.bytes ∙ ap (λ l. l ++ codes "MediaWiki:Gadget-") c.new-text.ensures.bytes))
