-- The gadget list of a wiki, by how its page was looked for.
use Rattle.std.proofs.Common.{◌≡◌, List, [], Option, Some, None, ap, sym, ◌∙◌, Result, Ok, Err}
use Rattle.std.specs.Prelude.{IfOk, option_and_then, unwrap_or, codes}
use Rattle.rl_names.specs.Title.{title_of}
use Rattle.rl_view_spec.specs.Closure.{Text}
use Rattle.rl_pages.specs.declared.entry.Entry.{Entry}
use Rattle.rl_pages.specs.declared.viewer.Viewer.TheVariants.{Anon}
use Rattle.rl_pages.specs.History.{page_of}
use Rattle.rl_pages.specs.Seen.{seen}
use Rattle.rl_gadgets.specs.declared.list.GadgetList.{GadgetList}
use Rattle.rl_gadgets.specs.List.{gadgets_of}
use Rattle.rl_cli.specs.Check.{gadget_list}

abbrev pub of_page : (entries : List Entry) (title : Option Text) → Text
of_page entries title = unwrap_or (option_and_then (page_of (seen Anon entries)) title) []

-- a list that is read of a page is that of the wiki
pub listed : {E : Type 0} (entries : List Entry) (title : Option Text) (page : Text) (result : Result GadgetList E)
    → title_of (codes "MediaWiki:Gadgets-definition") ≡ title → of_page entries title ≡ page
    → IfOk result (λ list. list ≡ gadgets_of page) → IfOk result (λ list. list ≡ gadget_list entries)
listed entries title page (Ok list) e f is = is ∙ ap gadgets_of (sym f ∙ ap (of_page entries) (sym e))
listed entries title page (Err error) e f is = is

pub page_some : (entries : List Entry) (title page : Text) → page_of (seen Anon entries) title ≡ Some page → of_page entries (Some title) ≡ page
page_some entries title page e = ap (λ (o : Option Text). unwrap_or o []) e
