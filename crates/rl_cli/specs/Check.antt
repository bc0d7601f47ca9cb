-- What an author is told of a wiki: how much its definitions have, and which lines of its gadget list count.
use Rattle.std.specs.Prelude.{ℕ, ◌++◌, List, [], Option, if◌then◌else◌, codes, decimal, flat_map, length, option_and_then, unwrap_or}
use Rattle.rl_names.specs.Title.{title_of}
use Rattle.rl_view_spec.specs.Closure.{Text}
use Rattle.rl_script_spec.specs.Output.{line}
use Rattle.rl_defs.specs.Catalogue.{Catalogue}
use Rattle.rl_pages.specs.declared.entry.Entry.{Entry}
use Rattle.rl_pages.specs.declared.viewer.Viewer.TheVariants.{Anon}
use Rattle.rl_pages.specs.History.{page_of}
use Rattle.rl_pages.specs.Seen.{seen}
use Rattle.rl_gadgets.specs.declared.gadget.Gadget.{Gadget}
use Rattle.rl_gadgets.specs.declared.list.GadgetList.{GadgetList}
use Rattle.rl_gadgets.specs.List.{gadgets_of}

-- a word and how many
abbrev pub counted_line : Text → ℕ → Text
counted_line word count = line (word ++ codes " " ++ decimal count)

-- a gadget by the name of its module, and whether it is on for everybody
abbrev pub gadget_line : Gadget → Text
gadget_line gadget = line (codes "gadget " ++ gadget.name ++ (if gadget.for_all then codes " default" else []))

-- the number of a line that was passed over
abbrev pub passed_line : ℕ → Text
passed_line number = line (codes "passed " ++ decimal number)

-- the page of the gadget list, which every viewer sees
abbrev pub gadget_page : List Entry → Option Text
gadget_page entries = option_and_then (page_of (seen Anon entries)) (title_of (codes "MediaWiki:Gadgets-definition"))

-- the gadget list of a wiki; without its page it is empty
abbrev pub gadget_list : List Entry → GadgetList
gadget_list entries = gadgets_of (unwrap_or (gadget_page entries) [])

abbrev pub list_text : GadgetList → Text
list_text list = flat_map gadget_line list.rows ++ flat_map passed_line list.passed

-- what the definitions have, then each gadget, then each line that was passed over
abbrev pub check_text : Catalogue → List Entry → Text
check_text catalogue entries =
    counted_line (codes "modules") (length catalogue.modules)
    ++ counted_line (codes "languages") (length catalogue.languages)
    ++ counted_line (codes "skins") (length catalogue.skins)
    ++ list_text (gadget_list entries)
