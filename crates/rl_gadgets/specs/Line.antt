-- One line of the gadget list: how it is cut into a name, options and pages, which gadget it defines, and why it may define none.
use Rattle.std.specs.Prelude.{ℕ, ◌==◌, ◌&&◌, ◌||◌, Bool, not, nat_le, nat_eq, if◌then◌else◌, List, [], ◌∷◌}
use Rattle.std.specs.Prelude.{◌++◌, length, map, filter}
use Rattle.std.specs.Prelude.{bytes_eq, codes, Option, Some, None, Result, Ok, Err, option_map, option_and_then, unwrap_or, is_some}
use Rattle.std.specs.List.{list_any, list_all, ends_with, before_first, after_first}
use Rattle.std.specs.Option.{option_map_or, option_or}
use Rattle.rl_names.specs.declared.counted.TheConstants as limits
use Rattle.rl_names.specs.Name.{is_name}
use Rattle.rl_names.specs.Title.{title_of}
use Rattle.rl_names.specs.Packing.{distinct}
use Rattle.rl_gadgets.specs.declared.gadget.Gadget.{Gadget}
use Rattle.rl_gadgets.specs.Cut.{is, has, cut_at, from_first, words, trimmed, behind_all}

-- Why a line that begins with a star defines no module, in the order in which it is asked.
pub data Reason : Type 0 where
  NoName : Reason  -- its name gives no module's name
  NotClosed : Reason  -- the bracket of its options is not closed
  NotSpaces : Reason  -- something other than spaces stands between the options and the first bar
  NoPage : Reason  -- no page is a script or a style
  NoTitle : Reason  -- a script or a style gives no title
  NotMeant : Reason  -- the option `ResourceLoader` is missing
  BadDependencies : Reason  -- a dependency is no name, or there are too many
  Taken : Reason  -- an earlier line defined a module of this name
  Full : Reason  -- there are as many modules as there may be

-- ---- the parts of a line

-- the name of the module: that of the gadget, where a space is written as an underscore, behind the common front
abbrev pub underscored : ℕ → ℕ
underscored b = if b == 32 then 95 else b

abbrev pub module_name : List ℕ → List ℕ
module_name text = codes "ext.gadget." ++ map underscored (trimmed text)

-- the name of a gadget ends at the first `[` or `|`
abbrev pub ends_name : ℕ → Bool
ends_name b = b == 91 || b == 124

-- What stands between the brackets behind a name, and what stands behind those. Where no bracket opens, nothing stands between
-- them; one that opens has to be closed.
abbrev pub bracketed : List ℕ → Option (List ℕ × List ℕ)
bracketed [] = Some ([], [])
bracketed (b ∷ rest) = if b == 91 then cut_at 93 rest else Some ([], b ∷ rest)

-- the pages, each behind a bar
abbrev pub pages_in : List ℕ → List (List ℕ)
pages_in text = if has 124 text then words 124 (after_first (is 124) text) else []

-- the module's name, the options, what stands behind those up to the first bar, and the pages
pub record Parts : Type 0 where
  pub name : List ℕ
  pub options : List (List ℕ)
  pub between : List ℕ
  pub pages : List (List ℕ)

abbrev pub parts_with : List ℕ → List ℕ × List ℕ → Parts
parts_with name (inside, behind) = record { name = name; options = words 124 inside; between = before_first (is 124) behind; pages = pages_in behind }

-- the parts of a line behind its stars, if its bracket is closed
abbrev pub parts_of : List ℕ → Option Parts
parts_of text = option_map (parts_with (module_name (before_first ends_name text))) (bracketed (from_first ends_name text))

-- ---- options

abbrev pub has_option : List ℕ → List (List ℕ) → Bool
has_option word options = list_any (λ option. bytes_eq option word) options

-- the value of an option `key=value` with this key
abbrev pub value_under : List ℕ → List ℕ → Option (List ℕ)
value_under key option = option_and_then (λ (before, behind). if bytes_eq before key then Some behind else None) (cut_at 61 option)

-- of several options with one key the last one counts
abbrev pub last_value : List ℕ → List (List ℕ) → Option (List ℕ)
last_value key [] = None
last_value key (option ∷ options) = option_or (last_value key options) (value_under key option)

-- the words between the commas of that value; none without such an option
abbrev pub listed : List ℕ → List (List ℕ) → List (List ℕ)
listed key options = option_map_or (words 44) (last_value key options) []

abbrev pub are_dependencies : List (List ℕ) → Bool
are_dependencies names = list_all is_name names && nat_le (length names) limits.MAX_DEPENDENCIES

-- ---- pages

abbrev pub has_ending : List ℕ → List ℕ → Bool
has_ending ending page = ends_with nat_eq page ending

abbrev pub page_title : List ℕ → Option (List ℕ)
page_title page = title_of (codes "MediaWiki:Gadget-" ++ page)

-- the titles of pages, if each has one
abbrev pub all_titles : List (List ℕ) → Option (List (List ℕ))
all_titles [] = Some []
all_titles (page ∷ pages) = option_and_then (λ title. option_map (λ titles. title ∷ titles) (all_titles pages)) (page_title page)

-- the titles of the pages that end so, each once, if each has one
abbrev pub titles_with : List ℕ → List (List ℕ) → Option (List (List ℕ))
titles_with ending pages = option_map distinct (all_titles (filter (has_ending ending) pages))

abbrev pub is_page : List ℕ → Bool
is_page page = has_ending (codes ".js") page || has_ending (codes ".css") page

-- ---- the gadget

-- why parts define no gadget, by the first of these that holds
abbrev pub fault_in : Parts → Option Reason
fault_in p =
    if not (list_all (is 32) p.between) then Some NotSpaces
    else (if not (list_any is_page p.pages) then Some NoPage
    else (if not (is_some (titles_with (codes ".js") p.pages) && is_some (titles_with (codes ".css") p.pages)) then Some NoTitle
    else (if not (has_option (codes "ResourceLoader") p.options) then Some NotMeant
    else (if not (are_dependencies (listed (codes "dependencies") p.options)) then Some BadDependencies else None))))

abbrev pub gadget_of : ℕ → Parts → Gadget
gadget_of number p = record {
  name = p.name;
  line = number;
  scripts = unwrap_or (titles_with (codes ".js") p.pages) [];
  styles = unwrap_or (titles_with (codes ".css") p.pages) [];
  deps = listed (codes "dependencies") p.options;
  skins = listed (codes "skins") p.options;
  for_all = has_option (codes "default") p.options;
}

abbrev pub gadget_by : ℕ → Parts → Result Gadget Reason
gadget_by number p = option_map_or Err (fault_in p) (Ok (gadget_of number p))

-- the gadget that a line with this number defines, or why it defines none; its stars and the spaces behind them are left out
abbrev pub gadget_in : ℕ → List ℕ → Result Gadget Reason
gadget_in number text =
    if is_name (module_name (before_first ends_name text)) then option_map_or (gadget_by number) (parts_of text) (Err NotClosed) else Err NoName

abbrev pub behind_stars : List ℕ → List ℕ
behind_stars line = behind_all 32 (behind_all 42 line)
