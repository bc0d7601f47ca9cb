-- What becomes of an edit, a choice or a kept entry: the entry, or the first rule that it breaks.
use Rattle.std.specs.Prelude.{ℕ, ◌+◌, ◌==◌, ◌≤◌, ◌&&◌, ◌||◌, Bool, false, not, nat_lt, nat_le}
use Rattle.std.specs.Prelude.{if◌then◌else◌, IsTrue, List, [], length, bytes_eq, Option, Some, None, Result, Ok, Err}
use Rattle.std.specs.List.{list_all}
use Rattle.std.specs.Option.{option_map_or}
use Rattle.rl_names.specs.Title.{title_of, user_name_of}
use Rattle.rl_pages.specs.declared.limits.TheConstants as limits
use Rattle.rl_pages.specs.declared.viewer.Viewer.{Viewer}
use Rattle.rl_pages.specs.declared.viewer.Viewer.TheVariants.{Anon, User}
use Rattle.rl_pages.specs.declared.entry.Entry.{Entry}
use Rattle.rl_pages.specs.declared.entry.Entry.TheVariants.{Edit, Choice}
use Rattle.rl_pages.specs.declared.refusals.EditError.{EditError}
use Rattle.rl_pages.specs.declared.refusals.EditError.TheVariants as edit
use Rattle.rl_pages.specs.declared.refusals.ChoiceError.{ChoiceError}
use Rattle.rl_pages.specs.declared.refusals.ChoiceError.TheVariants as choice
use Rattle.rl_pages.specs.declared.refusals.KeptError.{KeptError}
use Rattle.rl_pages.specs.declared.refusals.KeptError.TheVariants as kept
use Rattle.rl_pages.specs.Policy.{may_edit}
use Rattle.rl_pages.specs.History.{revision_of, bytes_of, size_of}

-- no more entries, or not so many more bytes, fit
abbrev pub is_full : List Entry → ℕ → Bool
is_full entries more = nat_le limits.MAX_ENTRIES (length entries) || nat_lt limits.MAX_ENTRY_BYTES (bytes_of entries + more)

-- the name of a viewer who is somebody
abbrev pub name_of : Viewer → List ℕ
name_of Anon = []
name_of (User name) = name

-- ---- an edit

-- an edit of a page by its title, as far as size and room go
abbrev pub sized_edit : List Entry → Viewer → List ℕ → List ℕ → Result Entry EditError
sized_edit entries viewer title text =
    if nat_lt limits.MAX_PAGE_BYTES (length text) then Err (edit.TextTooLong (length text))
    else (if is_full entries (length text) then Err (edit.Full (length entries) (bytes_of entries)) else Ok (Edit (name_of viewer) title text))

abbrev pub titled_edit : List (List ℕ) → List Entry → Viewer → List ℕ → ℕ → List ℕ → Result Entry EditError
titled_edit admins entries viewer title base text =
    if not (may_edit admins viewer title) then Err edit.NotAllowed
    else (if not (revision_of entries title == base) then Err (edit.Conflict (revision_of entries title)) else sized_edit entries viewer title text)

-- In this order: the bytes are no title; the viewer may not edit the page; it is not at the base; the text is too long; the
-- history is full.
abbrev pub checked_edit : List (List ℕ) → List Entry → Viewer → List ℕ → ℕ → List ℕ → Result Entry EditError
checked_edit admins entries viewer bytes base text =
    option_map_or (λ title. titled_edit admins entries viewer title base text) (title_of bytes) (Err edit.BadTitle)

-- ---- a choice

abbrev pub is_option_byte : ℕ → Bool
is_option_byte b = nat_le 33 b && nat_le b 126

-- the key of an option: 1 to 255 visible ASCII bytes
abbrev pub is_option_key : List ℕ → Bool
is_option_key key = nat_le 1 (length key) && nat_le (length key) limits.MAX_KEY_BYTES && list_all is_option_byte key

-- In this order: the viewer is nobody; the key is none; the value is too long; the history is full.
abbrev pub checked_choice : List Entry → Viewer → List ℕ → List ℕ → Result Entry ChoiceError
checked_choice entries Anon key value = Err choice.NotAllowed
checked_choice entries (User name) key value =
    if not (is_option_key key) then Err choice.BadKey
    else (if nat_lt limits.MAX_VALUE_BYTES (length value) then Err (choice.TextTooLong (length value))
    else (if is_full entries (length value) then Err (choice.Full (length entries) (bytes_of entries)) else Ok (Choice name key value)))

-- ---- an entry that was kept

-- the name of a user as the rule of user names spells it
abbrev pub is_spelt_user : List ℕ → Bool
is_spelt_user name = option_map_or (bytes_eq name) (user_name_of name) false

-- the rules that every accepted entry keeps, whoever is an admin and whatever else the history has
abbrev pub is_kept : Entry → Bool
is_kept (Edit by title text) = is_spelt_user by && nat_le (length text) limits.MAX_PAGE_BYTES
is_kept (Choice user key value) = is_spelt_user user && is_option_key key && nat_le (length value) limits.MAX_VALUE_BYTES

-- An entry that was kept is taken again where it keeps those rules and the history is not full; neither the policy nor a base
-- is asked.
abbrev pub checked_kept : List Entry → Entry → Result Entry KeptError
checked_kept entries entry = if is_kept entry && not (is_full entries (size_of entry)) then Ok entry else Err kept.BadEntry

-- what every history is: entries that keep those rules, within the limits
pub record IsAccepted (entries : List Entry) : Type 0 where
  pub kept : IsTrue (list_all is_kept entries)
  pub few : length entries ≤ limits.MAX_ENTRIES
  pub small : bytes_of entries ≤ limits.MAX_ENTRY_BYTES

-- ---- the refusal that an error tells; want of memory is none

abbrev pub edit_refusal : EditError → Option EditError
edit_refusal edit.NoMemory = None
edit_refusal why = Some why

abbrev pub choice_refusal : ChoiceError → Option ChoiceError
choice_refusal choice.NoMemory = None
choice_refusal why = Some why

abbrev pub kept_refusal : KeptError → Option KeptError
kept_refusal kept.NoMemory = None
kept_refusal why = Some why
