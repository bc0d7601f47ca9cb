-- The history of a wiki: the entries that were accepted, the oldest first, and what they come to.
use Rattle.std.specs.Prelude.{ℕ, ◌+◌, ◌<◌, ◌≤◌, Bool, false, if◌then◌else◌, List, [], ◌∷◌, length, fold, sum_by, slice_get, zero}
use Rattle.std.specs.Prelude.{suc, bytes_eq, Option, Some, None, option_and_then}
use Rattle.std.specs.Option.{option_or}
use Rattle.std.specs.Ordering.{nat_cmp, match_ordering}
use Rattle.std.specs.Cmp.Lexicographic.{slice_cmp}
use Rattle.rl_names.specs.declared.part.Message.{Message}
use Rattle.rl_pages.specs.declared.limits.TheConstants as limits
use Rattle.rl_pages.specs.declared.entry.Entry.{Entry}
use Rattle.rl_pages.specs.declared.entry.Entry.TheVariants.{Edit, Choice}

-- whether an entry edits the page of a title
abbrev pub edits : List ℕ → Entry → Bool
edits title (Edit by edited text) = bytes_eq edited title
edits title (Choice user key value) = false

-- the text that an entry gives the page of a title
abbrev pub text_in : List ℕ → Entry → Option (List ℕ)
text_in title (Edit by edited text) = if bytes_eq edited title then Some text else None
text_in title (Choice user key value) = None

-- the text of a page after one more entry
abbrev pub text_after : List ℕ → Option (List ℕ) → Entry → Option (List ℕ)
text_after title found entry = option_or (text_in title entry) found

-- the text of a page: that of its last edit, or none
abbrev pub page_of : List Entry → List ℕ → Option (List ℕ)
page_of entries title = fold (text_after title) None entries

-- whether an entry is a choice of a user
abbrev pub chooses : List ℕ → Entry → Bool
chooses name (Edit by title text) = false
chooses name (Choice user key value) = bytes_eq name user

-- the number of the last entry of these that is meant, behind so many others and one of this number
abbrev pub last_after : (Entry → Bool) → ℕ → ℕ → List Entry → ℕ
last_after meant count found [] = found
last_after meant count found (e ∷ es) = last_after meant (count + 1) (if meant e then count + 1 else found) es

-- the number of the last entry that is meant, counted from 1; 0 where there is none
abbrev pub last_number : (Entry → Bool) → List Entry → ℕ
last_number meant entries = last_after meant 0 0 entries

-- the revision of a page: the number of its last edit among all entries; 0 for no page
abbrev pub revision_of : List Entry → List ℕ → ℕ
revision_of entries title = last_number (edits title) entries

-- the text of an edit
abbrev pub any_text : Entry → Option (List ℕ)
any_text (Edit by title text) = Some text
any_text (Choice user key value) = None

-- the text of the edit of this number, counted from 1; none has 0
abbrev pub text_numbered : List Entry → ℕ → Option (List ℕ)
text_numbered entries zero = None
text_numbered entries (suc at) = option_and_then any_text (slice_get entries at)

-- a value under its key, in byte order of the keys; it takes the place of an earlier one
abbrev pub put_option : List ℕ → List ℕ → List Message → List Message
put_option key value [] = record { key = key; text = value } ∷ []
put_option key value (m ∷ ms) =
    match_ordering (slice_cmp nat_cmp key m.key)
    (record { key = key; text = value } ∷ m ∷ ms)
    (record m { text = value } ∷ ms)
    (m ∷ put_option key value ms)

-- the options of a user after one more entry
abbrev pub options_after : List ℕ → List Message → Entry → List Message
options_after name found (Edit by edited text) = found
options_after name found (Choice user key value) = if bytes_eq name user then put_option key value found else found

-- the options of a user: the last value of each key, keys in byte order
abbrev pub options_of : List Entry → List ℕ → List Message
options_of entries name = fold (options_after name) [] entries

-- the bytes that an entry counts for
abbrev pub size_of : Entry → ℕ
size_of (Edit by edited text) = length text
size_of (Choice user key value) = length value

abbrev pub bytes_of : List Entry → ℕ
bytes_of entries = sum_by size_of entries

-- what contracts see of a history: its entries, and the one for which there is room, if there is one
pub record History : Type 0 where
  pub entries : List Entry
  pub room : Option Entry

-- one more entry is within the limits
pub record Fits (entries : List Entry) (entry : Entry) : Type 0 where
  pub few : length entries < limits.MAX_ENTRIES
  pub small : bytes_of entries + size_of entry ≤ limits.MAX_ENTRY_BYTES
