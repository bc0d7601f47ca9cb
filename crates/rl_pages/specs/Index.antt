-- What a history keeps beside its entries, so that the last edit of a page and the choices of a user are found at once.
use Rattle.std.specs.Prelude.{◌≡◌, ⊤, ℕ, ◌<◌, zero, suc, List, [], ◌∷◌, ◌++◌, length, take, slice_get, Option, Some}
use Rattle.std.specs.Prelude.{None, option_map, unwrap_or, IsSome, IsTrue, String}
use Rattle.std.specs.BTreeMap.{BTreeMap, get_by_text}
use Rattle.std.specs.declared.alloc.Global.{Global}
use Rattle.rl_pages.specs.declared.entry.Entry.{Entry}
use Rattle.rl_pages.specs.declared.entry.Entry.TheVariants.{Edit, Choice}
use Rattle.rl_pages.specs.History.{revision_of, chooses, last_number, bytes_of, Fits}
use Rattle.rl_pages.specs.Refusals.{is_kept, IsAccepted}

-- the number of a title, and 0 where it has none
abbrev pub number_at : BTreeMap (String Global) ℕ → List ℕ → ℕ
number_at numbers title = unwrap_or (get_by_text numbers title) 0

-- an edit has a place for its number under its title, a choice under its user
abbrev pub HasNumber : BTreeMap (String Global) ℕ → Entry → Type 0
HasNumber numbers (Edit by title text) = IsSome (get_by_text numbers title)
HasNumber numbers (Choice user key value) = ⊤

abbrev pub HasChooser : BTreeMap (String Global) ℕ → Entry → Type 0
HasChooser choosers (Edit by title text) = ⊤
HasChooser choosers (Choice user key value) = IsSome (get_by_text choosers user)

-- the number that stands under the user of a choice; an edit has 0
abbrev pub number_before : BTreeMap (String Global) ℕ → Entry → ℕ
number_before choosers (Edit by title text) = 0
number_before choosers (Choice user key value) = number_at choosers user

-- the number of the choice of the same user before this one; an edit has 0
abbrev pub choice_before : List Entry → Entry → ℕ
choice_before entries (Edit by title text) = 0
choice_before entries (Choice user key value) = last_number (chooses user) entries

-- of each of these entries, behind those that were done, the number of the choice before it
abbrev pub befores : List Entry → List Entry → List ℕ
befores done [] = []
befores done (e ∷ es) = choice_before done e ∷ befores (done ++ e ∷ []) es

-- the entry of a number, counted from 1, and the number of the choice before it
abbrev pub entry_numbered : List Entry → ℕ → Option (Entry × ℕ)
entry_numbered entries zero = None
entry_numbered entries (suc at) = option_map (λ entry. (entry, choice_before (take at entries) entry)) (slice_get entries at)

-- the entry for which there is room may be added, and takes no memory
abbrev pub HasRoom : List Entry → ℕ → BTreeMap (String Global) ℕ → ℕ → BTreeMap (String Global) ℕ → Option Entry → Type 0
HasRoom entries capacity numbers links choosers None = ⊤
HasRoom entries capacity numbers links choosers (Some entry) =
    Fits entries entry × IsTrue (is_kept entry) × (length entries < capacity) × HasNumber numbers entry
    × (length entries < links) × HasChooser choosers entry

-- what holds of the parts of every history
pub record IsIndexed (entries : List Entry) (bytes capacity : ℕ) (numbers : BTreeMap (String Global) ℕ)
    (before : List ℕ) (links : ℕ) (choosers : BTreeMap (String Global) ℕ) (room : Option Entry) : Type 0 where
  pub accepted : IsAccepted entries
  pub counted : bytes ≡ bytes_of entries
  pub last : (title : List ℕ) → number_at numbers title ≡ revision_of entries title
  pub linked : before ≡ befores [] entries
  pub chosen : (user : List ℕ) → number_at choosers user ≡ last_number (chooses user) entries
  pub place : HasRoom entries capacity numbers links choosers room
