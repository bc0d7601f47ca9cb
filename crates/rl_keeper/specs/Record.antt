-- How an entry is kept: its number, its kind, and three texts.
use Rattle.std.specs.Prelude.{◌≡◌, ℕ, ◌==◌, Bool, false, not, if◌then◌else◌, List, bytes_eq, IsUtf8, Option, Some, None, Result, Ok, Err}
use Rattle.std.specs.Option.{option_map_or}
use Rattle.std.specs.Str.{is_utf8}
use Rattle.rl_names.specs.Title.{title_of}
use Rattle.rl_pages.specs.declared.entry.Entry.{Entry}
use Rattle.rl_pages.specs.declared.entry.Entry.TheVariants.{Edit, Choice}
use Rattle.rl_keeper.specs.declared.record.Record.{Record}
use Rattle.rl_keeper.specs.declared.record.RecordError.{RecordError}
use Rattle.rl_keeper.specs.declared.record.RecordError.TheVariants as errors

-- why a record is no entry; want of memory is none of these
pub data Fault : Type 0 where
  BadKind : (kind : ℕ) → Fault
  BadText : (place : ℕ) → Fault

-- the fault that an error tells
abbrev pub fault_told : RecordError → Option Fault
fault_told (errors.BadKind kind) = Some (BadKind kind)
fault_told (errors.BadText place) = Some (BadText place)
fault_told errors.NoMemory = None

abbrev pub record_of : ℕ → Entry → Record
record_of number (Edit by title text) = record { number = number; kind = 1; a = by; b = title; c = text }
record_of number (Choice user key value) = record { number = number; kind = 2; a = user; b = key; c = value }

-- a title as it is kept
abbrev pub is_spelt_title : List ℕ → Bool
is_spelt_title bytes = option_map_or (bytes_eq bytes) (title_of bytes) false

-- the entry that an edit's texts are, or the place of the first that is bad
abbrev pub edit_of : List ℕ → List ℕ → List ℕ → Result Entry Fault
edit_of a b c =
    if not (is_utf8 a) then Err (BadText 0)
    else (if not (is_spelt_title b) then Err (BadText 1) else (if not (is_utf8 c) then Err (BadText 2) else Ok (Edit a b c)))

abbrev pub choice_of : List ℕ → List ℕ → List ℕ → Result Entry Fault
choice_of a b c =
    if not (is_utf8 a) then Err (BadText 0)
    else (if not (is_utf8 b) then Err (BadText 1) else (if not (is_utf8 c) then Err (BadText 2) else Ok (Choice a b c)))

-- the entry that is kept, or why there is none
abbrev pub entry_of : Record → Result Entry Fault
entry_of r = if r.kind == 1 then edit_of r.a r.b r.c else (if r.kind == 2 then choice_of r.a r.b r.c else Err (BadKind r.kind))

-- the texts of an entry as its type holds them
abbrev pub IsEntry : Entry → Type 0
IsEntry (Edit by title text) = IsUtf8 by × (title_of title ≡ Some title) × IsUtf8 text
IsEntry (Choice user key value) = IsUtf8 user × IsUtf8 key × IsUtf8 value

-- what was written is read again
abbrev pub RecordsAreReadAgain : Type 0
RecordsAreReadAgain = (number : ℕ) (entry : Entry) → IsEntry entry → entry_of (record_of number entry) ≡ Ok entry
