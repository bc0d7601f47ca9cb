-- The history that kept entries make.
use Rattle.std.specs.Prelude.{◌≡◌, ℕ, ◌+◌, List, [], ◌∷◌, ◌++◌, length, Option, Some, None, Result, Ok, Err}
use Rattle.rl_pages.specs.declared.entry.Entry.{Entry}
use Rattle.rl_pages.specs.declared.refusals.KeptError.{KeptError}
use Rattle.rl_pages.specs.Refusals.{checked_kept, IsAccepted}

abbrev pub unless_bad : {X : Type 0} → Result Entry KeptError → X → X → X
unless_bad (Ok kept) good bad = good
unless_bad (Err refusal) good bad = bad

-- the number of the first entry that is bad behind those that were taken, counted from 1 over all
abbrev pub first_bad_after : List Entry → List Entry → Option ℕ
first_bad_after done [] = None
first_bad_after done (entry ∷ entries) = unless_bad (checked_kept done entry) (first_bad_after (done ++ entry ∷ []) entries) (Some (length done + 1))

-- the number of the first of these entries that is bad, counted from 1
abbrev pub first_bad : List Entry → Option ℕ
first_bad entries = first_bad_after [] entries

-- these entries were read: where the keeper tells its entries, they are those
abbrev pub WereRead : Option (List Entry) → List Entry → Type 0
WereRead kept read = (told : List Entry) → kept ≡ Some told → read ≡ told

-- every history is taken again when it is read
abbrev pub HistoriesOpenAgain : Type 0
HistoriesOpenAgain = (entries : List Entry) → IsAccepted entries → first_bad entries ≡ None
