-- Files that are read whole, one after another, where the tree tells its files.
use Rattle.std.specs.Prelude.{◌≡◌, ℕ, ◌<◌, ◌≤◌, List, [], ◌∷◌, ◌++◌, length, Option, Some, None, IfSome, IsSomeAnd, ◌⊎◌}
use Rattle.std.specs.FinMap as map
use Rattle.rl_base.specs.Causes.{Rose}
use Rattle.rl_base.specs.Files.{Files}
use Rattle.rl_names.specs.declared.counted.TheConstants as limits
use Rattle.rl_view_spec.specs.Closure.{Text}
use Rattle.rl_cli.specs.Words.{names_at}

-- these are all the bytes of a file, and there are not too many
abbrev pub IsFile : Option Files → Text → Text → Type 0
IsFile told name bytes = (length bytes ≤ limits.MAX_FILE_BYTES) × IfSome told (λ files. map.get files name ≡ Some bytes)

-- it has more bytes than a file may have
abbrev pub IsTooLong : Option Files → Text → Type 0
IsTooLong told name = IfSome told (λ files. IsSomeAnd (map.get files name) (λ bytes. limits.MAX_FILE_BYTES < length bytes))

-- it was not read: the tree counted a fault and blames it on this name, or tells its files, and it is not among them
abbrev pub IsUnread : ℕ → ℕ → Option Text → Option Files → Text → Type 0
IsUnread faults faults' blamed told name =
    (Rose faults faults' × (blamed ≡ Some name)) ⊎ IsSomeAnd told (λ files. map.get files name ≡ None)

-- these are the bytes of each of the files, in their order
abbrev pub AreFiles : Option Files → List Text → List Text → Type 0
AreFiles told [] [] = Unit {0}
AreFiles told (name ∷ names) (bytes ∷ all) = IsFile told name bytes × AreFiles told names all
AreFiles told names all = ⊥

-- of the files that the words of these places name, all before this one were read
pub record Reaches (told : Option Files) (words : List Text) (places : List ℕ) (place : ℕ) : Type 0 where
  pub before : List ℕ
  pub after : List ℕ
  pub order : places ≡ before ++ place ∷ after
  pub read : List Text
  pub are : AreFiles told (names_at words before) read
