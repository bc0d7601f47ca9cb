-- The key of a module: its name, `@` and its version. The last `@` divides, and one in front divides nothing.
use Rattle.std.specs.Prelude.{◌≡◌, ℕ, Bool, not, ◌==◌, if◌then◌else◌, List, drop, Option, Some, None, Result, Ok, Err, IsTrue}
use Rattle.std.specs.List.{list_any}
use Rattle.rl_names.specs.Cut.{before_by, suffix_by}
use Rattle.rl_names.specs.Name.{is_name, is_version, key_text}
use Rattle.rl_names.specs.declared.name.Key.{Key}
use Rattle.rl_names.specs.declared.name.NameError.{NameError}
use Rattle.rl_names.specs.declared.name.NameError.TheVariants as name_error
use Rattle.rl_names.specs.declared.name.KeyError.{KeyError}
use Rattle.rl_names.specs.declared.name.KeyError.TheVariants as errors

abbrev pub is_at : ℕ → Bool
is_at b = b == 64

-- why a text spells no key
pub data KeyFault : Type 0 where
  NoVersion : KeyFault
  BadVersion : KeyFault
  BadName : KeyFault

-- the key that a text spells, or why it spells none
abbrev pub key_of : List ℕ → Result Key KeyFault
key_of text =
    if not (list_any is_at (drop 1 text)) then Err NoVersion
    else (if not (is_version (suffix_by is_at text)) then Err BadVersion
    else (if not (is_name (before_by is_at text)) then Err BadName
    else Ok (record { name = before_by is_at text; version = suffix_by is_at text })))

-- the fault that an error tells
abbrev pub key_fault_told : KeyError → Option KeyFault
key_fault_told errors.NoVersion = Some NoVersion
key_fault_told errors.BadVersion = Some BadVersion
key_fault_told errors.BadName = Some BadName
key_fault_told errors.NoMemory = None

-- how a splitting tells why its front is no name
abbrev pub key_error_of : NameError → KeyError
key_error_of name_error.NoMemory = errors.NoMemory
key_error_of _ = errors.BadName

-- the key text of a name and a version spells that key, and no other text does
pub record KeyTexts : Type 0 where
  pub written : (key : Key) → IsTrue (is_name key.name) → IsTrue (is_version key.version) → key_of (key_text key.name key.version) ≡ Ok key
  pub alone : (text : List ℕ) (key : Key) → key_of text ≡ Ok key → text ≡ key_text key.name key.version
