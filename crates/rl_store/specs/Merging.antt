-- Which of the older pairs stay beside new ones, as marks.
use Rattle.std.specs.Prelude.{◌≢◌, ◌&&◌, List, [], ◌∷◌, Bool, AllPairs, not, bytes_eq, if◌then◌else◌, IsTrue}
use Rattle.std.specs.List.{AllByRecursion}
use Rattle.rl_names.specs.Name.{is_name, is_version}
use Rattle.rl_view_spec.specs.Closure.{Text, Registered}
use Rattle.rl_book_spec.specs.Closing.{key_bytes, is_key_of, has_key}
use Rattle.rl_book_spec.specs.declared.Stored.{Stored}
use Rattle.rl_store.specs.Stock.{keys_of}

-- no two of them have one key
abbrev pub HaveDistinctKeys : List Stored → Type 0
HaveDistinctKeys pairs = AllPairs (λ a b. a ≢ b) (keys_of pairs)

abbrev pub is_under : Text → Stored → Bool
is_under text stored = bytes_eq (key_bytes stored.key) text

-- under the key of a row, and no new pair replaces it
abbrev pub stays : Registered → List Stored → Stored → Bool
stays r fresh stored = is_key_of r stored.key && not (has_key fresh stored.key)

-- the marks, with another one at the pairs under a key
abbrev pub marked : Text → Bool → List Stored → List Bool → List Bool
marked text mark [] marks = []
marked text mark (stored ∷ pairs) [] = []
marked text mark (stored ∷ pairs) (old ∷ marks) = (if is_under text stored then mark else old) ∷ marked text mark pairs marks

-- the pairs that are marked
abbrev pub picked : {X : Type 0} → List Bool → List X → List X
picked [] xs = []
picked (mark ∷ marks) [] = []
picked (mark ∷ marks) (x ∷ xs) = if mark then x ∷ picked marks xs else picked marks xs

-- pairs of different names have different keys
abbrev pub NamesTellKeys : Type 0
NamesTellKeys =
    (pairs : List Stored) → AllByRecursion (λ (stored : Stored). IsTrue (is_name stored.key.name) × IsTrue (is_version stored.key.version)) pairs
    → AllPairs (λ a b. a.key.name ≢ b.key.name) pairs → HaveDistinctKeys pairs
