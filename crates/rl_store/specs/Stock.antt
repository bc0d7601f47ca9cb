-- A store: parts by key, what they were made for, and their age.
use Rattle.std.specs.Prelude.{ℕ, ◌+◌, ◌*◌, ◌^◌, ◌≤◌, ◌<◌, length, List, [], ◌∷◌, Bool, not, map, find, nat_lt}
use Rattle.std.specs.Prelude.{bytes_eq, if◌then◌else◌, Option, codes}
use Rattle.std.specs.List.{AllByRecursion}
use Rattle.std.specs.List.Sorted.{IsStrictlySortedBy}
use Rattle.std.specs.Ordering.{nat_cmp}
use Rattle.std.specs.Cmp.Lexicographic.{slice_cmp}
use Rattle.rl_names.specs.declared.name.Key.{Key}
use Rattle.rl_view_spec.specs.Closure.{Text, Registered}
use Rattle.rl_book_spec.specs.Closing.{key_bytes, age_at, pairs_after}
use Rattle.rl_book_spec.specs.Laws.{IsOfKey}
use Rattle.rl_book_spec.specs.declared.Stored.{Stored}
use Rattle.rl_wire.specs.Line.{part_text, IsInOrder}
use Rattle.serde_json.specs.Data.{Data, unsigned, number, string, object, Members, no_members, member}
use Rattle.serde_json.specs.Written.{compact_text}
use Rattle.rl_store.specs.declared.note.Note.{Note}
use Rattle.rl_store.specs.declared.note.Note.TheVariants.{Fresh, OtherVary, Expired}

pub record Stock : Type 0 where
  pub vary : Text
  pub as_of : ℕ
  pub pairs : List Stored

abbrev pub keys_of : List Stored → List Text
keys_of pairs = map (λ (stored : Stored). key_bytes stored.key) pairs

-- the messages of each part are in order
abbrev pub AreOrdered : List Stored → Type 0
AreOrdered pairs = AllByRecursion (λ (stored : Stored). IsInOrder stored.part) pairs

-- each part is an implementation of its key, the key texts strictly increase in byte order, and age and count have bounds
pub record IsStock (as_of : ℕ) (pairs : List Stored) : Type 0 where
  pub ascend : IsStrictlySortedBy (slice_cmp nat_cmp) (keys_of pairs)
  pub parts : AllByRecursion IsOfKey pairs
  pub ordered : AreOrdered pairs
  pub age : as_of ≤ 10 ^ 12
  pub few : length pairs < 2 ^ 32

-- what is kept under a key text: the name alone does not find it
abbrev pub pair_under : Text → List Stored → Option Stored
pair_under text pairs = find (λ (stored : Stored). bytes_eq (key_bytes stored.key) text) pairs

abbrev pub pair_of : Key → List Stored → Option Stored
pair_of key pairs = pair_under (key_bytes key) pairs

-- nothing is kept, and the age is that of no moment
abbrev pub nothing_for : Text → Stock
nothing_for vary = record { vary = vary; as_of = 0; pairs = [] }

-- a store is fresh for 2,590,000,000 milliseconds from its age on, which counts steps of 10,000,000 milliseconds
abbrev pub is_fresh : ℕ → ℕ → Bool
is_fresh as_of now = nat_lt now (as_of * 10000000 + 2590000000)

-- how a store fits what is wanted of it at a moment
abbrev pub note_of : Stock → Text → ℕ → Note
note_of stock vary now = if not (bytes_eq stock.vary vary) then OtherVary else (if is_fresh stock.as_of now then Fresh else Expired stock.as_of)

-- what is left of it: all where it is fresh, and else nothing
abbrev pub fitted : Note → Stock → Text → Stock
fitted Fresh stock vary = stock
fitted other stock vary = nothing_for vary

-- what it is after a view that ends at a moment, with new pairs
abbrev pub stock_after : Registered → List Stored → ℕ → Stock → Stock
stock_after r fresh now stock = record { vary = stock.vary; as_of = age_at now; pairs = pairs_after r fresh stock.pairs }

-- ---- the text of a store

-- under each key text stands the line of its part
abbrev pub items_of : List Stored → Members
items_of [] = no_members
items_of (stored ∷ more) = member (key_bytes stored.key) (string (part_text stored.part)) (items_of more)

-- the age, the items and what they were made for, as JSON
abbrev pub stock_value : Stock → Data
stock_value stock =
    object (member (codes "asOf") (number (unsigned stock.as_of)) (member (codes "items") (object (items_of stock.pairs))
    (member (codes "vary") (string stock.vary) no_members)))

abbrev pub stock_text : Stock → List ℕ
stock_text stock = compact_text (stock_value stock)
