-- Files read one after another.
use Rattle.std.proofs.Common.{◌≡◌, ℕ, ◌+◌, ◌<◌, ◌≤◌, List, [], ◌∷◌, ◌++◌, length, take, drop, get_or, Option, refl, ap, sym}
use Rattle.std.proofs.Common.{subst, ◌∙◌, arith}
use Rattle.std.proofs.Common.{inl, inr}
use Rattle.std.proofs.lemmas.List.{take_more, drop_more, map-append, take-append-drop}
use Rattle.rl_base.specs.Causes.{Rose}
use Rattle.rl_base.specs.Files.{Files}
use Rattle.rl_view_spec.specs.Closure.{Text}
use Rattle.rl_cli.specs.Files.{IsFile, IsTooLong, IsUnread, AreFiles, Reaches}
use Rattle.rl_cli.specs.Stops.{StopsAt, StopsReading}
use Rattle.rl_cli.specs.Words.{word_at, names_at}
use Rattle.rl_cli.specs.declared.file.FileError.{FileError}
use Rattle.rl_cli.specs.declared.file.FileError.TheVariants.{Failed, TooLong, NoMemory}

-- a count that rose since rose since an earlier moment
pub rose_since : (first before now : ℕ) → first ≤ before → Rose before now → Rose first now
rose_since first before now h rose = grind arith

-- one more file
pub are_more : (told : Option Files) (names all : List Text) (name bytes : Text) → AreFiles told names all → IsFile told name bytes →
    AreFiles told (names ++ name ∷ []) (all ++ bytes ∷ [])
are_more told [] [] name bytes are file = (file, tt)
are_more told (n ∷ names) (b ∷ all) name bytes are file = (are.0, are_more told names all name bytes are.1 file)
are_more told [] (b ∷ all) name bytes are file = absurd are
are_more told (n ∷ names) [] name bytes are file = absurd are

pub are_as_many : (told : Option Files) (names all : List Text) → AreFiles told names all → length all ≡ length names
are_as_many told [] [] are = refl
are_as_many told (n ∷ names) (b ∷ all) are = let rest : length all ≡ length names = are_as_many told names all are.1 in grind arith
are_as_many told [] (b ∷ all) are = absurd are
are_as_many told (n ∷ names) [] are = absurd are

-- the names of the first places, and of one more
pub names_more : (words : List Text) (places : List ℕ) (i : ℕ) → i < length places →
    names_at words (take (i + 1) places) ≡ names_at words (take i places) ++ word_at words (get_or places i 0) ∷ []
names_more words places i h = ap (names_at words) (take_more places i 0 h) ∙ map-append (word_at words) (take i places) (get_or places i 0 ∷ [])

pub are_next : (told : Option Files) (words : List Text) (places : List ℕ) (all : List Text) (i : ℕ) (bytes : Text) → i < length places
    → AreFiles told (names_at words (take i places)) all → IsFile told (word_at words (get_or places i 0)) bytes →
    AreFiles told (names_at words (take (i + 1) places)) (all ++ bytes ∷ [])
are_next told words places all i bytes h are file =
    subst (λ (names : List Text). AreFiles told names (all ++ bytes ∷ [])) (sym (names_more words places i h))
    (are_more told (names_at words (take i places)) all (word_at words (get_or places i 0)) bytes are file)

-- the files before a place are read, so its file is reached
pub reaches_at : (told : Option Files) (words : List Text) (places : List ℕ) (all : List Text) (i : ℕ) → i < length places
    → AreFiles told (names_at words (take i places)) all → Reaches told words places (get_or places i 0)
reaches_at told words places all i h are = record {
  before = take i places;
  after = drop (i + 1) places;
  order = sym (take-append-drop i places) ∙ ap (λ rest. take i places ++ rest) (drop_more places i 0 h);
  read = all;
  are = are;
}

unread_since : (first before now : ℕ) (blamed : Option Text) (told : Option Files) (name : Text) → first ≤ before →
    IsUnread before now blamed told name → IsUnread first now blamed told name
unread_since first before now blamed told name h u = elim u [
  | inl counted ↦ inl (rose_since first before now h counted.0, counted.1)
  | inr absent ↦ inr
      absent
]

pub stops_at : (first before now : ℕ) (blamed : Option Text) (told : Option Files) (words : List Text) (places : List ℕ) (all : List Text) (i : ℕ)
    (e : FileError) → i < length places
    → first ≤ before → AreFiles told (names_at words (take i places)) all →
    StopsAt before now blamed told (word_at words (get_or places i 0)) (get_or places i 0) e
    → StopsReading first now blamed told words places e
stops_at first before now blamed told words places all i NoMemory h later are stops = tt
stops_at first before now blamed told words places all i (Failed at) h later are stops =
    let P : ℕ → Type 0 = λ word. Reaches told words places word × IsUnread first now blamed told (word_at words word) in
    subst P (sym stops.0) (
      reaches_at told words places all i h are,
      unread_since first before now blamed told (word_at words (get_or places i 0)) later
          stops.1,
    )
stops_at first before now blamed told words places all i (TooLong at) h later are stops =
    let P : ℕ → Type 0 = λ word. Reaches told words places word × IsTooLong told (word_at words word) in
    subst P (sym stops.0) (reaches_at told words places all i h are, stops.1)

-- the same where the loop knows the files, the name and the list by equations
pub are_pushed : (told now : Option Files) (words : List Text) (places : List ℕ) (all items : List Text) (i : ℕ) (name bytes : Text) →
    i < length places → now ≡ told
    → name ≡ word_at words (get_or places i 0) → items ≡ all ++ bytes ∷ [] → AreFiles told (names_at words (take i places)) all →
    IsFile now name bytes
    → AreFiles told (names_at words (take (i + 1) places)) items
are_pushed told now words places all items i name bytes h same named pushed are file =
    let P : List Text → Type 0 = λ xs. AreFiles told (names_at words (take (i + 1) places)) xs in
    subst P (sym pushed) (are_next told words places all i bytes h are
    (subst (λ (n : Text). IsFile told n bytes) named (subst (λ (f : Option Files). IsFile f name bytes) same file)))

pub stops_named : (first before after : ℕ) (blamed : Option Text) (told now : Option Files) (words : List Text) (places : List ℕ) (all : List Text)
    (i : ℕ) (name : Text) (e : FileError) → i < length places
    → first ≤ before → now ≡ told → name ≡ word_at words (get_or places i 0) → AreFiles told (names_at words (take i places)) all →
    StopsAt before after blamed now name (get_or places i 0) e
    → StopsReading first after blamed told words places e
stops_named first before after blamed told now words places all i name e h later same named are stops =
    stops_at first before after blamed told words places all i e h later are
    (subst (λ (n : Text). StopsAt before after blamed told n (get_or places i 0) e) named
    (subst (λ (f : Option Files). StopsAt before after blamed f name (get_or places i 0) e) same stops))
