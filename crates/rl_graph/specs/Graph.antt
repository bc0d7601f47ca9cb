-- A graph: for each number the list of the numbers that it leads to.
use Rattle.std.specs.Prelude.{◌≡◌, ℕ, ◌+◌, ◌<◌, List, [], ◌∷◌, Bool, true, false, if◌then◌else◌, length, map, slice_index_or}
use Rattle.std.specs.Prelude.{Contains, Vec}
use Rattle.std.specs.declared.alloc.Global.{Global}

abbrev pub edge_lists : List (Vec ℕ Global) → List (List ℕ)
edge_lists edges = map (λ next. next.items) edges

-- what a number leads to
abbrev pub next_in : List (List ℕ) → ℕ → List ℕ
next_in lists number = slice_index_or lists number []

-- each number that is led to has a list
abbrev pub IsWithin : List (List ℕ) → Type 0
IsWithin lists = (from to : ℕ) → Contains (next_in lists from) to → to < length lists

-- A chain leads from a number through these, each led to by the one before, to a last number.
abbrev pub Walks : List (List ℕ) → ℕ → List ℕ → ℕ → Type 0
Walks lists from [] last = from ≡ last
Walks lists from (next ∷ chain) last = Contains (next_in lists from) next × Walks lists next chain last

-- some chain leads from the one to the other
abbrev pub Reaches : List (List ℕ) → ℕ → ℕ → Type 0
Reaches lists from last = (chain : List ℕ) × Walks lists from chain last

abbrev pub marked : List Bool → ℕ → Bool
marked marks number = slice_index_or marks number false

-- a chain leads there from one of these
pub record ReachedFrom (lists : List (List ℕ)) (starts : List ℕ) (number : ℕ) : Type 0 where
  pub start : ℕ
  pub is_start : Contains starts start
  pub walk : Reaches lists start number

-- what is marked is what can be reached
pub record MarksReached (lists : List (List ℕ)) (starts : List ℕ) (marks : List Bool) : Type 0 where
  pub long : length marks ≡ length lists
  pub reached : (number : ℕ) → marked marks number ≡ true → ReachedFrom lists starts number
  pub all : (number : ℕ) → ReachedFrom lists starts number → marked marks number ≡ true

-- the places that are marked, from a number on
abbrev pub places_from : ℕ → List Bool → List ℕ
places_from k [] = []
places_from k (mark ∷ marks) = if mark then k ∷ places_from (k + 1) marks else places_from (k + 1) marks
