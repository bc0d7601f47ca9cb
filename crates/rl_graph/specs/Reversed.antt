-- Edges, turned round.
use Rattle.std.specs.Prelude.{◌≡◌, ◌+◌, ◌<◌, ◌==◌, ◌&&◌, ℕ, List, not, if◌then◌else◌, count_by, length, nat_eq}
use Rattle.rl_graph.specs.Graph.{next_in}

-- how often a number stands in a list
abbrev pub times : ℕ → List ℕ → ℕ
times number numbers = count_by (nat_eq number) numbers

-- For each number its list has every other number that leads to it, once for each time that this one does.
pub record AreReversed (lists reversed : List (List ℕ)) : Type 0 where
  pub long : length reversed ≡ length lists
  pub each : (from to : ℕ) → to < length lists → times from (next_in reversed to) ≡ (if from == to then 0 else times to (next_in lists from))

-- a number stands once more in the list of another for each time that it leads there
pub record AddsEdges (from : ℕ) (next : List ℕ) (lists lists' : List (List ℕ)) : Type 0 where
  pub long : length lists' ≡ length lists
  pub each : (to other : ℕ) → to < length lists → times other (next_in lists' to)
      ≡ times other (next_in lists to) + (if other == from && not (from == to) then times to next else 0)
