-- Ranks of the numbers of a graph, by lists of what each number leads to.
use Rattle.std.specs.Prelude.{◌≡◌, ◌+◌, ◌-◌, ◌≤◌, ◌==◌, ◌&&◌, ℕ, List, Bool, false, if◌then◌else◌, Contains, count_by}
use Rattle.std.specs.Prelude.{length, nat_lt, slice_index, take}
use Rattle.std.specs.List.{list_all}
use Rattle.rl_graph.specs.Graph.{next_in}
use Rattle.rl_graph.specs.Reversed.{times}

-- all that a number leads to has a lower rank
abbrev pub falls_at : List (List ℕ) → List ℕ → ℕ → Bool
falls_at lists ranks from = list_all (λ to. nat_lt (slice_index ranks to) (slice_index ranks from)) (next_in lists from)

-- Where the ranks do not fall, a number leads to one where they do not fall either, and so on: it leads to a cycle.
abbrev pub FallButForCycles : List (List ℕ) → List ℕ → Type 0
FallButForCycles lists ranks = (from : ℕ) → falls_at lists ranks from ≡ false →
    (to : ℕ) × Contains (next_in lists from) to × (falls_at lists ranks to ≡ false)

-- One fewer is left for each of these numbers, and those for which none is left are added to the ranked ones.
pub record Releases (numbers left left' ranked ranked' : List ℕ) : Type 0 where
  pub long : length left' ≡ length left
  pub fewer : (number : ℕ) → slice_index left' number ≡ slice_index left number - times number numbers
  pub grows : length ranked ≤ length ranked'
  pub front : take (length ranked) ranked' ≡ ranked
  pub adds : (number : ℕ) → times number ranked' ≡ times number ranked +
      (if nat_lt 0 (times number numbers) && slice_index left' number == 0 then 1 else 0)
  pub total : length ranked' + count_by (λ n. n == 0) left ≡ length ranked + count_by (λ n. n == 0) left'
