-- Rows that cannot become ready, how they are noted, and what it costs.
use Rattle.std.specs.Prelude.{◌≡◌, ℕ, ◌+◌, ◌*◌, List, [], ◌∷◌, Bool, true, Option, Some, None, if◌then◌else◌, fold, length, map}
use Rattle.std.specs.Prelude.{slice_get, slice_set, sum_by}
use Rattle.std.specs.List.{enumerate_from}
use Rattle.rl_graph.specs.Graph.{marked, next_in}
use Rattle.rl_states.specs.declared.cell.Mark.{Mark}

-- which rows are spoiled
abbrev pub spoiled_in : List Mark → List Bool
spoiled_in marks = map (λ mark. mark.spoiled) marks

-- A row is noted, unless it was before, and is then the first whose failure is to be passed on: its mark leads to the next.
abbrev pub pushed : List Mark × Option ℕ → ℕ → List Mark × Option ℕ
pushed (marks, head) row = if marked (spoiled_in marks) row then (marks, head) else (slice_set marks row (record { spoiled = true; next = head }), Some row)

abbrev pub all_pushed : List Mark × Option ℕ → List ℕ → List Mark × Option ℕ
all_pushed state rows = fold pushed state rows

-- these are the rows whose failure is to be passed on: the first is given, and the mark of each leads to the next
abbrev pub AreLinked : List Mark → Option ℕ → List ℕ → Type 0
AreLinked marks head [] = head ≡ None
AreLinked marks head (row ∷ rows) = (head ≡ Some row) ×
    ((mark : Mark) × (slice_get marks row ≡ Some mark) × (mark.spoiled ≡ true) × AreLinked marks mark.next rows)

-- what it costs at most to spoil a row: 32, and 3 for each entry that names it
abbrev pub weight : List (List ℕ) → ℕ → ℕ
weight lists row = 32 + 3 * length (next_in lists row)

-- the weights of the rows that are not marked
abbrev pub left : (ℕ → ℕ) → List Bool → ℕ
left f marks = sum_by (λ numbered. if numbered.1 then 0 else f numbered.0) (enumerate_from 0 marks)
