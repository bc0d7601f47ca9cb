-- What it costs to spoil rows, and what they have for it.
use Rattle.std.proofs.Common.{◌≡◌, ℕ, ◌+◌, ◌<◌, ◌≤◌, List, [], ◌∷◌, ◌++◌, Bool, true, false, cond, length, take, set, get_or}
use Rattle.std.proofs.Common.{Some, ap, sym, ◌∙◌, arith}
use Rattle.std.specs.Prelude.{sum_by, slice_get}
use Rattle.std.specs.List.{enumerate_from}
use Rattle.std.proofs.lemmas.List.{take_more}
use Rattle.std.proofs.lemmas.List.Sums.{sum_by-set, sum_by_push}
use Rattle.rl_states.specs.Spoiled.{left}
use Rattle.rl_states.proofs.CellsLemmas.{numbered_length, numbered_set, numbered_at}
use Rattle.rl_graph.proofs.MarkingLemmas.{take_take}

weighs : (ℕ → ℕ) → ℕ × Bool → ℕ
weighs f numbered = cond numbered.1 0 (f numbered.0)

pub left_set : (f : ℕ → ℕ) (marks : List Bool) (row : ℕ) → slice_get marks row ≡ Some false → row < length marks →
    left f (set marks row true) + f row ≡ left f marks
unfolding weighs
left_set f marks row e low =
    let start : 0 + row ≡ row = omega arith in
    let written : enumerate_from 0 (set marks row true) ≡ set (enumerate_from 0 marks) row (row, true) = numbered_set 0 marks row true
    ∙ ap (λ (k : ℕ). set (enumerate_from 0 marks) row (k, true)) start in
    let inside : row < length (enumerate_from 0 marks) = omega (arith, numbered_length 0 marks, low) in
    let read : get_or (enumerate_from 0 marks) row (row, false) ≡ (row, false) = numbered_at 0 marks row false (row, false) e
    ∙ ap (λ (k : ℕ). let p : ℕ × Bool = (k, false) in p) start in
    let was : ◌≡◌ {A = ℕ} (weighs f (get_or (enumerate_from 0 marks) row (row, false))) (f row) = ap (weighs f) read in
    let counted : left f (set marks row true) ≡ sum_by (weighs f) (set (enumerate_from 0 marks) row (row, true)) = ap (sum_by (weighs f)) written in
    omega (arith, counted, was, sum_by-set (weighs f) (enumerate_from 0 marks) row (row, true) (row, false) inside)

pub kept_mark : (f : ℕ → ℕ) (marks : List Bool) (rows : List ℕ) (row : ℕ) → slice_get marks row ≡ Some false → row < length marks →
    sum_by f (rows ++ row ∷ []) + left f (set marks row true) ≡ sum_by f rows + left f marks
kept_mark f marks rows row e low = omega (arith, sum_by_push f rows row, left_set f marks row e low)

-- one row more was expanded
pub expanded : (f : ℕ → ℕ) (rows rows' : List ℕ) (at row : ℕ) → at < length rows → row ≡ get_or rows at 0 →
    take (length rows) rows' ≡ rows → length rows ≤ length rows' → sum_by f (take (at + 1) rows') ≡ sum_by f (take at rows) + f row
expanded f rows rows' at row low is front grows =
    let shorter : (n : ℕ) → n ≤ length rows → take n rows' ≡ take n rows = λ n le. sym (take_take n (length rows) rows' le) ∙ ap (take n) front in
    let more : sum_by f (take (at + 1) rows) ≡ sum_by f (take at rows) + f (get_or rows at 0) = ap (sum_by f) (take_more rows at 0 low)
    ∙ sum_by_push f (take at rows) (get_or rows at 0) in
    ap (sum_by f) (shorter (at + 1) (omega (arith, low))) ∙ more ∙ ap (λ (k : ℕ). sum_by f (take at rows) + f k) (sym is)

-- what was expanded at the end is the whole list, and what was there at the start is its front
pub expanded_none : (f : ℕ → ℕ) (rows rows' : List ℕ) → take (length rows) rows' ≡ rows → sum_by f (take (length rows) rows') ≡ sum_by f rows
expanded_none f rows rows' front = ap (sum_by f) front
