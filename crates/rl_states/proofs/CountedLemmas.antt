-- What is held of rows, as it is read and written in cells.
use Rattle.std.proofs.Common.{◌≡◌, ℕ, List, [], ◌∷◌, Bool, false, Some, length}
use Rattle.std.proofs.Common.{map, set, get_or, replicate, refl, ◌∙◌, ap, ap₂}
use Rattle.std.specs.Prelude.{slice_get, option_map, Vec}
use Rattle.std.specs.declared.alloc.Global.{Global}
use Rattle.std.proofs.lemmas.List.{map-set}
use Rattle.std.proofs.Math.Seq.{map-set_same}
use Rattle.std.proofs.lemmas.Option.{slice_get-map}
use Rattle.rl_graph.specs.Graph.{edge_lists, marked}
use Rattle.rl_states.specs.declared.cell.Cell.{Cell}
use Rattle.rl_states.specs.declared.cell.Mark.{Mark}
use Rattle.rl_states.specs.declared.standing.Standing.{Standing}
use Rattle.rl_states.specs.Counted.{Held, clean, clean_cell, held_in}
use Rattle.rl_states.specs.Spoiled.{spoiled_in}
use Rattle.rl_states.proofs.PassingLemmas.{mark_says}

-- ---- cells of rows to which nothing happened

pub standings_clean : (standings : List Standing) → map (λ (c : Cell). c.standing) (map clean_cell standings) ≡ standings
standings_clean [] = refl
standings_clean (s ∷ standings) = ap (λ (rest : List Standing). s ∷ rest) (standings_clean standings)

pub marks_clean : (standings : List Standing) → map (λ (c : Cell). c.mark) (map clean_cell standings) ≡ map (λ (s : Standing). clean) standings
marks_clean [] = refl
marks_clean (s ∷ standings) = ap (λ (rest : List Mark). clean ∷ rest) (marks_clean standings)

pub spoiled_clean : (standings : List Standing) → spoiled_in (map (λ (s : Standing). clean) standings) ≡ replicate (length standings) false
spoiled_clean [] = refl
spoiled_clean (s ∷ standings) = ap (λ (rest : List Bool). false ∷ rest) (spoiled_clean standings)

-- ---- a cell is read

pub standing_at : (cells : List Cell) (row : ℕ) (cell : Cell) → slice_get cells row ≡ Some cell →
    slice_get (map (λ (c : Cell). c.standing) cells) row ≡ Some cell.standing
standing_at cells row cell e = slice_get-map (λ (c : Cell). c.standing) cells row ∙ ap (option_map (λ (c : Cell). c.standing)) e

pub mark_at : (cells : List Cell) (row : ℕ) (cell : Cell) → slice_get cells row ≡ Some cell →
    slice_get (map (λ (c : Cell). c.mark) cells) row ≡ Some cell.mark
mark_at cells row cell e = slice_get-map (λ (c : Cell). c.mark) cells row ∙ ap (option_map (λ (c : Cell). c.mark)) e

pub spoiled_at : (cells : List Cell) (row : ℕ) (cell : Cell) → slice_get cells row ≡ Some cell →
    marked (spoiled_in (map (λ (c : Cell). c.mark) cells)) row ≡ cell.mark.spoiled
spoiled_at cells row cell e = mark_says (map (λ (c : Cell). c.mark) cells) row cell.mark (mark_at cells row cell e)

-- ---- a cell is written

pub standing_set : (cells : List Cell) (users : List (Vec ℕ Global)) (runnable : List ℕ) (row : ℕ) (old : Cell) (s : Standing) →
    old ≡ get_or cells row old → held_in (set cells row (record { standing = s; mark = old.mark })) users runnable
    ≡ record (held_in cells users runnable) { standings = set (map (λ (c : Cell). c.standing) cells) row s }
standing_set cells users runnable row old s is =
    ap₂ (λ (ss : List Standing) (ms : List Mark). let h : Held = record { standings = ss; marks = ms; users = edge_lists users; runnable = runnable } in h)
    (map-set (λ (c : Cell). c.standing) cells row (record { standing = s; mark = old.mark }))
    (map-set_same (λ (c : Cell). c.mark) cells row (record { standing = s; mark = old.mark }) old (ap (λ (c : Cell). c.mark) is))

pub mark_set : (cells : List Cell) (users : List (Vec ℕ Global)) (runnable : List ℕ) (row : ℕ) (old : Cell) (m : Mark) →
    old ≡ get_or cells row old → held_in (set cells row (record { standing = old.standing; mark = m })) users runnable
    ≡ record (held_in cells users runnable) { marks = set (map (λ (c : Cell). c.mark) cells) row m }
mark_set cells users runnable row old m is =
    ap₂ (λ (ss : List Standing) (ms : List Mark). let h : Held = record { standings = ss; marks = ms; users = edge_lists users; runnable = runnable } in h)
    (map-set_same (λ (c : Cell). c.standing) cells row (record { standing = old.standing; mark = m }) old (ap (λ (c : Cell). c.standing) is))
    (map-set (λ (c : Cell). c.mark) cells row (record { standing = old.standing; mark = m }))
