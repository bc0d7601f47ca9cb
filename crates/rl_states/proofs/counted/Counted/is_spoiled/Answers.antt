use Rattle.std.proofs.Common.{◌≡◌, ℕ, List, false, Option, None, Some, length, map, sym, ◌∙◌, ap, ⊎_elim, arith}
use Rattle.std.specs.Prelude.{slice_get}
use Rattle.std.proofs.lemmas.Bool.{cases_lt}
use Rattle.std.proofs.lemmas.List.{get_or_past, length-map}
use Rattle.rl_view_spec.proofs.ToolsLemmas.{place_there}
use Rattle.rl_graph.specs.Graph.{marked}
use Rattle.rl_states.specs.declared.cell.Cell.{Cell}
use Rattle.rl_states.specs.declared.cell.Mark.{Mark}
use Rattle.rl_states.specs.Counted.{Held}
use Rattle.rl_states.specs.Spoiled.{spoiled_in}
use Rattle.rl_states.proofs.CountedLemmas.{spoiled_at}
use Rattle.rl_states.proofs.counted.Counted.is_spoiled.Goals as goal

unmarked : (cells : List Cell) (row : ℕ) → ◌≡◌ {A = Option Cell} None (slice_get cells row) →
    false ≡ marked (spoiled_in (map (λ (cell : Cell). cell.mark) cells)) row
unmarked cells row e = ⊎_elim
    (λ low. let m = place_there cells row low in let f : ◌≡◌ {A = Option Cell} None (Some m.0) = e ∙ m.1 in absurd (no m.0 f))
    (λ ge. sym (get_or_past (spoiled_in (map (λ (cell : Cell). cell.mark) cells)) row false
    (omega (
      arith,
      ge,
      length-map cells (λ (cell : Cell). cell.mark),
      length-map (map (λ (cell : Cell). cell.mark) cells) (λ (m : Mark). m.spoiled),
    ))))
    (cases_lt row (length cells))
  where
    no : (m : Cell) → ◌≡◌ {A = Option Cell} None (Some m) → ⊥
    no m f = cc

pub returns-in-None : goal.returns-in-None
returns-in-None c =
    unmarked c.self.inside.cells.items c.args.row
    (c.in-None.ensures ∙ ap (λ (cells : List Cell). slice_get cells c.args.row) c.as_slice.ensures.value) ∙ ap (λ (held : Held). marked
    (spoiled_in held.marks) c.args.row) c.self.view_is

pub returns-in-Some : goal.returns-in-Some
returns-in-Some c =
    sym (spoiled_at c.self.inside.cells.items c.args.row c.in-Some.cell
    (sym (c.in-Some.ensures ∙ ap (λ (cells : List Cell). slice_get cells c.args.row) c.as_slice.ensures.value)))
    ∙ ap (λ (held : Held). marked (spoiled_in held.marks) c.args.row) c.self.view_is
