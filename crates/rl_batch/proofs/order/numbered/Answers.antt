use Rattle.std.proofs.Common.{◌++◌, ◌∷◌, [], ℕ, List, Option, map, take, get_or, sym, ap, ◌∙◌}
use Rattle.std.specs.Prelude.{option_map, slice_get}
use Rattle.std.specs.List.{cons_option}
use Rattle.std.proofs.lemmas.List.{map-append, take_more}
use Rattle.rl_names.specs.declared.row.Row.{Row}
use Rattle.rl_book_spec.specs.Batches.{Numbered}
use Rattle.rl_batch.specs.Given.{numbered_rows}
use Rattle.rl_batch.specs.Split.{seen}
use Rattle.rl_batch.proofs.CutsLemmas.{filter_map_push}
use Rattle.rl_batch.proofs.order.numbered.Goals as goal

pub rows-preserved : goal.rows-preserved
rows-preserved c =
    let r = c.args.registry.now in
    let rows = c.args.rows.now in
    let row = get_or rows c.rows.row-index 0 in
    ap (map seen) c.in_ok-push.ensures.items
    ∙ map-append seen c.rows.numbered.items ((row, c.row_at.result) ∷ [])
    ∙ ap (λ (xs : List Numbered). xs ++ (row, c.row_at.result.now) ∷ []) c.rows.invariant
    ∙ ap (λ (o : Option Row). numbered_rows r (take c.rows.row-index rows) ++ cons_option (option_map (λ (found : Row). (row, found)) o) [])
    (sym c.row_at.ensures)
    ∙ sym (ap (numbered_rows r) (take_more rows c.rows.row-index 0 c.rows-test.true)
    ∙ filter_map_push (λ (row : ℕ). option_map (λ (found : Row). (row, found)) (slice_get r.rows row)) (take c.rows.row-index rows) row)
