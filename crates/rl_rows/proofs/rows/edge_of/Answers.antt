use Rattle.std.proofs.Common.{◌≡◌, ◌<◌, ◌≤◌, [], ℕ, List, None, Some, length, sym, ◌∙◌, ap}
use Rattle.std.specs.Prelude.{option_and_then, option_map, slice_get}
use Rattle.std.specs.Option.{option_map_or}
use Rattle.std.proofs.lemmas.Option.{slice_get_past}
use Rattle.rl_names.specs.declared.row.Row.{Row}
use Rattle.rl_view_spec.specs.Closure.{Registered}
use Rattle.rl_view_spec.specs.Numbers.{number_of, number_of_dep}
use Rattle.rl_rows.specs.Index.{AreDistinct}
use Rattle.rl_rows.proofs.EdgesLemmas.{number_is, row_there}
use Rattle.rl_rows.proofs.rows.edge_of.Goals as goal

-- a row by its number
here : (rows : List Row) (at : ℕ) → AreDistinct rows → at < length rows →
    Some at ≡ option_and_then (number_of (record { rows = rows; features = [] })) (option_map (λ row. row.name) (slice_get rows at))
here rows at distinct low =
    let r : Registered = record { rows = rows; features = [] } in
    let name : option_map_or (λ found. found.name) (slice_get rows at) []
    ≡ _ = ap (λ o. option_map_or (λ found. found.name) o []) (row_there rows at low) in
    sym (ap (λ o. option_and_then (number_of r) (option_map (λ row. row.name) o)) (row_there rows at low) ∙ ap (number_of r) (sym name)
    ∙ number_is r at distinct low)

nowhere : (rows : List Row) (at : ℕ) → length rows ≤ at →
    None ≡ option_and_then (number_of (record { rows = rows; features = [] })) (option_map (λ row. row.name) (slice_get rows at))
nowhere rows at high = sym (ap (λ o. option_and_then (number_of (record { rows = rows; features = [] })) (option_map (λ row. row.name) o))
    (slice_get_past rows at high))

pub returns-in-At-clause-value : goal.returns-in-At-clause-value
returns-in-At-clause-value c =
    here c.args.rows.now c.in-At.at c.requires.distinct c.if-at-rows.true
    ∙ ap (number_of_dep (record { rows = c.args.rows.now; features = [] })) (sym c.in-At.is)

pub returns-in-At-2-clause-value : goal.returns-in-At-2-clause-value
returns-in-At-2-clause-value c =
    nowhere c.args.rows.now c.in-At.at c.if-at-rows.false ∙ ap (number_of_dep (record { rows = c.args.rows.now; features = [] })) (sym c.in-At.is)

pub returns-in-Named-clause-value : goal.returns-in-Named-clause-value
returns-in-Named-clause-value c =
    c.find.ensures.value ∙ ap (number_of (record { rows = c.args.rows.now; features = [] })) c.as_bytes.ensures
    ∙ ap (number_of_dep (record { rows = c.args.rows.now; features = [] })) (sym c.in-Named.is)
