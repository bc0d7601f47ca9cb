use Rattle.std.proofs.Common.{◌<◌, ◌∙◌, length, sym, ap, arith}
use Rattle.std.specs.Prelude.{slice_get}
use Rattle.std.specs.List.{filter_map}
use Rattle.rl_view_spec.specs.Breach.{bad_index}
use Rattle.rl_rows.proofs.RowsReadLemmas.{passed, stopped}
use Rattle.rl_rows.proofs.rows.first_bad_index.Goals as goal

pub returns-in-Some : goal.returns-in-Some
returns-in-Some c =
    let low : c.loop-at.at < length c.args.rows.now = omega arith in
    sym (ap (λ ns. slice_get ns 0) (sym c.loop-at.invariant)
    ∙ stopped (length c.args.rows.now) c.loop-at.at c.args.rows.now c.index-rows-at.result c.in-Some.index low c.index-rows-at.is
    (ap (λ ds. slice_get (filter_map (bad_index (length c.args.rows.now)) ds) 0) (sym c.as_slice.ensures) ∙ sym c.in-Some.ensures))

pub loop-at-preserved : goal.loop-at-preserved
loop-at-preserved c =
    let low : c.loop-at.at < length c.args.rows.now = omega arith in
    sym (passed (length c.args.rows.now) c.loop-at.at c.args.rows.now c.index-rows-at.result low c.index-rows-at.is
    (ap (λ ds. slice_get (filter_map (bad_index (length c.args.rows.now)) ds) 0) (sym c.as_slice.ensures) ∙ sym c.in_default.ensures))
    ∙ c.loop-at.invariant
