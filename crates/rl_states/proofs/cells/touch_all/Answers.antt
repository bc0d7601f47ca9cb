use Rattle.std.proofs.Common.{◌≡◌, true, List, length, set, get_or, take, sym, ◌∙◌, ap, arith}
use Rattle.std.proofs.lemmas.Option.{get_or_from_slice_get}
use Rattle.rl_states.specs.declared.standing.Standing.{Standing}
use Rattle.rl_states.specs.Cells.{Seen}
use Rattle.rl_states.specs.Standings.{by_place, touch_at}
use Rattle.rl_states.proofs.StandingsLemmas.{touch_none, touch_step, all_rows, length_places}
use Rattle.rl_states.proofs.cells.touch_all.Goals as goal

-- with these standings
abbrev with : Seen → List Standing → Seen
with seen standings = record seen { standings = standings }

pub loop-row-init : goal.loop-row-init
loop-row-init g c = record { value = ap (with c.args.cells.now) (touch_none c.args.cells.now.standings); cost = omega arith }

pub at-old-requires : goal.at-old-requires
at-old-requires g c =
    omega (
      arith,
      c.requires c.loop-row.row-index 0 c.loop-row-test.true,
      ap (λ (s : Seen). length s.standings) c.loop-row.invariant.value,
      length_places (touch_at (take c.loop-row.row-index c.args.rows.now)) c.args.cells.now.standings,
    )

pub loop-row-preserved : goal.loop-row-preserved
loop-row-preserved g c =
    let row = get_or c.args.rows.now c.loop-row.row-index 0 in
    let before : List Standing = c.loop-row.cells.standings in
    let is : before ≡ by_place (touch_at (take c.loop-row.row-index c.args.rows.now)) c.args.cells.now.standings =
    ap (λ (s : Seen). s.standings) c.loop-row.invariant.value in
    record {
      value =
          c.set.ensures.value
          ∙ ap (λ (s : Seen). with s (set before row (record c.at-old.result { touched = true }))) c.loop-row.invariant.value
          ∙ ap (λ (s : Standing). with c.args.cells.now (set before row (record s { touched = true })))
          (sym (get_or_from_slice_get before row c.at-old.result c.at-old.result c.at-old.ensures.value))
          ∙ ap (with c.args.cells.now)
          (touch_step c.args.rows.now c.loop-row.row-index c.args.cells.now.standings before c.at-old.result is c.loop-row-test.true
          (c.requires c.loop-row.row-index 0 c.loop-row-test.true));
      cost = omega (arith, c.loop-row.invariant.cost, c.at-old.ensures.cost, c.set.ensures.cost);
    }

pub returns-clause-value : goal.returns-clause-value
returns-clause-value g c =
    c.loop-row.invariant.value
    ∙ ap (with c.args.cells.now) (sym (ap (λ (s : Seen). s.standings) c.loop-row.invariant.value)
    ∙ all_rows touch_at c.args.rows.now c.loop-row.row-index c.args.cells.now.standings c.loop-row.cells.standings
    (ap (λ (s : Seen). s.standings) c.loop-row.invariant.value) c.loop-row-test.false)
