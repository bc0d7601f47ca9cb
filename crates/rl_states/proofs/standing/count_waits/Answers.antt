use Rattle.std.proofs.Common.{◌≡◌, ◌||◌, ℕ, List, not, nat_eq, length, ◌∙◌, ap, arith}
use Rattle.std.specs.Prelude.{count_by}
use Rattle.rl_states.specs.declared.standing.Standing.{Standing}
use Rattle.rl_states.specs.Standings.{for_rows, is_done_in}
use Rattle.rl_states.proofs.StandingsLemmas.{counting, counting_none, counting_all, count_step, counted, length_rows}
use Rattle.rl_states.proofs.standing.count_waits.Goals as goal

pub loop-row-init : goal.loop-row-init
loop-row-init c = c.requires ∙ counting_none c.args.registry.now

pub bounds-standings-row : goal.bounds-standings-row
bounds-standings-row c = omega (arith, ap length c.loop-row.invariant, length_rows c.args.registry.now (counting c.args.registry.now c.loop-row.row))

pub loop-row-preserved : goal.loop-row-preserved
loop-row-preserved c =
    count_step c.args.registry.now c.loop-row.row c.loop-row.standings c.count_undone-waits.result _ c.loop-row.invariant (omega arith)
    (c.count_undone-waits.ensures
    ∙ ap (λ (ss : List Standing). count_by (λ other. not (nat_eq other c.loop-row.row || is_done_in ss other)) c.needs.result.now) c.loop-row.invariant
    ∙ ap (λ (xs : List ℕ). count_by (λ other. not (nat_eq other c.loop-row.row || is_done_in
    (for_rows c.args.registry.now (counting c.args.registry.now c.loop-row.row)) other)) xs) c.needs.ensures.value
    ∙ counted c.args.registry.now c.loop-row.row c.loop-row.row)

pub returns : goal.returns
returns c =
    let all : c.loop-row.row ≡ length c.args.registry.now.rows = omega arith in
    c.loop-row.invariant ∙ ap (λ (n : ℕ). for_rows c.args.registry.now (counting c.args.registry.now n)) all ∙ counting_all c.args.registry.now
