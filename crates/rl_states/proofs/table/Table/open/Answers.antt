use Rattle.std.proofs.Common.{◌∙◌, List, Bool, false, length, replicate, sym, subst, ap, arith}
use Rattle.rl_view_spec.specs.Progress.{Progress}
use Rattle.rl_states.specs.declared.standing.Standing.{Standing}
use Rattle.rl_states.specs.Changes.{fresh_progress}
use Rattle.rl_states.specs.Credit.{credit}
use Rattle.rl_states.specs.Kept.{IsTable}
use Rattle.rl_states.proofs.CreditLemmas.{credit_fresh}
use Rattle.rl_states.specs.Standings.{for_rows, fresh}
use Rattle.rl_states.proofs.ChangesLemmas.{kept_fresh, fresh_view}
use Rattle.rl_states.proofs.table.Table.open.Goals as goal

pub invariant_of-result : goal.invariant_of-result
invariant_of-result c =
    let k : IsTable (fresh_progress c.args.registry) (for_rows c.args.registry (fresh c.args.registry)) c.in_ok-cells.cells.users
    (replicate (length c.args.registry.rows) false) =
    kept_fresh c.args.registry c.in_ok-cells.cells.users c.count-count.ensures.few c.count-count.ensures.distinct c.in_ok-cells.ensures.users in
    record {
      table = subst (λ (p : Progress). IsTable p c.in_ok-cells.cells.standings c.in_ok-cells.cells.users c.in_ok-cells.cells.spoiled)
          (sym (fresh_view c.args.registry c.in_ok-cells.cells.standings c.in_ok-log.log.items c.in_ok-threw.threw.items c.in_ok-cells.ensures.standings
          c.in_ok-log.ensures.items c.in_ok-threw.ensures.items k.cells))
          (subst (λ (ss : List Standing). IsTable (fresh_progress c.args.registry) ss c.in_ok-cells.cells.users c.in_ok-cells.cells.spoiled)
          (sym c.in_ok-cells.ensures.standings)
          (subst (λ (ms : List Bool). IsTable (fresh_progress c.args.registry) (for_rows c.args.registry (fresh c.args.registry)) c.in_ok-cells.cells.users ms)
          (sym c.in_ok-cells.ensures.spoiled) k));
      paired = ap length c.in_ok-threw.ensures.items ∙ sym (ap length c.in_ok-log.ensures.items);
      room = omega (arith, c.count-count.ensures.value, c.in_ok-log.ensures.exact);
      room_beside = omega (arith, c.count-count.ensures.value, c.in_ok-threw.ensures.exact);
    }

pub returns-clause-value : goal.returns-clause-value
returns-clause-value c =
    let k : IsTable (fresh_progress c.args.registry) (for_rows c.args.registry (fresh c.args.registry)) c.in_ok-cells.cells.users
    (replicate (length c.args.registry.rows) false) =
    kept_fresh c.args.registry c.in_ok-cells.cells.users c.count-count.ensures.few c.count-count.ensures.distinct c.in_ok-cells.ensures.users in
    fresh_view c.args.registry c.in_ok-cells.cells.standings c.in_ok-log.log.items c.in_ok-threw.threw.items
    c.in_ok-cells.ensures.standings c.in_ok-log.ensures.items
    c.in_ok-threw.ensures.items k.cells

pub returns-clause-credit : goal.returns-clause-credit
returns-clause-credit c =
    let k : IsTable (fresh_progress c.args.registry) (for_rows c.args.registry (fresh c.args.registry)) c.in_ok-cells.cells.users
    (replicate (length c.args.registry.rows) false) =
    kept_fresh c.args.registry c.in_ok-cells.cells.users c.count-count.ensures.few c.count-count.ensures.distinct c.in_ok-cells.ensures.users in
    ap credit
    (fresh_view c.args.registry c.in_ok-cells.cells.standings c.in_ok-log.log.items c.in_ok-threw.threw.items
    c.in_ok-cells.ensures.standings c.in_ok-log.ensures.items
    c.in_ok-threw.ensures.items k.cells)
    ∙ credit_fresh c.args.registry c.in_ok-cells.cells.users c.count-count.ensures.distinct k.spoiled
