use Rattle.std.proofs.Common.{arith, refl}
use Rattle.std.proofs.lemmas.List.FromFn.{map-range_with_len_more}
use Rattle.rl_states.specs.Standings.{begun}
use Rattle.rl_states.proofs.standing.begin.Goals as goal

pub loop-row-preserved : goal.loop-row-preserved
loop-row-preserved c = rw (
  map-range_with_len_more (begun c.args.registry.now) 0 c.loop-row.row c.loop-row.row (omega arith),
  c.in_ok-push.ensures.items,
  c.loop-row.invariant,
  c.skipped.ensures,
) refl
