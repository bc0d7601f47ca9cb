use Rattle.std.proofs.Common.{◌*◌, ◌∙◌, ap, arith}
use Rattle.std.specs.Prelude.{position}
use Rattle.std.proofs.lemmas.Option.{get_or_from_slice_get}
use Rattle.rl_states.specs.Cells.{Seen}
use Rattle.rl_states.specs.Standings.{may_run}
use Rattle.rl_states.proofs.CellsLemmas.{none_more, none_is}
use Rattle.rl_states.proofs.cells.Cells.first.Goals as goal

pub loop-block-preserved : goal.loop-block-preserved
loop-block-preserved g c =
    let counts = c.self.inside.held.runnable in
    let block = c.loop-block.block in record {
      before = none_more c.self.inside.held.standings block c.loop-block.invariant.before
          (omega (
            arith,
            c.self.invariant.each block (omega (arith, c.loop-block-test.true, c.blocks-block-end.ensures)),
            get_or_from_slice_get counts block
                c.runnable.result 0 c.runnable.ensures.value,
            c.if-runnable-gt0.false,
          ));
      cost = omega (arith, c.runnable.ensures.cost, c.loop-block.invariant.cost);
    }

pub first_in-requires-clause-some : goal.first_in-requires-clause-some
first_in-requires-clause-some g c =
    let counts = c.self.inside.held.runnable in
    let block = c.loop-block.block in
    omega (
      arith,
      c.self.invariant.each block (omega (arith, c.loop-block-test.true, c.blocks-block-end.ensures)),
      get_or_from_slice_get counts block c.runnable.result
          0 c.runnable.ensures.value,
      c.if-runnable-gt0.true,
    )

pub returns-clause-value : goal.returns-clause-value
returns-clause-value g c =
    none_is c.self.inside.held.standings (64 * c.loop-block.block) c.loop-block.invariant.before
    (omega (arith, c.self.invariant.long, c.loop-block-test.false, c.blocks-block-end.ensures))
    ∙ ap (λ (s : Seen). position may_run s.standings) c.self.view_is
