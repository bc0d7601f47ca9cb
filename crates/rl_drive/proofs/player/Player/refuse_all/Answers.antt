use Rattle.std.proofs.Common.{get_or, refl}
use Rattle.rl_drive.proofs.RefusingLemmas.{refusing_all, refusing_begin, refusing_next}
use Rattle.rl_drive.proofs.player.Player.refuse_all.Goals as goal

pub loop-row-init : goal.loop-row-init
loop-row-init c = refusing_begin c.args.rows.now c.args.self.now

pub loop-row-preserved : goal.loop-row-preserved
loop-row-preserved c =
    refusing_next c.args.rows.now c.loop-row.row-index (get_or c.args.rows.now c.loop-row.row-index 0) 0 c.args.self.now c.loop-row.self c.refuse.new.self
    c.loop-row-test.true refl c.loop-row.invariant c.refuse.ensures

pub returns : goal.returns
returns c = refusing_all c.args.rows.now c.loop-row.row-index c.args.self.now c.loop-row.self c.loop-row-test.false c.loop-row.invariant
