use Rattle.rl_drive.proofs.RefusingLemmas.{Refusing}
use Rattle.rl_drive.proofs.player.Player.refuse_all.Given as goal

abbrev pub invariant-loop-row : goal.invariant-loop-row
invariant-loop-row l = Refusing l.rows l.row-index l.fn.self l.self
