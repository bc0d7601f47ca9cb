use Rattle.rl_compact.proofs.MarkedLemmas.{marks_say_brought}
use Rattle.rl_compact.proofs.RefusedLemmas.{left_is_unmarked}
use Rattle.rl_compact.proofs.brought.brought_laws.Goals as goal

pub returns-clause-brought : goal.returns-clause-brought
returns-clause-brought c = marks_say_brought

pub returns-clause-left : goal.returns-clause-left
returns-clause-left c = left_is_unmarked
