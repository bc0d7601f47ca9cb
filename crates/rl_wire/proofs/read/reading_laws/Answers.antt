use Rattle.rl_wire.proofs.SaidLemmas.{lines_say_parts}
use Rattle.rl_wire.proofs.LinesLemmas.{answers_say_parts}
use Rattle.rl_wire.proofs.read.reading_laws.Goals as goal

pub returns : goal.returns
returns c = record { lines = lines_say_parts; answers = answers_say_parts }
