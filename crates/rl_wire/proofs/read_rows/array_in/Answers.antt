use Rattle.rl_wire.proofs.JsonReadLemmas.{array_values}
use Rattle.rl_wire.proofs.read_rows.array_in.Goals as goal

pub returns-in-Array : goal.returns-in-Array
returns-in-Array c = array_values c.args.value c.in-Array.values c.in-Array.is
