use Rattle.std.proofs.Common.{rules}
use Rattle.rl_wire.proofs.JsonReadLemmas.{not_read, array_read}
use Rattle.rl_wire.proofs.read.list_in.Goals as goal

pub returns-in-Err-2 : goal.returns-in-Err-2
returns-in-Err-2 c = not_read c.args.text.now (c.in-Err.ensures.err (search rules))

pub returns-in-Array : goal.returns-in-Array
returns-in-Array c = array_read c.args.text.now c.in-Ok.value c.in-Array.values c.in-Ok.ensures.ok.0 c.in-Ok.ensures.ok.1 c.in-Array.is
