use Rattle.rl_script.proofs.MembersLemmas.{array_texts}
use Rattle.rl_script.proofs.line.texts_in.Goals as goal

pub returns-in-Array : goal.returns-in-Array
returns-in-Array c = rw (array_texts c.args.value c.in-Array.values c.in-Array.is) c.texts_of.ensures
