use Rattle.rl_names.proofs.KeyLemmas.{written_again}
use Rattle.rl_names.proofs.name.Key.write.Goals as goal

pub returns-clause-again : goal.returns-clause-again
returns-clause-again c =
    written_again c.args.self.now c.joined.result c.text.ensures.name c.as_str.ensures.version
    (rw (c.text.ensures.value, c.as_str.ensures.value) at c.joined.ensures)
