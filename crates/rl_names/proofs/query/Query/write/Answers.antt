use Rattle.rl_names.proofs.QueryWrittenLemmas.{again}
use Rattle.rl_names.proofs.query.Query.write.Goals as goal

pub returns-clause-again : goal.returns-clause-again
returns-clause-again c = again c.args.self.now c.written.result c.written.ensures.text c.written.ensures.utf8
