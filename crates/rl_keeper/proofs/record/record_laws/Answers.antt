use Rattle.rl_keeper.proofs.RecordsLemmas.{read_again}
use Rattle.rl_keeper.proofs.record.record_laws.Goals as goal

pub returns : goal.returns
returns c = read_again
