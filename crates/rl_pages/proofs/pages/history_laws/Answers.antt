use Rattle.rl_pages.proofs.HistoryLemmas.{history_laws}
use Rattle.rl_pages.proofs.pages.history_laws.Goals as goal

pub returns : goal.returns
returns c = history_laws
