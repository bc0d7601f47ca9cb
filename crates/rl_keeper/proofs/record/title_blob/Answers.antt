use Rattle.rl_keeper.proofs.RecordsLemmas.{spelt_title}
use Rattle.rl_keeper.proofs.record.title_blob.Goals as goal

pub returns-clause-spelt : goal.returns-clause-spelt
returns-clause-spelt c = λ h. spelt_title c.args.title.now c.as_bytes.ensures.again
