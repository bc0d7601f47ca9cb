use Rattle.rl_book_spec.proofs.LaterLemmas.{batches_ask, events_answer, given_stays}
use Rattle.rl_book_spec.proofs.later_laws.Goals as goal

pub returns : goal.returns
returns c = record { given = given_stays; asked = batches_ask; answered = events_answer }
