use Rattle.rl_book_spec.proofs.BatchesLemmas.{batches_filled, batches_hold_rows}
use Rattle.rl_book_spec.proofs.FitsLemmas.{queries_fit}
use Rattle.rl_book_spec.proofs.batch_laws.Goals as goal

pub returns : goal.returns
returns c = record { rows = batches_hold_rows; filled = batches_filled; fit = queries_fit }
