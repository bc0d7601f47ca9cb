use Rattle.rl_book_spec.proofs.AskedForLemmas.{settled_answered, touched_asked}
use Rattle.rl_book_spec.proofs.SomewhereLemmas.{all_somewhere}
use Rattle.rl_book_spec.proofs.Worked.{short_settles}
use Rattle.rl_book_spec.proofs.settling_laws.Goals as goal

pub returns : goal.returns
returns c = record { somewhere = all_somewhere; asked = touched_asked; settled = settled_answered; short = short_settles }
