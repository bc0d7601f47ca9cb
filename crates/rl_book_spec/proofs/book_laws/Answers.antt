use Rattle.rl_book_spec.proofs.LawfulLemmas.{books_lawful, requests_touch}
use Rattle.rl_book_spec.proofs.book_laws.Goals as goal

pub returns : goal.returns
returns c = record { lawful = books_lawful; touched = requests_touch }
