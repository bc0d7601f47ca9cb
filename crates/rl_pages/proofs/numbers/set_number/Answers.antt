use Rattle.std.proofs.Common.{arith}
use Rattle.std.proofs.lemmas.Map.Text.{text_keys}
use Rattle.rl_pages.proofs.IndexLemmas.{bytes_eq_sym}
use Rattle.rl_pages.proofs.numbers.set_number.Goals as goal

pub returns-in-Some : goal.returns-in-Some
returns-in-Some c = λ q. rw (bytes_eq_sym c.args.title.now q) (grind (arith, text_keys))
