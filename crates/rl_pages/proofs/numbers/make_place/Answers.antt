use Rattle.std.proofs.Common.{arith}
use Rattle.std.proofs.lemmas.Map.Text.{text_keys}
use Rattle.rl_pages.proofs.numbers.make_place.Goals as goal

pub returns-clause-same : goal.returns-clause-same
returns-clause-same c = λ q. grind (arith, text_keys)

pub returns-clause-kept : goal.returns-clause-kept
returns-clause-kept c = λ q h. grind (arith, text_keys, h)
