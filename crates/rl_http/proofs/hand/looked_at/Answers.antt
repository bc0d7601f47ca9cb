use Rattle.std.proofs.Common.{sym, arith}
use Rattle.std.proofs.lemmas.List.{length-take-le}
use Rattle.rl_http.proofs.HandLemmas.{take_all}
use Rattle.rl_http.proofs.hand.looked_at.Goals as goal

pub slice_bounds-result-end : goal.slice_bounds-result-end
slice_bounds-result-end c = sym (length-take-le 16384 c.args.input.now (omega arith))

pub returns-then-input-le-MAX_HEAD-clause-looked : goal.returns-then-input-le-MAX_HEAD-clause-looked
returns-then-input-le-MAX_HEAD-clause-looked c = sym (take_all 16384 c.args.input.now (omega arith))

pub returns-else-input-le-MAX_HEAD-clause-most : goal.returns-else-input-le-MAX_HEAD-clause-most
returns-else-input-le-MAX_HEAD-clause-most c = omega (arith, length-take-le 16384 c.args.input.now (omega arith))
