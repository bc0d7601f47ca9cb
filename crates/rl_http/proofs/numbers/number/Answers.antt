use Rattle.std.proofs.Common.{rules}
use Rattle.rl_http.proofs.DigitsLemmas.{digits_pass}
use Rattle.rl_http.proofs.numbers.number.Goals as goal

pub returns-in_default : goal.returns-in_default
returns-in_default c = digits_pass c.args.most c.digits.number c.digits.digit-index c.args.value.now (search rules) c.digits.invariant.rest (search rules)

pub returns-in_default-checked_add : goal.returns-in_default-checked_add
returns-in_default-checked_add c =
    digits_pass c.args.most c.digits.number c.digits.digit-index c.args.value.now (search rules) c.digits.invariant.rest (search rules)

pub returns-then-more-most : goal.returns-then-more-most
returns-then-more-most c = digits_pass c.args.most c.digits.number c.digits.digit-index c.args.value.now (search rules) c.digits.invariant.rest (search rules)
