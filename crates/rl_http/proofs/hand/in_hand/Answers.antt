use Rattle.std.proofs.Common.{ap, ◌∙◌, Ok}
use Rattle.rl_http.proofs.HandLemmas.{begins_looked}
use Rattle.rl_http.proofs.hand.in_hand.Goals as goal

pub with_body-requires-clause-begins : goal.with_body-requires-clause-begins
with_body-requires-clause-begins c =
    begins_looked c.looked_at.result.now c.args.input.now _ _ c.looked_at.ensures.looked (rw c.in-Whole.is at c.in_ok-used.ensures.reads)
