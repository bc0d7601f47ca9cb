use Rattle.std.proofs.Common.{◌∙◌}
use Rattle.rl_keeper.proofs.RecordsLemmas.{text_of, no_text}
use Rattle.rl_keeper.proofs.record.text_in.Goals as goal

pub returns-in_ok-of-in-Ok : goal.returns-in_ok-of-in-Ok
returns-in_ok-of-in-Ok c = text_of c.args.bytes.now c.in_ok-of-in-Ok.field-0 c.in-Ok.ensures.cases.1 (c.in_ok-of-in-Ok.ensures ∙ c.in-Ok.ensures.cases.0)

pub returns-in-Err : goal.returns-in-Err
returns-in-Err c = no_text c.args.bytes.now c.in-Err.ensures.cases.0
