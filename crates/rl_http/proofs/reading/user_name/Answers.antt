use Rattle.std.proofs.Common.{refl, ap}
use Rattle.rl_http.specs.Heads.{name_or_refusal}
use Rattle.rl_http.proofs.reading.user_name.Goals as goal

pub returns-in-Err-BadUserName-clause-says : goal.returns-in-Err-BadUserName-clause-says
returns-in-Err-BadUserName-clause-says c = ap name_or_refusal (c.in-Err-BadUserName.ensures tt (rw c.in-Err-BadUserName.field-0-is refl))
