use Rattle.std.proofs.Common.{ap, rules}
use Rattle.rl_names.specs.Key.{NoVersion, BadVersion, BadName, key_fault_told}
use Rattle.rl_script.proofs.line.key_in.Goals as goal

pub returns-in-Err-NoVersion : goal.returns-in-Err-NoVersion
returns-in-Err-NoVersion c = let refused = c.in-Err-NoVersion.ensures.answer NoVersion (ap key_fault_told c.in-Err-NoVersion.field-0-is) in
    search (rules, refused)

pub returns-in-Err-BadVersion : goal.returns-in-Err-BadVersion
returns-in-Err-BadVersion c = let refused = c.in-Err-BadVersion.ensures.answer BadVersion (ap key_fault_told c.in-Err-BadVersion.field-0-is) in
    search (rules, refused)

pub returns-in-Err-BadName : goal.returns-in-Err-BadName
returns-in-Err-BadName c = let refused = c.in-Err-BadName.ensures.answer BadName (ap key_fault_told c.in-Err-BadName.field-0-is) in search (rules, refused)
