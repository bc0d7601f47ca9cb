use Rattle.std.proofs.Common.{◌≡◌, None, ap, sym, ◌∙◌}
use Rattle.std.specs.Prelude.{option_and_then}
use Rattle.rl_names.specs.Name.{name_fault, fault_told}
use Rattle.rl_names.proofs.AsciiLemmas.{name_ascii}
use Rattle.rl_names.proofs.NameLemmas.{names_are_faultless, faultless_name}
use Rattle.rl_names.proofs.name.Name.read.Goals as goal

pub returns-in-Some-clause-faultless : goal.returns-in-Some-clause-faultless
returns-in-Some-clause-faultless c = names_are_faultless

pub ascii_text-requires : goal.ascii_text-requires
ascii_text-requires c =
    let faultless : name_fault c.args.bytes.now ≡ None = sym c.fault_of.ensures.fault ∙ ap (option_and_then fault_told) c.in_default.is in
    name_ascii c.args.bytes.now (faultless_name c.args.bytes.now faultless)

pub returns-in_err-text-clause-faultless : goal.returns-in_err-text-clause-faultless
returns-in_err-text-clause-faultless c = names_are_faultless

pub invariant_of-result : goal.invariant_of-result
invariant_of-result c =
    let faultless : name_fault c.args.bytes.now ≡ None = sym c.fault_of.ensures.fault ∙ ap (option_and_then fault_told) c.in_default.is in
    let name = faultless_name c.args.bytes.now faultless in
    rw (c.in_ok-text.ensures.ok, c.ascii_text.ensures) name

pub returns-clause-faultless : goal.returns-clause-faultless
returns-clause-faultless c = names_are_faultless
