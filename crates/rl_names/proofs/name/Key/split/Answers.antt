use Rattle.std.proofs.Common.{refl}
use Rattle.rl_names.proofs.KeyLemmas.{key_texts, refused}
use Rattle.rl_names.proofs.name.Key.split.Goals as goal

pub returns-in_default-clause-texts : goal.returns-in_default-clause-texts
returns-in_default-clause-texts c = key_texts

pub returns-in_default-read-clause-texts : goal.returns-in_default-read-clause-texts
returns-in_default-read-clause-texts c = key_texts

pub returns-in_err-name-clause-answer : goal.returns-in_err-name-clause-answer
returns-in_err-name-clause-answer c =
    let parts = c.in-Some.ensures.found in
    refused c.args.bytes.now c.in-Some.name.now c.in-Some.version.now c.in_err-name.field-0.0 c.from_residual.result c.from_residual.ensures.1
    c.in_err-name.ensures.answer parts.0 parts.1 parts.2 (c.in-Some-read.ensures.found.0 refl)

pub returns-in_err-name-clause-texts : goal.returns-in_err-name-clause-texts
returns-in_err-name-clause-texts c = key_texts

pub returns-clause-texts : goal.returns-clause-texts
returns-clause-texts c = key_texts
