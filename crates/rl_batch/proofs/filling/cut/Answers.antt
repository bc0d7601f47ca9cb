use Rattle.std.proofs.Common.{sym, ◌∙◌, lit<, Some, None, eq-eqb, ne_eqb}
use Rattle.std.proofs.lemmas.Str.Pattern.{rfind_char}
use Rattle.rl_names.proofs.CutLemmas.{cut_at, cut_nowhere, none_from_places}
use Rattle.rl_names.specs.Packing.{is_dot}
use Rattle.rl_batch.proofs.filling.cut.Goals as goal

pub returns-in-Some-clause-front : goal.returns-in-Some-clause-front
returns-in-Some-clause-front c =
    let found = rfind_char 46 c.args.name.now (Some c.in-Some.at) c.in-Some.ensures.cases (lit< tt) in
    c.split_at.ensures.front ∙ sym (cut_at is_dot c.args.name.now c.in-Some.at found.0 (eq-eqb _ 46 found.1)
    (λ i later within. ne_eqb _ 46 (found.2 i later within))).0

pub returns-in-Some-clause-suffix : goal.returns-in-Some-clause-suffix
returns-in-Some-clause-suffix c =
    let found = rfind_char 46 c.args.name.now (Some c.in-Some.at) c.in-Some.ensures.cases (lit< tt) in
    c.split_at.ensures.back ∙ sym (cut_at is_dot c.args.name.now c.in-Some.at found.0 (eq-eqb _ 46 found.1)
    (λ i later within. ne_eqb _ 46 (found.2 i later within))).1

pub returns-in-None-clause-front : goal.returns-in-None-clause-front
returns-in-None-clause-front c =
    sym (cut_nowhere is_dot c.args.name.now (none_from_places is_dot c.args.name.now
    (λ i within. ne_eqb _ 46 (rfind_char 46 c.args.name.now None c.in-None.ensures.cases (lit< tt) i within)))).0

pub returns-in-None-clause-suffix : goal.returns-in-None-clause-suffix
returns-in-None-clause-suffix c =
    sym (cut_nowhere is_dot c.args.name.now (none_from_places is_dot c.args.name.now
    (λ i within. ne_eqb _ 46 (rfind_char 46 c.args.name.now None c.in-None.ensures.cases (lit< tt) i within)))).1
