use Rattle.std.proofs.Common.{◌∙◌, ℕ, Vec, Global, ap}
use Rattle.rl_steps.specs.Spelling.{values_of}
use Rattle.rl_steps.proofs.SpellingLemmas.{read_as}
use Rattle.rl_steps.proofs.WrittenLemmas.{in_array}
use Rattle.rl_steps.proofs.write.write_step.Goals as goal

pub returns-clause-text : goal.returns-clause-text
returns-clause-text c =
    let written = in_array (values_of c.args.step.now) _ _ _ _ c.from_string.result _ _ _ _
    (c.new-json.ensures.before ∙ c.new.ensures.items) c.in_ok-begin_array.ensures.room.0 c.in_ok-write_values.ensures.adds.0
    c.in_ok-end_array.ensures.room.0 c.new-json.ensures.tokens c.in_ok-begin_array.ensures.ok c.in_ok-write_values.ensures.adds.1
    c.in_ok-end_array.ensures.ok (c.from_string.ensures ∙ ap (λ (v : Vec ℕ Global). v.items) c.from_utf8_unchecked-text.ensures.value
    ∙ c.into_inner.ensures.items)
    c.into_inner.ensures.utf8 in
    written.0

pub returns-clause-again : goal.returns-clause-again
returns-clause-again c = λ plan spelt.
    let written = in_array (values_of c.args.step.now) _ _ _ _ c.from_string.result _ _ _ _
    (c.new-json.ensures.before ∙ c.new.ensures.items) c.in_ok-begin_array.ensures.room.0 c.in_ok-write_values.ensures.adds.0
    c.in_ok-end_array.ensures.room.0 c.new-json.ensures.tokens c.in_ok-begin_array.ensures.ok c.in_ok-write_values.ensures.adds.1
    c.in_ok-end_array.ensures.ok (c.from_string.ensures ∙ ap (λ (v : Vec ℕ Global). v.items) c.from_utf8_unchecked-text.ensures.value
    ∙ c.into_inner.ensures.items)
    c.into_inner.ensures.utf8 in
    read_as c.args.step.now c.from_string.result plan spelt c.in_ok-write_values.ensures.sized written.0 written.1
