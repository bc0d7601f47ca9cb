use Rattle.std.proofs.Common.{ℕ, List, string_bytes, ap, ◌∙◌}
use Rattle.toml.specs.View.{view}
use Rattle.rl_defs.specs.Fields.{is_module_field}
use Rattle.rl_defs.specs.Taken.{module_taken}
use Rattle.rl_defs.proofs.TakenLemmas.{module_turn, module_all, module_stopped}
use Rattle.rl_defs.proofs.draft.ModuleDraft.of.Goals as goal

pub returns-then-not-branch : goal.returns-then-not-branch
returns-then-not-branch c =
    module_stopped (string_bytes c.args.name) c.as_str-then-not-branch.result.now c.as_str-then-not-branch-2.result.now c.args.value c.in-Table.table
    c.in_ok-module.module c.fields.module c.take.new.self c.into_iter-key-iterator.result c.fields.key-iterator c.next.new.self
    (c.in-Some.key, c.in-Some.value) c.in_ok-take.field-0 c.in_ok-unknown-2.field-0 c.in-Table.is c.in_ok-module.ensures
    c.into_iter-key-iterator.ensures.into_iter_gives.0 c.fields.invariant c.in-Some.ensures.steps
    (c.in_ok-take.ensures.known ∙ ap (λ (k : List ℕ). is_module_field k (view c.in-Some.value)) c.as_str-in-fields.ensures.value) c.if-not-branch.true
    (c.in_ok-take.ensures.value ∙ ap (λ (k : List ℕ). module_taken c.fields.module k (view c.in-Some.value)) c.as_str-in-fields.ensures.value)
    c.in_ok-unknown-2.ensures c.as_str-then-not-branch.ensures c.as_str-then-not-branch-2.ensures.value

pub fields-preserved : goal.fields-preserved
fields-preserved c =
    module_turn c.in_ok-module.module c.fields.module c.take.new.self c.into_iter-key-iterator.result c.fields.key-iterator c.next.new.self
    (c.in-Some.key, c.in-Some.value) c.in_ok-take.field-0 c.fields.invariant c.in-Some.ensures.steps
    (c.in_ok-take.ensures.known ∙ ap (λ (k : List ℕ). is_module_field k (view c.in-Some.value)) c.as_str-in-fields.ensures.value) c.if-not-branch.false
    (c.in_ok-take.ensures.value ∙ ap (λ (k : List ℕ). module_taken c.fields.module k (view c.in-Some.value)) c.as_str-in-fields.ensures.value)

pub returns : goal.returns
returns c =
    module_all (string_bytes c.args.name) c.args.value c.in-Table.table c.in_ok-module.module c.fields.module c.into_iter-key-iterator.result
    c.fields.key-iterator c.in-Table.is c.in_ok-module.ensures c.into_iter-key-iterator.ensures.into_iter_gives.0 c.fields.invariant
    c.in-None.ensures.steps.0
