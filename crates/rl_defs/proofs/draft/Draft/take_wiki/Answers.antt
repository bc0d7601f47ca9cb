use Rattle.std.proofs.Common.{ℕ, List, [], Some, ap, ◌∙◌}
use Rattle.toml.specs.View.{view, members_view}
use Rattle.toml.proofs.Views.{Entry}
use Rattle.rl_defs.specs.declared.error.FieldKind.TheVariants.{OfFile}
use Rattle.rl_defs.specs.Breach.{unknown_among}
use Rattle.rl_defs.specs.Fields.{InWiki, fields_at, is_wiki_field}
use Rattle.rl_defs.specs.Refusal.{UnknownField}
use Rattle.rl_defs.specs.Taken.{wiki_taken}
use Rattle.rl_defs.proofs.TakenLemmas.{wiki_turn, stopped}
use Rattle.rl_defs.proofs.draft.Draft.take_wiki.Goals as goal

pub returns-then-not-branch-clause-told : goal.returns-then-not-branch-clause-told
returns-then-not-branch-clause-told c =
    stopped InWiki c.args.table.entries c.fields.key-iterator c.next.new.self (c.in-Some.key, c.in-Some.value) c.in_ok-take_of_wiki.field-0
    c.in_ok-unknown.field-0
    (c.fields.invariant.1
    ∙ ap (λ (l : List Entry). unknown_among (fields_at InWiki (members_view l))) c.into_iter-key-iterator.ensures.into_iter_gives.0)
    c.in-Some.ensures.steps
    (c.in_ok-take_of_wiki.ensures.known ∙ ap (λ (k : List ℕ). is_wiki_field k (view c.in-Some.value)) c.as_str.ensures.value) c.if-not-branch.true
    (c.in_ok-unknown.ensures ∙ ap (λ (k : List ℕ). Some (UnknownField OfFile [] k)) c.as_str-then-not-branch.ensures.value)

pub fields-preserved : goal.fields-preserved
fields-preserved c =
    wiki_turn c.args.self.now c.fields.self c.take_of_wiki.new.self c.into_iter-key-iterator.result c.fields.key-iterator c.next.new.self
    (c.in-Some.key, c.in-Some.value) c.in_ok-take_of_wiki.field-0 c.fields.invariant c.in-Some.ensures.steps
    (c.in_ok-take_of_wiki.ensures.known ∙ ap (λ (k : List ℕ). is_wiki_field k (view c.in-Some.value)) c.as_str.ensures.value) c.if-not-branch.false
    (c.in_ok-take_of_wiki.ensures.value ∙ ap (λ (k : List ℕ). wiki_taken c.fields.self k (view c.in-Some.value)) c.as_str.ensures.value)
