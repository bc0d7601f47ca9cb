use Rattle.std.proofs.Common.{◌≡◌, ℕ, List, None, Some, refl, ap, sym, subst, ◌∙◌, rules}
use Rattle.std.proofs.lemmas.Result.{err_from_is_err_and}
use Rattle.toml.specs.View.{view, members_view}
use Rattle.toml.proofs.Views.{Entry}
use Rattle.rl_defs.specs.declared.draft.Draft.{Draft}
use Rattle.rl_defs.specs.Breach.{unknown_among}
use Rattle.rl_defs.specs.Draft.{IsDraft}
use Rattle.rl_defs.specs.Fields.{fields, top_fields}
use Rattle.rl_defs.specs.Reading.{inside}
use Rattle.rl_defs.specs.Taken.{table_taken}
use Rattle.rl_defs.proofs.TakenLemmas.{empty_orderly, draft_turn, table_refused}
use Rattle.rl_defs.proofs.draft.Draft.of.Goals as goal

pub tables-init : goal.tables-init
tables-init c = (refl, refl, subst (λ (d : Draft). IsDraft d) (sym c.empty-draft.ensures) empty_orderly, search rules)

pub returns-in_err-take-clause-value : goal.returns-in_err-take-clause-value
returns-in_err-take-clause-value c =
    let p = err_from_is_err_and c.from_residual.result c.from_residual.ensures.1 in
    rw (p.1, p.2) (table_refused c.args.root.entries c.tables.key-iterator c.next.new.self (c.in-Some.key, c.in-Some.value) c.in_err-take.field-0.0
    (c.tables.invariant.1 ∙ ap (λ (l : List Entry). unknown_among (fields (members_view l))) c.into_iter-key-iterator.ensures.into_iter_gives.0)
    c.in-Some.ensures.steps
    (λ refusal told. subst (λ (k : List ℕ). unknown_among (top_fields (k, view c.in-Some.value)) ≡ Some refusal) c.as_str.ensures.value
    (c.in_err-take.ensures.told refusal told)))

pub tables-preserved : goal.tables-preserved
tables-preserved c =
    draft_turn c.empty-draft.result c.tables.draft c.take.new.self c.into_iter-key-iterator.result c.tables.key-iterator c.next.new.self
    (c.in-Some.key, c.in-Some.value) c.tables.invariant c.in-Some.ensures.steps
    (subst (λ (k : List ℕ). unknown_among (top_fields (k, view c.in-Some.value)) ≡ None) c.as_str.ensures.value c.in_ok-take.ensures.told)
    (c.in_ok-take.ensures.value ∙ ap (λ (k : List ℕ). table_taken c.tables.draft k (inside (view c.in-Some.value))) c.as_str.ensures.value)
    c.in_ok-take.ensures.orderly
