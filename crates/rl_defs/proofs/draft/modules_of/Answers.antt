use Rattle.std.proofs.Common.{◌≡◌, List, map, sym, subst, rules, true}
use Rattle.std.specs.List.{list_all}
use Rattle.std.proofs.lemmas.Result.{err_from_is_err_and}
use Rattle.toml.specs.View.{table_view}
use Rattle.rl_defs.specs.declared.draft.ModuleDraft.{ModuleDraft}
use Rattle.rl_defs.specs.Named.{AreNames}
use Rattle.rl_defs.specs.Draft.{may_skip, modules_of}
use Rattle.rl_defs.proofs.DraftsLemmas.{all_skip, module_names}
use Rattle.rl_defs.proofs.TakenLemmas.{modules_turn, module_refused}
use Rattle.rl_defs.proofs.draft.modules_of.Goals as goal

pub returns-in_err-of-clause-value : goal.returns-in_err-of-clause-value
returns-in_err-of-clause-value c =
    let p = err_from_is_err_and c.from_residual-in_err-of.result c.from_residual-in_err-of.ensures.1 in
    rw (p.1, p.2) (module_refused c.args.table.entries c.modules.name-iterator c.next.new.self (c.in-Some.name, c.in-Some.value) c.in_err-of.field-0.0
    c.modules.invariant.1 c.in-Some.ensures.steps c.in_err-of.ensures)

pub modules-preserved : goal.modules-preserved
modules-preserved c =
    modules_turn (modules_of (table_view c.args.table)) c.modules.modules.items _ c.in_ok-of.field-0 c.args.table.entries c.modules.name-iterator
    c.next.new.self (c.in-Some.name, c.in-Some.value) c.modules.invariant c.in-Some.ensures.steps c.in_ok-of.ensures.0 c.in_ok-of.ensures.1 (search rules)

pub returns-clause-features : goal.returns-clause-features
returns-clause-features c =
    let value : c.of-2.result ≡ modules_of (table_view c.args.table) = search rules in
    subst (λ (xs : List ModuleDraft). list_all may_skip xs ≡ true) (sym value) (all_skip (table_view c.args.table))

pub returns-clause-names : goal.returns-clause-names
returns-clause-names c =
    let value : c.of-2.result ≡ modules_of (table_view c.args.table) = search rules in
    subst (λ (xs : List ModuleDraft). AreNames (map (λ x. x.name) xs)) (sym value) (module_names c.args.table.entries c.len.ensures.ordered)
