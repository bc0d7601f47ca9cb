use Rattle.std.proofs.Common.{◌≡◌, ◌∙◌, List, sym, ap, subst}
use Rattle.rl_names.specs.declared.row.Row.{Row}
use Rattle.rl_build.specs.Sight.{sight}
use Rattle.rl_startup.specs.declared.modules.Module.{Module}
use Rattle.rl_startup.specs.Fine.{Fine}
use Rattle.rl_startup.specs.Registry.{all_rows}
use Rattle.rl_startup.specs.Rows.{rows_of}
use Rattle.rl_startup.proofs.RegistryLemmas.{fine_rows}
use Rattle.rl_startup.proofs.RowsLemmas.{carried}
use Rattle.rl_startup.proofs.registry.all_rows.Goals as goal

pub returns-clause-rows : goal.returns-clause-rows
unfolding all_rows
returns-clause-rows c =
    carried c.rows_of.result (rows_of c.deref.result.now)
    (λ (rows : List Row). rows ≡ all_rows (sight c.args.catalog.now c.args.pages.now.entries c.args.viewer.now) c.args.ctx.now) c.rows_of.ensures.rows
    (ap rows_of (c.deref.ensures.value ∙ c.in_ok-modules.ensures.value))

pub returns-clause-fine : goal.returns-clause-fine
returns-clause-fine c =
    let modules = c.in_ok-modules.modules.items in
    let fine : Fine (rows_of modules) =
    fine_rows modules c.in_ok-modules.ensures.few c.in_ok-modules.ensures.fit c.in_ok-modules.ensures.needs c.in_ok-modules.ensures.ascend in
    carried c.rows_of.result (rows_of c.deref.result.now) Fine c.rows_of.ensures.rows
    (subst (λ (ms : List Module). Fine (rows_of ms)) (sym c.deref.ensures.value) fine)
