use Rattle.std.proofs.Common.{◌≡◌, ℕ, ◌≤◌, List, length, subst, sym, arith}
use Rattle.std.proofs.lemmas.Grind.{common_steps}
use Rattle.rl_names.specs.Limits.{limit_of}
use Rattle.rl_names.specs.declared.counted.Counted.TheVariants.{Rows}
use Rattle.rl_build.specs.BuiltIn.{built_ins}
use Rattle.rl_build.specs.Sight.{sight}
use Rattle.rl_build.specs.Sheet.{all_names, AreAllNames}
use Rattle.rl_build.proofs.AllNamesLemmas.{ascending_all, few_names, have_sheets}
use Rattle.rl_build.proofs.all_names.names.Goals as goal

pub returns-clause-names : goal.returns-clause-names
returns-clause-names c =
    let s = sight c.args.catalog.now c.args.pages.now.entries c.args.viewer.now in
    let these : c.all.names.items ≡ all_names s = grind (arith, common_steps) in
    let Owed : List (List ℕ) → Type 0 = λ names. AreAllNames s c.args.ctx.now names in
    subst Owed (sym these) (record {
      ascending = ascending_all _ built_ins c.modules.ensures.ascending;
      all = have_sheets built_ins c.args.catalog.now.modules;
    })

pub returns-clause-few : goal.returns-clause-few
returns-clause-few c =
    let these : c.all.names.items ≡ all_names (sight c.args.catalog.now c.args.pages.now.entries c.args.viewer.now) = grind (arith, common_steps) in
    let Few : List (List ℕ) → Type 0 = λ names. length names ≤ limit_of Rows in
    subst Few (sym these) (few_names c.args.catalog.now.modules c.module_count.ensures.whole.few_modules)
