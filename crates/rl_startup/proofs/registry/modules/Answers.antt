use Rattle.std.proofs.Common.{rules, ◌∙◌, length, ap, arith}
use Rattle.std.specs.List.{filter_map}
use Rattle.rl_build.specs.Sight.{sight}
use Rattle.rl_startup.specs.Registry.{module_of}
use Rattle.rl_startup.proofs.RegistryLemmas.{few_modules, made_more, made_whole, names_ascend}
use Rattle.rl_startup.proofs.registry.modules.Goals as goal

pub names-preserved : goal.names-preserved
names-preserved c =
    let s = sight c.args.catalog.now c.args.pages.now.entries c.args.viewer.now in
    let f = module_of s c.args.ctx.now in
    made_more f c.deref-name-items.result.now c.names.name-index c.name-item.result (search rules) c.names.modules.items c.names.invariant c.in_ok-known.known
    c.push_some.new.modules.items (c.in_ok-known.ensures.value ∙ ap f c.name-item.is) c.in_ok-known.ensures.fit c.in_ok-known.ensures.needs (search rules)

pub returns-clause-value : goal.returns-clause-value
returns-clause-value c =
    let f = module_of (sight c.args.catalog.now c.args.pages.now.entries c.args.viewer.now) c.args.ctx.now in
    made_whole f c.deref-name-items.result.now c.in_ok-names.names.items c.names.name-index c.names.modules.items c.names.invariant c.names-test.false
    c.deref-name-items.ensures.value ∙ ap (filter_map f) c.in_ok-names.ensures.value

pub returns-clause-ascend : goal.returns-clause-ascend
returns-clause-ascend c =
    let s = sight c.args.catalog.now c.args.pages.now.entries c.args.viewer.now in
    names_ascend s c.args.ctx.now c.in_ok-names.names.items c.names.modules.items c.in_ok-names.ensures.names
    (made_whole (module_of s c.args.ctx.now) c.deref-name-items.result.now c.in_ok-names.names.items c.names.name-index c.names.modules.items
    c.names.invariant c.names-test.false c.deref-name-items.ensures.value)

pub returns-clause-few : goal.returns-clause-few
returns-clause-few c =
    let s = sight c.args.catalog.now c.args.pages.now.entries c.args.viewer.now in
    let whole = made_whole (module_of s c.args.ctx.now) c.deref-name-items.result.now c.in_ok-names.names.items c.names.name-index c.names.modules.items
    c.names.invariant c.names-test.false c.deref-name-items.ensures.value in
    omega (arith, ap length whole, few_modules s c.args.ctx.now c.in_ok-names.names.items 4096 c.in_ok-names.ensures.names c.in_ok-names.ensures.few)
