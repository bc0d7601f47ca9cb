use Rattle.std.proofs.Common.{sym, ◌∙◌}
use Rattle.rl_build.specs.Sight.{sight}
use Rattle.rl_loadphp.specs.Steps.{styles_of, version_in}
use Rattle.rl_loadphp.proofs.MadeLemmas.{all_made, styles-payloads, versions-payloads}
use Rattle.rl_loadphp.proofs.texts.styles.Goals as goal

pub returns-clause-body : goal.returns-clause-body
returns-clause-body c =
    let s = sight c.args.catalog.now c.args.pages.now.entries c.args.viewer.now in
    let names = c.args.names.now.served.items in
    all_made (styles_of s c.args.ctx.now) _ _ names _ c.deref-name-items.ensures.value c.served-test.false c.served.invariant.body
    ∙ sym (styles-payloads s c.args.ctx.now names)

pub returns-clause-versions : goal.returns-clause-versions
returns-clause-versions c wanted =
    let s = sight c.args.catalog.now c.args.pages.now.entries c.args.viewer.now in
    let names = c.args.names.now.served.items in
    all_made (version_in s c.args.ctx.now) _ _ names _ c.deref-name-items.ensures.value c.served-test.false
    (c.served.invariant.versions wanted)
    ∙ sym (versions-payloads s c.args.ctx.now names)
