use Rattle.std.proofs.Common.{◌≡◌, ◌++◌, string_bytes, codes, sym, ap, ◌∙◌}
use Rattle.std.specs.List.{flat_map}
use Rattle.rl_build.specs.Sight.{sight}
use Rattle.rl_loadphp.specs.Body.{states_text}
use Rattle.rl_loadphp.specs.Steps.{line_of, version_in}
use Rattle.rl_loadphp.proofs.MadeLemmas.{all_made, wire-missing, versions-payloads}
use Rattle.rl_loadphp.proofs.PartsLemmas.{all_parts}
use Rattle.rl_loadphp.proofs.lines.modules.Goals as goal

pub returns-clause-body : goal.returns-clause-body
returns-clause-body c =
    let s = sight c.args.catalog.now c.args.pages.now.entries c.args.viewer.now in
    let ctx = c.args.ctx.now in
    let names = c.args.names.now in
    let lines : string_bytes c.served.body ≡ flat_map (line_of s ctx) names.served.items =
    all_made (line_of s ctx) _ _ names.served.items _ c.deref-name-items.ensures.value c.served-test.false c.served.invariant.body in
    c.in_ok-push_states.ensures.text
    ∙ ap (λ missing. string_bytes c.served.body ++ states_text (codes "missing") missing) c.deref.ensures.value
    ∙ ap (λ text. text ++ states_text (codes "missing") names.missing.items) lines
    ∙ sym (wire-missing s ctx names.served.items names.missing.items)

pub returns-clause-versions : goal.returns-clause-versions
returns-clause-versions c =
    let s = sight c.args.catalog.now c.args.pages.now.entries c.args.viewer.now in
    let names = c.args.names.now.served.items in
    all_made (version_in s c.args.ctx.now) _ _ names _ c.deref-name-items.ensures.value c.served-test.false c.served.invariant.versions
    ∙ sym (versions-payloads s c.args.ctx.now names)

pub returns-clause-parts : goal.returns-clause-parts
returns-clause-parts c =
    let s = sight c.args.catalog.now c.args.pages.now.entries c.args.viewer.now in
    all_parts s c.args.ctx.now _ c.args.names.now.served.items _ c.args.names.now.missing.items c.served.name-index
    c.deref-name-items.ensures.value c.deref.ensures.value c.served-test.false c.served.invariant.parts c.in_ok-push_states.ensures.utf8
