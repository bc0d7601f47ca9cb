use Rattle.std.proofs.Common.{◌≡◌, ◌++◌, string_bytes, codes, sym, ap, ◌∙◌, append_assoc}
use Rattle.rl_build.specs.Sight.{sight}
use Rattle.rl_loadphp.specs.Body.{states_text, scripts_text}
use Rattle.rl_loadphp.specs.Steps.{script_of, version_in}
use Rattle.rl_loadphp.proofs.MadeLemmas.{all_made, scripts-payloads, versions-payloads}
use Rattle.rl_loadphp.proofs.texts.scripts.Goals as goal

pub returns-clause-body : goal.returns-clause-body
returns-clause-body c =
    let s = sight c.args.catalog.now c.args.pages.now.entries c.args.viewer.now in
    let ctx = c.args.ctx.now in
    let names = c.args.names.now in
    let scripts : string_bytes c.served.body ≡ scripts_text s ctx names.served.items =
    all_made (script_of s ctx) _ _ names.served.items _ c.deref-name-items.ensures.value c.served-test.false c.served.invariant.body
    ∙ sym (scripts-payloads s ctx names.served.items) in
    let ready : string_bytes c.push_states.new.out ≡ scripts_text s ctx names.served.items ++ states_text (codes "ready") names.served.items =
    c.in_ok-push_states.ensures.text
    ∙ ap (λ served. string_bytes c.served.body ++ states_text (codes "ready") served) c.deref.ensures.value
    ∙ ap (λ text. text ++ states_text (codes "ready") names.served.items) scripts in
    c.in_ok-push_states-2.ensures.text
    ∙ ap (λ missing. string_bytes c.push_states.new.out ++ states_text (codes "missing") missing) c.deref-2.ensures.value
    ∙ ap (λ text. text ++ states_text (codes "missing") names.missing.items) ready
    ∙ append_assoc (scripts_text s ctx names.served.items) (states_text (codes "ready") names.served.items)
    (states_text (codes "missing") names.missing.items)

pub returns-clause-versions : goal.returns-clause-versions
returns-clause-versions c wanted =
    let s = sight c.args.catalog.now c.args.pages.now.entries c.args.viewer.now in
    let names = c.args.names.now.served.items in
    all_made (version_in s c.args.ctx.now) _ _ names _ c.deref-name-items.ensures.value c.served-test.false
    (c.served.invariant.versions wanted)
    ∙ sym (versions-payloads s c.args.ctx.now names)
