use Rattle.std.proofs.Common.{rules, ℕ, List, subst, ◌∙◌}
use Rattle.rl_build.specs.Sight.{sight}
use Rattle.rl_build.specs.Payload.{payload_of, IsBrought}
use Rattle.rl_loadphp.proofs.MadeLemmas.{line_built}
use Rattle.rl_loadphp.proofs.PartsLemmas.{implementation_part}
use Rattle.rl_loadphp.proofs.lines.push_module.Goals as goal

pub returns-clause-text : goal.returns-clause-text
returns-clause-text c =
    let s = sight c.args.catalog.now c.args.pages.now.entries c.args.viewer.now in
    let brought = c.in-Some.brought in
    line_built _ _ (payload_of s c.args.ctx.now c.args.name.now) c.args.name.now brought c.in_ok-made.made.version (search rules)
    c.in_ok-made.ensures.value
    (c.in_ok-push_payload.ensures brought.script brought.styles brought.messages (c.as_str.ensures ∙ c.in_ok-made.ensures.text))

pub returns-clause-part : goal.returns-clause-part
returns-clause-part c =
    let s = sight c.args.catalog.now c.args.pages.now.entries c.args.viewer.now in
    implementation_part (payload_of s c.args.ctx.now c.args.name.now) c.args.name.now c.in-Some.brought c.in_ok-made.made.version
    (search rules) c.in_ok-made.ensures.value c.in_ok-made.ensures.version
    (subst (λ (name : List ℕ). IsBrought name c.in-Some.brought) c.as_bytes.ensures.value (search rules))
