use Rattle.std.proofs.Common.{◌≡◌, ℕ, List, sym, ◌∙◌, rules, codes}
use Rattle.rl_build.proofs.KnownLemmas.{found}
use Rattle.rl_build.proofs.context.known_skin.Goals as goal

pub returns-then-eq : goal.returns-then-eq
returns-then-eq c =
    let named : c.skin-item.result ≡ c.args.name.now = search rules in
    c.in_ok-copy.ensures ∙ named
    ∙ sym (found (λ (skin : List ℕ). skin) _ c.args.catalog.now.skins c.skins.skin-index c.skin-item.result c.args.name.now (codes "fallback")
    c.skins-skin-items.ensures c.skins-test.true c.skin-item.is named)
