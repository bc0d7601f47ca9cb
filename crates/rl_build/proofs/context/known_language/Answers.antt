use Rattle.std.proofs.Common.{◌≡◌, sym, ◌∙◌, rules, codes}
use Rattle.rl_defs.specs.declared.language.Language.{Language}
use Rattle.rl_build.proofs.KnownLemmas.{found}
use Rattle.rl_build.proofs.context.known_language.Goals as goal

pub returns-then-eq : goal.returns-then-eq
returns-then-eq c =
    let named : c.language-item.result.code ≡ c.args.code.now = search rules in
    c.in_ok-copy.ensures ∙ named
    ∙ sym (found (λ (l : Language). l.code) _ c.args.catalog.now.languages c.languages.language-index c.language-item.result c.args.code.now (codes "qqx")
    c.languages-language-items.ensures c.languages-test.true c.language-item.is named)
