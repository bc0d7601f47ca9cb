use Rattle.std.proofs.Common.{◌≡◌, drop, bytes_eq}
use Rattle.std.specs.List.{list_any}
use Rattle.rl_defs.specs.declared.language.Language.{Language}
use Rattle.rl_build.proofs.context.known_language.Given as goal

abbrev pub invariant-languages : goal.invariant-languages
invariant-languages l =
    list_any (λ (language : Language). bytes_eq language.code l.code) (drop l.language-index l.language-items)
    ≡ list_any (λ (language : Language). bytes_eq language.code l.code) l.language-items
