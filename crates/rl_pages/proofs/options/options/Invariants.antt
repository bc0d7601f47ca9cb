use Rattle.std.proofs.Common.{◌≡◌, drop, map, [], Bor}
use Rattle.std.specs.List.{fold}
use Rattle.rl_pages.specs.declared.entry.Entry.{Entry}
use Rattle.rl_pages.specs.History.{options_after}
use Rattle.rl_pages.proofs.OptionLemmas.{shown}
use Rattle.rl_pages.proofs.options.options.Given as goal

-- with the choices that are left, the values are those of all
abbrev pub invariant-choices : goal.invariant-choices
invariant-choices l =
    fold (options_after l.user) (map shown l.values.entries) (map (λ (e : Bor Entry). e.now) (drop l.entry-index l.choices))
    ≡ fold (options_after l.user) [] (map (λ (e : Bor Entry). e.now) l.choices)
