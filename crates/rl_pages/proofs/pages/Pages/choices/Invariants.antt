use Rattle.std.proofs.Common.{map, Bor}
use Rattle.rl_pages.specs.declared.entry.Entry.{Entry}
use Rattle.rl_pages.proofs.ChoiceLemmas.{Back}
use Rattle.rl_pages.proofs.pages.Pages.choices.Given as goal

-- what was gone through leads back to the choices that are left
abbrev pub invariant-choices : goal.invariant-choices
invariant-choices l = Back l.user l.self.entries l.number (map (λ (e : Bor Entry). e.now) l.found.items)

abbrev pub decreases-choices : goal.decreases-choices
decreases-choices l = l.number
