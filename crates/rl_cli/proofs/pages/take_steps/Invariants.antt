use Rattle.std.proofs.Common.{◌≡◌, drop}
use Rattle.std.specs.Prelude.{fold}
use Rattle.rl_cli.specs.Pages.{after_step}
use Rattle.rl_cli.proofs.pages.take_steps.Given as goal

-- with the steps that are left the history comes to that of all, and the definitions stay
abbrev pub invariant-steps : goal.invariant-steps
invariant-steps l = record {
  rest : fold (after_step l.fn.wiki.catalogue.admins) l.wiki.entries (drop l.step-index l.steps) ≡ fold (after_step l.fn.wiki.catalogue.admins) l.fn.wiki.entries l.steps;
  catalogue : l.wiki.catalogue ≡ l.fn.wiki.catalogue;
}
