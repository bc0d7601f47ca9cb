use Rattle.std.proofs.Common.{◌<◌, sym, subst, length, refl, ◌∙◌}
use Rattle.rl_view_spec.specs.Progress.{Progress}
use Rattle.rl_view.proofs.RunsLemmas.{next_within}
use Rattle.rl_drive.proofs.player.Player.run_next.Goals as goal

pub tell-requires : goal.tell-requires
tell-requires g c = next_within c.args.self.now.table c.in-Some.row (sym c.first_run.ensures ∙ c.in-Some.is)

pub returns-clause-runs : goal.returns-clause-runs
returns-clause-runs g c =
    record {
      next = sym c.first_run.ensures ∙ c.in-Some.is;
      within = subst (λ (t : Progress). c.in-Some.row < length t.registered.rows) (sym c.run.ensures)
          (next_within c.args.self.now.table c.in-Some.row (sym c.first_run.ensures ∙ c.in-Some.is));
      table = c.run.ensures;
      given = refl;
      thrown = c.in_ok-threw.ensures.threw;
      heard = c.in_ok-threw.ensures.told;
    }
