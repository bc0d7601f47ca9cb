use Rattle.std.proofs.Common.{◌∙◌, ap, sym}
use Rattle.rl_view_spec.specs.View.{state_of}
use Rattle.rl_view_spec.proofs.PlacesLemmas.{name_there}
use Rattle.rl_view_spec.proofs.ToolsLemmas.{place_there}
use Rattle.rl_view.proofs.ReadingsLemmas.{phase_seen}
use Rattle.rl_view.proofs.RunsLemmas.{next_seen, seen_ran}
use Rattle.rl_view.proofs.run_laws.Goals as goal

pub returns : goal.returns
returns c = record {
  runs = seen_ran;
  same = next_seen;
  states = λ v past t lawful s row low.
      let m = place_there v.registered.rows row low in
      phase_seen v past t row m.0 lawful s m.1 ∙ ap (state_of v past) (sym (name_there v.registered row m.0 m.1));
}
