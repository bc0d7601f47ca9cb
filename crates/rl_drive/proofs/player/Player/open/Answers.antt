use Rattle.std.proofs.Common.{Option, None, ap, length, map, subst, sym, ◌∙◌}
use Rattle.std.proofs.lemmas.List.{length-map}
use Rattle.rl_names.specs.declared.name.Key.{Key}
use Rattle.rl_names.specs.declared.row.Row.{Row}
use Rattle.rl_view_spec.specs.Closure.{Text, Registered}
use Rattle.rl_view_spec.specs.Keys.{quiet}
use Rattle.rl_view_spec.specs.Progress.{HasDistinctNames, Progress}
use Rattle.rl_states.specs.Changes.{fresh_progress}
use Rattle.rl_view.proofs.NowLemmas.{fresh_rest, seen_fresh}
use Rattle.rl_drive.specs.Given.{execution_in}
use Rattle.rl_drive.proofs.player.Player.open.Goals as goal

abbrev none_given : Row → Option (Key × Text)
none_given row = None

pub invariant_of-result : goal.invariant_of-result
invariant_of-result c = record {
  idle = ap (λ (t : Progress). t.executing) c.in_ok-table.ensures.value;
  long =
      sym (length-map c.in_ok-given.given.items execution_in) ∙ ap length c.in_ok-given.ensures.given
      ∙ length-map c.args.registry.rows none_given ∙ ap (λ (t : Progress). length t.registered.rows) (sym c.in_ok-table.ensures.value);
}

pub returns-clause-rest : goal.returns-clause-rest
returns-clause-rest c = fresh_rest (quiet c.args.registry) c.in_ok-table.table c.in_ok-table.ensures.value

pub returns-clause-played : goal.returns-clause-played
returns-clause-played c = λ v same. record {
  table = seen_fresh v c.in_ok-table.table (subst HasDistinctNames (sym same) c.in_ok-given.ensures.distinct)
      (c.in_ok-table.ensures.value ∙ ap fresh_progress (sym same));
  given = c.in_ok-given.ensures.given ∙ ap (λ (r : Registered). map (λ row. None) r.rows) (sym same);
}
