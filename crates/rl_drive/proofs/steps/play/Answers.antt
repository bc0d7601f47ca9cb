use Rattle.std.proofs.Common.{◌∙◌, ◌++◌, List, [], Bool, ap, refl, reverse, subst, sym}
use Rattle.std.specs.Prelude.{Result, codes, is_none}
use Rattle.std.proofs.lemmas.Result.{err_from_is_err_and}
use Rattle.rl_names.specs.declared.name.Key.{Key}
use Rattle.rl_names.specs.declared.text.NoMemory.{NoMemory}
use Rattle.rl_view_spec.specs.Closure.{Text}
use Rattle.rl_script_spec.specs.Output.{events_of, line, summary_of}
use Rattle.rl_script_spec.proofs.UnreadyLemmas.{told_where_not_served}
use Rattle.rl_view.specs.Heard.{executions, watched}
use Rattle.rl_drive.specs.Hearing.{ArePlayed}
use Rattle.rl_drive.specs.Player.{Plays, StopsStep}
use Rattle.rl_drive.specs.declared.steps.Driven.{Driven}
use Rattle.rl_drive.proofs.HearingLemmas.{heard_nothing, same_says}
use Rattle.rl_drive.proofs.PlayingLemmas.{Playing, playing_all, playing_begin, playing_ends, playing_next, playing_stops}
use Rattle.rl_drive.proofs.UnreadyLemmas.{none_told}
use Rattle.rl_drive.proofs.steps.play.Goals as goal

pub returns-in_err-player-clause-heard : goal.returns-in_err-player-clause-heard
returns-in_err-player-clause-heard g c =
    let p = err_from_is_err_and c.from_residual.result c.from_residual.ensures.1 in
    let all : List _ = executions (watched (g.O.Hears.says c.args.observers.now) c.args.registry) (events_of c.args.registry (reverse c.args.steps.now)) in
    subst (λ (r : Result Driven NoMemory). ArePlayed r all (g.O.Hears.told c.args.observers.now) (g.O.Hears.told c.args.observers.now)) (sym p.1)
    ([], all, refl, heard_nothing (g.O.Hears.told c.args.observers.now))

pub loop-step-init : goal.loop-step-init
loop-step-init g c = record {
  playing = subst (λ (text : Text). Playing (g.O.Hears.says c.args.observers.now) c.args.registry c.args.steps.now 0 c.in_ok-player.player text
      (g.O.Hears.told c.args.observers.now) (g.O.Hears.told c.args.observers.now))
      (sym c.new-text.ensures.items)
      (playing_begin (g.O.Hears.says c.args.observers.now) c.args.registry c.args.steps.now (g.O.Hears.told c.args.observers.now) c.in_ok-player.player
      c.in_ok-player.ensures.rest (c.in_ok-player.ensures.played (watched (g.O.Hears.says c.args.observers.now) c.args.registry) refl));
  fixed = λ k s. refl;
  same = λ first s. s;
}

pub loop-step-preserved : goal.loop-step-preserved
loop-step-preserved g c = record {
  playing = playing_next (g.O.Hears.says c.args.observers.now) c.args.registry c.args.steps.now (g.O.Hears.told c.args.observers.now)
      c.loop-step.step-index c.step-item.result c.loop-step.player c.step.new.self c.loop-step.text.items c.step.new.out.items
      (g.O.Hears.told c.loop-step.observers) (g.O.Hears.told c.step.new.observers)
      c.loop-step-test.true c.step-item.is c.loop-step.invariant.playing
      (subst (λ (says : Key → Text → Bool). Plays says c.step-item.result c.loop-step.player c.step.new.self c.loop-step.text.items c.step.new.out.items
      (g.O.Hears.told c.loop-step.observers) (g.O.Hears.told c.step.new.observers))
      (same_says (g.O.Hears.says c.loop-step.observers) (g.O.Hears.says c.args.observers.now) c.loop-step.invariant.fixed) c.in_ok-step.ensures.plays);
  fixed = λ k s. c.step.ensures.fixed k s ∙ c.loop-step.invariant.fixed k s;
  same = λ first s. c.step.ensures.same first (c.loop-step.invariant.same first s);
}

pub returns-in_err-step-clause-heard : goal.returns-in_err-step-clause-heard
returns-in_err-step-clause-heard g c =
    let p = err_from_is_err_and c.from_residual-in_err-step.result c.from_residual-in_err-step.ensures.1 in
    let all : List _ = executions (watched (g.O.Hears.says c.args.observers.now) c.args.registry) (events_of c.args.registry (reverse c.args.steps.now)) in
    subst (λ (r : Result Driven NoMemory). ArePlayed r all (g.O.Hears.told c.args.observers.now) (g.O.Hears.told c.step.new.observers)) (sym p.1)
    (playing_stops (g.O.Hears.says c.args.observers.now) c.args.registry c.args.steps.now (g.O.Hears.told c.args.observers.now)
    c.loop-step.step-index c.step-item.result c.loop-step.player c.loop-step.text.items (g.O.Hears.told c.loop-step.observers)
    (g.O.Hears.told c.step.new.observers) c.loop-step-test.true c.step-item.is c.loop-step.invariant.playing
    (subst (λ (says : Key → Text → Bool). StopsStep says c.step-item.result c.loop-step.player (g.O.Hears.told c.loop-step.observers)
    (g.O.Hears.told c.step.new.observers))
    (same_says (g.O.Hears.says c.loop-step.observers) (g.O.Hears.says c.args.observers.now) c.loop-step.invariant.fixed) c.in_err-step.ensures.stops))

pub returns-in_err-summary-clause-heard : goal.returns-in_err-summary-clause-heard
returns-in_err-summary-clause-heard g c =
    let p = err_from_is_err_and c.from_residual-in_err-summary.result c.from_residual-in_err-summary.ensures.1 in
    let all : List _ = executions (watched (g.O.Hears.says c.args.observers.now) c.args.registry) (events_of c.args.registry (reverse c.args.steps.now)) in
    subst (λ (r : Result Driven NoMemory). ArePlayed r all (g.O.Hears.told c.args.observers.now) (g.O.Hears.told c.loop-step.observers)) (sym p.1)
    (playing_ends (g.O.Hears.says c.args.observers.now) c.args.registry c.args.steps.now (g.O.Hears.told c.args.observers.now)
    c.loop-step.step-index c.loop-step.player c.loop-step.text.items (g.O.Hears.told c.loop-step.observers) c.loop-step-test.false
    c.loop-step.invariant.playing)

pub returns-clause-text : goal.returns-clause-text
returns-clause-text g c =
    let v = watched (g.O.Hears.says c.args.observers.now) c.args.registry in
    let done = playing_all (g.O.Hears.says c.args.observers.now) c.args.registry c.args.steps.now (g.O.Hears.told c.args.observers.now)
    c.loop-step.step-index c.loop-step.player c.loop-step.text.items (g.O.Hears.told c.loop-step.observers) c.loop-step-test.false
    c.loop-step.invariant.playing in
    c.in_ok-summary.ensures v (reverse c.args.steps.now) done.0
    ∙ ap (λ (replies : Text). replies ++ line (codes "summary")
    ++ summary_of 0 v (events_of c.args.registry (reverse c.args.steps.now))) done.1

pub unready-requires-clause-played : goal.unready-requires-clause-played
unready-requires-clause-played g c =
    let done = playing_all (g.O.Hears.says c.args.observers.now) c.args.registry c.args.steps.now (g.O.Hears.told c.args.observers.now)
    c.loop-step.step-index c.loop-step.player c.loop-step.text.items (g.O.Hears.told c.loop-step.observers) c.loop-step-test.false
    c.loop-step.invariant.playing in
    (watched (g.O.Hears.says c.args.observers.now) c.args.registry, done.0)

pub returns-in_err-unready-clause-heard : goal.returns-in_err-unready-clause-heard
returns-in_err-unready-clause-heard g c =
    let p = err_from_is_err_and c.from_residual-in_err-unready.result c.from_residual-in_err-unready.ensures.1 in
    let all : List _ = executions (watched (g.O.Hears.says c.args.observers.now) c.args.registry) (events_of c.args.registry (reverse c.args.steps.now)) in
    subst (λ (r : Result Driven NoMemory). ArePlayed r all (g.O.Hears.told c.args.observers.now) (g.O.Hears.told c.loop-step.observers)) (sym p.1)
    (playing_ends (g.O.Hears.says c.args.observers.now) c.args.registry c.args.steps.now (g.O.Hears.told c.args.observers.now)
    c.loop-step.step-index c.loop-step.player c.loop-step.text.items (g.O.Hears.told c.loop-step.observers) c.loop-step-test.false
    c.loop-step.invariant.playing)

pub returns-clause-ready : goal.returns-clause-ready
returns-clause-ready g c =
    let v = watched (g.O.Hears.says c.args.observers.now) c.args.registry in
    let done = playing_all (g.O.Hears.says c.args.observers.now) c.args.registry c.args.steps.now (g.O.Hears.told c.args.observers.now)
    c.loop-step.step-index c.loop-step.player c.loop-step.text.items (g.O.Hears.told c.loop-step.observers) c.loop-step-test.false
    c.loop-step.invariant.playing in
    none_told c.in_ok-unready.unready c.is_none.result c.is_none.ensures ∙ ap is_none (c.in_ok-unready.ensures v done.0)
    ∙ told_where_not_served v (reverse c.args.steps.now)

pub returns-clause-unready : goal.returns-clause-unready
returns-clause-unready g c =
    let v = watched (g.O.Hears.says c.args.observers.now) c.args.registry in
    let done = playing_all (g.O.Hears.says c.args.observers.now) c.args.registry c.args.steps.now (g.O.Hears.told c.args.observers.now)
    c.loop-step.step-index c.loop-step.player c.loop-step.text.items (g.O.Hears.told c.loop-step.observers) c.loop-step-test.false
    c.loop-step.invariant.playing in
    c.in_ok-unready.ensures v done.0

pub returns-clause-heard : goal.returns-clause-heard
returns-clause-heard g c =
    let done = playing_all (g.O.Hears.says c.args.observers.now) c.args.registry c.args.steps.now (g.O.Hears.told c.args.observers.now)
    c.loop-step.step-index c.loop-step.player c.loop-step.text.items (g.O.Hears.told c.loop-step.observers) c.loop-step-test.false
    c.loop-step.invariant.playing in
    done.2
