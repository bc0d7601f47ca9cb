use Rattle.std.proofs.Common.{map, refl}
use Rattle.std.specs.List.{list_any}
use Rattle.rl_view.specs.Heard.{throws_by}
use Rattle.rl_cli.specs.Ending.{ending}
use Rattle.rl_cli.specs.Words.{texts}
use Rattle.rl_cli.proofs.AnswersLemmas.{complete, headline, too_large}
use Rattle.rl_cli.proofs.HeardLemmas.{unheard}
use Rattle.rl_cli.proofs.call.run.Goals as goal

pub returns-clause-observers : goal.returns-clause-observers
returns-clause-observers g c = let same = c.end_of-status.ensures.same (record { all = c.args.observers }) (refl, refl, λ k s. refl) in (same.0, same.1)

pub returns-clause-throws_stay : goal.returns-clause-throws_stay
returns-clause-throws_stay g c = let same = c.end_of-status.ensures.same (record { all = c.args.observers }) (refl, refl, λ k s. refl) in same.2

pub returns-clause-too_large : goal.returns-clause-too_large
returns-clause-too_large g c =
    too_large (throws_by (λ k s. list_any (λ o. (goal.Observer-dyn g (o.vtable, o.value)).throws o.value k s) c.args.observers.items))
    (g.T.Tree.files c.args.tree.now) (texts c.args.words.now)
    (ending c.end_of-status.result.status c.end_of-status.result.word c.end_of-status.result.breach c.end_of-status.result.unready)
    (g.O.Sink.written c.args.out.now) (g.O.Sink.written c.end_of-status.new.out)
    (map (λ o. (goal.Observer-dyn g (o.vtable, o.value)).ran o.value) c.args.observers.items)
    (map (λ o. (goal.Observer-dyn g (o.vtable, o.value)).ran o.value) c.end_of-status.new.observers.all.items)
    c.end_of-status.ensures.answer

pub returns-clause-unheard : goal.returns-clause-unheard
returns-clause-unheard g c =
    unheard (throws_by (λ k s. list_any (λ o. (goal.Observer-dyn g (o.vtable, o.value)).throws o.value k s) c.args.observers.items))
    (g.T.Tree.files c.args.tree.now) (texts c.args.words.now)
    (ending c.end_of-status.result.status c.end_of-status.result.word c.end_of-status.result.breach c.end_of-status.result.unready)
    (g.O.Sink.written c.args.out.now) (g.O.Sink.written c.end_of-status.new.out)
    (map (λ o. (goal.Observer-dyn g (o.vtable, o.value)).ran o.value) c.args.observers.items)
    (map (λ o. (goal.Observer-dyn g (o.vtable, o.value)).ran o.value) c.end_of-status.new.observers.all.items)
    c.end_of-status.ensures.answer

pub returns-clause-headline : goal.returns-clause-headline
returns-clause-headline g c =
    headline (throws_by (λ k s. list_any (λ o. (goal.Observer-dyn g (o.vtable, o.value)).throws o.value k s) c.args.observers.items))
    (g.T.Tree.files c.args.tree.now) (texts c.args.words.now)
    (ending c.end_of-status.result.status c.end_of-status.result.word c.end_of-status.result.breach c.end_of-status.result.unready)
    (g.O.Sink.written c.args.out.now) (g.O.Sink.written c.end_of-status.new.out)
    (map (λ o. (goal.Observer-dyn g (o.vtable, o.value)).ran o.value) c.args.observers.items)
    (map (λ o. (goal.Observer-dyn g (o.vtable, o.value)).ran o.value) c.end_of-status.new.observers.all.items)
    c.end_of-status.ensures.answer

pub returns-clause-complete : goal.returns-clause-complete
returns-clause-complete g c =
    complete (throws_by (λ k s. list_any (λ o. (goal.Observer-dyn g (o.vtable, o.value)).throws o.value k s) c.args.observers.items))
    (g.T.Tree.files c.args.tree.now) (texts c.args.words.now)
    (ending c.end_of-status.result.status c.end_of-status.result.word c.end_of-status.result.breach c.end_of-status.result.unready)
    (g.O.Sink.written c.args.out.now) (g.O.Sink.written c.end_of-status.new.out)
    (map (λ o. (goal.Observer-dyn g (o.vtable, o.value)).ran o.value) c.args.observers.items)
    (map (λ o. (goal.Observer-dyn g (o.vtable, o.value)).ran o.value) c.end_of-status.new.observers.all.items)
    (g.T.Tree.faults c.args.tree.now) (g.T.Tree.faults c.end_of-status.new.tree) (g.O.Sink.faults c.args.out.now) (g.O.Sink.faults c.end_of-status.new.out)
    (g.T.Tree.blamed c.end_of-status.new.tree)
    c.end_of-status.ensures.answer c.end_of-status.ensures.read_fault c.end_of-status.ensures.write_fault
