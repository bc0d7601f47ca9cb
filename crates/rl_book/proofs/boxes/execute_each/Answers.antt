use Rattle.std.proofs.Common.{◌≡◌, Some, arith, map}
use Rattle.std.proofs.lemmas.List.{length-map}
use Rattle.rl_base.specs.Execution.{told_of}
use Rattle.rl_book.proofs.TurnsLemmas.{kept, rest_more, changed_more, asked_more}
use Rattle.rl_book.proofs.boxes.execute_each.Goals as goal

pub loop-observer-preserved : goal.loop-observer-preserved
loop-observer-preserved g c = record {
  room = rest_more (λ o. (goal.Observer-dyn g (o.vtable, o.value)).room_for o.value ≡ Some (c.args.key.now, c.args.script.now))
      c.loop-observer.observer-items c.loop-observer.observer-index _ c.loop-observer.invariant.room;
  told = changed_more (λ o. (goal.Observer-dyn g (o.vtable, o.value)).ran o.value) (told_of (c.args.key.now, c.args.script.now)) c.loop-observer.observer-items
      (map (λ o. (goal.Observer-dyn g (o.vtable, o.value)).ran o.value) c.args.observers.now) c.loop-observer.observer-index c.observer-item.result _
      (omega (arith, length-map c.args.observers.now (λ o. (goal.Observer-dyn g (o.vtable, o.value)).ran o.value)))
      (omega (arith, length-map c.args.observers.now (λ o. (goal.Observer-dyn g (o.vtable, o.value)).ran o.value))) c.execute_of-threw.ensures.told
      c.loop-observer.invariant.told;
  threw = asked_more (λ o. (goal.Observer-dyn g (o.vtable, o.value)).throws o.value c.args.key.now c.args.script.now) c.loop-observer.observer-items
      c.args.observers.now c.loop-observer.observer-index c.observer-item.result _ _ c.loop-observer-test.true c.loop-observer.auto.observer-items
      c.loop-observer.invariant.threw c.execute_of-threw.ensures.threw (c.loop-observer.invariant.fixed _ _);
  fixed = λ k s. kept (λ o. (goal.Observer-dyn g (o.vtable, o.value)).throws o.value k s) c.loop-observer.observer-items _ c.loop-observer.observer-index
      c.observer-item.result _ (c.execute_of-threw.ensures.fixed k s) (c.loop-observer.invariant.fixed k s);
  same = (
    kept (λ o. o.ptr) c.loop-observer.observer-items _ c.loop-observer.observer-index c.observer-item.result _ c.execute_of-threw.ensures.same.0
        c.loop-observer.invariant.same.0,
    kept (λ o. o.vtable) c.loop-observer.observer-items _ c.loop-observer.observer-index c.observer-item.result _
        c.execute_of-threw.ensures.same.1 c.loop-observer.invariant.same.1,
  );
}
