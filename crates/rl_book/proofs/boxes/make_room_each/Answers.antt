use Rattle.std.proofs.Common.{Some, arith, ◌≡◌}
use Rattle.rl_book.proofs.TurnsLemmas.{kept, all_more, all_whole}
use Rattle.rl_book.proofs.boxes.make_room_each.Goals as goal

pub returns-in_err-make_room_of-clause-told_nothing :
    goal.returns-in_err-make_room_of-clause-told_nothing
returns-in_err-make_room_of-clause-told_nothing g c =
    kept (λ o. (goal.Observer-dyn g (o.vtable, o.value)).ran o.value) c.loop-observer.observer-items _ c.loop-observer.observer-index c.observer-item.result _
    c.make_room_of.ensures.told_nothing c.loop-observer.invariant.told_nothing

pub returns-in_err-make_room_of-clause-fixed : goal.returns-in_err-make_room_of-clause-fixed
returns-in_err-make_room_of-clause-fixed g c k s =
    kept (λ o. (goal.Observer-dyn g (o.vtable, o.value)).throws o.value k s) c.loop-observer.observer-items _ c.loop-observer.observer-index
    c.observer-item.result _ (c.make_room_of.ensures.fixed k s) (c.loop-observer.invariant.fixed k s)

pub loop-observer-preserved : goal.loop-observer-preserved
loop-observer-preserved g c = record {
  room = all_more (λ o. (goal.Observer-dyn g (o.vtable, o.value)).room_for o.value ≡ Some (c.args.key.now, c.args.script.now)) c.loop-observer.observer-items
      c.loop-observer.observer-index _ _ c.loop-observer.auto.observer-items c.loop-observer-test.true c.in_ok-make_room_of.ensures.room
      c.loop-observer.invariant.room;
  told_nothing = kept (λ o. (goal.Observer-dyn g (o.vtable, o.value)).ran o.value) c.loop-observer.observer-items _ c.loop-observer.observer-index
      c.observer-item.result _ c.make_room_of.ensures.told_nothing c.loop-observer.invariant.told_nothing;
  fixed = λ k s. kept (λ o. (goal.Observer-dyn g (o.vtable, o.value)).throws o.value k s) c.loop-observer.observer-items _ c.loop-observer.observer-index
      c.observer-item.result _ (c.make_room_of.ensures.fixed k s) (c.loop-observer.invariant.fixed k s);
  same = (
    kept (λ o. o.ptr) c.loop-observer.observer-items _ c.loop-observer.observer-index c.observer-item.result _ c.make_room_of.ensures.same.0
        c.loop-observer.invariant.same.0,
    kept (λ o. o.vtable) c.loop-observer.observer-items _ c.loop-observer.observer-index c.observer-item.result _
        c.make_room_of.ensures.same.1 c.loop-observer.invariant.same.1,
  );
}

pub returns-clause-room : goal.returns-clause-room
returns-clause-room g c = all_whole (λ o. (goal.Observer-dyn g (o.vtable, o.value)).room_for o.value ≡ Some (c.args.key.now, c.args.script.now))
    c.loop-observer.observer-items c.loop-observer.observer-index (omega arith) c.loop-observer.invariant.room

pub returns-in_err-make_room_of-clause-same : goal.returns-in_err-make_room_of-clause-same
returns-in_err-make_room_of-clause-same g c = (
  kept (λ o. o.ptr) c.loop-observer.observer-items _ c.loop-observer.observer-index c.observer-item.result _ c.make_room_of.ensures.same.0
      c.loop-observer.invariant.same.0,
  kept (λ o. o.vtable) c.loop-observer.observer-items _ c.loop-observer.observer-index c.observer-item.result _
      c.make_room_of.ensures.same.1 c.loop-observer.invariant.same.1,
)
