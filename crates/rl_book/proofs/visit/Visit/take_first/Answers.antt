use Rattle.std.proofs.Common.{length, refl, ap, arith, rules}
use Rattle.rl_book.proofs.CallsLemmas.{taken_kept}
use Rattle.rl_book.proofs.NotedLemmas.{still_kept}
use Rattle.rl_book.proofs.visit.Visit.take_first.Goals as goal

pub invariant_of-self : goal.invariant_of-self
invariant_of-self c =
    still_kept c.self.inside c.self.inside.requests c.make_room.new.calls c.self.invariant c.make_room.ensures.items refl c.make_room.ensures.more

pub invariant_of-self-in_err-take : goal.invariant_of-self-in_err-take
invariant_of-self-in_err-take c =
    still_kept c.self.inside c.take.new.self c.make_room.new.calls c.self.invariant c.make_room.ensures.items c.in_err-take.ensures.err
    c.make_room.ensures.more

pub invariant_of-self-2 : goal.invariant_of-self-2
invariant_of-self-2 c =
    let long = ap length c.make_room.ensures.items in
    let few = c.in_ok-make_room.ensures.few in
    let room = c.in_ok-make_room.ensures.room in
    let same = c.push_reserved.ensures.capacity in
    taken_kept c.self.inside c.take.new.self c.push_reserved.new.self c.self.invariant (search rules) c.in_ok-take.ensures.ok
    (omega (arith, long, few)) (omega (arith, long, room, same))
