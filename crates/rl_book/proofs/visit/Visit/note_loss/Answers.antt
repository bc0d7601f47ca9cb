use Rattle.std.proofs.Common.{arith}
use Rattle.rl_book_spec.specs.declared.Call.TheVariants.{Lose}
use Rattle.rl_book.proofs.CallsLemmas.{idle_kept, lost_kept, note_is, open_kept, room_for_loss, third_within}
use Rattle.rl_book.proofs.visit.Visit.note_loss.Goals as goal

pub give_up_at_third-requires-clause-within : goal.give_up_at_third-requires-clause-within
give_up_at_third-requires-clause-within c = λ pair there. third_within c.self.inside c.args.ask pair c.self.invariant there

pub give_up_at_third-requires-clause-idle : goal.give_up_at_third-requires-clause-idle
give_up_at_third-requires-clause-idle c = idle_kept c.self.inside c.self.invariant

pub lose-requires : goal.lose-requires
lose-requires c = open_kept c.self.inside c.args.self.now c.args.ask c.self.invariant c.self.view_is c.requires

pub push_reserved-requires : goal.push_reserved-requires
push_reserved-requires c =
    let room = room_for_loss c.self.inside c.args.ask c.self.invariant
    (open_kept c.self.inside c.args.self.now c.args.ask c.self.invariant c.self.view_is c.requires) in
    omega (arith, room)

pub invariant_of-self : goal.invariant_of-self
invariant_of-self c =
    lost_kept c.self.inside c.args.ask c.args.mark c.give_up_at_third.new.table c.lose.new.self c.push_reserved.new.self c.self.invariant
    (open_kept c.self.inside c.args.self.now c.args.ask c.self.invariant c.self.view_is c.requires)
    c.give_up_at_third.ensures c.lose.ensures c.push_reserved.ensures.items c.push_reserved.ensures.capacity

pub returns : goal.returns
returns c = note_is c.self.inside c.args.self.now (Lose c.args.ask c.args.mark) c.push_reserved.new.self.items c.self.view_is c.push_reserved.ensures.items
