use Rattle.std.proofs.Common.{◌++◌, ◌∷◌, [], List, length, refl, ap, ◌∙◌, arith}
use Rattle.rl_book_spec.specs.declared.Call.{Call}
use Rattle.rl_book_spec.specs.declared.Call.TheVariants.{Deliver}
use Rattle.rl_book.proofs.CallsLemmas.{idle_kept, third_within}
use Rattle.rl_book.proofs.NotedLemmas.{still_kept}
use Rattle.rl_book.proofs.RefusalLemmas.{refusal_kept}
use Rattle.rl_book.proofs.visit.Visit.note_refusal.Goals as goal

pub invariant_of-self : goal.invariant_of-self
invariant_of-self c =
    still_kept c.self.inside c.self.inside.requests c.make_room.new.calls c.self.invariant c.make_room.ensures.items refl c.make_room.ensures.more

pub lose_open-requires-clause-within : goal.lose_open-requires-clause-within
lose_open-requires-clause-within c = λ pair there. third_within c.self.inside c.args.ask pair c.self.invariant there

pub lose_open-requires-clause-idle : goal.lose_open-requires-clause-idle
lose_open-requires-clause-idle c = idle_kept c.self.inside c.self.invariant

pub invariant_of-self-2 : goal.invariant_of-self-2
invariant_of-self-2 c =
    let long = ap length c.make_room.ensures.items in
    let few = c.in_ok-make_room.ensures.few in
    let room = c.in_ok-make_room.ensures.room in
    let same = c.push_reserved.ensures.capacity in
    refusal_kept c.args.ask c.args.bytes c.args.mark c.requires.0 c.requires.1 c.self.inside c.self.invariant c.lose_open.new.table
    c.lose_open.new.requests c.push_reserved.new.self c.lose_open.ensures.table c.lose_open.ensures.requests
    (c.push_reserved.ensures.items ∙ ap (λ (calls : List Call). calls ++ Deliver c.args.ask c.args.bytes c.args.mark ∷ []) c.make_room.ensures.items)
    (omega (arith, long, few)) (omega (arith, long, room, same))
