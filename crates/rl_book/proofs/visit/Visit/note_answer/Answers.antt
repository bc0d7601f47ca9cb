use Rattle.std.proofs.Common.{◌++◌, ◌∷◌, [], ◌<◌, List, length, refl, ap, sym, subst, ◌∙◌, arith}
use Rattle.rl_book_spec.specs.Kept.{traffic_in}
use Rattle.rl_book_spec.specs.Traffic.{Traffic}
use Rattle.rl_book_spec.specs.declared.Call.{Call}
use Rattle.rl_book_spec.specs.declared.Call.TheVariants.{Deliver}
use Rattle.rl_book.proofs.AnswerLemmas.{answer_kept, answer_took, ask_within, untaken_kept}
use Rattle.rl_book.proofs.CallsLemmas.{third_within}
use Rattle.rl_book.proofs.NotedLemmas.{still_kept}
use Rattle.rl_book.proofs.visit.Visit.note_answer.Goals as goal

pub invariant_of-self : goal.invariant_of-self
invariant_of-self c =
    still_kept c.self.inside c.self.inside.requests c.make_room.new.calls c.self.invariant c.make_room.ensures.items refl c.make_room.ensures.more

pub deliver_parts-requires-clause-ask : goal.deliver_parts-requires-clause-ask
deliver_parts-requires-clause-ask c =
    subst (λ (t : Traffic). c.args.ask < length t.asks) (sym (c.self.invariant.requests ∙ ap traffic_in c.self.view_is))
    (ask_within (traffic_in c.args.self.now) c.args.ask c.requires.asked.0 c.requires.asked.1)

pub deliver_parts-requires-clause-within : goal.deliver_parts-requires-clause-within
deliver_parts-requires-clause-within c = λ pair there. third_within c.self.inside c.args.ask pair c.self.invariant there

pub invariant_of-self-in_err-took : goal.invariant_of-self-in_err-took
invariant_of-self-in_err-took c =
    untaken_kept c.self.inside c.deliver_parts.new.table c.deliver_parts.new.delivered c.deliver_parts.new.requests c.make_room.new.calls
    c.self.invariant c.in_err-took.ensures.err.table c.in_err-took.ensures.err.kept c.in_err-took.ensures.err.requests c.make_room.ensures.items
    c.make_room.ensures.more

pub invariant_of-self-2 : goal.invariant_of-self-2
invariant_of-self-2 c =
    let long = ap length c.make_room.ensures.items in
    let few = c.in_ok-make_room.ensures.few in
    let room = c.in_ok-make_room.ensures.room in
    let same = c.push_reserved.ensures.capacity in
    answer_kept c.self.inside c.args.self.now c.self.invariant c.self.view_is c.requires.rests c.args.ask c.args.bytes c.args.mark c.args.parts.items
    c.requires.read c.requires.asked.0 c.requires.asked.1 c.in_ok-took.took c.deliver_parts.new.table c.deliver_parts.new.delivered
    c.deliver_parts.new.requests c.in_ok-took.ensures.ok c.push_reserved.new.self
    (c.push_reserved.ensures.items ∙ ap (λ (calls : List Call). calls ++ Deliver c.args.ask c.args.bytes c.args.mark ∷ []) c.make_room.ensures.items)
    (omega (arith, long, few)) (omega (arith, long, room, same))

pub returns-clause-took : goal.returns-clause-took
returns-clause-took c =
    answer_took c.self.inside c.args.self.now c.self.invariant c.self.view_is c.requires.rests c.args.ask c.args.bytes c.args.mark c.args.parts.items
    c.requires.read c.requires.asked.0 c.requires.asked.1 c.in_ok-took.took c.deliver_parts.new.table c.deliver_parts.new.delivered
    c.deliver_parts.new.requests c.in_ok-took.ensures.ok
