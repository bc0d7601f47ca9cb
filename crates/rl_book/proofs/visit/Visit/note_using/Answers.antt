use Rattle.std.proofs.Common.{◌++◌, ◌∷◌, [], List, length, refl, ap, ap₂, sym, ◌∙◌, arith}
use Rattle.std.specs.Prelude.{reverse}
use Rattle.rl_view_spec.specs.Closure.{Text, Cycle, Unknown}
use Rattle.rl_registry.specs.Answered.{refusal_told}
use Rattle.rl_book_spec.specs.declared.Call.{Call}
use Rattle.rl_book_spec.specs.declared.Call.TheVariants.{Using}
use Rattle.rl_book.specs.Kept.{booked}
use Rattle.rl_book.proofs.CallsLemmas.{note_is}
use Rattle.rl_book.proofs.NotedLemmas.{still_kept}
use Rattle.rl_book.proofs.ServingLemmas.{refusal_here, unserved_kept, using_kept}
use Rattle.rl_book.proofs.visit.Visit.note_using.Goals as goal

pub invariant_of-self : goal.invariant_of-self
invariant_of-self c =
    still_kept c.self.inside c.self.inside.requests c.make_room.new.calls c.self.invariant c.make_room.ensures.items refl c.make_room.ensures.more

pub invariant_of-self-in-Ok : goal.invariant_of-self-in-Ok
invariant_of-self-in-Ok c =
    let names : List Text = c.args.names.now in
    let long = ap length c.make_room.ensures.items in
    let few = c.in_ok-make_room.ensures.few in
    let room = c.in_ok-make_room.ensures.room in
    let same = c.push_reserved.ensures.capacity in
    using_kept c.self.inside c.args.self.now c.self.invariant c.self.view_is c.requires names c.request-done.new.table c.request-done.new.requests
    c.push_reserved.new.self c.in-Ok.ensures.asks.0 c.in-Ok.ensures.asks.1
    (c.push_reserved.ensures.items ∙ ap₂ (λ (calls : List Call) (names : List Text). calls ++ Using names ∷ []) c.make_room.ensures.items
    (c.of-names.ensures ∙ c.in_ok-copies.ensures))
    (omega (arith, long, few)) (omega (arith, long, room, same))

pub returns-in-Ok : goal.returns-in-Ok
returns-in-Ok c = (
  sym (refusal_here c.self.inside c.args.self.now c.self.invariant c.self.view_is c.requires c.args.names.now) ∙ c.in-Ok.ensures.asks.0,
  note_is c.self.inside c.args.self.now (Using c.args.names.now) c.push_reserved.new.self.items c.self.view_is
      (c.push_reserved.ensures.items ∙ ap₂ (λ (calls : List Call) (names : List Text). calls ++ Using names ∷ []) c.make_room.ensures.items
      (c.of-names.ensures ∙ c.in_ok-copies.ensures)),
)

pub invariant_of-self-in-Err-Unknown : goal.invariant_of-self-in-Err-Unknown
invariant_of-self-in-Err-Unknown c =
    unserved_kept c.self.inside c.request-done.new.table c.request-done.new.requests c.make_room.new.calls c.self.invariant
    c.in-Err-Unknown.ensures.err.table c.in-Err-Unknown.ensures.err.requests c.make_room.ensures.items c.make_room.ensures.more

pub returns-in-Err-Unknown : goal.returns-in-Err-Unknown
returns-in-Err-Unknown c = (
  sym (refusal_here c.self.inside c.args.self.now c.self.invariant c.self.view_is c.requires c.args.names.now)
      ∙ c.in-Err-Unknown.ensures.asks (Unknown c.in-Err-Unknown.name) (ap refusal_told c.in-Err-Unknown.field-0-is),
  ap (λ (calls : List Call). record (booked c.self.inside) { past = reverse calls }) c.make_room.ensures.items ∙ c.self.view_is,
)

pub invariant_of-self-in-Err-Cycle : goal.invariant_of-self-in-Err-Cycle
invariant_of-self-in-Err-Cycle c =
    unserved_kept c.self.inside c.request-done.new.table c.request-done.new.requests c.make_room.new.calls c.self.invariant
    c.in-Err-Cycle.ensures.err.table c.in-Err-Cycle.ensures.err.requests c.make_room.ensures.items c.make_room.ensures.more

pub returns-in-Err-Cycle : goal.returns-in-Err-Cycle
returns-in-Err-Cycle c = (
  sym (refusal_here c.self.inside c.args.self.now c.self.invariant c.self.view_is c.requires c.args.names.now)
      ∙ c.in-Err-Cycle.ensures.asks (Cycle c.in-Err-Cycle.name) (ap refusal_told c.in-Err-Cycle.field-0-is),
  ap (λ (calls : List Call). record (booked c.self.inside) { past = reverse calls }) c.make_room.ensures.items ∙ c.self.view_is,
)

pub invariant_of-self-in-Err-NoMemory : goal.invariant_of-self-in-Err-NoMemory
invariant_of-self-in-Err-NoMemory c =
    unserved_kept c.self.inside c.request-done.new.table c.request-done.new.requests c.make_room.new.calls c.self.invariant
    c.in-Err-NoMemory.ensures.err.table c.in-Err-NoMemory.ensures.err.requests c.make_room.ensures.items c.make_room.ensures.more
