use Rattle.std.proofs.Common.{◌++◌, ◌∷◌, [], List, length, refl, ap, ap₂, ◌∙◌, arith}
use Rattle.rl_view_spec.specs.Closure.{Text}
use Rattle.rl_book_spec.specs.declared.Call.{Call}
use Rattle.rl_book_spec.specs.declared.Call.TheVariants.{Load}
use Rattle.rl_book.proofs.CallsLemmas.{note_is}
use Rattle.rl_book.proofs.LoadingLemmas.{dropped_here, load_kept}
use Rattle.rl_book.proofs.NotedLemmas.{still_kept}
use Rattle.rl_book.proofs.ServingLemmas.{unserved_kept}
use Rattle.rl_book.proofs.visit.Visit.note_load.Goals as goal

pub invariant_of-self : goal.invariant_of-self
invariant_of-self c =
    still_kept c.self.inside c.self.inside.requests c.make_room.new.calls c.self.invariant c.make_room.ensures.items refl c.make_room.ensures.more

pub invariant_of-self-in_err-dropped : goal.invariant_of-self-in_err-dropped
invariant_of-self-in_err-dropped c =
    unserved_kept c.self.inside c.load.new.table c.load.new.requests c.make_room.new.calls c.self.invariant
    c.in_err-dropped.ensures.err.table c.in_err-dropped.ensures.err.requests c.make_room.ensures.items c.make_room.ensures.more

pub invariant_of-self-2 : goal.invariant_of-self-2
invariant_of-self-2 c =
    let names : List Text = c.args.names.now in
    let long = ap length c.make_room.ensures.items in
    let few = c.in_ok-make_room.ensures.few in
    let room = c.in_ok-make_room.ensures.room in
    let same = c.push_reserved.ensures.capacity in
    load_kept c.self.inside c.args.self.now c.self.invariant c.self.view_is c.requires names c.in_ok-dropped.dropped c.load.new.table
    c.load.new.requests c.in_ok-dropped.ensures.ok c.push_reserved.new.self
    (c.push_reserved.ensures.items ∙ ap₂ (λ (calls : List Call) (names : List Text). calls ++ Load names ∷ []) c.make_room.ensures.items
    (c.of-names.ensures ∙ c.in_ok-copies.ensures))
    (omega (arith, long, few)) (omega (arith, long, room, same))

pub returns : goal.returns
returns c =
    let names : List Text = c.args.names.now in (
      dropped_here c.self.inside c.args.self.now c.self.invariant c.self.view_is c.requires names c.in_ok-dropped.dropped c.load.new.table
          c.load.new.requests c.in_ok-dropped.ensures.ok,
      note_is c.self.inside c.args.self.now (Load names) c.push_reserved.new.self.items c.self.view_is
          (c.push_reserved.ensures.items ∙ ap₂ (λ (calls : List Call) (names : List Text). calls ++ Load names ∷ []) c.make_room.ensures.items
          (c.of-names.ensures ∙ c.in_ok-copies.ensures)),
    )
