use Rattle.std.proofs.Common.{Some, [], ◌≡◌, ◌<◌, ap, ◌∙◌, sym, subst, arith, length}
use Rattle.std.specs.Vec.{vec_capacity}
use Rattle.std.proofs.lemmas.Grind.{common_steps}
use Rattle.rl_pages.specs.History.{History, Fits}
use Rattle.rl_pages.specs.Index.{IsIndexed}
use Rattle.rl_pages.proofs.ChoiceLemmas.{befores_length}
use Rattle.rl_pages.proofs.IndexLemmas.{roomier, with_room}
use Rattle.rl_pages.proofs.pages.Pages.make_room.Goals as goal

pub invariant_of-self-in_err-make_place_of_chooser : goal.invariant_of-self-in_err-make_place_of_chooser
invariant_of-self-in_err-make_place_of_chooser c =
    let a = c.in_ok-reserve.ensures in
    let b = c.in_ok-reserve-2.ensures in
    roomier c.self.inside.entries.items c.reserve.new.self.items c.self.inside.bytes _ _ c.self.inside.numbers c.make_place_for.new.numbers
    c.self.inside.before.items c.reserve-2.new.self.items _ _ c.self.inside.choosers c.make_place_of_chooser.new.choosers c.self.inside.room
    a.items b.items a.capacity b.capacity c.make_place_for.ensures.same c.make_place_for.ensures.kept c.make_place_of_chooser.ensures.same
    c.make_place_of_chooser.ensures.kept c.self.invariant

pub invariant_of-self-2 : goal.invariant_of-self-2
invariant_of-self-2 c =
    let a = c.in_ok-reserve.ensures in
    let b = c.in_ok-reserve-2.ensures in
    let copy : c.in_ok-kept.kept ≡ c.args.entry = c.in_ok-kept.ensures in
    let fits : Fits c.self.inside.entries.items c.args.entry = subst (λ (h : History). Fits h.entries c.args.entry) (sym c.self.view_is) c.requires.fits in
    let room : length c.reserve.new.self.items < vec_capacity c.reserve.new.self = grind (arith, common_steps) in
    let as_many : length c.reserve-2.new.self.items ≡ length c.reserve.new.self.items
    = ap length (b.items ∙ c.self.invariant.linked) ∙ befores_length [] c.self.inside.entries.items ∙ ap length (sym a.items) in
    let links : length c.reserve.new.self.items < vec_capacity c.reserve-2.new.self = grind (arith, common_steps) in
    subst (λ e. IsIndexed c.reserve.new.self.items c.self.inside.bytes (vec_capacity c.reserve.new.self) c.make_place_for.new.numbers
    c.reserve-2.new.self.items (vec_capacity c.reserve-2.new.self) c.make_place_of_chooser.new.choosers (Some e)) (sym copy)
    (with_room c.reserve.new.self.items c.self.inside.bytes _ c.make_place_for.new.numbers c.reserve-2.new.self.items _
    c.make_place_of_chooser.new.choosers c.self.inside.room c.args.entry (
      subst (λ xs. Fits xs c.args.entry) (sym a.items) fits,
      c.requires.kept,
      room,
      c.in_ok-make_place_for.ensures.place,
      links,
      c.in_ok-make_place_of_chooser.ensures.place,
    )
    (roomier c.self.inside.entries.items c.reserve.new.self.items c.self.inside.bytes _ _ c.self.inside.numbers c.make_place_for.new.numbers
    c.self.inside.before.items c.reserve-2.new.self.items _ _ c.self.inside.choosers c.make_place_of_chooser.new.choosers c.self.inside.room
    a.items b.items a.capacity b.capacity c.make_place_for.ensures.same c.make_place_for.ensures.kept c.make_place_of_chooser.ensures.same
    c.make_place_of_chooser.ensures.kept c.self.invariant))
