use Rattle.std.proofs.Common.{◌≡◌, ap, sym, subst, ◌∙◌, Some, None}
use Rattle.std.specs.Prelude.{IsTrue, IsFalse}
use Rattle.rl_view_spec.specs.Closure.{Registered, has_row}
use Rattle.rl_view_spec.specs.Numbers.{number_of}
use Rattle.rl_view_spec.specs.View.{state_of}
use Rattle.rl_book_spec.specs.Kept.{Booked, events_in, view_in}
use Rattle.rl_book.specs.Calls.{Rests}
use Rattle.rl_book.proofs.LookingLemmas.{no_row, some_row, state_then}
use Rattle.rl_book.proofs.visit.Visit.state_of.Goals as goal

pub returns-in-Some : goal.returns-in-Some
returns-in-Some c =
    let name = c.args.name.now in
    let there : number_of c.self.inside.table.registered name ≡ Some c.in-Some.row =
    ap (λ (r : Registered). number_of r name) (sym c.registry.ensures) ∙ (sym c.find.ensures.value ∙ c.in-Some.is) in
    subst (λ (b : Booked). IsTrue (has_row b.opening.registered name)
    × (Rests b → c.state.result ≡ state_of (view_in b) (events_in b) name)) c.self.view_is (
      some_row c.self.inside name c.in-Some.row c.self.invariant there,
      state_then c.self.inside name c.in-Some.row c.state.result c.self.invariant there c.state.ensures.resting,
    )

pub returns-in-None : goal.returns-in-None
returns-in-None c =
    let name = c.args.name.now in
    let there : number_of c.self.inside.table.registered name ≡ None =
    ap (λ (r : Registered). number_of r name) (sym c.registry.ensures) ∙ (sym c.find.ensures.value ∙ c.in-None.is) in
    subst (λ (b : Booked). IsFalse (has_row b.opening.registered name)) c.self.view_is (no_row c.self.inside name c.self.invariant there)
