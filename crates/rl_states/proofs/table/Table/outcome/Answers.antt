use Rattle.std.proofs.Common.{◌≡◌, ◌+◌, ◌<◌, ◌≤◌, ℕ, List, true, None, length, map, set, sym, subst, ◌∙◌, ap, arith, refl}
use Rattle.std.specs.Prelude.{slice_get, Some}
use Rattle.std.proofs.lemmas.Option.{get_or_from_slice_get}
use Rattle.rl_view_spec.specs.declared.Outcome.{Outcome}
use Rattle.rl_view_spec.specs.Progress.{Cell, Progress, is_touched_at, outcome_at}
use Rattle.rl_states.specs.declared.standing.Standing.{Standing}
use Rattle.rl_states.specs.Cells.{Seen}
use Rattle.rl_states.specs.Changes.{after_outcome}
use Rattle.rl_states.specs.Credit.{credit}
use Rattle.rl_states.specs.Spoiled.{left, weight}
use Rattle.rl_states.proofs.CreditLemmas.{credit_after}
use Rattle.rl_states.specs.Kept.{IsTable, AreSpoiled, progress_in}
use Rattle.rl_states.specs.Standings.{by_place, cell_of}
use Rattle.rl_states.proofs.ChangesLemmas.{users_within, users_closed, spoiled_more, spoiled_kept, broken_lost, touched_low, answer_at, answer_cells}
use Rattle.rl_states.proofs.ChangesLemmas.{kept_outcome, written}
use Rattle.rl_states.proofs.SeenLemmas.{seen_closed, seen_long, seen_low, seen_marks, seen_spoiled, seen_spreads, seen_within}
use Rattle.rl_states.proofs.table.Table.outcome.Goals as goal

-- a table that sees this, after the write
table_of : (t : Progress) (old new : Seen) (row : ℕ) (o : Outcome) → IsTable t old.standings old.users old.spoiled → is_touched_at t row ≡ true
    → new.standings ≡ by_place (answer_at row o) old.standings → new.users ≡ old.users → AreSpoiled (after_outcome row o t) new.spoiled
    → IsTable (record t { cells = map cell_of new.standings }) new.standings new.users new.spoiled
table_of t old new row o k touched e users spoiled =
    subst (λ (cells : List Cell). IsTable (record t { cells = cells }) new.standings new.users new.spoiled)
    (answer_cells row o t old.standings k.cells (touched_low t old.standings row k.cells touched) touched ∙ ap (map cell_of) (sym e))
    (subst (λ (ss : List Standing). IsTable (after_outcome row o t) ss new.users new.spoiled) (sym e)
    (subst (λ (us : List (List ℕ)). IsTable (after_outcome row o t) (by_place (answer_at row o) old.standings) us new.spoiled) (sym users)
    (kept_outcome row o t old.standings old.users old.spoiled new.spoiled k touched spoiled)))

-- what the caller knows of the progress is known of the fields
touched_in : (t u : Progress) (row : ℕ) → t ≡ u → is_touched_at u row ≡ true → is_touched_at t row ≡ true
touched_in t u row e h = ap (λ (p : Progress). is_touched_at p row) e ∙ h

unanswered_in : (t u : Progress) (row : ℕ) → t ≡ u → outcome_at u row ≡ None → outcome_at t row ≡ None
unanswered_in t u row e h = ap (λ (p : Progress). outcome_at p row) e ∙ h

-- the progress after the write
view_of : (t u : Progress) (standings standings' : List Standing) (row : ℕ) (o : Outcome) → t.cells ≡ map cell_of standings → t ≡ u →
    is_touched_at t row ≡ true → standings' ≡ by_place (answer_at row o) standings
    → record t { cells = map cell_of standings' } ≡ after_outcome row o u
view_of t u standings standings' row o e is touched w =
    ap (λ (cells : List Cell). record t { cells = cells }) (ap (map cell_of) w
    ∙ sym (answer_cells row o t standings e (touched_low t standings row e touched) touched)) ∙ ap (after_outcome row o) is

-- the write, as a change of each row
answered : (row : ℕ) (o : Outcome) (standings : List Standing) (s : Standing) → slice_get standings row ≡ Some s → row < length standings
    → set standings row (record s { outcome = Some o }) ≡ by_place (answer_at row o) standings
answered row o standings s at low = written row o standings s low (sym (get_or_from_slice_get standings row s s at))

pub at-old-requires : goal.at-old-requires
at-old-requires g c =
    let touched = touched_in (progress_in c.self.inside) c.args.self.now c.args.row c.self.view_is c.requires.touched in
    omega (arith, touched_low (progress_in c.self.inside) c.self.inside.cells.standings c.args.row c.self.invariant.table.cells touched)

pub spoil-requires-clause-long : goal.spoil-requires-clause-long
spoil-requires-clause-long g c =
    seen_long c.self.inside.cells c.set.new.self _ c.set.ensures.value
    (omega (arith, c.self.invariant.table.spoiled.long, c.self.invariant.table.indexed.long))

pub spoil-requires-clause-low : goal.spoil-requires-clause-low
spoil-requires-clause-low g c =
    let touched = touched_in (progress_in c.self.inside) c.args.self.now c.args.row c.self.view_is c.requires.touched in
    seen_low c.self.inside.cells c.set.new.self _ c.set.ensures.value c.args.row
    (omega (
      arith,
      touched_low (progress_in c.self.inside) c.self.inside.cells.standings c.args.row c.self.invariant.table.cells touched,
      c.self.invariant.table.long,
      c.self.invariant.table.spoiled.long,
    ))

pub spoil-requires-clause-within : goal.spoil-requires-clause-within
spoil-requires-clause-within g c =
    seen_within c.self.inside.cells c.set.new.self _ c.set.ensures.value
    (users_within c.self.inside.registry c.self.inside.cells.users c.self.invariant.table.indexed)

pub spoil-requires-clause-closed : goal.spoil-requires-clause-closed
spoil-requires-clause-closed g c =
    seen_closed c.self.inside.cells c.set.new.self _ c.set.ensures.value
    (users_closed (progress_in c.self.inside) c.self.inside.cells.users c.self.inside.cells.spoiled c.self.invariant.table.indexed
    c.self.invariant.table.spoiled)

pub invariant_of-self : goal.invariant_of-self
invariant_of-self g c =
    let t : Progress = progress_in c.self.inside in
    let old : Seen = c.self.inside.cells in
    let new : Seen = c.spoil.new.self in
    let touched : is_touched_at t c.args.row ≡ true = touched_in t c.args.self.now c.args.row c.self.view_is c.requires.touched in
    let none : outcome_at t c.args.row ≡ None = unanswered_in t c.args.self.now c.args.row c.self.view_is c.requires.first in
    let low : c.args.row < length old.standings = touched_low t old.standings c.args.row c.self.invariant.table.cells touched in
    let is = seen_spoiled old c.set.new.self _ c.set.ensures.value new c.spoil.ensures.rest in
    record {
      table = table_of t old new c.args.row c.args.outcome c.self.invariant.table touched
          (ap (λ (s : Seen). s.standings) is ∙ answered c.args.row c.args.outcome old.standings c.at-old.result c.at-old.ensures.value low)
          (ap (λ (s : Seen). s.users) is)
          (spoiled_more t (after_outcome c.args.row c.args.outcome t) old.users c.args.row old.spoiled new.spoiled refl
          (λ k. broken_lost c.args.row c.args.outcome t k touched none (sym c.is_lost.ensures ∙ c.if-is_lost.true))
          (omega (arith, low, c.self.invariant.table.long)) c.self.invariant.table.indexed c.self.invariant.table.spoiled
          (seen_marks old c.set.new.self _ c.set.ensures.value new.spoiled c.spoil.ensures.long)
          (seen_spreads old c.set.new.self _ c.set.ensures.value c.args.row new.spoiled c.spoil.ensures.spreads));
      paired = c.self.invariant.paired;
      room = c.self.invariant.room;
      room_beside = c.self.invariant.room_beside;
    }

pub invariant_of-self-else-is_lost : goal.invariant_of-self-else-is_lost
invariant_of-self-else-is_lost g c =
    let t : Progress = progress_in c.self.inside in
    let old : Seen = c.self.inside.cells in
    let new : Seen = c.set.new.self in
    let touched : is_touched_at t c.args.row ≡ true = touched_in t c.args.self.now c.args.row c.self.view_is c.requires.touched in
    let none : outcome_at t c.args.row ≡ None = unanswered_in t c.args.self.now c.args.row c.self.view_is c.requires.first in
    let low : c.args.row < length old.standings = touched_low t old.standings c.args.row c.self.invariant.table.cells touched in
    record {
      table = table_of t old new c.args.row c.args.outcome c.self.invariant.table touched
          (ap (λ (s : Seen). s.standings) c.set.ensures.value
          ∙ answered c.args.row c.args.outcome old.standings c.at-old.result c.at-old.ensures.value low)
          (ap (λ (s : Seen). s.users) c.set.ensures.value)
          (subst (λ (s : Seen). AreSpoiled (after_outcome c.args.row c.args.outcome t) s.spoiled) (sym c.set.ensures.value)
          (spoiled_kept c.args.row c.args.outcome t old.spoiled touched none (sym c.is_lost.ensures ∙ c.if-is_lost.false) c.self.invariant.table.spoiled));
      paired = c.self.invariant.paired;
      room = c.self.invariant.room;
      room_beside = c.self.invariant.room_beside;
    }

pub returns-then-is_lost-clause-value : goal.returns-then-is_lost-clause-value
returns-then-is_lost-clause-value g c =
    let t : Progress = progress_in c.self.inside in
    let old : Seen = c.self.inside.cells in
    let touched : is_touched_at t c.args.row ≡ true = touched_in t c.args.self.now c.args.row c.self.view_is c.requires.touched in
    let low : c.args.row < length old.standings = touched_low t old.standings c.args.row c.self.invariant.table.cells touched in
    view_of t c.args.self.now old.standings c.spoil.new.self.standings c.args.row c.args.outcome c.self.invariant.table.cells c.self.view_is touched
    (ap (λ (s : Seen). s.standings) (seen_spoiled old c.set.new.self _ c.set.ensures.value c.spoil.new.self c.spoil.ensures.rest)
    ∙ answered c.args.row c.args.outcome old.standings c.at-old.result c.at-old.ensures.value low)

pub returns-else-is_lost-clause-value : goal.returns-else-is_lost-clause-value
returns-else-is_lost-clause-value g c =
    let t : Progress = progress_in c.self.inside in
    let old : Seen = c.self.inside.cells in
    let touched : is_touched_at t c.args.row ≡ true = touched_in t c.args.self.now c.args.row c.self.view_is c.requires.touched in
    let low : c.args.row < length old.standings = touched_low t old.standings c.args.row c.self.invariant.table.cells touched in
    view_of t c.args.self.now old.standings c.set.new.self.standings c.args.row c.args.outcome c.self.invariant.table.cells c.self.view_is touched
    (ap (λ (s : Seen). s.standings) c.set.ensures.value
    ∙ answered c.args.row c.args.outcome old.standings c.at-old.result c.at-old.ensures.value low)

pub returns-then-is_lost-clause-cost : goal.returns-then-is_lost-clause-cost
returns-then-is_lost-clause-cost g c =
    let t : Progress = progress_in c.self.inside in
    let old : Seen = c.self.inside.cells in
    let new : Seen = c.spoil.new.self in
    let touched : is_touched_at t c.args.row ≡ true = touched_in t c.args.self.now c.args.row c.self.view_is c.requires.touched in
    let none : outcome_at t c.args.row ≡ None = unanswered_in t c.args.self.now c.args.row c.self.view_is c.requires.first in
    let low : c.args.row < length old.standings = touched_low t old.standings c.args.row c.self.invariant.table.cells touched in
    let view =
    view_of t t old.standings new.standings c.args.row c.args.outcome c.self.invariant.table.cells refl touched
    (ap (λ (s : Seen). s.standings) (seen_spoiled old c.set.new.self _ c.set.ensures.value new c.spoil.ensures.rest)
    ∙ answered c.args.row c.args.outcome old.standings c.at-old.result c.at-old.ensures.value low) in
    let paid = subst (λ (s : Seen). c.spoil.new.steps + left (weight s.users) new.spoiled ≤ c.set.new.steps + left (weight s.users) s.spoiled + 2)
    c.set.ensures.value c.spoil.ensures.cost in
    omega (
      arith,
      c.at-old.ensures.cost,
      c.set.ensures.cost,
      paid,
      ap credit view,
      ap credit c.self.view_is,
      credit_after t (after_outcome c.args.row c.args.outcome t).cells t.ran t.executing old.users old.spoiled new.spoiled (λ k. 0)
          c.self.invariant.table.distinct c.self.invariant.table.indexed c.self.invariant.table.spoiled
          (spoiled_more t (after_outcome c.args.row c.args.outcome t) old.users c.args.row old.spoiled new.spoiled refl
          (λ k. broken_lost c.args.row c.args.outcome t k touched none (sym c.is_lost.ensures ∙ c.if-is_lost.true))
          (omega (arith, low, c.self.invariant.table.long)) c.self.invariant.table.indexed c.self.invariant.table.spoiled
          (seen_marks old c.set.new.self _ c.set.ensures.value new.spoiled c.spoil.ensures.long)
          (seen_spreads old c.set.new.self _ c.set.ensures.value c.args.row new.spoiled c.spoil.ensures.spreads))
          (seen_spreads old c.set.new.self _ c.set.ensures.value c.args.row new.spoiled c.spoil.ensures.spreads).keeps (λ k low. omega arith),
    )

pub returns-else-is_lost-clause-cost : goal.returns-else-is_lost-clause-cost
returns-else-is_lost-clause-cost g c =
    let t : Progress = progress_in c.self.inside in
    let old : Seen = c.self.inside.cells in
    let touched : is_touched_at t c.args.row ≡ true = touched_in t c.args.self.now c.args.row c.self.view_is c.requires.touched in
    let none : outcome_at t c.args.row ≡ None = unanswered_in t c.args.self.now c.args.row c.self.view_is c.requires.first in
    let low : c.args.row < length old.standings = touched_low t old.standings c.args.row c.self.invariant.table.cells touched in
    let view =
    view_of t t old.standings c.set.new.self.standings c.args.row c.args.outcome c.self.invariant.table.cells refl touched
    (ap (λ (s : Seen). s.standings) c.set.ensures.value
    ∙ answered c.args.row c.args.outcome old.standings c.at-old.result c.at-old.ensures.value low) in
    omega (
      arith,
      c.at-old.ensures.cost,
      c.set.ensures.cost,
      ap credit view,
      ap credit c.self.view_is,
      credit_after t (after_outcome c.args.row c.args.outcome t).cells t.ran t.executing old.users old.spoiled old.spoiled (λ k. 0)
          c.self.invariant.table.distinct c.self.invariant.table.indexed c.self.invariant.table.spoiled
          (spoiled_kept c.args.row c.args.outcome t old.spoiled touched none (sym c.is_lost.ensures ∙ c.if-is_lost.false) c.self.invariant.table.spoiled)
          (λ k h. h) (λ k low. omega arith),
    )
