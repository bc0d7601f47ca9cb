use Rattle.std.proofs.Common.{◌≡◌, ◌<◌, ◌-◌, ℕ, List, length, set, get_or, take, sym, ◌∙◌, ap, arith}
use Rattle.std.specs.Prelude.{slice_get}
use Rattle.std.proofs.lemmas.Option.{get_or_from_slice_get, slice_get_within}
use Rattle.rl_states.specs.declared.standing.Standing.{Standing}
use Rattle.rl_graph.specs.Graph.{next_in}
use Rattle.rl_states.specs.Cells.{Seen}
use Rattle.rl_states.specs.Standings.{release_at}
use Rattle.rl_states.proofs.StandingsLemmas.{release_none, release_step, release_room, all_rows, length_places}
use Rattle.rl_states.proofs.cells.release.Goals as goal

-- with these standings
abbrev with : Seen → List Standing → Seen
with seen standings = record seen { standings = standings }

pub loop-place-init : goal.loop-place-init
loop-place-init g c = record { value = ap (with c.args.cells.now) (release_none c.args.cells.now.standings); cost = omega arith }

pub user-user-requires-clause-row : goal.user-user-requires-clause-row
user-user-requires-clause-row g c = omega (arith, c.requires.low, ap (λ (s : Seen). length s.users) c.loop-place.invariant.value)

pub user-user-requires-clause-at : goal.user-user-requires-clause-at
user-user-requires-clause-at g c =
    omega (
      arith,
      c.user_count-place-end.ensures,
      c.loop-place-test.true,
      ap (λ (s : Seen). length (next_in s.users c.args.row)) c.loop-place.invariant.value,
    )

pub at-old-requires : goal.at-old-requires
at-old-requires g c =
    let us = next_in c.args.cells.now.users c.args.row in
    let user = ap (λ (s : Seen). slice_get (next_in s.users c.args.row) c.loop-place.place) (sym c.loop-place.invariant.value) ∙ c.user-user.ensures.value in
    let low : c.loop-place.place < length us = slice_get_within us c.loop-place.place c.user-user.result user in
    omega (
      arith,
      c.requires.range c.loop-place.place 0 low,
      get_or_from_slice_get us c.loop-place.place c.user-user.result 0 user,
      ap (λ (s : Seen). length s.standings) c.loop-place.invariant.value,
      length_places (release_at (take c.loop-place.place us)) c.args.cells.now.standings,
    )

pub overflow_sub-standing : goal.overflow_sub-standing
overflow_sub-standing g c =
    let us = next_in c.args.cells.now.users c.args.row in
    let there = ap (λ (s : Seen). slice_get (next_in s.users c.args.row) c.loop-place.place) (sym c.loop-place.invariant.value) ∙
    c.user-user.ensures.value in
    let low : c.loop-place.place < length us = slice_get_within us c.loop-place.place c.user-user.result there in
    let user : get_or us c.loop-place.place 0 ≡ c.user-user.result = get_or_from_slice_get us c.loop-place.place c.user-user.result 0 there in
    let before : List Standing = c.loop-place.cells.standings in
    omega (
      arith,
      ap (λ (k : ℕ). (get_or before k c.at-old.result).waits) user,
      ap (λ (s : Standing). s.waits) (get_or_from_slice_get before c.user-user.result c.at-old.result c.at-old.result c.at-old.ensures.value),
      release_room us c.loop-place.place c.args.cells.now.standings before c.at-old.result (ap (λ (s : Seen). s.standings) c.loop-place.invariant.value) low
          (c.requires.range c.loop-place.place 0 low) c.requires.waiting,
    )

pub loop-place-preserved : goal.loop-place-preserved
loop-place-preserved g c =
    let us = next_in c.args.cells.now.users c.args.row in
    let there = ap (λ (s : Seen). slice_get (next_in s.users c.args.row) c.loop-place.place) (sym c.loop-place.invariant.value) ∙
    c.user-user.ensures.value in
    let low : c.loop-place.place < length us = slice_get_within us c.loop-place.place c.user-user.result there in
    let user : get_or us c.loop-place.place 0 ≡ c.user-user.result = get_or_from_slice_get us c.loop-place.place c.user-user.result 0 there in
    let before : List Standing = c.loop-place.cells.standings in
    record {
      value =
          c.set.ensures.value
          ∙ ap (λ (s : Seen). with s (set before c.user-user.result (record c.at-old.result { waits = c.at-old.result.waits - 1 })))
          c.loop-place.invariant.value
          ∙ ap (λ (s : Standing). with c.args.cells.now (set before c.user-user.result (record s { waits = s.waits - 1 })))
          (sym (get_or_from_slice_get before c.user-user.result c.at-old.result c.at-old.result c.at-old.ensures.value))
          ∙ ap (λ (k : ℕ). with c.args.cells.now (set before k (record (get_or before k c.at-old.result)
          { waits = (get_or before k c.at-old.result).waits - 1 }))) (sym user)
          ∙ ap (with c.args.cells.now)
          (release_step us c.loop-place.place c.args.cells.now.standings before c.at-old.result
          (ap (λ (s : Seen). s.standings) c.loop-place.invariant.value) low (c.requires.range c.loop-place.place 0 low));
      cost = omega (arith, c.loop-place.invariant.cost, c.user-user.ensures.cost, c.at-old.ensures.cost, c.set.ensures.cost);
    }

pub returns-clause-value : goal.returns-clause-value
returns-clause-value g c =
    c.loop-place.invariant.value
    ∙ ap (with c.args.cells.now) (sym (ap (λ (s : Seen). s.standings) c.loop-place.invariant.value)
    ∙ all_rows release_at (next_in c.args.cells.now.users c.args.row) c.loop-place.place c.args.cells.now.standings c.loop-place.cells.standings
    (ap (λ (s : Seen). s.standings) c.loop-place.invariant.value) (omega (arith, c.user_count-place-end.ensures, c.loop-place-test.false)))

pub returns-clause-cost : goal.returns-clause-cost
returns-clause-cost g c = omega (arith, c.loop-place.invariant.cost, c.user_count-place-end.ensures, c.loop-place.auto.place-end)
