use Rattle.std.proofs.Common.{◌≡◌, ℕ, List, length, map, sym, subst, ◌∙◌, ap, arith}
use Rattle.rl_view_spec.specs.Progress.{Cell, Progress}
use Rattle.rl_states.specs.Cells.{Seen}
use Rattle.rl_states.specs.Changes.{after_touch}
use Rattle.rl_states.specs.Credit.{credit}
use Rattle.rl_states.proofs.CreditLemmas.{credit_after}
use Rattle.rl_states.specs.Kept.{IsTable, progress_in}
use Rattle.rl_states.specs.Standings.{by_place, cell_of, touch_at}
use Rattle.rl_states.proofs.ChangesLemmas.{kept_touch, touch_cells}
use Rattle.rl_states.proofs.table.Table.touch.Goals as goal

-- the cells after the write are those that are seen
seen_touch : (rows : List ℕ) (t : Progress) (old new : Seen) → t.cells ≡ map cell_of old.standings →
    new ≡ record old { standings = by_place (touch_at rows) old.standings } → (after_touch rows t).cells ≡ map cell_of new.standings
seen_touch rows t old new cells e = touch_cells rows t old.standings cells ∙ ap (λ (s : Seen). map cell_of s.standings) (sym e)

kept_seen : (rows : List ℕ) (t : Progress) (old new : Seen) → IsTable t old.standings old.users old.spoiled →
    new ≡ record old { standings = by_place (touch_at rows) old.standings }
    → IsTable (record t { cells = map cell_of new.standings }) new.standings new.users new.spoiled
kept_seen rows t old new k e =
    subst (λ (cells : List Cell). IsTable (record t { cells = cells }) new.standings new.users new.spoiled) (seen_touch rows t old new k.cells e)
    (subst (λ (s : Seen). IsTable (after_touch rows t) s.standings s.users s.spoiled) (sym e) (kept_touch rows t old.standings old.users old.spoiled k))

pub touch_all-requires : goal.touch_all-requires
touch_all-requires g c = λ k d low. omega (
  arith,
  c.requires k d low,
  ap (λ (t : Progress). length t.registered.rows) c.self.view_is,
  c.self.invariant.table.long,
)

pub invariant_of-self : goal.invariant_of-self
invariant_of-self g c = record {
  table = kept_seen c.args.rows.now (progress_in c.self.inside) c.self.inside.cells c.touch_all.new.cells c.self.invariant.table c.touch_all.ensures.value;
  paired = c.self.invariant.paired;
  room = c.self.invariant.room;
  room_beside = c.self.invariant.room_beside;
}

pub returns-clause-value : goal.returns-clause-value
returns-clause-value g c =
    let t : Progress = progress_in c.self.inside in
    ap (λ (cells : List Cell). record t { cells = cells })
    (sym (seen_touch c.args.rows.now t c.self.inside.cells c.touch_all.new.cells c.self.invariant.table.cells c.touch_all.ensures.value))
    ∙ ap (after_touch c.args.rows.now) c.self.view_is

pub returns-clause-cost : goal.returns-clause-cost
returns-clause-cost g c =
    let t : Progress = progress_in c.self.inside in
    let view = ap (λ (cells : List Cell). record t { cells = cells })
    (sym (seen_touch c.args.rows.now t c.self.inside.cells c.touch_all.new.cells c.self.invariant.table.cells c.touch_all.ensures.value)) in
    omega (
      arith,
      c.touch_all.ensures.cost,
      ap credit view,
      ap credit c.self.view_is,
      credit_after t (after_touch c.args.rows.now t).cells t.ran t.executing c.self.inside.cells.users c.self.inside.cells.spoiled
          c.self.inside.cells.spoiled (λ k. 0) c.self.invariant.table.distinct c.self.invariant.table.indexed c.self.invariant.table.spoiled
          (kept_touch c.args.rows.now t c.self.inside.cells.standings c.self.inside.cells.users c.self.inside.cells.spoiled
          c.self.invariant.table).spoiled (λ k h. h) (λ k low. omega arith),
    )
