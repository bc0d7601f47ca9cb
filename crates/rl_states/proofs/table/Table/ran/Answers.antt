use Rattle.std.proofs.Common.{◌≡◌, ◌<◌, ◌≤◌, ◌++◌, ◌∷◌, [], ℕ, List, Bool, true, false, nat_eq, Some, length, refl, sym, subst}
use Rattle.std.proofs.Common.{◌∙◌, ap, ap₂, arith, length-append, map, not, None, set, ◌+◌}
use Rattle.std.specs.Prelude.{count_by, slice_get, vec_capacity, All}
use Rattle.std.specs.List.{zip}
use Rattle.std.proofs.lemmas.List.{length-set}
use Rattle.std.proofs.lemmas.Option.{get_or_from_slice_get}
use Rattle.std.proofs.lemmas.Slice.Zip.{length-zip}
use Rattle.rl_view_spec.specs.Progress.{Progress}
use Rattle.rl_graph.specs.Marks.{Spreads}
use Rattle.rl_states.specs.declared.standing.Standing.{Standing}
use Rattle.rl_states.specs.declared.table.Table.TheInside.{Inside}
use Rattle.rl_states.specs.Cells.{Seen}
use Rattle.rl_states.specs.Changes.{after_ran}
use Rattle.rl_states.specs.Credit.{credit}
use Rattle.rl_states.specs.Spoiled.{left, weight}
use Rattle.rl_states.proofs.CreditLemmas.{credit_thrown, credit_well}
use Rattle.rl_states.specs.Kept.{AreSpoiled, IsKept, IsRunning, IsTable, progress_in}
use Rattle.rl_graph.specs.Graph.{next_in}
use Rattle.rl_states.specs.Standings.{by_place, cell_of, release_at}
use Rattle.rl_states.proofs.ChangesLemmas.{users_within, users_closed, spoiled_more}
use Rattle.rl_states.proofs.RunsLemmas.{running_in, ran_at, ran_written, broken_thrown, thrown_table, thrown_view, well_table, well_view, waits_enough}
use Rattle.rl_states.proofs.RunsLemmas.{users_low, zip_push}
use Rattle.rl_states.proofs.SeenLemmas.{seen_closed, seen_long, seen_low, seen_marks, seen_spoiled, seen_spreads, seen_within}
use Rattle.rl_states.proofs.TablesLemmas.{fewer_ran}
use Rattle.rl_states.proofs.table.Table.ran.Goals as goal

-- ---- the row that runs

runs : (inside : Inside) (now : Progress) (row : ℕ) → IsKept inside → progress_in inside ≡ now → now.executing ≡ Some row → IsRunning (progress_in inside) row
runs inside now row kept is executing =
    running_in (progress_in inside) now row inside.cells.standings inside.cells.users inside.cells.spoiled kept.table is executing

low_in : (inside : Inside) (row : ℕ) → IsKept inside → IsRunning (progress_in inside) row → row < length inside.cells.standings
low_in inside row kept m = omega (arith, m.inside, kept.table.long)

-- there is room to note it
room_in : (inside : Inside) (row : ℕ) → IsKept inside → IsRunning (progress_in inside) row
    → (length inside.log.items < vec_capacity inside.log) × (length inside.threw.items < vec_capacity inside.threw)
room_in inside row kept m =
    let fewer = fewer_ran (progress_in inside) inside.cells.standings inside.cells.users inside.cells.spoiled row kept.table m in
    let paired = length-zip inside.log.items inside.threw.items in
    (omega (arith, fewer, paired, kept.paired, kept.room), omega (arith, fewer, paired, kept.paired, kept.room_beside))

ran_more : (xs xs' : List ℕ) (ys ys' : List Bool) (x : ℕ) (y : Bool) → length ys ≡ length xs → xs' ≡ xs ++ x ∷ [] → ys' ≡ ys ++ y ∷ [] →
    zip xs' ys' ≡ zip xs ys ++ (x, y) ∷ []
ran_more xs xs' ys ys' x y e f g = ap₂ zip f g ∙ zip_push xs ys x y e

paired_more : (xs xs' : List ℕ) (ys ys' : List Bool) (x : ℕ) (y : Bool) → length ys ≡ length xs → xs' ≡ xs ++ x ∷ [] →
    ys' ≡ ys ++ y ∷ [] → length ys' ≡ length xs'
paired_more xs xs' ys ys' x y e f g = omega (arith, e, ap length f, ap length g, length-append xs (x ∷ []), length-append ys (y ∷ []))

enough : (t : Progress) (row : ℕ) (threw : Bool) (us : List ℕ) (standings standings' : List Standing) (users : List (List ℕ)) (marks : List Bool) →
    IsTable t standings users marks → IsRunning t row → threw ≡ false → us ≡ next_in users row
    → standings' ≡ by_place (ran_at row threw) standings → (k : ℕ) (s : Standing) → slice_get standings' k ≡ Some s →
    count_by (nat_eq k) us ≤ s.waits
enough t row true us standings standings' users marks k m e l w j s at = cc
enough t row false us standings standings' users marks k m e l w j s at =
    omega (arith, waits_enough t row standings users marks k m j s (ap (λ (ss : List Standing). slice_get ss j) (sym w) ∙ at), ap (count_by (nat_eq j)) l)

-- the write, as a change of each row
ran_set : (row : ℕ) (threw : Bool) (standings : List Standing) (s : Standing) → slice_get standings row ≡ Some s → row < length standings
    → set standings row (record s { ran = true; done = not threw }) ≡ by_place (ran_at row threw) standings
ran_set row threw standings s at low = ran_written row threw standings s low (sym (get_or_from_slice_get standings row s s at))

-- ---- what is seen afterwards

-- the progress of a table that has noted these rows
abbrev noted : Inside → List ℕ → List Bool → Seen → Progress
noted inside log threws new = record { registered = inside.registry; cells = map cell_of new.standings; ran = zip log threws; executing = None }

-- the table agrees with the progress, which is that after the run
record Notes (inside : Inside) (row : ℕ) (threw : Bool) (log : List ℕ) (threws : List Bool) (new : Seen) : Type 0 where
  table : IsTable (noted inside log threws new) new.standings new.users new.spoiled
  view : noted inside log threws new ≡ after_ran row threw (progress_in inside)
  paired : length threws ≡ length log

-- a row is noted and its standing written
module _ (inside : Inside) (now : Progress) (row : ℕ) (threw : Bool) (log : List ℕ) (threws : List Bool) (s : Standing) (mid new : Seen) (kept : IsKept inside)
    (is : progress_in inside ≡ now) (executing : now.executing ≡ Some row) (log_is : log ≡ inside.log.items ++ row ∷ [])
    (threws_are : threws ≡ inside.threw.items ++ threw ∷ []) (at : slice_get inside.cells.standings row ≡ Some s)
    (wrote : mid ≡ record inside.cells { standings = set inside.cells.standings row (record s { ran = true; done = not threw }) }) where
  abbrev t : Progress
  t = progress_in inside

  abbrev old : Seen
  old = inside.cells

  m : IsRunning t row
  m = runs inside now row kept is executing

  written : set old.standings row (record s { ran = true; done = not threw }) ≡ by_place (ran_at row threw) old.standings
  written = ran_set row threw old.standings s at (low_in inside row kept m)

  pairs : zip log threws ≡ zip inside.log.items inside.threw.items ++ (row, threw) ∷ []
  pairs = ran_more inside.log.items log inside.threw.items threws row threw kept.paired log_is threws_are

  as_many : length threws ≡ length log
  as_many = paired_more inside.log.items log inside.threw.items threws row threw kept.paired log_is threws_are

  -- it threw, and was spoiled
  module _ (yes : threw ≡ true) (rest : new ≡ record mid { spoiled = new.spoiled }) (long : length new.spoiled ≡ length mid.spoiled)
      (spreads : Spreads mid.users (row ∷ []) mid.spoiled new.spoiled) where
    seen : new ≡ record { standings = set old.standings row (record s { ran = true; done = not threw }); users = old.users; spoiled = new.spoiled }
    seen = seen_spoiled old mid _ wrote new rest

    spread : Spreads old.users (row ∷ []) old.spoiled new.spoiled
    spread = seen_spreads old mid _ wrote row new.spoiled spreads

    spoiled : AreSpoiled (after_ran row true t) new.spoiled
    spoiled = spoiled_more t (after_ran row true t) old.users row old.spoiled new.spoiled refl (broken_thrown t row) m.inside kept.table.indexed
        kept.table.spoiled (seen_marks old mid _ wrote new.spoiled long) spread

    stands : new.standings ≡ by_place (ran_at row threw) old.standings
    stands = ap (λ (x : Seen). x.standings) seen ∙ written

    thrown_noted : Notes inside row threw log threws new
    thrown_noted = record {
      table = subst (λ (us : List (List ℕ)). IsTable (noted inside log threws new) new.standings us new.spoiled) (sym (ap (λ (x : Seen). x.users) seen))
          (thrown_table t row threw old.standings new.standings old.users old.spoiled new.spoiled (zip log threws) kept.table m yes stands pairs spoiled);
      view = thrown_view t row threw old.standings new.standings (zip log threws) kept.table.cells stands pairs;
      paired = as_many;
    }

    thrown_paid : credit (after_ran row threw t) + left (weight old.users) old.spoiled ≤ credit t + left (weight old.users) new.spoiled
    thrown_paid = credit_thrown t row threw old.users old.spoiled new.spoiled kept.table.distinct kept.table.indexed kept.table.spoiled yes spoiled spread.keeps

  -- it did not, and was released
  well_noted : threw ≡ false → new ≡ record mid { standings = by_place (release_at (next_in mid.users row)) mid.standings }
      → Notes inside row threw log threws new
  well_noted not_threw released =
      let seen : new ≡ record old { standings = by_place (release_at (next_in old.users row)) (by_place (ran_at row threw) old.standings) } =
      released ∙ ap (λ (x : Seen). record x { standings = by_place (release_at (next_in x.users row)) x.standings }) wrote
      ∙ ap (λ (ss : List Standing). record old { standings = by_place (release_at (next_in old.users row)) ss }) written in
      record {
        table = subst (λ (x : Seen). IsTable (noted inside log threws x) x.standings x.users x.spoiled) (sym seen)
            (well_table t row threw (next_in old.users row) old.standings
            (by_place (release_at (next_in old.users row)) (by_place (ran_at row threw) old.standings)) old.users old.spoiled (zip log threws) kept.table m not_threw
            refl refl pairs);
        view = well_view t row threw (next_in old.users row) old.standings new.standings (zip log threws) kept.table.cells
            (ap (λ (x : Seen). x.standings) seen) pairs;
        paired = as_many;
      }

-- ---- the answers

pub unwrap-requires : goal.unwrap-requires
unwrap-requires g c =
    let m = runs c.self.inside c.args.self.now c.args.row c.self.invariant c.self.view_is c.requires in
    c.push.ensures.succeeds (omega (arith, (room_in c.self.inside c.args.row c.self.invariant m).0))

pub unwrap-requires-2 : goal.unwrap-requires-2
unwrap-requires-2 g c =
    let m = runs c.self.inside c.args.self.now c.args.row c.self.invariant c.self.view_is c.requires in
    c.push-2.ensures.succeeds (omega (arith, (room_in c.self.inside c.args.row c.self.invariant m).1))

pub at-old-requires : goal.at-old-requires
at-old-requires g c =
    low_in c.self.inside c.args.row c.self.invariant
    (runs c.self.inside c.args.self.now c.args.row c.self.invariant c.self.view_is c.requires)

pub spoil-requires-clause-long : goal.spoil-requires-clause-long
spoil-requires-clause-long g c =
    seen_long c.self.inside.cells c.set.new.self _ c.set.ensures.value
    (omega (arith, c.self.invariant.table.spoiled.long, c.self.invariant.table.indexed.long))

pub spoil-requires-clause-low : goal.spoil-requires-clause-low
spoil-requires-clause-low g c =
    let m = runs c.self.inside c.args.self.now c.args.row c.self.invariant c.self.view_is c.requires in
    seen_low c.self.inside.cells c.set.new.self _ c.set.ensures.value c.args.row (omega (arith, m.inside, c.self.invariant.table.spoiled.long))

pub spoil-requires-clause-within : goal.spoil-requires-clause-within
spoil-requires-clause-within g c =
    seen_within c.self.inside.cells c.set.new.self _ c.set.ensures.value
    (users_within c.self.inside.registry c.self.inside.cells.users c.self.invariant.table.indexed)

pub spoil-requires-clause-closed : goal.spoil-requires-clause-closed
spoil-requires-clause-closed g c =
    seen_closed c.self.inside.cells c.set.new.self _ c.set.ensures.value
    (users_closed (progress_in c.self.inside) c.self.inside.cells.users c.self.inside.cells.spoiled c.self.invariant.table.indexed
    c.self.invariant.table.spoiled)

pub invariant_of-self : goal.invariant_of-self
invariant_of-self g c =
    let notes = thrown_noted c.self.inside c.args.self.now c.args.row c.args.threw c.push.new.self.items c.push-2.new.self.items c.at-old.result
    c.set.new.self c.spoil.new.self c.self.invariant c.self.view_is c.requires (rw c.unwrap.ensures at c.push.ensures.items)
    (rw c.unwrap-2.ensures at c.push-2.ensures.items) c.at-old.ensures.value c.set.ensures.value c.if-threw.true c.spoil.ensures.rest
    c.spoil.ensures.long c.spoil.ensures.spreads in
    record {
      table = notes.table;
      paired = notes.paired;
      room = omega (arith, c.push.ensures.capacity, c.self.invariant.room);
      room_beside = omega (arith, c.push-2.ensures.capacity, c.self.invariant.room_beside);
    }

pub release-requires-clause-low : goal.release-requires-clause-low
release-requires-clause-low g c =
    let m = runs c.self.inside c.args.self.now c.args.row c.self.invariant c.self.view_is c.requires in
    omega (arith, m.inside, c.self.invariant.table.indexed.long, ap (λ (s : Seen). length s.users) c.set.ensures.value)

pub release-requires-clause-range : goal.release-requires-clause-range
release-requires-clause-range g c =
    let old : Seen = c.self.inside.cells in
    subst (λ (s : Seen). All (λ user. user < length s.standings) (next_in s.users c.args.row)) (sym c.set.ensures.value)
    (users_low (progress_in c.self.inside) c.args.row old.standings old.users old.spoiled c.self.invariant.table _ (length-set old.standings c.args.row _))

pub release-requires-clause-waiting : goal.release-requires-clause-waiting
release-requires-clause-waiting g c =
    let old : Seen = c.self.inside.cells in
    let m = runs c.self.inside c.args.self.now c.args.row c.self.invariant c.self.view_is c.requires in
    enough (progress_in c.self.inside) c.args.row c.args.threw (next_in c.set.new.self.users c.args.row) old.standings c.set.new.self.standings old.users
    old.spoiled c.self.invariant.table m c.if-threw.false (ap (λ (s : Seen). next_in s.users c.args.row) c.set.ensures.value)
    (ap (λ (s : Seen). s.standings) c.set.ensures.value
    ∙ ran_set c.args.row c.args.threw old.standings c.at-old.result c.at-old.ensures.value (low_in c.self.inside c.args.row c.self.invariant m))

pub invariant_of-self-else-threw : goal.invariant_of-self-else-threw
invariant_of-self-else-threw g c =
    let notes = well_noted c.self.inside c.args.self.now c.args.row c.args.threw c.push.new.self.items c.push-2.new.self.items c.at-old.result
    c.set.new.self c.release.new.cells c.self.invariant c.self.view_is c.requires (rw c.unwrap.ensures at c.push.ensures.items)
    (rw c.unwrap-2.ensures at c.push-2.ensures.items) c.at-old.ensures.value c.set.ensures.value c.if-threw.false c.release.ensures.value in
    record {
      table = notes.table;
      paired = notes.paired;
      room = omega (arith, c.push.ensures.capacity, c.self.invariant.room);
      room_beside = omega (arith, c.push-2.ensures.capacity, c.self.invariant.room_beside);
    }

pub returns-then-threw-clause-value : goal.returns-then-threw-clause-value
returns-then-threw-clause-value g c =
    (thrown_noted c.self.inside c.args.self.now c.args.row c.args.threw c.push.new.self.items c.push-2.new.self.items c.at-old.result
    c.set.new.self c.spoil.new.self c.self.invariant c.self.view_is c.requires (rw c.unwrap.ensures at c.push.ensures.items)
    (rw c.unwrap-2.ensures at c.push-2.ensures.items) c.at-old.ensures.value c.set.ensures.value c.if-threw.true c.spoil.ensures.rest
    c.spoil.ensures.long c.spoil.ensures.spreads).view
    ∙ ap (after_ran c.args.row c.args.threw) c.self.view_is

pub returns-else-threw-clause-value : goal.returns-else-threw-clause-value
returns-else-threw-clause-value g c =
    (well_noted c.self.inside c.args.self.now c.args.row c.args.threw c.push.new.self.items c.push-2.new.self.items c.at-old.result
    c.set.new.self c.release.new.cells c.self.invariant c.self.view_is c.requires (rw c.unwrap.ensures at c.push.ensures.items)
    (rw c.unwrap-2.ensures at c.push-2.ensures.items) c.at-old.ensures.value c.set.ensures.value c.if-threw.false c.release.ensures.value).view
    ∙ ap (after_ran c.args.row c.args.threw) c.self.view_is

pub returns-then-threw-clause-cost : goal.returns-then-threw-clause-cost
returns-then-threw-clause-cost g c =
    let value = returns-then-threw-clause-value g c in
    let paid = subst (λ (s : Seen). c.spoil.new.steps + left (weight s.users) c.spoil.new.self.spoiled
    ≤ c.set.new.steps + left (weight s.users) s.spoiled + 2) c.set.ensures.value c.spoil.ensures.cost in
    omega (
      arith,
      c.at-old.ensures.cost,
      c.set.ensures.cost,
      paid,
      ap credit value,
      ap credit c.self.view_is,
      ap (λ (t : Progress). credit (after_ran c.args.row c.args.threw t)) c.self.view_is,
      thrown_paid c.self.inside c.args.self.now c.args.row c.args.threw c.push.new.self.items c.push-2.new.self.items c.at-old.result c.set.new.self
          c.spoil.new.self c.self.invariant c.self.view_is c.requires (rw c.unwrap.ensures at c.push.ensures.items)
          (rw c.unwrap-2.ensures at c.push-2.ensures.items) c.at-old.ensures.value c.set.ensures.value c.if-threw.true c.spoil.ensures.rest
          c.spoil.ensures.long c.spoil.ensures.spreads,
    )

pub returns-else-threw-clause-cost : goal.returns-else-threw-clause-cost
returns-else-threw-clause-cost g c =
    let t : Progress = progress_in c.self.inside in
    let m = runs c.self.inside c.args.self.now c.args.row c.self.invariant c.self.view_is c.requires in
    let value = returns-else-threw-clause-value g c in
    omega (
      arith,
      c.at-old.ensures.cost,
      c.set.ensures.cost,
      c.release.ensures.cost,
      ap (λ (s : Seen). length (next_in s.users c.args.row)) c.set.ensures.value,
      ap credit value,
      ap credit c.self.view_is,
      ap (λ (t : Progress). credit (after_ran c.args.row c.args.threw t)) c.self.view_is,
      credit_well t c.args.row c.args.threw c.self.inside.cells.users c.self.inside.cells.spoiled c.self.invariant.table.distinct
          c.self.invariant.table.indexed c.self.invariant.table.spoiled c.if-threw.false m.inside m.first,
    )
