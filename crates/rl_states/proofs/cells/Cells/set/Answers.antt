use mathlib.Core.Bool.{beq}
use Rattle.std.proofs.Common.{true, false, not, ◌≡◌, ◌<◌, ◌/◌, ℕ, Bool, cond, get_or, length, set, sym, subst, ◌∙◌, ap, arith}
use Rattle.std.specs.Prelude.{slice_get, Some}
use Rattle.std.proofs.lemmas.Option.{get_or_from_slice_get, slice_get_within}
use Rattle.rl_states.specs.declared.standing.Standing.{Standing}
use Rattle.rl_states.specs.Cells.{AreCounted, Seen, seen_in}
use Rattle.rl_states.specs.Counted.{Held}
use Rattle.rl_states.specs.Standings.{may_run}
use Rattle.rl_states.proofs.CellsLemmas.{counted_set, counted_alike_set, few_counted, one_counted, row_block}
use Rattle.rl_states.proofs.cells.Cells.set.Goals as goal

alike : (a b x y : Bool) → a ≡ x → not (beq a b) ≡ false → b ≡ y → x ≡ y
alike true true x y e f g = sym e ∙ g
alike true false x y e f g = cc
alike false true x y e f g = cc
alike false false x y e f g = sym e ∙ g

one : (a b : Bool) → a ≡ b → ◌≡◌ {A = ℕ} (cond a 1 0) (cond b 1 0)
one a b e = ap (λ (x : Bool). cond x 1 0) e

-- a row that stands in a block
record Row (held : Held) (row : ℕ) (old : Standing) : Type 0 where
  was : slice_get held.standings row ≡ Some old
  low : row < length held.standings
  block : row / 64 < length held.runnable
  -- how many rows of its block may run, as it is read once the row is written
  read : (mid : Held) (new : Standing) (count : ℕ) → mid ≡ record held { standings = set held.standings row new }
      → slice_get mid.runnable (row / 64) ≡ Some count → get_or held.runnable (row / 64) 0 ≡ count

row_in : (held : Held) (now : Seen) (row : ℕ) (old : Standing) → AreCounted held.standings held.runnable → seen_in held ≡ now →
    slice_get now.standings row ≡ Some old → Row held row old
row_in held now row old counted is at = record {
  was = was;
  low = low;
  block = row_block held.standings held.runnable row counted low;
  read = λ mid new count e h. get_or_from_slice_get held.runnable (row / 64) count 0 (ap (λ (x : Held). slice_get x.runnable (row / 64)) (sym e) ∙ h);
}
  where
    was : slice_get held.standings row ≡ Some old
    was = ap (λ (s : Seen). slice_get s.standings row) is ∙ at

    low : row < length held.standings
    low = slice_get_within held.standings row old was

pub set_standing-requires : goal.set_standing-requires
set_standing-requires g c = (row_in c.self.inside.held c.args.self.now c.args.row c.args.old.now c.self.invariant c.self.view_is c.requires).low

pub runnable-runnable-requires : goal.runnable-runnable-requires
runnable-runnable-requires g c =
    let at = row_in c.self.inside.held c.args.self.now c.args.row c.args.old.now c.self.invariant c.self.view_is c.requires in
    omega (arith, at.block, ap (λ (h : Held). length h.runnable) c.set_standing.ensures.value)

pub recounted-requires-clause-few : goal.recounted-requires-clause-few
recounted-requires-clause-few g c =
    let held : Held = c.self.inside.held in
    let at = row_in held c.args.self.now c.args.row c.args.old.now c.self.invariant c.self.view_is c.requires in
    omega (
      arith,
      at.read c.set_standing.new.self c.args.new c.runnable-runnable.result c.set_standing.ensures.value c.runnable-runnable.ensures.value,
      c.self.invariant.each (c.args.row / 64) at.block,
      few_counted held.standings (c.args.row / 64),
      c.self.invariant.few,
    )

pub recounted-requires-clause-one : goal.recounted-requires-clause-one
recounted-requires-clause-one g c =
    let held : Held = c.self.inside.held in
    let at = row_in held c.args.self.now c.args.row c.args.old.now c.self.invariant c.self.view_is c.requires in
    omega (
      arith,
      one c.may_run-before.result (may_run c.args.old.now) c.may_run-before.ensures,
      at.read c.set_standing.new.self c.args.new c.runnable-runnable.result c.set_standing.ensures.value c.runnable-runnable.ensures.value,
      c.self.invariant.each (c.args.row / 64) at.block,
      one_counted held.standings c.args.row c.args.old.now at.was,
    )

pub set_runnable-requires : goal.set_runnable-requires
set_runnable-requires g c =
    let at = row_in c.self.inside.held c.args.self.now c.args.row c.args.old.now c.self.invariant c.self.view_is c.requires in
    omega (arith, at.block, ap (λ (h : Held). length h.runnable) c.set_standing.ensures.value)

pub invariant_of-self : goal.invariant_of-self
invariant_of-self g c =
    let held : Held = c.self.inside.held in
    let at = row_in held c.args.self.now c.args.row c.args.old.now c.self.invariant c.self.view_is c.requires in
    let both = c.set_runnable.ensures.value
    ∙ ap (λ (h : Held). record h { runnable = set h.runnable (c.args.row / 64) c.recounted.result }) c.set_standing.ensures.value in
    subst (λ (h : Held). AreCounted h.standings h.runnable) (sym both)
    (counted_set held.standings held.runnable c.args.row c.args.old.now c.args.new c.recounted.result c.self.invariant at.was (omega (
      arith,
      one c.may_run-before.result (may_run c.args.old.now) c.may_run-before.ensures,
      one c.may_run-after.result (may_run c.args.new) c.may_run-after.ensures,
      at.read c.set_standing.new.self c.args.new c.runnable-runnable.result c.set_standing.ensures.value c.runnable-runnable.ensures.value,
      c.recounted.ensures,
    )))

pub invariant_of-self-else-before-after : goal.invariant_of-self-else-before-after
invariant_of-self-else-before-after g c =
    let held : Held = c.self.inside.held in
    let at = row_in held c.args.self.now c.args.row c.args.old.now c.self.invariant c.self.view_is c.requires in
    subst (λ (h : Held). AreCounted h.standings h.runnable) (sym c.set_standing.ensures.value)
    (counted_alike_set held.standings held.runnable c.args.row c.args.old.now c.args.new c.self.invariant at.was
    (alike c.may_run-before.result c.may_run-after.result (may_run c.args.old.now) (may_run c.args.new) c.may_run-before.ensures c.if-before-after.false
    c.may_run-after.ensures))
