-- The part that a row executes.
use Rattle.std.proofs.Common.{◌≡◌, ℕ, List, [], ◌∷◌, Bool, true, false, ◌&&◌, Option, Some, None, refl, ap, ap₂, sym, ◌∙◌}
use Rattle.std.specs.Prelude.{bytes_eq, if◌then◌else◌, is_none, is_some, option_and_then, option_map, Result, Ok, Err}
use Rattle.rl_names.specs.declared.row.Row.{Row}
use Rattle.rl_view_spec.specs.Closure.{Text, row_of}
use Rattle.rl_view_spec.specs.Progress.{HasDistinctNames, name_at}
use Rattle.rl_view_spec.specs.View.{Answer, Implementation, Missing, Failed, GivenUp, is_implementation}
use Rattle.rl_view_spec.proofs.ChainsLemmas.{same}
use Rattle.rl_view_spec.proofs.ToolsLemmas.{found_place}
use Rattle.rl_wire.specs.Reading as wire
use Rattle.rl_wire.specs.declared.part.Part.{Part}
use Rattle.rl_wire.specs.declared.part.Part.TheVariants.{Impl}
use Rattle.rl_book_spec.specs.Given.{given_at_touch, given_by, given_in, given_to, outcome_of}
use Rattle.rl_book_spec.specs.Kept.{Booked}
use Rattle.rl_book_spec.specs.Opening.{Opening, answer_of, part_name, part_of}
use Rattle.rl_book_spec.specs.declared.Call.{Call}
use Rattle.rl_book_spec.specs.declared.Call.TheVariants.{Using, Load, Take, Deliver, Lose}
use Rattle.rl_book_spec.specs.declared.Origin.{Origin}
use Rattle.rl_book_spec.specs.declared.Origin.TheVariants as origin
use Rattle.rl_book_spec.proofs.GivenLemmas.{given_outcome}
use Rattle.rl_book.specs.Calls.{Executing, IsRun}
use Rattle.rl_book.specs.Held.{AreNamed}
use Rattle.rl_book.specs.Kept.{KeepsPart}
use Rattle.rl_book.specs.declared.answer.Run.{Run}
use Rattle.rl_book.specs.declared.given.Delivered.{Delivered}

-- ---- a name was given a part of that name

part_named : (parts : List Part) (name : Text) (part : Part) → part_of parts name ≡ Some part → part_name part ≡ name
part_named parts name part e =
    same (part_name part) name (found_place (λ (part : Part). bytes_eq (part_name part) name) parts part e).2

in_named : (name : Text) (read : Result (List Part) ℕ) (from : Origin) (given : Part × Origin) → given_in name read from ≡ Some given → part_name given.0 ≡ name
in_named name (Ok parts) from given h = step (part_of parts name) refl h
  where
    step : (found : Option Part) → part_of parts name ≡ found → option_map (λ (part : Part). (part, from)) found ≡ Some given → part_name given.0 ≡ name
    step None e g = cc
    step (Some part) e g =
        let is : (part, from) ≡ given = cc in
        ap (λ (p : Part × Origin). part_name p.0) (sym is) ∙ part_named parts name part e
in_named name (Err line) from given h = cc

touch_named : (o : Opening) (name : Text) (given : Part × Origin) → AreNamed o
    → option_and_then (given_at_touch o) (row_of o.registered name) ≡ Some given → part_name given.0 ≡ name
touch_named o name given named h = step (row_of o.registered name) refl h
  where
    step : (found : Option Row) → row_of o.registered name ≡ found → option_and_then (given_at_touch o) found ≡ Some given → part_name given.0 ≡ name
    step None e g = cc
    step (Some row) e g =
        let f = found_place (λ (row : Row). bytes_eq row.name name) o.registered.rows row e in
        named f.0 row given f.1 g ∙ same row.name name f.2

by_named : (o : Opening) (call : Call) (name : Text) (given : Part × Origin) → AreNamed o → given_by o call name ≡ Some given → part_name given.0 ≡ name
by_named o (Using names) name given named h = touch_named o name given named h
by_named o (Load names) name given named h = touch_named o name given named h
by_named o Take name given named h = cc
by_named o (Deliver ask bytes mark) name given named h = in_named name (wire.answer_of bytes) (origin.Wire mark) given h
by_named o (Lose ask mark) name given named h = cc

given_named : (o : Opening) (past : List Call) (name : Text) (given : Part × Origin) → AreNamed o → given_to o past name ≡ Some given
    → part_name given.0 ≡ name
given_named o [] name given named h = cc
given_named o (call ∷ past) name given named h =
    step (is_none (outcome_of o past name) && is_some (outcome_of o (call ∷ past) name)) h (λ g. given_named o past name given named g)
  where
    step : (fresh : Bool) → (if fresh then given_by o call name else given_to o past name) ≡ Some given
        → (given_to o past name ≡ Some given → part_name given.0 ≡ name) → part_name given.0 ≡ name
    step true g before = by_named o call name given named g
    step false g before = before g

-- ---- an answered row

pub record WasGiven (o : Opening) (past : List Call) (name : Text) : Type 0 where
  pub given : Part × Origin
  pub is : given_to o past name ≡ Some given
  pub implements : is_implementation (Some (answer_of given.0)) ≡ true
  pub named : part_name given.0 ≡ name

-- a name that was answered with an implementation was given it
pub was_given : (o : Opening) (past : List Call) (name : Text) → HasDistinctNames o.registered → AreNamed o
    → is_implementation (outcome_of o past name) ≡ true → WasGiven o past name
was_given o past name distinct named h = step (outcome_of o past name) refl h
  where
    step : (outcome : Option Answer) → outcome_of o past name ≡ outcome → is_implementation outcome ≡ true → WasGiven o past name
    step None e i = cc
    step (Some (Implementation version script)) e i =
        let m = given_outcome o past name version script distinct e in
        record {
          given = m.0;
          is = m.1;
          implements = ap (λ (answer : Answer). is_implementation (Some answer)) m.2;
          named = given_named o past name m.0 named m.1;
        }
    step (Some Missing) e i = cc
    step (Some Failed) e i = cc
    step (Some GivenUp) e i = cc

-- ---- what is kept of it

pub taken_is : (o : Opening) (past : List Call) (name : Text) (kept : Option Delivered) (taken : Delivered) (w : WasGiven o past name)
    → KeepsPart o past name kept → kept ≡ Some taken → w.given ≡ (taken.part, origin.Wire taken.mark)
taken_is o past name None taken w k e = cc
taken_is o past name (Some other) taken w k e =
    let same : other ≡ taken = cc in
    let is : Some w.given ≡ Some (other.part, origin.Wire other.mark) = sym w.is ∙ k in
    some_same is ∙ ap (λ (d : Delivered). (d.part, origin.Wire d.mark)) same
  where
    some_same : {X : Type 0} {x y : X} → Some x ≡ Some y → x ≡ y
    some_same e = cc

-- where it took none of an answer it has what it was given when it was touched
pub touched_is : (o : Opening) (past : List Call) (name : Text) (kept : Option Delivered) (w : WasGiven o past name)
    → KeepsPart o past name kept → kept ≡ None → option_and_then (given_at_touch o) (row_of o.registered name) ≡ Some w.given
touched_is o past name None w k e = k w.given w.is
touched_is o past name (Some taken) w k e = cc

-- its execution, before any observer was told
pub executing_runs : (b : Booked) (row : ℕ) (part : Part) (from : Origin) (run : Run) (w : WasGiven b.opening b.past (name_at b.opening.registered row))
    → w.given ≡ (part, from) → Executing row part from run → (run.threw ≡ false) × IsRun b (row, false) run
executing_runs b row part from run w e x =
    let name : Text = name_at b.opening.registered row in
    let impl : Part = Impl run.key.name run.key.version run.script x.part_is.0 x.part_is.1 in
    let named : run.key.name ≡ name =
    ap part_name (sym x.part_is.2) ∙ ap (λ (p : Part × Origin). part_name p.0) (sym e) ∙ w.named in
    let given : given_to b.opening b.past name ≡ Some (impl, run.origin) =
    w.is ∙ ap Some e ∙ ap₂ (λ (p : Part) (f : Origin). Some (p, f)) x.part_is.2 (sym x.origin_is) in (
      x.quiet,
      record {
        row = x.row_is;
        threw = x.quiet;
        name = named;
        part = (x.part_is.0, x.part_is.1, ap (given_to b.opening b.past) named ∙ given);
      },
    )
