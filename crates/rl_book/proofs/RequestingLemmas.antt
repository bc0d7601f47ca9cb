-- What a request changes of what a view keeps.
use Rattle.std.proofs.Common.{◌≡◌, ℕ, ◌<◌, List, Bool, true, false, ◌||◌, length, Option, Some, None, refl, ap, ap₂, sym, ◌∙◌}
use Rattle.std.specs.Prelude.{if◌then◌else◌, is_some, option_and_then, option_map, slice_get, slice_set}
use Rattle.std.specs.Option.{option_map_or}
use Rattle.std.proofs.lemmas.List.{length-set}
use Rattle.rl_names.specs.declared.kind.StateKind.{StateKind}
use Rattle.rl_names.specs.declared.kind.StateKind.TheVariants as kinds
use Rattle.rl_names.specs.declared.row.Row.{Row}
use Rattle.rl_view_spec.specs.Closure.{Text, Registered}
use Rattle.rl_view_spec.specs.Progress.{Progress}
use Rattle.rl_view_spec.specs.Rows.{is_private}
use Rattle.rl_view_spec.specs.View.{Answer, Failed, GivenUp, Implementation, Missing, kind_of, or_else}
use Rattle.rl_view_spec.specs.declared.Outcome.TheVariants as outcome
use Rattle.rl_view_spec.proofs.ToolsLemmas.{place_there}
use Rattle.rl_states.specs.Changes.{after_outcome}
use Rattle.rl_view.specs.Seen.{after_answer, counts_at, given_to}
use Rattle.rl_wire.specs.declared.part.Part.{Part}
use Rattle.rl_wire.specs.declared.part.Part.TheVariants.{State}
use Rattle.rl_batch.specs.Given.{is_private_at}
use Rattle.rl_book_spec.specs.Opening.{answer_of}
use Rattle.rl_book_spec.specs.declared.Origin.{Origin}
use Rattle.rl_book.specs.Held.{Gift, gift_for}
use Rattle.rl_book.specs.Requesting.{after_held, answer_by, answer_held_at}

-- the part of what a row is given
abbrev part_in : Gift → Option Part
part_in gift = option_map (λ (given : Part × Origin). given.0) gift

-- ---- one row is given its answer

module _ (gifts : List Gift) (t : Progress) (k : ℕ) where
  none_counts : (answer : Option Answer) → counts_at t k ≡ false → given_to k answer t ≡ t
  none_counts None e = refl
  none_counts (Some answer) e = ap (λ (b : Bool). if b then after_answer k answer t else t) e

  pub held_passed : counts_at t k ≡ false → after_held gifts t k ≡ t
  held_passed e = none_counts (answer_held_at gifts t.registered k) e

  module _ (row : Row) (there : slice_get t.registered.rows k ≡ Some row) (counts : counts_at t k ≡ true) where
    held_by : (gift : Gift) → gift_for gifts k ≡ gift → after_held gifts t k ≡ given_to k (answer_by gift row.group) t
    held_by gift e =
        ap (λ (found : Option Row). given_to k (option_and_then (λ (found : Row). answer_by (gift_for gifts k) found.group) found) t) there
        ∙ ap (λ (gift : Gift). given_to k (answer_by gift row.group) t) e

    counted : (answer : Answer) → given_to k (Some answer) t ≡ after_answer k answer t
    counted answer = ap (λ (b : Bool). if b then after_answer k answer t else t) counts

    pub held_part : (part : Part) → part_in (gift_for gifts k) ≡ Some part → after_held gifts t k ≡ after_answer k (answer_of part) t
    held_part part e = step (gift_for gifts k) refl e
      where
        step : (gift : Gift) → gift_for gifts k ≡ gift → part_in gift ≡ Some part → after_held gifts t k ≡ after_answer k (answer_of part) t
        step None g h = cc
        step (Some given) g h =
            let is : given.0 ≡ part = cc in
            held_by (Some given) g ∙ counted (answer_of given.0) ∙ ap (λ (part : Part). after_answer k (answer_of part) t) is

    no_part : (gift : Gift) → part_in gift ≡ None → gift ≡ None
    no_part None e = refl
    no_part (Some given) e = cc

    pub held_private : part_in (gift_for gifts k) ≡ None → is_private row.group ≡ true → after_held gifts t k ≡ after_outcome k outcome.Error t
    held_private e private =
        held_by None (no_part (gift_for gifts k) e) ∙ ap (λ (b : Bool). given_to k (if b then Some Failed else None) t) private ∙ counted Failed

    pub held_none : part_in (gift_for gifts k) ≡ None → is_private row.group ≡ false → after_held gifts t k ≡ t
    held_none e public =
        held_by None (no_part (gift_for gifts k) e) ∙ ap (λ (b : Bool). given_to k (if b then Some Failed else None) t) public

-- ---- what stays

-- no row is renamed, added or taken away, and none executes that did not
pub record Stays (t t' : Progress) : Type 0 where
  pub idle : t'.executing ≡ t.executing
  pub long : length t'.registered.rows ≡ length t.registered.rows

module _ (gifts : List Gift) (t : Progress) (k : ℕ) where
  version_long : (version : Text) (found : Option Row)
      → length (option_map_or (λ found. slice_set t.registered.rows k (record found { version = Some version })) found t.registered.rows)
      ≡ length t.registered.rows
  version_long version None = refl
  version_long version (Some row) = length-set t.registered.rows k (record row { version = Some version })

  answer_stays : (answer : Answer) → Stays t (after_answer k answer t)
  answer_stays (Implementation version script) = record {
    idle = refl;
    long = version_long version (slice_get t.registered.rows k);
  }
  answer_stays Missing = record { idle = refl; long = refl }
  answer_stays Failed = record { idle = refl; long = refl }
  answer_stays GivenUp = record { idle = refl; long = refl }

  given_stays : (counts : Bool) (answer : Answer) → Stays t (if counts then after_answer k answer t else t)
  given_stays true answer = answer_stays answer
  given_stays false answer = record { idle = refl; long = refl }

  pub held_stays : Stays t (after_held gifts t k)
  held_stays = step (answer_held_at gifts t.registered k)
    where
      step : (answer : Option Answer) → Stays t (given_to k answer t)
      step None = record { idle = refl; long = refl }
      step (Some answer) = given_stays (counts_at t k) answer

-- a part that says of a name that nothing is served
pub state_given : (name : Text) (kind : StateKind) (k : ℕ) (t : Progress) → after_outcome k (kind_of (answer_of (State name kind))) t
    ≡ after_answer k (answer_of (State name kind)) t
state_given name kinds.Missing k t = refl
state_given name kinds.Error k t = refl

-- ---- rows that are answered at once

some_by : (gift : Gift) (private : Bool) → (is_some (part_in gift) || private)
    ≡ is_some (or_else (option_map (λ (given : Part × Origin). answer_of given.0) gift) (if private then Some Failed else None))
some_by None true = refl
some_by None false = refl
some_by (Some given) private = refl

pub some_held : (r : Registered) (gifts : List Gift) (k : ℕ) (part : Option Part) → k < length r.rows → part ≡ part_in (gift_for gifts k)
    → (is_some part || is_private_at r k) ≡ is_some (answer_held_at gifts r k)
some_held r gifts k part low e =
    let m = place_there r.rows k low in
    ap₂ (λ (part : Option Part) (found : Option Row). is_some part || option_map_or (λ found. is_private found.group) found false) e m.1
    ∙ some_by (gift_for gifts k) (is_private m.0.group)
    ∙ ap (λ (found : Option Row). is_some (option_and_then (λ (found : Row). answer_by (gift_for gifts k) found.group) found)) (sym m.1)
