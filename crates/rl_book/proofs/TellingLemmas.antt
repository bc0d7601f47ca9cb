-- What a row of a view executes.
use Rattle.std.proofs.Common.{◌≡◌, ℕ, ◌<◌, true, false, Option, Some, None, length, get_or, ap, sym, subst, ◌∙◌, arith}
use Rattle.std.specs.Prelude.{IfOk, option_and_then, slice_get, Result, Ok, Err}
use Rattle.std.proofs.lemmas.Option.{slice_get-get_or}
use Rattle.rl_view_spec.specs.Closure.{Text, Registered, row_of}
use Rattle.rl_view_spec.specs.Progress.{name_at}
use Rattle.rl_view_spec.specs.View.{is_implementation}
use Rattle.rl_view_spec.proofs.PlacesLemmas.{apart, number_named, place_of}
use Rattle.rl_wire.specs.declared.part.Part.{Part}
use Rattle.rl_book_spec.specs.Kept.{Booked}
use Rattle.rl_book_spec.specs.Given.{given_at_touch}
use Rattle.rl_book_spec.specs.Opening.{answer_of}
use Rattle.rl_book_spec.specs.declared.Origin.{Origin}
use Rattle.rl_book_spec.specs.declared.Origin.TheVariants as origin
use Rattle.rl_book.specs.Calls.{Executing, IsRun, is_answered}
use Rattle.rl_book.specs.Kept.{IsKept, KeepsPart, booked}
use Rattle.rl_book.specs.Held.{Gift, gift_for}
use Rattle.rl_book.specs.declared.answer.Run.{Run}
use Rattle.rl_book.specs.declared.given.Delivered.{Delivered}
use Rattle.rl_book.specs.declared.visit.Visit.TheInside.{Inside}
use Rattle.rl_book.proofs.GivenLemmas.{WasGiven, executing_runs, taken_is, touched_is, was_given}
use Rattle.rl_book.proofs.HeldLemmas.{gift_there}

pub if_ok : {T E : Type 0} (P Q : T → Type 0) (r : Result T E) → ((x : T) → P x → Q x) → IfOk r P → IfOk r Q
if_ok P Q (Ok x) f p = f x p
if_ok P Q (Err e) f p = tt

-- what is kept for a row stands at its place
pub kept_there : (i : Inside) (b : Booked) (row : ℕ) (kept : Option Delivered) → IsKept i → booked i ≡ b → row < length b.opening.registered.rows
    → kept ≡ get_or i.delivered.items row kept → slice_get i.delivered.items row ≡ Some kept
kept_there i b row kept k view low e =
    let long = k.parts.long in
    let same = ap (λ (b : Booked). length b.opening.registered.rows) view in
    slice_get-get_or i.delivered.items row kept (omega (arith, low, long, same)) ∙ ap Some (sym e)

module _ (i : Inside) (b : Booked) (row : ℕ) (kept : Option Delivered) (k : IsKept i) (view : booked i ≡ b) (answered : is_answered b row ≡ true)
    (there : slice_get i.delivered.items row ≡ Some kept) where
  abbrev name : Text
  name = name_at (booked i).opening.registered row

  given_here : WasGiven (booked i).opening (booked i).past name
  given_here = was_given (booked i).opening (booked i).past name k.book.distinct k.named (ap (λ (b : Booked). is_answered b row) view ∙ answered)

  kept_here : KeepsPart (booked i).opening (booked i).past name kept
  kept_here = k.parts.each row kept there

  implements : (part : Part) (from : Origin) → given_here.given ≡ (part, from) → is_implementation (Some (answer_of part)) ≡ true
  implements part from e = ap (λ (p : Part × Origin). is_implementation (Some (answer_of p.0))) (sym e) ∙ given_here.implements

  run_here : (part : Part) (from : Origin) → given_here.given ≡ (part, from) → (run : Run) → Executing row part from run
      → (run.threw ≡ false) × IsRun b (row, false) run
  run_here part from e run x =
      let done = executing_runs (booked i) row part from run given_here e x in
      (done.0, subst (λ (b : Booked). IsRun b (row, false) run) view done.1)

  module _ (taken : Delivered) (e : kept ≡ Some taken) where
    taken_here : given_here.given ≡ (taken.part, origin.Wire taken.mark)
    taken_here = taken_is (booked i).opening (booked i).past name kept taken given_here kept_here e

    pub taken_implements : is_implementation (Some (answer_of taken.part)) ≡ true
    taken_implements = implements taken.part (origin.Wire taken.mark) taken_here

    pub taken_runs : (run : Run) → Executing row taken.part (origin.Wire taken.mark) run → (run.threw ≡ false) × IsRun b (row, false) run
    taken_runs = run_here taken.part (origin.Wire taken.mark) taken_here

  module _ (gift : Gift) (e : kept ≡ None) (low : row < length b.opening.registered.rows) (is : gift ≡ gift_for i.held.gifts row) where
    abbrev r : Registered
    r = (booked i).opening.registered

    inside : row < length r.rows
    inside = subst (λ (b : Booked). row < length b.opening.registered.rows) (sym view) low

    gift_here : gift ≡ Some given_here.given
    gift_here =
        let p = place_of r name (number_named r row inside) in
        let at : p.at ≡ row = apart r k.book.distinct p.at row p.inside inside p.named in
        let found : option_and_then (given_at_touch (booked i).opening) (row_of r name) ≡ Some given_here.given =
        touched_is (booked i).opening (booked i).past name kept given_here kept_here e in
        is ∙ gift_there (booked i).opening i.held.gifts row p.row k.gifts (ap (slice_get r.rows) (sym at) ∙ p.there)
        ∙ ap (option_and_then (given_at_touch (booked i).opening)) (sym p.found) ∙ found

    pub gift_none : gift ≡ None → ⊥
    gift_none none = let s : None ≡ Some given_here.given = sym none ∙ gift_here in cc

    gift_given : (part : Part) (from : Origin) → gift ≡ Some (part, from) → given_here.given ≡ (part, from)
    gift_given part from some = let s : Some given_here.given ≡ Some (part, from) = sym gift_here ∙ some in some_same s
      where
        some_same : {X : Type 0} {x y : X} → Some x ≡ Some y → x ≡ y
        some_same e = cc

    pub gift_implements : (part : Part) (from : Origin) → gift ≡ Some (part, from) → is_implementation (Some (answer_of part)) ≡ true
    gift_implements part from some = implements part from (gift_given part from some)

    pub gift_runs : (part : Part) (from : Origin) → gift ≡ Some (part, from) → (run : Run) → Executing row part from run
        → (run.threw ≡ false) × IsRun b (row, false) run
    gift_runs part from some = run_here part from (gift_given part from some)
