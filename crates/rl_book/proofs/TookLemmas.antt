-- What is kept of the parts that rows took stays right after a delivery.
use Rattle.std.proofs.Common.{◌≡◌, ◌<◌, ℕ, List, [], ◌∷◌, Bool, true, false, ◌&&◌, not, Option, Some, None, length, refl, ap, sym, subst, ◌∙◌, nat_eq}
use Rattle.std.specs.Prelude.{Contains, if◌then◌else◌, is_none, is_some, option_map, slice_get, Result, Ok}
use Rattle.std.specs.List.{list_any}
use Rattle.std.proofs.lemmas.Option.{slice_get_within}
use Rattle.rl_view_spec.specs.Closure.{Text, is_skipped}
use Rattle.rl_view_spec.specs.Keys.{never}
use Rattle.rl_view_spec.specs.Progress.{Progress, name_at}
use Rattle.rl_view_spec.specs.View.{View, Event, Answer, Throws, answer_in, is_touched, log_of, or_else}
use Rattle.rl_view_spec.proofs.ObservedLemmas.{first_same}
use Rattle.rl_view_spec.proofs.ToolsLemmas.{place_there}
use Rattle.rl_view.specs.Seen.{HasSeen, asks, counts_at}
use Rattle.rl_view.proofs.AnswersLemmas.{counting_at}
use Rattle.rl_view.proofs.NowLemmas.{seen_begin}
use Rattle.rl_wire.specs.Reading as wire
use Rattle.rl_wire.specs.declared.part.Part.{Part}
use Rattle.rl_book_spec.specs.Book.{event_of, events_of}
use Rattle.rl_book_spec.specs.Given.{given_by, given_in, given_to, outcome_of}
use Rattle.rl_book_spec.specs.Opening.{Opening, answer_of, part_of, view_of}
use Rattle.rl_book_spec.specs.Traffic.{Traffic, asked_of, holds, traffic_of}
use Rattle.rl_book_spec.specs.declared.Asked.{Asked}
use Rattle.rl_book_spec.specs.declared.Call.{Call}
use Rattle.rl_book_spec.specs.declared.Call.TheVariants.{Deliver}
use Rattle.rl_book_spec.specs.declared.Mark.{Mark}
use Rattle.rl_book_spec.specs.declared.Origin.TheVariants as origin
use Rattle.rl_book_spec.specs.declared.Sent.{Sent}
use Rattle.rl_book_spec.specs.declared.Took.{Took}
use Rattle.rl_book_spec.proofs.GivenLemmas.{delivery_gives}
use Rattle.rl_book.specs.Delivering.{Taking, TakesParts, after_parts}
use Rattle.rl_book.specs.Kept.{KeepsPart, KeepsParts}
use Rattle.rl_book.specs.declared.given.Delivered.{Delivered}
use Rattle.rl_book.proofs.DeliveredLemmas.{asked_within, event_is, taken}
use Rattle.rl_book.proofs.DeliveringLemmas.{held_row}
use Rattle.rl_book.proofs.TakenLemmas.{kept_at, long_after, number_here, taken_by}

-- a row has its first outcome where the part counts for it, the batch holds it, and the answer has a part of its name
fresh_by : (first : Option Answer) (touched kept held : Bool) (part : Option Part)
    → (is_none first && is_some (or_else first (if touched && kept then (if held then option_map answer_of part else None) else None)))
    ≡ (touched && kept && is_none first && held && is_some part)
fresh_by (Some answer) true true held part = refl
fresh_by (Some answer) true false held part = refl
fresh_by (Some answer) false kept held part = refl
fresh_by None true true true (Some part) = refl
fresh_by None true true true None = refl
fresh_by None true true false part = refl
fresh_by None true false held part = refl
fresh_by None false kept held part = refl

module _ (throws : Throws) (o : Opening) (past : List Call) (ask : ℕ) (bytes : Text) (mark : Mark) (parts : List Part) (pair : Asked × Sent)
    (read : wire.answer_of bytes ≡ Ok parts) (there : asked_of (traffic_of o past) ask ≡ Some pair) where
  abbrev v : View
  v = view_of throws o

  abbrev events : List Event
  events = events_of o past

  abbrev call : Call
  call = Deliver ask bytes mark

  abbrev within : (k : ℕ) → Contains pair.1.batch.rows k → k < length o.registered.rows
  within = asked_within throws o past ask bytes mark parts pair read there

  module _ (t : Progress) (seen : HasSeen v events (log_of v events) t) (k : ℕ) (low : k < length o.registered.rows) where
    abbrev name : Text
    name = name_at o.registered k

    abbrev takes : Bool
    takes = counts_at t k && list_any (nat_eq k) pair.1.batch.rows

    answered : answer_in name (event_of o past call) ≡ (if holds o.registered pair.1.batch name then option_map answer_of (part_of parts name) else None)
    answered = ap (answer_in name) (event_is throws o past ask bytes mark parts pair read there) ∙ delivery_gives o.registered pair.1.batch parts name

    touched : is_touched v (event_of o past call ∷ events) name ≡ is_touched v events name
    touched = ap (λ (event : Event). is_touched v (event ∷ events) name) (event_is throws o past ask bytes mark parts pair read there)

    fresh : (is_none (outcome_of o past name) && is_some (outcome_of o (call ∷ past) name)) ≡ (takes && is_some (part_of parts name))
    fresh =
        let kept : Bool = not (is_skipped o.registered name) in
        let first : Option Answer = outcome_of o past name in
        let held : list_any (nat_eq k) pair.1.batch.rows ≡ holds o.registered pair.1.batch name =
        held_row o.registered seen.distinct pair.1.batch within name k (number_here v events pair.1.batch within mark k low seen.distinct) in
        let counts : counts_at t k ≡ (is_touched v events name && kept && is_none first) =
        counting_at v events (log_of v events) t k seen low
        ∙ ap (λ (first : Option Answer). is_touched v events name && kept && is_none first) (first_same v never events name) in
        ap (λ (b : Bool). is_none first && is_some (or_else first (if b && kept then answer_in name (event_of o past call) else None))) touched
        ∙ ap (λ (answer : Option Answer). is_none first && is_some (or_else first (if is_touched v events name && kept then answer else None))) answered
        ∙ fresh_by first (is_touched v events name) kept (holds o.registered pair.1.batch name) (part_of parts name)
        ∙ ap (λ (b : Bool). is_touched v events name && kept && is_none first && b && is_some (part_of parts name)) (sym held)
        ∙ ap (λ (b : Bool). b && list_any (nat_eq k) pair.1.batch.rows && is_some (part_of parts name)) (sym counts)

    given_of : given_by o call name ≡ option_map (λ (part : Part). (part, origin.Wire mark)) (part_of parts name)
    given_of = ap (λ (read : Result (List Part) ℕ). given_in name read (origin.Wire mark)) read

    as_before : (kept : Option Delivered) → given_to o (call ∷ past) name ≡ given_to o past name → KeepsPart o past name kept
        → KeepsPart o (call ∷ past) name kept
    as_before (Some kept) e keeps = e ∙ keeps
    as_before None e keeps = λ given g. keeps given (sym e ∙ g)

    pub part_kept : (before kept : Option Delivered) → KeepsPart o past name before
        → Some kept ≡ taken_by mark takes (part_of parts name) (Some before) → KeepsPart o (call ∷ past) name kept
    part_kept before kept keeps is = step takes (part_of parts name) refl refl is
      where
        given : (new : Bool) → (is_none (outcome_of o past name) && is_some (outcome_of o (call ∷ past) name)) ≡ new
            → given_to o (call ∷ past) name ≡ (if new then given_by o call name else given_to o past name)
        given new e = ap (λ (b : Bool). if b then given_by o call name else given_to o past name) e

        stays : (is_none (outcome_of o past name) && is_some (outcome_of o (call ∷ past) name)) ≡ false → Some kept ≡ Some before
            → KeepsPart o (call ∷ past) name kept
        stays e same =
            let is : before ≡ kept = cc in
            subst (λ (kept : Option Delivered). KeepsPart o (call ∷ past) name kept) is (as_before before (given false e) keeps)

        step : (does : Bool) (part : Option Part) → takes ≡ does → part_of parts name ≡ part → Some kept ≡ taken_by mark does part (Some before)
            → KeepsPart o (call ∷ past) name kept
        step true (Some part) d p is =
            let here : Some (record { part = part; mark = mark }) ≡ kept = cc in
            subst (λ (kept : Option Delivered). KeepsPart o (call ∷ past) name kept) here
            (given true (fresh ∙ ap (λ (b : Bool). b && is_some (part_of parts name)) d ∙ ap (λ (part : Option Part). is_some part) p)
            ∙ given_of ∙ ap (option_map (λ (part : Part). (part, origin.Wire mark))) p)
        step true None d p is =
            stays (fresh ∙ ap (λ (b : Bool). b && is_some (part_of parts name)) d ∙ ap (λ (part : Option Part). is_some part) p) is
        step false part d p is = stays (fresh ∙ ap (λ (b : Bool). b && is_some (part_of parts name)) d) is

  -- what is kept of each row
  pub parts_kept : (took : Took) (t t' : Progress) (delivered delivered' : List (Option Delivered)) (q q' : Traffic)
      → HasSeen v events (log_of v events) t → q ≡ traffic_of o past → TakesParts ask parts mark took t t' delivered delivered' q q'
      → KeepsParts o past delivered → KeepsParts o (call ∷ past) delivered'
  parts_kept took t t' delivered delivered' q q' seen traffic takes keeps =
      let start : Taking = record { table = t; delivered = delivered; used = 0 } in
      let is : delivered' ≡ (after_parts pair.1.batch.rows mark parts start).delivered =
      ap (λ (s : Taking). s.delivered) (taken throws o past ask bytes mark parts pair read there took t t' delivered delivered' q q' seen traffic takes) in
      let long : length delivered' ≡ length o.registered.rows =
      ap (λ (xs : List (Option Delivered)). length xs) is ∙ long_after pair.1.batch.rows mark parts start ∙ keeps.long in
      record {
        long = long;
        each = λ row kept found.
            let low : row < length o.registered.rows = subst (λ (n : ℕ). row < n) long (slice_get_within delivered' row kept found) in
            let m = place_there delivered row (subst (λ (n : ℕ). row < n) (sym keeps.long) low) in
            part_kept t seen row low m.0 kept (keeps.each row m.0 m.1)
            (sym found ∙ ap (λ (xs : List (Option Delivered)). slice_get xs row) is
            ∙ kept_at v events pair.1.batch within mark row low (asks []) parts start (seen_begin v events t seen)
            (subst (λ (n : ℕ). row < n) (sym keeps.long) low)
            ∙ ap (taken_by mark (counts_at t row && list_any (nat_eq row) pair.1.batch.rows) (part_of parts (name_at o.registered row))) m.1);
      }
