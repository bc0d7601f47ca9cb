-- A delivery that is taken in is what the history says of its call.
use Rattle.std.proofs.Common.{◌≡◌, ◌-◌, ◌<◌, ℕ, List, ◌∷◌, Option, Some, length, refl, ap, ap₂, sym, subst, ◌∙◌}
use Rattle.std.specs.Prelude.{Contains, Result, Ok}
use Rattle.std.specs.Option.{option_map_or}
use Rattle.rl_view_spec.specs.Closure.{Text}
use Rattle.rl_view_spec.specs.Progress.{Progress}
use Rattle.rl_view_spec.specs.View.{View, Event, Throws, log_of}
use Rattle.rl_view.specs.Seen.{HasSeen, IsDue}
use Rattle.rl_wire.specs.Reading as wire
use Rattle.rl_wire.specs.declared.part.Part.{Part}
use Rattle.rl_book_spec.specs.Book.{bring, delivery, event_of, events_of, nothing, parts_for}
use Rattle.rl_book_spec.specs.Given.{took_by, used_by}
use Rattle.rl_book_spec.specs.Opening.{Opening, view_of}
use Rattle.rl_book_spec.specs.Traffic.{Traffic, after_answer, after_delivery, asked_of, traffic_of}
use Rattle.rl_book_spec.specs.declared.Asked.{Asked}
use Rattle.rl_book_spec.specs.declared.Call.{Call}
use Rattle.rl_book_spec.specs.declared.Call.TheVariants.{Deliver}
use Rattle.rl_book_spec.specs.declared.Mark.{Mark}
use Rattle.rl_book_spec.specs.declared.Sent.{Sent}
use Rattle.rl_book_spec.specs.declared.Took.{Took}
use Rattle.rl_book_spec.proofs.AskedForLemmas.{asked_sent}
use Rattle.rl_book_spec.proofs.LaterLemmas.{batches_ask}
use Rattle.rl_book.specs.Delivering.{Taking, TakesParts, after_parts}
use Rattle.rl_book.specs.declared.given.Delivered.{Delivered}
use Rattle.rl_book.proofs.AskingLemmas.{Follows}
use Rattle.rl_book.proofs.DeliveringLemmas.{brought_due}
use Rattle.rl_book.proofs.UsedLemmas.{used_is}

module _ (throws : Throws) (o : Opening) (past : List Call) (ask : ℕ) (bytes : Text) (mark : Mark) (parts : List Part) (pair : Asked × Sent)
    (read : wire.answer_of bytes ≡ Ok parts) (there : asked_of (traffic_of o past) ask ≡ Some pair) where
  abbrev v : View
  v = view_of throws o

  abbrev call : Call
  call = Deliver ask bytes mark

  pub event_is : event_of o past call ≡ bring (parts_for o.registered pair.1.batch parts)
  event_is =
      ap (λ (read : Result (List Part) ℕ). delivery o (traffic_of o past) ask read) read
      ∙ ap (λ (found : Option (Asked × Sent)). option_map_or (λ pair. bring (parts_for o.registered pair.1.batch parts)) found nothing) there

  traffic_is : traffic_of o (call ∷ past) ≡ after_delivery (traffic_of o past) ask
  traffic_is = ap (λ (read : Result (List Part) ℕ). after_answer (traffic_of o past) ask read) read

  pub asked_within : (k : ℕ) → Contains pair.1.batch.rows k → k < length o.registered.rows
  asked_within k c = (batches_ask o past pair.0.batch pair.1 k (asked_sent (traffic_of o past) ask pair there) c).within

  parts_came : (s : Taking) → HasSeen v (events_of o past) (log_of v (events_of o past)) s.table
      → IsDue v (event_of o past call) (events_of o past) (after_parts pair.1.batch.rows mark parts s).table
  parts_came s seen =
      subst (λ (event : Event). IsDue v event (events_of o past) (after_parts pair.1.batch.rows mark parts s).table) (sym event_is)
      (brought_due v (events_of o past) pair.1.batch asked_within mark parts s seen)

  module _ (took : Took) (t t' : Progress) (delivered delivered' : List (Option Delivered)) (q q' : Traffic)
      (seen : HasSeen v (events_of o past) (log_of v (events_of o past)) t) (traffic : q ≡ traffic_of o past)
      (takes : TakesParts ask parts mark took t t' delivered delivered' q q') where
    abbrev start : Taking
    start = record { table = t; delivered = delivered; used = 0 }

    pub taken : record { table = t'; delivered = delivered'; used = took.used } ≡ after_parts pair.1.batch.rows mark parts start
    taken = takes.taken pair (ap (λ (q : Traffic). asked_of q ask) traffic ∙ there)

    came : IsDue v (event_of o past call) (events_of o past) (after_parts pair.1.batch.rows mark parts start).table
    came = parts_came start seen

    pub deliver_follows : Follows throws o past call t' q'
    deliver_follows = record {
      due =
          subst (λ (p : Progress). IsDue v (event_of o past call) (events_of o past) p) (sym (ap (λ (s : Taking). s.table) taken)) came;
      traffic = takes.requests ∙ ap (λ (q : Traffic). after_delivery q ask) traffic ∙ sym traffic_is;
    }

    -- and the parts that were used are those that the history tells
    pub deliver_took : took ≡ took_by o past call parts
    deliver_took =
        let used : took.used ≡ used_by o past call =
        ap (λ (s : Taking). s.used) taken
        ∙ used_is throws o past call (log_of v (events_of o past)) (log_of v (events_of o past)) pair.1.batch.rows mark parts start refl seen came in
        ap₂ (λ (used passed : ℕ). record { used = used; passed = passed }) used (takes.passed ∙ ap (λ (used : ℕ). length parts - used) used)
