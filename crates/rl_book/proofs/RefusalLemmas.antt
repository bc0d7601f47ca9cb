-- What is no answer, delivered to an ask, is what the history says of it: a loss, where the ask may be lost.
use Rattle.std.proofs.Common.{◌≡◌, ℕ, ◌+◌, ◌<◌, ◌≤◌, ◌^◌, List, [], ◌∷◌, ◌++◌, Bool, true, false, ◌&&◌, Global, Option, Some, None, length, refl, ap, sym, subst}
use Rattle.std.proofs.Common.{◌∙◌, inr, arith, length-append}
use Rattle.std.specs.declared.vec.Vec.{Vec}
use Rattle.std.specs.Prelude.{if◌then◌else◌, is_some, nat_lt, vec_capacity, Result, Err}
use Rattle.std.specs.Option.{option_map_or}
use Rattle.rl_view_spec.specs.Closure.{Text}
use Rattle.rl_view_spec.specs.Progress.{Progress}
use Rattle.rl_view_spec.specs.View.{Event}
use Rattle.rl_view.specs.Seen.{HasSeen}
use Rattle.rl_wire.specs.Reading.{answer_of}
use Rattle.rl_wire.specs.declared.part.Part.{Part}
use Rattle.rl_batch.specs.Requests.{MayBeLost, open_count}
use Rattle.rl_book_spec.specs.Book.{bring, delivery, event_of, given_up, loss, nothing}
use Rattle.rl_book_spec.specs.Given.{given_in}
use Rattle.rl_book_spec.specs.Kept.{Booked, events_in, is_quiet, rows_run, threw_in, view_in}
use Rattle.rl_book_spec.specs.Opening.{Opening}
use Rattle.rl_book_spec.specs.Traffic as spec
use Rattle.rl_book_spec.specs.Traffic.{Traffic, after_loss, asked_of, may_be_lost, with_loss}
use Rattle.rl_book_spec.specs.declared.Asked.{Asked}
use Rattle.rl_book_spec.specs.declared.Call.{Call}
use Rattle.rl_book_spec.specs.declared.Call.TheVariants.{Deliver}
use Rattle.rl_book_spec.specs.declared.Mark.{Mark}
use Rattle.rl_book_spec.specs.declared.Origin.TheVariants as origin
use Rattle.rl_book_spec.specs.declared.Sent.{Sent}
use Rattle.rl_book_spec.proofs.StageLemmas.{loss_quiet, quiet_next}
use Rattle.rl_book.specs.Calls.{Rests}
use Rattle.rl_book.specs.Kept.{IsKept, after_refusal, after_third, booked, may_be_lost_at}
use Rattle.rl_book.specs.Serving.{with_call}
use Rattle.rl_book.specs.declared.visit.Visit.TheInside.{Inside}
use Rattle.rl_book.proofs.CallsLemmas.{open_after}
use Rattle.rl_book.proofs.NotedLemmas.{noted, open_at_most}
use Rattle.rl_book.proofs.PartsLemmas.{GivesAtTouch, parts_stay}
use Rattle.rl_book.proofs.SeenLemmas.{seen_loss, seen_quiet}

-- ---- an ask that may be lost, and one that may not

pub open_there : (t : Traffic) (ask : ℕ) → may_be_lost_at t ask ≡ true → MayBeLost t ask
open_there t ask e = step (asked_of t ask) refl e
  where
    step : (found : Option (Asked × Sent)) → asked_of t ask ≡ found → option_map_or may_be_lost found false ≡ true → MayBeLost t ask
    step None f e = cc
    step (Some pair) f e = record { pair = pair; there = f; lost = e }

-- where it may not the loss is nothing
closed_nothing : (o : Opening) (t : Traffic) (ask : ℕ) → may_be_lost_at t ask ≡ false → loss o t ask ≡ nothing
closed_nothing o t ask e = step (asked_of t ask) e
  where
    step : (found : Option (Asked × Sent)) → option_map_or may_be_lost found false ≡ false
        → option_map_or (λ (pair : Asked × Sent). if may_be_lost pair && nat_lt 1 pair.1.losses then bring (given_up o.registered pair.1.batch) else nothing)
        found nothing ≡ nothing
    step None e = refl
    step (Some pair) e = ap (λ (b : Bool). if b && nat_lt 1 pair.1.losses then bring (given_up o.registered pair.1.batch) else nothing) e

-- and changes nothing of what is asked for
pub closed_same : (t : Traffic) (ask : ℕ) → may_be_lost_at t ask ≡ false → after_loss t ask ≡ t
closed_same t ask e = step (asked_of t ask) e
  where
    step : (found : Option (Asked × Sent)) → option_map_or may_be_lost found false ≡ false
        → option_map_or (λ (pair : Asked × Sent). if may_be_lost pair then with_loss ask pair.0 pair.1 t else t) found t ≡ t
    step None e = refl
    step (Some pair) e = ap (λ (b : Bool). if b then with_loss ask pair.0 pair.1 t else t) e

-- no more asks are open than before
fewer_open : (t : Traffic) (ask : ℕ) → open_count (after_loss t ask).asks ≤ open_count t.asks
fewer_open t ask = step (may_be_lost_at t ask) refl
  where
    step : (b : Bool) → may_be_lost_at t ask ≡ b → open_count (after_loss t ask).asks ≤ open_count t.asks
    step true e = let fewer = open_after t ask (open_there t ask e) in omega (arith, fewer)
    step false e = let same = ap (λ (t : Traffic). open_count t.asks) (closed_same t ask e) in omega (arith, same)

-- ---- what is no answer

module _ (ask : ℕ) (bytes : Text) (mark : Mark) (line : ℕ) (bad : answer_of bytes ≡ Err line) where
  abbrev call : Call
  call = Deliver ask bytes mark

  -- it is a loss
  event_is : (o : Opening) (past : List Call) → event_of o past call ≡ loss o (spec.traffic_of o past) ask
  event_is o past = ap (λ (read : Result (List Part) ℕ). delivery o (spec.traffic_of o past) ask read) bad

  quiet : (o : Opening) (past : List Call) → is_quiet (event_of o past call) ≡ true
  quiet o past = ap is_quiet (event_is o past) ∙ loss_quiet o (spec.traffic_of o past) ask

  gives : (o : Opening) → GivesAtTouch o call
  gives o name given g =
      let none : None ≡ Some given = sym (ap (λ (read : Result (List Part) ℕ). given_in name read (origin.Wire mark)) bad) ∙ g in
      cc

  -- nothing is due by it
  pub still_rests : (b : Booked) → Rests b → Rests (with_call call b)
  still_rests b rests =
      ap (λ (row : Option ℕ). is_some row)
      (quiet_next (view_in b) (event_of b.opening b.past call) (events_in b) (rows_run b) (quiet b.opening b.past))
      ∙ rests

  module _ (i : Inside) (k : IsKept i) where
    abbrev b : Booked
    b = booked i

    abbrev t : Traffic
    t = spec.traffic_of b.opening b.past

    seen_refusal : HasSeen (view_in b) (loss b.opening t ask ∷ events_in b) (rows_run b) (after_refusal t ask i.table)
    seen_refusal = step (may_be_lost_at t ask) refl
      where
        chosen : Bool → Progress
        chosen does = if does then after_third t ask i.table else i.table

        step : (does : Bool) → may_be_lost_at t ask ≡ does
            → HasSeen (view_in b) (loss b.opening t ask ∷ events_in b) (rows_run b) (if may_be_lost_at t ask then after_third t ask i.table else i.table)
        step true e =
            let m : MayBeLost t ask = open_there t ask e in
            subst (λ (does : Bool). HasSeen (view_in b) (loss b.opening t ask ∷ events_in b) (rows_run b) (if does then after_third t ask i.table else i.table))
            (sym e)
            (seen_loss (threw_in b.opening.registered b.ran) b.opening b.past ask (rows_run b) i.table m.pair k.seen k.book.stage m.there m.lost)
        step false e =
            subst (λ (does : Bool). HasSeen (view_in b) (loss b.opening t ask ∷ events_in b) (rows_run b) (if does then after_third t ask i.table else i.table))
            (sym e)
            (subst (λ (event : Event). HasSeen (view_in b) (event ∷ events_in b) (rows_run b) i.table) (sym (closed_nothing b.opening t ask e))
            (seen_quiet (view_in b) (events_in b) (rows_run b) i.table k.seen k.book.stage))

    pub refusal_kept : (table : Progress) (requests : Traffic) (calls : Vec Call Global) → table ≡ after_refusal i.requests ask i.table
        → requests ≡ after_loss i.requests ask → calls.items ≡ i.calls.items ++ call ∷ []
        → length i.calls.items + length i.requests.asks + 2 < 2 ^ 32 → length i.calls.items + length i.requests.asks + 2 ≤ vec_capacity calls
        → IsKept (record i { table = table; requests = requests; calls = calls })
    refusal_kept table requests calls given traffic grown few room =
        let is : table ≡ after_refusal t ask i.table = given ∙ ap (λ (t : Traffic). after_refusal t ask i.table) k.requests in
        let seen : HasSeen (view_in b) (event_of b.opening b.past call ∷ events_in b) (rows_run b) table =
        subst (λ (event : Event). HasSeen (view_in b) (event ∷ events_in b) (rows_run b) table) (sym (event_is b.opening b.past))
        (subst (λ (p : Progress). HasSeen (view_in b) (loss b.opening t ask ∷ events_in b) (rows_run b) p) (sym is) seen_refusal) in
        let long = ap length grown ∙ length-append i.calls.items (call ∷ []) in
        let most = open_at_most i.requests.asks in
        let fewer = fewer_open i.requests ask in
        let same = ap (λ (t : Traffic). open_count t.asks) traffic in
        noted i call table i.delivered requests calls k grown (inr (quiet b.opening b.past, k.book.stage)) seen
        (parts_stay b.opening b.past call i.delivered.items (gives b.opening) k.parts)
        (traffic ∙ sym (ap (λ (read : Result (List Part) ℕ). spec.after_answer i.requests ask read) bad))
        (omega (arith, long, most, fewer, same, few)) (omega (arith, long, most, fewer, same, room))
