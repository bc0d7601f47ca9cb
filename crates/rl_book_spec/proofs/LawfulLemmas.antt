-- The events of calls are lawful.
use Rattle.std.proofs.Common.{◌≡◌, ℕ, List, [], ◌∷◌, Bool, true, false, ◌||◌, ◌&&◌, Option, Some, None, refl, ap, ap₂}
use Rattle.std.proofs.Common.{sym, ◌∙◌}
use Rattle.std.specs.Prelude.{filter, if◌then◌else◌, nat_lt, Result, Ok, Err}
use Rattle.std.specs.List.{list_all}
use Rattle.std.specs.Option.{option_map_or}
use Rattle.rl_view_spec.specs.Closure.{Text, Registered, in_closures, resolves}
use Rattle.rl_view_spec.proofs.ResolveLemmas.{accepted_each_resolves}
use Rattle.rl_view_spec.proofs.ToolsLemmas.{each_all, filter_contains}
use Rattle.rl_wire.specs.Reading as wire
use Rattle.rl_wire.specs.declared.part.Part.{Part}
use Rattle.rl_book_spec.specs.Book.{nothing, bring, given_up, parts_for, loss, delivery, event_of}
use Rattle.rl_book_spec.specs.Laws.{BooksAreLawful, RequestsTouch}
use Rattle.rl_book_spec.specs.Opening.{Opening}
use Rattle.rl_book_spec.specs.Traffic.{Traffic, asked_of, may_be_lost, requested_by, traffic_of}
use Rattle.rl_book_spec.specs.declared.Asked.{Asked}
use Rattle.rl_book_spec.specs.declared.Sent.{Sent}
use Rattle.rl_book_spec.specs.declared.Call.{Call}
use Rattle.rl_book_spec.specs.declared.Call.TheVariants.{Using, Load, Take, Deliver, Lose}

-- what a loss or a delivery brings asks for nothing
pub loss_requests : (o : Opening) (t : Traffic) (ask : ℕ) → (loss o t ask).requested ≡ []
loss_requests o t ask = step (asked_of t ask)
  where
    chosen : (b : Bool) (sent : Sent) → (if b then bring (given_up o.registered sent.batch) else nothing).requested ≡ []
    chosen true sent = refl
    chosen false sent = refl

    step : (found : Option (Asked × Sent)) → (option_map_or (λ (pair : Asked × Sent). if may_be_lost pair && nat_lt 1 pair.1.losses
        then bring (given_up o.registered pair.1.batch) else nothing) found nothing).requested ≡ []
    step None = refl
    step (Some pair) = chosen (may_be_lost pair && nat_lt 1 pair.1.losses) pair.1

pub delivery_requests : (o : Opening) (t : Traffic) (ask : ℕ) (read : Result (List Part) ℕ) → (delivery o t ask read).requested ≡ []
delivery_requests o t ask (Err line) = loss_requests o t ask
delivery_requests o t ask (Ok parts) = step (asked_of t ask)
  where
    step : (found : Option (Asked × Sent)) → (option_map_or (λ (pair : Asked × Sent). bring (parts_for o.registered pair.1.batch parts)) found
        nothing).requested ≡ []
    step None = refl
    step (Some pair) = refl

-- the event of a call requests what the call does
pub event_requests : (o : Opening) (past : List Call) (call : Call) → (event_of o past call).requested ≡ requested_by o.registered call
event_requests o past (Using names) = refl
event_requests o past (Load names) = refl
event_requests o past Take = refl
event_requests o past (Deliver ask bytes mark) = delivery_requests o (traffic_of o past) ask (wire.answer_of bytes)
event_requests o past (Lose ask mark) = loss_requests o (traffic_of o past) ask

call_lawful : (r : Registered) (call : Call) → list_all (resolves r) (requested_by r call) ≡ true
call_lawful r (Using names) = accepted_each_resolves r names
call_lawful r (Load names) = each_all (resolves r) (filter (resolves r) names) (λ name c. (filter_contains (resolves r) names name c).1)
call_lawful r Take = refl
call_lawful r (Deliver ask bytes mark) = refl
call_lawful r (Lose ask mark) = refl

pub books_lawful : BooksAreLawful
books_lawful throws o [] = tt
books_lawful throws o (call ∷ past) = (
  ap (λ (names : List Text). list_all (resolves o.registered) names) (event_requests o past call)
      ∙ call_lawful o.registered call,
  books_lawful throws o past,
)

pub requests_touch : RequestsTouch
requests_touch throws o [] name = refl
requests_touch throws o (call ∷ past) name =
    ap₂ (λ (a b : Bool). a || b) (ap (λ (names : List Text). in_closures o.registered names name) (sym (event_requests o past call)))
    (requests_touch throws o past name)
