-- What each step answers, and what is printed for it.
use Rattle.std.specs.Prelude.{ℕ, ◌+◌, ◌++◌, [], List, not, if◌then◌else◌, count_by, drop, flat_map}
use Rattle.std.specs.Prelude.{length, nat_le, slice_get, Option, Some, None, Result, Ok, Err}
use Rattle.std.specs.Option.{option_map_or}
use Rattle.rl_pages.specs.declared.entry.Entry.{Entry}
use Rattle.rl_pages.specs.declared.refusals.ChoiceError.{ChoiceError}
use Rattle.rl_pages.specs.declared.refusals.ChoiceError.TheVariants as choice
use Rattle.rl_pages.specs.declared.refusals.EditError.{EditError}
use Rattle.rl_pages.specs.declared.refusals.EditError.TheVariants as edit
use Rattle.rl_wire.specs.Reading.{answer_of}
use Rattle.rl_wire.specs.declared.part.Part.{Part}
use Rattle.rl_view_spec.specs.Closure.{Text, Refusal, Unknown, Cycle, refusal_of, resolves}
use Rattle.rl_view_spec.specs.Progress.{name_at}
use Rattle.rl_view_spec.specs.View as view
use Rattle.rl_view_spec.specs.View.{Event, Throws, log_of}
use Rattle.rl_script_spec.specs.Output.{line, run_line}
use Rattle.rl_book_spec.specs.Book.{events_of}
use Rattle.rl_book_spec.specs.Given.{took_by}
use Rattle.rl_book_spec.specs.Opening.{view_of}
use Rattle.rl_book_spec.specs.Traffic.{asked_of, is_settled}
use Rattle.rl_book_spec.specs.declared.Asked.{Asked}
use Rattle.rl_book_spec.specs.declared.Sent.{Sent}
use Rattle.rl_book_spec.specs.declared.Took.{Took}
use Rattle.rl_reply.specs.Reply.{reply_text}
use Rattle.rl_reply.specs.declared.reply.Reply.{Reply}
use Rattle.rl_reply.specs.declared.reply.Reply.TheVariants as reply
use Rattle.rl_steps.specs.declared.step.Step.{Step}
use Rattle.rl_steps.specs.declared.step.Step.TheVariants.{Edit, Choice, Clock, View, Using, Load, Take, Serve, Deliver, Lose, Close, Embed}
use Rattle.rl_stage_spec.specs.Session.{Asking, Session, Viewed, Wired, choice_by, delivery_of, edit_by, first_waiting, is_current, session_after, traffic_in}

-- ---- the wiki

-- an accepted entry tells its number, counted from 1; want of memory is no refusal
abbrev pub edit_reply : List Entry → Result Entry EditError → Reply
edit_reply entries (Ok entry) = reply.Revision (length entries + 1)
edit_reply entries (Err edit.BadTitle) = reply.RefusedTitle
edit_reply entries (Err edit.NotAllowed) = reply.RefusedPolicy
edit_reply entries (Err (edit.Conflict current)) = reply.RefusedConflict current
edit_reply entries (Err (edit.TextTooLong len)) = reply.RefusedLength len
edit_reply entries (Err (edit.Full count bytes)) = reply.RefusedFull
edit_reply entries (Err edit.NoMemory) = reply.RefusedFull

abbrev pub choice_reply : List Entry → Result Entry ChoiceError → Reply
choice_reply entries (Ok entry) = reply.Revision (length entries + 1)
choice_reply entries (Err choice.NotAllowed) = reply.RefusedPolicy
choice_reply entries (Err choice.BadKey) = reply.RefusedKey
choice_reply entries (Err (choice.TextTooLong len)) = reply.RefusedLength len
choice_reply entries (Err (choice.Full count bytes)) = reply.RefusedFull
choice_reply entries (Err choice.NoMemory) = reply.RefusedFull

-- ---- the open view

-- what a step of the open view answers, and `no view` where none is open
abbrev pub of_view : (Viewed → Reply) → Session → Reply
of_view told s = option_map_or told s.current reply.NoView

-- the view that is open now: its number, and how many rows it has
abbrev pub opened_reply : Session → Reply
opened_reply s = of_view (λ v. reply.View (length s.ended) (length v.opening.registered.rows)) s

abbrev pub using_reply : Option Refusal → Reply
using_reply None = reply.UsingOk
using_reply (Some (Unknown name)) = reply.UsingUnknown name
using_reply (Some (Cycle name)) = reply.UsingCycle name

-- how many places of the list have a name that does not resolve
abbrev pub load_reply : List Text → Viewed → Reply
load_reply names v = reply.Dropped (count_by (λ name. not (resolves v.opening.registered name)) names)

-- the number of the next ask, over the session, with the source and the query of the batch that waits first
abbrev pub take_reply : Session → Viewed → Reply
take_reply s v = option_map_or (λ (sent : Sent). reply.Ask (length s.asks) sent.batch.source sent.batch.query) (first_waiting v) reply.TakeNone

-- ---- asks and answers

-- the parts that an answer has
abbrev pub parts_in : Result (List Part) ℕ → List Part
parts_in (Ok parts) = parts
parts_in (Err line) = []

abbrev pub parts_of : Wired → List Part
parts_of wire = parts_in (answer_of wire.text)

abbrev pub took_reply : Took → Reply
took_reply took = reply.Took took.used took.passed

-- How many of its parts the open view used, and how many it passed over. All are passed over where its view was closed.
abbrev pub deliver_reply : ℕ → Session → Wired → Reply
deliver_reply number s wire =
    if is_current s wire.ask
    then of_view (λ v. took_reply (took_by v.opening v.past (delivery_of number wire) (parts_of wire))) s
    else reply.Took 0 (length (parts_of wire))

-- The ask of the open view is lost: its batch is asked for again, until the third loss. It cannot be lost where its batch is
-- settled, nor twice.
abbrev pub loss_reply : Asked × Sent → Reply
loss_reply (asked, sent) =
    if is_settled sent then reply.Settled
    else if asked.lost then reply.LostBefore
    else if nat_le 2 sent.losses then reply.GivenUp
    else reply.Again (sent.losses + 1)

-- the batch of an ask of a view that was closed is settled
abbrev pub lose_reply : Session → Asking → Reply
lose_reply s ask =
    of_view (λ v. if is_current s ask then option_map_or loss_reply (asked_of (traffic_in v) ask.number) reply.NoAsk else reply.Settled) s

-- ---- steps

-- The reply to a step. An ask or an answer that does not exist is told before all else.
abbrev pub reply_to : Throws → Session → Step → Reply
reply_to throws s (Edit by title base text) = edit_reply s.entries (edit_by s by title base text)
reply_to throws s (Choice user key value) = choice_reply s.entries (choice_by s user key value)
reply_to throws s (Clock now) = reply.Clock now
reply_to throws s (View user lang skin debug features) = opened_reply (session_after throws s (View user lang skin debug features))
reply_to throws s (Using names) = of_view (λ v. using_reply (refusal_of v.opening.registered names)) s
reply_to throws s (Load names) = of_view (load_reply names) s
reply_to throws s Take = of_view (take_reply s) s
reply_to throws s (Serve ask) = option_map_or (λ _. reply.Wire (length s.wires)) (slice_get s.asks ask) reply.NoAsk
reply_to throws s (Deliver wire) = option_map_or (deliver_reply wire s) (slice_get s.wires wire) reply.NoWire
reply_to throws s (Lose ask) = option_map_or (lose_reply s) (slice_get s.asks ask) reply.NoAsk
reply_to throws s Close = of_view (λ v. reply.Closed) s
reply_to throws s (Embed text) = reply.NoView

-- ---- executions

abbrev pub view_in : Throws → Viewed → view.View
view_in throws v = view_of throws v.opening

abbrev pub events_in : Viewed → List Event
events_in v = events_of v.opening v.past

-- the rows of the open view that executed, in order
abbrev pub log_in : Throws → Session → List ℕ
log_in throws s = option_map_or (λ v. log_of (view_in throws v) (events_in v)) s.current []

-- those that executed since: a new view begins with none
abbrev pub executed_since : Throws → Session → Session → List ℕ
executed_since throws before after = drop (length (log_in throws before)) (log_in throws after)

-- a line for each of these rows of the open view
abbrev pub runs_text : Throws → Session → List ℕ → Text
runs_text throws s rows =
    option_map_or (λ v. flat_map (λ row. run_line (view_in throws v) (events_in v) (name_at v.opening.registered row)) rows) s.current []

-- what is printed for a step: its reply, and a line for each execution that it added
abbrev pub printed_for : Throws → Session → Step → Text
printed_for throws s step =
    let after = session_after throws s step in
    line (reply_text (reply_to throws s step)) ++ runs_text throws after (executed_since throws s after)
