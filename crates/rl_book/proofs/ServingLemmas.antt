-- A call that is noted while nothing is due.
use Rattle.std.proofs.Common.{◌≡◌, ℕ, ◌+◌, ◌<◌, ◌≤◌, ◌^◌, List, [], ◌∷◌, ◌++◌, Bool, true, false, Global, Option, Some, None, length, refl, ap, sym, subst}
use Rattle.std.proofs.Common.{◌∙◌, inl, inr, arith, length-append}
use Rattle.std.specs.declared.vec.Vec.{Vec}
use Rattle.std.specs.Prelude.{is_some, vec_capacity, Ok, Err}
use Rattle.rl_names.specs.declared.name.Key.{Key}
use Rattle.rl_view_spec.specs.Closure.{Text, refusal_of}
use Rattle.rl_view_spec.specs.Numbers.{closure_numbers}
use Rattle.rl_view_spec.specs.Progress.{Progress}
use Rattle.rl_view_spec.specs.View.{View, Event, log_of}
use Rattle.rl_view.specs.Seen.{HasSeen}
use Rattle.rl_view.proofs.ReadingsLemmas.{refusal_seen}
use Rattle.rl_batch.specs.Requests.{open_count}
use Rattle.rl_book_spec.specs.Book.{event_of}
use Rattle.rl_book_spec.specs.Kept.{Booked, events_in, is_due, rows_run, threw_in, view_in}
use Rattle.rl_book_spec.specs.Traffic.{Traffic, traffic_after}
use Rattle.rl_book_spec.specs.declared.Call.{Call}
use Rattle.rl_book_spec.specs.declared.Call.TheVariants.{Using}
use Rattle.rl_book_spec.proofs.StageLemmas.{stage_begins, stage_ends}
use Rattle.rl_book.specs.Asking.{Touched}
use Rattle.rl_book.specs.Calls.{HasExecuted, Rests, Told, due_row}
use Rattle.rl_book.specs.Kept.{IsKept, KeepsParts, booked, rows_said}
use Rattle.rl_book.specs.Serving.{NotesUsing, RequestsAll, Serves, with_call}
use Rattle.rl_book.specs.declared.error.UsingError.{UsingError}
use Rattle.rl_book.specs.declared.error.UsingError.TheVariants as refused
use Rattle.rl_book.specs.declared.given.Delivered.{Delivered}
use Rattle.rl_book.specs.declared.visit.Visit.TheInside.{Inside}
use Rattle.rl_book.proofs.AskingLemmas.{Follows, using_follows}
use Rattle.rl_book.proofs.NotedLemmas.{noted, open_at_most, still_kept}
use Rattle.rl_book.proofs.PartsLemmas.{GivesAtTouch, parts_stay, using_gives}

-- ---- nothing is due

none_left : (o : Option ℕ) → is_some o ≡ false → o ≡ None
none_left None e = refl
none_left (Some row) e = cc

module _ (i : Inside) (b : Booked) (k : IsKept i) (view : booked i ≡ b) (rests : Rests b) where
  end : due_row (booked i) ≡ None
  end = none_left (due_row (booked i)) (ap (λ (b : Booked). is_some (due_row b)) view ∙ rests)

  log_is : rows_run (booked i) ≡ log_of (view_in (booked i)) (events_in (booked i))
  log_is = stage_ends (view_in (booked i)) (events_in (booked i)) (rows_run (booked i)) k.book.stage end

  pub seen_all : HasSeen (view_in (booked i)) (events_in (booked i)) (log_of (view_in (booked i)) (events_in (booked i))) i.table
  seen_all = subst (λ (log : List ℕ). HasSeen (view_in (booked i)) (events_in (booked i)) log i.table) log_is k.seen

  -- a call is noted, for which the table, the parts that rows took, and the traffic are as they follow
  pub noted_kept : (call : Call) (table : Progress) (delivered : Vec (Option Delivered) Global) (requests : Traffic) (calls : Vec Call Global)
      → Follows (threw_in (booked i).opening.registered (booked i).ran) (booked i).opening (booked i).past call table requests
      → KeepsParts (booked i).opening (call ∷ (booked i).past) delivered.items → open_count requests.asks ≡ open_count i.requests.asks
      → calls.items ≡ i.calls.items ++ call ∷ [] → length i.calls.items + length i.requests.asks + 2 < 2 ^ 32
      → length i.calls.items + length i.requests.asks + 2 ≤ vec_capacity calls
      → IsKept (record i { table = table; delivered = delivered; requests = requests; calls = calls })
  noted_kept call table delivered requests calls follows keeps same grown few room =
      let v : View = view_in (booked i) in
      let past : List Event = events_in (booked i) in
      let event : Event = event_of (booked i).opening (booked i).past call in
      let long = ap length grown ∙ length-append i.calls.items (call ∷ []) in
      let most = open_at_most i.requests.asks in
      noted i call table delivered requests calls k grown (stage_begins v event past (rows_run (booked i)) k.book.stage end)
      (subst (λ (log : List ℕ). HasSeen v (event ∷ past) log table) (sym log_is) follows.due)
      keeps (follows.traffic ∙ ap (traffic_after (booked i).opening (booked i).past call) (sym k.requests))
      (omega (arith, long, most, same, few)) (omega (arith, long, most, same, room))

  -- and no row took a part
  pub served_kept : (call : Call) (table : Progress) (requests : Traffic) (calls : Vec Call Global)
      → Follows (threw_in (booked i).opening.registered (booked i).ran) (booked i).opening (booked i).past call table requests
      → GivesAtTouch (booked i).opening call → open_count requests.asks ≡ open_count i.requests.asks
      → calls.items ≡ i.calls.items ++ call ∷ [] → length i.calls.items + length i.requests.asks + 2 < 2 ^ 32
      → length i.calls.items + length i.requests.asks + 2 ≤ vec_capacity calls
      → IsKept (record i { table = table; requests = requests; calls = calls })
  served_kept call table requests calls follows gives same grown few room =
      noted_kept call table i.delivered requests calls follows (parts_stay (booked i).opening (booked i).past call i.delivered.items gives k.parts)
      same grown few room

  pub using_kept : (names : List Text) (table : Progress) (requests : Traffic) (calls : Vec Call Global)
      → refusal_of i.table.registered names ≡ None
      → Touched i.plan i.held.gifts (closure_numbers i.table.registered names) i.table table i.requests requests
      → calls.items ≡ i.calls.items ++ Using names ∷ [] → length i.calls.items + length i.requests.asks + 2 < 2 ^ 32
      → length i.calls.items + length i.requests.asks + 2 ≤ vec_capacity calls
      → IsKept (record i { table = table; requests = requests; calls = calls })
  using_kept names table requests calls fine touched grown few room =
      let follows = using_follows (threw_in (booked i).opening.registered (booked i).ran) i.plan (rows_said i.startup) i.held.embedded i.held.store.pairs i.held.gifts k.gifts (booked i).past
      i.table table i.requests requests seen_all k.requests names fine touched in
      let asks = ap (λ (t : Traffic). open_count t.asks) touched.requests in
      served_kept (Using names) table requests calls follows (using_gives (booked i).opening names) asks grown few room

  -- the registry of the table refuses what that of the opening refuses
  pub refusal_here : (names : List Text) → refusal_of i.table.registered names ≡ refusal_of b.opening.registered names
  refusal_here names =
      refusal_seen (view_in (booked i)) (events_in (booked i)) (rows_run (booked i)) i.table k.seen names
      ∙ ap (λ (b : Booked). refusal_of b.opening.registered names) view

-- where nothing was noted
pub unserved_kept : (i : Inside) (table : Progress) (requests : Traffic) (calls : Vec Call Global) → IsKept i → table ≡ i.table
    → requests ≡ i.requests → calls.items ≡ i.calls.items → vec_capacity i.calls ≤ vec_capacity calls
    → IsKept (record i { table = table; requests = requests; calls = calls })
unserved_kept i table requests calls k same asked items more =
    subst (λ (t : Progress). IsKept (record i { table = t; requests = requests; calls = calls })) (sym same)
    (still_kept i requests calls k items asked more)

-- ---- a call is served

pub executed_by : (one other : Key → Text → Bool) (old new : Booked) (told told' : Told) → one ≡ other → HasExecuted one old new told told'
    → HasExecuted other old new told told'
executed_by one other old new told told' same h = subst (λ (says : Key → Text → Bool). HasExecuted says old new told told') same h

module _ (says : Key → Text → Bool) (names : List Text) (old mid mid' : Booked) (told told1 : Told)
    (first : HasExecuted says old mid told told1) (rests : Rests mid) where
  same_refusal : refusal_of mid.opening.registered names ≡ refusal_of old.opening.registered names
  same_refusal = ap (λ (b : Booked). refusal_of b.opening.registered names) first.1.ran

  abbrev with_names : Booked
  with_names = with_call (Using names) mid

  executed_same : mid' ≡ mid → HasExecuted says old mid' told told1
  executed_same same = (first.0, record { ran = same ∙ first.1.ran; heard = first.1.heard })

  pub refused_serves : (e : UsingError) → NotesUsing (Err e) names mid mid' → RequestsAll says (Err e) names old mid' told told1
  refused_serves (refused.Unknown name) h = (sym same_refusal ∙ h.0, executed_same h.1, ap is_due h.1 ∙ rests)
  refused_serves (refused.Cycle name) h = (sym same_refusal ∙ h.0, executed_same h.1, ap is_due h.1 ∙ rests)
  refused_serves refused.NoMemory h = inl (executed_same h)

  module _ (new : Booked) (told' : Told) (notes : NotesUsing (Ok tt) names mid mid') (later : HasExecuted says mid' new told1 told') where
    serves : Serves says (Using names) old new told told'
    serves = record {
      between = mid;
      heard = told1;
      first = first;
      rests = rests;
      later = subst (λ (b : Booked). HasExecuted says b new told1 told') notes.1 later;
    }

    pub used_serves : Rests new → RequestsAll says (Ok tt) names old new told told'
    used_serves end = (sym same_refusal ∙ notes.0, serves, end)

    pub short_serves : is_due new ≡ true → RequestsAll says (Err refused.NoMemory) names old new told told'
    short_serves due = inr (sym same_refusal ∙ notes.0, serves, due)
