-- A well-formed answer to an ask is noted, and what was delivered is served.
use Rattle.std.proofs.Common.{◌≡◌, ℕ, ◌+◌, ◌<◌, ◌≤◌, ◌^◌, List, [], ◌∷◌, ◌++◌, Bool, true, Bor, Global, Option, Some, None, length, refl, ap, sym, subst, ◌∙◌}
use Rattle.std.proofs.Common.{inl, inr}
use Rattle.std.specs.declared.vec.Vec.{Vec}
use Rattle.std.specs.Prelude.{is_some, option_map, reverse, vec_capacity, Ok, Err}
use Rattle.std.specs.Option.{option_map_or}
use Rattle.std.proofs.lemmas.Option.{slice_get_within}
use Rattle.rl_names.specs.declared.name.Key.{Key}
use Rattle.rl_view_spec.specs.Closure.{Text}
use Rattle.rl_view_spec.specs.Progress.{Progress}
use Rattle.rl_view_spec.specs.View.{Throws}
use Rattle.rl_wire.specs.Arguments.{TellsLine}
use Rattle.rl_wire.specs.Reading.{answer_of}
use Rattle.rl_wire.specs.declared.part.Part.{Part}
use Rattle.rl_batch.specs.Requests.{open_count}
use Rattle.rl_book_spec.specs.Given.{took_by}
use Rattle.rl_book_spec.specs.Kept.{Booked, Notes, is_due, threw_in, traffic_in}
use Rattle.rl_book_spec.specs.Opening.{Opening}
use Rattle.rl_book_spec.specs.Traffic.{Traffic, after_delivery, asked_of, traffic_of, with_delivery}
use Rattle.rl_book_spec.specs.declared.Asked.{Asked}
use Rattle.rl_book_spec.specs.declared.Call.{Call}
use Rattle.rl_book_spec.specs.declared.Call.TheVariants.{Deliver}
use Rattle.rl_book_spec.specs.declared.Mark.{Mark}
use Rattle.rl_book_spec.specs.declared.Sent.{Sent}
use Rattle.rl_book_spec.specs.declared.Took.{Took}
use Rattle.rl_book_spec.proofs.SomewhereLemmas.{asked_there}
use Rattle.rl_book.specs.Calls.{HasExecuted, Rests, Told}
use Rattle.rl_book.specs.Delivering.{TakesParts}
use Rattle.rl_book.specs.Kept.{IsKept, KeepsParts, booked}
use Rattle.rl_book.specs.Serving.{Delivers, IsAnswer, NotesDelivery, Serves, TellsTook}
use Rattle.rl_book.specs.declared.error.DeliverError.{DeliverError}
use Rattle.rl_book.specs.declared.error.DeliverError.TheVariants as undelivered
use Rattle.rl_book.specs.declared.given.Delivered.{Delivered}
use Rattle.rl_book.specs.declared.visit.Visit.TheInside.{Inside}
use Rattle.rl_book.proofs.AskingLemmas.{Follows}
use Rattle.rl_book.proofs.DeliveredLemmas.{deliver_follows, deliver_took}
use Rattle.rl_book.proofs.ExecutingLemmas.{executes_none}
use Rattle.rl_book.proofs.RefusalLemmas.{still_rests}
use Rattle.rl_book.proofs.ServingLemmas.{noted_kept, seen_all, unserved_kept}
use Rattle.rl_book.proofs.TookLemmas.{parts_kept}

-- an ask that has a batch is one of the asks
pub ask_within : (t : Traffic) (ask : ℕ) (pair : Asked × Sent) → asked_of t ask ≡ Some pair → ask < length t.asks
ask_within t ask pair there = slice_get_within t.asks ask pair.0 (asked_there t ask pair there)

-- the asks stay as they are
delivered_asks : (t : Traffic) (ask : ℕ) → (after_delivery t ask).asks ≡ t.asks
delivered_asks t ask = step (asked_of t ask)
  where
    step : (found : Option (Asked × Sent)) → (option_map_or (λ (pair : Asked × Sent). with_delivery pair.0 pair.1 t) found t).asks ≡ t.asks
    step None = refl
    step (Some pair) = refl

-- ---- an answer is noted

module _ (i : Inside) (b : Booked) (k : IsKept i) (view : booked i ≡ b) (rests : Rests b) (ask : ℕ) (bytes : Text) (mark : Mark) (parts : List Part)
    (read : answer_of bytes ≡ Ok parts) (pair : Asked × Sent) (there : asked_of (traffic_in b) ask ≡ Some pair) (took : Took) (table : Progress)
    (delivered : Vec (Option Delivered) Global) (requests : Traffic)
    (takes : TakesParts ask parts mark took i.table table i.delivered.items delivered.items i.requests requests) where
  abbrev o : Opening
  o = (booked i).opening

  abbrev past : List Call
  past = (booked i).past

  abbrev throws : Throws
  throws = threw_in o.registered (booked i).ran

  here : asked_of (traffic_of o past) ask ≡ Some pair
  here = ap (λ (b : Booked). asked_of (traffic_in b) ask) view ∙ there

  pub answer_kept : (calls : Vec Call Global) → calls.items ≡ i.calls.items ++ Deliver ask bytes mark ∷ []
      → length i.calls.items + length i.requests.asks + 2 < 2 ^ 32 → length i.calls.items + length i.requests.asks + 2 ≤ vec_capacity calls
      → IsKept (record i { table = table; delivered = delivered; requests = requests; calls = calls })
  answer_kept calls grown few room =
      let follows : Follows throws o past (Deliver ask bytes mark) table requests =
      deliver_follows throws o past ask bytes mark parts pair read here took i.table table i.delivered.items delivered.items i.requests requests
      (seen_all i b k view rests) k.requests takes in
      let keeps : KeepsParts o (Deliver ask bytes mark ∷ past) delivered.items =
      parts_kept throws o past ask bytes mark parts pair read here took i.table table i.delivered.items delivered.items i.requests requests
      (seen_all i b k view rests) k.requests takes k.parts in
      noted_kept i b k view rests (Deliver ask bytes mark) table delivered requests calls follows keeps
      (ap (λ (t : Traffic). open_count t.asks) takes.requests ∙ ap open_count (delivered_asks i.requests ask)) grown few room

  pub answer_took : took ≡ took_by b.opening b.past (Deliver ask bytes mark) parts
  answer_took =
      deliver_took throws o past ask bytes mark parts pair read here took i.table table i.delivered.items delivered.items i.requests requests
      (seen_all i b k view rests) k.requests takes
      ∙ ap (λ (b : Booked). took_by b.opening b.past (Deliver ask bytes mark) parts) view

-- it was found
pub found_asked : (i : Inside) (b : Booked) (ask : ℕ) (found : Option (Asked × Bor Sent)) → IsKept i → booked i ≡ b → is_some found ≡ true
    → option_map (λ (pair : Asked × Bor Sent). (pair.0, pair.1.now)) found ≡ asked_of i.requests ask
    → (pair : Asked × Sent) × (asked_of (traffic_in b) ask ≡ Some pair)
found_asked i b ask None k view e f = cc
found_asked i b ask (Some pair) k view e f =
    ((pair.0, pair.1.now), ap (λ (t : Traffic). asked_of t ask) (sym (k.requests ∙ ap traffic_in view)) ∙ sym f)

-- and the bytes that are kept are those that came
pub answer_notes : (b new : Booked) (ask : ℕ) (copy bytes : Text) (mark : Mark) (parts : List Part) (took : Took) → copy ≡ bytes
    → answer_of bytes ≡ Ok parts → ask < length (traffic_in b).asks → took ≡ took_by b.opening b.past (Deliver ask copy mark) parts
    → Notes (Deliver ask copy mark) b new → NotesDelivery (Ok took) ask bytes mark b new
answer_notes b new ask copy bytes mark parts took same read low is notes = (
  (
    record { parts = parts; read = read; asked = low },
    is ∙ ap (λ (bytes : Text). took_by b.opening b.past (Deliver ask bytes mark) parts) same,
  ),
  notes ∙ ap (λ (bytes : Text). record b { past = Deliver ask bytes mark ∷ b.past }) same,
)

-- where no row took any part
pub untaken_kept : (i : Inside) (table : Progress) (delivered : Vec (Option Delivered) Global) (requests : Traffic) (calls : Vec Call Global) → IsKept i
    → table ≡ i.table → delivered.items ≡ i.delivered.items → requests ≡ i.requests → calls.items ≡ i.calls.items
    → vec_capacity i.calls ≤ vec_capacity calls
    → IsKept (record i { table = table; delivered = delivered; requests = requests; calls = calls })
untaken_kept i table delivered requests calls k same untaken asked items more =
    let kept : IsKept (record i { table = table; requests = requests; calls = calls }) = unserved_kept i table requests calls k same asked items more in
    record {
      book = kept.book;
      base = kept.base;
      seen = kept.seen;
      gifts = kept.gifts;
      named = kept.named;
      parts =
          subst (λ (xs : List (Option Delivered)). KeepsParts (booked i).opening (reverse calls.items) xs) (sym untaken) kept.parts;
      requests = kept.requests;
      runs = kept.runs;
      few_runs = kept.few_runs;
      room_to_run = kept.room_to_run;
      few_calls = kept.few_calls;
      room = kept.room;
    }

-- ---- what was delivered is served

module _ (says : Key → Text → Bool) (ask : ℕ) (bytes : Text) (mark : Mark) (old mid mid' : Booked) (told told1 : Told)
    (first : HasExecuted says old mid told told1) (rests : Rests mid) where
  abbrev call : Call
  call = Deliver ask bytes mark

  asks_same : length (traffic_in mid).asks ≡ length (traffic_in old).asks
  asks_same = ap (λ (b : Booked). length (traffic_in b).asks) first.1.ran

  executed_same : mid' ≡ mid → HasExecuted says old mid' told told1
  executed_same same = (first.0, record { ran = same ∙ first.1.ran; heard = first.1.heard })

  answer_before : IsAnswer mid ask bytes → IsAnswer old ask bytes
  answer_before a = record { parts = a.parts; read = a.read; asked = subst (λ (n : ℕ). ask < n) asks_same a.asked }

  module _ (new : Booked) (told' : Told) (notes : mid' ≡ record mid { past = call ∷ mid.past }) (later : HasExecuted says mid' new told1 told') where
    serves : Serves says call old new told told'
    serves = record {
      between = mid;
      heard = told1;
      first = first;
      rests = rests;
      later = subst (λ (b : Booked). HasExecuted says b new told1 told') notes later;
    }

    pub answer_delivers : (took : Took) → TellsTook took mid ask bytes mark → Rests new → Delivers says (Ok took) ask bytes mark old new told told'
    unfolding answer_before
    answer_delivers took h end = (
      (answer_before h.0, h.1 ∙ ap (λ (b : Booked). took_by b.opening b.past call h.0.parts) first.1.ran),
      serves,
      end,
    )

    pub short_delivers : IsAnswer mid ask bytes → is_due new ≡ true → Delivers says (Err undelivered.NoMemory) ask bytes mark old new told told'
    short_delivers a due = inr (answer_before a, serves, due)

  pub refused_delivers : (e : DeliverError) → NotesDelivery (Err e) ask bytes mark mid mid' → Delivers says (Err e) ask bytes mark old mid' told told1
  refused_delivers (undelivered.NoSuchAsk number asks) h = (
    record { number_is = h.0.number_is; asks_are = h.0.asks_are ∙ asks_same; beyond = h.0.beyond },
    executed_same h.1,
    ap is_due h.1 ∙ rests,
  )
  refused_delivers (undelivered.BadWire line tries) h =
      let bad : TellsLine (answer_of bytes) line = h.0.bad in (
        record { asked = subst (λ (n : ℕ). ask < n) asks_same h.0.asked; bad = bad; tries_are = h.0.tries_are },
        serves mid' told1 h.1 ([], executes_none says mid' told1),
        ap is_due h.1 ∙ still_rests ask bytes mark bad.0 bad.1 mid rests,
      )
  refused_delivers undelivered.NoMemory h = inl (executed_same h)
