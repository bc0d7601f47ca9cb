-- A view stays one where a call is noted, and where memory ran out before.
use Rattle.std.proofs.Common.{◌≡◌, ◌+◌, ◌≤◌, ◌<◌, ◌^◌, ◌++◌, ℕ, List, [], ◌∷◌, Bool, false, Global, length}
use Rattle.std.proofs.Common.{map, take, Option, ap, sym, subst, ◌∙◌, arith, length-append}
use Rattle.std.specs.declared.vec.Vec.{Vec}
use Rattle.std.specs.Prelude.{not, reverse, vec_capacity}
use Rattle.std.proofs.lemmas.List.{reverse-append}
use Rattle.std.proofs.lemmas.List.Sums.{count_by-le-length}
use Rattle.rl_view_spec.specs.Progress.{Progress}
use Rattle.rl_view.specs.Seen.{HasSeen}
use Rattle.rl_wire.specs.declared.part.Part.TheVariants.{Impl}
use Rattle.rl_batch.specs.Requests.{open_count}
use Rattle.rl_book_spec.specs.Book.{event_of}
use Rattle.rl_book_spec.specs.Kept.{Booked, IsBook, IsStage, events_in, rows_run, traffic_in, view_in}
use Rattle.rl_book_spec.specs.Opening.{Opening}
use Rattle.rl_book_spec.specs.Traffic.{Traffic, traffic_after, with_ask}
use Rattle.rl_book_spec.specs.declared.Asked.{Asked}
use Rattle.rl_book_spec.specs.declared.Call.{Call}
use Rattle.rl_book_spec.proofs.LaterLemmas.{given_stays}
use Rattle.rl_book.specs.Calls.{IsRun}
use Rattle.rl_book.specs.Kept.{IsKept, KeepsParts, booked}
use Rattle.rl_book.specs.declared.answer.Run.{Run}
use Rattle.rl_book.specs.declared.given.Delivered.{Delivered}
use Rattle.rl_book.specs.declared.visit.Visit.TheInside.{Inside}

-- the history with these calls
abbrev pub with_past : Inside → List Call → Booked
with_past i past = record (booked i) { past = past }

pub past_grown : (old new : List Call) (call : Call) → new ≡ old ++ call ∷ [] → reverse new ≡ call ∷ reverse old
past_grown old new call e = ap reverse e ∙ reverse-append old (call ∷ [])

-- a run stays one, since what its row was given stays
run_stays : (i : Inside) (call : Call) (ran : ℕ × Bool) (run : Run) → IsRun (booked i) ran run → IsRun (with_past i (call ∷ (booked i).past)) ran run
run_stays i call ran run r = record {
  row = r.row;
  threw = r.threw;
  name = r.name;
  part = (
    r.part.0,
    r.part.1,
    given_stays (booked i).opening (booked i).past call run.key.name (Impl run.key.name run.key.version run.script r.part.0 r.part.1, run.origin) r.part.2,
  );
}

pub noted : (i : Inside) (call : Call) (table : Progress) (delivered : Vec (Option Delivered) Global) (requests : Traffic) (calls : Vec Call Global)
    → IsKept i
    → calls.items ≡ i.calls.items ++ call ∷ []
    → IsStage (view_in (booked i)) (event_of (booked i).opening (booked i).past call ∷ events_in (booked i)) (rows_run (booked i))
    → HasSeen (view_in (booked i)) (event_of (booked i).opening (booked i).past call ∷ events_in (booked i)) (rows_run (booked i)) table
    → KeepsParts (booked i).opening (call ∷ (booked i).past) delivered.items
    → requests ≡ traffic_after (booked i).opening (booked i).past call i.requests
    → length calls.items + open_count requests.asks < 2 ^ 32
    → length calls.items + open_count requests.asks ≤ vec_capacity calls
    → IsKept (record i { table = table; delivered = delivered; requests = requests; calls = calls })
noted i call table delivered requests calls k grown stage seen parts traffic few room =
    let o : Opening = (booked i).opening in
    let old : List Call = (booked i).past in
    let past : reverse calls.items ≡ call ∷ old = past_grown i.calls.items calls.items call grown in
    let with_calls : List Call → Booked = λ xs. with_past i xs in
    record {
      book =
          subst (λ (xs : List Call). IsBook (with_calls xs)) (sym past)
          (record { few = k.book.few; distinct = k.book.distinct; stage = stage });
      base = k.base;
      seen = subst (λ (xs : List Call). HasSeen (view_in (with_calls xs)) (events_in (with_calls xs)) (rows_run (with_calls xs)) table) (sym past) seen;
      gifts = k.gifts;
      named = k.named;
      parts = subst (λ (xs : List Call). KeepsParts o xs delivered.items) (sym past) parts;
      requests =
          subst (λ (xs : List Call). requests ≡ traffic_in (with_calls xs)) (sym past)
          (traffic ∙ ap (traffic_after o old call) k.requests);
      runs = λ at run there. subst (λ (xs : List Call). IsRun (with_calls xs) (run.row, run.threw) run) (sym past)
          (run_stays i call (run.row, run.threw) run (k.runs at run there));
      few_runs = k.few_runs;
      room_to_run = k.room_to_run;
      few_calls = few;
      room = room;
    }

-- and where memory ran out before
pub still_kept : (i : Inside) (requests : Traffic) (calls : Vec Call Global) → IsKept i → calls.items ≡ i.calls.items → requests ≡ i.requests
    → vec_capacity i.calls ≤ vec_capacity calls → IsKept (record i { requests = requests; calls = calls })
still_kept i requests calls k e f more =
    let with_calls : List Call → Booked = λ xs. with_past i (reverse xs) in
    record {
      book = subst (λ (xs : List Call). IsBook (with_calls xs)) (sym e) k.book;
      base = k.base;
      seen = subst (λ (xs : List Call). HasSeen (view_in (with_calls xs)) (events_in (with_calls xs)) (rows_run (with_calls xs)) i.table) (sym e) k.seen;
      gifts = k.gifts;
      named = k.named;
      parts = subst (λ (xs : List Call). KeepsParts (booked i).opening (reverse xs) i.delivered.items) (sym e) k.parts;
      requests = f ∙ subst (λ (xs : List Call). i.requests ≡ traffic_in (with_calls xs)) (sym e) k.requests;
      runs = λ at run there. subst (λ (xs : List Call). IsRun (with_calls xs) (run.row, run.threw) run) (sym e) (k.runs at run there);
      few_runs = k.few_runs;
      room_to_run = k.room_to_run;
      few_calls = (let long = ap length e in let asks = ap (λ (t : Traffic). open_count t.asks) f in let few = k.few_calls in omega (arith, long, asks, few));
      room = (let long = ap length e in let asks = ap (λ (t : Traffic). open_count t.asks) f in let room = k.room in omega (arith, long, asks, room, more));
    }

-- ---- how many calls may come

-- no more asks are open than there are
pub open_at_most : (asks : List Asked) → open_count asks ≤ length asks
open_at_most asks = count_by-le-length (λ (asked : Asked). not asked.lost) asks

-- an ask that is taken is one more
pub taken_at_most : (t : Traffic) → open_count (with_ask t).asks ≤ length t.asks + 1
taken_at_most t =
    let taken : List Asked = map (λ (batch : ℕ). record { batch = batch; lost = false }) (take 1 t.waiting) in
    let most = open_at_most (t.asks ++ taken) in
    let long = length-append t.asks taken in
    let short = at_most t.waiting in
    omega (arith, most, long, short)
  where
    at_most : (waiting : List ℕ) → length (map {B = Asked} (λ (batch : ℕ). record { batch = batch; lost = false }) (take 1 waiting)) ≤ 1
    at_most [] = omega arith
    at_most (batch ∷ waiting) = omega arith
