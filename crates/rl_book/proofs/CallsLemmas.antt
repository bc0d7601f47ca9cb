-- A view stays one when a batch is taken and when an ask is lost.
use Rattle.std.proofs.Common.{
  ◌≡◌,
  ◌+◌,
  ◌≤◌,
  ◌<◌,
  ◌^◌,
  ◌++◌,
  ℕ,
  List,
  [],
  ◌∷◌,
  Bool,
  true,
  false,
  ◌&&◌,
  not,
  Global,
  Option,
  Some,
  None,
  length,
  get_or,
  refl,
  ap,
  ap₂,
  sym,
  subst,
  ◌∙◌,
  inr,
  arith,
  length-append,
}
use Rattle.std.specs.declared.vec.Vec.{Vec}
use Rattle.std.specs.Prelude.{All, if◌then◌else◌, reverse, vec_capacity}
use Rattle.std.specs.Option.{option_map_or}
use Rattle.std.proofs.lemmas.List.Elements.{Contains-get_or}
use Rattle.rl_view_spec.specs.Progress.{Progress}
use Rattle.rl_view.specs.Seen.{HasSeen}
use Rattle.rl_view.proofs.ReadingsLemmas.{long_seen}
use Rattle.rl_batch.specs.Requests.{MayBeLost, open_count}
use Rattle.rl_batch.proofs.KeptLemmas.{Losing, losing, one_fewer}
use Rattle.rl_book_spec.specs.Book.{loss}
use Rattle.rl_book_spec.specs.Kept.{Booked, events_in, rows_run, threw_in, traffic_in, view_in}
use Rattle.rl_book_spec.specs.Traffic.{Traffic, after_loss, asked_of, is_settled, may_be_lost, traffic_of, with_ask, with_loss}
use Rattle.rl_book_spec.specs.declared.Asked.{Asked}
use Rattle.rl_book_spec.specs.declared.Call.{Call}
use Rattle.rl_book_spec.specs.declared.Call.TheVariants.{Take, Lose}
use Rattle.rl_book_spec.specs.declared.Mark.{Mark}
use Rattle.rl_book_spec.specs.declared.Sent.{Sent}
use Rattle.rl_book_spec.proofs.AskedForLemmas.{asked_sent}
use Rattle.rl_book_spec.proofs.LaterLemmas.{batches_ask}
use Rattle.rl_book_spec.proofs.StageLemmas.{loss_quiet}
use Rattle.rl_book.specs.Calls.{losses_at}
use Rattle.rl_book.specs.Kept.{IsKept, after_third, booked}
use Rattle.rl_book.specs.declared.visit.Visit.TheInside.{Inside}
use Rattle.rl_book.proofs.NotedLemmas.{noted, past_grown, taken_at_most, with_past}
use Rattle.rl_book.proofs.PartsLemmas.{lose_gives, parts_stay, take_gives}
use Rattle.rl_book.proofs.SeenLemmas.{seen_loss, seen_quiet}

-- no row is executing
pub idle_kept : (i : Inside) → IsKept i → i.table.executing ≡ None
idle_kept i k = ap (λ (p : Progress). p.executing) k.seen.table

-- the history has one call more
pub note_is : (i : Inside) (b : Booked) (call : Call) (calls : List Call) → booked i ≡ b → calls ≡ i.calls.items ++ call ∷ []
    → with_past i (reverse calls) ≡ record b { past = call ∷ b.past }
note_is i b call calls view grown =
    ap (with_past i) (past_grown i.calls.items calls call grown) ∙ ap (λ (b : Booked). record b { past = call ∷ b.past }) view

-- ---- a batch is taken

pub taken_kept : (i : Inside) (requests : Traffic) (calls : Vec Call Global) → IsKept i → calls.items ≡ i.calls.items ++ Take ∷ []
    → requests ≡ with_ask i.requests → length i.calls.items + length i.requests.asks + 2 < 2 ^ 32
    → length i.calls.items + length i.requests.asks + 2 ≤ vec_capacity calls → IsKept (record i { requests = requests; calls = calls })
taken_kept i requests calls k grown traffic few more =
    let b : Booked = booked i in
    let long = ap length grown ∙ length-append i.calls.items (Take ∷ []) in
    let most = taken_at_most i.requests in
    let same = ap (λ (t : Traffic). open_count t.asks) traffic in
    noted i Take i.table i.delivered requests calls k grown (inr (refl, k.book.stage))
    (seen_quiet (view_in b) (events_in b) (rows_run b) i.table k.seen k.book.stage)
    (parts_stay b.opening b.past Take i.delivered.items (take_gives b.opening) k.parts) traffic
    (omega (arith, long, most, same, few)) (omega (arith, long, most, same, more))

-- ---- an ask is lost

-- the ask may be lost by what is kept
pub open_kept : (i : Inside) (b : Booked) (ask : ℕ) → IsKept i → booked i ≡ b → MayBeLost (traffic_in b) ask → MayBeLost i.requests ask
open_kept i b ask k view m = subst (λ (t : Traffic). MayBeLost t ask) (ap traffic_in (sym view) ∙ sym k.requests) m

-- it was found so
pub open_found : (i : Inside) (b : Booked) (ask : ℕ) (asked : Asked) (sent : Sent) → IsKept i → booked i ≡ b
    → asked_of i.requests ask ≡ Some (asked, sent)
    → is_settled sent ≡ false → asked.lost ≡ false → MayBeLost (traffic_in b) ask × (sent.losses ≡ losses_at (traffic_in b) ask)
open_found i b ask asked sent k view found unsettled open_ =
    let there : asked_of (traffic_in b) ask ≡ Some (asked, sent) =
    ap (λ (t : Traffic). asked_of t ask) (sym (k.requests ∙ ap traffic_in view)) ∙ found in (
      record {
        pair = (asked, sent);
        there = there;
        lost = ap₂ (λ (lost settled : Bool). not lost && not settled) open_ unsettled;
      },
      sym (ap (λ (o : Option (Asked × Sent)). option_map_or (λ (pair : Asked × Sent). pair.1.losses) o 0) there),
    )

-- the rows of its batch are rows
pub third_within : (i : Inside) (ask : ℕ) (pair : Asked × Sent) → IsKept i → asked_of i.requests ask ≡ Some pair
    → All (λ row. row < length i.table.registered.rows) pair.1.batch.rows
third_within i ask pair k there = λ at d low.
    let b : Booked = booked i in
    let rows : List ℕ = pair.1.batch.rows in
    let found : asked_of (traffic_in b) ask ≡ Some pair = ap (λ (t : Traffic). asked_of t ask) (sym k.requests) ∙ there in
    let asked = batches_ask b.opening b.past pair.0.batch pair.1 (get_or rows at d) (asked_sent (traffic_in b) ask pair found)
    (Contains-get_or rows at d low) in
    subst (λ (n : ℕ). get_or rows at d < n) (sym (long_seen (view_in b) (events_in b) (rows_run b) i.table k.seen)) asked.within

-- one ask fewer is open
pub open_after : (t : Traffic) (ask : ℕ) → MayBeLost t ask → open_count (after_loss t ask).asks + 1 ≡ open_count t.asks
open_after t ask m =
    let l : Losing t ask = losing t t ask refl m in
    let lost : may_be_lost (l.asked, l.sent) ≡ true = ap₂ (λ (lost settled : Bool). not lost && not settled) l.open_ l.unsettled in
    let after : after_loss t ask ≡ with_loss ask l.asked l.sent t =
    ap (λ (found : Option (Asked × Sent)). option_map_or (λ (pair : Asked × Sent). if may_be_lost pair then with_loss ask pair.0 pair.1 t else t) found t)
    l.found
    ∙ ap (λ (b : Bool). if b then with_loss ask l.asked l.sent t else t) lost in
    ap (λ (t : Traffic). open_count t.asks + 1) after ∙ one_fewer t.asks ask l.asked l.asked_is l.open_

-- there is room to note it
pub room_for_loss : (i : Inside) (ask : ℕ) → IsKept i → MayBeLost i.requests ask → length i.calls.items < vec_capacity i.calls
room_for_loss i ask k m = let fewer = open_after i.requests ask m in let room = k.room in omega (arith, fewer, room)

pub lost_kept : (i : Inside) (ask : ℕ) (mark : Option Mark) (table : Progress) (requests : Traffic) (calls : Vec Call Global) → IsKept i
    → MayBeLost i.requests ask → table ≡ after_third i.requests ask i.table → requests ≡ after_loss i.requests ask
    → calls.items ≡ i.calls.items ++ Lose ask mark ∷ [] → vec_capacity calls ≡ vec_capacity i.calls
    → IsKept (record i { table = table; requests = requests; calls = calls })
lost_kept i ask mark table requests calls k m given traffic grown same =
    let b : Booked = booked i in
    let t : Traffic = traffic_of b.opening b.past in
    let there : asked_of t ask ≡ Some m.pair = ap (λ (t : Traffic). asked_of t ask) (sym k.requests) ∙ m.there in
    let seen : HasSeen (view_in b) (loss b.opening t ask ∷ events_in b) (rows_run b) (after_third t ask i.table) =
    seen_loss (threw_in b.opening.registered b.ran) b.opening b.past ask (rows_run b) i.table m.pair k.seen k.book.stage there m.lost in
    let is : table ≡ after_third t ask i.table = given ∙ ap (λ (t : Traffic). after_third t ask i.table) k.requests in
    let long = ap length grown ∙ length-append i.calls.items (Lose ask mark ∷ []) in
    let fewer = open_after i.requests ask m in
    let count = ap (λ (t : Traffic). open_count t.asks) traffic in
    let few = k.few_calls in
    let room = k.room in
    noted i (Lose ask mark) table i.delivered requests calls k grown (inr (loss_quiet b.opening t ask, k.book.stage))
    (subst (λ (p : Progress). HasSeen (view_in b) (loss b.opening t ask ∷ events_in b) (rows_run b) p) (sym is) seen)
    (parts_stay b.opening b.past (Lose ask mark) i.delivered.items (lose_gives b.opening ask mark) k.parts) traffic
    (omega (arith, long, fewer, count, few)) (omega (arith, long, fewer, count, room, same))
