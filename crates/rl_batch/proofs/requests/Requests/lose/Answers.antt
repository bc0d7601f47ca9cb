use Rattle.std.proofs.Common.{◌≡◌, ◌+◌, ◌++◌, ◌∷◌, [], ◌∙◌, ◌<◌, ◌≤◌, ℕ, List, Some, true, ap, sym, arith, append-nil}
use Rattle.std.specs.Prelude.{slice_get, slice_set}
use Rattle.rl_book_spec.specs.Traffic.{Traffic, after_loss}
use Rattle.rl_book_spec.specs.declared.Asked.{Asked}
use Rattle.rl_book_spec.specs.declared.Sent.{Sent}
use Rattle.rl_batch.proofs.KeptLemmas.{Losing, batch_within, kept_lost, losing, losses_few, lost_gives, none_other, one_other, room_left, waits_again}
use Rattle.rl_batch.proofs.KeptLemmas.{waits_no_more}
use Rattle.rl_batch.proofs.requests.Requests.lose.Goals as goal

-- what the loss of an ask found, and what was written
record Lost (t : Traffic) (ask : ℕ) (batch counted : ℕ) (batches : List Sent) (asks : List Asked) : Type 0 where
  found : Losing t ask
  batch_is : batch ≡ found.asked.batch
  counted_is : counted ≡ found.sent.losses + 1
  batches_are : batches ≡ slice_set t.batches found.asked.batch (record found.sent { losses = found.sent.losses + 1 })
  asks_are : asks ≡ slice_set t.asks ask (record found.asked { lost = true })

lost : (t : Traffic) (ask batch counted : ℕ) (batches : List Sent) (asks : List Asked) (l : Losing t ask)
    → ((asked : Asked) → slice_get t.asks ask ≡ Some asked → (batch ≡ asked.batch) × (asks ≡ slice_set t.asks ask (record asked { lost = true })))
    → ((sent : Sent) → slice_get t.batches batch ≡ Some sent → (counted ≡ sent.losses + 1)
    × (batches ≡ slice_set t.batches batch (record sent { losses = sent.losses + 1 })))
    → Lost t ask batch counted batches asks
lost t ask batch counted batches asks l marked summed =
    let m = marked l.asked l.asked_is in
    let s = summed l.sent (ap (slice_get t.batches) m.0 ∙ l.sent_is) in
    record {
      found = l;
      batch_is = m.0;
      counted_is = s.0;
      batches_are = s.1 ∙ ap (λ (b : ℕ). slice_set t.batches b (record l.sent { losses = l.sent.losses + 1 })) m.0;
      asks_are = m.1;
    }

pub count_loss-requires-clause-within : goal.count_loss-requires-clause-within
count_loss-requires-clause-within c =
    let t : Traffic = record { batches = c.self.inside.batches.items; waiting = c.self.inside.waiting.items; asks = c.self.inside.asks.items } in
    let l : Losing t c.args.ask = losing t c.args.self.now c.args.ask c.self.view_is c.requires in
    batch_within t c.args.ask l c.mark_lost-batch.result (c.mark_lost-batch.ensures l.asked l.asked_is).0

pub count_loss-requires-clause-few : goal.count_loss-requires-clause-few
count_loss-requires-clause-few c =
    let t : Traffic = record { batches = c.self.inside.batches.items; waiting = c.self.inside.waiting.items; asks = c.self.inside.asks.items } in
    let l : Losing t c.args.ask = losing t c.args.self.now c.args.ask c.self.view_is c.requires in
    losses_few t c.args.ask l c.mark_lost-batch.result (c.mark_lost-batch.ensures l.asked l.asked_is).0

pub push_back_reserved-requires : goal.push_back_reserved-requires
push_back_reserved-requires c =
    let t : Traffic = record { batches = c.self.inside.batches.items; waiting = c.self.inside.waiting.items; asks = c.self.inside.asks.items } in
    let l : Losing t c.args.ask = losing t c.args.self.now c.args.ask c.self.view_is c.requires in
    let room = room_left t c.args.ask _ l c.self.invariant in
    omega (arith, room)

pub invariant_of-self : goal.invariant_of-self
invariant_of-self c =
    let t : Traffic = record { batches = c.self.inside.batches.items; waiting = c.self.inside.waiting.items; asks = c.self.inside.asks.items } in
    let l : Losing t c.args.ask = losing t c.args.self.now c.args.ask c.self.view_is c.requires in
    let w = lost t c.args.ask c.mark_lost-batch.result c.count_loss.result c.count_loss.new.batches.items c.mark_lost-batch.new.asks.items l
    c.mark_lost-batch.ensures c.count_loss.ensures in
    let pushed : c.push_back_reserved.new.self.items ≡ c.self.inside.waiting.items ++ w.found.asked.batch ∷ [] = c.push_back_reserved.ensures.items
    ∙ ap (λ (b : ℕ). c.self.inside.waiting.items ++ b ∷ []) w.batch_is in
    kept_lost c.self.inside.batches.items c.self.inside.waiting.items c.self.inside.asks.items _ c.args.ask w.found.asked w.found.sent
    c.count_loss.new.batches.items c.push_back_reserved.new.self.items (w.found.asked.batch ∷ []) c.mark_lost-batch.new.asks.items _
    c.self.invariant w.found.asked_is w.found.sent_is w.found.open_ w.batches_are w.asks_are pushed (omega arith) (one_other w.found.asked.batch)
    (omega (arith, c.push_back_reserved.ensures.capacity))

pub invariant_of-self-else-count_loss-lt3 : goal.invariant_of-self-else-count_loss-lt3
invariant_of-self-else-count_loss-lt3 c =
    let t : Traffic = record { batches = c.self.inside.batches.items; waiting = c.self.inside.waiting.items; asks = c.self.inside.asks.items } in
    let l : Losing t c.args.ask = losing t c.args.self.now c.args.ask c.self.view_is c.requires in
    let w = lost t c.args.ask c.mark_lost-batch.result c.count_loss.result c.count_loss.new.batches.items c.mark_lost-batch.new.asks.items l
    c.mark_lost-batch.ensures c.count_loss.ensures in
    kept_lost c.self.inside.batches.items c.self.inside.waiting.items c.self.inside.asks.items _ c.args.ask w.found.asked w.found.sent
    c.count_loss.new.batches.items c.self.inside.waiting.items [] c.mark_lost-batch.new.asks.items _
    c.self.invariant w.found.asked_is w.found.sent_is w.found.open_ w.batches_are w.asks_are (sym (append-nil c.self.inside.waiting.items)) (omega arith)
    (none_other w.found.asked.batch) (omega arith)

pub returns-then-count_loss-lt3 : goal.returns-then-count_loss-lt3
returns-then-count_loss-lt3 c =
    let t : Traffic = record { batches = c.self.inside.batches.items; waiting = c.self.inside.waiting.items; asks = c.self.inside.asks.items } in
    let l : Losing t c.args.ask = losing t c.args.self.now c.args.ask c.self.view_is c.requires in
    let w = lost t c.args.ask c.mark_lost-batch.result c.count_loss.result c.count_loss.new.batches.items c.mark_lost-batch.new.asks.items l
    c.mark_lost-batch.ensures c.count_loss.ensures in
    let pushed : c.push_back_reserved.new.self.items ≡ c.self.inside.waiting.items ++ w.found.asked.batch ∷ [] = c.push_back_reserved.ensures.items
    ∙ ap (λ (b : ℕ). c.self.inside.waiting.items ++ b ∷ []) w.batch_is in
    let low : w.found.sent.losses + 1 < 3 = omega (arith, w.counted_is) in
    lost_gives t c.args.ask w.found c.count_loss.new.batches.items c.push_back_reserved.new.self.items c.mark_lost-batch.new.asks.items
    w.batches_are (pushed ∙ waits_again w.found.sent.losses w.found.asked.batch c.self.inside.waiting.items low) w.asks_are
    ∙ ap (λ (t : Traffic). after_loss t c.args.ask) c.self.view_is

pub returns-else-count_loss-lt3 : goal.returns-else-count_loss-lt3
returns-else-count_loss-lt3 c =
    let t : Traffic = record { batches = c.self.inside.batches.items; waiting = c.self.inside.waiting.items; asks = c.self.inside.asks.items } in
    let l : Losing t c.args.ask = losing t c.args.self.now c.args.ask c.self.view_is c.requires in
    let w = lost t c.args.ask c.mark_lost-batch.result c.count_loss.result c.count_loss.new.batches.items c.mark_lost-batch.new.asks.items l
    c.mark_lost-batch.ensures c.count_loss.ensures in
    let high : 3 ≤ w.found.sent.losses + 1 = omega (arith, w.counted_is) in
    lost_gives t c.args.ask w.found c.count_loss.new.batches.items c.self.inside.waiting.items c.mark_lost-batch.new.asks.items
    w.batches_are (waits_no_more w.found.sent.losses w.found.asked.batch c.self.inside.waiting.items high) w.asks_are
    ∙ ap (λ (t : Traffic). after_loss t c.args.ask) c.self.view_is
