-- What a view asks for: its batches, those that wait, and its asks.
use Rattle.std.specs.Prelude.{ℕ, ◌+◌, ◌&&◌, ◌||◌, ◌==◌, ◌∷◌, [], ◌++◌, List, Bool, true, false, not, if◌then◌else◌}
use Rattle.std.specs.Prelude.{bytes_eq, drop, filter, length, map, nat_le, slice_get, slice_set, take, is_none, Option, Some, None, Result, Ok, Err}
use Rattle.std.specs.List.{enumerate_from, list_all, list_any, range_with_len}
use Rattle.std.specs.Option.{option_map_or}
use Rattle.rl_view_spec.specs.Closure.{Text, Registered, has_feature, in_closures}
use Rattle.rl_view_spec.specs.Progress.{name_at}
use Rattle.rl_wire.specs.Reading.{answer_of}
use Rattle.rl_wire.specs.declared.part.Part.{Part}
use Rattle.rl_book_spec.specs.Batches.{Numbered, batches_of}
use Rattle.rl_book_spec.specs.Opening.{Opening, answer_at_touch}
use Rattle.rl_view_spec.specs.Requests.{accepted, accepted_each}
use Rattle.rl_book_spec.specs.declared.Asked.{Asked}
use Rattle.rl_book_spec.specs.declared.Batch.{Batch}
use Rattle.rl_book_spec.specs.declared.Call.{Call}
use Rattle.rl_book_spec.specs.declared.Sent.{Sent}
use Rattle.rl_book_spec.specs.declared.Call.TheVariants.{Using, Load, Take, Deliver, Lose}

-- ---- requests

-- the names that a call asks for and that are accepted
abbrev pub requested_by : Registered → Call → List Text
requested_by r (Using names) = accepted r names
requested_by r (Load names) = accepted_each r names
requested_by r Take = []
requested_by r (Deliver ask bytes mark) = []
requested_by r (Lose ask mark) = []

-- A row waits where the request is the first to touch it, it is not skipped, and it is not answered at once.
abbrev pub is_left : Opening → List Call → List Text → Numbered → Bool
is_left o past names numbered =
    in_closures o.registered names numbered.1.name
    && not (list_any (λ call. in_closures o.registered (requested_by o.registered call) numbered.1.name) past)
    && not (has_feature o.registered numbered.1.skip)
    && is_none (answer_at_touch o numbered.1)

-- the batches that a request for these names makes
abbrev pub batches_for : Opening → List Call → List Text → List Batch
batches_for o past names = batches_of o.base o.limit (filter (is_left o past names) (enumerate_from 0 o.registered.rows))

-- ---- batches and asks

-- the batches by number, the numbers of those that wait, in order, and the asks by number
pub record Traffic : Type 0 where
  pub batches : List Sent
  pub waiting : List ℕ
  pub asks : List Asked

abbrev pub is_given_up : Sent → Bool
is_given_up sent = nat_le 3 sent.losses

-- it was delivered or given up
abbrev pub is_settled : Sent → Bool
is_settled sent = sent.delivered || is_given_up sent

abbrev pub fresh : Batch → Sent
fresh batch = record { batch = batch; losses = 0; delivered = false }

-- new batches wait behind the others
abbrev pub with_batches : List Batch → Traffic → Traffic
with_batches new t = record {
  batches = t.batches ++ map fresh new;
  waiting = t.waiting ++ range_with_len (length t.batches) (length new);
  asks = t.asks;
}

-- the first that waits is asked for
abbrev pub with_ask : Traffic → Traffic
with_ask t = record {
  batches = t.batches;
  waiting = drop 1 t.waiting;
  asks = t.asks ++ map (λ batch. record { batch = batch; lost = false }) (take 1 t.waiting);
}

abbrev pub without : ℕ → List ℕ → List ℕ
without batch waiting = filter (λ other. not (other == batch)) waiting

-- An ask is lost: its batch waits again, behind the others, until the third loss.
abbrev pub with_loss : ℕ → Asked → Sent → Traffic → Traffic
with_loss ask asked sent t = record {
  batches = slice_set t.batches asked.batch (record sent { losses = sent.losses + 1 });
  waiting = t.waiting ++ (if nat_le 2 sent.losses then [] else asked.batch ∷ []);
  asks = slice_set t.asks ask (record asked { lost = true });
}

-- an answer was delivered: the batch waits no more
abbrev pub with_delivery : Asked → Sent → Traffic → Traffic
with_delivery asked sent t = record {
  batches = slice_set t.batches asked.batch (record sent { delivered = true });
  waiting = without asked.batch t.waiting;
  asks = t.asks;
}

-- the ask of a number and its batch
abbrev pub asked_of : Traffic → ℕ → Option (Asked × Sent)
asked_of t ask = option_map_or (λ asked. option_map_or (λ sent. Some (asked, sent)) (slice_get t.batches asked.batch) None) (slice_get t.asks ask) None

-- an ask may be lost once, while its batch is not settled
abbrev pub may_be_lost : Asked × Sent → Bool
may_be_lost pair = not pair.0.lost && not (is_settled pair.1)

abbrev pub after_loss : Traffic → ℕ → Traffic
after_loss t ask = option_map_or (λ pair. if may_be_lost pair then with_loss ask pair.0 pair.1 t else t) (asked_of t ask) t

abbrev pub after_delivery : Traffic → ℕ → Traffic
after_delivery t ask = option_map_or (λ pair. with_delivery pair.0 pair.1 t) (asked_of t ask) t

-- what is no answer counts as a loss
abbrev pub after_answer : Traffic → ℕ → Result (List Part) ℕ → Traffic
after_answer t ask (Ok parts) = after_delivery t ask
after_answer t ask (Err line) = after_loss t ask

-- what a call makes of the traffic, after the calls before it
abbrev pub traffic_after : Opening → List Call → Call → Traffic → Traffic
traffic_after o past (Using names) t = with_batches (batches_for o past (accepted o.registered names)) t
traffic_after o past (Load names) t = with_batches (batches_for o past (accepted_each o.registered names)) t
traffic_after o past Take t = with_ask t
traffic_after o past (Deliver ask bytes mark) t = after_answer t ask (answer_of bytes)
traffic_after o past (Lose ask mark) t = after_loss t ask

-- the traffic of a view, of whose calls the newest stands first
abbrev pub traffic_of : Opening → List Call → Traffic
traffic_of o [] = record { batches = []; waiting = []; asks = [] }
traffic_of o (call ∷ past) = traffic_after o past call (traffic_of o past)

-- the batches that wait, in order
abbrev pub waiting_of : Opening → List Call → List (Option Sent)
waiting_of o past = map (slice_get (traffic_of o past).batches) (traffic_of o past).waiting

-- no batch is outstanding
abbrev pub all_settled : Traffic → Bool
all_settled t = list_all is_settled t.batches

-- a batch holds the row of a name
abbrev pub holds : Registered → Batch → Text → Bool
holds r batch name = list_any (λ row. bytes_eq (name_at r row) name) batch.rows
