-- How batches and asks are kept through each change.
use Rattle.std.proofs.Common.{◌≡◌, ℕ, zero, suc, ◌+◌, ◌<◌, ◌≤◌, ◌^◌, List, [], ◌∷◌, ◌++◌, Bool, true, false}
use Rattle.std.proofs.Common.{◌&&◌, not, length, map, get_or, Option, Some, None, refl, ap, ap₂, sym, subst, ◌∙◌, arith, append-nil}
use Rattle.std.proofs.Common.{length-append, length-set}
use Rattle.std.specs.Prelude.{◌==◌, All, fold, if◌then◌else◌, nat_le, slice_get, slice_set}
use Rattle.std.specs.List.{range_with_len}
use Rattle.std.specs.Option.{option_map_or}
use Rattle.std.proofs.lemmas.Bool.{and_parts, not-true}
use Rattle.std.proofs.lemmas.Bool.Decides.{nat_tests}
use Rattle.std.proofs.lemmas.List.{length-map}
use Rattle.std.proofs.lemmas.List.Elements.{All-append, All-filter, All-set}
use Rattle.std.proofs.lemmas.List.FromFn.{get_or-range_with_len, length-range_with_len}
use Rattle.std.proofs.lemmas.List.Sums.{count_by-le-length}
use Rattle.std.proofs.lemmas.Option.{slice_get_within, slice_get-get_or}
use Rattle.rl_view_spec.proofs.ToolsLemmas.{place_there}
use Rattle.rl_book_spec.specs.Traffic.{Traffic, after_delivery, after_loss, asked_of, fresh, is_settled, may_be_lost, with_delivery, with_loss, without}
use Rattle.rl_book_spec.specs.declared.Asked.{Asked}
use Rattle.rl_book_spec.specs.declared.Batch.{Batch}
use Rattle.rl_book_spec.specs.declared.Sent.{Sent}
use Rattle.rl_book_spec.proofs.AskedForLemmas.{asked_sent}
use Rattle.rl_book_spec.proofs.SomewhereLemmas.{asked_there, count_set, few_if_open, mark}
use Rattle.rl_batch.specs.Requests.{IsKept, MayBeLost, open_count}

-- ---- new batches

weaker : {X : Type 0} (P Q : X → Type 0) (xs : List X) → ((x : X) → P x → Q x) → All P xs → All Q xs
weaker P Q xs h all = λ i d low. h (get_or xs i d) (all i d low)

range_below : (n m k : ℕ) → n + m ≤ k → All (λ (b : ℕ). b < k) (range_with_len n m)
range_below n m k high = λ i d low.
    let inside : i < m = omega (arith, low, length-range_with_len n m) in
    let is = get_or-range_with_len n m i d inside in
    omega (arith, is, inside, high)

pub kept_added : (batches : List Sent) (waiting : List ℕ) (asks : List Asked) (capacity more : ℕ) (new : List Batch) (batches' : List Sent)
    (waiting' : List ℕ)
    → IsKept batches waiting asks capacity → length batches + length new < 2 ^ 32 → length waiting + (length new + length asks) ≤ more
    → batches' ≡ batches ++ map fresh new → waiting' ≡ waiting ++ range_with_len (length batches) (length new) → IsKept batches' waiting' asks more
kept_added batches waiting asks capacity more new batches' waiting' k few room is is' =
    subst (λ (bs : List Sent). IsKept bs waiting' asks more) (sym is) (subst (λ (ws : List ℕ). IsKept (batches ++ map fresh new) ws asks more)
    (sym is') kept)
  where
    long : length (batches ++ map fresh new) ≡ length batches + length new
    long = length-append batches (map fresh new) ∙ ap (λ (n : ℕ). length batches + n) (length-map new fresh)

    kept : IsKept (batches ++ map fresh new) (waiting ++ range_with_len (length batches) (length new)) asks more
    kept = record {
      few = omega (arith, long, few);
      few_asks = k.few_asks;
      waits = All-append (λ (b : ℕ). b < length (batches ++ map fresh new)) waiting (range_with_len (length batches) (length new))
          (weaker (λ (b : ℕ). b < length batches) (λ (b : ℕ). b < length (batches ++ map fresh new)) waiting (λ b low. omega (arith, low, long)) k.waits)
          (range_below (length batches) (length new) (length (batches ++ map fresh new)) (omega (arith, long)));
      asked = weaker (λ (a : Asked). a.batch < length batches) (λ (a : Asked). a.batch < length (batches ++ map fresh new)) asks
          (λ a low. omega (arith, low, long)) k.asked;
      room = (let whole = length-append waiting (range_with_len (length batches) (length new)) in
          let ranged = length-range_with_len (length batches) (length new) in
          let open_ = count_by-le-length (λ (a : Asked). not a.lost) asks in
          omega (arith, whole, ranged, open_, room));
    }

-- ---- an ask

-- one open ask more
abbrev count_open : ℕ → List Asked → ℕ
count_open n asks = fold (λ n asked. n + (if not asked.lost then 1 else 0)) n asks

one_more : (n : ℕ) (asks : List Asked) (batch : ℕ) → count_open n (asks ++ record { batch = batch; lost = false } ∷ []) ≡ count_open n asks + 1
one_more n [] batch = refl
one_more n (asked ∷ asks) batch = one_more (n + (if not asked.lost then 1 else 0)) asks batch

pub kept_taken : (batches : List Sent) (waiting rest : List ℕ) (asks asks' : List Asked) (capacity capacity' batch : ℕ)
    → IsKept batches waiting asks capacity → waiting ≡ batch ∷ rest → asks' ≡ asks ++ record { batch = batch; lost = false } ∷ []
    → length asks + 1 < 2 ^ 32 → capacity' ≡ capacity → IsKept batches rest asks' capacity'
kept_taken batches waiting rest asks asks' capacity capacity' batch k is is' few same =
    let asked : Asked = record { batch = batch; lost = false } in
    let waits : All (λ (b : ℕ). b < length batches) (batch ∷ rest) = subst (All (λ (b : ℕ). b < length batches)) is k.waits in
    let first : batch < length batches = waits 0 batch (omega arith) in
    let long : length asks' ≡ length asks + 1 = ap length is' ∙ length-append asks (asked ∷ []) in
    let open_is : open_count asks' ≡ open_count asks + 1 = ap (λ (xs : List Asked). open_count xs) is'
    ∙ one_more 0 asks batch in
    let shorter : length waiting ≡ suc (length rest) = ap length is in
    let room = k.room in
    record {
      few = k.few;
      few_asks = omega (arith, long, few);
      waits = λ i d low. waits (suc i) d (omega (arith, low));
      asked = subst (All (λ (a : Asked). a.batch < length batches)) (sym is')
          (All-append (λ (a : Asked). a.batch < length batches) asks (asked ∷ []) k.asked
          (λ i d low. step i d low first));
      room = omega (arith, shorter, open_is, room, same);
    }
  where
    step : (i : ℕ) (d : Asked) → i < 1 → batch < length batches → (get_or (record { batch = batch; lost = false } ∷ []) i d).batch < length batches
    step zero d low h = h
    step (suc i) d low h = absurd (omega (arith, low))

-- ---- a delivery

there : (t : Traffic) (ask : ℕ) (asked : Asked) → ask < length t.asks → asked ≡ get_or t.asks ask asked → slice_get t.asks ask ≡ Some asked
there t ask asked low is = slice_get-get_or t.asks ask asked low ∙ ap Some (sym is)

pub found : (t : Traffic) (ask : ℕ) (asked : Asked) (sent : Sent) → slice_get t.asks ask ≡ Some asked → slice_get t.batches asked.batch ≡ Some sent
    → asked_of t ask ≡ Some (asked, sent)
found t ask asked sent e f =
    ap (λ (o : Option Asked). option_map_or (λ (asked : Asked). option_map_or (λ (sent : Sent). Some (asked, sent)) (slice_get t.batches asked.batch) None)
    o None) e
    ∙ ap (λ (o : Option Sent). option_map_or (λ (sent : Sent). Some (asked, sent)) o None) f

pub delivered : (t : Traffic) (ask : ℕ) (asked : Asked) (batches : List Sent) (waiting : List ℕ) → ask < length t.asks → asked
    ≡ get_or t.asks ask asked → asked.batch < length t.batches
    → ((sent : Sent) → slice_get t.batches asked.batch ≡ Some sent → batches ≡ slice_set t.batches asked.batch (record sent { delivered = true }))
    → waiting ≡ without asked.batch t.waiting
    → record { batches = batches; waiting = waiting; asks = t.asks } ≡ after_delivery t ask
delivered t ask asked batches waiting low is within marked left =
    let m = place_there t.batches asked.batch within in
    ap₂ (λ (bs : List Sent) (ws : List ℕ). record { batches = bs; waiting = ws; asks = t.asks }) (marked m.0 m.1) left
    ∙ ap (λ (o : Option (Asked × Sent)). option_map_or (λ (pair : Asked × Sent). with_delivery pair.0 pair.1 t) o t)
    (sym (found t ask asked m.0 (there t ask asked low is) m.1))

fewer : (batch : ℕ) (waiting : List ℕ) → length (without batch waiting) ≤ length waiting
fewer batch [] = omega arith
fewer batch (x ∷ waiting) = step (x == batch) (fewer batch waiting)
  where
    step : (b : Bool) → length (without batch waiting) ≤ length waiting →
        length (if not b then x ∷ without batch waiting else without batch waiting) ≤ suc (length waiting)
    step true later = omega (arith, later)
    step false later = omega (arith, later)

pub kept_delivered : (batches : List Sent) (waiting : List ℕ) (asks : List Asked) (capacity batch : ℕ) (batches' : List Sent) (waiting' : List ℕ)
    (capacity' : ℕ)
    → IsKept batches waiting asks capacity → batch < length batches
    → ((sent : Sent) → slice_get batches batch ≡ Some sent → batches' ≡ slice_set batches batch (record sent { delivered = true })) → waiting'
    ≡ without batch waiting → capacity' ≡ capacity
    → IsKept batches' waiting' asks capacity'
kept_delivered batches waiting asks capacity batch batches' waiting' capacity' k low marked left same =
    let m = place_there batches batch low in
    let is = marked m.0 m.1 in
    let long : length batches' ≡ length batches = ap length is ∙ length-set batches batch (record m.0 { delivered = true }) in
    let less = fewer batch waiting in
    let kept_waits : All (λ (b : ℕ). b < length batches) waiting' = subst (All (λ (b : ℕ). b < length batches)) (sym left)
    (All-filter (λ other. not (other == batch)) (λ (b : ℕ). b < length batches) waiting k.waits) in
    let few = k.few in
    let room = k.room in
    let shorter = ap length left in
    record {
      few = omega (arith, long, few);
      few_asks = k.few_asks;
      waits = weaker (λ (b : ℕ). b < length batches) (λ (b : ℕ). b < length batches') waiting' (λ b low. omega (arith, low, long)) kept_waits;
      asked = weaker (λ (a : Asked). a.batch < length batches) (λ (a : Asked). a.batch < length batches') asks (λ a low. omega (arith, low, long)) k.asked;
      room = omega (arith, less, shorter, room, same);
    }

-- ---- a loss

-- one open ask fewer
pub one_fewer : (asks : List Asked) (ask : ℕ) (asked : Asked) → slice_get asks ask ≡ Some asked → asked.lost ≡ false
    → open_count (slice_set asks ask (record asked { lost = true })) + 1 ≡ open_count asks
one_fewer asks ask asked e open_ =
    let counted = count_set (λ (a : Asked). not a.lost) asks ask asked (record asked { lost = true }) e in
    let one : mark (not asked.lost) ≡ 1 = ap (λ (b : Bool). mark (not b)) open_ in
    omega (arith, counted, one)

pub kept_lost : (batches : List Sent) (waiting : List ℕ) (asks : List Asked) (capacity ask : ℕ) (asked : Asked) (sent : Sent) (batches' : List Sent)
    (waiting' more : List ℕ) (asks' : List Asked) (capacity' : ℕ)
    → IsKept batches waiting asks capacity → slice_get asks ask ≡ Some asked → slice_get batches asked.batch ≡ Some sent → asked.lost ≡ false
    → batches' ≡ slice_set batches asked.batch (record sent { losses = sent.losses + 1 }) → asks' ≡ slice_set asks ask (record asked { lost = true })
    → waiting' ≡ waiting ++ more → length more ≤ 1 → All (λ (b : ℕ). b ≡ asked.batch) more → capacity ≤ capacity'
    → IsKept batches' waiting' asks' capacity'
kept_lost batches waiting asks capacity ask asked sent batches' waiting' more asks' capacity' k e f open_ is is' left short same grown =
    let long : length batches' ≡ length batches = ap length is ∙ length-set batches asked.batch (record sent { losses = sent.losses + 1 }) in
    let low : asked.batch < length batches = slice_get_within batches asked.batch sent f in
    let fewer_open = one_fewer asks ask asked e open_ in
    let open_is : open_count asks' ≡ open_count (slice_set asks ask (record asked { lost = true })) = ap (λ (xs : List Asked). open_count xs) is' in
    let long_asks : length asks' ≡ length asks = ap length is' ∙ length-set asks ask (record asked { lost = true }) in
    let whole : length waiting' ≡ length waiting + length more = ap length left ∙ length-append waiting more in
    let few = k.few in
    let few_asks = k.few_asks in
    let room = k.room in
    record {
      few = omega (arith, long, few);
      few_asks = omega (arith, long_asks, few_asks);
      waits = subst (All (λ (b : ℕ). b < length batches')) (sym left) (All-append (λ (b : ℕ). b < length batches') waiting more
          (weaker (λ (b : ℕ). b < length batches) (λ (b : ℕ). b < length batches') waiting (λ b h. omega (arith, h, long)) k.waits)
          (weaker (λ (b : ℕ). b ≡ asked.batch) (λ (b : ℕ). b < length batches') more (λ b h. omega (arith, h, low, long)) same));
      asked = subst (All (λ (a : Asked). a.batch < length batches')) (sym is')
          (All-set (λ (a : Asked). a.batch < length batches') asks ask (record asked { lost = true })
          (omega (arith, low, long)) (weaker (λ (a : Asked). a.batch < length batches) (λ (a : Asked). a.batch < length batches') asks
          (λ a h. omega (arith, h, long)) k.asked));
      room = omega (arith, whole, short, room, fewer_open, open_is, grown);
    }

-- what a call that may lose an ask finds
pub record Losing (t : Traffic) (ask : ℕ) : Type 0 where
  pub asked : Asked
  pub sent : Sent
  pub asked_is : slice_get t.asks ask ≡ Some asked
  pub sent_is : slice_get t.batches asked.batch ≡ Some sent
  pub open_ : asked.lost ≡ false
  pub unsettled : is_settled sent ≡ false
  pub found : asked_of t ask ≡ Some (asked, sent)

pub losing : (t now : Traffic) (ask : ℕ) → t ≡ now → MayBeLost now ask → Losing t ask
losing t now ask same m =
    let e : asked_of t ask ≡ Some m.pair = ap (λ (t : Traffic). asked_of t ask) same ∙ m.there in
    let parts = and_parts (not m.pair.0.lost) (not (is_settled m.pair.1)) m.lost in
    record {
      asked = m.pair.0;
      sent = m.pair.1;
      asked_is = asked_there t ask m.pair e;
      sent_is = asked_sent t ask m.pair e;
      open_ = not-true m.pair.0.lost parts.0;
      unsettled = not-true (is_settled m.pair.1) parts.1;
      found = e;
    }

pub losses_few : (t : Traffic) (ask : ℕ) (l : Losing t ask) (batch : ℕ) → batch ≡ l.asked.batch → (sent : Sent) → slice_get t.batches batch
    ≡ Some sent → sent.losses ≤ 2
losses_few t ask l batch same sent e =
    let is : Some l.sent ≡ Some sent = sym l.sent_is ∙ ap (slice_get t.batches) (sym same) ∙ e in
    let sent_is : l.sent ≡ sent = cc in
    subst (λ (s : Sent). s.losses ≤ 2) sent_is (few_if_open l.sent l.unsettled)

pub lost_gives : (t : Traffic) (ask : ℕ) (l : Losing t ask) (batches : List Sent) (waiting : List ℕ) (asks : List Asked)
    → batches ≡ slice_set t.batches l.asked.batch (record l.sent { losses = l.sent.losses + 1 }) → waiting ≡ t.waiting
    ++ (if nat_le 2 l.sent.losses then [] else l.asked.batch ∷ []) → asks ≡ slice_set t.asks ask (record l.asked { lost = true })
    → record { batches = batches; waiting = waiting; asks = asks } ≡ after_loss t ask
lost_gives t ask l batches waiting asks is left is' =
    ap₂ (λ (bs : List Sent) (ws : List ℕ). record { batches = bs; waiting = ws; asks = asks }) is left
    ∙ ap (λ (xs : List Asked). record {
      batches = slice_set t.batches l.asked.batch (record l.sent { losses = l.sent.losses + 1 });
      waiting = t.waiting
          ++ (if nat_le 2 l.sent.losses then [] else l.asked.batch ∷ []);
      asks = xs;
    }) is'
    ∙ ap (λ (b : Bool). if b then with_loss ask l.asked l.sent t else t) (sym may)
    ∙ ap (λ (o : Option (Asked × Sent)). option_map_or (λ (pair : Asked × Sent). if may_be_lost pair then with_loss ask pair.0 pair.1 t else t) o t)
    (sym l.found)
  where
    may : may_be_lost (l.asked, l.sent) ≡ true
    may = ap₂ (λ (a b : Bool). not a && not b) l.open_ l.unsettled

-- the number of its batch is that of a batch, and there is room for it to wait
pub batch_within : (t : Traffic) (ask : ℕ) (l : Losing t ask) (batch : ℕ) → batch ≡ l.asked.batch → batch < length t.batches
batch_within t ask l batch same = let low = slice_get_within t.batches l.asked.batch l.sent l.sent_is in omega (arith, low, same)

pub room_left : (t : Traffic) (ask capacity : ℕ) → Losing t ask → IsKept t.batches t.waiting t.asks capacity → length t.waiting < capacity
room_left t ask capacity l k = let fewer_open = one_fewer t.asks ask l.asked l.asked_is l.open_ in let room = k.room in omega (arith, fewer_open, room)

-- the batch waits again, or not
pub waits_again : (losses batch : ℕ) (waiting : List ℕ) → losses + 1 < 3 → waiting ++ batch ∷ [] ≡ waiting
    ++ (if nat_le 2 losses then [] else batch ∷ [])
waits_again losses batch waiting low = ap (λ (b : Bool). waiting ++ (if b then [] else batch ∷ [])) (sym (no losses low))
  where
    no : (losses : ℕ) → losses + 1 < 3 → nat_le 2 losses ≡ false
    no losses low = grind (arith, nat_tests)

pub waits_no_more : (losses batch : ℕ) (waiting : List ℕ) → 3 ≤ losses + 1 → waiting ≡ waiting ++ (if nat_le 2 losses then [] else batch ∷ [])
waits_no_more losses batch waiting high = sym (append-nil waiting) ∙ ap (λ (b : Bool). waiting ++ (if b then [] else batch ∷ [])) (sym (yes losses high))
  where
    yes : (losses : ℕ) → 3 ≤ losses + 1 → nat_le 2 losses ≡ true
    yes losses high = grind (arith, nat_tests)

pub none_other : (batch : ℕ) → All (λ (b : ℕ). b ≡ batch) []
none_other batch = λ i d low. absurd (omega (arith, low))

pub one_other : (batch : ℕ) → All (λ (b : ℕ). b ≡ batch) (batch ∷ [])
one_other batch = λ i d low. step i d low
  where
    step : (i d : ℕ) → i < 1 → get_or (batch ∷ []) i d ≡ batch
    step zero d low = refl
    step (suc i) d low = absurd (omega (arith, low))
