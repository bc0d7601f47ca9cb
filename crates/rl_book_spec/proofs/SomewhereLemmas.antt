-- A batch that is not settled waits once or has one open ask.
use Rattle.std.proofs.Common.{◌≡◌, ℕ, zero, suc, ◌+◌, ◌<◌, ◌≤◌, ◌⊎◌, List, [], ◌∷◌, ◌++◌, Bool, true, false}
use Rattle.std.proofs.Common.{cond, ◌&&◌, ◌||◌, not, length, map, Option, Some, None, refl, ap, ap₂, sym, subst, ◌∙◌, inl, inr}
use Rattle.std.proofs.Common.{arith, length-append, length-set}
use Rattle.std.proofs.lemmas.List.{length-map}
use Rattle.std.specs.Prelude.{◌==◌, count_by, drop, if◌then◌else◌, nat_le, slice_get, slice_set, take, Result, Ok, Err}
use Rattle.std.specs.List.{range_with_len}
use Rattle.std.specs.Option.{option_map_or}
use Rattle.std.proofs.lemmas.Bool.{both_ways, eq-eqb, eqb-false, eqb-true, ne_eqb, or_from, or_parts, or_right}
use Rattle.std.proofs.lemmas.Bool.Decides.{nat_tests}
use Rattle.std.proofs.lemmas.List.Sums.{sum_by-cons}
use Rattle.std.proofs.lemmas.Option.{slice_get_within}
use Rattle.rl_wire.specs.Reading as wire
use Rattle.rl_wire.specs.declared.part.Part.{Part}
use Rattle.rl_book_spec.specs.Laws.{BatchesAreSomewhere, IsSomewhere, IsTraffic, lost_asks, open_asks, times_waiting}
use Rattle.rl_view_spec.specs.Requests.{accepted, accepted_each}
use Rattle.rl_book_spec.specs.Traffic.{Traffic, after_answer, after_loss, asked_of, batches_for, fresh, is_settled, may_be_lost, traffic_of, with_ask}
use Rattle.rl_book_spec.specs.Traffic.{with_batches, with_delivery, with_loss, without}
use Rattle.rl_book_spec.specs.declared.Asked.{Asked}
use Rattle.rl_book_spec.specs.declared.Sent.{Sent}
use Rattle.rl_book_spec.specs.declared.Batch.{Batch}
use Rattle.rl_book_spec.specs.declared.Call.TheVariants.{Using, Load, Take, Deliver, Lose}
use Rattle.rl_book_spec.proofs.AskedForLemmas.{asked_sent}
use Rattle.rl_book_spec.proofs.ListsLemmas.{get_either, get_set, get_set_other}

-- ---- counts

abbrev pub mark : Bool → ℕ
mark b = if b then 1 else 0

count_cons : {X : Type 0} (p : X → Bool) (x : X) (xs : List X) → count_by p (x ∷ xs) ≡ mark (p x) + count_by p xs
count_cons p x xs = sum_by-cons (λ y. mark (p y)) x xs

count_append : {X : Type 0} (p : X → Bool) (xs ys : List X) → count_by p (xs ++ ys) ≡ count_by p xs + count_by p ys
count_append p [] ys = omega arith
count_append p (x ∷ xs) ys =
    let a = count_cons p x (xs ++ ys) in
    let b = count_cons p x xs in
    let later = count_append p xs ys in
    omega (arith, a, b, later)

pub count_set : {X : Type 0} (p : X → Bool) (xs : List X) (k : ℕ) (x y : X) → slice_get xs k ≡ Some x → count_by p (slice_set xs k y) + mark (p x)
    ≡ count_by p xs + mark (p y)
count_set p [] k x y e = cc
count_set p (z ∷ xs) zero x y e =
    let same : z ≡ x = cc in
    let a = count_cons p y xs in
    let b = count_cons p z xs in
    let c : mark (p z) ≡ mark (p x) = ap (λ w. mark (p w)) same in
    omega (arith, a, b, c)
count_set p (z ∷ xs) (suc k) x y e =
    let a = count_cons p z (slice_set xs k y) in
    let b = count_cons p z xs in
    let later = count_set p xs k x y e in
    omega (arith, a, b, later)

-- the first element, and the others
count_first : {X : Type 0} (p : X → Bool) (xs : List X) → count_by p xs ≡ count_by p (take 1 xs) + count_by p (drop 1 xs)
count_first p [] = refl
count_first p (x ∷ xs) = let a = count_cons p x xs in let b = count_cons p x [] in omega (arith, a, b)

count_without : (batch other : ℕ) (xs : List ℕ) → count_by (λ n. n == other) (without batch xs)
    ≡ (if batch == other then 0 else count_by (λ n. n == other) xs)
count_without batch other [] = step (batch == other)
  where
    step : (b : Bool) → count_by (λ n. n == other) [] ≡ (if b then 0 else count_by (λ n. n == other) [])
    step true = refl
    step false = refl
count_without batch other (x ∷ xs) = step (x == batch) refl (batch == other) refl (count_without batch other xs)
  where
    step : (b : Bool) → (x == batch) ≡ b → (c : Bool) → (batch == other) ≡ c → count_by (λ n. n == other) (without batch xs)
        ≡ (if c then 0 else count_by (λ n. n == other) xs)
        → count_by (λ n. n == other) (cond (not b) (x ∷ without batch xs) (without batch xs)) ≡ (if c then 0 else count_by (λ n. n == other) (x ∷ xs))
    step true e true f later = later
    step true e false f later =
        let same : x ≡ batch = eqb-true x batch e in
        let no : (x == other) ≡ false = subst (λ (n : ℕ). (n == other) ≡ false) (sym same) f in
        let a = count_cons (λ n. n == other) x xs in
        let b : mark (x == other) ≡ 0 = ap mark no in
        omega (arith, a, b, later)
    step false e true f later =
        let same : batch ≡ other = eqb-true batch other f in
        let no : (x == other) ≡ false = subst (λ (n : ℕ). (x == n) ≡ false) same e in
        let a = count_cons (λ n. n == other) x (without batch xs) in
        let b : mark (x == other) ≡ 0 = ap mark no in
        omega (arith, a, b, later)
    step false e false f later =
        let a = count_cons (λ n. n == other) x (without batch xs) in
        let b = count_cons (λ n. n == other) x xs in
        omega (arith, a, b, later)

-- numbers from one on: each stands once
count_range : (n m other : ℕ) → count_by (λ k. k == other) (range_with_len n m) ≡ (if nat_le n other && not (nat_le (n + m) other) then 1 else 0)
count_range n zero other = grind (arith, nat_tests)
count_range n (suc m) other =
    let a = count_cons (λ k. k == other) n (range_with_len (n + 1) m) in
    let later = count_range (n + 1) m other in
    a ∙ ap (λ (c : ℕ). mark (n == other) + c) later ∙ numbers n m other
  where
    numbers : (n m other : ℕ) → mark (n == other) + (if nat_le (n + 1) other && not (nat_le (n + 1 + m) other) then 1 else 0)
        ≡ (if nat_le n other && not (nat_le (n + suc m) other) then 1 else 0)
    numbers n m other = grind (arith, nat_tests)

range_below : (n m other : ℕ) → other < n → count_by (λ k. k == other) (range_with_len n m) ≡ 0
range_below n m other low = count_range n m other ∙ no n m other low
  where
    no : (n m other : ℕ) → other < n → mark (nat_le n other && not (nat_le (n + m) other)) ≡ 0
    no n m other low = grind (arith, nat_tests)

range_above : (n m other : ℕ) → n + m ≤ other → count_by (λ k. k == other) (range_with_len n m) ≡ 0
range_above n m other high = count_range n m other ∙ no n m other high
  where
    no : (n m other : ℕ) → n + m ≤ other → mark (nat_le n other && not (nat_le (n + m) other)) ≡ 0
    no n m other high = grind (arith, nat_tests)

range_inside : (n m j : ℕ) → j < m → count_by (λ k. k == (n + j)) (range_with_len n m) ≡ 1
range_inside n m j low = count_range n m (n + j) ∙ yes n m j low
  where
    yes : (n m j : ℕ) → j < m → mark (nat_le n (n + j) && not (nat_le (n + m) (n + j))) ≡ 1
    yes n m j low = grind (arith, nat_tests)

-- ---- places

get_fresh : (new : List Batch) (j : ℕ) (sent : Sent) → slice_get (map fresh new) j ≡ Some sent → (j < length new) × (sent.losses ≡ 0)
    × (sent.delivered ≡ false)
get_fresh [] j sent e = cc
get_fresh (batch ∷ new) zero sent e = let same : fresh batch ≡ sent = cc in
    (omega arith, ap (λ (s : Sent). s.losses) (sym same), ap (λ (s : Sent). s.delivered) (sym same))
get_fresh (batch ∷ new) (suc j) sent e = let m = get_fresh new j sent e in (omega (arith, m.0), m.1, m.2)

pub asked_there : (t : Traffic) (ask : ℕ) (pair : Asked × Sent) → asked_of t ask ≡ Some pair → slice_get t.asks ask ≡ Some pair.0
asked_there t ask pair = outer (slice_get t.asks ask)
  where
    inner : (asked : Asked) (o : Option Sent) → option_map_or (λ (sent : Sent). Some (asked, sent)) o None ≡ Some pair → Some asked ≡ Some pair.0
    inner asked None h = cc
    inner asked (Some sent) h = let first : (asked, sent) ≡ pair = cc in ap (λ (p : Asked × Sent). Some p.0) first

    outer : (o : Option Asked) → option_map_or (λ (asked : Asked). option_map_or (λ (sent : Sent). Some (asked, sent))
        (slice_get t.batches asked.batch) None) o None ≡ Some pair → o ≡ Some pair.0
    outer None h = cc
    outer (Some asked) h = inner asked (slice_get t.batches asked.batch) h

-- ---- new batches

settled_fresh : (sent : Sent) → sent.losses ≡ 0 → sent.delivered ≡ false → is_settled sent ≡ false
settled_fresh sent e f = ap₂ (λ (n : ℕ) (b : Bool). b || nat_le 3 n) e f

batches_somewhere : (new : List Batch) (t : Traffic) → IsTraffic t → IsTraffic (with_batches new t)
batches_somewhere new t h = record { each = each; none = none }
  where
    n : ℕ
    n = length t.batches

    times : (b : ℕ) → times_waiting (with_batches new t) b ≡ times_waiting t b + count_by (λ k. k == b) (range_with_len (length t.batches) (length new))
    times b = count_append (λ k. k == b) t.waiting (range_with_len (length t.batches) (length new))

    each : (b : ℕ) (sent : Sent) → slice_get (t.batches ++ map fresh new) b ≡ Some sent → IsSomewhere (with_batches new t) b sent
    each b sent e = cases (get_either t.batches (map fresh new) b sent e)
      where
        old : slice_get t.batches b ≡ Some sent → IsSomewhere (with_batches new t) b sent
        old there =
            let was : IsSomewhere t b sent = h.each b sent there in
            let low : b < length t.batches = slice_get_within t.batches b sent there in
            let same : times_waiting (with_batches new t) b ≡ times_waiting t b =
            (let a = times b in let zero_more = range_below (length t.batches) (length new) b low in omega (arith, a, zero_more)) in
            record {
              losses = was.losses;
              few = was.few;
              outstanding = λ open_. (let before = was.outstanding open_ in omega (arith, same, before));
              settled = λ done. same ∙ was.settled done;
            }

        added : (j : ℕ) → b ≡ length t.batches + j → slice_get (map fresh new) j ≡ Some sent → IsSomewhere (with_batches new t) b sent
        added j place there =
            let f = get_fresh new j sent there in
            let nothing = h.none b (omega (arith, place)) in
            let one : count_by (λ k. k == b) (range_with_len (length t.batches) (length new))
            ≡ 1 = ap (λ (m : ℕ). count_by (λ k. k == m) (range_with_len (length t.batches) (length new))) place
            ∙ range_inside (length t.batches) (length new) j f.0 in
            let a = times b in
            let losses = f.1 in
            record {
              losses = omega (arith, nothing, losses);
              few = omega (arith, losses);
              outstanding = λ open_. omega (arith, a, one, nothing);
              settled = λ done. absurd (both_ways (is_settled sent) (settled_fresh sent f.1 f.2) done);
            }

        cases : (slice_get t.batches b ≡ Some sent) ⊎ ((j : ℕ) × (b ≡ length t.batches + j) × (slice_get (map fresh new) j ≡ Some sent))
            → IsSomewhere (with_batches new t) b sent
        cases (inl there) = old there
        cases (inr m) = added m.0 m.1 m.2

    none : (b : ℕ) → length (t.batches ++ map fresh new) ≤ b → times_waiting (with_batches new t) b + open_asks t b + lost_asks t b ≡ 0
    none b high =
        let len = length-append t.batches (map fresh new) in
        let mapped = length-map new fresh in
        let nothing = h.none b (omega (arith, len, high)) in
        let a = times b in
        let zero_more = range_above (length t.batches) (length new) b (omega (arith, len, mapped, high)) in
        omega (arith, a, zero_more, nothing)

-- ---- an ask

first_asked : (b : ℕ) (waiting : List ℕ) → count_by (λ (asked : Asked). not asked.lost && (asked.batch == b))
    (map (λ (batch : ℕ). record { batch = batch; lost = false }) (take 1 waiting)) ≡ count_by (λ k. k == b) (take 1 waiting)
first_asked b [] = refl
first_asked b (x ∷ waiting) = refl

first_lost : (b : ℕ) (waiting : List ℕ) → count_by (λ (asked : Asked). asked.lost && (asked.batch == b))
    (map (λ (batch : ℕ). record { batch = batch; lost = false }) (take 1 waiting)) ≡ 0
first_lost b [] = refl
first_lost b (x ∷ waiting) = refl

ask_somewhere : (t : Traffic) → IsTraffic t → IsTraffic (with_ask t)
ask_somewhere t h = record { each = each; none = none }
  where
    asks : List Asked
    asks = map (λ (batch : ℕ). record { batch = batch; lost = false }) (take 1 t.waiting)

    waits : (b : ℕ) → times_waiting t b ≡ count_by (λ k. k == b) (take 1 t.waiting) + times_waiting (with_ask t) b
    waits b = count_first (λ k. k == b) t.waiting

    opens : (b : ℕ) → open_asks (with_ask t) b ≡ open_asks t b + count_by (λ k. k == b) (take 1 t.waiting)
    opens b = count_append (λ (asked : Asked). not asked.lost && (asked.batch == b)) t.asks
        (map (λ (batch : ℕ). record { batch = batch; lost = false }) (take 1 t.waiting)) ∙ ap (λ (n : ℕ). open_asks t b + n) (first_asked b t.waiting)

    lost : (b : ℕ) → lost_asks (with_ask t) b ≡ lost_asks t b + 0
    lost b = count_append (λ (asked : Asked). asked.lost && (asked.batch == b)) t.asks
        (map (λ (batch : ℕ). record { batch = batch; lost = false }) (take 1 t.waiting)) ∙ ap (λ (n : ℕ). lost_asks t b + n) (first_lost b t.waiting)

    each : (b : ℕ) (sent : Sent) → slice_get t.batches b ≡ Some sent → IsSomewhere (with_ask t) b sent
    each b sent there =
        let was : IsSomewhere t b sent = h.each b sent there in
        let w = waits b in
        let o = opens b in
        let l = lost b in
        let losses = was.losses in
        record {
          losses = omega (arith, l, losses);
          few = was.few;
          outstanding = λ open_. (let before = was.outstanding open_ in omega (arith, w, o, before));
          settled = λ done. (let before = was.settled done in omega (arith, w, before));
        }

    none : (b : ℕ) → length t.batches ≤ b → times_waiting (with_ask t) b + open_asks (with_ask t) b + lost_asks (with_ask t) b ≡ 0
    none b high =
        let nothing = h.none b high in
        let w = waits b in
        let o = opens b in
        let l = lost b in
        omega (arith, nothing, w, o, l)

-- ---- a loss

pub few_if_open : (sent : Sent) → is_settled sent ≡ false → sent.losses ≤ 2
few_if_open sent h = few sent.losses (not_yes sent.delivered (nat_le 3 sent.losses) h)
  where
    not_yes : (a b : Bool) → (a || b) ≡ false → b ≡ false
    not_yes true b e = cc
    not_yes false b e = e

    few : (n : ℕ) → nat_le 3 n ≡ false → n ≤ 2
    few n e = grind (arith, nat_tests)

no_mark : (third : Bool) → (if third then 0 else mark false) ≡ 0
no_mark true = refl
no_mark false = refl

same_place : (b : ℕ) → (b == b) ≡ true
same_place b = eq-eqb b b refl

loss_somewhere : (t : Traffic) (ask : ℕ) (asked : Asked) (sent : Sent) → slice_get t.asks ask ≡ Some asked → slice_get t.batches asked.batch
    ≡ Some sent
    → asked.lost ≡ false → is_settled sent ≡ false → IsTraffic t → IsTraffic (with_loss ask asked sent t)
loss_somewhere t ask asked sent there batch_there kept waits h = record { each = each; none = none }
  where
    new : Traffic
    new = with_loss ask asked sent t

    is_open_ask : ℕ → Asked → Bool
    is_open_ask b a = not a.lost && (a.batch == b)

    is_lost_ask : ℕ → Asked → Bool
    is_lost_ask b a = a.lost && (a.batch == b)

    opens : (b : ℕ) → open_asks (with_loss ask asked sent t) b + mark (not asked.lost && (asked.batch == b)) ≡ open_asks t b + 0
    opens b = count_set (λ (a : Asked). not a.lost && (a.batch == b)) t.asks ask asked (record asked { lost = true }) there

    losts : (b : ℕ) → lost_asks (with_loss ask asked sent t) b + mark (asked.lost && (asked.batch == b)) ≡ lost_asks t b + mark (asked.batch == b)
    losts b = count_set (λ (a : Asked). a.lost && (a.batch == b)) t.asks ask asked (record asked { lost = true }) there

    times : (b : ℕ) → times_waiting (with_loss ask asked sent t) b ≡ times_waiting t b
        + count_by (λ k. k == b) (if nat_le 2 sent.losses then [] else asked.batch ∷ [])
    times b = count_append (λ k. k == b) t.waiting (if nat_le 2 sent.losses then [] else asked.batch ∷ [])

    open_mark : (b : ℕ) → mark (not asked.lost && (asked.batch == b)) ≡ mark (asked.batch == b)
    open_mark b = ap (λ (l : Bool). mark (not l && (asked.batch == b))) kept

    lost_mark : (b : ℕ) → mark (asked.lost && (asked.batch == b)) ≡ 0
    lost_mark b = ap (λ (l : Bool). mark (l && (asked.batch == b))) kept

    more : (b : ℕ) (third same : Bool) → (asked.batch == b) ≡ same → count_by (λ k. k == b) (if third then [] else asked.batch ∷ [])
        ≡ (if third then 0 else mark same)
    more b true same e = refl
    more b false same e = let one = count_cons (λ k. k == b) asked.batch [] in one
        ∙ (let plain : mark (asked.batch == b) + 0 ≡ mark (asked.batch == b) = omega arith in plain) ∙ ap mark e

    here : IsSomewhere (with_loss ask asked sent t) asked.batch (record sent { losses = sent.losses + 1 })
    here =
        let was : IsSomewhere t asked.batch sent = h.each asked.batch sent batch_there in
        let one : mark (asked.batch == asked.batch) ≡ 1 = ap mark (same_place asked.batch) in
        let before = was.outstanding waits in
        let losses = was.losses in
        let few = few_if_open sent waits in
        let o = opens asked.batch in
        let om = open_mark asked.batch in
        let l = losts asked.batch in
        let lm = lost_mark asked.batch in
        let w = times asked.batch in
        by (nat_le 2 sent.losses) refl was one before losses few o om l lm w
      where
        by : (third : Bool) → nat_le 2 sent.losses ≡ third → IsSomewhere t asked.batch sent → mark (asked.batch == asked.batch) ≡ 1
            → times_waiting t asked.batch + open_asks t asked.batch ≡ 1
            → lost_asks t asked.batch ≡ sent.losses → sent.losses ≤ 2
            → open_asks (with_loss ask asked sent t) asked.batch + mark (not asked.lost && (asked.batch == asked.batch)) ≡ open_asks t asked.batch + 0
            → mark (not asked.lost && (asked.batch == asked.batch)) ≡ mark (asked.batch == asked.batch)
            → lost_asks (with_loss ask asked sent t) asked.batch + mark (asked.lost && (asked.batch == asked.batch)) ≡ lost_asks t asked.batch
            + mark (asked.batch == asked.batch)
            → mark (asked.lost && (asked.batch == asked.batch)) ≡ 0
            → times_waiting (with_loss ask asked sent t) asked.batch ≡ times_waiting t asked.batch
            + count_by (λ k. k == asked.batch) (if nat_le 2 sent.losses then [] else asked.batch ∷ [])
            → IsSomewhere (with_loss ask asked sent t) asked.batch (record sent { losses = sent.losses + 1 })
        by true e was one before losses few o om l lm w =
            let added : count_by (λ k. k == asked.batch) (if nat_le 2 sent.losses then [] else asked.batch ∷ [])
            ≡ 0 = ap (λ (third : Bool). count_by (λ k. k == asked.batch) (if third then [] else asked.batch ∷ [])) e in
            record {
              losses = omega (arith, l, lm, losses, one);
              few = omega (arith, few);
              outstanding = λ open_. absurd (both_ways (sent.delivered || nat_le 3 (sent.losses + 1)) open_
                  (or_right sent.delivered (nat_le 3 (sent.losses + 1)) (third sent.losses e)));
              settled = λ done. omega (arith, w, added, before, o, om, one);
            }
          where
            third : (n : ℕ) → nat_le 2 n ≡ true → nat_le 3 (n + 1) ≡ true
            third n e = grind (arith, nat_tests)
        by false e was one before losses few o om l lm w =
            let added : count_by (λ k. k == asked.batch) (if nat_le 2 sent.losses then [] else asked.batch ∷ []) ≡ 1 =
            ap (λ (third : Bool). count_by (λ k. k == asked.batch) (if third then [] else asked.batch ∷ [])) e
            ∙ more asked.batch false true (same_place asked.batch) in
            record {
              losses = omega (arith, l, lm, losses, one);
              few = omega (arith, few);
              outstanding = λ open_. omega (arith, w, added, before, o, om, one);
              settled = λ done. absurd (both_ways (sent.delivered || nat_le 3 (sent.losses + 1))
                  (or_from sent.delivered (nat_le 3 (sent.losses + 1)) (or_parts sent.delivered (nat_le 3 sent.losses) waits).0 (second sent.losses e)) done);
            }
          where
            second : (n : ℕ) → nat_le 2 n ≡ false → nat_le 3 (n + 1) ≡ false
            second n e = grind (arith, nat_tests)

    other : (b : ℕ) (s : Sent) → (asked.batch == b) ≡ false → IsSomewhere t b s → IsSomewhere (with_loss ask asked sent t) b s
    other b s apart was =
        let none_here : mark (asked.batch == b) ≡ 0 = ap mark apart in
        let o = opens b in
        let om = open_mark b in
        let l = losts b in
        let lm = lost_mark b in
        let w = times b in
        let added : count_by (λ k. k == b) (if nat_le 2 sent.losses then [] else asked.batch ∷ []) ≡ 0 = more b (nat_le 2 sent.losses) false apart
        ∙ no_mark (nat_le 2 sent.losses) in
        let losses = was.losses in
        record {
          losses = omega (arith, l, lm, none_here, losses);
          few = was.few;
          outstanding = λ open_. (let before = was.outstanding open_ in omega (arith, w, added, o, om, none_here, before));
          settled = λ done. (let before = was.settled done in omega (arith, w, added, before));
        }

    each : (b : ℕ) (s : Sent) → slice_get (slice_set t.batches asked.batch (record sent { losses = sent.losses + 1 })) b ≡ Some s
        → IsSomewhere (with_loss ask asked sent t) b s
    each b s e = by (asked.batch == b) refl
      where
        by : (same : Bool) → (asked.batch == b) ≡ same → IsSomewhere (with_loss ask asked sent t) b s
        by true f =
            let place : asked.batch ≡ b = eqb-true asked.batch b f in
            let is : Some (record sent { losses = sent.losses + 1 }) ≡ Some s =
            sym (get_set t.batches asked.batch sent (record sent { losses = sent.losses + 1 }) batch_there)
            ∙ ap (slice_get (slice_set t.batches asked.batch (record sent { losses = sent.losses + 1 }))) place ∙ e in
            let sent_is : record sent { losses = sent.losses + 1 } ≡ s = cc in
            subst (λ (k : ℕ). IsSomewhere (with_loss ask asked sent t) k s) place
            (subst (λ (x : Sent). IsSomewhere (with_loss ask asked sent t) asked.batch x) sent_is here)
        by false f = other b s f (h.each b s (sym (get_set_other t.batches b asked.batch (record sent { losses = sent.losses + 1 })
            (λ place. eqb-false asked.batch b f (sym place))) ∙ e))

    none : (b : ℕ) → length (slice_set t.batches asked.batch (record sent { losses = sent.losses + 1 })) ≤ b
        → times_waiting (with_loss ask asked sent t) b + open_asks (with_loss ask asked sent t) b + lost_asks (with_loss ask asked sent t) b ≡ 0
    none b high =
        let len = length-set t.batches asked.batch (record sent { losses = sent.losses + 1 }) in
        let low = slice_get_within t.batches asked.batch sent batch_there in
        let nothing = h.none b (omega (arith, len, high)) in
        let apart : (asked.batch == b) ≡ false = ne_eqb asked.batch b (λ place. absurd (omega (arith, place, low, len, high))) in
        let none_here : mark (asked.batch == b) ≡ 0 = ap mark apart in
        let o = opens b in
        let om = open_mark b in
        let l = losts b in
        let lm = lost_mark b in
        let w = times b in
        let added : count_by (λ k. k == b) (if nat_le 2 sent.losses then [] else asked.batch ∷ []) ≡ 0 = more b (nat_le 2 sent.losses) false apart
        ∙ no_mark (nat_le 2 sent.losses) in
        omega (arith, nothing, none_here, o, om, l, lm, w, added)

-- ---- a delivery

delivery_somewhere : (t : Traffic) (asked : Asked) (sent : Sent) → slice_get t.batches asked.batch ≡ Some sent → IsTraffic t
    → IsTraffic (with_delivery asked sent t)
delivery_somewhere t asked sent batch_there h = record { each = each; none = none }
  where
    times : (b : ℕ) → times_waiting (with_delivery asked sent t) b ≡ (if asked.batch == b then 0 else times_waiting t b)
    times b = count_without asked.batch b t.waiting

    times_as : (b : ℕ) (same : Bool) → (asked.batch == b) ≡ same → times_waiting (with_delivery asked sent t) b
        ≡ (if same then 0 else times_waiting t b)
    times_as b same e = times b ∙ ap (λ (s : Bool). if s then 0 else times_waiting t b) e

    here : IsSomewhere (with_delivery asked sent t) asked.batch (record sent { delivered = true })
    here =
        let was : IsSomewhere t asked.batch sent = h.each asked.batch sent batch_there in
        record {
          losses = was.losses;
          few = was.few;
          outstanding = λ open_. let no : true ≡ false = open_ in cc;
          settled = λ done. times_as asked.batch true (same_place asked.batch);
        }

    each : (b : ℕ) (s : Sent) → slice_get (slice_set t.batches asked.batch (record sent { delivered = true })) b ≡ Some s
        → IsSomewhere (with_delivery asked sent t) b s
    each b s e = by (asked.batch == b) refl
      where
        other : (asked.batch == b) ≡ false → IsSomewhere t b s → IsSomewhere (with_delivery asked sent t) b s
        other f was =
            let w = times_as b false f in
            record {
              losses = was.losses;
              few = was.few;
              outstanding = λ open_. (let before = was.outstanding open_ in omega (arith, w, before));
              settled = λ done. w ∙ was.settled done;
            }

        by : (same : Bool) → (asked.batch == b) ≡ same → IsSomewhere (with_delivery asked sent t) b s
        by true f =
            let place : asked.batch ≡ b = eqb-true asked.batch b f in
            let is : Some (record sent { delivered = true }) ≡ Some s = sym
            (get_set t.batches asked.batch sent (record sent { delivered = true }) batch_there)
            ∙ ap (slice_get (slice_set t.batches asked.batch (record sent { delivered = true }))) place ∙ e in
            let sent_is : record sent { delivered = true } ≡ s = cc in
            subst (λ (k : ℕ). IsSomewhere (with_delivery asked sent t) k s) place
            (subst (λ (x : Sent). IsSomewhere (with_delivery asked sent t) asked.batch x) sent_is here)
        by false f = other f (h.each b s (sym (get_set_other t.batches b asked.batch (record sent { delivered = true })
            (λ place. eqb-false asked.batch b f (sym place))) ∙ e))

    none : (b : ℕ) → length (slice_set t.batches asked.batch (record sent { delivered = true })) ≤ b → times_waiting (with_delivery asked sent t) b
        + open_asks t b + lost_asks t b ≡ 0
    none b high =
        let len = length-set t.batches asked.batch (record sent { delivered = true }) in
        let low = slice_get_within t.batches asked.batch sent batch_there in
        let nothing = h.none b (omega (arith, len, high)) in
        let apart : (asked.batch == b) ≡ false = ne_eqb asked.batch b (λ place. absurd (omega (arith, place, low, len, high))) in
        let w = times_as b false apart in
        omega (arith, nothing, w)

-- ---- all calls

lost_somewhere : (t : Traffic) (ask : ℕ) → IsTraffic t → IsTraffic (after_loss t ask)
lost_somewhere t ask h = outer (asked_of t ask) refl
  where
    not_first : (a b : Bool) → (not a && not b) ≡ true → a ≡ false
    not_first true b e = cc
    not_first false b e = refl

    not_second : (a b : Bool) → (not a && not b) ≡ true → b ≡ false
    not_second true b e = cc
    not_second false true e = cc
    not_second false false e = refl

    lost : (pair : Asked × Sent) → asked_of t ask ≡ Some pair → (b : Bool) → may_be_lost pair ≡ b
        → IsTraffic (if b then with_loss ask pair.0 pair.1 t else t)
    lost pair e false f = h
    lost pair e true f =
        loss_somewhere t ask pair.0 pair.1 (asked_there t ask pair e) (asked_sent t ask pair e) (not_first pair.0.lost (is_settled pair.1) f)
        (not_second pair.0.lost (is_settled pair.1) f) h

    outer : (found : Option (Asked × Sent)) → asked_of t ask ≡ found → IsTraffic
        (option_map_or (λ (pair : Asked × Sent). if may_be_lost pair then with_loss ask pair.0 pair.1 t else t) found t)
    outer None e = h
    outer (Some pair) e = lost pair e (may_be_lost pair) refl

answer_somewhere : (t : Traffic) (ask : ℕ) (read : Result (List Part) ℕ) → IsTraffic t → IsTraffic (after_answer t ask read)
answer_somewhere t ask (Err line) h = lost_somewhere t ask h
answer_somewhere t ask (Ok parts) h = outer (asked_of t ask) refl
  where
    outer : (found : Option (Asked × Sent)) → asked_of t ask ≡ found → IsTraffic
        (option_map_or (λ (pair : Asked × Sent). with_delivery pair.0 pair.1 t) found t)
    outer None e = h
    outer (Some pair) e = delivery_somewhere t pair.0 pair.1 (asked_sent t ask pair e) h

pub all_somewhere : BatchesAreSomewhere
all_somewhere o [] = record { each = λ b sent e. absurd (nothing b sent e); none = λ b high. refl }
  where
    nothing : (b : ℕ) (sent : Sent) → slice_get [] b ≡ Some sent → ⊥
    nothing b sent e = cc
all_somewhere o (Using names ∷ past) = batches_somewhere (batches_for o past (accepted o.registered names)) (traffic_of o past) (all_somewhere o past)
all_somewhere o (Load names ∷ past) = batches_somewhere (batches_for o past (accepted_each o.registered names)) (traffic_of o past) (all_somewhere o past)
all_somewhere o (Take ∷ past) = ask_somewhere (traffic_of o past) (all_somewhere o past)
all_somewhere o (Deliver ask bytes mark ∷ past) = answer_somewhere (traffic_of o past) ask (wire.answer_of bytes) (all_somewhere o past)
all_somewhere o (Lose ask mark ∷ past) = lost_somewhere (traffic_of o past) ask (all_somewhere o past)
