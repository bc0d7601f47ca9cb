-- Numbers are ranked one after another, each once all that it leads to are.
use Rattle.std.proofs.Common.{◌≡◌, ℕ, zero, suc, ◌+◌, ◌-◌, ◌<◌, ◌≤◌, List, [], ◌∷◌, Bool, true, false, cond, ◌&&◌, ◌||◌}
use Rattle.std.proofs.Common.{not, length, map, take, drop, set, get_or, replicate, nat_eq, nat_lt, refl, ap, sym, subst, ◌∙◌, ⊎_elim, arith}
use Rattle.std.specs.Prelude.{All, Contains, count_by}
use Rattle.std.specs.List.{list_all}
use Rattle.std.proofs.lemmas.Bool.{cases_eq, cases_lt, cases_Bool, eq-eqb, ne_eqb, lt-ltb, le-ltb, ltb-true, ltb-false, eqb-true, and_parts, both_ways}
use Rattle.std.proofs.lemmas.Bool.{false_from_ne_true}
use Rattle.std.proofs.lemmas.Bool.Decides.{nat_tests}
use Rattle.std.proofs.lemmas.List.{get_or-map, get_or-replicate, get_or-set_same, get_or-set_other, get_or-take, get_or_default, get_or_past, length-map}
use Rattle.std.proofs.lemmas.List.{length-replicate, length-set, length-take-le, nil_from_length, take-append-drop, take-take, take_all}
use Rattle.std.proofs.lemmas.List.Elements.{Contains-append_left, Contains-get_or}
use Rattle.std.proofs.lemmas.List.Sums.{count_by-le-length, count_by_more_yes, sum_by-cons, sum_by-take-le, sum_by_more}
use Rattle.rl_graph.proofs.ToolsLemmas.{all_each, contains_head, contains_none, contains_tail}
use Rattle.rl_graph.specs.Graph.{next_in, places_from, IsWithin}
use Rattle.rl_graph.specs.Ranks.{falls_at, FallButForCycles, Releases}
use Rattle.rl_graph.specs.Reversed.{times, AreReversed}
use Rattle.rl_graph.proofs.CountsLemmas.{count_fewer, count_none, counted_in, none_from, some_counted}

-- whether a number stands in a list
abbrev pub has : List ℕ → ℕ → Bool
has xs x = nat_lt 0 (times x xs)

-- The first of the ranked numbers have their places as ranks. What is left of a number is how often it leads to others,
-- and a number is ranked once where nothing is left of it.
pub record IsRanking (lists : List (List ℕ)) (i : ℕ) (left ranked ranks : List ℕ) : Type 0 where
  pub within : i ≤ length ranked
  pub long_left : length left ≡ length lists
  pub long_ranks : length ranks ≡ length lists
  pub total : length ranked ≡ count_by (λ n. nat_eq n 0) left
  pub left_is : (from : ℕ) → from < length lists → get_or left from 0 ≡ count_by (λ to. not (has (take i ranked) to)) (next_in lists from)
  pub once : (number : ℕ) → times number ranked ≡ cond (nat_lt number (length lists) && nat_eq (get_or left number 0) 0) 1 0
  pub after : (k to : ℕ) → k < length ranked → Contains (next_in lists (get_or ranked k 0)) to → Contains (take k ranked) to
  pub ranks_are : (k : ℕ) → k < i → get_or ranks (get_or ranked k 0) 0 ≡ k
  pub rest : (number : ℕ) → times number (take i ranked) ≡ 0 → get_or ranks number 0 ≡ 0

-- ---- numbers that are ranked

pub few_ranked : (lists : List (List ℕ)) (i : ℕ) (left ranked ranks : List ℕ) → IsRanking lists i left ranked ranks → length ranked ≤ length lists
few_ranked lists i left ranked ranks r = omega (arith, r.total, r.long_left, count_by-le-length (λ n. nat_eq n 0) left)

-- one of them is a number of the graph, and nothing is left of it
ranked_parts : (n : ℕ) (left : List ℕ) (x : ℕ) (t : ℕ) → t ≡ cond (nat_lt x n && nat_eq (get_or left x 0) 0) 1 0 → (t ≡ 0 → ⊥) →
    (x < n) × (get_or left x 0 ≡ 0)
ranked_parts n left x t once some = step (nat_lt x n && nat_eq (get_or left x 0) 0) refl
  where
    step : (b : Bool) → (nat_lt x n && nat_eq (get_or left x 0) 0) ≡ b → (x < n) × (get_or left x 0 ≡ 0)
    step true e = let p = and_parts (nat_lt x n) (nat_eq (get_or left x 0) 0) e in (ltb-true x n p.0, eqb-true (get_or left x 0) 0 p.1)
    step false e = absurd (some (once ∙ none_from (nat_lt x n && nat_eq (get_or left x 0) 0) e))

stands : (k : ℕ) (xs : List ℕ) → k < length xs → times (get_or xs k 0) xs ≡ 0 → ⊥
stands k xs low z = counted_in (get_or xs k 0) xs z (Contains-get_or xs k 0 low)

at_most_one : (b : Bool) (t : ℕ) → t ≡ cond b 1 0 → t ≤ 1
at_most_one true t e = omega (arith, e)
at_most_one false t e = omega (arith, e)

pub ranked_low : (lists : List (List ℕ)) (i : ℕ) (left ranked ranks : List ℕ) → IsRanking lists i left ranked ranks → (k : ℕ) →
    k < length ranked → get_or ranked k 0 < length lists
ranked_low lists i left ranked ranks r k low = (ranked_parts (length lists) left (get_or ranked k 0) (times (get_or ranked k 0) ranked)
    (r.once (get_or ranked k 0)) (stands k ranked low)).0

-- ---- the number that comes next

-- it was not ranked before
not_yet : (lists : List (List ℕ)) (i : ℕ) (left ranked ranks : List ℕ) → IsRanking lists i left ranked ranks → i < length ranked →
    times (get_or ranked i 0) (take i ranked) ≡ 0
not_yet lists i left ranked ranks r low =
    let at : ℕ = get_or ranked i 0 in
    omega (
      arith,
      count_by_more_yes (nat_eq at) ranked i 0 low (eq-eqb at at refl),
      sum_by-take-le (λ (y : ℕ). cond (nat_eq at y) 1 0) ranked (i + 1),
      at_most_one (nat_lt at (length lists) && nat_eq (get_or left at 0) 0) (times at ranked) (r.once at),
    )

has_more : (i : ℕ) (ranked : List ℕ) → i < length ranked → (x : ℕ) →
    has (take (i + 1) ranked) x ≡ (has (take i ranked) x || nat_eq x (get_or ranked i 0))
has_more i ranked low x =
    ap (nat_lt 0) (sum_by_more (λ (y : ℕ). cond (nat_eq x y) 1 0) ranked i 0 low) ∙ step (nat_eq x (get_or ranked i 0)) (times x (take i ranked))
  where
    step : (b : Bool) (n : ℕ) → nat_lt 0 (n + cond b 1 0) ≡ (nat_lt 0 n || b)
    step true n = let e : nat_lt 0 (n + 1) ≡ true = lt-ltb 0 (n + 1) (omega arith) in e ∙ sym (or_true (nat_lt 0 n))
      where
        or_true : (c : Bool) → (c || true) ≡ true
        or_true true = refl
        or_true false = refl
    step false n = let e : n + 0 ≡ n = omega arith in ap (nat_lt 0) e ∙ sym (or_false (nat_lt 0 n))
      where
        or_false : (c : Bool) → (c || false) ≡ c
        or_false true = refl
        or_false false = refl

-- how often a number leads there is that many fewer of what is left of it
fewer_left : (lists : List (List ℕ)) (i : ℕ) (left ranked ranks : List ℕ) → IsRanking lists i left ranked ranks → i < length ranked → (x : ℕ) →
    x < length lists
    → count_by (λ to. not (has (take (i + 1) ranked) to)) (next_in lists x) + times (get_or ranked i 0) (next_in lists x) ≡ get_or left x 0
fewer_left lists i left ranked ranks r low x there =
    count_fewer (has (take i ranked)) (has (take (i + 1) ranked)) (get_or ranked i 0) (next_in lists x)
    (ap (nat_lt 0) (not_yet lists i left ranked ranks r low)) (has_more i ranked low) ∙ sym (r.left_is x there)

-- past the last number nothing leads anywhere
led_by_none : (lists leading : List (List ℕ)) (x to : ℕ) → AreReversed lists leading → to < length lists → length lists ≤ x →
    times x (next_in leading to) ≡ 0
led_by_none lists leading x to a low past =
    a.each x to low ∙ ap (λ (xs : List ℕ). cond (nat_eq x to) 0 (times to xs)) (get_or_past lists x [] past) ∙ step (nat_eq x to)
  where
    step : (b : Bool) → ◌≡◌ {A = ℕ} (cond b 0 0) 0
    step true = refl
    step false = refl

-- of the number that comes next nothing is left, so it does not lead to itself
led_by : (lists leading : List (List ℕ)) (i : ℕ) (left ranked ranks : List ℕ) → AreReversed lists leading → IsRanking lists i left ranked ranks →
    i < length ranked → (x : ℕ) → x < length lists
    → times x (next_in leading (get_or ranked i 0)) ≡ times (get_or ranked i 0) (next_in lists x)
led_by lists leading i left ranked ranks a r low x there =
    let at : ℕ = get_or ranked i 0 in
    a.each x at (ranked_low lists i left ranked ranks r i low)
    ∙ ⊎_elim (λ e. own e) (λ ne. ap (λ (b : Bool). cond b 0 (times at (next_in lists x))) (ne_eqb x at ne)) (cases_eq x at)
  where
    none_left : get_or left (get_or ranked i 0) 0 ≡ 0
    none_left = (ranked_parts (length lists) left (get_or ranked i 0) (times (get_or ranked i 0) ranked) (r.once (get_or ranked i 0)) (stands i ranked low)).1

    own : x ≡ get_or ranked i 0 → cond (nat_eq x (get_or ranked i 0)) 0 (times (get_or ranked i 0) (next_in lists x))
        ≡ times (get_or ranked i 0) (next_in lists x)
    own e =
        let none : get_or left x 0 ≡ 0 = ap (λ (k : ℕ). get_or left k 0) e ∙ none_left in
        let zero : times (get_or ranked i 0) (next_in lists x) ≡ 0 = omega (arith, fewer_left lists i left ranked ranks r low x there, none) in
        ap (λ (b : Bool). cond b 0 (times (get_or ranked i 0) (next_in lists x))) (eq-eqb x (get_or ranked i 0) e) ∙ sym zero

pub next_enough : (lists leading : List (List ℕ)) (i : ℕ) (left ranked ranks : List ℕ) → AreReversed lists leading →
    IsRanking lists i left ranked ranks → i < length ranked
    → (x : ℕ) → times x (next_in leading (get_or ranked i 0)) ≤ get_or left x 0
next_enough lists leading i left ranked ranks a r low x = ⊎_elim (λ lt. within lt) (λ ge. past ge) (cases_lt x (length lists))
  where
    at_low : get_or ranked i 0 < length lists
    at_low = ranked_low lists i left ranked ranks r i low

    within : x < length lists → times x (next_in leading (get_or ranked i 0)) ≤ get_or left x 0
    within lt = omega (arith, fewer_left lists i left ranked ranks r low x lt, led_by lists leading i left ranked ranks a r low x lt)

    past : length lists ≤ x → times x (next_in leading (get_or ranked i 0)) ≤ get_or left x 0
    past ge = omega (arith, led_by_none lists leading x (get_or ranked i 0) a at_low ge)

pub next_low : (lists leading : List (List ℕ)) (i : ℕ) (left ranked ranks : List ℕ) → AreReversed lists leading →
    IsRanking lists i left ranked ranks → i < length ranked
    → All (λ number. number < length left) (next_in leading (get_or ranked i 0))
next_low lists leading i left ranked ranks a r low = λ k d there.
    let ns : List ℕ = next_in leading (get_or ranked i 0) in
    let x : ℕ = get_or ns k d in
    ⊎_elim
    (λ lt. omega (arith, lt, r.long_left))
    (λ ge. absurd (counted_in x ns (led_by_none lists leading x (get_or ranked i 0) a (ranked_low lists i left ranked ranks r i low) ge)
    (Contains-get_or ns k d there)))
    (cases_lt x (length lists))

-- ---- how it begins

abbrev zeros : ℕ → List ℕ → List ℕ
zeros k left = places_from k (map (λ n. nat_eq n 0) left)

-- one place more, where the test passes
times_if : (x k : ℕ) (b : Bool) (xs : List ℕ) → times x (cond b (k ∷ xs) xs) ≡ cond b (cond (nat_eq x k) 1 0) 0 + times x xs
times_if x k true xs = sum_by-cons (λ (y : ℕ). cond (nat_eq x y) 1 0) k xs
times_if x k false xs = omega arith

zeros_long : (k : ℕ) (left : List ℕ) → length (zeros k left) ≡ count_by (λ n. nat_eq n 0) left
zeros_long k [] = refl
zeros_long k (n ∷ left) = step (nat_eq n 0) (zeros_long (k + 1) left) ∙ sym (sum_by-cons (λ (m : ℕ). cond (nat_eq m 0) 1 0) n left)
  where
    step : (b : Bool) → length (zeros (k + 1) left) ≡ count_by (λ m. nat_eq m 0) left →
        length (cond b (k ∷ zeros (k + 1) left) (zeros (k + 1) left)) ≡ cond b 1 0 + count_by (λ m. nat_eq m 0) left
    step true e = omega (arith, e)
    step false e = omega (arith, e)

zeros_before : (x k : ℕ) (left : List ℕ) → x < k → times x (zeros k left) ≡ 0
zeros_before x k [] low = refl
zeros_before x k (n ∷ left) low = times_if x k (nat_eq n 0) (zeros (k + 1) left)
    ∙ step (nat_eq n 0) (nat_eq x k) (ne_eqb x k (λ e. omega (arith, e, low))) (zeros_before x (k + 1) left (omega (arith, low)))
  where
    step : (b c : Bool) → c ≡ false → times x (zeros (k + 1) left) ≡ 0 → cond b (cond c 1 0) 0 + times x (zeros (k + 1) left) ≡ 0
    step true c e rest = omega (arith, none_from c e, rest)
    step false c e rest = omega (arith, rest)

zeros_times : (k j : ℕ) (left : List ℕ) → times (k + j) (zeros k left) ≡ cond (nat_lt j (length left) && nat_eq (get_or left j 0) 0) 1 0
zeros_times k j [] = let t : nat_lt j 0 ≡ false = le-ltb j 0 (omega arith) in ap (λ (b : Bool). cond (b && nat_eq (get_or [] j 0) 0) 1 0) (sym t)
zeros_times k zero (n ∷ left) =
    let t : nat_lt 0 (length (n ∷ left)) ≡ true = lt-ltb 0 (length (n ∷ left)) (omega arith) in
    let is : nat_eq (k + 0) k ≡ true = eq-eqb (k + 0) k (omega arith) in
    times_if (k + 0) k (nat_eq n 0) (zeros (k + 1) left) ∙ step (nat_eq n 0) (nat_eq (k + 0) k) is (zeros_before (k + 0) (k + 1) left (omega arith))
    ∙ ap (λ (b : Bool). cond (b && nat_eq n 0) 1 0) (sym t)
  where
    step : (b c : Bool) → c ≡ true → times (k + 0) (zeros (k + 1) left) ≡ 0 →
        cond b (cond c 1 0) 0 + times (k + 0) (zeros (k + 1) left) ≡ cond (true && b) 1 0
    step true c e rest = let one : ◌≡◌ {A = ℕ} (cond c 1 0) 1 = ap (λ (d : Bool). cond d 1 0) e in omega (arith, one, rest)
    step false c e rest = omega (arith, rest)
zeros_times k (suc j) (n ∷ left) =
    let t : nat_lt (suc j) (length (n ∷ left)) ≡ nat_lt j (length left) = grind (arith, nat_tests) in
    let off : nat_eq (k + suc j) k ≡ false = ne_eqb (k + suc j) k (λ e. omega (arith, e)) in
    let rest : times (k + suc j) (zeros (k + 1) left) ≡ cond (nat_lt j (length left) && nat_eq (get_or left j 0) 0) 1 0 =
    ap (λ (x : ℕ). times x (zeros (k + 1) left)) (omega arith) ∙ zeros_times (k + 1) j left in
    times_if (k + suc j) k (nat_eq n 0) (zeros (k + 1) left) ∙ step (nat_eq n 0) (nat_eq (k + suc j) k) off ∙ rest
    ∙ ap (λ (b : Bool). cond (b && nat_eq (get_or left j 0) 0) 1 0) (sym t)
  where
    step : (b c : Bool) → c ≡ false → cond b (cond c 1 0) 0 + times (k + suc j) (zeros (k + 1) left) ≡ times (k + suc j) (zeros (k + 1) left)
    step true c e = omega (arith, none_from c e)
    step false c e = omega arith

-- at first all that a number leads to is left
all_left : (xs : List ℕ) → length xs ≡ count_by (λ to. not (has [] to)) xs
all_left [] = refl
all_left (x ∷ xs) = omega (arith, all_left xs, sum_by-cons (λ (to : ℕ). cond (not (has [] to)) 1 0) x xs)

pub ranking_begins : (lists : List (List ℕ)) (left ranked ranks : List ℕ) → left ≡ map length lists →
    ranked ≡ places_from 0 (map (λ n. nat_eq n 0) left) → ranks ≡ replicate (length lists) 0
    → IsRanking lists 0 left ranked ranks
ranking_begins lists left ranked ranks e f g = record {
  within = omega arith;
  long_left = long;
  long_ranks = ap length g ∙ length-replicate {A = ℕ} (length lists) 0;
  total = ap length f ∙ zeros_long 0 left;
  left_is = λ from low. leads from low ∙ all_left (next_in lists from);
  once = once;
  after = λ k to low c.
      let at : ℕ = get_or ranked k 0 in
      let p = ranked_parts (length lists) left at (times at ranked) (once at) (stands k ranked low) in
      let none : next_in lists at ≡ [] = nil_from_length (next_in lists at) (sym (leads at p.0) ∙ p.1) in
      absurd (contains_none to (subst (λ (xs : List ℕ). Contains xs to) none c));
  ranks_are = λ k low. absurd (omega (arith, low));
  rest = λ number z. ap (λ (rs : List ℕ). get_or rs number 0) g
      ∙ ⊎_elim (λ lt. get_or-replicate (length lists) number 0 0 lt)
      (λ ge. get_or_past (replicate (length lists) 0) number 0 (omega (arith, ge, length-replicate {A = ℕ} (length lists) 0)))
      (cases_lt number (length lists));
}
  where
    long : length left ≡ length lists
    long = ap length e ∙ length-map lists length

    leads : (from : ℕ) → from < length lists → get_or left from 0 ≡ length (next_in lists from)
    leads from low = ap (λ (ls : List ℕ). get_or ls from 0) e ∙ get_or-map length lists from [] 0 low

    once : (number : ℕ) → times number ranked ≡ cond (nat_lt number (length lists) && nat_eq (get_or left number 0) 0) 1 0
    once number =
        ap (times number) f ∙ ap (λ (x : ℕ). times x (zeros 0 left)) (omega arith) ∙ zeros_times 0 number left
        ∙ ap (λ (n : ℕ). cond (nat_lt number n && nat_eq (get_or left number 0) 0) 1 0) long

-- ---- how it goes on

-- the numbers that are ranked first stay
front_stays : (ranked ranked' : List ℕ) → take (length ranked) ranked' ≡ ranked → (k : ℕ) → k ≤ length ranked → take k ranked' ≡ take k ranked
front_stays ranked ranked' front k le = sym (take-take k (length ranked) ranked' le) ∙ ap (take k) front

place_stays : (ranked ranked' : List ℕ) → take (length ranked) ranked' ≡ ranked → (k : ℕ) → k < length ranked →
    get_or ranked' k 0 ≡ get_or ranked k 0
place_stays ranked ranked' front k lt = sym (get_or-take (length ranked) ranked' k 0 lt) ∙ ap (λ (xs : List ℕ). get_or xs k 0) front

contains_later : (m k : ℕ) (xs : List ℕ) (x : ℕ) → m ≤ k → Contains (take m xs) x → Contains (take k xs) x
contains_later m k xs x le c =
    subst (λ (ys : List ℕ). Contains ys x) (take-append-drop m (take k xs))
    (Contains-append_left (take m (take k xs)) (drop m (take k xs)) x (subst (λ (ys : List ℕ). Contains ys x) (sym (take-take m k xs le)) c))

-- a number is added where nothing is left of it from now on
once_more : (l t l' : ℕ) → l' ≡ l - t → t ≤ l → cond (nat_eq l 0) 1 0 + cond (nat_lt 0 t && nat_eq l' 0) 1 0 ≡ cond (nat_eq l' 0) 1 0
once_more l zero l' e le =
    let same : l' ≡ l = omega (arith, e) in
    let t : nat_lt 0 0 ≡ false = refl in
    ap (λ (n : ℕ). cond (nat_eq n 0) 1 0 + cond (nat_lt 0 0 && nat_eq l' 0) 1 0) (sym same) ∙ step (nat_eq l' 0)
  where
    step : (b : Bool) → cond b 1 0 + cond (nat_lt 0 0 && b) 1 0 ≡ cond b 1 0
    step true = omega arith
    step false = omega arith
once_more l (suc t) l' e le =
    let some : nat_eq l 0 ≡ false = ne_eqb l 0 (λ z. omega (arith, z, le)) in
    let u : nat_lt 0 (suc t) ≡ true = lt-ltb 0 (suc t) (omega arith) in
    rw (some, u) (step (nat_eq l' 0))
  where
    step : (b : Bool) → 0 + cond (true && b) 1 0 ≡ cond b 1 0
    step true = omega arith
    step false = omega arith

-- the record of a ranking, once the number that comes next has its rank and what leads to it is released
pub record Advances (lists leading : List (List ℕ)) (i : ℕ) (left left' ranked ranked' ranks : List ℕ) : Type 0 where
  pub leads : AreReversed lists leading
  pub ranking : IsRanking lists i left ranked ranks
  pub low : i < length ranked
  pub released : Releases (next_in leading (get_or ranked i 0)) left left' ranked ranked'

left_after : (lists leading : List (List ℕ)) (i : ℕ) (left left' ranked ranked' ranks : List ℕ) →
    Advances lists leading i left left' ranked ranked' ranks
    → (from : ℕ) → from < length lists → get_or left' from 0 ≡ count_by (λ to. not (has (take (i + 1) ranked') to)) (next_in lists from)
left_after lists leading i left left' ranked ranked' ranks a from there =
    let now : get_or left' from 0 ≡ count_by (λ to. not (has (take (i + 1) ranked) to)) (next_in lists from) =
    omega (
      arith,
      a.released.fewer from,
      led_by lists leading i left ranked ranks a.leads a.ranking a.low from there,
      fewer_left lists i left ranked ranks
          a.ranking a.low from there,
    ) in
    now ∙ ap (λ (xs : List ℕ). count_by (λ to. not (has xs to)) (next_in lists from))
    (sym (front_stays ranked ranked' a.released.front (i + 1) (omega (arith, a.low))))

once_after : (lists leading : List (List ℕ)) (i : ℕ) (left left' ranked ranked' ranks : List ℕ) →
    Advances lists leading i left left' ranked ranked' ranks
    → (x : ℕ) → times x ranked' ≡ cond (nat_lt x (length lists) && nat_eq (get_or left' x 0) 0) 1 0
once_after lists leading i left left' ranked ranked' ranks a x = ⊎_elim (λ lt. within lt) (λ ge. past ge) (cases_lt x (length lists))
  where
    both : times x ranked' ≡ cond (nat_lt x (length lists) && nat_eq (get_or left x 0) 0) 1 0 + cond
        (nat_lt 0 (times x (next_in leading (get_or ranked i 0))) && nat_eq (get_or left' x 0) 0) 1 0
    both = a.released.adds x ∙ ap (λ (n : ℕ). n + cond (nat_lt 0 (times x (next_in leading (get_or ranked i 0))) && nat_eq (get_or left' x 0) 0) 1 0)
        (a.ranking.once x)

    within : x < length lists → times x ranked' ≡ cond (nat_lt x (length lists) && nat_eq (get_or left' x 0) 0) 1 0
    within lt =
        let t : nat_lt x (length lists) ≡ true = lt-ltb x (length lists) lt in
        both ∙ ap (λ (b : Bool). cond (b && nat_eq (get_or left x 0) 0) 1 0 + cond
        (nat_lt 0 (times x (next_in leading (get_or ranked i 0))) && nat_eq (get_or left' x 0) 0) 1 0) t
        ∙ once_more (get_or left x 0) (times x (next_in leading (get_or ranked i 0))) (get_or left' x 0) (a.released.fewer x)
        (next_enough lists leading i left ranked ranks a.leads a.ranking a.low x)
        ∙ ap (λ (b : Bool). cond (b && nat_eq (get_or left' x 0) 0) 1 0) (sym t)

    past : length lists ≤ x → times x ranked' ≡ cond (nat_lt x (length lists) && nat_eq (get_or left' x 0) 0) 1 0
    past ge =
        let t : nat_lt x (length lists) ≡ false = le-ltb x (length lists) ge in
        let none : times x (next_in leading (get_or ranked i 0))
        ≡ 0 = led_by_none lists leading x (get_or ranked i 0) a.leads (ranked_low lists i left ranked ranks a.ranking i a.low) ge in
        both ∙ rw (t, none) refl

-- what a number leads to stands before it
before_after : (lists leading : List (List ℕ)) (i : ℕ) (left left' ranked ranked' ranks : List ℕ) →
    Advances lists leading i left left' ranked ranked' ranks
    → (k to : ℕ) → k < length ranked' → Contains (next_in lists (get_or ranked' k 0)) to → Contains (take k ranked') to
before_after lists leading i left left' ranked ranked' ranks a k to low c = ⊎_elim (λ lt. old lt) (λ ge. new ge) (cases_lt k (length ranked))
  where
    old : k < length ranked → Contains (take k ranked') to
    old lt =
        let same : get_or ranked' k 0 ≡ get_or ranked k 0 = place_stays ranked ranked' a.released.front k lt in
        subst (λ (xs : List ℕ). Contains xs to) (sym (front_stays ranked ranked' a.released.front k (omega (arith, lt))))
        (a.ranking.after k to lt (subst (λ (x : ℕ). Contains (next_in lists x) to) same c))

    new : length ranked ≤ k → Contains (take k ranked') to
    new ge =
        let x : ℕ = get_or ranked' k 0 in
        let p = ranked_parts (length lists) left' x (times x ranked') (once_after lists leading i left left' ranked ranked' ranks a x) (stands k ranked' low) in
        let none : count_by (λ to. not (has (take (i + 1) ranked') to)) (next_in lists x)
        ≡ 0 = sym (left_after lists leading i left left' ranked ranked' ranks a x p.0) ∙ p.1 in
        let all : list_all (has (take (i + 1) ranked')) (next_in lists x) ≡ true = sym (count_none (has (take (i + 1) ranked')) (next_in lists x))
        ∙ eq-eqb _ 0 none in
        let is : 0 < times to (take (i + 1) ranked') = ltb-true 0 (times to (take (i + 1) ranked'))
        (all_each (has (take (i + 1) ranked')) (next_in lists x) to all c) in
        contains_later (i + 1) k ranked' to (omega (arith, a.low, ge)) (some_counted to (take (i + 1) ranked') (λ z. omega (arith, z, is)))

-- the ranks so far
ranks_after : (lists leading : List (List ℕ)) (i : ℕ) (left left' ranked ranked' ranks : List ℕ) →
    Advances lists leading i left left' ranked ranked' ranks
    → (k : ℕ) → k < i + 1 → get_or (set ranks (get_or ranked i 0) i) (get_or ranked' k 0) 0 ≡ k
ranks_after lists leading i left left' ranked ranked' ranks a k lt =
    ap (λ (x : ℕ). get_or (set ranks (get_or ranked i 0) i) x 0) (place_stays ranked ranked' a.released.front k (omega (arith, lt, a.low)))
    ∙ ⊎_elim (λ e. last e) (λ ne. before ne) (cases_eq k i)
  where
    at_low : get_or ranked i 0 < length ranks
    at_low = omega (arith, ranked_low lists i left ranked ranks a.ranking i a.low, a.ranking.long_ranks)

    last : k ≡ i → get_or (set ranks (get_or ranked i 0) i) (get_or ranked k 0) 0 ≡ k
    last e = ap (λ (j : ℕ). get_or (set ranks (get_or ranked i 0) i) (get_or ranked j 0) 0) e ∙ get_or-set_same ranks (get_or ranked i 0) i 0 at_low
        ∙ sym e

    apart : k < i → get_or ranked k 0 ≡ get_or ranked i 0 → ⊥
    apart low e =
        let long : length (take i ranked) ≡ i = length-take-le i ranked a.ranking.within in
        let there : Contains (take i ranked) (get_or (take i ranked) k 0) = Contains-get_or (take i ranked) k 0 (omega (arith, long, low)) in
        counted_in (get_or ranked i 0) (take i ranked) (not_yet lists i left ranked ranks a.ranking a.low)
        (subst (λ (x : ℕ). Contains (take i ranked) x) (get_or-take i ranked k 0 low ∙ e) there)

    before : (k ≡ i → ⊥) → get_or (set ranks (get_or ranked i 0) i) (get_or ranked k 0) 0 ≡ k
    before ne =
        let low : k < i = omega (arith, lt, ne) in
        get_or-set_other ranks (get_or ranked i 0) (get_or ranked k 0) i 0 (apart low) ∙ a.ranking.ranks_are k low

rest_after : (lists leading : List (List ℕ)) (i : ℕ) (left left' ranked ranked' ranks : List ℕ) →
    Advances lists leading i left left' ranked ranked' ranks
    → (x : ℕ) → times x (take (i + 1) ranked') ≡ 0 → get_or (set ranks (get_or ranked i 0) i) x 0 ≡ 0
rest_after lists leading i left left' ranked ranked' ranks a x z =
    let none : times x (take (i + 1) ranked) ≡ 0 = sym (ap (times x) (front_stays ranked ranked' a.released.front (i + 1) (omega (arith, a.low)))) ∙ z in
    let more : times x (take (i + 1) ranked) ≡ times x (take i ranked) + cond (nat_eq x (get_or ranked i 0)) 1 0 =
    sum_by_more (λ (y : ℕ). cond (nat_eq x y) 1 0) ranked i 0 a.low in
    get_or-set_other ranks (get_or ranked i 0) x i 0 (λ e. apart e none more) ∙ a.ranking.rest x (omega (arith, none, more))
  where
    apart : x ≡ get_or ranked i 0 → times x (take (i + 1) ranked) ≡ 0 →
        times x (take (i + 1) ranked) ≡ times x (take i ranked) + cond (nat_eq x (get_or ranked i 0)) 1 0 → ⊥
    apart e none more =
        let one : ◌≡◌ {A = ℕ} (cond (nat_eq x (get_or ranked i 0)) 1 0) 1 = ap (λ (b : Bool). cond b 1 0) (eq-eqb x (get_or ranked i 0) e) in
        omega (arith, none, more, one)

pub ranking_advances : (lists leading : List (List ℕ)) (i : ℕ) (left left' ranked ranked' ranks : List ℕ) →
    Advances lists leading i left left' ranked ranked' ranks
    → IsRanking lists (i + 1) left' ranked' (set ranks (get_or ranked i 0) i)
ranking_advances lists leading i left left' ranked ranked' ranks a = record {
  within = omega (arith, a.low, a.released.grows);
  long_left = a.released.long ∙ a.ranking.long_left;
  long_ranks = length-set ranks (get_or ranked i 0) i ∙ a.ranking.long_ranks;
  total = omega (arith, a.released.total, a.ranking.total);
  left_is = left_after lists leading i left left' ranked ranked' ranks a;
  once = once_after lists leading i left left' ranked ranked' ranks a;
  after = before_after lists leading i left left' ranked ranked' ranks a;
  ranks_are = ranks_after lists leading i left left' ranked ranked' ranks a;
  rest = rest_after lists leading i left left' ranked ranked' ranks a;
}

-- ---- how it ends

-- a test that does not pass at each fails at one
fails_at_one : (p : ℕ → Bool) (xs : List ℕ) → list_all p xs ≡ false → (x : ℕ) × Contains xs x × (p x ≡ false)
fails_at_one p [] e = cc
fails_at_one p (x ∷ xs) e = ⊎_elim
    (λ t. let rest : list_all p xs ≡ false = ap (λ (b : Bool). b && list_all p xs) (sym t) ∙ e in
    let m = fails_at_one p xs rest in
    (m.0, contains_tail x xs m.0 m.1, m.2))
    (λ f. (x, contains_head x xs, f))
    (cases_Bool (p x))

-- a ranking that is over
pub record IsRanked (lists : List (List ℕ)) (i : ℕ) (left ranked ranks : List ℕ) : Type 0 where
  pub ranking : IsRanking lists i left ranked ranks
  pub over : length ranked ≤ i
  pub range : IsWithin lists

-- a number that is not ranked leads to one that is not
leads_on : (lists : List (List ℕ)) (i : ℕ) (left ranked ranks : List ℕ) → IsRanked lists i left ranked ranks → (x : ℕ) → x < length lists →
    times x ranked ≡ 0
    → (to : ℕ) × Contains (next_in lists x) to × (times to ranked ≡ 0)
leads_on lists i left ranked ranks d x low z =
    let whole : take i ranked ≡ ranked = take_all i ranked d.over in
    let t : nat_lt x (length lists) ≡ true = lt-ltb x (length lists) low in
    let never : ◌≡◌ {A = ℕ} (cond (nat_eq (get_or left x 0) 0) 1 0) 0 = ap (λ (b : Bool). cond (b && nat_eq (get_or left x 0) 0) 1 0) (sym t)
    ∙ sym (d.ranking.once x) ∙ z in
    let some : get_or left x 0 ≡ 0 → ⊥ = λ e. let one : ◌≡◌ {A = ℕ} (cond (nat_eq (get_or left x 0) 0) 1 0) 1 =
    ap (λ (b : Bool). cond b 1 0) (eq-eqb (get_or left x 0) 0 e) in omega (arith, never, one) in
    let count : get_or left x 0 ≡ count_by (λ to. not (has ranked to)) (next_in lists x) = d.ranking.left_is x low
    ∙ ap (λ (xs : List ℕ). count_by (λ to. not (has xs to)) (next_in lists x)) whole in
    let not_all : list_all (has ranked) (next_in lists x) ≡ false = sym (count_none (has ranked) (next_in lists x))
    ∙ ne_eqb (count_by (λ to. not (has ranked to)) (next_in lists x)) 0 (λ e. some (count ∙ e)) in
    let m = fails_at_one (has ranked) (next_in lists x) not_all in
    (m.0, m.1, omega (arith, ltb-false 0 (times m.0 ranked) m.2))

-- its rank does not fall
stays : (lists : List (List ℕ)) (i : ℕ) (left ranked ranks : List ℕ) → IsRanked lists i left ranked ranks → (x : ℕ) → x < length lists →
    times x ranked ≡ 0 → falls_at lists ranks x ≡ false
stays lists i left ranked ranks d x low z =
    let whole : take i ranked ≡ ranked = take_all i ranked d.over in
    let m = leads_on lists i left ranked ranks d x low z in
    let here : get_or ranks x 0 ≡ 0 = d.ranking.rest x (ap (times x) whole ∙ z) in
    let there : get_or ranks m.0 0 ≡ 0 = d.ranking.rest m.0 (ap (times m.0) whole ∙ m.2) in
    let level : nat_lt (get_or ranks m.0 0) (get_or ranks x 0) ≡ false = le-ltb (get_or ranks m.0 0) (get_or ranks x 0) (omega (arith, here, there)) in
    false_from_ne_true (falls_at lists ranks x) (λ h. both_ways (nat_lt (get_or ranks m.0 0) (get_or ranks x 0)) level
    (all_each (λ to. nat_lt (get_or ranks to 0) (get_or ranks x 0)) (next_in lists x) m.0 h m.1))

-- of a ranked number it falls
falls_to : (lists : List (List ℕ)) (i : ℕ) (left ranked ranks : List ℕ) → IsRanked lists i left ranked ranks → (from to : ℕ) →
    Contains ranked from → Contains (next_in lists from) to → get_or ranks to 0 < get_or ranks from 0
falls_to lists i left ranked ranks d from to (k, low, is) c =
    let at : get_or ranked k 0 ≡ from = get_or_default ranked k 0 from low ∙ is in
    let b : Contains (take k ranked) to = d.ranking.after k to low (subst (λ (x : ℕ). Contains (next_in lists x) to) (sym at) c) in
    let long : length (take k ranked) ≡ k = length-take-le k ranked (omega (arith, low)) in
    let less : b.0 < k = omega (arith, b.1, long) in
    let there : get_or ranked b.0 0 ≡ to = sym (get_or-take k ranked b.0 0 less) ∙ get_or_default (take k ranked) b.0 0 to b.1 ∙ b.2 in
    let over : length ranked ≤ i = d.over in
    let own : get_or ranks from 0 ≡ k = ap (λ (x : ℕ). get_or ranks x 0) (sym at) ∙ d.ranking.ranks_are k (omega (arith, low, over)) in
    let other : get_or ranks to 0 ≡ b.0 = ap (λ (x : ℕ). get_or ranks x 0) (sym there) ∙ d.ranking.ranks_are b.0 (omega (arith, less, low, over)) in
    omega (arith, own, other, less)

pub ranking_ends : (lists : List (List ℕ)) (i : ℕ) (left ranked ranks : List ℕ) → IsRanked lists i left ranked ranks → FallButForCycles lists ranks
ranking_ends lists i left ranked ranks d from fails = ⊎_elim (λ z. unranked z) (λ some. absurd (is_ranked some)) (cases_eq (times from ranked) 0)
  where
    m : (to : ℕ) × Contains (next_in lists from) to × (nat_lt (get_or ranks to 0) (get_or ranks from 0) ≡ false)
    m = fails_at_one (λ to. nat_lt (get_or ranks to 0) (get_or ranks from 0)) (next_in lists from) fails

    is_ranked : (times from ranked ≡ 0 → ⊥) → ⊥
    is_ranked some = omega (
      arith,
      falls_to lists i left ranked ranks d from m.0 (some_counted from ranked some) m.1,
      ltb-false (get_or ranks m.0 0)
          (get_or ranks from 0) m.2,
    )

    low : from < length lists
    low = ⊎_elim (λ lt. lt) (λ ge. absurd (contains_none m.0 (subst (λ (xs : List ℕ). Contains xs m.0) (get_or_past lists from [] ge) m.1)))
        (cases_lt from (length lists))

    unranked : times from ranked ≡ 0 → (to : ℕ) × Contains (next_in lists from) to × (falls_at lists ranks to ≡ false)
    unranked z = let n = leads_on lists i left ranked ranks d from low z in (n.0, n.1, stays lists i left ranked ranks d n.0 (d.range from n.0 n.1) n.2)
