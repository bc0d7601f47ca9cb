-- What the order of an index says of the rows.
use Rattle.std.proofs.Common.{◌≡◌, ℕ, zero, suc, ◌+◌, ◌<◌, ◌≤◌, List, [], ◌∷◌, ◌++◌, Bool, true, false, cond, nat_eq, length}
use Rattle.std.proofs.Common.{get_or, Option, Some, None, refl, ap, sym, subst, ◌∙◌, ⊎_elim, arith}
use Rattle.std.specs.Prelude.{bytes_eq, All, Contains, position}
use Rattle.std.specs.List.{list_any, range_with_len, IsDistinct}
use Rattle.std.specs.List.Sorted.{IsNonDecreasingBy, IsPartitionPoint}
use Rattle.std.specs.Option.{option_map_or}
use Rattle.std.specs.Ordering.{nat_cmp, is_lt, is_eq, ordering_index}
use Rattle.std.specs.declared.cmp.Ordering.TheVariants.{Less, Equal, Greater}
use Rattle.std.specs.Cmp.Lexicographic.{slice_cmp}
use Rattle.std.proofs.lemmas.Bool.{cases_lt, cases_order, both_ways}
use Rattle.std.proofs.lemmas.Bool.Decides.{nat_tests}
use Rattle.std.proofs.lemmas.Cmp.{nat_list_cmp_total, tied_itself}
use Rattle.std.proofs.lemmas.Grind.{get_or_default_zero}
use Rattle.std.proofs.lemmas.List.FromFn.{length-range_with_len, get_or-range_with_len}
use Rattle.std.proofs.lemmas.List.Elements.{Contains-get_or}
use Rattle.std.proofs.lemmas.List.Sorted.{All-permutation, Contains-permutation, ranks_by, sorted_far, searchable_from_sorted}
use Rattle.std.proofs.lemmas.Map.Keys.{apart_from_distinct, IsDistinct-from_apart, IsDistinct-IsPermutation}
use Rattle.std.proofs.lemmas.Map.Text.{is_eq-slice_cmp}
use Rattle.std.proofs.lemmas.Option.{slice_get-get_or}
use Rattle.rl_names.specs.declared.row.Row.{Row}
use Rattle.rl_view_spec.specs.Breach.{repeated}
use Rattle.rl_view_spec.specs.Closure.{Text, Registered, least}
use Rattle.rl_view_spec.proofs.ChainsLemmas.{same}
use Rattle.rl_view_spec.proofs.PlacesLemmas.{bytes_eq-from}
use Rattle.rl_view_spec.specs.Numbers.{number_of}
use Rattle.rl_view_spec.proofs.ToolsLemmas.{one_any, any_one, contains_head, contains_tail, contains_cases, contains_none}
use Rattle.rl_view_spec.specs.Progress.{name_at}
use Rattle.rl_rows.specs.Index.{name_in, AreDistinct, IsIndex}
use Rattle.rl_rows.specs.Index.{IsLeastRow}
use Rattle.rl_rows.proofs.EdgesLemmas.{blank, number_is, number_named}
use Rattle.rl_view_spec.proofs.LeastLemmas.{cmp, least_is_least, alike_from_not_below}

-- ---- the numbers

pub range_push : (a n : ℕ) → range_with_len a (suc n) ≡ range_with_len a n ++ (a + n) ∷ []
range_push a zero = ap (λ (k : ℕ). k ∷ []) (omega arith)
range_push a (suc n) =
    let on : a + 1 + n ≡ a + suc n = omega arith in
    ap (λ (ks : List ℕ). a ∷ ks) (range_push (a + 1) n ∙ ap (λ (k : ℕ). range_with_len (a + 1) n ++ k ∷ []) on)

range_has : (n k : ℕ) → k < n → Contains (range_with_len 0 n) k
range_has n k low = (k, omega (arith, low, length-range_with_len 0 n), get_or-range_with_len 0 n k k low ∙ omega arith)

range_within : (n : ℕ) → All (λ k. k < n) (range_with_len 0 n)
range_within n = λ i d low. omega (arith, low, length-range_with_len 0 n, get_or-range_with_len 0 n i d (omega (arith, low, length-range_with_len 0 n)))

range_apart : (n : ℕ) → IsDistinct nat_eq (range_with_len 0 n)
range_apart n = IsDistinct-from_apart nat_eq (range_with_len 0 n) (λ i j d below high.
    let fits : j < n = omega (arith, high, length-range_with_len 0 n) in
    let a : get_or (range_with_len 0 n) i d ≡ 0 + i = get_or-range_with_len 0 n i d (omega arith) in
    let b : get_or (range_with_len 0 n) j d ≡ 0 + j = get_or-range_with_len 0 n j d fits in
    rw (a, b) (grind (arith, nat_tests, below)))

pub index_has : (rows : List Row) (order : List ℕ) (k : ℕ) → IsIndex rows order → k < length rows → Contains order k
index_has rows order k i low = Contains-permutation (range_with_len 0 (length rows)) order k i.shuffled (range_has (length rows) k low)

pub index_within : (rows : List Row) (order : List ℕ) (at : ℕ) (d : ℕ) → IsIndex rows order → at < length order → get_or order at d < length rows
index_within rows order at d i low = All-permutation (λ k. k < length rows) (range_with_len 0 (length rows)) order i.shuffled (range_within (length rows)) at d
    low

index_apart : (rows : List Row) (order : List ℕ) (a b : ℕ) → IsIndex rows order → a < b → b < length order →
    get_or order a 0 ≡ get_or order b 0 → ⊥
index_apart rows order a b i below high e =
    let once : IsDistinct nat_eq order = IsDistinct-IsPermutation nat_eq (λ x y. grind (arith, nat_tests)) (range_with_len 0 (length rows)) order i.shuffled
    (range_apart (length rows)) in
    both_ways (nat_eq (get_or order a 0) (get_or order b 0)) (apart_from_distinct nat_eq order a b 0 once below high) (grind (arith, nat_tests, e))

-- ---- names that stand twice

-- two rows of one name
pub record Twice (rows : List Row) (m : Text) : Type 0 where
  pub first : ℕ
  pub later : ℕ
  pub below : first < later
  pub high : later < length rows
  pub is_first : name_in rows first ≡ m
  pub is_later : name_in rows later ≡ m

pub named_at : (rows : List Row) (k : ℕ) (d : Row) → k < length rows → name_in rows k ≡ (get_or rows k d).name
named_at rows k d low = ap (λ (o : Option Row). option_map_or (λ found. found.name) o []) (slice_get-get_or rows k d low)

pub twice_from : (rows : List Row) (m : Text) → Contains (repeated rows) m → Twice rows m
twice_from [] m c = absurd (contains_none m c)
twice_from (row ∷ rows) m c = step (λ d. twice_from rows m d) (list_any (λ (other : Row). bytes_eq other.name row.name) rows) refl c
  where
    shifted : Twice rows m → Twice (row ∷ rows) m
    shifted t = record {
      first = suc t.first;
      later = suc t.later;
      below = omega (arith, t.below);
      high = omega (arith, t.high);
      is_first =
          t.is_first;
      is_later = t.is_later;
    }

    here : list_any (λ (other : Row). bytes_eq other.name row.name) rows ≡ true → row.name ≡ m → Twice (row ∷ rows) m
    here e is =
        let a = any_one (λ (other : Row). bytes_eq other.name row.name) rows e in
        let p = a.1 in
        record {
          first = 0;
          later = suc p.0;
          below = omega arith;
          high = omega (arith, p.1);
          is_first = is;
          is_later = named_at rows p.0 a.0 p.1 ∙ ap (λ (r : Row). r.name) p.2 ∙ same a.0.name row.name a.2 ∙ is;
        }

    step : (Contains (repeated rows) m → Twice rows m) → (b : Bool) → list_any (λ (other : Row). bytes_eq other.name row.name) rows ≡ b →
        Contains (cond b (row.name ∷ repeated rows) (repeated rows)) m → Twice (row ∷ rows) m
    step rest true e c = ⊎_elim (λ is. here e is) (λ t. shifted (rest t)) (contains_cases row.name (repeated rows) m c)
    step rest false e c = shifted (rest c)

pub two_repeat : (rows : List Row) (j k : ℕ) → j < k → k < length rows → name_in rows j ≡ name_in rows k → Contains (repeated rows) (name_in rows j)
two_repeat [] j k below high e = absurd (omega (arith, high))
two_repeat (row ∷ rows) j zero below high e = absurd (omega (arith, below))
two_repeat (row ∷ rows) zero (suc k) below high e =
    let low : k < length rows = omega (arith, high) in
    let any : list_any (λ (other : Row). bytes_eq other.name row.name) rows ≡ true =
    one_any (λ (other : Row). bytes_eq other.name row.name) rows (get_or rows k blank) (Contains-get_or rows k blank low)
    (bytes_eq-from (get_or rows k blank).name row.name (sym (e ∙ named_at rows k blank low))) in
    subst (λ (b : Bool). Contains (cond b (row.name ∷ repeated rows) (repeated rows)) row.name) (sym any) (contains_head row.name (repeated rows))
two_repeat (row ∷ rows) (suc j) (suc k) below high e =
    step (list_any (λ (other : Row). bytes_eq other.name row.name) rows) (two_repeat rows j k (omega (arith, below)) (omega (arith, high)) e)
  where
    step : (b : Bool) → Contains (repeated rows) (name_in rows j) → Contains (cond b (row.name ∷ repeated rows) (repeated rows)) (name_in rows j)
    step true c = contains_tail row.name (repeated rows) (name_in rows j) c
    step false c = c

-- ---- neighbours

abbrev named : List Row → List ℕ → ℕ → Text
named rows order at = name_in rows (get_or order at 0)

rises : (rows : List Row) (order : List ℕ) (a b : ℕ) → IsIndex rows order → a ≤ b → b < length order →
    is_lt (cmp (named rows order b) (named rows order a)) ≡ false
rises rows order a b i le high = sorted_far (λ x y. is_lt (cmp (name_in rows x) (name_in rows y))) (ranks_by nat_list_cmp_total (name_in rows)) order i.sorted
    a b 0 le high

-- what stands between two equal names is equal to them
between : (rows : List Row) (order : List ℕ) (a b : ℕ) (m : Text) → IsIndex rows order → a < b → b < length order → named rows order a ≡ m →
    named rows order b ≡ m → named rows order (suc a) ≡ m
between rows order a b m i below high e f =
    alike_from_not_below (named rows order (suc a)) m
    (subst (λ (x : Text). is_lt (cmp (named rows order (suc a)) x) ≡ false) e (rises rows order a (suc a) i (omega arith) (omega arith)))
    (subst (λ (x : Text). is_lt (cmp x (named rows order (suc a))) ≡ false) f (rises rows order (suc a) b i (omega arith) high))

-- neighbours of one name
record Neighbours (rows : List Row) (order : List ℕ) (m : Text) : Type 0 where
  at : ℕ
  high : suc at < length order
  is : named rows order at ≡ m
  next : named rows order (suc at) ≡ m

neighbours : (rows : List Row) (order : List ℕ) (m : Text) → IsIndex rows order → Twice rows m → Neighbours rows order m
neighbours rows order m i t =
    ⊎_elim
    (λ s. absurd (omega (arith, t.below, sym pa ∙ ap (λ (k : ℕ). get_or order k 0) s ∙ pb)))
    (λ o. ⊎_elim
    (λ lt. from a.0 b.0 lt b.1 (named_there a.0 t.first pa t.is_first) (named_there b.0 t.later pb t.is_later))
    (λ lt. from b.0 a.0 lt a.1 (named_there b.0 t.later pb t.is_later) (named_there a.0 t.first pa t.is_first)) o)
    (cases_order a.0 b.0)
  where
    a : Contains order t.first
    a = index_has rows order t.first i (omega (arith, t.below, t.high))

    b : Contains order t.later
    b = index_has rows order t.later i t.high

    pa : get_or order a.0 0 ≡ t.first
    pa = sym (get_or_default_zero order a.0 t.first a.1) ∙ a.2

    pb : get_or order b.0 0 ≡ t.later
    pb = sym (get_or_default_zero order b.0 t.later b.1) ∙ b.2

    named_there : (p k : ℕ) → get_or order p 0 ≡ k → name_in rows k ≡ m → named rows order p ≡ m
    named_there p k e f = ap (name_in rows) e ∙ f

    from : (p q : ℕ) → p < q → q < length order → named rows order p ≡ m → named rows order q ≡ m → Neighbours rows order m
    from p q lt high e f = record { at = p; high = omega (arith, lt, high); is = e; next = between rows order p q m i lt high e f }

-- the first two neighbours of one name have the least name that stands twice
pub repeat_least : (rows : List Row) (order : List ℕ) (at : ℕ) → IsIndex rows order → suc at < length order →
    named rows order at ≡ named rows order (suc at)
    → ((k : ℕ) → suc k < suc at → named rows order k ≡ named rows order (suc k) → ⊥) → least (repeated rows) ≡ Some (named rows order at)
repeat_least rows order at i high e none = least_is_least (repeated rows) (named rows order at) (record { holds = twice; below = below })
  where
    twice : Contains (repeated rows) (named rows order at)
    twice = ⊎_elim
        (λ s. absurd (index_apart rows order at (suc at) i (omega arith) high s))
        (λ o. ⊎_elim
        (λ lt. two_repeat rows (get_or order at 0) (get_or order (suc at) 0) lt (index_within rows order (suc at) 0 i high) e)
        (λ lt. subst (λ (x : Text). Contains (repeated rows) x) (sym e)
        (two_repeat rows (get_or order (suc at) 0) (get_or order at 0) lt (index_within rows order at 0 i (omega (arith, high))) (sym e))) o)
        (cases_order (get_or order at 0) (get_or order (suc at) 0))

    below : (m : Text) → Contains (repeated rows) m → is_lt (cmp m (named rows order at)) ≡ false
    below m c =
        let n : Neighbours rows order m = neighbours rows order m i (twice_from rows m c) in
        let le : at ≤ n.at = ⊎_elim (λ lt. absurd (none n.at (omega arith) (n.is ∙ sym n.next))) (λ le. le) (cases_lt n.at at) in
        subst (λ (x : Text). is_lt (cmp x (named rows order at)) ≡ false) n.is (rises rows order at n.at i le (omega (arith, n.high)))

pub repeat_found : (rows : List Row) (order : List ℕ) (at next : ℕ) → suc at ≡ next → IsIndex rows order → next < length order →
    named rows order at ≡ named rows order next
    → ((k : ℕ) → suc k < next → named rows order k ≡ named rows order (suc k) → ⊥) → least (repeated rows) ≡ Some (named rows order next)
repeat_found rows order at next s i high e none =
    let f : named rows order at ≡ named rows order (suc at) = e ∙ ap (named rows order) (sym s) in
    repeat_least rows order at i (omega arith) f (λ k h. none k (omega (arith, h, s))) ∙ ap (λ (x : Text). Some x) e

pub repeat_none : (rows : List Row) (order : List ℕ) → IsIndex rows order →
    ((k : ℕ) → suc k < length order → named rows order k ≡ named rows order (suc k) → ⊥) → least (repeated rows) ≡ None
repeat_none rows order i none = step (repeated rows) refl
  where
    step : (ms : List Text) → repeated rows ≡ ms → least (repeated rows) ≡ None
    step [] e = ap least e
    step (m ∷ ms) e =
        let n : Neighbours rows order m = neighbours rows order m i
        (twice_from rows m (subst (λ (xs : List Text). Contains xs m) (sym e) (contains_head m ms))) in
        absurd (none n.at n.high (n.is ∙ sym n.next))

-- ---- a name that is looked up

pub found_named : (rows : List Row) (order : List ℕ) (name : Text) (at : ℕ) → IsIndex rows order → AreDistinct rows → at < length order →
    slice_cmp nat_cmp (named rows order at) name ≡ Equal
    → Some (get_or order at 0) ≡ position (λ row. bytes_eq row.name name) rows
found_named rows order name at i distinct low e =
    let r : Registered = record { rows = rows; features = [] } in
    let is : named rows order at ≡ name = same (named rows order at) name (sym (is_eq-slice_cmp (named rows order at) name) ∙ ap is_eq e) in
    sym (ap (number_of r) (sym is) ∙ number_is r (get_or order at 0) distinct (index_within rows order at 0 i low))

not_equal : (a b : Text) → slice_cmp nat_cmp a b ≡ Equal → slice_cmp nat_cmp a b ≡ Less → ⊥
not_equal a b e f = let no : Equal ≡ Less = sym e ∙ f in cc

not_equal_either : (a b : Text) → slice_cmp nat_cmp a b ≡ Equal → slice_cmp nat_cmp a b ≡ Greater → ⊥
not_equal_either a b e f = let no : Equal ≡ Greater = sym e ∙ f in cc

pub found_nowhere : (rows : List Row) (order : List ℕ) (name : Text) (at : ℕ) → IsIndex rows order
    → (IsNonDecreasingBy (λ row. ordering_index (slice_cmp nat_cmp (name_in rows row) name)) order
    → IsPartitionPoint (λ row. slice_cmp nat_cmp (name_in rows row) name ≡ Less) (λ row. slice_cmp nat_cmp (name_in rows row) name ≡ Greater) order at)
    → None ≡ position (λ row. bytes_eq row.name name) rows
found_nowhere rows order name at i parted = step (number_of r name) refl
  where
    r : Registered
    r = record { rows = rows; features = [] }

    step : (o : Option ℕ) → number_of r name ≡ o → None ≡ number_of r name
    step None e = sym e
    step (Some k) e =
        let n = number_named r name k e in
        let c : Contains order k = index_has rows order k i n.0 in
        let is : get_or order c.0 k ≡ k = c.2 in
        let parts = parted (searchable_from_sorted nat_list_cmp_total (name_in rows) order name i.sorted) in
        let equal : slice_cmp nat_cmp (name_in rows k) name ≡ Equal = ap (λ (x : Text). slice_cmp nat_cmp x name) n.1
        ∙ tied_itself nat_list_cmp_total name in
        absurd (⊎_elim
        (λ lt. not_equal (name_in rows k) name equal (subst (λ (x : ℕ). slice_cmp nat_cmp (name_in rows x) name ≡ Less) is
        (parts.0 c.0 k (omega arith) lt)))
        (λ le. not_equal_either (name_in rows k) name equal
        (subst (λ (x : ℕ). slice_cmp nat_cmp (name_in rows x) name ≡ Greater) is (parts.1 c.0 k le c.1)))
        (cases_lt c.0 at))

-- ---- the first row of the order that passes a test

pub least_row : (r : Registered) (order : List ℕ) (test : ℕ → Bool) (at : ℕ) → IsIndex r.rows order → at < length order →
    ((k : ℕ) → k < at → test (get_or order k 0) ≡ false) → test (get_or order at 0) ≡ true
    → IsLeastRow r test (Some (get_or order at 0))
least_row r order test at i low none passes = (index_within r.rows order at 0 i low, passes, below)
  where
    below : (k : ℕ) → k < length r.rows → test k ≡ true → is_lt (cmp (name_at r k) (named r.rows order at)) ≡ false
    below k inside h =
        let p : Contains order k = index_has r.rows order k i inside in
        let is : get_or order p.0 0 ≡ k = sym (get_or_default_zero order p.0 k p.1) ∙ p.2 in
        let le : at ≤ p.0 = ⊎_elim (λ lt. absurd (both_ways (test (get_or order p.0 0)) (none p.0 lt) (ap test is ∙ h))) (λ le. le) (cases_lt p.0 at) in
        subst (λ (j : ℕ). is_lt (cmp (name_at r j) (named r.rows order at)) ≡ false) is (rises r.rows order at p.0 i le p.1)

pub no_row : (r : Registered) (order : List ℕ) (test : ℕ → Bool) → IsIndex r.rows order →
    ((k : ℕ) → k < length order → test (get_or order k 0) ≡ false) → IsLeastRow r test None
no_row r order test i none = λ k inside.
    let p : Contains order k = index_has r.rows order k i inside in
    ap test (sym (sym (get_or_default_zero order p.0 k p.1) ∙ p.2)) ∙ none p.0 p.1
