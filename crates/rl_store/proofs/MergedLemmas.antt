-- New pairs and those that stay, by key.
use Rattle.std.proofs.Common.{◌≡◌, ℕ, suc, ◌+◌, ◌<◌, ◌≤◌, ◌^◌, Bool, true, false, List, [], ◌∷◌, ◌++◌, length, map}
use Rattle.std.proofs.Common.{get_or, Ordering, Less, Equal, Greater, nat_cmp}
use Rattle.std.proofs.Common.{refl, ap, ap₂, sym, subst, ◌∙◌, arith, length-append}
use Rattle.std.specs.Prelude.{bytes_eq, not, ◌&&◌, ◌||◌, if◌then◌else◌, filter, Contains}
use Rattle.std.specs.List.{AllByRecursion, IsDistinct}
use Rattle.std.specs.List.Sorted.{IsPermutation, IsSortedBy, IsStrictlySortedBy}
use Rattle.std.specs.Ordering.{is_eq, is_lt, ordering_reverse}
use Rattle.std.specs.Cmp.{IsTotalOrder}
use Rattle.std.specs.Cmp.Lexicographic.{slice_cmp}
use Rattle.std.proofs.lemmas.Bool.{both_ways}
use Rattle.std.proofs.lemmas.Cmp.{nat_list_cmp_total, on_total}
use Rattle.std.proofs.lemmas.List.Elements.{All-from_recursion, recursion_from_All, All-append, All-filter}
use Rattle.std.proofs.lemmas.List.Sorted.{sorted_far, ranks_by, All-permutation, length_permutation}
use Rattle.std.proofs.lemmas.Map.Keys.{IsDistinct-IsPermutation}
use Rattle.std.proofs.lemmas.Map.Made.{IsDistinct-from_AllPairs}
use Rattle.std.proofs.lemmas.Map.Text.{is_eq-slice_cmp}
use Rattle.std.proofs.lemmas.Slice.Eq.{bytes_eq-Decides}
use Rattle.rl_view_spec.specs.Closure.{Text, Registered}
use Rattle.rl_view_spec.proofs.ToolsLemmas.{contains_head, contains_tail}
use Rattle.rl_book_spec.specs.Batches.{sorted_by}
use Rattle.rl_book_spec.specs.Closing.{key_bytes, has_key, is_key_of, pairs_after, stored_before}
use Rattle.rl_book_spec.specs.Laws.{IsOfKey}
use Rattle.rl_book_spec.specs.declared.Stored.{Stored}
use Rattle.rl_book_spec.proofs.BatchesLemmas.{sorted_permutes}
use Rattle.rl_book_spec.proofs.SortedLemmas.{Ascends, AreApart, IsStrict, sorted_ascends, sorted_is}
use Rattle.rl_store.specs.Merging.{stays, picked, HaveDistinctKeys}
use Rattle.rl_store.specs.Stock.{keys_of, AreOrdered, IsStock}
use Rattle.rl_store.proofs.MarksLemmas.{flips}
use Rattle.rl_store.proofs.PickedLemmas.{picked_map}
use Rattle.rl_wire.specs.Line.{IsInOrder}

-- ---- the order of pairs

abbrev pub pair_cmp : Stored → Stored → Ordering
pair_cmp a b = slice_cmp nat_cmp (key_bytes a.key) (key_bytes b.key)

abbrev pub alike : Stored → Stored → Bool
alike a b = bytes_eq (key_bytes a.key) (key_bytes b.key)

pub pairs_total : IsTotalOrder pair_cmp
pairs_total = on_total (λ (s : Stored). key_bytes s.key) nat_list_cmp_total

less : (o : Ordering) → is_lt o ≡ true → o ≡ Less
less Less e = refl
less Equal e = cc
less Greater e = cc

before_strict : IsStrict stored_before
before_strict = record {
  irreflexive = λ x. flipped (pair_cmp x x) (pairs_total.antisymm x x);
  transitive = λ x y z a b. ap is_lt (pairs_total.trans x y z (less (pair_cmp x y) a) (less (pair_cmp y z) b));
}
  where
    flipped : (o : Ordering) → o ≡ ordering_reverse o → is_lt o ≡ false
    flipped Less e = cc
    flipped Equal e = refl
    flipped Greater e = refl

one_below : (a b : Stored) → alike a b ≡ false → stored_before b a ≡ false → stored_before a b ≡ true
one_below a b h n = step (pair_cmp a b) refl
  where
    step : (o : Ordering) → pair_cmp a b ≡ o → is_lt o ≡ true
    step Less e = refl
    step Equal e = absurd (both_ways (alike a b) h (sym (is_eq-slice_cmp (key_bytes a.key) (key_bytes b.key)) ∙ ap is_eq e))
    step Greater e = absurd (both_ways (stored_before b a) n (ap is_lt (pairs_total.antisymm b a ∙ ap ordering_reverse e)))

-- ---- distinct keys

of_keys : (x : Stored) (xs : List Stored) → AllByRecursion (λ y. bytes_eq (key_bytes x.key) y ≡ false) (keys_of xs)
    → AllByRecursion (λ y. alike x y ≡ false) xs
of_keys x [] all = tt
of_keys x (y ∷ xs) all = (all.0, of_keys x xs all.1)

pairs_distinct : (xs : List Stored) → IsDistinct bytes_eq (keys_of xs) → IsDistinct alike xs
unfolding IsDistinct
pairs_distinct [] d = tt
pairs_distinct (x ∷ xs) d = (of_keys x xs d.0, pairs_distinct xs d.1)

all_apart : (xs : List Stored) → IsDistinct alike xs → AreApart stored_before xs
unfolding IsDistinct
all_apart [] d = tt
all_apart (x ∷ xs) d = (
  (λ y c n. one_below y x (flips (key_bytes y.key) (key_bytes x.key) ∙ subst (λ (z : Stored). alike x z ≡ false) c.2
      (All-from_recursion (λ (z : Stored). alike x z ≡ false) xs d.0 c.0 y c.1)) n),
  all_apart xs d.1,
)

later : {X : Type 0} (lt : X → X → Bool) (y : X) (ys : List X) → IsSortedBy lt (y ∷ ys) → IsSortedBy lt ys
later lt y ys up k e low high =
    let next : suc k + 1 ≡ suc (k + 1) = omega arith in
    subst (λ (j : ℕ). lt (get_or (y ∷ ys) j e) (get_or ys k e) ≡ false) next (up (suc k) e (omega arith) (omega (arith, high)))

ascending : (ys : List Stored) → IsSortedBy stored_before ys → IsDistinct alike ys → Ascends stored_before ys
unfolding IsDistinct
ascending [] up d = tt
ascending (y ∷ ys) up d = (
  (λ z c. one_below y z (subst (λ (w : Stored). alike y w ≡ false) c.2 (All-from_recursion (λ (w : Stored). alike y w ≡ false) ys d.0 c.0 z c.1))
      (subst (λ (w : Stored). stored_before w y ≡ false) c.2 (sorted_far stored_before (ranks_by pairs_total (λ (s : Stored). s)) (y ∷ ys) up 0 (suc c.0) z
      (omega arith) (omega (arith, c.1))))),
  ascending ys (later stored_before y ys up) d.1,
)

-- what is sorted by key is in the one order that the definition gives
pub sorted_pairs : (xs ys : List Stored) → IsDistinct bytes_eq (keys_of xs) → IsPermutation xs ys → IsSortedBy stored_before ys
    → ys ≡ sorted_by stored_before xs
sorted_pairs xs ys d moved up =
    let once = pairs_distinct xs d in
    sorted_is stored_before before_strict xs ys (all_apart xs once) moved
    (ascending ys up (IsDistinct-IsPermutation alike (λ x y. flips (key_bytes x.key) (key_bytes y.key)) xs ys moved once))

-- ---- the keys of new pairs and of those that stay

less_other : (x : Text) (ks : List Text) → AllByRecursion (λ y. slice_cmp nat_cmp x y ≡ Less) ks → AllByRecursion (λ y. bytes_eq x y ≡ false) ks
less_other x [] all = tt
less_other x (k ∷ ks) all = (sym (is_eq-slice_cmp x k) ∙ ap is_eq all.0, less_other x ks all.1)

ascend_distinct : (ks : List Text) → IsStrictlySortedBy (slice_cmp nat_cmp) ks → IsDistinct bytes_eq ks
unfolding IsDistinct IsStrictlySortedBy
ascend_distinct [] up = tt
ascend_distinct (k ∷ ks) up = (less_other k ks up.0, ascend_distinct ks up.1)

keys_filter : (P : Text → Type 0) (p : Stored → Bool) (xs : List Stored) → AllByRecursion P (keys_of xs) → AllByRecursion P (keys_of (filter p xs))
keys_filter P p [] all = tt
keys_filter P p (x ∷ xs) all = step (p x) (keys_filter P p xs all.1)
  where
    step : (b : Bool) → AllByRecursion P (keys_of (filter p xs)) → AllByRecursion P (keys_of (if b then x ∷ filter p xs else filter p xs))
    step true more = (all.0, more)
    step false more = more

distinct_filter : (p : Stored → Bool) (xs : List Stored) → IsDistinct bytes_eq (keys_of xs) → IsDistinct bytes_eq (keys_of (filter p xs))
unfolding IsDistinct
distinct_filter p [] d = tt
distinct_filter p (x ∷ xs) d = step (p x) (distinct_filter p xs d.1)
  where
    step : (b : Bool) → IsDistinct bytes_eq (keys_of (filter p xs)) → IsDistinct bytes_eq (keys_of (if b then x ∷ filter p xs else filter p xs))
    step true more = (keys_filter (λ y. bytes_eq (key_bytes x.key) y ≡ false) p xs d.0, more)
    step false more = more

abbrev NoneIn : List Stored → List Stored → Type 0
NoneIn fresh kept = AllByRecursion (λ (s : Stored). has_key fresh s.key ≡ false) kept

kept_others : (r : Registered) (fresh older : List Stored) → NoneIn fresh (filter (stays r fresh) older)
kept_others r fresh [] = tt
kept_others r fresh (s ∷ older) = step (is_key_of r s.key) (has_key fresh s.key) refl (kept_others r fresh older)
  where
    step : (a b : Bool) → has_key fresh s.key ≡ b → NoneIn fresh (filter (stays r fresh) older)
        → NoneIn fresh (if a && not b then s ∷ filter (stays r fresh) older else filter (stays r fresh) older)
    step true false e more = (e, more)
    step true true e more = more
    step false b e more = more

or_none : (a b : Bool) → (a || b) ≡ false → (a ≡ false) × (b ≡ false)
or_none true b e = cc
or_none false b e = (refl, e)

head_apart : (x : Stored) (fresh kept : List Stored) → NoneIn (x ∷ fresh) kept → AllByRecursion (λ y. bytes_eq (key_bytes x.key) y ≡ false) (keys_of kept)
head_apart x fresh [] none = tt
head_apart x fresh (s ∷ kept) none = (
  (or_none (bytes_eq (key_bytes x.key) (key_bytes s.key)) (has_key fresh s.key) none.0).0,
  head_apart x fresh kept none.1,
)

tail_none : (x : Stored) (fresh kept : List Stored) → NoneIn (x ∷ fresh) kept → NoneIn fresh kept
tail_none x fresh [] none = tt
tail_none x fresh (s ∷ kept) none = (
  (or_none (bytes_eq (key_bytes x.key) (key_bytes s.key)) (has_key fresh s.key) none.0).1,
  tail_none x fresh kept none.1,
)

keys_append : (P : Text → Type 0) (xs ys : List Stored) → AllByRecursion P (keys_of xs) → AllByRecursion P (keys_of ys)
    → AllByRecursion P (keys_of (xs ++ ys))
keys_append P [] ys a b = b
keys_append P (x ∷ xs) ys a b = (a.0, keys_append P xs ys a.1 b)

join_distinct : (fresh kept : List Stored) → IsDistinct bytes_eq (keys_of fresh) → IsDistinct bytes_eq (keys_of kept) → NoneIn fresh kept
    → IsDistinct bytes_eq (keys_of (fresh ++ kept))
unfolding IsDistinct
join_distinct [] kept d k none = k
join_distinct (x ∷ fresh) kept d k none = (
  keys_append (λ y. bytes_eq (key_bytes x.key) y ≡ false) fresh kept d.0 (head_apart x fresh kept none),
  join_distinct fresh kept d.1 k (tail_none x fresh kept none),
)

pub merged_distinct : (r : Registered) (fresh older : List Stored) → HaveDistinctKeys fresh → IsStrictlySortedBy (slice_cmp nat_cmp) (keys_of older)
    → IsDistinct bytes_eq (keys_of (fresh ++ filter (stays r fresh) older))
merged_distinct r fresh older d up = join_distinct fresh (filter (stays r fresh) older) (IsDistinct-from_AllPairs bytes_eq-Decides (keys_of fresh) d)
    (distinct_filter (stays r fresh) older (ascend_distinct (keys_of older) up)) (kept_others r fresh older)

-- what the marks leave of them
pub merged_pairs : (r : Registered) (fresh older moved : List Stored) (marks : List Bool) → moved ≡ fresh → marks ≡ map (stays r fresh) older
    → moved ++ picked marks older ≡ fresh ++ filter (stays r fresh) older
merged_pairs r fresh older moved marks e f = ap₂ (λ (xs ys : List Stored). xs ++ ys) e
    (ap (λ (ms : List Bool). picked ms older) f ∙ picked_map (stays r fresh) older)

-- ---- they are a store again

each_less : (x : Stored) (ys : List Stored) → ((y : Stored) → Contains ys y → stored_before x y ≡ true)
    → AllByRecursion (λ y. slice_cmp nat_cmp (key_bytes x.key) y ≡ Less) (keys_of ys)
each_less x [] below = tt
each_less x (y ∷ ys) below = (less (pair_cmp x y) (below y (contains_head y ys)), each_less x ys (λ z c. below z (contains_tail y ys z c)))

keys_ascend : (ys : List Stored) → Ascends stored_before ys → IsStrictlySortedBy (slice_cmp nat_cmp) (keys_of ys)
unfolding IsStrictlySortedBy
keys_ascend [] up = tt
keys_ascend (y ∷ ys) up = (each_less y ys up.0, keys_ascend ys up.1)

all_merged : (P : Stored → Type 0) (p : Stored → Bool) (fresh older ys : List Stored) → IsPermutation (fresh ++ filter p older) ys
    → AllByRecursion P fresh → AllByRecursion P older → AllByRecursion P ys
all_merged P p fresh older ys moved a b = recursion_from_All P ys (All-permutation P (fresh ++ filter p older) ys moved
    (All-append P fresh (filter p older) (All-from_recursion P fresh a) (All-filter p P older (All-from_recursion P older b))))

pub merged_stock : (r : Registered) (fresh older ys : List Stored) (before after : ℕ) → HaveDistinctKeys fresh → AllByRecursion IsOfKey fresh
    → AreOrdered fresh → IsStock before older → ys ≡ pairs_after r fresh older → length fresh + length (filter (stays r fresh) older) < 2 ^ 32
    → after ≤ 10 ^ 12 → IsStock after ys
merged_stock r fresh older ys before after d parts ordered stock is few age =
    let xs : List Stored = fresh ++ filter (stays r fresh) older in
    let moved : IsPermutation xs ys = subst (IsPermutation xs) (sym is) (sorted_permutes stored_before xs) in
    let once = pairs_distinct xs (merged_distinct r fresh older d stock.ascend) in
    let n = length_permutation xs ys moved in
    let m = length-append fresh (filter (stays r fresh) older) in
    record {
      ascend = keys_ascend ys (subst (Ascends stored_before) (sym is) (sorted_ascends stored_before before_strict xs (all_apart xs once)));
      parts = all_merged IsOfKey (stays r fresh) fresh older ys moved parts stock.parts;
      ordered = all_merged (λ (s : Stored). IsInOrder s.part) (stays r fresh) fresh older ys moved ordered stock.ordered;
      age = age;
      few = omega (arith, n, m, few);
    }
