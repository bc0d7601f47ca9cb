-- Rows of different numbers have different names, in whatever order they stand.
use Rattle.std.proofs.Common.{◌≡◌, ◌≢◌, ◌<◌, ◌+◌, ℕ, suc, List, [], ◌∷◌, Bool, true, false, refl, ap, sym, subst}
use Rattle.std.proofs.Common.{◌∙◌, length, get_or, arith, Option, Some, None}
use Rattle.std.specs.Prelude.{All, AllPairs, bytes_eq, nat_eq, slice_get}
use Rattle.std.specs.List.{AllByRecursion, IsDistinct, cons_option}
use Rattle.std.specs.List.Sorted.{IsPermutation, IsSortedBy}
use Rattle.std.specs.Ordering.{nat_cmp, is_lt, is_eq, ordering_reverse, ordering_then}
use Rattle.std.specs.Cmp.Lexicographic.{slice_cmp}
use Rattle.std.specs.Option.{option_map}
use Rattle.std.specs.declared.cmp.Ordering.{Ordering}
use Rattle.std.specs.declared.cmp.Ordering.TheVariants.{Less, Equal, Greater}
use Rattle.std.proofs.lemmas.Bool.{both_ways}
use Rattle.std.proofs.lemmas.Bool.Decides.{nat_tests}
use Rattle.std.proofs.lemmas.List.Elements.{All-from_recursion}
use Rattle.std.proofs.lemmas.List.Sorted.{sorted_far, ranks_by}
use Rattle.std.proofs.lemmas.Map.Keys.{IsDistinct-IsPermutation, IsDistinct-from_apart}
use Rattle.std.proofs.lemmas.Map.Text.{is_eq-slice_cmp}
use Rattle.std.proofs.lemmas.Option.{slice_get_within}
use Rattle.rl_names.specs.declared.row.Row.{Row}
use Rattle.rl_view_spec.specs.Closure.{Text, Registered}
use Rattle.rl_view_spec.specs.Progress.{HasDistinctNames}
use Rattle.rl_view_spec.proofs.ChainsLemmas.{same}
use Rattle.rl_view_spec.proofs.PlacesLemmas.{apart, bytes_eq-from, name_there}
use Rattle.rl_book_spec.specs.Batches.{Numbered, is_before, row_cmp, split_cmp, sorted_by}
use Rattle.rl_book_spec.proofs.SortedLemmas.{Ascends, AreApart, sorted_is}
use Rattle.rl_batch.proofs.OrdersLemmas.{before_strict, rows_total}
use Rattle.rl_batch.specs.Given.{numbered_rows}

abbrev pub alike : Numbered → Numbered → Bool
alike a b = bytes_eq a.1.name b.1.name

not_equal : (a b : Text) → (a ≡ b → ⊥) → bytes_eq a b ≡ false
not_equal a b h = step (bytes_eq a b) refl
  where
    step : (t : Bool) → bytes_eq a b ≡ t → t ≡ false
    step false e = refl
    step true e = absurd (h (same a b e))

pub text_flips : (a b : Text) → bytes_eq a b ≡ bytes_eq b a
text_flips a b = step (bytes_eq a b) (bytes_eq b a) refl refl
  where
    step : (s t : Bool) → bytes_eq a b ≡ s → bytes_eq b a ≡ t → s ≡ t
    step true true d e = refl
    step false false d e = refl
    step true false d e = absurd (both_ways (bytes_eq b a) e (bytes_eq-from b a (sym (same a b d))))
    step false true d e = absurd (both_ways (bytes_eq a b) d (bytes_eq-from a b (sym (same b a e))))

pub flips : (a b : Numbered) → alike a b ≡ alike b a
flips a b = text_flips a.1.name b.1.name

other_name : (r : Registered) → HasDistinctNames r → (n m : ℕ) (a b : Row) → slice_get r.rows n ≡ Some a → slice_get r.rows m ≡ Some b
    → nat_eq n m ≡ false → bytes_eq a.name b.name ≡ false
other_name r d n m a b e f h = not_equal a.name b.name (λ s.
    let is = apart r d n m (slice_get_within r.rows n a e) (slice_get_within r.rows m b f) (name_there r n a e ∙ s ∙ sym (name_there r m b f)) in
    absurd (both_ways (nat_eq n m) h (grind (arith, nat_tests, is))))

apart_from : (r : Registered) → HasDistinctNames r → (n : ℕ) (a : Row) → slice_get r.rows n ≡ Some a → (rows : List ℕ)
    → AllByRecursion (λ (m : ℕ). nat_eq n m ≡ false) rows
    → AllByRecursion (λ (y : Numbered). alike (n, a) y ≡ false) (numbered_rows r rows)
apart_from r d n a e [] all = tt
apart_from r d n a e (m ∷ rows) all = step (slice_get r.rows m) refl (apart_from r d n a e rows all.1)
  where
    step : (o : Option Row) → slice_get r.rows m ≡ o → AllByRecursion (λ (y : Numbered). alike (n, a) y ≡ false) (numbered_rows r rows)
        → AllByRecursion (λ (y : Numbered). alike (n, a) y ≡ false) (cons_option (option_map (λ (found : Row). (m, found)) o) (numbered_rows r rows))
    step None f later = later
    step (Some b) f later = (other_name r d n m a b e f all.0, later)

numbered_distinct : (r : Registered) → HasDistinctNames r → (rows : List ℕ) → IsDistinct nat_eq rows → IsDistinct alike (numbered_rows r rows)
unfolding IsDistinct
numbered_distinct r d [] once = tt
numbered_distinct r d (n ∷ rows) once = step (slice_get r.rows n) refl (numbered_distinct r d rows once.1)
  where
    step : (o : Option Row) → slice_get r.rows n ≡ o → IsDistinct alike (numbered_rows r rows)
        → IsDistinct alike (cons_option (option_map (λ (found : Row). (n, found)) o) (numbered_rows r rows))
    step None f later = later
    step (Some a) f later = (apart_from r d n a f rows once.0, later)

-- ---- what differs in name is apart

tied : (o p : Ordering) → ordering_then o p ≡ Equal → p ≡ Equal
tied Less p e = cc
tied Equal p e = e
tied Greater p e = cc

pub one_below : (a b : Numbered) → alike a b ≡ false → is_before b a ≡ false → is_before a b ≡ true
one_below a b h n = step (row_cmp a.1 b.1) refl
  where
    behind : row_cmp a.1 b.1 ≡ Greater → is_before b a ≡ true
    behind e = ap is_lt (rows_total.antisymm b.1 a.1 ∙ ap ordering_reverse e)

    even : row_cmp a.1 b.1 ≡ Equal → alike a b ≡ true
    even e = sym (is_eq-slice_cmp a.1.name b.1.name) ∙ ap is_eq (tied (split_cmp a.1 b.1) (slice_cmp nat_cmp a.1.name b.1.name) e)

    step : (o : Ordering) → row_cmp a.1 b.1 ≡ o → is_lt o ≡ true
    step Less e = refl
    step Equal e = absurd (both_ways (alike a b) h (even e))
    step Greater e = absurd (both_ways (is_before b a) n (behind e))

all_apart : (xs : List Numbered) → IsDistinct alike xs → AreApart is_before xs
unfolding IsDistinct
all_apart [] d = tt
all_apart (x ∷ xs) d = (
  (λ y c n. one_below y x (flips y x ∙ subst (λ (z : Numbered). alike x z ≡ false) c.2
      (All-from_recursion (λ (z : Numbered). alike x z ≡ false) xs d.0 c.0 y c.1)) n),
  all_apart xs d.1,
)

later : {X : Type 0} (lt : X → X → Bool) (y : X) (ys : List X) → IsSortedBy lt (y ∷ ys) → IsSortedBy lt ys
later lt y ys up k e low high =
    let next : suc k + 1 ≡ suc (k + 1) = omega arith in
    subst (λ (j : ℕ). lt (get_or (y ∷ ys) j e) (get_or ys k e) ≡ false) next (up (suc k) e (omega arith) (omega (arith, high)))

ascending : (ys : List Numbered) → IsSortedBy is_before ys → IsDistinct alike ys → Ascends is_before ys
unfolding IsDistinct
ascending [] up d = tt
ascending (y ∷ ys) up d = (
  (λ z c. one_below y z (subst (λ (w : Numbered). alike y w ≡ false) c.2 (All-from_recursion (λ (w : Numbered). alike y w ≡ false) ys d.0 c.0 z c.1))
      (subst (λ (w : Numbered). is_before w y ≡ false) c.2 (sorted_far is_before (ranks_by rows_total (λ (n : Numbered). n.1)) (y ∷ ys) up 0 (suc c.0) z
      (omega arith) (omega (arith, c.1))))),
  ascending ys (later is_before y ys up) d.1,
)

pub sorted_rows : (r : Registered) → HasDistinctNames r → (rows : List ℕ) (ys : List Numbered) → AllPairs (λ a b. a ≢ b) rows
    → IsPermutation (numbered_rows r rows) ys → IsSortedBy is_before ys → ys ≡ sorted_by is_before (numbered_rows r rows)
sorted_rows r d rows ys once moved up =
    let numbers : IsDistinct nat_eq rows = IsDistinct-from_apart nat_eq rows
    (λ i j z below high. number_apart (get_or rows i z) (get_or rows j z) (once i j z below high)) in
    let xs = numbered_distinct r d rows numbers in
    sorted_is is_before before_strict (numbered_rows r rows) ys (all_apart (numbered_rows r rows) xs) moved
    (ascending ys up (IsDistinct-IsPermutation alike flips (numbered_rows r rows) ys moved xs))
  where
    number_apart : (n m : ℕ) → n ≢ m → nat_eq n m ≡ false
    number_apart n m h = grind (arith, nat_tests, h)

pub numbered_there : (r : Registered) (rows : List ℕ) → All (λ (numbered : Numbered). slice_get r.rows numbered.0 ≡ Some numbered.1)
    (numbered_rows r rows)
numbered_there r rows = All-from_recursion (λ (numbered : Numbered). slice_get r.rows numbered.0 ≡ Some numbered.1) (numbered_rows r rows) (go rows)
  where
    step : (n : ℕ) (rows : List ℕ) (o : Option Row) → slice_get r.rows n ≡ o
        → AllByRecursion (λ (numbered : Numbered). slice_get r.rows numbered.0 ≡ Some numbered.1) (numbered_rows r rows)
        → AllByRecursion (λ (numbered : Numbered). slice_get r.rows numbered.0 ≡ Some numbered.1)
        (cons_option (option_map (λ (found : Row). (n, found)) o) (numbered_rows r rows))
    step n rows None f later = later
    step n rows (Some a) f later = (f, later)

    go : (rows : List ℕ) → AllByRecursion (λ (numbered : Numbered). slice_get r.rows numbered.0 ≡ Some numbered.1) (numbered_rows r rows)
    go [] = tt
    go (n ∷ rows) = step n rows (slice_get r.rows n) refl (go rows)

-- ---- through a map

pub sorted_map : {X Y : Type 0} (lt : Y → Y → Bool) (f : X → Y) (map_ : List X → List Y)
    → ((xs : List X) (k : ℕ) (x : X) (y : Y) → k < length xs → get_or (map_ xs) k y ≡ f (get_or xs k x))
    → ((xs : List X) → length (map_ xs) ≡ length xs)
    → (xs : List X) → IsSortedBy (λ a b. lt (f a) (f b)) xs → IsSortedBy lt (map_ xs)
sorted_map lt f map_ at long [] up k d low high = let n = long [] in absurd (omega (arith, n, high))
sorted_map {Y = Y} lt f map_ at long (x ∷ xs) up k d low high =
    let n = long (x ∷ xs) in
    let a = at (x ∷ xs) (k + 1) x d (omega (arith, n, high)) in
    let b = at (x ∷ xs) k x d (omega (arith, n, high)) in
    ap (λ (y : Y). lt y (get_or (map_ (x ∷ xs)) k d)) a ∙ ap (λ (y : Y). lt (f (get_or (x ∷ xs) (k + 1) x)) y) b ∙ up k x low (omega (arith, n, high))
