-- What a binary search finds among values whose names ascend.
use Rattle.std.proofs.Common.{◌≡◌, ℕ, zero, suc, ◌+◌, ◌<◌, Bool, true, false, List, [], ◌∷◌, length, get_or, map, Some, None, Result, Ok}
use Rattle.std.proofs.Common.{Err, Ordering, Less, Equal, Greater, nat_cmp, is_eq, refl, ap, sym, subst, ◌∙◌, inl, inr, arith}
use Rattle.std.specs.Prelude.{bytes_eq, option_and_then, slice_get}
use Rattle.std.specs.List.{find, position, position_or_len}
use Rattle.std.specs.List.Sorted.{IsSearchInRange, IsBinarySearchResult, IsNonDecreasingBy, IsPartitionPoint}
use Rattle.std.specs.Cmp.Lexicographic.{slice_cmp}
use Rattle.std.specs.Ordering.{ordering_index, ordering_reverse, is_lt}
use Rattle.std.specs.Result.{result_ok}
use Rattle.std.specs.List.{AllByRecursion}
use Rattle.std.specs.Str.{IsUtf8}
use Rattle.std.proofs.lemmas.Bool.{cases_Bool, cases_lt}
use Rattle.std.proofs.lemmas.Slice.Eq.{bytes_eq-Decides}
use Rattle.std.proofs.lemmas.Bool.Decides.{nat_tests}
use Rattle.std.proofs.lemmas.Cmp.{nat_list_cmp_total, alike_right}
use Rattle.std.proofs.lemmas.Map.Keys.{Less-from_sorted}
use Rattle.std.proofs.lemmas.Map.Text.{is_eq-slice_cmp}
use Rattle.std.proofs.lemmas.List.{get_or-map, length-map}
use Rattle.std.proofs.lemmas.List.Sorted.{searchable_from_sorted}
use Rattle.std.proofs.lemmas.Option.{slice_get_cases}
use Rattle.std.proofs.lemmas.List.Sums.{position_or_len_is}
use Rattle.std.specs.List.Sorted.{IsStrictlySortedBy}

-- what stands at a place, where nothing before it passes
pub find_at : {X : Type 0} (p : X → Bool) (xs : List X) (i : ℕ) (d : X) → i < length xs → ((k : ℕ) → k < i → p (get_or xs k d) ≡ false) →
    p (get_or xs i d) ≡ true → find p xs ≡ slice_get xs i
find_at p [] i d within before here = absurd (omega arith)
find_at p (x ∷ xs) zero d within before here = rw here
find_at p (x ∷ xs) (suc i) d within before here =
    rw (before 0 (omega arith)) (find_at p xs i d (omega arith) (λ k lt. before (suc k) (omega arith)) here)

-- nothing, where nothing passes
abbrev NonePasses : {X : Type 0} → (X → Bool) → List X → Type 0
NonePasses {X} p xs = (k : ℕ) (d : X) → k < length xs → p (get_or xs k d) ≡ false

find_nowhere : {X : Type 0} (p : X → Bool) (xs : List X) → NonePasses p xs → find p xs ≡ None
find_nowhere p [] none = refl
find_nowhere p (x ∷ xs) none = rw (none 0 x (omega arith)) (find_nowhere p xs (λ k d lt. none (suc k) d (omega arith)))

pub position_at : {X : Type 0} (p : X → Bool) (xs : List X) (i : ℕ) (d : X) → i < length xs → ((k : ℕ) → k < i → p (get_or xs k d) ≡ false) →
    p (get_or xs i d) ≡ true → position p xs ≡ Some i
position_at p xs i d within before here =
    let at : position_or_len p xs ≡ i = position_or_len_is p xs i d (omega arith) before (λ _. here) in
    rw at (grind (arith, nat_tests))

position_nowhere : {X : Type 0} (p : X → Bool) (xs : List X) → NonePasses p xs → position p xs ≡ None
position_nowhere p [] none = refl
position_nowhere p (x ∷ xs) none =
    let at : position_or_len p (x ∷ xs) ≡ length (x ∷ xs) =
    position_or_len_is p (x ∷ xs) (length (x ∷ xs)) x (omega arith) (λ k. none k x) (λ lt. absurd (omega arith)) in
    rw at (grind (arith, nat_tests))

-- two names are one where they compare equal
same_from_order : (a b : List ℕ) (o : Ordering) → slice_cmp nat_cmp a b ≡ o → bytes_eq a b ≡ is_eq o
same_from_order a b o is = sym (is_eq-slice_cmp a b) ∙ ap is_eq is

-- what is no text has no place among texts
no_text : {X : Type 0} (name_of : X → List ℕ) (name : List ℕ) (xs : List X) → AllByRecursion IsUtf8 (map name_of xs) → ¬ IsUtf8 name →
    NonePasses (λ x. bytes_eq (name_of x) name) xs
no_text name_of name [] texts bad k d within = absurd (omega arith)
no_text name_of name (x ∷ xs) texts bad zero d within =
    elim (cases_Bool (bytes_eq (name_of x) name)) [
      | inl same ↦ absurd (bad (subst IsUtf8 ((bytes_eq-Decides (name_of x) name).0 same) texts.0))
      | inr other ↦ other
    ]
no_text name_of name (x ∷ xs) texts bad (suc k) d within = no_text name_of name xs texts.1 bad k d (omega arith)

pub no_text_position : {X : Type 0} (name_of : X → List ℕ) (name : List ℕ) (xs : List X) → AllByRecursion IsUtf8 (map name_of xs) → ¬ IsUtf8 name →
    position (λ x. bytes_eq (name_of x) name) xs ≡ None
no_text_position name_of name xs texts bad = position_nowhere _ xs (no_text name_of name xs texts bad)

pub no_text_find : {X : Type 0} (name_of : X → List ℕ) (name : List ℕ) (xs : List X) → AllByRecursion IsUtf8 (map name_of xs) → ¬ IsUtf8 name →
    find (λ x. bytes_eq (name_of x) name) xs ≡ None
no_text_find name_of name xs texts bad = find_nowhere _ xs (no_text name_of name xs texts bad)

module _ {X : Type 0} (name_of : X → List ℕ) (name : List ℕ) (xs : List X) (ascend : IsStrictlySortedBy (slice_cmp nat_cmp) (map name_of xs)) where
  abbrev has_name : X → Bool
  has_name x = bytes_eq (name_of x) name

  abbrev order : X → Ordering
  order x = slice_cmp nat_cmp (name_of x) name

  ascends_at : (i j : ℕ) (d : X) → i < j → j < length xs → slice_cmp nat_cmp (name_of (get_or xs i d)) (name_of (get_or xs j d)) ≡ Less
  ascends_at i j d before within =
      let less = Less-from_sorted (slice_cmp nat_cmp) (map name_of xs) i j [] ascend before (rw (length-map xs name_of) within) in
      rw (get_or-map name_of xs i d [] (omega arith), get_or-map name_of xs j d [] within) at less

  -- the names rise along the list, as a binary search asks
  rises : IsNonDecreasingBy (λ x. ordering_index (order x)) xs
  rises = searchable_from_sorted nat_list_cmp_total name_of xs name (λ k d low high.
      let less = ascends_at k (k + 1) d (omega arith) high in
      ap is_lt (nat_list_cmp_total.antisymm (name_of (get_or xs (k + 1) d)) (name_of (get_or xs k d)) ∙ ap ordering_reverse less))

  -- a name before a place comes before the name at that place
  other_before : (i k : ℕ) (d : X) → k < i → i < length xs → order (get_or xs i d) ≡ Equal → has_name (get_or xs k d) ≡ false
  other_before i k d before within here =
      let alike = alike_right nat_list_cmp_total (name_of (get_or xs i d)) name (name_of (get_or xs k d)) here in
      same_from_order (name_of (get_or xs k d)) name Less (sym alike ∙ ascends_at k i d before within)

  -- a place between the names before and those after is no name's
  apart_nowhere : (i : ℕ) → IsPartitionPoint (λ y. order y ≡ Less) (λ y. order y ≡ Greater) xs i → NonePasses has_name xs
  apart_nowhere i apart k d within =
      elim (cases_lt k i) [
        | inl before ↦ same_from_order (name_of (get_or xs k d)) name Less (apart.0 k d (omega arith) before)
        | inr after ↦ same_from_order (name_of (get_or xs k d)) name Greater (apart.1 k d after within)
      ]

  -- one search tells the place and what stands there
  pub record Searched (r : Result ℕ ℕ) : Type 0 where
    pub place : result_ok r ≡ position has_name xs
    pub found : option_and_then (slice_get xs) (result_ok r) ≡ find has_name xs

  searched_at : (i : ℕ) (d : X) → i < length xs → order (get_or xs i d) ≡ Equal → Searched (Ok i)
  searched_at i d within here = record {
    place = sym (position_at has_name xs i d within (λ k lt. other_before i k d lt within here) (same_from_order (name_of (get_or xs i d)) name Equal here));
    found = sym (find_at has_name xs i d within (λ k lt. other_before i k d lt within here) (same_from_order (name_of (get_or xs i d)) name Equal here));
  }

  pub searched : (r : Result ℕ ℕ) → IsSearchInRange r (length xs) → IsBinarySearchResult order xs r → Searched r
  searched (Ok i) within equal =
      elim (slice_get_cases xs i).1 [
        | inl at ↦ searched_at i at.0 within (equal at.0)
        | inr past ↦ absurd (omega arith)
      ]
  searched (Err i) within apart = record {
    place = sym (position_nowhere has_name xs (apart_nowhere i (apart rises)));
    found = sym (find_nowhere has_name xs (apart_nowhere i (apart rises)));
  }
