-- What stores keep: one that keeps nothing is a store, and a key text is that of one name.
use Rattle.std.proofs.Common.{◌≡◌, ℕ, ◌==◌, List, [], ◌∷◌, Some, Bool, true, false, length, take, get_or, ap, ap₂, sym, subst, ◌∙◌, arith, length-append}
use Rattle.std.specs.Prelude.{bytes_eq, find, if◌then◌else◌, slice_get}
use Rattle.std.specs.List.{AllByRecursion, list_all}
use Rattle.std.specs.List.Sorted.{IsStrictlySortedBy}
use Rattle.std.specs.Ordering.{nat_cmp}
use Rattle.std.specs.Cmp.Lexicographic.{slice_cmp}
use Rattle.std.proofs.Math.Seq.{take-append_seam}
use Rattle.std.proofs.lemmas.Bool.{and_parts, eqb-true}
use Rattle.std.proofs.lemmas.Option.{get_or_from_slice_get}
use Rattle.std.proofs.lemmas.Slice.Eq.{bytes_eq-Decides}
use Rattle.rl_names.specs.Name.{is_version, is_version_byte, key_text}
use Rattle.rl_view_spec.specs.Closure.{Text}
use Rattle.rl_view_spec.proofs.ToolsLemmas.{found_place}
use Rattle.rl_book_spec.specs.Closing.{key_bytes}
use Rattle.rl_book_spec.specs.Laws.{IsOfKey}
use Rattle.rl_book_spec.specs.Opening.{part_name}
use Rattle.rl_book_spec.specs.declared.Stored.{Stored}
use Rattle.rl_store.specs.Stock.{keys_of, pair_under, IsStock}

none_ascend : IsStrictlySortedBy (slice_cmp nat_cmp) (keys_of [])
unfolding IsStrictlySortedBy
none_ascend = tt

pub nothing_is_stock : (pairs : List Stored) → pairs ≡ [] → IsStock 0 pairs
nothing_is_stock pairs none = subst (IsStock 0) (sym none) (record { ascend = none_ascend; parts = tt; ordered = tt; age = omega arith; few = omega arith })

-- key texts of two versions are equal only where the names are, since versions are of one length
one_name : (a b v w : Text) → is_version v ≡ true → is_version w ≡ true → key_text a v ≡ key_text b w → a ≡ b
one_name a b v w five other same =
    let first : length v ≡ 5 = eqb-true (length v) 5 (and_parts (length v == 5) (list_all is_version_byte v) five).0 in
    let second : length w ≡ 5 = eqb-true (length w) 5 (and_parts (length w == 5) (list_all is_version_byte w) other).0 in
    let left = length-append a (64 ∷ v) in
    let right = length-append b (64 ∷ w) in
    let whole = ap length same in
    let long : length a ≡ length b = omega (arith, first, second, left, right, whole) in
    sym (take-append_seam a (64 ∷ v)) ∙ ap₂ (λ (n : ℕ) (text : Text). take n text) long same ∙ take-append_seam b (64 ∷ w)

-- what is found among elements that all pass is one that does
all_found : {X : Type 0} (P : X → Type 0) (p : X → Bool) (xs : List X) (x : X) → AllByRecursion P xs → find p xs ≡ Some x → P x
all_found P p [] x all e = cc
all_found P p (y ∷ ys) x all e = step (p y) (all_found P p ys x all.1) e
  where
    step : (b : Bool) → (find p ys ≡ Some x → P x) → (if b then Some y else find p ys) ≡ Some x → P x
    step true rest g = let same : y ≡ x = cc in subst P same all.0
    step false rest g = rest g

-- the pair at the place that was found has a part of that name
pub placed : (pairs : List Stored) (at : ℕ) (here stored : Stored) (name version : Text) → AllByRecursion IsOfKey pairs
    → slice_get pairs at ≡ pair_under (key_text name version) pairs
    → here ≡ get_or pairs at here → is_version version ≡ true → is_version here.key.version ≡ true
    → pair_under (key_text name version) pairs ≡ Some stored → part_name stored.part ≡ name
placed pairs at here stored name version all found is asked kept some =
    let p : Stored → Bool = λ stored. bytes_eq (key_bytes stored.key) (key_text name version) in
    let same : here ≡ stored = is ∙ get_or_from_slice_get pairs at stored here (found ∙ some) in
    let text : key_bytes stored.key ≡ key_text name version =
    (bytes_eq-Decides (key_bytes stored.key) (key_text name version)).0 (found_place p pairs stored some).2 in
    let part : IsOfKey stored = all_found IsOfKey p pairs stored all some in
    ap part_name part.3
    ∙ one_name stored.key.name name stored.key.version version (subst (λ (s : Stored). is_version s.key.version ≡ true) same kept) asked text
