-- Packed names and versions are ASCII.
use Rattle.std.proofs.Common.{◌≡◌, ℕ, zero, suc, ◌+◌, ◌-◌, ◌/◌, ◌%◌, ◌<◌, Bool, true, false, cond, ◌||◌, List, [], ◌∷◌, ◌++◌, map, take, length, replicate}
use Rattle.std.proofs.Common.{refl, sym, subst, arith, nat_le, nat_lt, IsUtf8}
use Rattle.std.specs.Prelude.{if◌then◌else◌, ◌==◌, filter}
use Rattle.std.specs.List.{AllByRecursion, list_any}
use Rattle.std.specs.Fmt.{digit_glyph, digits, digits_onto}
use Rattle.std.specs.Str.{IsAscii}
use Rattle.std.proofs.lemmas.Bool.{or_from}
use Rattle.std.proofs.lemmas.Bool.Decides.{nat_tests}
use Rattle.std.proofs.lemmas.Str.{IsUtf8-from_ascii}
use Rattle.std.proofs.lemmas.Str.Ascii.{IsAscii-cons, IsAscii-nil}
use Rattle.rl_names.specs.Hash.{base_36, padded, version_of_hash}
use Rattle.rl_names.specs.Packing.{front_of, fronts, group_of, group_text, is_dot, pack, suffix_of}
use Rattle.rl_names.proofs.CutLemmas.{cut}
use Rattle.rl_names.proofs.PackingLemmas.{distinct_kept, join_none}

abbrev high : ℕ → Bool
high b = nat_le 128 b

-- no byte is above ASCII
abbrev pub IsLow : List ℕ → Type 0
IsLow text = list_any high text ≡ false

or_parts : (a b : Bool) → (a || b) ≡ false → (a ≡ false) × (b ≡ false)
or_parts true b h = absurd (cc)
or_parts false b h = (refl, h)

low_ascii : (text : List ℕ) → IsLow text → IsAscii text
low_ascii [] h = IsAscii-nil
low_ascii (b ∷ bs) h =
    let parts = or_parts (high b) (list_any high bs) h in
    let small : b < 128 = grind (arith, nat_tests, parts.0) in
    IsAscii-cons b bs small (low_ascii bs parts.1)

pub low_utf8 : (text : List ℕ) → IsLow text → IsUtf8 text
low_utf8 text h = IsUtf8-from_ascii text (low_ascii text h)

low_append : (xs ys : List ℕ) → IsLow xs → IsLow ys → IsLow (xs ++ ys)
low_append [] ys h k = k
low_append (x ∷ xs) ys h k =
    let parts = or_parts (high x) (list_any high xs) h in or_from (high x) (list_any high (xs ++ ys)) parts.0 (low_append xs ys parts.1 k)

low_parts : (xs ys : List ℕ) → IsLow (xs ++ ys) → IsLow xs × IsLow ys
low_parts [] ys h = (refl, h)
low_parts (x ∷ xs) ys h =
    let parts = or_parts (high x) (list_any high (xs ++ ys)) h in
    let later = low_parts xs ys parts.1 in
    (or_from (high x) (list_any high xs) parts.0 later.0, later.1)

low_take : (n : ℕ) (xs : List ℕ) → IsLow xs → IsLow (take n xs)
low_take zero [] h = refl
low_take zero (x ∷ xs) h = refl
low_take (suc n) [] h = refl
low_take (suc n) (x ∷ xs) h =
    let parts = or_parts (high x) (list_any high xs) h in or_from (high x) (list_any high (take n xs)) parts.0 (low_take n xs parts.1)

low_zeros : (n : ℕ) → IsLow (replicate n 48)
low_zeros zero = refl
low_zeros (suc n) = low_zeros n

-- ---- versions

low_glyph : (n : ℕ) → high (digit_glyph false (n % 36)) ≡ false
low_glyph n =
    let below : n % 36 < 36 = omega arith in
    step (nat_lt (n % 36) 10) below
  where
    step : (b : Bool) → n % 36 < 36 → high (if b then 48 + n % 36 else 87 + n % 36) ≡ false
    step true below = grind (arith, nat_tests, below)
    step false below = grind (arith, nat_tests, below)

low_digits : (k n : ℕ) (acc : List ℕ) → IsLow acc → IsLow (digits_onto k 36 false n acc)
low_digits zero n acc h = h
low_digits (suc k) n acc h =
    let first : IsLow (digit_glyph false (n % 36) ∷ acc) = or_from (high (digit_glyph false (n % 36))) (list_any high acc) (low_glyph n) h in
    step first (low_digits k (n / 36) (digit_glyph false (n % 36) ∷ acc) first) (n / 36 == 0)
  where
    step : IsLow (digit_glyph false (n % 36) ∷ acc) → IsLow (digits_onto k 36 false (n / 36) (digit_glyph false (n % 36) ∷ acc)) → (b : Bool)
        → IsLow (if b then digit_glyph false (n % 36) ∷ acc else digits_onto k 36 false (n / 36) (digit_glyph false (n % 36) ∷ acc))
    step first later true = first
    step first later false = later

pub low_version : (n : ℕ) → IsLow (version_of_hash n)
unfolding version_of_hash digits
low_version n =
    low_take 5 (padded 5 (base_36 n))
    (low_append (replicate (5 - length (base_36 n)) 48) (base_36 n) (low_zeros (5 - length (base_36 n))) (low_digits 64 n [] refl))

-- ---- names

pub low_name : (name : List ℕ) → IsAscii name → IsLow name
low_name [] h = refl
low_name (b ∷ bs) h =
    let first : b < 128 = h 0 in
    let small : high b ≡ false = grind (arith, nat_tests, first) in
    or_from (high b) (list_any high bs) small (low_name bs (λ i. h (suc i)))

low_front : (name : List ℕ) → IsLow name → IsLow (front_of name)
low_front name h = (low_parts (front_of name) (suffix_of name) (subst IsLow (sym (cut is_dot name)) h)).0

low_suffix : (name : List ℕ) → IsLow name → IsLow (suffix_of name)
low_suffix name h = (low_parts (front_of name) (suffix_of name) (subst IsLow (sym (cut is_dot name)) h)).1

abbrev pub AreLow : List (List ℕ) → Type 0
AreLow texts = AllByRecursion IsLow texts

low_map : (f : List ℕ → List ℕ) (names : List (List ℕ)) → ((name : List ℕ) → IsLow name → IsLow (f name)) → AreLow names → AreLow (map f names)
low_map f [] to h = tt
low_map f (name ∷ names) to h = (to name h.0, low_map f names to h.1)

low_filter : (p : List ℕ → Bool) (names : List (List ℕ)) → AreLow names → AreLow (filter p names)
low_filter p [] h = tt
low_filter p (name ∷ names) h = step (low_filter p names h.1) (p name)
  where
    step : AreLow (filter p names) → (b : Bool) → AreLow (cond b (name ∷ filter p names) (filter p names))
    step rest true = (h.0, rest)
    step rest false = rest

low_group : (names : List (List ℕ)) → AreLow names → (front : List ℕ) → IsLow front → IsLow (group_text names front)
low_group names h front k =
    low_append front _ k (join_none high 44 (map suffix_of (group_of names front)) refl
    (low_map suffix_of (group_of names front) low_suffix (low_filter _ names h)))

pub low_pack : (names : List (List ℕ)) → AreLow names → IsLow (pack names)
low_pack names h =
    join_none high 124 (map (group_text names) (fronts names)) refl
    (low_map (group_text names) (fronts names) (low_group names h) (distinct_kept IsLow (map front_of names) (low_map front_of names low_front h)))
