-- What JSON without numbers is written: UTF-8, and no line end.
use Rattle.std.proofs.Common.{◌≡◌, ℕ, zero, suc, ◌+◌, ◌%◌, ◌^◌, ◌<◌, ◌≤◌, decimal, Bool, true, false, ◌&&◌, not, List, []}
use Rattle.std.proofs.Common.{◌∷◌, ◌++◌, IsUtf8, inl, inr, refl, arith}
use Rattle.std.specs.Prelude.{⊤}
use Rattle.std.specs.List.{AllByRecursion, list_all}
use Rattle.std.proofs.lemmas.Bool.{and_from, and_parts, cases_lt, cases_eq}
use Rattle.std.proofs.lemmas.Bool.Decides.{nat_tests}
use Rattle.std.proofs.lemmas.Str.{IsUtf8-append, IsUtf8-nil, IsUtf8-from_ascii}
use Rattle.std.proofs.lemmas.Fmt.{decimal_by_steps, IsAscii-decimal}
use Rattle.json.specs.Print.{escape_byte, escape, quoted}
use Rattle.json.proofs.Printed.Strings.{escape_byte_plain}
use Rattle.json.proofs.Printed.Utf8.{IsUtf8-are_ascii, IsUtf8-quoted}
use Rattle.serde_json.specs.Data.{unsigned, negative, float, Data, null, boolean, number, string, array, object, Items, no_items, item, Members, no_members}
use Rattle.serde_json.specs.Data.{member}
use Rattle.serde_json.specs.Written.{compact_text, items_text, members_text, comma_if}
use Rattle.rl_wire.specs.Line.{arguments_text}
use Rattle.rl_wire.specs.Arguments.{is_line_end}

abbrev pub no_end : List ℕ → Bool
no_end bytes = list_all (λ b. not (is_line_end b)) bytes

pub no_end-append : (xs ys : List ℕ) → no_end xs ≡ true → no_end ys ≡ true → no_end (xs ++ ys) ≡ true
no_end-append [] ys a b = b
no_end-append (x ∷ xs) ys a b = let p = and_parts _ _ a in and_from _ _ p.0 (no_end-append xs ys p.1 b)

-- ---- escapes

abbrev escapes_below : ℕ → Bool
escapes_below zero = true
escapes_below (suc n) = no_end (escape_byte n) && escapes_below n

escape_below : (n : ℕ) → escapes_below n ≡ true → (x : ℕ) → x < n → no_end (escape_byte x) ≡ true
escape_below zero e x h = absurd (omega arith)
escape_below (suc n) e x h =
    let p = and_parts _ _ e in
    elim (cases_eq x n) [ inl same ↦ rw same p.0 | inr other ↦ escape_below n p.1 x (omega arith) ]

all_below : escapes_below 128 ≡ true
unfolding escape_byte
all_below = refl

plain_byte : (x : ℕ) → 128 ≤ x → no_end (x ∷ []) ≡ true
plain_byte x high = grind (arith, nat_tests)

escaped_byte : (x : ℕ) → no_end (escape_byte x) ≡ true
escaped_byte x = elim (cases_lt x 128) [
  | inl small ↦ escape_below 128 all_below x small
  | inr high ↦ rw (escape_byte_plain x (λ e. omega arith) (λ e. omega arith) (omega arith)) (plain_byte x high)
]

escaped : (s : List ℕ) → no_end (escape s) ≡ true
escaped [] = refl
escaped (x ∷ xs) = no_end-append (escape_byte x) (escape xs) (escaped_byte x) (escaped xs)

pub no_end-quoted : (s : List ℕ) → no_end (quoted s) ≡ true
no_end-quoted s = no_end-append (escape s) (34 ∷ []) (escaped s) refl

-- ---- digits

no_end-decimal : (n : ℕ) → n < 2 ^ 64 → no_end (decimal n) ≡ true
no_end-decimal n h =
    decimal_by_steps (λ n ds. no_end ds ≡ true) (λ n h. grind (arith, nat_tests))
    (λ n ds h k. no_end-append ds ((48 + n % 10) ∷ []) k (grind (arith, nat_tests))) n h

-- ---- values with no numbers but whole ones, whose texts are UTF-8

abbrev mutual
  pub IsTextual : Data → Type 0
  IsTextual null = ⊤
  IsTextual (boolean b) = ⊥
  IsTextual (number (unsigned n)) = n < 2 ^ 64
  IsTextual (number (negative z)) = ⊥
  IsTextual (number (float x)) = ⊥
  IsTextual (string s) = IsUtf8 s
  IsTextual (array ds) = AreTextual ds
  IsTextual (object ms) = HasTextual ms

  pub AreTextual : Items → Type 0
  AreTextual no_items = ⊤
  AreTextual (item d ds) = IsTextual d × AreTextual ds

  pub HasTextual : Members → Type 0
  HasTextual no_members = ⊤
  HasTextual (member k d ms) = IsUtf8 k × IsTextual d × HasTextual ms

comma_none : (b : Bool) → no_end (comma_if b) ≡ true
comma_none true = refl
comma_none false = refl

mutual
  pub no_end-compact : (d : Data) → IsTextual d → no_end (compact_text d) ≡ true
  no_end-compact null h = refl
  no_end-compact (boolean b) h = absurd h
  no_end-compact (number (unsigned n)) h = no_end-decimal n h
  no_end-compact (number (negative z)) h = absurd h
  no_end-compact (number (float x)) h = absurd h
  no_end-compact (string s) h = no_end-quoted s
  no_end-compact (array ds) h = no_end-items false ds h
  no_end-compact (object ms) h = no_end-members false ms h

  no_end-items : (b : Bool) (ds : Items) → AreTextual ds → no_end (items_text b ds) ≡ true
  no_end-items b no_items h = refl
  no_end-items b (item d ds) h = no_end-append (comma_if b) (compact_text d ++ items_text true ds) (comma_none b)
      (no_end-append (compact_text d) (items_text true ds) (no_end-compact d h.0) (no_end-items true ds h.1))

  no_end-members : (b : Bool) (ms : Members) → HasTextual ms → no_end (members_text b ms) ≡ true
  no_end-members b no_members h = refl
  no_end-members b (member k d ms) h =
      no_end-append (comma_if b) (quoted k ++ 58 ∷ (compact_text d ++ members_text true ms)) (comma_none b)
      (no_end-append (quoted k) (58 ∷ (compact_text d ++ members_text true ms)) (no_end-quoted k)
      (no_end-append (compact_text d) (members_text true ms) (no_end-compact d h.1) (no_end-members true ms h.2)))

pub ascii_front : (x : ℕ) (xs : List ℕ) → IsUtf8 (x ∷ []) → IsUtf8 xs → IsUtf8 (x ∷ xs)
ascii_front x xs h u = IsUtf8-append (x ∷ []) xs h u

comma_utf8 : (b : Bool) → IsUtf8 (comma_if b)
comma_utf8 true = IsUtf8-are_ascii (44 ∷ []) refl
comma_utf8 false = IsUtf8-nil

mutual
  pub IsUtf8-compact : (d : Data) → IsTextual d → IsUtf8 (compact_text d)
  IsUtf8-compact null h = IsUtf8-are_ascii (110 ∷ 117 ∷ 108 ∷ 108 ∷ []) refl
  IsUtf8-compact (boolean b) h = absurd h
  IsUtf8-compact (number (unsigned n)) h = IsUtf8-from_ascii (decimal n) (IsAscii-decimal n h)
  IsUtf8-compact (number (negative z)) h = absurd h
  IsUtf8-compact (number (float x)) h = absurd h
  IsUtf8-compact (string s) h = IsUtf8-quoted s h
  IsUtf8-compact (array ds) h = ascii_front 91 (items_text false ds) (IsUtf8-are_ascii (91 ∷ []) refl) (IsUtf8-items false ds h)
  IsUtf8-compact (object ms) h = ascii_front 123 (members_text false ms) (IsUtf8-are_ascii (123 ∷ []) refl) (IsUtf8-members false ms h)

  IsUtf8-items : (b : Bool) (ds : Items) → AreTextual ds → IsUtf8 (items_text b ds)
  IsUtf8-items b no_items h = IsUtf8-are_ascii (93 ∷ []) refl
  IsUtf8-items b (item d ds) h = IsUtf8-append (comma_if b) (compact_text d ++ items_text true ds) (comma_utf8 b)
      (IsUtf8-append (compact_text d) (items_text true ds) (IsUtf8-compact d h.0) (IsUtf8-items true ds h.1))

  IsUtf8-members : (b : Bool) (ms : Members) → HasTextual ms → IsUtf8 (members_text b ms)
  IsUtf8-members b no_members h = IsUtf8-are_ascii (125 ∷ []) refl
  IsUtf8-members b (member k d ms) h =
      IsUtf8-append (comma_if b) (quoted k ++ 58 ∷ (compact_text d ++ members_text true ms)) (comma_utf8 b)
      (IsUtf8-append (quoted k) (58 ∷ (compact_text d ++ members_text true ms)) (IsUtf8-quoted k h.0)
      (ascii_front 58 (compact_text d ++ members_text true ms) (IsUtf8-are_ascii (58 ∷ []) refl)
      (IsUtf8-append (compact_text d) (members_text true ms) (IsUtf8-compact d h.1) (IsUtf8-members true ms h.2))))

-- ---- arguments

pub no_end-arguments : (ds : List Data) → AllByRecursion IsTextual ds → no_end (arguments_text ds) ≡ true
no_end-arguments [] h = refl
no_end-arguments (d ∷ []) h = no_end-compact d h.0
no_end-arguments (d ∷ e ∷ ds) h = no_end-append (compact_text d) (44 ∷ arguments_text (e ∷ ds)) (no_end-compact d h.0) (no_end-arguments (e ∷ ds) h.1)

pub IsUtf8-arguments : (ds : List Data) → AllByRecursion IsTextual ds → IsUtf8 (arguments_text ds)
IsUtf8-arguments [] h = IsUtf8-nil
IsUtf8-arguments (d ∷ []) h = IsUtf8-compact d h.0
IsUtf8-arguments (d ∷ e ∷ ds) h =
    IsUtf8-append (compact_text d) (44 ∷ arguments_text (e ∷ ds)) (IsUtf8-compact d h.0)
    (ascii_front 44 (arguments_text (e ∷ ds)) (IsUtf8-are_ascii (44 ∷ []) refl) (IsUtf8-arguments (e ∷ ds) h.1))
