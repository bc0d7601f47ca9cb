-- What stands behind all spaces at the front, and before all at the end.
use Rattle.std.proofs.Common.{◌≡◌, ◌≢◌, ℕ, suc, ◌<◌, ◌+◌, ◌-◌, ◌≤◌, Bool, true, false, cond, List, [], ◌∷◌}
use Rattle.std.proofs.Common.{◌++◌, length, take, drop, reverse}
use Rattle.std.proofs.Common.{get_or, Option, Some, None, refl, sym, ap, ◌∙◌, subst, arith, length-append, Bor}
use Rattle.std.specs.Prelude.{◌==◌, slice_index, unwrap_or, nat_lt, MatchOption, if◌then◌else◌}
use Rattle.std.specs.List.{prefix_len, suffix_len, position, position_or_len}
use Rattle.std.specs.Str.{IsCharBoundary}
use Rattle.std.specs.Str.Lines.{strip_carriage_return}
use Rattle.std.specs.Str.Pattern.{FindsCharPrefix, FindsCharSuffix, CutsPrefixes, CutsSuffixes, IsFullyTrimmed, IsTrimStartMatches, IsTrimEndMatches}
use Rattle.std.proofs.lemmas.Bool.{eqb-true, eq-eqb, ltb-true}
use Rattle.std.proofs.lemmas.List.{reverse-append, reverse-reverse, take-append-le, take-append-drop, take_all, drop_all}
use Rattle.std.proofs.lemmas.List.Sums.{passes_at_first}
use Rattle.std.proofs.lemmas.Str.{encode_ascii, IsCharBoundary-before_ascii}
use Rattle.std.proofs.lemmas.Str.Pattern.{drop_at_char}
use Rattle.std.proofs.lemmas.Bool.Decides.{nat_tests}
use Rattle.std.proofs.Math.Seq.{drop-length, drop-cons, take-append_seam}
use Rattle.rl_gadgets.specs.Cut.{is, behind_all, before_all, cut_at}
use Rattle.rl_gadgets.specs.Line.{bracketed, ends_name}

-- ---- one byte more

front_step : (c : ℕ) (xs : List ℕ) (v : Bool) → (c == c) ≡ v → v ≡ true
    → drop (cond v (1 + prefix_len (is c) xs) 0) (c ∷ xs) ≡ drop (prefix_len (is c) xs) xs
front_step c xs v e h = rw h (ap (λ n. drop n (c ∷ xs)) (let e : 1 + prefix_len (is c) xs ≡ suc (prefix_len (is c) xs) = omega arith in e))

pub behind_one : (c : ℕ) (xs : List ℕ) → behind_all c (c ∷ xs) ≡ behind_all c xs
behind_one c xs = front_step c xs (c == c) refl (eq-eqb c c refl)

back_len : (c : ℕ) (xs : List ℕ) (v : Bool) → v ≡ true → cond v (1 + prefix_len (is c) (reverse xs)) 0 ≡ 1 + suffix_len (is c) xs
back_len c xs v h = rw h refl

pub suffix_one : (c : ℕ) (xs : List ℕ) → suffix_len (is c) (xs ++ c ∷ []) ≡ 1 + suffix_len (is c) xs
suffix_one c xs = ap (prefix_len (is c)) (reverse-append xs (c ∷ [])) ∙ back_len c xs (c == c) (eq-eqb c c refl)

pub before_one : (c : ℕ) (xs : List ℕ) → before_all c (xs ++ c ∷ []) ≡ before_all c xs
before_one c xs =
    let count : length (xs ++ c ∷ []) ≡ length xs + 1 = length-append xs (c ∷ []) in
    let len : length (xs ++ c ∷ []) - suffix_len (is c) (xs ++ c ∷ []) ≡ length xs - suffix_len (is c) xs =
    omega (arith, count, suffix_one c xs) in
    let within : length xs - suffix_len (is c) xs ≤ length xs = omega arith in
    ap (λ n. take n (xs ++ c ∷ [])) len ∙ take-append-le (length xs - suffix_len (is c) xs) xs (c ∷ []) within

-- ---- nothing is left

none_in_front : (c x : ℕ) (xs : List ℕ) (v : Bool) → (x == c) ≡ v → x ≢ c → drop (cond v (1 + prefix_len (is c) xs) 0) (x ∷ xs) ≡ x ∷ xs
none_in_front c x xs true e n = absurd (n (eqb-true x c e))
none_in_front c x xs false e n = refl

pub front_kept : (c : ℕ) (xs : List ℕ) → ((rest : List ℕ) → xs ≢ c ∷ rest) → behind_all c xs ≡ xs
front_kept c [] h = refl
front_kept c (x ∷ xs) h = none_in_front c x xs (x == c) refl (λ e. h xs (ap (λ y. y ∷ xs) e))

no_suffix : (c : ℕ) (back : List ℕ) → ((rest : List ℕ) → back ≢ c ∷ rest) → prefix_len (is c) back ≡ 0
no_suffix c [] h = refl
no_suffix c (x ∷ xs) h =
    elim (x == c) as (λ v. (x == c) ≡ v → cond v (1 + prefix_len (is c) xs) 0 ≡ 0) [
      | true ↦ λ e. absurd (h xs (ap (λ y. y ∷ xs) (eqb-true x c e)))
      | false ↦ λ e. refl
    ] refl

reversed_ends : (c : ℕ) (xs rest : List ℕ) → reverse xs ≡ c ∷ rest → xs ≡ reverse rest ++ c ∷ []
reversed_ends c xs rest e = sym (reverse-reverse xs) ∙ ap reverse e ∙ reverse-append (c ∷ []) rest

take_whole : (xs : List ℕ) → take (length xs) xs ≡ xs
take_whole xs = take_all (length xs) xs (let h : length xs ≤ length xs = omega arith in h)

pub back_kept : (c : ℕ) (xs : List ℕ) → ((front : List ℕ) → xs ≢ front ++ c ∷ []) → before_all c xs ≡ xs
back_kept c xs h =
    let none : suffix_len (is c) xs ≡ 0 = no_suffix c (reverse xs) (λ rest e. h (reverse rest) (reversed_ends c xs rest e)) in
    ap (λ n. take (length xs - n) xs) none ∙ ap (λ n. take n xs) (let e : length xs - 0 ≡ length xs = omega arith in e) ∙ take_whole xs

-- ---- what the calls do

cut_prefixes : (c : ℕ) (ns : List ℕ) (s r : List ℕ) → c < 128 → CutsPrefixes (FindsCharPrefix c) s ns r → behind_all c r ≡ behind_all c s
cut_prefixes c [] s r h e = ap (behind_all c) e
cut_prefixes c (n ∷ ns) s r h (m, cuts, found, e) =
    let at : m ≡ c ∷ drop n m = drop_at_char c m 0 n found h in
    ap (behind_all c) e ∙ sym (behind_one c (drop n m)) ∙ ap (behind_all c) (sym at) ∙ cut_prefixes c ns s m h cuts

not_itself : (c : ℕ) (xs : List ℕ) → xs ≡ c ∷ xs → ⊥
not_itself c xs e = let l = ap length e in omega arith

trimmed_front : (c : ℕ) (r : List ℕ) → c < 128 → (o : Option ℕ) → FindsCharPrefix c r o → (o ≡ None) → behind_all c r ≡ r
trimmed_front c r h None none e = front_kept c r (λ rest same. none rest (same ∙ ap (λ f. f ++ rest) (sym (encode_ascii c h))))
trimmed_front c r h (Some n) found e = absurd (let x : ⊥ = cc in x)

fully_front : (c : ℕ) (r : List ℕ) → c < 128 → IsFullyTrimmed (FindsCharPrefix c) r → behind_all c r ≡ r
fully_front c r h (None, none, e) = trimmed_front c r h None none refl
fully_front c r h (Some n, found, e) =
    absurd (not_itself c r (subst (λ k. r ≡ c ∷ drop k r) e (drop_at_char c r 0 n found h)))

pub behind_is : (c : ℕ) (s r : List ℕ) → c < 128 → IsTrimStartMatches (FindsCharPrefix c) s r → r ≡ behind_all c s
behind_is c s r h ((ns, cuts), full) = sym (fully_front c r h full) ∙ cut_prefixes c ns s r h cuts

last_of : (c n : ℕ) (m : List ℕ) → c < 128 → FindsCharSuffix c m (Some n) → m ≡ take (length m - n) m ++ c ∷ []
last_of c n m h found =
    sym (take-append-drop (length m - n) m)
    ∙ ap (λ l. take (length m - n) m ++ l) (drop_at_char c m (length m - n) (length m) found.1 h ∙ ap (λ l. c ∷ l) (drop-length m))

cut_suffixes : (c : ℕ) (ns : List ℕ) (s r : List ℕ) → c < 128 → CutsSuffixes (FindsCharSuffix c) s ns r → before_all c r ≡ before_all c s
cut_suffixes c [] s r h e = ap (before_all c) e
cut_suffixes c (n ∷ ns) s r h (m, cuts, found, e) =
    ap (before_all c) e ∙ sym (before_one c (take (length m - n) m)) ∙ ap (before_all c) (sym (last_of c n m h found)) ∙ cut_suffixes c ns s m h cuts

fully_back : (c : ℕ) (r : List ℕ) → c < 128 → IsFullyTrimmed (FindsCharSuffix c) r → before_all c r ≡ r
fully_back c r h (None, none, e) = back_kept c r (λ front same. none front (same ∙ ap (λ f. front ++ f) (sym (encode_ascii c h))))
fully_back c r h (Some n, found, e) =
    let len = ap length (last_of c n r h found) in
    let grown = length-append (take (length r - n) r) (c ∷ []) in
    let whole : length r - 0 ≡ length r = omega arith in
    let same : take (length r - n) r ≡ r = ap (λ k. take (length r - k) r) e ∙ ap (λ k. take k r) whole ∙ take_whole r in
    let count = ap length same in
    absurd (let x : ⊥ = omega arith in x)

pub before_is : (c : ℕ) (s r : List ℕ) → c < 128 → IsTrimEndMatches (FindsCharSuffix c) s r → r ≡ before_all c s
before_is c s r h ((ns, cuts), full) = sym (fully_back c r h full) ∙ cut_suffixes c ns s r h cuts

-- ---- brackets, carriage returns, and the end of a name

unbracketed_at : (b : ℕ) (rest : List ℕ) (v : Bool) → (b == 91) ≡ v → b ≢ 91
    → (if v then cut_at 93 rest else Some ([], b ∷ rest)) ≡ Some ([], b ∷ rest)
unbracketed_at b rest true e n = absurd (n (eqb-true b 91 e))
unbracketed_at b rest false e n = refl

pub unbracketed : (xs : List ℕ) → ((rest : List ℕ) → xs ≢ 91 ∷ rest) → bracketed xs ≡ Some ([], xs)
unbracketed [] h = refl
unbracketed (b ∷ rest) h = unbracketed_at b rest (b == 91) refl (λ e. h rest (ap (λ y. y ∷ rest) e))

last_at : (xs : List ℕ) (b : ℕ) → slice_index (xs ++ b ∷ []) (length xs) ≡ b
last_at [] b = refl
last_at (x ∷ xs) b = last_at xs b

filled : (xs : List ℕ) → get_or xs (length xs - 1) 0 ≡ 13 → 0 < length xs
filled [] e = absurd (let x : ⊥ = cc in x)
filled (x ∷ xs) e = omega arith

last_alone : (xs : List ℕ) (b : ℕ) → 0 < length xs → get_or xs (length xs - 1) 0 ≡ b → drop (length xs - 1) xs ≡ b ∷ []
last_alone xs b h e =
    let i = length xs - 1 in
    let within : i < length xs = omega arith in
    let after : length xs ≤ suc i = omega arith in
    drop-cons xs i 0 within ∙ ap (λ y. y ∷ drop (suc i) xs) e ∙ ap (λ l. b ∷ l) (drop_all (suc i) xs after)

return_off_by : (xs : List ℕ) (v : Bool) → v ≡ true → length (xs ++ 13 ∷ []) - 1 ≡ length xs
    → (if v then take (length (xs ++ 13 ∷ []) - 1) (xs ++ 13 ∷ []) else xs ++ 13 ∷ []) ≡ xs
return_off_by xs false e n = absurd (let x : ⊥ = cc in x)
return_off_by xs true e n = ap (λ k. take k (xs ++ 13 ∷ [])) n ∙ take-append_seam xs (13 ∷ [])

return_off : (xs : List ℕ) → strip_carriage_return (xs ++ 13 ∷ []) ≡ xs
return_off xs =
    let count : length (xs ++ 13 ∷ []) - 1 ≡ length xs = omega (arith, length-append xs (13 ∷ [])) in
    return_off_by xs (slice_index (xs ++ 13 ∷ []) (length (xs ++ 13 ∷ []) - 1) == 13)
    (eq-eqb _ 13 (ap (slice_index (xs ++ 13 ∷ [])) count ∙ last_at xs 13)) count

last_kept : (xs : List ℕ) (v : Bool) → (slice_index xs (length xs - 1) == 13) ≡ v → ((front : List ℕ) → xs ≢ front ++ 13 ∷ [])
    → (if v then take (length xs - 1) xs else xs) ≡ xs
last_kept xs false e none = refl
last_kept xs true e none =
    let last : get_or xs (length xs - 1) 0 ≡ 13 = eqb-true (slice_index xs (length xs - 1)) 13 e in
    let some : 0 < length xs = filled xs last in
    let cut = take-append-drop (length xs - 1) xs in
    absurd (none (take (length xs - 1) xs) (sym cut ∙ ap (λ l. take (length xs - 1) xs ++ l) (last_alone xs 13 some last)))

pub return_dropped : (line : Bor (List ℕ)) (stripped : Option (Bor (List ℕ)))
    → MatchOption stripped ((front : List ℕ) → line.now ≢ front ++ 13 ∷ []) (λ front. line.now ≡ front.now ++ 13 ∷ [])
    → (unwrap_or stripped line).now ≡ strip_carriage_return line.now
return_dropped line None none = sym (last_kept line.now (slice_index line.now (length line.now - 1) == 13) refl none)
return_dropped line (Some front) is = rw is (sym (return_off front.now))

-- a byte that ends a name is one character
ending_small : (b : ℕ) → ends_name b ≡ true → b < 128
ending_small b e = grind (arith, nat_tests)

placed : (xs : List ℕ) (at : ℕ) (v : Bool) → nat_lt (position_or_len ends_name xs) (length xs) ≡ v
    → Some at ≡ cond v (Some (position_or_len ends_name xs)) None → (position_or_len ends_name xs ≡ at) × (at < length xs)
placed xs at false e same = absurd (let x : ⊥ = cc in x)
placed xs at true e same =
    let here : position_or_len ends_name xs ≡ at = cc in
    (here, subst (λ k. k < length xs) here (ltb-true _ _ e))

place_is : (xs : List ℕ) (at : ℕ) → Some at ≡ position ends_name xs → (position_or_len ends_name xs ≡ at) × (at < length xs)
place_is xs at e = placed xs at (nat_lt (position_or_len ends_name xs) (length xs)) refl e

-- a text may be cut before the end of a name
pub cut_before_end : (xs : List ℕ) (at : ℕ) → Some at ≡ position ends_name xs → IsCharBoundary xs at
cut_before_end xs at e =
    let place = place_is xs at e in
    let small : position_or_len ends_name xs < length xs = subst (λ k. k < length xs) (sym place.0) place.1 in
    let byte : get_or xs (position_or_len ends_name xs) 0 < 128 = ending_small _ (passes_at_first ends_name xs 0 small) in
    subst (IsCharBoundary xs) place.0 (IsCharBoundary-before_ascii xs (position_or_len ends_name xs) small byte)
