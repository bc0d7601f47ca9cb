-- What marks say of pairs whose keys ascend.
use Rattle.std.proofs.Common.{◌≡◌, ℕ, zero, suc, ◌+◌, ◌<◌, ◌≤◌, Bool, true, false, List, [], ◌∷◌, ◌++◌, length, map}
use Rattle.std.proofs.Common.{Option, Some, None, Less, nat_cmp}
use Rattle.std.proofs.Common.{refl, ap, ap₂, sym, subst, ◌∙◌, arith, take, get_or, replicate}
use Rattle.std.specs.Prelude.{bytes_eq, position, not, if◌then◌else◌, ◌&&◌, ◌||◌, nat_lt, slice_set, cond, slice_get, option_map}
use Rattle.std.specs.List.{AllByRecursion, list_any, position_or_len}
use Rattle.std.specs.List.Sorted.{IsStrictlySortedBy}
use Rattle.std.specs.Ordering.{is_eq}
use Rattle.std.specs.Cmp.Lexicographic.{slice_cmp}
use Rattle.std.proofs.lemmas.Bool.{both_ways}
use Rattle.std.proofs.lemmas.Bool.Decides.{nat_tests}
use Rattle.std.proofs.lemmas.Slice.Eq.{bytes_eq-Decides}
use Rattle.std.proofs.lemmas.Map.Text.{is_eq-slice_cmp}
use Rattle.std.proofs.lemmas.List.{take_more, length-map}
use Rattle.std.proofs.lemmas.Option.{slice_get_within, get_or_from_slice_get}
use Rattle.std.proofs.lemmas.List.Folds.{list_any-append}
use Rattle.std.specs.Option.{option_map_or}
use Rattle.rl_names.specs.Name.{key_text}
use Rattle.rl_names.specs.declared.row.Row.{Row}
use Rattle.rl_view_spec.specs.Closure.{Text, Registered}
use Rattle.rl_book_spec.specs.Closing.{key_bytes, is_key_of, row_key}
use Rattle.rl_book_spec.specs.declared.Stored.{Stored}
use Rattle.rl_store.specs.Merging.{is_under, marked, stays}
use Rattle.rl_store.specs.Stock.{keys_of}

pub flips : (a b : Text) → bytes_eq a b ≡ bytes_eq b a
flips a b = step (bytes_eq a b) (bytes_eq b a) refl refl
  where
    step : (s t : Bool) → bytes_eq a b ≡ s → bytes_eq b a ≡ t → s ≡ t
    step true true d e = refl
    step false false d e = refl
    step true false d e = absurd (both_ways (bytes_eq b a) e ((bytes_eq-Decides b a).1 (sym ((bytes_eq-Decides a b).0 d))))
    step false true d e = absurd (both_ways (bytes_eq a b) d ((bytes_eq-Decides a b).1 (sym ((bytes_eq-Decides b a).0 e))))

-- ---- one mark

other_key : (a b : Text) → slice_cmp nat_cmp a b ≡ Less → bytes_eq b a ≡ false
other_key a b e = flips b a ∙ sym (is_eq-slice_cmp a b) ∙ ap is_eq e

later_not : (text : Text) (s : Stored) (pairs : List Stored) → AllByRecursion (λ y. slice_cmp nat_cmp (key_bytes s.key) y ≡ Less) (keys_of pairs)
    → is_under text s ≡ true → AllByRecursion (λ t. is_under text t ≡ false) pairs
later_not text s [] up here = tt
later_not text s (t ∷ pairs) up here = (
  subst (λ (w : Text). bytes_eq (key_bytes t.key) w ≡ false) ((bytes_eq-Decides (key_bytes s.key) text).0 here)
      (other_key (key_bytes s.key) (key_bytes t.key) up.0),
  later_not text s pairs up.1 here,
)

marked_nowhere : (text : Text) (mark : Bool) (pairs : List Stored) (marks : List Bool) → length marks ≡ length pairs
    → AllByRecursion (λ t. is_under text t ≡ false) pairs → marked text mark pairs marks ≡ marks
marked_nowhere text mark [] [] long none = refl
marked_nowhere text mark [] (m ∷ marks) long none = absurd (omega (arith, long))
marked_nowhere text mark (s ∷ pairs) [] long none = absurd (omega (arith, long))
marked_nowhere text mark (s ∷ pairs) (m ∷ marks) long none = rw none.0 (ap (λ (ms : List Bool). m ∷ ms)
    (marked_nowhere text mark pairs marks (omega (arith, long)) none.1))

set_marked : (text : Text) (mark : Bool) (pairs : List Stored) (marks : List Bool) → length marks ≡ length pairs
    → IsStrictlySortedBy (slice_cmp nat_cmp) (keys_of pairs)
    → slice_set marks (position_or_len (is_under text) pairs) mark ≡ marked text mark pairs marks
unfolding IsStrictlySortedBy
set_marked text mark [] [] long up = refl
set_marked text mark [] (m ∷ marks) long up = absurd (omega (arith, long))
set_marked text mark (s ∷ pairs) [] long up = absurd (omega (arith, long))
set_marked text mark (s ∷ pairs) (m ∷ marks) long up = step (is_under text s) refl (set_marked text mark pairs marks (omega (arith, long)) up.1)
  where
    step : (b : Bool) → is_under text s ≡ b
        → slice_set marks (position_or_len (is_under text) pairs) mark ≡ marked text mark pairs marks
        → slice_set (m ∷ marks) (if not b then 1 + position_or_len (is_under text) pairs else 0) mark ≡ (if b then mark else m) ∷ marked text mark pairs marks
    step true e later = ap (λ (ms : List Bool). mark ∷ ms)
        (sym (marked_nowhere text mark pairs marks (omega (arith, long)) (later_not text s pairs up.0 e)))
    step false e later =
        let k = position_or_len (is_under text) pairs in
        let next : 1 + k ≡ suc k = omega arith in
        ap (λ (n : ℕ). slice_set (m ∷ marks) n mark) next ∙ ap (λ (ms : List Bool). m ∷ ms) later

-- the mark at the place that a search found
abbrev pub at_place : Option ℕ → Bool → List Bool → List Bool
at_place None mark marks = marks
at_place (Some at) mark marks = slice_set marks at mark

set_past : (marks : List Bool) (at : ℕ) (mark : Bool) → length marks ≤ at → slice_set marks at mark ≡ marks
set_past [] at mark past = refl
set_past (m ∷ marks) zero mark past = absurd (omega (arith, past))
set_past (m ∷ marks) (suc at) mark past = ap (λ (ms : List Bool). m ∷ ms) (set_past marks at mark (omega (arith, past)))

pub place_marked : (text : Text) (mark : Bool) (pairs : List Stored) (marks : List Bool) → length marks ≡ length pairs
    → IsStrictlySortedBy (slice_cmp nat_cmp) (keys_of pairs) → (o : Option ℕ) → o ≡ position (is_under text) pairs
    → at_place o mark marks ≡ marked text mark pairs marks
place_marked text mark pairs marks long up o e = ap (λ (p : Option ℕ). at_place p mark marks) e
    ∙ step (nat_lt (position_or_len (is_under text) pairs) (length pairs)) refl ∙ set_marked text mark pairs marks long up
  where
    step : (b : Bool) → nat_lt (position_or_len (is_under text) pairs) (length pairs) ≡ b
        → at_place (cond b (Some (position_or_len (is_under text) pairs)) None) mark marks
        ≡ slice_set marks (position_or_len (is_under text) pairs) mark
    step true d = refl
    step false d = sym (set_past marks (position_or_len (is_under text) pairs) mark (grind (arith, nat_tests, d, long)))

take_get : {X : Type 0} (xs : List X) (n : ℕ) (x : X) → slice_get xs n ≡ Some x → take (n + 1) xs ≡ take n xs ++ x ∷ []
take_get {X = X} xs n x at = take_more xs n x (slice_get_within xs n x at) ∙ ap (λ (y : X). take n xs ++ y ∷ []) (get_or_from_slice_get xs n x x at)

-- ---- all marks

alike : {X Y : Type 0} (f g : X → Y) (xs : List X) → ((x : X) → f x ≡ g x) → map f xs ≡ map g xs
alike f g [] same = refl
alike {Y = Y} f g (x ∷ xs) same = ap₂ (λ (y : Y) (ys : List Y). y ∷ ys) (same x) (alike f g xs same)

marked_map : (text : Text) (mark : Bool) (p : Stored → Bool) (pairs : List Stored)
    → marked text mark pairs (map p pairs) ≡ map (λ s. if is_under text s then mark else p s) pairs
marked_map text mark p [] = refl
marked_map text mark p (s ∷ pairs) = ap (λ (ms : List Bool). (if is_under text s then mark else p s) ∷ ms) (marked_map text mark p pairs)

-- a mark more: what it says of each pair
pub one_more : (text : Text) (mark : Bool) (p q : Stored → Bool) (pairs : List Stored) (marks new : List Bool) → marks ≡ map p pairs
    → new ≡ marked text mark pairs marks → ((s : Stored) → (if is_under text s then mark else p s) ≡ q s) → new ≡ map q pairs
one_more text mark p q pairs marks new e f same = f ∙ ap (marked text mark pairs) e ∙ marked_map text mark p pairs
    ∙ alike (λ s. if is_under text s then mark else p s) q pairs same

-- a row more
pub row_key_more : (r : Registered) (n : ℕ) (row : Row) (version : Text) → slice_get r.rows n ≡ Some row → row.version ≡ Some version → (s : Stored)
    → (if is_under (key_text row.name version) s then true else is_key_of (record r { rows = take n r.rows }) s.key)
    ≡ is_key_of (record r { rows = take (n + 1) r.rows }) s.key
row_key_more r n row version at e s =
    let test : Row → Bool = λ row. option_map_or (λ other. bytes_eq (key_bytes other) (key_bytes s.key)) (row_key row) false in
    let here : test row ≡ is_under (key_text row.name version) s =
    ap (λ (v : Option Text). option_map_or (λ other. bytes_eq (key_bytes other) (key_bytes s.key))
    (option_map (λ version. record { name = row.name; version = version }) v) false) e
    ∙ flips (key_text row.name version) (key_bytes s.key) in
    sym (ap (list_any test) (take_get r.rows n row at) ∙ list_any-append test (take n r.rows) (row ∷ []) ∙ last (list_any test (take n r.rows)) (test row)
    (is_under (key_text row.name version) s) here)
  where
    last : (a b c : Bool) → b ≡ c → (a || (b || false)) ≡ (if c then true else a)
    last true true c e = rw (sym e) refl
    last true false c e = rw (sym e) refl
    last false true c e = rw (sym e) refl
    last false false c e = rw (sym e) refl

pub row_key_none : (r : Registered) (n : ℕ) (row : Row) → slice_get r.rows n ≡ Some row → row.version ≡ None → (pairs : List Stored)
    → map (λ (s : Stored). is_key_of (record r { rows = take n r.rows }) s.key) pairs
    ≡ map (λ (s : Stored). is_key_of (record r { rows = take (n + 1) r.rows }) s.key) pairs
row_key_none r n row at e pairs = alike (λ (s : Stored). is_key_of (record r { rows = take n r.rows }) s.key)
    (λ (s : Stored). is_key_of (record r { rows = take (n + 1) r.rows }) s.key) pairs each
  where
    last : (a b : Bool) → b ≡ false → a ≡ (a || (b || false))
    last true b e = refl
    last false b e = rw e refl

    each : (s : Stored) → is_key_of (record r { rows = take n r.rows }) s.key ≡ is_key_of (record r { rows = take (n + 1) r.rows }) s.key
    each s =
        let test : Row → Bool = λ row. option_map_or (λ other. bytes_eq (key_bytes other) (key_bytes s.key)) (row_key row) false in
        let here : test row ≡ false =
        ap (λ (v : Option Text). option_map_or (λ other. bytes_eq (key_bytes other) (key_bytes s.key))
        (option_map (λ version. record { name = row.name; version = version }) v) false) e in
        last (list_any test (take n r.rows)) (test row) here
        ∙ sym (ap (list_any test) (take_get r.rows n row at) ∙ list_any-append test (take n r.rows) (row ∷ []))

-- a new pair more
pub stays_more : (r : Registered) (fresh : List Stored) (n : ℕ) (one : Stored) → n < length fresh → one ≡ get_or fresh n one → (s : Stored)
    → (if is_under (key_bytes one.key) s then false else stays r (take n fresh) s) ≡ stays r (take (n + 1) fresh) s
stays_more r fresh n one within is s =
    let test : Stored → Bool = λ other. bytes_eq (key_bytes other.key) (key_bytes s.key) in
    let whole : take (n + 1) fresh ≡ take n fresh ++ one ∷ [] = take_more fresh n one within ∙ ap (λ (x : Stored). take n fresh ++ x ∷ []) (sym is) in
    last (is_key_of r s.key) (list_any test (take n fresh)) (test one) (is_under (key_bytes one.key) s) (flips (key_bytes one.key) (key_bytes s.key))
    ∙ ap (λ b. is_key_of r s.key && not b) (sym (ap (list_any test) whole ∙ list_any-append test (take n fresh) (one ∷ [])))
  where
    last : (k a b c : Bool) → b ≡ c → (if c then false else (k && not a)) ≡ (k && not (a || (b || false)))
    last true true true c e = rw (sym e) refl
    last true true false c e = rw (sym e) refl
    last true false true c e = rw (sym e) refl
    last true false false c e = rw (sym e) refl
    last false a true c e = rw (sym e) refl
    last false a false c e = rw (sym e) refl

pub length_marks : {X : Type 0} (p : X → Bool) (xs : List X) (marks : List Bool) → marks ≡ map p xs → length marks ≡ length xs
length_marks p xs marks e = ap length e ∙ length-map xs p

pub no_marks : {X : Type 0} (xs : List X) → replicate (length xs) false ≡ map (λ (x : X). false) xs
no_marks [] = refl
no_marks (x ∷ xs) = ap (λ (ms : List Bool). false ∷ ms) (no_marks xs)
