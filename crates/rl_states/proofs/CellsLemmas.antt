-- Rows in blocks, and how many of a block may run.
use Rattle.std.proofs.Common.{subst, ◌≡◌, ◌≢◌, ℕ, zero, suc, ◌+◌, ◌-◌, ◌*◌, ◌/◌, ◌<◌, ◌≤◌, List, [], ◌∷◌, Bool}
use Rattle.std.proofs.Common.{true, false, cond, ◌&&◌, length, set, get_or, nat_eq, nat_lt, Some, None, refl, ap, sym, ◌∙◌, ⊎_elim, arith}
use Rattle.std.specs.Prelude.{count_by, position, slice_get}
use Rattle.std.specs.List.{enumerate_from, position_or_len}
use Rattle.std.proofs.lemmas.Bool.{eqb-true, cases_eq, cases_lt, ne_eqb, eq-eqb, lt-ltb, le-ltb}
use Rattle.std.proofs.lemmas.List.{length-set, get_or-set_same, get_or-set_other}
use Rattle.std.proofs.lemmas.Nat.{div-add-mod', div-mul-add, div_below, mod_below}
use Rattle.std.proofs.lemmas.List.Quantifiers.{position-Some}
use Rattle.std.proofs.lemmas.List.Sums.{sum_by-cons, sum_by-set, position_or_len_is, count_by-le-length}
use Rattle.std.proofs.lemmas.Option.{slice_get_within, get_or_from_slice_get}
use Rattle.rl_view_spec.proofs.ToolsLemmas.{place_there}
use Rattle.rl_view_spec.specs.Closure.{Registered}
use Rattle.rl_states.specs.declared.standing.Standing.{Standing}
use Rattle.rl_states.specs.Cells.{runnable_in, AreCounted, IsNoneBefore}
use Rattle.rl_states.specs.Standings.{may_run, for_rows, fresh}
use Rattle.rl_states.proofs.StandingsLemmas.{over_numbers}

-- ---- elements with their numbers

pub numbered_length : {X : Type 0} (n : ℕ) (xs : List X) → length (enumerate_from n xs) ≡ length xs
numbered_length n [] = refl
numbered_length n (x ∷ xs) = omega (arith, numbered_length (n + 1) xs)

pub numbered_set : {X : Type 0} (n : ℕ) (xs : List X) (i : ℕ) (y : X) → enumerate_from n (set xs i y) ≡ set (enumerate_from n xs) i (n + i, y)
numbered_set n [] i y = refl
numbered_set {X = X} n (x ∷ xs) zero y = let e : n ≡ n + 0 =
    omega arith in ap (λ (k : ℕ). let m : ℕ × X = (k, y) in m ∷ enumerate_from (n + 1) xs) e
numbered_set {X = X} n (x ∷ xs) (suc i) y =
    let e : (n + 1) + i ≡ n + suc i = omega arith in
    ap (λ (zs : List (ℕ × X)). (n, x) ∷ zs) (numbered_set (n + 1) xs i y ∙ ap (λ (k : ℕ). set (enumerate_from (n + 1) xs) i (k, y)) e)

pub numbered_at : {X : Type 0} (n : ℕ) (xs : List X) (i : ℕ) (x : X) (d : ℕ × X) → slice_get xs i ≡ Some x →
    get_or (enumerate_from n xs) i d ≡ (n + i, x)
numbered_at n [] i x d e = let f : None ≡ Some x = e in cc
numbered_at {X = X} n (y ∷ xs) zero x d e =
    let f : Some y ≡ Some x = e in
    let same : y ≡ x = cc in
    let m : n ≡ n + 0 = omega arith in ap (λ (z : X). let p : ℕ × X = (n, z) in p) same ∙ ap (λ (k : ℕ). let p : ℕ × X = (k, x) in p) m
numbered_at {X = X} n (y ∷ xs) (suc i) x d e =
    let m : (n + 1) + i ≡ n + suc i = omega arith in
    numbered_at (n + 1) xs i x d e ∙ ap (λ (k : ℕ). let p : ℕ × X = (k, x) in p) m

-- ---- what is counted

abbrev counts : ℕ → ℕ × Standing → Bool
counts block numbered = nat_eq (numbered.0 / 64) block && may_run numbered.1

abbrev one : Bool → ℕ
one b = cond b 1 0

pub runnable_set : (xs : List Standing) (row : ℕ) (old new : Standing) (block : ℕ) → slice_get xs row ≡ Some old
    → runnable_in (set xs row new) block + cond (nat_eq (row / 64) block && may_run old) 1 0
    ≡ runnable_in xs block + cond (nat_eq (row / 64) block && may_run new) 1 0
runnable_set xs row old new block e =
    let start : 0 + row ≡ row = omega arith in
    let written : enumerate_from 0 (set xs row new) ≡ set (enumerate_from 0 xs) row (row, new) = numbered_set 0 xs row new
    ∙ ap (λ (k : ℕ). set (enumerate_from 0 xs) row (k, new)) start in
    let low : row < length (enumerate_from 0 xs) = omega (arith, numbered_length 0 xs, slice_get_within xs row old e) in
    let read : get_or (enumerate_from 0 xs) row (row, old) ≡ (row, old) = numbered_at 0 xs row old (row, old) e
    ∙ ap (λ (k : ℕ). let p : ℕ × Standing = (k, old) in p) start in
    let was : ◌≡◌ {A = ℕ} (one (counts block (get_or (enumerate_from 0 xs) row (row, old)))) (one (counts block (row, old))) =
    ap (λ (p : ℕ × Standing). one (counts block p)) read in
    let counted : count_by (counts block) (enumerate_from 0 (set xs row new))
    ≡ count_by (counts block) (set (enumerate_from 0 xs) row (row, new)) = ap (count_by (counts block)) written in
    omega (arith, counted, was, sum_by-set (λ (p : ℕ × Standing). one (counts block p)) (enumerate_from 0 xs) row (row, new) (row, old) low)

none_counted : (n block : ℕ) (xs : List Standing) → ((k : ℕ) (s : Standing) → slice_get xs k ≡ Some s → may_run s ≡ false) →
    count_by (counts block) (enumerate_from n xs) ≡ 0
none_counted n block [] h = refl
none_counted n block (x ∷ xs) h =
    let here : ◌≡◌ {A = ℕ} (one (counts block (n, x))) 0 = ap (λ (b : Bool). one (nat_eq (n / 64) block && b)) (h 0 x refl)
    ∙ off (nat_eq (n / 64) block) in
    omega (
      arith,
      sum_by-cons (λ (p : ℕ × Standing). one (counts block p)) (n, x) (enumerate_from (n + 1) xs),
      here,
      none_counted (n + 1) block xs
          (λ k s e. h (suc k) s e),
    )
  where
    off : (b : Bool) → ◌≡◌ {A = ℕ} (one (b && false)) 0
    off true = refl
    off false = refl

zero_counted : (n block : ℕ) (xs : List Standing) → count_by (counts block) (enumerate_from n xs) ≡ 0 → (k : ℕ) (s : Standing) →
    slice_get xs k ≡ Some s → nat_eq ((n + k) / 64) block ≡ true → may_run s ≡ false
zero_counted n block [] z k s e h = let f : None ≡ Some s = e in cc
zero_counted n block (x ∷ xs) z zero s e h =
    let f : Some x ≡ Some s = e in
    let same : x ≡ s = cc in
    let m : n + 0 ≡ n = omega arith in
    let none : ◌≡◌ {A = ℕ} (one (counts block (n, x))) 0 =
    omega (arith, z, sum_by-cons (λ (p : ℕ × Standing). one (counts block p)) (n, x) (enumerate_from (n + 1) xs)) in
    ap may_run (sym same) ∙ off (nat_eq (n / 64) block) (may_run x) (ap (λ (j : ℕ). nat_eq (j / 64) block) (sym m) ∙ h) none
  where
    off : (a b : Bool) → a ≡ true → ◌≡◌ {A = ℕ} (one (a && b)) 0 → b ≡ false
    off true true f g = absurd (omega (arith, g))
    off true false f g = refl
    off false b f g = cc
zero_counted n block (x ∷ xs) z (suc k) s e h =
    let m : (n + 1) + k ≡ n + suc k = omega arith in
    zero_counted (n + 1) block xs (omega (arith, z, sum_by-cons (λ (p : ℕ × Standing). one (counts block p)) (n, x) (enumerate_from (n + 1) xs))) k s e
    (ap (λ (j : ℕ). nat_eq (j / 64) block) m ∙ h)

-- ---- blocks

in_block : (block k : ℕ) → 64 * block ≤ k → k < 64 * block + 64 → k / 64 ≡ block
in_block block k ge lt =
    let e : block * 64 + (k - block * 64) ≡ k = omega arith in
    ap (λ (j : ℕ). j / 64) (sym e) ∙ div-mul-add block 64 (k - block * 64) (omega arith)

-- no row of a block may run that counts none
pub none_more : (xs : List Standing) (block : ℕ) → IsNoneBefore xs (64 * block) → runnable_in xs block ≡ 0 → IsNoneBefore xs (64 * (block + 1))
none_more xs block h z = λ k s low e. ⊎_elim (λ lt. h k s lt e)
    (λ ge. let start : 0 + k ≡ k = omega arith in
    zero_counted 0 block xs z k s e (ap (λ (j : ℕ). nat_eq (j / 64) block) start ∙ eq-eqb (k / 64) block (in_block block k ge (omega (arith, low)))))
    (cases_lt k (64 * block))

pub row_block : (xs : List Standing) (counts : List ℕ) (row : ℕ) → AreCounted xs counts → row < length xs → row / 64 < length counts
row_block xs counts row k low = div_below row 64 (length counts) (omega arith) (omega (arith, low, k.long))

pub none_at : (xs : List Standing) (row : ℕ) (s : Standing) → IsNoneBefore xs row → slice_get xs row ≡ Some s → may_run s ≡ false →
    IsNoneBefore xs (row + 1)
none_at xs row s h e f = λ k o low at. ⊎_elim (λ lt. h k o lt at)
    (λ ge. let same : k ≡ row = omega (arith, low, ge) in
    let g : Some o ≡ Some s = sym at ∙ ap (slice_get xs) same ∙ e in
    let os : o ≡ s = cc in ap may_run os ∙ f)
    (cases_lt k row)

-- ---- the first row that may run

place_of : (xs : List Standing) (i : ℕ) (d : Standing) → IsNoneBefore xs i → i ≤ length xs → (k : ℕ) → k < i → may_run (get_or xs k d) ≡ false
place_of xs i d h le k low = let m = place_there xs k (omega (arith, low, le)) in ap may_run (get_or_from_slice_get xs k m.0 d m.1) ∙ h k m.0 low m.1

pub first_is : (xs : List Standing) (row : ℕ) (s : Standing) → IsNoneBefore xs row → slice_get xs row ≡ Some s → may_run s ≡ true →
    Some row ≡ position may_run xs
first_is xs row s h e may =
    let low : row < length xs = slice_get_within xs row s e in
    let at : position_or_len may_run xs ≡ row = position_or_len_is may_run xs row s (omega (arith, low)) (place_of xs row s h (omega (arith, low)))
    (λ l. ap may_run (get_or_from_slice_get xs row s s e) ∙ may) in
    sym (ap (λ (n : ℕ). cond (nat_lt n (length xs)) (Some n) None) at ∙ ap (λ (b : Bool). cond b (Some row) None) (lt-ltb row (length xs) low))

pub none_is : (xs : List Standing) (n : ℕ) → IsNoneBefore xs n → length xs ≤ n → None ≡ position may_run xs
none_is xs n h le =
    let d : Standing = record { touched = false; outcome = None; ran = false; done = false; waits = 0 } in
    let all : IsNoneBefore xs (length xs) = λ k s low e. h k s (omega (arith, low, le)) e in
    let at : position_or_len may_run xs ≡ length xs = position_or_len_is may_run xs (length xs) d (omega arith) (place_of xs (length xs) d all (omega arith))
    (λ l. absurd (omega (arith, l))) in
    sym (ap (λ (k : ℕ). cond (nat_lt k (length xs)) (Some k) None) at
    ∙ ap (λ (b : Bool). cond b (Some (length xs)) None) (le-ltb (length xs) (length xs) (omega arith)))

-- ---- rows to which nothing happened

pub fresh_none : (r : Registered) (block : ℕ) → runnable_in (for_rows r (fresh r)) block ≡ 0
fresh_none r block = none_counted 0 block (for_rows r (fresh r))
    (λ k s e. step k s (nat_lt k (length r.rows)) (sym (over_numbers (fresh r) (length r.rows) k) ∙ e))
  where
    step : (k : ℕ) (s : Standing) (b : Bool) → cond b (Some (fresh r k)) None ≡ Some s → may_run s ≡ false
    step k s true e = let same : fresh r k ≡ s = cc in ap may_run (sym same)
    step k s false e = let f : None ≡ Some s = e in cc

-- ---- how many

pub few_counted : (xs : List Standing) (block : ℕ) → runnable_in xs block ≤ length xs
few_counted xs block = omega (arith, count_by-le-length (counts block) (enumerate_from 0 xs), numbered_length 0 xs)

pub one_counted : (xs : List Standing) (row : ℕ) (s : Standing) → slice_get xs row ≡ Some s → cond (may_run s) 1 0 ≤ runnable_in xs (row / 64)
one_counted xs row s e = step (may_run s) refl
  where
    step : (b : Bool) → may_run s ≡ b → cond b 1 0 ≤ runnable_in xs (row / 64)
    step false h = omega arith
    step true h =
        ⊎_elim (λ (z : runnable_in xs (row / 64) < 1). let start : 0 + row ≡ row = omega arith in
        let f : may_run s ≡ false = zero_counted 0 (row / 64) xs (omega (arith, z)) row s e
        (ap (λ (j : ℕ). nat_eq (j / 64) (row / 64)) start ∙ eq-eqb (row / 64) (row / 64) refl) in
        let g : true ≡ false = sym h ∙ f in cc)
        (λ (g : 1 ≤ runnable_in xs (row / 64)). g)
        (cases_lt (runnable_in xs (row / 64)) 1)

pub counted_set : (xs : List Standing) (counts : List ℕ) (row : ℕ) (old new : Standing) (n : ℕ) → AreCounted xs counts → slice_get xs row ≡ Some old
    → n + cond (may_run old) 1 0 ≡ get_or counts (row / 64) 0 + cond (may_run new) 1 0 → AreCounted (set xs row new) (set counts (row / 64) n)
counted_set xs counts row old new n k e h = record {
  few = omega (arith, length-set xs row new, k.few);
  blocks = omega (arith, length-set counts (row / 64) n, k.blocks);
  long = omega (arith, length-set xs row new, length-set counts (row / 64) n, k.long);
  each = λ block low. ⊎_elim (λ same. here block same) (λ ne. there block ne (omega (arith, low, length-set counts (row / 64) n)))
      (cases_eq block (row / 64));
}
  where
    inside : row / 64 < length counts
    inside = row_block xs counts row k (slice_get_within xs row old e)

    here : (block : ℕ) → block ≡ row / 64 → get_or (set counts (row / 64) n) block 0 ≡ runnable_in (set xs row new) block
    here block same =
        let t : nat_eq (row / 64) block ≡ true = eq-eqb (row / 64) block (sym same) in
        let was : ◌≡◌ {A = ℕ} (cond (nat_eq (row / 64) block && may_run old) 1 0) (cond (may_run old) 1 0) =
        ap (λ (b : Bool). cond (b && may_run old) 1 0) t in
        let is : ◌≡◌ {A = ℕ} (cond (nat_eq (row / 64) block && may_run new) 1 0) (cond (may_run new) 1 0) =
        ap (λ (b : Bool). cond (b && may_run new) 1 0) t in
        let read : get_or (set counts (row / 64) n) block 0 ≡ n = ap (λ (j : ℕ). get_or (set counts (row / 64) n) j 0) same
        ∙ get_or-set_same counts (row / 64) n 0 inside in
        let before : get_or counts (row / 64) 0 ≡ runnable_in xs block = k.each (row / 64) inside ∙ ap (runnable_in xs) (sym same) in
        omega (arith, read, before, was, is, h, runnable_set xs row old new block e)

    there : (block : ℕ) → block ≢ row / 64 → block < length counts → get_or (set counts (row / 64) n) block 0 ≡ runnable_in (set xs row new) block
    there block ne low =
        let t : nat_eq (row / 64) block ≡ false = ne_eqb (row / 64) block (λ f. ne (sym f)) in
        let was : ◌≡◌ {A = ℕ} (cond (nat_eq (row / 64) block && may_run old) 1 0) 0 = ap (λ (b : Bool). cond (b && may_run old) 1 0) t in
        let is : ◌≡◌ {A = ℕ} (cond (nat_eq (row / 64) block && may_run new) 1 0) 0 = ap (λ (b : Bool). cond (b && may_run new) 1 0) t in
        let read : get_or (set counts (row / 64) n) block 0 ≡ get_or counts block 0 = get_or-set_other counts (row / 64) block n 0 ne in
        omega (arith, read, k.each block low, was, is, runnable_set xs row old new block e)

pub first_low : (xs : List Standing) (row : ℕ) → Some row ≡ position may_run xs → row < length xs
first_low xs row e =
    let d : Standing = record { touched = false; outcome = None; ran = false; done = false; waits = 0 } in
    (position-Some may_run xs row d (sym e)).0

pub there : (xs : List Standing) (row : ℕ) (d : Standing) → row < length xs → slice_get xs row ≡ Some (get_or xs row d)
there xs row d low = let m = place_there xs row low in m.1 ∙ ap Some (sym (get_or_from_slice_get xs row m.0 d m.1))

-- a block that counts a row has one before its end
pub some_within : (xs : List Standing) (block row : ℕ) → IsNoneBefore xs row → 0 < runnable_in xs block → row < 64 * block + 64
some_within xs block row h some = ⊎_elim (λ lt. lt)
    (λ ge. absurd (omega (arith, some, none_in 0 xs (λ k s low e. h k s (omega (arith, low)) e) ge)))
    (cases_lt row (64 * block + 64))
  where
    past : (n : ℕ) (y : Standing) (b : Bool) → nat_eq (n / 64) block ≡ b → 64 * block + 64 ≤ row → (n < row → may_run y ≡ false) →
        ◌≡◌ {A = ℕ} (one (counts block (n, y))) 0
    past n y true e ge f =
        let same : n / 64 ≡ block = eqb-true (n / 64) block e in
        let low : n < row = omega (arith, ge, same, div-add-mod' n 64, mod_below n 64 (omega arith)) in
        ap (λ (b : Bool). one (b && may_run y)) e ∙ ap one (f low)
    past n y false e ge f = ap (λ (b : Bool). one (b && may_run y)) e

    none_in : (n : ℕ) (ys : List Standing) → ((k : ℕ) (s : Standing) → n + k < row → slice_get ys k ≡ Some s → may_run s ≡ false) →
        64 * block + 64 ≤ row → count_by (counts block) (enumerate_from n ys) ≡ 0
    none_in n [] f ge = refl
    none_in n (y ∷ ys) f ge =
        omega (
          arith,
          sum_by-cons (λ (p : ℕ × Standing). one (counts block p)) (n, y) (enumerate_from (n + 1) ys),
          past n y (nat_eq (n / 64) block) refl ge (λ low. f 0 y (omega (arith, low)) refl),
          none_in (n + 1) ys (λ k s low e. f (suc k) s (omega (arith, low)) e) ge,
        )

pub counted_alike_set : (xs : List Standing) (counts : List ℕ) (row : ℕ) (old new : Standing) → AreCounted xs counts → slice_get xs row ≡ Some old →
    may_run old ≡ may_run new → AreCounted (set xs row new) counts
counted_alike_set xs kept row old new k e same =
    let n : ◌≡◌ {A = ℕ} (cond (may_run old) 1 0) (cond (may_run new) 1 0) = ap (λ (b : Bool). cond b 1 0) same in
    subst (AreCounted (set xs row new)) (unchanged kept (row / 64)) (counted_set xs kept row old new (get_or kept (row / 64) 0) k e (omega (arith, n)))
  where
    unchanged : (ks : List ℕ) (i : ℕ) → set ks i (get_or ks i 0) ≡ ks
    unchanged [] i = refl
    unchanged (x ∷ ks) zero = refl
    unchanged (x ∷ ks) (suc i) = ap (λ (js : List ℕ). x ∷ js) (unchanged ks i)
