-- How many numbers of a list pass a test, and how often one number stands in it.
use Rattle.std.proofs.Common.{◌≡◌, ℕ, ◌+◌, ◌<◌, List, [], ◌∷◌, ◌++◌, Bool, true, false, cond, ◌&&◌, ◌||◌, not, length, map}
use Rattle.std.proofs.Common.{take, drop, set, get_or, nat_eq, refl, ap, sym, ◌∙◌, ⊎_elim, arith, Vec}
use Rattle.std.specs.Prelude.{Contains, count_by}
use Rattle.std.specs.List.{list_all}
use Rattle.std.specs.declared.alloc.Global.{Global}
use Rattle.std.proofs.lemmas.Bool.{cases_eq, eq-eqb, ne_eqb}
use Rattle.std.proofs.lemmas.Grind.{common_steps}
use Rattle.std.proofs.lemmas.List.{map-set, get_or-map}
use Rattle.std.proofs.lemmas.List.Sums.{sum_by-cons, sum_by_push}
use Rattle.rl_graph.proofs.ToolsLemmas.{contains_tail, contains_cases}

-- one element more
pub count_push : (p : ℕ → Bool) (xs : List ℕ) (x : ℕ) → count_by p (xs ++ x ∷ []) ≡ count_by p xs + cond (p x) 1 0
count_push p xs x = sum_by_push (λ (y : ℕ). cond (p y) 1 0) xs x

pub none_from : (b : Bool) → b ≡ false → ◌≡◌ {A = ℕ} (cond b 1 0) 0
none_from b e = ap (λ (c : Bool). cond c 1 0) e

-- nothing is counted where each passes
pub count_none : (p : ℕ → Bool) (xs : List ℕ) → nat_eq (count_by (λ x. not (p x)) xs) 0 ≡ list_all p xs
count_none p [] = refl
count_none p (x ∷ xs) = step (p x) refl (count_none p xs)
  where
    whole : count_by (λ y. not (p y)) (x ∷ xs) ≡ cond (not (p x)) 1 0 + count_by (λ y. not (p y)) xs
    whole = sum_by-cons (λ (y : ℕ). cond (not (p y)) 1 0) x xs

    step : (b : Bool) → p x ≡ b → nat_eq (count_by (λ y. not (p y)) xs) 0 ≡ list_all p xs →
        nat_eq (count_by (λ y. not (p y)) (x ∷ xs)) 0 ≡ list_all p (x ∷ xs)
    step true e rest =
        let n : count_by (λ y. not (p y)) (x ∷ xs) ≡ count_by (λ y. not (p y)) xs = whole
        ∙ ap (λ (b : Bool). cond (not b) 1 0 + count_by (λ y. not (p y)) xs) e ∙ omega arith in
        ap (λ (k : ℕ). nat_eq k 0) n ∙ rest ∙ ap (λ (b : Bool). b && list_all p xs) (sym e)
    step false e rest =
        let n : count_by (λ y. not (p y)) (x ∷ xs) ≡ 1 + count_by (λ y. not (p y)) xs = whole
        ∙ ap (λ (b : Bool). cond (not b) 1 0 + count_by (λ y. not (p y)) xs) e in
        ne_eqb (count_by (λ y. not (p y)) (x ∷ xs)) 0 (λ z. omega (arith, n, z)) ∙ ap (λ (b : Bool). b && list_all p xs) (sym e)

-- where one that did not pass does from now on, as many fewer are counted as there are of it
pub count_fewer : (p q : ℕ → Bool) (row : ℕ) (xs : List ℕ) → p row ≡ false → ((x : ℕ) → q x ≡ (p x || nat_eq x row)) →
    count_by (λ x. not (q x)) xs + count_by (nat_eq row) xs ≡ count_by (λ x. not (p x)) xs
count_fewer p q row [] fails after = refl
count_fewer p q row (x ∷ xs) fails after =
    omega (
      arith,
      sum_by-cons (λ (y : ℕ). cond (not (q y)) 1 0) x xs,
      sum_by-cons (λ (y : ℕ). cond (nat_eq row y) 1 0) x xs,
      sum_by-cons (λ (y : ℕ). cond (not (p y)) 1 0) x xs,
      count_fewer p q row xs fails after,
      ⊎_elim (λ e. here e) (λ ne. there ne) (cases_eq x row),
    )
  where
    here : x ≡ row → cond (not (q x)) 1 0 + cond (nat_eq row x) 1 0 ≡ cond (not (p x)) 1 0
    here e =
        let is : nat_eq row x ≡ true = eq-eqb row x (sym e) in
        let was : p x ≡ false = ap p e ∙ fails in
        let now : q x ≡ true = after x ∙ ap (λ (b : Bool). b || nat_eq x row) was ∙ eq-eqb x row e in
        rw (is, was, now) refl

    there : (x ≡ row → ⊥) → cond (not (q x)) 1 0 + cond (nat_eq row x) 1 0 ≡ cond (not (p x)) 1 0
    there ne =
        let is : nat_eq row x ≡ false = ne_eqb row x (λ e. ne (sym e)) in
        let off : nat_eq x row ≡ false = ne_eqb x row ne in
        let now : q x ≡ p x = after x ∙ ap (λ (b : Bool). p x || b) off ∙ or_nothing (p x) in
        rw (is, now) (step (p x))
      where
        or_nothing : (b : Bool) → (b || false) ≡ b
        or_nothing true = refl
        or_nothing false = refl

        step : (b : Bool) → cond (not b) 1 0 + 0 ≡ cond (not b) 1 0
        step true = refl
        step false = refl

-- some element is counted
pub counted_in : (row : ℕ) (xs : List ℕ) → count_by (nat_eq row) xs ≡ 0 → Contains xs row → ⊥
counted_in row [] e c = absurd (omega (arith, c.1))
counted_in row (x ∷ xs) e c =
    let whole : count_by (nat_eq row) (x ∷ xs) ≡ cond (nat_eq row x) 1 0 + count_by (nat_eq row) xs =
    sum_by-cons (λ (y : ℕ). cond (nat_eq row y) 1 0) x xs in
    ⊎_elim
    (λ s. let one : ◌≡◌ {A = ℕ} (cond (nat_eq row x) 1 0) 1 =
    ap (λ (b : Bool). cond b 1 0) (eq-eqb row x (sym s)) in absurd (omega (arith, e, whole, one)))
    (λ t. counted_in row xs (omega (arith, e, whole)) t)
    (contains_cases x xs row c)

pub some_counted : (row : ℕ) (xs : List ℕ) → (count_by (nat_eq row) xs ≡ 0 → ⊥) → Contains xs row
some_counted row [] some = absurd (some refl)
some_counted row (x ∷ xs) some = ⊎_elim
    (λ e. (0, omega arith, sym e))
    (λ ne. let off : ◌≡◌ {A = ℕ} (cond (nat_eq row x) 1 0) 0 = ap (λ (b : Bool). cond b 1 0) (ne_eqb row x ne) in
    contains_tail x xs row (some_counted row xs (λ z. some (omega (arith, sum_by-cons (λ (y : ℕ). cond (nat_eq row y) 1 0) x xs, off, z)))))
    (cases_eq row x)

-- ---- lists that are lent and come back

-- a push to one of the lists
pub pushed : (lists : List (Vec ℕ Global)) (at x : ℕ) (d new : Vec ℕ Global) → at < length lists → new.items ≡ (get_or lists at d).items ++ x ∷ []
    → map (λ (v : Vec ℕ Global). v.items) (set lists at new)
    ≡ set (map (λ (v : Vec ℕ Global). v.items) lists) at (get_or (map (λ (v : Vec ℕ Global). v.items) lists) at [] ++ x ∷ [])
pushed lists at x d new low e =
    map-set (λ (v : Vec ℕ Global). v.items) lists at new
    ∙ ap (set (map (λ (v : Vec ℕ Global). v.items) lists) at)
    (e ∙ ap (λ (xs : List ℕ). xs ++ x ∷ []) (sym (get_or-map (λ (v : Vec ℕ Global). v.items) lists at d [] low)))

-- what is lent as a slice and comes back at the same length
pub lent_back : {X : Type 0} (n : ℕ) (xs ys : List X) → length xs ≡ length ys → length ys ≡ n → take n (xs ++ drop (length xs) ys) ≡ xs
lent_back n xs ys e f = grind (arith, common_steps)
