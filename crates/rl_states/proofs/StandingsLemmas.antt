-- Lists by their places, and the standings of rows to which nothing happened.
use Rattle.std.proofs.Common.{◌≡◌, ◌≢◌, ℕ, zero, suc, ◌+◌, ◌-◌, ◌<◌, ◌≤◌, List, [], ◌∷◌, ◌++◌, Bool, true, false}
use Rattle.std.proofs.Common.{cond, ◌||◌, not, length, set, take, get_or, map, nat_eq, nat_lt, Option, Some, None, refl, ap, sym, subst, ◌∙◌}
use Rattle.std.proofs.Common.{⊎_elim, arith}
use Rattle.std.specs.Prelude.{Contains, count_by, option_map, slice_get}
use Rattle.std.specs.List.{enumerate_from, range_with_len, list_any}
use Rattle.std.specs.Option.{option_map_or}
use Rattle.std.proofs.lemmas.Bool.{cases_eq, cases_lt, lt-ltb, le-ltb, eq-eqb, ne_eqb, or_left, or_right}
use Rattle.std.proofs.lemmas.Bool.Decides.{nat_tests}
use Rattle.std.proofs.lemmas.List.{take_more, take_all}
use Rattle.std.proofs.lemmas.List.FromFn.{get_or-map-range_with_len, length-map-range_with_len}
use Rattle.std.proofs.lemmas.List.Folds.{list_any-append}
use Rattle.std.proofs.lemmas.List.Sums.{count_by_more_yes, sum_by-cons, sum_by-take-le}
use Rattle.std.proofs.lemmas.Option.{slice_get_past, get_or_from_slice_get}
use Rattle.rl_names.specs.declared.row.Row.{Row}
use Rattle.rl_view_spec.specs.Closure.{Registered, has_feature}
use Rattle.rl_view_spec.specs.Numbers.{needs_of}
use Rattle.rl_view_spec.specs.Progress.{is_skipped_at}
use Rattle.rl_view_spec.proofs.ToolsLemmas.{contains_head, contains_tail, place_there}
use Rattle.rl_states.specs.declared.standing.Standing.{Standing}
use Rattle.rl_states.specs.Standings.{begun, by_place, for_rows, fresh, is_done_in, touch_at, release_at}
use Rattle.rl_graph.proofs.CountsLemmas.{count_push}

-- ---- lists by their places

places_from : {X : Type 0} (f : ℕ → X → X) (n : ℕ) (xs : List X) (k : ℕ) →
    slice_get (map (λ (numbered : ℕ × X). f numbered.0 numbered.1) (enumerate_from n xs)) k ≡ option_map (f (n + k)) (slice_get xs k)
places_from f n [] k = refl
places_from f n (x ∷ xs) zero = let e : n ≡ n + 0 = omega arith in ap (λ (m : ℕ). Some (f m x)) e
places_from {X = X} f n (x ∷ xs) (suc k) = let e : (n + 1) + k ≡ n + suc k = omega arith in places_from f (n + 1) xs k
    ∙ ap (λ (m : ℕ). option_map (f m) (slice_get xs k)) e

pub place : {X : Type 0} (f : ℕ → X → X) (xs : List X) (k : ℕ) → slice_get (by_place f xs) k ≡ option_map (f k) (slice_get xs k)
place f xs k = let e : 0 + k ≡ k = omega arith in places_from f 0 xs k ∙ ap (λ (m : ℕ). option_map (f m) (slice_get xs k)) e

pub same_places : {X : Type 0} (xs ys : List X) → ((k : ℕ) → slice_get xs k ≡ slice_get ys k) → xs ≡ ys
same_places [] [] h = refl
same_places [] (y ∷ ys) h = let e : None ≡ Some y = h 0 in cc
same_places (x ∷ xs) [] h = let e : Some x ≡ None = h 0 in cc
same_places {X = X} (x ∷ xs) (y ∷ ys) h =
    let e : Some x ≡ Some y = h 0 in
    let same : x ≡ y = cc in
    ap (λ (z : X). z ∷ xs) same ∙ ap (λ (zs : List X). y ∷ zs) (same_places xs ys (λ k. h (suc k)))

pub length_places : {X : Type 0} (f : ℕ → X → X) (xs : List X) → length (by_place f xs) ≡ length xs
length_places {X = X} f xs = go 0 xs
  where
    go : (n : ℕ) (ys : List X) → length (map (λ (numbered : ℕ × X). f numbered.0 numbered.1) (enumerate_from n ys)) ≡ length ys
    go n [] = refl
    go n (y ∷ ys) = ap suc (go (n + 1) ys)

pub set_place : {X : Type 0} (xs : List X) (i : ℕ) (x : X) (k : ℕ) → i < length xs →
    slice_get (set xs i x) k ≡ cond (nat_eq k i) (Some x) (slice_get xs k)
set_place [] i x k low = absurd (omega (arith, low))
set_place (y ∷ xs) zero x zero low = refl
set_place (y ∷ xs) zero x (suc k) low = let t : nat_eq (suc k) 0 ≡ false = ne_eqb (suc k) 0 (λ e. omega (arith, e)) in rw t refl
set_place (y ∷ xs) (suc i) x zero low = let t : nat_eq 0 (suc i) ≡ false = ne_eqb 0 (suc i) (λ e. omega (arith, e)) in rw t refl
set_place {X = X} (y ∷ xs) (suc i) x (suc k) low =
    let t : nat_eq (suc k) (suc i) ≡ nat_eq k i = grind (arith, nat_tests) in
    set_place xs i x k (omega (arith, low)) ∙ ap (λ (b : Bool). cond b (Some x) (slice_get xs k)) (sym t)

-- a list over numbers
pub over_numbers : {X : Type 0} (f : ℕ → X) (n k : ℕ) → slice_get (map f (range_with_len 0 n)) k ≡ cond (nat_lt k n) (Some (f k)) None
over_numbers {X = X} f n k = go 0 n k ∙ ap (λ (m : ℕ). cond (nat_lt k n) (Some (f m)) None) (omega arith)
  where
    go : (a n k : ℕ) → slice_get (map f (range_with_len a n)) k ≡ cond (nat_lt k n) (Some (f (a + k))) None
    go a zero k = let t : nat_lt k 0 ≡ false = le-ltb k 0 (omega arith) in rw t refl
    go a (suc n) zero =
        let t : nat_lt 0 (suc n) ≡ true = lt-ltb 0 (suc n) (omega arith) in
        let e : a ≡ a + 0 = omega arith in
        ap (λ (m : ℕ). Some (f m)) e ∙ ap (λ (b : Bool). cond b (Some (f (a + 0))) None) (sym t)
    go a (suc n) (suc k) =
        let t : nat_lt (suc k) (suc n) ≡ nat_lt k n = grind (arith, nat_tests) in
        let e : (a + 1) + k ≡ a + suc k = omega arith in
        go (a + 1) n k ∙ ap (λ (m : ℕ). cond (nat_lt k n) (Some (f m)) None) e ∙ ap (λ (b : Bool). cond b (Some (f (a + suc k))) None) (sym t)

-- what stands there is what the function gives
pub over_at : {X : Type 0} (f : ℕ → X) (n k : ℕ) (x : X) → slice_get (map f (range_with_len 0 n)) k ≡ Some x → (k < n) × (x ≡ f k)
over_at {X = X} f n k x e = ⊎_elim (λ lt. (lt, within lt)) (λ ge. past ge) (cases_lt k n)
  where
    within : k < n → x ≡ f k
    within lt =
        let t : nat_lt k n ≡ true = lt-ltb k n lt in
        let g : Some (f k) ≡ Some x = sym (over_numbers f n k ∙ ap (λ (b : Bool). cond b (Some (f k)) None) t) ∙ e in cc

    past : n ≤ k → (k < n) × (x ≡ f k)
    past ge =
        let t : nat_lt k n ≡ false = le-ltb k n ge in
        let g : None ≡ Some x = sym (over_numbers f n k ∙ ap (λ (b : Bool). cond b (Some (f k)) None) t) ∙ e in cc

pub over_set : {X : Type 0} (f g : ℕ → X) (n i : ℕ) → i < n → ((k : ℕ) → k ≢ i → f k ≡ g k) →
    set (map f (range_with_len 0 n)) i (g i) ≡ map g (range_with_len 0 n)
over_set {X = X} f g n i low h = same_places (set (map f (range_with_len 0 n)) i (g i)) (map g (range_with_len 0 n)) (λ k.
    set_place (map f (range_with_len 0 n)) i (g i) k (omega (arith, length-map-range_with_len f 0 n, low))
    ∙ ap (λ (o : Option X). cond (nat_eq k i) (Some (g i)) o) (over_numbers f n k)
    ∙ ⊎_elim (λ e. here k e) (λ ne. there k ne) (cases_eq k i)
    ∙ sym (over_numbers g n k))
  where
    here : (k : ℕ) → k ≡ i → cond (nat_eq k i) (Some (g i)) (cond (nat_lt k n) (Some (f k)) None) ≡ cond (nat_lt k n) (Some (g k)) None
    here k e =
        let t : nat_eq k i ≡ true = eq-eqb k i e in
        let u : nat_lt k n ≡ true = lt-ltb k n (omega (arith, e, low)) in
        rw (t, u) (ap (λ (m : ℕ). Some (g m)) (sym e))

    there : (k : ℕ) → k ≢ i → cond (nat_eq k i) (Some (g i)) (cond (nat_lt k n) (Some (f k)) None) ≡ cond (nat_lt k n) (Some (g k)) None
    there k ne =
        let t : nat_eq k i ≡ false = ne_eqb k i ne in
        rw (t, h k ne) refl

pub map_same : {X Y : Type 0} (f g : X → Y) (xs : List X) → ((x : X) → f x ≡ g x) → map f xs ≡ map g xs
map_same f g [] h = refl
map_same {Y = Y} f g (x ∷ xs) h = ap (λ (y : Y). y ∷ map f xs) (h x) ∙ ap (λ (ys : List Y). g x ∷ ys) (map_same f g xs h)

-- ---- counts

-- two tests that agree at each element count the same
pub count_agree : (p q : ℕ → Bool) (xs : List ℕ) → ((x : ℕ) → Contains xs x → p x ≡ q x) → count_by p xs ≡ count_by q xs
count_agree p q [] h = refl
count_agree p q (x ∷ xs) h =
    let here : ◌≡◌ {A = ℕ} (cond (p x) 1 0) (cond (q x) 1 0) = ap (λ (b : Bool). cond b 1 0) (h x (contains_head x xs)) in
    omega (
      arith,
      sum_by-cons (λ (y : ℕ). cond (p y) 1 0) x xs,
      sum_by-cons (λ (y : ℕ). cond (q y) 1 0) x xs,
      here,
      count_agree p q xs
          (λ y c. h y (contains_tail x xs y c)),
    )

-- ---- rows to which nothing happened

skipped_past : (r : Registered) (k : ℕ) → length r.rows ≤ k → is_skipped_at r k ≡ false
skipped_past r k ge = ap (λ (o : Option Row). option_map_or (λ (found : Row). has_feature r found.skip) o false) (slice_get_past r.rows k ge)

pub done_in : (r : Registered) (f : ℕ → Standing) (k : ℕ) → ((row : ℕ) → (f row).done ≡ is_skipped_at r row) →
    is_done_in (for_rows r f) k ≡ is_skipped_at r k
done_in r f k h =
    ap (λ (o : Option Standing). option_map_or (λ (standing : Standing). standing.done) o false) (over_numbers f (length r.rows) k)
    ∙ ⊎_elim
    (λ lt. let t : nat_lt k (length r.rows) ≡ true = lt-ltb k (length r.rows) lt in
    ap (λ (b : Bool). option_map_or (λ (standing : Standing). standing.done) (cond b (Some (f k)) None) false) t ∙ h k)
    (λ ge. let t : nat_lt k (length r.rows) ≡ false = le-ltb k (length r.rows) ge in
    ap (λ (b : Bool). option_map_or (λ (standing : Standing). standing.done) (cond b (Some (f k)) None) false) t ∙ sym (skipped_past r k ge))
    (cases_lt k (length r.rows))

-- the standings while the waits of the first rows are counted
abbrev pub counting : Registered → ℕ → ℕ → Standing
counting r n row = cond (nat_lt row n) (fresh r row) (begun r row)

pub counting_none : (r : Registered) → for_rows r (begun r) ≡ for_rows r (counting r 0)
counting_none r = map_same (begun r) (counting r 0) (range_with_len 0 (length r.rows)) (λ k.
    let t : nat_lt k 0 ≡ false = le-ltb k 0 (omega arith) in ap (λ (b : Bool). cond b (fresh r k) (begun r k)) (sym t))

pub counting_more : (r : Registered) (n : ℕ) → n < length r.rows → set (for_rows r (counting r n)) n (fresh r n) ≡ for_rows r (counting r (n + 1))
counting_more r n low =
    let t : nat_lt n (n + 1) ≡ true = lt-ltb n (n + 1) (omega arith) in
    ap (λ (s : Standing). set (for_rows r (counting r n)) n s) (ap (λ (b : Bool). cond b (fresh r n) (begun r n)) (sym t))
    ∙ over_set (counting r n) (counting r (n + 1)) (length r.rows) n low (λ k ne.
    let u : nat_lt k n ≡ nat_lt k (n + 1) = grind (arith, nat_tests) in ap (λ (b : Bool). cond b (fresh r k) (begun r k)) u)

pub counting_all : (r : Registered) → for_rows r (counting r (length r.rows)) ≡ for_rows r (fresh r)
counting_all r = same_places (for_rows r (counting r (length r.rows))) (for_rows r (fresh r)) (λ k.
    over_numbers (counting r (length r.rows)) (length r.rows) k
    ∙ step k (nat_lt k (length r.rows))
    ∙ sym (over_numbers (fresh r) (length r.rows) k))
  where
    step : (k : ℕ) (b : Bool) → cond b (Some (cond b (fresh r k) (begun r k))) None ≡ cond b (Some (fresh r k)) None
    step k true = refl
    step k false = refl

counting_done : (r : Registered) (n row : ℕ) → (counting r n row).done ≡ is_skipped_at r row
counting_done r n row = step (nat_lt row n)
  where
    step : (b : Bool) → (cond b (fresh r row) (begun r row)).done ≡ is_skipped_at r row
    step true = refl
    step false = refl

-- what is counted is what a row waits for
pub counted : (r : Registered) (n row : ℕ) → count_by (λ other. not (nat_eq other row || is_done_in (for_rows r (counting r n)) other)) (needs_of r row)
    ≡ (fresh r row).waits
counted r n row = count_agree (λ other. not (nat_eq other row || is_done_in (for_rows r (counting r n)) other))
    (λ other. not (nat_eq other row || is_skipped_at r other)) (needs_of r row)
    (λ other c. ap (λ (b : Bool). not (nat_eq other row || b)) (done_in r (counting r n) other (counting_done r n)))

-- one row more is counted
pub count_step : (r : Registered) (n : ℕ) (standings : List Standing) (waits : ℕ) (d : Standing) → standings ≡ for_rows r (counting r n) →
    n < length r.rows → waits ≡ (fresh r n).waits
    → set standings n (record (get_or standings n d) { waits = waits }) ≡ for_rows r (counting r (n + 1))
count_step r n standings waits d e low w =
    let t : nat_lt n n ≡ false = le-ltb n n (omega arith) in
    let at : get_or standings n d ≡ begun r n =
    ap (λ (ss : List Standing). get_or ss n d) e ∙ get_or-map-range_with_len (counting r n) 0 (length r.rows) n n d low (omega arith)
    ∙ ap (λ (b : Bool). cond b (fresh r n) (begun r n)) t in
    ap (λ (ss : List Standing). set ss n (record (get_or standings n d) { waits = waits })) e
    ∙ ap (λ (s : Standing). set (for_rows r (counting r n)) n (record s { waits = waits })) at
    ∙ ap (λ (m : ℕ). set (for_rows r (counting r n)) n (record (begun r n) { waits = m })) w
    ∙ counting_more r n low

pub length_rows : (r : Registered) (f : ℕ → Standing) → length (for_rows r f) ≡ length r.rows
length_rows r f = length-map-range_with_len f 0 (length r.rows)

-- ---- one place after another changes

pub set_by_place : {X : Type 0} (f g : ℕ → X → X) (h : X → X) (xs : List X) (i : ℕ) (d : X) → i < length xs →
    ((x : X) → h (f i x) ≡ g i x) → ((k : ℕ) (x : X) → k ≢ i → f k x ≡ g k x)
    → set (by_place f xs) i (h (get_or (by_place f xs) i d)) ≡ by_place g xs
set_by_place {X = X} f g h xs i d low here others = same_places (set (by_place f xs) i (h (get_or (by_place f xs) i d))) (by_place g xs) (λ k.
    set_place (by_place f xs) i (h (get_or (by_place f xs) i d)) k long
    ∙ ap (λ (o : Option X). cond (nat_eq k i) (Some (h (get_or (by_place f xs) i d))) o) (place f xs k)
    ∙ ⊎_elim (λ e. same k e) (λ ne. apart k ne) (cases_eq k i)
    ∙ sym (place g xs k))
  where
    long : i < length (by_place f xs)
    long = omega (arith, low, length_places f xs)

    at : (x : X) → slice_get xs i ≡ Some x → Some (h (get_or (by_place f xs) i d)) ≡ option_map (g i) (slice_get xs i)
    at x e =
        let read : get_or (by_place f xs) i d ≡ f i x = get_or_from_slice_get (by_place f xs) i (f i x) d (place f xs i ∙ ap (option_map (f i)) e) in
        ap Some (ap h read ∙ here x) ∙ sym (ap (option_map (g i)) e)

    same : (k : ℕ) → k ≡ i → cond (nat_eq k i) (Some (h (get_or (by_place f xs) i d))) (option_map (f k) (slice_get xs k))
        ≡ option_map (g k) (slice_get xs k)
    same k e =
        let t : nat_eq k i ≡ true = eq-eqb k i e in
        let m = place_there xs i low in
        ap (λ (b : Bool). cond b (Some (h (get_or (by_place f xs) i d))) (option_map (f k) (slice_get xs k))) t ∙ at m.0 m.1
        ∙ ap (λ (j : ℕ). option_map (g j) (slice_get xs j)) (sym e)

    both : (k : ℕ) → k ≢ i → (o : Option X) → option_map (f k) o ≡ option_map (g k) o
    both k ne None = refl
    both k ne (Some x) = ap Some (others k x ne)

    apart : (k : ℕ) → k ≢ i → cond (nat_eq k i) (Some (h (get_or (by_place f xs) i d))) (option_map (f k) (slice_get xs k))
        ≡ option_map (g k) (slice_get xs k)
    apart k ne =
        let t : nat_eq k i ≡ false = ne_eqb k i ne in
        ap (λ (b : Bool). cond b (Some (h (get_or (by_place f xs) i d))) (option_map (f k) (slice_get xs k))) t ∙ both k ne (slice_get xs k)

-- nothing changes
pub by_place_same : {X : Type 0} (f : ℕ → X → X) (xs : List X) → ((k : ℕ) (x : X) → f k x ≡ x) → xs ≡ by_place f xs
by_place_same {X = X} f xs h = same_places xs (by_place f xs) (λ k. step k (slice_get xs k) ∙ sym (place f xs k))
  where
    step : (k : ℕ) (o : Option X) → o ≡ option_map (f k) o
    step k None = refl
    step k (Some x) = ap Some (sym (h k x))

pub touch_none : (standings : List Standing) → standings ≡ by_place (touch_at []) standings
touch_none standings = by_place_same (touch_at []) standings (λ k x. refl)

pub touch_more : (rows : List ℕ) (row : ℕ) (standings : List Standing) (d : Standing) → row < length standings
    → set (by_place (touch_at rows) standings) row (record (get_or (by_place (touch_at rows) standings) row d) { touched = true })
    ≡ by_place (touch_at (rows ++ row ∷ [])) standings
touch_more rows row standings d low = set_by_place (touch_at rows) (touch_at (rows ++ row ∷ [])) (λ s. record s { touched = true }) standings row d low here
    others
  where
    last : list_any (nat_eq row) (rows ++ row ∷ []) ≡ true
    last = list_any-append (nat_eq row) rows (row ∷ []) ∙ or_right (list_any (nat_eq row) rows) (nat_eq row row || false)
        (or_left (nat_eq row row) false (eq-eqb row row refl))

    here : (x : Standing) → ◌≡◌ {A = Standing} (record (touch_at rows row x) { touched = true }) (touch_at (rows ++ row ∷ []) row x)
    here x = step (list_any (nat_eq row) rows) ∙ ap (λ (b : Bool). cond b (record x { touched = true }) x) (sym last)
      where
        step : (b : Bool) → ◌≡◌ {A = Standing} (record (cond b (record x { touched = true }) x) { touched = true }) (record x { touched = true })
        step true = refl
        step false = refl

    others : (k : ℕ) (x : Standing) → k ≢ row → touch_at rows k x ≡ touch_at (rows ++ row ∷ []) k x
    others k x ne =
        let t : nat_eq k row ≡ false = ne_eqb k row ne in
        let same : list_any (nat_eq k) (rows ++ row ∷ []) ≡ list_any (nat_eq k) rows =
        list_any-append (nat_eq k) rows (row ∷ []) ∙ ap (λ (b : Bool). list_any (nat_eq k) rows || (b || false)) t
        ∙ or_false (list_any (nat_eq k) rows) in
        ap (λ (b : Bool). cond b (record x { touched = true }) x) (sym same)
      where
        or_false : (b : Bool) → (b || (false || false)) ≡ b
        or_false true = refl
        or_false false = refl

pub release_none : (standings : List Standing) → standings ≡ by_place (release_at []) standings
release_none standings = by_place_same (release_at []) standings
    (λ k x. let e : x.waits - 0 ≡ x.waits = omega arith in ap (λ (n : ℕ). record x { waits = n }) e)

pub release_more : (users : List ℕ) (user : ℕ) (standings : List Standing) (d : Standing) → user < length standings
    → set (by_place (release_at users) standings) user (record (get_or (by_place (release_at users) standings) user d)
    { waits = (get_or (by_place (release_at users) standings) user d).waits - 1 })
    ≡ by_place (release_at (users ++ user ∷ [])) standings
release_more users user standings d low = set_by_place (release_at users) (release_at (users ++ user ∷ [])) (λ s. record s { waits = s.waits - 1 }) standings
    user d low here others
  where
    more : (k : ℕ) (b : Bool) → nat_eq k user ≡ b → count_by (nat_eq k) (users ++ user ∷ []) ≡ count_by (nat_eq k) users + cond b 1 0
    more k b e = count_push (nat_eq k) users user ∙ ap (λ (c : Bool). count_by (nat_eq k) users + cond c 1 0) e

    here : (x : Standing) → ◌≡◌ {A = Standing} (record (release_at users user x) { waits = (release_at users user x).waits - 1 })
        (release_at (users ++ user ∷ []) user x)
    here x =
        let e : (x.waits - count_by (nat_eq user) users) - 1
        ≡ x.waits - count_by (nat_eq user) (users ++ user ∷ []) = omega (arith, more user true (eq-eqb user user refl)) in
        ap (λ (n : ℕ). record x { waits = n }) e

    others : (k : ℕ) (x : Standing) → k ≢ user → release_at users k x ≡ release_at (users ++ user ∷ []) k x
    others k x ne =
        let e : x.waits - count_by (nat_eq k) users ≡ x.waits - count_by (nat_eq k) (users ++ user ∷ []) = omega (arith, more k false (ne_eqb k user ne)) in
        ap (λ (n : ℕ). record x { waits = n }) e

-- a row that waits for one that comes next waits for one at least
pub release_fits : (users : List ℕ) (i : ℕ) (standings : List Standing) (d : Standing) → i < length users → get_or users i 0 < length standings
    → ((row : ℕ) (standing : Standing) → slice_get standings row ≡ Some standing → count_by (nat_eq row) users ≤ standing.waits)
    → 1 ≤ (get_or (by_place (release_at (take i users)) standings) (get_or users i 0) d).waits
release_fits users i standings d low there waiting =
    let user : ℕ = get_or users i 0 in
    let m = place_there standings user there in
    let read : get_or (by_place (release_at (take i users)) standings) user d ≡ release_at (take i users) user m.0 =
    get_or_from_slice_get (by_place (release_at (take i users)) standings) user (release_at (take i users) user m.0) d
    (place (release_at (take i users)) standings user ∙ ap (option_map (release_at (take i users) user)) m.1) in
    let more : count_by (nat_eq user) (take (i + 1) users) ≡ count_by (nat_eq user) (take i users) + 1 =
    count_by_more_yes (nat_eq user) users i 0 low (eq-eqb user user refl) in
    omega (arith, ap (λ (s : Standing). s.waits) read, more, waiting user m.0 m.1, sum_by-take-le (λ (x : ℕ). cond (nat_eq user x) 1 0) users (i + 1))

-- ---- the loops' steps

pub touch_step : (rows : List ℕ) (i : ℕ) (standings now : List Standing) (d : Standing) → now ≡ by_place (touch_at (take i rows)) standings →
    i < length rows → get_or rows i 0 < length standings
    → set now (get_or rows i 0) (record (get_or now (get_or rows i 0) d) { touched = true }) ≡ by_place (touch_at (take (i + 1) rows)) standings
touch_step rows i standings now d e low there =
    ap (λ (ss : List Standing). set ss (get_or rows i 0) (record (get_or ss (get_or rows i 0) d) { touched = true })) e
    ∙ touch_more (take i rows) (get_or rows i 0) standings d there
    ∙ ap (λ (rs : List ℕ). by_place (touch_at rs) standings) (sym (take_more rows i 0 low))

pub release_step : (users : List ℕ) (i : ℕ) (standings now : List Standing) (d : Standing) → now ≡ by_place (release_at (take i users)) standings →
    i < length users → get_or users i 0 < length standings
    → set now (get_or users i 0) (record (get_or now (get_or users i 0) d) { waits = (get_or now (get_or users i 0) d).waits - 1 })
    ≡ by_place (release_at (take (i + 1) users)) standings
release_step users i standings now d e low there =
    ap (λ (ss : List Standing). set ss (get_or users i 0) (record (get_or ss (get_or users i 0) d) { waits = (get_or ss (get_or users i 0) d).waits - 1 })) e
    ∙ release_more (take i users) (get_or users i 0) standings d there
    ∙ ap (λ (us : List ℕ). by_place (release_at us) standings) (sym (take_more users i 0 low))

pub release_room : (users : List ℕ) (i : ℕ) (standings now : List Standing) (d : Standing) → now ≡ by_place (release_at (take i users)) standings →
    i < length users → get_or users i 0 < length standings
    → ((row : ℕ) (standing : Standing) → slice_get standings row ≡ Some standing → count_by (nat_eq row) users ≤ standing.waits) →
    1 ≤ (get_or now (get_or users i 0) d).waits
release_room users i standings now d e low there waiting =
    subst (λ (ss : List Standing). 1 ≤ (get_or ss (get_or users i 0) d).waits) (sym e) (release_fits users i standings d low there waiting)

pub all_rows : (f : List ℕ → ℕ → Standing → Standing) (rows : List ℕ) (i : ℕ) (standings now : List Standing) →
    now ≡ by_place (f (take i rows)) standings → length rows ≤ i → now ≡ by_place (f rows) standings
all_rows f rows i standings now e end = e ∙ ap (λ (rs : List ℕ). by_place (f rs) standings) (take_all i rows end)
