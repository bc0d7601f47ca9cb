-- What a change uses up of a table's credit.
use Rattle.std.proofs.Common.{replicate, ◌||◌, None, eqb-true, ◌⊎◌, ◌≡◌, ◌≢◌, ℕ, suc, ◌+◌, ◌*◌, ◌<◌, ◌≤◌, List, []}
use Rattle.std.proofs.Common.{◌∷◌, Bool, true, false, cond, length, map, nat_eq, Option, refl, ap, sym, subst, ◌∙◌, ⊎_elim, arith}
use Rattle.std.specs.Prelude.{Contains, count_by, sum_by}
use Rattle.std.specs.List.{enumerate_from}
use Rattle.std.proofs.lemmas.Bool.{cases_eq, eq-eqb, ne_eqb}
use Rattle.std.proofs.lemmas.List.{get_or-replicate}
use Rattle.std.proofs.lemmas.List.Sums.{sum_by-cons}
use Rattle.rl_rows.proofs.EdgesLemmas.{needs_within}
use Rattle.rl_names.specs.declared.row.Row.{Row}
use Rattle.rl_view_spec.specs.Closure.{Registered}
use Rattle.rl_view_spec.specs.Numbers.{needs_of}
use Rattle.rl_view_spec.specs.Progress.{Cell, Progress, row_numbers, has_run, HasDistinctNames}
use Rattle.rl_view_spec.proofs.ToolsLemmas.{contains_head, contains_tail}
use Rattle.rl_states.specs.Changes.{after_ran, fresh_progress}
use Rattle.rl_states.specs.Credit.{entries, entries_to, is_spoiled_at, row_credit, credit}
use Rattle.rl_states.specs.Kept.{AreSpoiled}
use Rattle.rl_graph.specs.Graph.{marked, next_in}
use Rattle.rl_states.specs.Spoiled.{left, weight}
use Rattle.rl_states.specs.Users.{AreUsers}
use Rattle.rl_states.proofs.ChangesLemmas.{users_within}
use Rattle.rl_states.proofs.RunsLemmas.{has_run_after, spoiled_ran}
use Rattle.rl_states.proofs.TablesLemmas.{spoiled_is}
use Rattle.rl_states.proofs.VersionsLemmas.{AreAlike}

-- ---- sums over the numbers of rows

abbrev numbers : ℕ → List Row → List ℕ
numbers n rows = map (λ (numbered : ℕ × Row). numbered.0) (enumerate_from n rows)

-- of three and two
pub sum_within : (f g h i j : ℕ → ℕ) (n : ℕ) (rows : List Row) → ((k : ℕ) → n ≤ k → k < n + length rows → f k + g k + h k ≤ i k + j k)
    → sum_by f (numbers n rows) + sum_by g (numbers n rows) + sum_by h (numbers n rows) ≤ sum_by i (numbers n rows) + sum_by j (numbers n rows)
sum_within f g h i j n [] e = omega arith
sum_within f g h i j n (row ∷ rows) e =
    let rest : List ℕ = numbers (n + 1) rows in
    omega (
      arith,
      e n (omega arith) (omega arith),
      sum_within f g h i j (n + 1) rows (λ k low high. e k (omega (arith, low)) (omega (arith, high))),
      sum_by-cons f n rest,
      sum_by-cons g n rest,
      sum_by-cons h n rest,
      sum_by-cons i n rest,
      sum_by-cons j n rest,
    )

pub sum_le : (f g : ℕ → ℕ) (n : ℕ) (rows : List Row) → ((k : ℕ) → n ≤ k → k < n + length rows → f k ≤ g k) →
    sum_by f (numbers n rows) ≤ sum_by g (numbers n rows)
sum_le f g n [] e = omega arith
sum_le f g n (row ∷ rows) e =
    let rest : List ℕ = numbers (n + 1) rows in
    omega (
      arith,
      e n (omega arith) (omega arith),
      sum_le f g (n + 1) rows (λ k low high. e k (omega (arith, low)) (omega (arith, high))),
      sum_by-cons f n
          rest,
      sum_by-cons g n rest,
    )

pub sum_add : (f g : ℕ → ℕ) (n : ℕ) (rows : List Row) →
    sum_by (λ k. f k + g k) (numbers n rows) ≡ sum_by f (numbers n rows) + sum_by g (numbers n rows)
sum_add f g n [] = refl
sum_add f g n (row ∷ rows) =
    let rest : List ℕ = numbers (n + 1) rows in
    omega (arith, sum_add f g (n + 1) rows, sum_by-cons f n rest, sum_by-cons g n rest, sum_by-cons (λ k. f k + g k) n rest)

-- a number of a row counts
pub sum_one : (c row n : ℕ) (rows : List Row) → n ≤ row → row < n + length rows → c ≤ sum_by (λ k. cond (nat_eq row k) c 0) (numbers n rows)
sum_one c row n [] low high = absurd (omega (arith, low, high))
sum_one c row n (first ∷ rows) low high = ⊎_elim (λ e. here e)
    (λ ne. there ne (sum_one c row (n + 1) rows (omega (arith, low, ne)) (omega (arith, high)))) (cases_eq row n)
  where
    here : row ≡ n → c ≤ sum_by (λ k. cond (nat_eq row k) c 0) (numbers n (first ∷ rows))
    here e =
        let t : ◌≡◌ {A = ℕ} (cond (nat_eq row n) c 0) c = ap (λ (b : Bool). cond b c 0) (eq-eqb row n e) in
        omega (arith, t, sum_by-cons (λ k. cond (nat_eq row k) c 0) n (numbers (n + 1) rows))

    there : row ≢ n → c ≤ sum_by (λ k. cond (nat_eq row k) c 0) (numbers (n + 1) rows) →
        c ≤ sum_by (λ k. cond (nat_eq row k) c 0) (numbers n (first ∷ rows))
    there ne more = omega (arith, sum_by-cons (λ k. cond (nat_eq row k) c 0) n (numbers (n + 1) rows), more)

-- what is left of marks, by the numbers of rows
pub left_numbers : (w : ℕ → ℕ) (test : ℕ → Bool) (n : ℕ) (marks : List Bool) (rows : List Row) → length marks ≡ length rows →
    ((k : ℕ) → marked marks k ≡ test (n + k))
    → sum_by (λ (numbered : ℕ × Bool). cond numbered.1 0 (w numbered.0)) (enumerate_from n marks)
    ≡ sum_by (λ k. cond (test k) 0 (w k)) (numbers n rows)
left_numbers w test n [] [] long h = refl
left_numbers w test n [] (row ∷ rows) long h = absurd (omega (arith, long))
left_numbers w test n (mark ∷ marks) [] long h = absurd (omega (arith, long))
left_numbers w test n (mark ∷ marks) (row ∷ rows) long h =
    let start : n + 0 ≡ n = omega arith in
    let same : mark ≡ test n = h 0 ∙ ap test start in
    let first : ◌≡◌ {A = ℕ} (cond mark 0 (w n)) (cond (test n) 0 (w n)) = ap (λ (b : Bool). cond b 0 (w n)) same in
    omega (
      arith,
      first,
      sum_by-cons (λ (numbered : ℕ × Bool). cond numbered.1 0 (w numbered.0)) (n, mark) (enumerate_from (n + 1) marks),
      sum_by-cons (λ k. cond (test k) 0 (w k)) n (numbers (n + 1) rows),
      left_numbers w test (n + 1) marks rows (omega (arith, long)) (λ k. let next : n + suc k ≡ (n + 1) + k = omega arith in h (suc k) ∙ ap test next),
    )

pub left_is : (w : ℕ → ℕ) (r : Registered) (marks : List Bool) → length marks ≡ length r.rows →
    left w marks ≡ sum_by (λ k. cond (marked marks k) 0 (w k)) (row_numbers r)
left_is w r marks long = left_numbers w (marked marks) 0 marks r.rows long (λ k. let e : k ≡ 0 + k = omega arith in ap (marked marks) e)

-- ---- users and entries

all_counted : (us : List ℕ) (n : ℕ) (rows : List Row) → ((u : ℕ) → Contains us u → (n ≤ u) × (u < n + length rows)) →
    length us ≤ sum_by (λ k. count_by (nat_eq k) us) (numbers n rows)
all_counted [] n rows h = omega arith
all_counted (u ∷ us) n rows h =
    let here = h u (contains_head u us) in
    omega (
      arith,
      all_counted us n rows (λ v c. h v (contains_tail u us v c)),
      sum_one 1 u n rows here.0 here.1,
      sum_add (λ k. cond (nat_eq u k) 1 0) (λ k. count_by (nat_eq k) us) n rows,
      sum_le (λ k. cond (nat_eq u k) 1 0 + count_by (nat_eq k) us) (λ k. count_by (nat_eq k) (u ∷ us)) n rows (λ k low high. step k (cases_eq u k)),
    )
  where
    step : (k : ℕ) → (u ≡ k) ⊎ (u ≢ k) → cond (nat_eq u k) 1 0 + count_by (nat_eq k) us ≤ count_by (nat_eq k) (u ∷ us)
    step k d = ⊎_elim
        (λ e. let s : ◌≡◌ {A = ℕ} (cond (nat_eq u k) 1 0) 1 = ap (λ (b : Bool). cond b 1 0) (eq-eqb u k e) in
        let t : ◌≡◌ {A = ℕ} (cond (nat_eq k u) 1 0) 1 = ap (λ (b : Bool). cond b 1 0) (eq-eqb k u (sym e)) in
        omega (arith, s, t, sum_by-cons (λ (x : ℕ). cond (nat_eq k x) 1 0) u us))
        (λ ne. let s : ◌≡◌ {A = ℕ} (cond (nat_eq u k) 1 0) 0 = ap (λ (b : Bool). cond b 1 0) (ne_eqb u k ne) in
        omega (arith, s, sum_by-cons (λ (x : ℕ). cond (nat_eq k x) 1 0) u us))
        d

pub users_entries : (r : Registered) (users : List (List ℕ)) (row : ℕ) → AreUsers r users → row < length r.rows →
    length (next_in users row) ≤ entries_to r row
users_entries r users row u low =
    omega (
      arith,
      all_counted (next_in users row) 0 r.rows (λ user c. (omega arith, omega (arith, users_within r users u row user c, u.long))),
      sum_le (λ k. count_by (nat_eq k) (next_in users row)) (λ k. count_by (nat_eq row) (needs_of r k)) 0 r.rows
          (λ k from to. step k (nat_eq k row) (u.each row k low)),
    )
  where
    step : (k : ℕ) (b : Bool) → count_by (nat_eq k) (next_in users row) ≡ cond b 0 (count_by (nat_eq row) (needs_of r k)) →
        count_by (nat_eq k) (next_in users row) ≤ count_by (nat_eq row) (needs_of r k)
    step k true e = omega (arith, e)
    step k false e = omega (arith, e)

-- ---- the credit after a change

-- one row, which is spoiled or not before and after
one_row : (a b before after : Bool) (whole part ran ran' x : ℕ) → a ≡ before → b ≡ after → (a ≡ true → b ≡ true) → part ≤ whole →
    ran' + x ≤ ran → (cond after 0 whole + ran') + cond a 0 part + x ≤ (cond before 0 whole + ran) + cond b 0 part
one_row a b before after whole part ran ran' x e f keeps le runs =
    let s : ◌≡◌ {A = ℕ} (cond before 0 whole) (cond a 0 whole) = ap (λ (c : Bool). cond c 0 whole) (sym e) in
    let t : ◌≡◌ {A = ℕ} (cond after 0 whole) (cond b 0 whole) = ap (λ (c : Bool). cond c 0 whole) (sym f) in
    omega (arith, s, t, step a b keeps)
  where
    step : (a b : Bool) → (a ≡ true → b ≡ true) → (cond b 0 whole + ran') + cond a 0 part + x ≤ (cond a 0 whole + ran) + cond b 0 part
    step true true h = omega (arith, runs)
    step true false h = let g : false ≡ true = h refl in cc
    step false true h = omega (arith, runs, le)
    step false false h = omega (arith, runs)

abbrev pub ran_credit : Registered → Progress → ℕ → ℕ
ran_credit r t k = cond (has_run t k) 0 (32 + 5 * entries_to r k)

pub credit_after : (t : Progress) (cells : List Cell) (ran : List (ℕ × Bool)) (executing : Option ℕ) (users : List (List ℕ)) (marks marks' : List Bool)
    (x : ℕ → ℕ) → HasDistinctNames t.registered → AreUsers t.registered users → AreSpoiled t marks
    → AreSpoiled (record { registered = t.registered; cells = cells; ran = ran; executing = executing }) marks' →
    ((k : ℕ) → marked marks k ≡ true → marked marks' k ≡ true)
    → ((k : ℕ) → k < length t.registered.rows → ran_credit t.registered
    (record { registered = t.registered; cells = cells; ran = ran; executing = executing }) k + x k ≤ ran_credit t.registered t k)
    → credit (record { registered = t.registered; cells = cells; ran = ran; executing = executing }) + left (weight users) marks + sum_by x
    (row_numbers t.registered) ≤ credit t + left (weight users) marks'
credit_after t cells ran executing users marks marks' x distinct u m m' keeps runs =
    let r : Registered = t.registered in
    let after : Progress = record { registered = t.registered; cells = cells; ran = ran; executing = executing } in
    omega (
      arith,
      left_is (weight users) r marks m.long,
      left_is (weight users) r marks' m'.long,
      sum_within (row_credit after) (λ k. cond (marked marks k) 0 (weight users k)) x (row_credit t) (λ k. cond (marked marks' k) 0 (weight users k)) 0 r.rows
          (λ k from to. point k (omega (arith, to))),
    )
  where
    point : (k : ℕ) → k < length t.registered.rows
        → row_credit (record { registered = t.registered; cells = cells; ran = ran; executing = executing }) k + cond (marked marks k) 0 (weight users k) + x
        k ≤ row_credit t k + cond (marked marks' k) 0 (weight users k)
    point k low =
        let after : Progress = record { registered = t.registered; cells = cells; ran = ran; executing = executing } in
        one_row (marked marks k) (marked marks' k) (is_spoiled_at t k) (is_spoiled_at after k) (32 + 3 * entries_to t.registered k) (weight users k)
        (ran_credit t.registered t k) (ran_credit t.registered after k) (x k)
        (spoiled_is t marks k distinct m low) (spoiled_is after marks' k distinct m' low) (keeps k) (omega (arith, users_entries t.registered users k u low))
        (runs k low)

-- ---- the credit after a run

no_more : (a b : Bool) (c : ℕ) → cond (a || b) 0 c + 0 ≤ cond a 0 c
no_more true b c = omega arith
no_more false true c = omega arith
no_more false false c = omega arith

pub credit_thrown : (t : Progress) (row : ℕ) (threw : Bool) (users : List (List ℕ)) (marks marks' : List Bool) → HasDistinctNames t.registered →
    AreUsers t.registered users → AreSpoiled t marks → threw ≡ true
    → AreSpoiled (after_ran row true t) marks' → ((k : ℕ) → marked marks k ≡ true → marked marks' k ≡ true) →
    credit (after_ran row threw t) + left (weight users) marks ≤ credit t + left (weight users) marks'
credit_thrown t row false users marks marks' distinct u m e m' keeps = cc
credit_thrown t row true users marks marks' distinct u m e m' keeps =
    omega (
      arith,
      credit_after t t.cells (after_ran row true t).ran None users marks marks' (λ k. 0) distinct u m m' keeps (λ k low.
          let c : ℕ = 32 + 5 * entries_to t.registered k in
          subst (λ (b : Bool). cond b 0 c + 0 ≤ cond (has_run t k) 0 c) (sym (has_run_after t row true k)) (no_more (has_run t k) (nat_eq row k) c)),
    )

pub credit_well : (t : Progress) (row : ℕ) (threw : Bool) (users : List (List ℕ)) (marks : List Bool) → HasDistinctNames t.registered →
    AreUsers t.registered users → AreSpoiled t marks → threw ≡ false
    → row < length t.registered.rows → has_run t row ≡ false → credit (after_ran row threw t) + (32 + 5 * length (next_in users row)) ≤ credit t
credit_well t row true users marks distinct u m e low first = cc
credit_well t row false users marks distinct u m e low first =
    omega (
      arith,
      credit_after t t.cells (after_ran row false t).ran None users marks marks (λ k. cond (nat_eq row k) (32 + 5 * length (next_in users row)) 0) distinct u m
          (spoiled_ran t row marks m) (λ k h. h) (λ k there.
          let c : ℕ = 32 + 5 * entries_to t.registered k in
          subst (λ (b : Bool). cond b 0 c + cond (nat_eq row k) (32 + 5 * length (next_in users row)) 0 ≤ cond (has_run t k) 0 c)
          (sym (has_run_after t row false k)) (point k (nat_eq row k) refl)),
      sum_one (32 + 5 * length (next_in users row)) row 0 t.registered.rows (omega arith) (omega (arith, low)),
    )
  where
    point : (k : ℕ) (b : Bool) → nat_eq row k ≡ b → cond (has_run t k || b) 0 (32 + 5 * entries_to t.registered k) + cond b
        (32 + 5 * length (next_in users row)) 0 ≤ cond (has_run t k) 0 (32 + 5 * entries_to t.registered k)
    point k false e = last (has_run t k) (32 + 5 * entries_to t.registered k)
      where
        last : (a : Bool) (c : ℕ) → cond (a || false) 0 c + 0 ≤ cond a 0 c
        last true c = omega arith
        last false c = omega arith
    point k true e =
        let same : row ≡ k = eqb-true row k e in
        let unran : has_run t k ≡ false = ap (has_run t) (sym same) ∙ first in
        let more : length (next_in users k) ≤ entries_to t.registered k =
        users_entries t.registered users k u (subst (λ (j : ℕ). j < length t.registered.rows) same low) in
        let here : length (next_in users row) ≡ length (next_in users k) = ap (λ (j : ℕ). length (next_in users j)) same in
        subst (λ (a : Bool). cond (a || true) 0 (32 + 5 * entries_to t.registered k) + (32 + 5 * length (next_in users row)) ≤ cond a 0
        (32 + 5 * entries_to t.registered k)) (sym unran) (omega (arith, more, here))

-- ---- the credit at the start

sum_same : (f g : ℕ → ℕ) (n : ℕ) (rows : List Row) → ((k : ℕ) → n ≤ k → k < n + length rows → f k ≡ g k) →
    sum_by f (numbers n rows) ≡ sum_by g (numbers n rows)
sum_same f g n rows e = omega (
  arith,
  sum_le f g n rows (λ k low high. omega (arith, e k low high)),
  sum_le g f n rows
      (λ k low high. omega (arith, e k low high)),
)

sum_nothing : (n : ℕ) (rows : List Row) → sum_by (λ k. 0) (numbers n rows) ≡ 0
sum_nothing n [] = refl
sum_nothing n (row ∷ rows) = omega (arith, sum_by-cons (λ (k : ℕ). 0) n (numbers (n + 1) rows), sum_nothing (n + 1) rows)

sum_below : (c row n : ℕ) (rows : List Row) → row < n → sum_by (λ k. cond (nat_eq row k) c 0) (numbers n rows) ≡ 0
sum_below c row n rows low = sum_same (λ k. cond (nat_eq row k) c 0) (λ k. 0) n rows
    (λ k from to. ap (λ (b : Bool). cond b c 0) (ne_eqb row k (λ e. omega (arith, e, low, from)))) ∙ sum_nothing n rows

sum_once : (row n : ℕ) (rows : List Row) → sum_by (λ k. cond (nat_eq row k) 1 0) (numbers n rows) ≤ 1
sum_once row n [] = omega arith
sum_once row n (first ∷ rows) = step (sum_once row (n + 1) rows) (cases_eq row n)
  where
    step : sum_by (λ k. cond (nat_eq row k) 1 0) (numbers (n + 1) rows) ≤ 1 → (row ≡ n) ⊎ (row ≢ n) →
        sum_by (λ k. cond (nat_eq row k) 1 0) (numbers n (first ∷ rows)) ≤ 1
    step more d = ⊎_elim
        (λ e. let t : ◌≡◌ {A = ℕ} (cond (nat_eq row n) 1 0) 1 = ap (λ (b : Bool). cond b 1 0) (eq-eqb row n e) in
        omega (arith, t, sum_by-cons (λ k. cond (nat_eq row k) 1 0) n (numbers (n + 1) rows), sum_below 1 row (n + 1) rows (omega (arith, e))))
        (λ ne. let t : ◌≡◌ {A = ℕ} (cond (nat_eq row n) 1 0) 0 = ap (λ (b : Bool). cond b 1 0) (ne_eqb row n ne) in
        omega (arith, t, sum_by-cons (λ k. cond (nat_eq row k) 1 0) n (numbers (n + 1) rows), more))
        d

counted_once : (us : List ℕ) (n : ℕ) (rows : List Row) → sum_by (λ k. count_by (nat_eq k) us) (numbers n rows) ≤ length us
counted_once [] n rows = omega (arith, sum_nothing n rows)
counted_once (u ∷ us) n rows =
    omega (
      arith,
      counted_once us n rows,
      sum_once u n rows,
      sum_add (λ k. cond (nat_eq u k) 1 0) (λ k. count_by (nat_eq k) us) n rows,
      sum_le (λ k. count_by (nat_eq k) (u ∷ us)) (λ k. cond (nat_eq u k) 1 0 + count_by (nat_eq k) us) n rows (λ k low high. step k (cases_eq u k)),
    )
  where
    step : (k : ℕ) → (u ≡ k) ⊎ (u ≢ k) → count_by (nat_eq k) (u ∷ us) ≤ cond (nat_eq u k) 1 0 + count_by (nat_eq k) us
    step k d = ⊎_elim
        (λ e. let s : ◌≡◌ {A = ℕ} (cond (nat_eq u k) 1 0) 1 = ap (λ (b : Bool). cond b 1 0) (eq-eqb u k e) in
        let t : ◌≡◌ {A = ℕ} (cond (nat_eq k u) 1 0) 1 = ap (λ (b : Bool). cond b 1 0) (eq-eqb k u (sym e)) in
        omega (arith, s, t, sum_by-cons (λ (x : ℕ). cond (nat_eq k x) 1 0) u us))
        (λ ne. let t : ◌≡◌ {A = ℕ} (cond (nat_eq k u) 1 0) 0 = ap (λ (b : Bool). cond b 1 0) (ne_eqb k u (λ e. ne (sym e))) in
        omega (arith, t, sum_by-cons (λ (x : ℕ). cond (nat_eq k x) 1 0) u us))
        d

-- the order of two sums
swap_sums : (f : ℕ → ℕ → ℕ) (n : ℕ) (rows : List Row) (us : List ℕ) →
    sum_by (λ k. sum_by (f k) us) (numbers n rows) ≡ sum_by (λ u. sum_by (λ k. f k u) (numbers n rows)) us
swap_sums f n rows [] = sum_nothing n rows
swap_sums f n rows (u ∷ us) =
    omega (
      arith,
      sum_same (λ k. sum_by (f k) (u ∷ us)) (λ k. f k u + sum_by (f k) us) n rows (λ k low high. sum_by-cons (f k) u us),
      sum_add (λ k. f k u) (λ k. sum_by (f k) us) n rows,
      swap_sums f n rows us,
      sum_by-cons (λ v. sum_by (λ k. f k v) (numbers n rows)) u us,
    )

entries_each : (r : Registered) → sum_by (entries_to r) (row_numbers r) ≡ entries r
entries_each r =
    swap_sums (λ k u. count_by (nat_eq k) (needs_of r u)) 0 r.rows (row_numbers r)
    ∙ sum_same (λ u. sum_by (λ k. count_by (nat_eq k) (needs_of r u)) (row_numbers r)) (λ u. length (needs_of r u)) 0 r.rows (λ u low high.
    omega (arith, counted_once (needs_of r u) 0 r.rows, all_counted (needs_of r u) 0 r.rows (λ need c. (omega arith, omega (arith, needs_within r u need c)))))

sum_whole : (f g : ℕ → ℕ) (n : ℕ) (rows : List Row) → ((k : ℕ) → n ≤ k → k < n + length rows → f k ≡ 64 + 8 * g k) →
    sum_by f (numbers n rows) ≡ 64 * length rows + 8 * sum_by g (numbers n rows)
sum_whole f g n [] e = refl
sum_whole f g n (row ∷ rows) e =
    omega (
      arith,
      e n (omega arith) (omega arith),
      sum_by-cons f n (numbers (n + 1) rows),
      sum_by-cons g n (numbers (n + 1) rows),
      sum_whole f g (n + 1) rows
          (λ k low high. e k (omega (arith, low)) (omega (arith, high))),
    )

pub credit_fresh : (r : Registered) (users : List (List ℕ)) → HasDistinctNames r → AreSpoiled (fresh_progress r) (replicate (length r.rows) false) →
    credit (fresh_progress r) ≡ 64 * length r.rows + 8 * entries r
credit_fresh r users distinct m =
    omega (
      arith,
      entries_each r,
      sum_whole (row_credit (fresh_progress r)) (entries_to r) 0 r.rows (λ k low high.
          let whole : Bool → ℕ = λ b. cond b 0 (32 + 3 * entries_to r k) + (32 + 5 * entries_to r k) in
          let clean : is_spoiled_at (fresh_progress r) k ≡ false =
          sym (spoiled_is (fresh_progress r) (replicate (length r.rows) false) k distinct m (omega (arith, high)))
          ∙ get_or-replicate (length r.rows) k false false (omega (arith, high)) in
          ap whole clean ∙ omega arith),
    )

-- ---- the credit of another version

numbers_same : (n : ℕ) (rows others : List Row) → length rows ≡ length others → numbers n rows ≡ numbers n others
numbers_same n [] [] e = refl
numbers_same n [] (other ∷ others) e = absurd (omega (arith, e))
numbers_same n (row ∷ rows) [] e = absurd (omega (arith, e))
numbers_same n (row ∷ rows) (other ∷ others) e = ap (λ (ks : List ℕ). n ∷ ks) (numbers_same (n + 1) rows others (omega (arith, e)))

pub credit_alike : (t : Progress) (s : Registered) (marks : List Bool) → AreAlike t.registered s → HasDistinctNames t.registered → AreSpoiled t marks →
    AreSpoiled (record t { registered = s }) marks → credit (record t { registered = s }) ≡ credit t
credit_alike t s marks a distinct m m' =
    let u : Progress = record t { registered = s } in
    let same : row_numbers s ≡ row_numbers t.registered = numbers_same 0 s.rows t.registered.rows a.long in
    let named : (k : ℕ) → entries_to s k ≡ entries_to t.registered k = λ k.
    ap (sum_by (λ user. count_by (nat_eq k) (needs_of s user))) same
    ∙ sum_same (λ user. count_by (nat_eq k) (needs_of s user)) (λ user. count_by (nat_eq k) (needs_of t.registered user)) 0 t.registered.rows
    (λ user low high. ap (count_by (nat_eq k)) (a.needs user)) in
    ap (sum_by (row_credit u)) same
    ∙ sum_same (row_credit u) (row_credit t) 0 t.registered.rows (λ k low high.
    let spoiled : is_spoiled_at u k ≡ is_spoiled_at t k = sym (spoiled_is u marks k a.distinct m' (omega (arith, high, a.long)))
    ∙ spoiled_is t marks k distinct m (omega (arith, high)) in
    ap (λ (b : Bool). cond b 0 (32 + 3 * entries_to s k) + cond (has_run t k) 0 (32 + 5 * entries_to s k)) spoiled
    ∙ ap (λ (e : ℕ). cond (is_spoiled_at t k) 0 (32 + 3 * e) + cond (has_run t k) 0 (32 + 5 * e)) (named k))
