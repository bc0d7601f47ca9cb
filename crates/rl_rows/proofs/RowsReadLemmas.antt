-- What rows without a breach have, and what a new version leaves.
use Rattle.std.proofs.Common.{◌≡◌, ◌≢◌, ℕ, zero, suc, ◌+◌, ◌<◌, List, [], ◌∷◌, ◌++◌, Bool, true, false, ◌&&◌, cond, None}
use Rattle.std.proofs.Common.{Some, length, map, drop, get_or, nat_lt, refl, sym, ap, ◌∙◌, add-one, drop-cons, arith}
use Rattle.std.specs.Prelude.{bytes_eq, AllPairs, flat_map, slice_get}
use Rattle.std.specs.List.{cons_option, enumerate_from, filter_map, list_any, list_all}
use Rattle.std.proofs.lemmas.List.Kept.{AllPairs-cons}
use Rattle.std.proofs.lemmas.List.Elements.{Contains-get_or}
use Rattle.std.proofs.lemmas.Bool.{both_ways}
use Rattle.rl_names.specs.declared.row.Row.{Row}
use Rattle.rl_names.specs.declared.row.Dep.{Dep}
use Rattle.rl_names.specs.declared.row.Dep.TheVariants.{At, Named}
use Rattle.rl_view_spec.specs.Closure.{Registered}
use Rattle.rl_view_spec.specs.Breach.{bad_index, bad_indexes, bad_indexes_of, repeated}
use Rattle.rl_view_spec.specs.Direct.{is_within}
use Rattle.rl_view_spec.proofs.ToolsLemmas.{one_any}
use Rattle.rl_view_spec.proofs.PlacesLemmas.{bytes_eq-from}
use Rattle.rl_rows.specs.Edges.{HasDepsWithin}

-- no name stands twice
tail_once : (row : Row) (rows : List Row) → repeated (row ∷ rows) ≡ [] →
    (list_any (λ other. bytes_eq other.name row.name) rows ≡ false) × (repeated rows ≡ [])
tail_once row rows = step (list_any (λ other. bytes_eq other.name row.name) rows)
  where
    step : (b : Bool) → cond b (row.name ∷ repeated rows) (repeated rows) ≡ [] → (b ≡ false) × (repeated rows ≡ [])
    step true e = cc
    step false e = (refl, e)

AllPairs-none : AllPairs (λ (a b : Row). a.name ≢ b.name) []
AllPairs-none = λ i j d low high. absurd (omega (arith, high))

pub distinct_from_once : (rows : List Row) → repeated rows ≡ [] → AllPairs (λ a b. a.name ≢ b.name) rows
distinct_from_once [] e = AllPairs-none
distinct_from_once (row ∷ rows) e =
    let t = tail_once row rows e in
    AllPairs-cons (λ (a b : Row). a.name ≢ b.name) row rows
    (λ i d low same.
    both_ways (list_any (λ (other : Row). bytes_eq other.name row.name) rows) t.0
    (one_any (λ (other : Row). bytes_eq other.name row.name) rows (get_or rows i d) (Contains-get_or rows i d low)
    (bytes_eq-from (get_or rows i d).name row.name (sym same))))
    (distinct_from_once rows t.1)

-- ---- numbers that no row has

headless : {X : Type 0} (xs : List X) → slice_get xs 0 ≡ None → xs ≡ []
headless [] e = refl
headless (x ∷ xs) e = cc

from_none : (r : Registered) (deps : List Dep) → filter_map (bad_index (length r.rows)) deps ≡ [] → list_all (is_within r) deps ≡ true
from_none r [] e = refl
from_none r (Named name ∷ deps) e = from_none r deps e
from_none r (At index ∷ deps) e = step (λ f. from_none r deps f) (nat_lt index (length r.rows)) e
  where
    step : (filter_map (bad_index (length r.rows)) deps ≡ [] → list_all (is_within r) deps ≡ true) → (b : Bool)
        → cons_option (cond b None (Some index)) (filter_map (bad_index (length r.rows)) deps) ≡ [] → (b && list_all (is_within r) deps) ≡ true
    step rest true f = rest f
    step rest false f = cc

-- where nothing is gathered nothing is gathered of any row
none_of : (count k : ℕ) (rows : List Row) → flat_map (bad_indexes_of count) (enumerate_from k rows) ≡ [] → (row : ℕ) (found : Row) →
    slice_get rows row ≡ Some found → filter_map (bad_index count) found.deps ≡ []
none_of count k [] e row found there = cc
none_of count k (first ∷ rows) e zero found there = step (filter_map (bad_index count) first.deps) refl
    (ap (λ (r : Row). filter_map (bad_index count) r.deps) same)
  where
    same : first ≡ found
    same = cc

    step : (bad : List ℕ) → filter_map (bad_index count) first.deps ≡ bad →
        filter_map (bad_index count) first.deps ≡ filter_map (bad_index count) found.deps → filter_map (bad_index count) found.deps ≡ []
    step [] f g = sym g ∙ f
    step (index ∷ bad) f g = let h : map (λ i. let p : ℕ × ℕ = (k, i) in p) (index ∷ bad)
        ++ flat_map (bad_indexes_of count) (enumerate_from (k + 1) rows) ≡ [] = rw f at e in cc
none_of count k (first ∷ rows) e (suc row) found there = none_of count (k + 1) rows (step (filter_map (bad_index count) first.deps) refl) row found there
  where
    step : (bad : List ℕ) → filter_map (bad_index count) first.deps ≡ bad → flat_map (bad_indexes_of count) (enumerate_from (k + 1) rows) ≡ []
    step [] f = rw f at e
    step (index ∷ bad) f = let h : map (λ i. let p : ℕ × ℕ = (k, i) in p) (index ∷ bad)
        ++ flat_map (bad_indexes_of count) (enumerate_from (k + 1) rows) ≡ [] = rw f at e in cc

pub within_from_indexes : (r : Registered) → slice_get (bad_indexes r.rows) 0 ≡ None → HasDepsWithin r
within_from_indexes r e row found there = from_none r found.deps (none_of (length r.rows) 0 r.rows (headless (bad_indexes r.rows) e) row found there)

-- one row further, of which there is nothing to gather
pub passed : (count k : ℕ) (rows : List Row) (row : Row) → k < length rows → row ≡ get_or rows k row →
    slice_get (filter_map (bad_index count) row.deps) 0 ≡ None
    → flat_map (bad_indexes_of count) (enumerate_from k (drop k rows)) ≡ flat_map (bad_indexes_of count) (enumerate_from (k + 1) (drop (k + 1) rows))
passed count k rows row low is none =
    let next : drop k rows ≡ row ∷ drop (suc k) rows = drop-cons rows k row low ∙ ap (λ (x : Row). x ∷ drop (suc k) rows) (sym is) in
    let empty : filter_map (bad_index count) row.deps ≡ [] = headless (filter_map (bad_index count) row.deps) none in
    rw (next, empty, add-one) refl

-- a row of which there is something
pub stopped : (count k : ℕ) (rows : List Row) (row : Row) (index : ℕ) → k < length rows → row ≡ get_or rows k row →
    slice_get (filter_map (bad_index count) row.deps) 0 ≡ Some index
    → slice_get (flat_map (bad_indexes_of count) (enumerate_from k (drop k rows))) 0 ≡ Some (k, index)
stopped count k rows row index low is some =
    let next : drop k rows ≡ row ∷ drop (suc k) rows = drop-cons rows k row low ∙ ap (λ (x : Row). x ∷ drop (suc k) rows) (sym is) in
    rw next (step (filter_map (bad_index count) row.deps) some)
  where
    step : (bad : List ℕ) → slice_get bad 0 ≡ Some index →
        slice_get (map (λ i. let p : ℕ × ℕ = (k, i) in p) bad ++ flat_map (bad_indexes_of count) (enumerate_from (k + 1) (drop (suc k) rows))) 0
        ≡ Some (k, index)
    step [] e = cc
    step (first ∷ bad) e = let same : first ≡ index = cc in ap (λ i. let p : ℕ × ℕ = (k, i) in Some p) same
