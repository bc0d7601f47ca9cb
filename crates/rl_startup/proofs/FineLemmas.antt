-- Rows that a registry takes and that may be written, before and after compaction.
use Rattle.std.proofs.Common.{◌≡◌, ℕ, ◌+◌, ◌≤◌, ◌||◌, Bool, true, false, not, cond, List, [], ◌∷◌, length, map, filter}
use Rattle.std.proofs.Common.{Option, Some, None}
use Rattle.std.proofs.Common.{Less, nat_cmp, is_eq, nat_lt, bytes_eq, refl, sym, ap, ◌∙◌, arith}
use Rattle.std.specs.Prelude.{flat_map}
use Rattle.std.specs.Cmp.Lexicographic.{slice_cmp}
use Rattle.std.specs.List.{AllByRecursion, cons_option, enumerate_from, filter_map, list_any}
use Rattle.std.specs.List.Sorted.{IsStrictlySortedBy}
use Rattle.std.proofs.lemmas.Bool.Decides.{nat_tests}
use Rattle.std.proofs.lemmas.List.{length-map}
use Rattle.std.proofs.lemmas.Map.Text.{is_eq-slice_cmp}
use Rattle.std.proofs.lemmas.Slice.Eq.{bytes_eq-Decides}
use Rattle.rl_names.specs.Limits.{limit_of}
use Rattle.rl_names.specs.declared.counted.Counted.TheVariants as counted
use Rattle.rl_names.specs.declared.row.Row.{Row}
use Rattle.rl_names.specs.declared.row.Dep.{Dep}
use Rattle.rl_view_spec.specs.Breach.{bad_index, bad_indexes, bad_indexes_of, breach_of, repeated, wide_row}
use Rattle.rl_view_spec.specs.Closure.{resolves}
use Rattle.rl_wire.specs.Startup.{AreWritable}
use Rattle.rl_defs.specs.Ascending.{IsAscending}
use Rattle.rl_build.proofs.DistinctLemmas.{filter_few}
use Rattle.rl_rows.specs.Index.{AreDistinct}
use Rattle.rl_rows.specs.Edges.{HasDepsWithin}
use Rattle.rl_rows.proofs.RowsReadLemmas.{distinct_from_once, within_from_indexes}
use Rattle.rl_compact.specs.Compact.{compact_row, compacted, is_brought, left, plain}
use Rattle.rl_startup.specs.Laws.{HaveAtMost}
use Rattle.rl_startup.specs.Fine.{Fine, HaveDepsBelow}

-- ---- a registry takes them

none_wide : (rows : List Row) → HaveAtMost (limit_of counted.Dependencies) rows → wide_row rows ≡ None
none_wide [] h = refl
none_wide (row ∷ rows) h =
    let f : nat_lt (limit_of counted.Dependencies) (length row.deps) ≡ false = grind (arith, nat_tests, h.0) in
    rw f (none_wide rows h.1)

none_bad : (count k : ℕ) (rows : List Row) → HaveDepsBelow count rows → flat_map (bad_indexes_of count) (enumerate_from k rows) ≡ []
none_bad count k [] h = refl
none_bad count k (row ∷ rows) h = rw (h.0) (none_bad count (k + 1) rows h.1)

no_indexes : (rows : List Row) → HaveDepsBelow (length rows) rows → bad_indexes rows ≡ []
no_indexes rows h = none_bad (length rows) 0 rows h

pub fine_lawful : (rows : List Row) → Fine rows → breach_of rows ≡ None
fine_lawful rows h =
    let few : nat_lt (limit_of counted.Rows) (length rows) ≡ false = grind (arith, nat_tests, h.few) in
    rw (few, none_wide rows h.few_deps, h.once, no_indexes rows h.below) refl

pub fine_distinct : (rows : List Row) → Fine rows → AreDistinct rows
fine_distinct rows h = distinct_from_once rows h.once

pub fine_within : (rows : List Row) → Fine rows → HasDepsWithin (plain rows)
fine_within rows h = within_from_indexes (plain rows) (rw (no_indexes rows h.below) refl)

-- ---- names that ascend stand once

less_differs : (a b : List ℕ) → slice_cmp nat_cmp a b ≡ Less → bytes_eq b a ≡ false
less_differs a b less = step (bytes_eq b a) refl
  where
    step : (v : Bool) → bytes_eq b a ≡ v → bytes_eq b a ≡ false
    step false e = e
    step true e =
        let same : b ≡ a = (bytes_eq-Decides b a).0 e in
        let other : bytes_eq a b ≡ true = (bytes_eq-Decides a b).1 (sym same) in
        let apart : bytes_eq a b ≡ false = sym (is_eq-slice_cmp a b) ∙ ap is_eq less in
        absurd (let clash : true ≡ false = sym other ∙ apart in cc)

none_again : (name : List ℕ) (rows : List Row) → AllByRecursion (λ later. slice_cmp nat_cmp name later ≡ Less) (map (λ row. row.name) rows)
    → list_any (λ other. bytes_eq other.name name) rows ≡ false
none_again name [] h = refl
none_again name (row ∷ rows) h = rw (less_differs name row.name h.0) (none_again name rows h.1)

pub once_of : (rows : List Row) → IsAscending (map (λ row. row.name) rows) → repeated rows ≡ []
unfolding IsStrictlySortedBy
once_of [] h = refl
once_of (row ∷ rows) h = rw (none_again row.name rows h.0) (once_of rows h.1)

-- ---- compaction leaves all that

any_same : (name : List ℕ) (all rows : List Row) → list_any (λ other. bytes_eq other.name name) (map (compact_row all) rows)
    ≡ list_any (λ other. bytes_eq other.name name) rows
any_same name all [] = refl
any_same name all (row ∷ rows) = ap (λ b. bytes_eq row.name name || b) (any_same name all rows)

once_left : (all rows : List Row) → repeated (map (compact_row all) rows) ≡ repeated rows
once_left all [] = refl
once_left all (row ∷ rows) = rw (any_same row.name all rows, once_left all rows) refl

-- a filter of dependencies leaves no bad one
good_left : (count : ℕ) (p : Dep → Bool) (deps : List Dep) → filter_map (bad_index count) deps ≡ []
    → filter_map (bad_index count) (filter p deps) ≡ []
good_left count p [] e = refl
good_left count p (dep ∷ deps) e = step (good_left count p deps) (p dep) (bad_index count dep) refl e
  where
    step : (filter_map (bad_index count) deps ≡ [] → filter_map (bad_index count) (filter p deps) ≡ []) → (b : Bool) (bad : Option ℕ)
        → bad_index count dep ≡ bad → cons_option bad (filter_map (bad_index count) deps) ≡ []
        → filter_map (bad_index count) (cond b (dep ∷ filter p deps) (filter p deps)) ≡ []
    step rest b (Some index) f g = cc
    step rest true None f g = rw f (rest g)
    step rest false None f g = rest g

module _ (all : List Row) where
  few_left : (row : Row) → length (left all row) ≤ length row.deps
  few_left row = step (resolves (plain all) row.name)
    where
      step : (b : Bool) → length (cond b (filter (λ dep. not (is_brought all row dep)) row.deps) row.deps) ≤ length row.deps
      step true = filter_few (λ dep. not (is_brought all row dep)) row.deps
      step false = omega arith

  row_good : (count : ℕ) (row : Row) → filter_map (bad_index count) row.deps ≡ [] → filter_map (bad_index count) (left all row) ≡ []
  row_good count row e = step (resolves (plain all) row.name)
    where
      step : (b : Bool) → filter_map (bad_index count) (cond b (filter (λ dep. not (is_brought all row dep)) row.deps) row.deps) ≡ []
      step true = good_left count (λ dep. not (is_brought all row dep)) row.deps e
      step false = e

  deps_left : (most : ℕ) (rows : List Row) → HaveAtMost most rows → HaveAtMost most (map (compact_row all) rows)
  deps_left most [] h = tt
  deps_left most (row ∷ rows) h = (omega (arith, h.0, few_left row), deps_left most rows h.1)

  below_left : (count : ℕ) (rows : List Row) → HaveDepsBelow count rows → HaveDepsBelow count (map (compact_row all) rows)
  below_left count [] h = tt
  below_left count (row ∷ rows) h = (row_good count row h.0, below_left count rows h.1)

  writable_left : (rows : List Row) → AreWritable rows → AreWritable (map (compact_row all) rows)
  writable_left [] h = tt
  writable_left (row ∷ rows) h = (h.0, writable_left rows h.1)

pub fine_compacted : (rows : List Row) → Fine rows → Fine (compacted rows)
fine_compacted rows h =
    let long : length (compacted rows) ≡ length rows = length-map rows (compact_row rows) in
    record {
      few = rw long h.few;
      few_deps = deps_left rows (limit_of counted.Dependencies) rows h.few_deps;
      once = once_left rows rows ∙ h.once;
      below = rw long (below_left rows (length rows) rows h.below);
      writable = writable_left rows rows h.writable;
    }
