-- Batches that are cut off one by one.
use Rattle.std.proofs.Common.{◌≡◌, ◌≤◌, ◌<◌, ◌+◌, ◌-◌, ◌⊎◌, ℕ, zero, suc, List, [], ◌∷◌, ◌++◌, Bool, true}
use Rattle.std.proofs.Common.{false, ◌&&◌, refl, ap, ap₂, sym, subst, ◌∙◌, length, get_or, arith, map, take, drop, Bor, append_assoc}
use Rattle.std.proofs.Common.{⊎_elim, inl, inr, Option, Some, None}
use Rattle.std.specs.Prelude.{All, Contains, bytes_eq, flat_map, nat_eq, nat_le, option_map, slice_get}
use Rattle.std.specs.List.{AllByRecursion, cons_option}
use Rattle.std.specs.List.Sorted.{IsPermutation}
use Rattle.std.proofs.lemmas.Bool.{and_parts, eqb-true}
use Rattle.std.proofs.lemmas.List.{length-map, map-append}
use Rattle.std.proofs.Math.Seq.{drop-cons}
use Rattle.std.proofs.lemmas.List.Elements.{All-from_recursion, All-take, All-drop}
use Rattle.std.proofs.lemmas.List.Sorted.{IsPermutation-map}
use Rattle.rl_names.specs.Query.{query_text}
use Rattle.rl_names.specs.declared.query.Query.{Query}
use Rattle.rl_names.specs.declared.row.Row.{Row}
use Rattle.rl_view_spec.specs.Closure.{Text, Registered}
use Rattle.rl_view_spec.proofs.ToolsLemmas.{all_each, contains_head, contains_tail, place_there}
use Rattle.rl_book_spec.specs.Batches.{Numbered, added_len, base_in, base_len, batch_of, collected_len, group_rank, is_one_split, names_in, query_for}
use Rattle.rl_book_spec.specs.Batches.{rows_of_batches, source_name}
use Rattle.rl_book_spec.specs.declared.Batch.{Batch}
use Rattle.rl_book_spec.proofs.BatchesLemmas.{batches_hold_rows}
use Rattle.rl_book_spec.proofs.FitsLemmas.{queries_fit, same_rank}
use Rattle.rl_batch.specs.Given.{numbered_rows, AskFor, IsBase}
use Rattle.rl_batch.specs.Split.{AreOf, Fills, cuts, fits, goes, head_source, numbers_in, seen}
use Rattle.rl_batch.proofs.CountedLemmas.{all_taken}
use Rattle.rl_batch.proofs.CutsLemmas.{map_take, map_drop}

pub of_part : (r : Registered) (rows : List (ℕ × Bor Row)) (n m k : ℕ) → AreOf r (map seen rows) → AreOf r (map seen (take n (take m (drop k rows))))
of_part r rows n m k of = record {
  there = subst (All (λ (numbered : Numbered). slice_get r.rows numbered.0 ≡ Some numbered.1))
      (sym (map_take seen n (take m (drop k rows)) ∙ ap (take n) (map_take seen m (drop k rows) ∙ ap (take m) (map_drop seen k rows))))
      (All-take (λ (numbered : Numbered). slice_get r.rows numbered.0 ≡ Some numbered.1) n (take m (drop k (map seen rows)))
      (All-take (λ (numbered : Numbered). slice_get r.rows numbered.0 ≡ Some numbered.1) m (drop k (map seen rows))
      (All-drop (λ (numbered : Numbered). slice_get r.rows numbered.0 ≡ Some numbered.1) k (map seen rows) of.there)));
  distinct = of.distinct;
}

drop_long : {X : Type 0} (k : ℕ) (xs : List X) → length (drop k xs) ≡ length xs - k
drop_long zero xs = omega arith
drop_long (suc k) [] = omega arith
drop_long (suc k) (x ∷ xs) = let later = drop_long k xs in omega (arith, later)

drop_none : {X : Type 0} (k : ℕ) → drop {A = X} k [] ≡ []
drop_none zero = refl
drop_none (suc k) = refl

drop_twice : {X : Type 0} (k n : ℕ) (xs : List X) → drop n (drop k xs) ≡ drop (k + n) xs
drop_twice {X = X} zero n xs = let e : n ≡ 0 + n = omega arith in ap (λ (j : ℕ). drop j xs) e
drop_twice (suc k) n [] = drop_none n ∙ sym (drop_none (suc k + n))
drop_twice {X = X} (suc k) n (x ∷ xs) = let e : suc (k + n) ≡ suc k + n = omega arith in drop_twice k n xs ∙ ap (λ (j : ℕ). drop j (x ∷ xs)) e

pub rest_is : (rows : List (ℕ × Bor Row)) (k : ℕ) → take (length rows - k) (drop k rows) ≡ drop k rows
rest_is rows k = ap (λ (n : ℕ). take n (drop k rows)) (sym (drop_long k rows)) ∙ all_taken (drop k rows)

pub within_more : (rows : List (ℕ × Bor Row)) (k count : ℕ) → k < length rows → count ≤ length (take (length rows - k) (drop k rows)) → k
    + count ≤ length rows
within_more rows k count low most = let a = ap length (rest_is rows k) in let b = drop_long k rows in omega (arith, a, b, low, most)

-- ---- one base for a batch

agrees : (base : Query) (limit : ℕ) (first : Numbered) (batch : List Numbered) (x : Numbered) → goes base limit (first ∷ batch) x
    ≡ fits (base_len base first.1) limit (first ∷ batch) x
agrees base limit first batch x = step (is_one_split (first ∷ batch) x) refl
  where
    ranks : is_one_split (first ∷ batch) x ≡ true → group_rank x.1.group ≡ group_rank first.1.group
    ranks e = sym (eqb-true _ _ (and_parts (bytes_eq (source_name first.1.source) (source_name x.1.source))
        (nat_eq (group_rank first.1.group) (group_rank x.1.group))
        (all_each (λ (other : Numbered). bytes_eq (source_name other.1.source) (source_name x.1.source)
        && nat_eq (group_rank other.1.group) (group_rank x.1.group)) (first ∷ batch) first e (contains_head first batch))).1)

    step : (b : Bool) → is_one_split (first ∷ batch) x ≡ b
        → (b && nat_le (base_len base x.1 + 23 + collected_len (names_in (first ∷ batch)) + added_len (names_in (first ∷ batch)) x.1.name) limit)
        ≡ (b && nat_le (base_len base first.1 + 23 + collected_len (names_in (first ∷ batch)) + added_len (names_in (first ∷ batch)) x.1.name) limit)
    step false e = refl
    step true e = ap (λ (q : Query). nat_le (length (query_text q) + 23 + collected_len (names_in (first ∷ batch))
        + added_len (names_in (first ∷ batch)) x.1.name) limit) (same_rank base x.1.group first.1.group (ranks e))

-- ---- a batch and those after it

pub told_more : (base in_group : Query) (limit k count : ℕ) (rows rest : List Numbered) (first : Numbered) (items items' whole : List Batch) (batch : Batch)
    → items ++ map (batch_of base) (cuts (goes base limit) (drop k rows)) ≡ whole → items' ≡ items ++ batch ∷ [] → rest ≡ drop k rows
    → k < length rows → get_or rows k first ≡ first → 0 < count
    → in_group ≡ base_in base first.1.group → Fills (length (query_text in_group)) limit rest count
    → batch.source ≡ head_source (take count rest) → batch.rows ≡ numbers_in (take count rest) → batch.query
    ≡ query_text (query_for in_group (take count rest))
    → items' ++ map (batch_of base) (cuts (goes base limit) (drop (k + count) rows)) ≡ whole
told_more base in_group limit k zero rows rest first items items' whole batch told new is low at pos group fill source numbers query =
    absurd (omega (arith, pos))
told_more base in_group limit k (suc count) rows rest first items items' whole batch told new is low at pos group fill source numbers query =
    ap₂ (λ (xs : List Batch) (ys : List Numbered). xs ++ map (batch_of base) (cuts (goes base limit) ys)) new (sym (drop_twice k (suc count) rows))
    ∙ append_assoc items (batch ∷ []) (map (batch_of base) (cuts (goes base limit) (drop (suc count) (drop k rows))))
    ∙ ap (λ (b : Batch). items ++ b ∷ map (batch_of base) (cuts (goes base limit) (drop (suc count) (drop k rows)))) one
    ∙ sym (ap (λ (bs : List (List Numbered)). items ++ map (batch_of base) bs) filled)
    ∙ told
  where
    headed : drop k rows ≡ first ∷ drop (suc k) rows
    headed = drop-cons rows k first low ∙ ap (λ (y : Numbered). y ∷ drop (suc k) rows) at

    filled : cuts (goes base limit) (drop k rows) ≡ take (suc count) (drop k rows) ∷ cuts (goes base limit) (drop (suc count) (drop k rows))
    filled = subst (λ (xs : List Numbered). cuts (goes base limit) xs ≡ take (suc count) xs ∷ cuts (goes base limit) (drop (suc count) xs)) is
        (fill (goes base limit) first (drop (suc k) rows) (is ∙ headed) (λ batch x. agrees base limit first batch x
        ∙ ap (λ (q : Query). fits (length (query_text q)) limit (first ∷ batch) x) (sym group)))

    taken : take (suc count) (drop k rows) ≡ first ∷ take count (drop (suc k) rows)
    taken = ap (take (suc count)) headed

    whole_taken : take (suc count) rest ≡ first ∷ take count (drop (suc k) rows)
    whole_taken = ap (take (suc count)) is ∙ taken

    one : batch ≡ batch_of base (take (suc count) (drop k rows))
    one =
        ap₂ (λ (s : Text) (p : List ℕ × Text). record { source = s; rows = p.0; query = p.1 }) (source ∙ ap head_source whole_taken)
        (ap₂ (λ (ns : List ℕ) (q : Text). (ns, q)) (numbers ∙ ap numbers_in whole_taken)
        (query ∙ ap₂ (λ (q : Query) (xs : List Numbered). query_text (query_for q xs)) group whole_taken))
        ∙ sym (ap (batch_of base) taken)

-- ---- what is asked for

rows_in : (base : Query) (rows : List Numbered) → (batch_of base rows).rows ≡ numbers_in rows
rows_in base [] = refl
rows_in base (row ∷ rows) = refl

all_rows : (base : Query) (lists : List (List Numbered)) → flat_map (λ (batch : Batch). batch.rows) (map (batch_of base) lists)
    ≡ numbers_in (flat_map (λ (rows : List Numbered). rows) lists)
all_rows base [] = refl
all_rows base (rows ∷ lists) =
    ap₂ (λ (xs ys : List ℕ). xs ++ ys) (rows_in base rows) (all_rows base lists)
    ∙ sym (map-append (λ (numbered : Numbered). numbered.0) rows (flat_map (λ (rows : List Numbered). rows) lists))

numbers_back : (r : Registered) (rows : List ℕ) → All (λ (row : ℕ). row < length r.rows) rows → numbers_in (numbered_rows r rows) ≡ rows
numbers_back r [] all = refl
numbers_back r (row ∷ rows) all = step (slice_get r.rows row) (place_there r.rows row (all 0 row (omega arith))).1
    (numbers_back r rows (λ k d low. all (suc k) d (omega (arith, low))))
  where
    step : {x : Row} (o : Option Row) → o ≡ Some x → numbers_in (numbered_rows r rows) ≡ rows
        → numbers_in (cons_option (option_map (λ (found : Row). (row, found)) o) (numbered_rows r rows)) ≡ row ∷ rows
    step None e later = cc
    step (Some x) e later = ap (λ (ns : List ℕ). row ∷ ns) later

all_map : {X Y : Type 0} (f : X → Y) (P : Y → Type 0) (xs : List X) → ((x : X) → Contains xs x → P (f x)) → AllByRecursion P (map f xs)
all_map f P [] h = tt
all_map f P (x ∷ xs) h = (h x (contains_head x xs), all_map f P xs (λ z c. h z (contains_tail x xs z c)))

pub asked_for : (base : Query) (limit : ℕ) (r : Registered) (rows : List ℕ) → IsBase base → All (λ (row : ℕ). row < length r.rows) rows
    → AskFor rows limit (map (batch_of base) (rows_of_batches base limit (numbered_rows r rows)))
asked_for base limit r rows b within =
    let lists = rows_of_batches base limit (numbered_rows r rows) in
    record {
      each = subst (λ (xs : List ℕ). IsPermutation xs (flat_map (λ (batch : Batch). batch.rows) (map (batch_of base) lists))) (numbers_back r rows within)
          (subst (IsPermutation (numbers_in (numbered_rows r rows))) (sym (all_rows base lists))
          (IsPermutation-map (λ (numbered : Numbered). numbered.0) (numbered_rows r rows) (flat_map (λ (rows : List Numbered). rows) lists)
          (batches_hold_rows base limit (numbered_rows r rows))));
      fits = All-from_recursion (λ (batch : Batch). (length batch.query ≤ limit) ⊎ (length batch.rows ≡ 1)) (map (batch_of base) lists)
          (all_map (batch_of base) (λ (batch : Batch). (length batch.query ≤ limit) ⊎ (length batch.rows ≡ 1)) lists (λ xs c.
          ⊎_elim (λ low. inl low) (λ one. inr (ap length (rows_in base xs) ∙ length-map xs (λ (numbered : Numbered). numbered.0) ∙ one))
          (queries_fit base limit (numbered_rows r rows) xs b.modules b.version c)));
    }
