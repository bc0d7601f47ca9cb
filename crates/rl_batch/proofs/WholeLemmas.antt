-- All rows of a registry may be asked for, where none is private.
use Rattle.std.proofs.Common.{◌≡◌, ◌<◌, ◌+◌, ◌++◌, ◌∷◌, [], ℕ, zero, suc, List, Option, IsTrue, false, not, length, ap}
use Rattle.std.proofs.Common.{◌∙◌, arith, get_or}
use Rattle.std.specs.List.{list_all, range_with_len}
use Rattle.std.specs.Option.{option_map_or}
use Rattle.std.proofs.lemmas.Bool.{not-true}
use Rattle.std.proofs.lemmas.List.FromFn.{get_or-range_with_len, length-range_with_len}
use Rattle.rl_names.specs.declared.row.Row.{Row}
use Rattle.rl_view_spec.specs.Closure.{Registered}
use Rattle.rl_view_spec.specs.Rows.{is_private}
use Rattle.rl_view_spec.proofs.ToolsLemmas.{all_each, place_in, place_there}
use Rattle.rl_batch.specs.Given.{MayBeAsked, is_private_at}

-- one number more
pub range_pushed : (a n : ℕ) → range_with_len a n ++ (a + n) ∷ [] ≡ range_with_len a (n + 1)
range_pushed a n = let next : suc n ≡ n + 1 = omega arith in pushed a n ∙ ap (range_with_len a) next
  where
    pushed : (a n : ℕ) → range_with_len a n ++ (a + n) ∷ [] ≡ range_with_len a (suc n)
    pushed a zero = let same : a + 0 ≡ a = omega arith in ap (λ (k : ℕ). k ∷ []) same
    pushed a (suc n) =
        let next : a + suc n ≡ (a + 1) + n = omega arith in
        ap (λ (k : ℕ). a ∷ range_with_len (a + 1) n ++ k ∷ []) next ∙ ap (λ (xs : List ℕ). a ∷ xs) (pushed (a + 1) n)

pub may_be_asked : (r : Registered) → IsTrue (list_all (λ (row : Row). not (is_private row.group)) r.rows)
    → MayBeAsked r (range_with_len 0 (length r.rows))
may_be_asked r public = record {
  within = λ i d low. let here : i < length r.rows = omega (arith, low, long) in
      let is = get_or-range_with_len 0 (length r.rows) i d here in omega (arith, is, here);
  once = λ i j d lt low same. let there : j < length r.rows = omega (arith, low, long) in
      let a = get_or-range_with_len 0 (length r.rows) i d (omega (arith, lt, there)) in
      let b = get_or-range_with_len 0 (length r.rows) j d there in omega (arith, a, b, lt, same);
  public = λ i d low. let here : i < length r.rows = omega (arith, low, long) in
      let is : get_or (range_with_len 0 (length r.rows)) i d ≡ i = get_or-range_with_len 0 (length r.rows) i d here ∙ (omega arith) in
      ap (is_private_at r) is ∙ at i here;
}
  where
    long : length (range_with_len 0 (length r.rows)) ≡ length r.rows
    long = length-range_with_len 0 (length r.rows)

    at : (i : ℕ) → i < length r.rows → is_private_at r i ≡ false
    at i here =
        let m = place_there r.rows i here in
        ap (λ (o : Option Row). option_map_or (λ (found : Row). is_private found.group) o false) m.1
        ∙ not-true (is_private m.0.group) (all_each (λ (row : Row). not (is_private row.group)) r.rows m.0 public (place_in r.rows i m.0 m.1))
