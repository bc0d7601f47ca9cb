-- The order in which rows are asked for is strict, and tells rows of different names apart.
use Rattle.std.proofs.Common.{◌≡◌, Bool, true, false, refl, ap, sym}
use Rattle.std.specs.Cmp.{IsTotalOrder}
use Rattle.std.specs.Ordering.{is_lt, ordering_reverse}
use Rattle.std.specs.declared.cmp.Ordering.{Ordering}
use Rattle.std.specs.declared.cmp.Ordering.TheVariants.{Less, Equal, Greater}
use Rattle.std.proofs.lemmas.Cmp.{nat_cmp_total, nat_list_cmp_total, on_total, then_total}
use Rattle.rl_names.specs.declared.row.Row.{Row}
use Rattle.rl_book_spec.specs.Batches.{Numbered, group_rank, is_before, row_cmp, source_name}
use Rattle.rl_book_spec.proofs.SortedLemmas.{IsStrict}

pub rows_total : IsTotalOrder row_cmp
rows_total = then_total
    (then_total (on_total (λ (r : Row). source_name r.source) nat_list_cmp_total) (on_total (λ (r : Row). group_rank r.group) nat_cmp_total))
    (on_total (λ (r : Row). r.name) nat_list_cmp_total)

less : (o : Ordering) → is_lt o ≡ true → o ≡ Less
less Less e = refl
less Equal e = cc
less Greater e = cc

is_less : (o p : Ordering) → o ≡ Less → is_lt o ≡ true
is_less o p e = ap is_lt e

itself : (o p : Ordering) → o ≡ p → is_lt p ≡ is_lt o
itself o p e = ap is_lt (sym e)

pub before_strict : IsStrict is_before
before_strict = record {
  irreflexive = λ x. not_itself (is_before x x) refl x;
  transitive = λ x y z a b. ap is_lt (rows_total.trans x.1 y.1 z.1 (less (row_cmp x.1 y.1) a) (less (row_cmp y.1 z.1) b));
}
  where
    flipped : (o : Ordering) → o ≡ ordering_reverse o → is_lt o ≡ false
    flipped Less e = cc
    flipped Equal e = refl
    flipped Greater e = refl

    not_itself : (b : Bool) → b ≡ b → (x : Numbered) → is_before x x ≡ false
    not_itself b e x = flipped (row_cmp x.1 x.1) (rows_total.antisymm x.1 x.1)
