-- The least of texts.
use Rattle.std.proofs.Common.{◌≡◌, List, [], ◌∷◌, Bool, true, false, cond, Option, Some, None, refl, ap, sym, subst, ◌∙◌, ⊎_elim}
use Rattle.std.specs.Prelude.{Contains}
use Rattle.std.specs.Ordering.{nat_cmp, is_lt, is_gt, is_eq, ordering_reverse}
use Rattle.std.specs.declared.cmp.Ordering.{Ordering}
use Rattle.std.specs.declared.cmp.Ordering.TheVariants.{Less, Equal, Greater}
use Rattle.std.specs.Cmp.Lexicographic.{slice_cmp}
use Rattle.std.proofs.lemmas.Bool.{false_from_ne_true}
use Rattle.std.proofs.lemmas.Map.Text.{is_eq-slice_cmp}
use Rattle.std.proofs.lemmas.Cmp.{nat_list_cmp_total, upto, tied_itself}
use Rattle.rl_view_spec.specs.Closure.{Text, lesser, least}
use Rattle.rl_view_spec.specs.Laws.{IsLeast}
use Rattle.rl_view_spec.proofs.ToolsLemmas.{contains_head, contains_tail, contains_cases, contains_none}
use Rattle.rl_view_spec.proofs.ResolveLemmas.{least_none, least_some}
use Rattle.rl_view_spec.proofs.ChainsLemmas.{same}

abbrev pub cmp : Text → Text → Ordering
cmp a b = slice_cmp nat_cmp a b

turned : (o : Ordering) → is_lt (ordering_reverse o) ≡ is_gt o
turned Less = refl
turned Equal = refl
turned Greater = refl

lt_turned : (a b : Text) → is_lt (cmp a b) ≡ is_gt (cmp b a)
lt_turned a b = ap is_lt (nat_list_cmp_total.antisymm a b) ∙ turned (cmp b a)

pub not_below_itself : (a : Text) → is_lt (cmp a a) ≡ false
not_below_itself a = ap is_lt (tied_itself nat_list_cmp_total a)

pub not_below_on : (a b c : Text) → is_lt (cmp b a) ≡ false → is_lt (cmp c b) ≡ false → is_lt (cmp c a) ≡ false
not_below_on a b c h k = lt_turned c a ∙ upto nat_list_cmp_total a b c (sym (lt_turned b a) ∙ h) (sym (lt_turned c b) ∙ k)

not_both : (o : Ordering) → is_lt o ≡ true → is_gt o ≡ true → ⊥
not_both Less h k = cc
not_both Equal h k = cc
not_both Greater h k = cc

neither : (o : Ordering) → is_lt o ≡ false → is_gt o ≡ false → is_eq o ≡ true
neither Less h k = cc
neither Equal h k = refl
neither Greater h k = cc

pub not_above : (a b : Text) → is_lt (cmp a b) ≡ true → is_lt (cmp b a) ≡ false
not_above a b h = false_from_ne_true (is_lt (cmp b a)) (λ k. not_both (cmp a b) h (sym (lt_turned b a) ∙ k))

-- neither is below the other
pub alike_from_not_below : (a b : Text) → is_lt (cmp a b) ≡ false → is_lt (cmp b a) ≡ false → a ≡ b
alike_from_not_below a b h k = same a b (sym (is_eq-slice_cmp a b) ∙ neither (cmp a b) h (sym (lt_turned b a) ∙ k))

-- one thing alone is the least
pub one_least : (P : Text → Type 0) (a b : Text) → IsLeast P a → IsLeast P b → a ≡ b
one_least P a b x y = alike_from_not_below a b (y.below a x.holds) (x.below b y.holds)

some_same : (x y : Text) → Some x ≡ Some y → x ≡ y
some_same x y e = cc

-- the least of a list is in it, and none there is below
pub least_is : (xs : List Text) (n : Text) → least xs ≡ Some n → IsLeast (Contains xs) n
least_is [] n h = cc
least_is (x ∷ xs) n h = step (least xs) refl (λ o e. least_is xs o e)
  where
    first : ((m : Text) → Contains xs m → is_lt (cmp m x) ≡ false) → IsLeast (Contains (x ∷ xs)) x
    first none = record {
      holds = contains_head x xs;
      below = λ m c. ⊎_elim (λ q. subst (λ (z : Text). is_lt (cmp z x) ≡ false) q (not_below_itself x)) (λ t. none m t) (contains_cases x xs m c);
    }

    pick : (o : Text) → IsLeast (Contains xs) o → (b : Bool) → is_lt (cmp o x) ≡ b → IsLeast (Contains (x ∷ xs)) (cond b o x)
    pick o ih true e = record {
      holds = contains_tail x xs o ih.holds;
      below = λ m c. ⊎_elim (λ q. subst (λ (z : Text). is_lt (cmp z o) ≡ false) q (not_above o x e)) (λ t. ih.below m t)
          (contains_cases x xs m c);
    }
    pick o ih false e = first (λ m t. not_below_on x o m e (ih.below m t))

    step : (o : Option Text) → least xs ≡ o → ((o : Text) → least xs ≡ Some o → IsLeast (Contains xs) o) → IsLeast (Contains (x ∷ xs)) n
    step None e ih =
        let s : x ≡ n = some_same x n (subst (λ (o : Option Text). Some (lesser x o) ≡ Some n) e h) in
        let nothing : xs ≡ [] = least_none xs e in
        subst (λ (y : Text). IsLeast (Contains (x ∷ xs)) y) s
        (first (λ m t. absurd (contains_none m (subst (λ (ys : List Text). Contains ys m) nothing t))))
    step (Some o) e ih =
        let s : cond (is_lt (cmp o x)) o x ≡ n = some_same (lesser x (Some o)) n (subst (λ (o : Option Text). Some (lesser x o) ≡ Some n) e h) in
        subst (λ (y : Text). IsLeast (Contains (x ∷ xs)) y) s (pick o (ih o e) (is_lt (cmp o x)) refl)

-- and no other is
pub least_is_least : (xs : List Text) (n : Text) → IsLeast (Contains xs) n → least xs ≡ Some n
least_is_least xs n l = step (least xs) refl
  where
    step : (o : Option Text) → least xs ≡ o → least xs ≡ Some n
    step None e = absurd (least_some xs n l.holds e)
    step (Some m) e = e ∙ ap (λ (x : Text). Some x) (one_least (Contains xs) m n (least_is xs m e) l)

-- of what a list has
pub least_of : (P : Text → Type 0) (xs : List Text) (n : Text) → ((m : Text) → Contains xs m → P m) → ((m : Text) → P m → Contains xs m) →
    least xs ≡ Some n → IsLeast P n
least_of P xs n to from h =
    let l = least_is xs n h in
    record { holds = to n l.holds; below = λ m p. l.below m (from m p) }

pub none_of : (P : Text → Type 0) (xs : List Text) → ((m : Text) → P m → Contains xs m) → least xs ≡ None → (m : Text) → P m → ⊥
none_of P xs from h m p = contains_none m (subst (λ (ys : List Text). Contains ys m) (least_none xs h) (from m p))
