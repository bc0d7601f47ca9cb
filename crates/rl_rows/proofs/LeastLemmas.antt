-- The least of texts, found one by one.
use Rattle.std.proofs.Common.{◌≡◌, List, [], ◌∷◌, ◌++◌, Bool, true, false, cond, Option, Some, None, refl, sym, subst, ◌∙◌, ⊎_elim}
use Rattle.std.specs.Prelude.{Contains}
use Rattle.std.specs.Ordering.{is_lt}
use Rattle.rl_view_spec.specs.Closure.{Text, lesser, least}
use Rattle.rl_view_spec.specs.Laws.{IsLeast}
use Rattle.rl_rows.specs.Least.{least_from}
use Rattle.rl_view_spec.proofs.LeastLemmas.{cmp, least_is_least, not_above, not_below_itself, not_below_on}
use Rattle.rl_view_spec.proofs.ToolsLemmas.{contains_head, contains_tail, contains_cases, contains_none}

lesser_is : (x f : Text) → IsLeast (Contains (f ∷ x ∷ [])) (lesser x (Some f))
lesser_is x f = step (is_lt (cmp f x)) refl
  where
    none : (m : Text) → Contains [] m → is_lt (cmp m x) ≡ false
    none m c = absurd (contains_none m c)

    step : (b : Bool) → is_lt (cmp f x) ≡ b → IsLeast (Contains (f ∷ x ∷ [])) (cond b f x)
    step true e = record {
      holds = contains_head f (x ∷ []);
      below = λ m c. ⊎_elim
          (λ q. subst (λ (z : Text). is_lt (cmp z f) ≡ false) q (not_below_itself f))
          (λ t. ⊎_elim (λ q. subst (λ (z : Text). is_lt (cmp z f) ≡ false) q (not_above f x e)) (λ n. absurd (contains_none m n))
          (contains_cases x [] m t))
          (contains_cases f (x ∷ []) m c);
    }
    step false e = record {
      holds = contains_tail f (x ∷ []) x (contains_head x []);
      below = λ m c. ⊎_elim
          (λ q. subst (λ (z : Text). is_lt (cmp z x) ≡ false) q e)
          (λ t. ⊎_elim (λ q. subst (λ (z : Text). is_lt (cmp z x) ≡ false) q (not_below_itself x)) (λ n. none m n) (contains_cases x [] m t))
          (contains_cases f (x ∷ []) m c);
    }

found_least : (f : Text) (xs : List Text) → (n : Text) × (least_from (Some f) xs ≡ Some n) × IsLeast (Contains (f ∷ xs)) n
found_least f [] = (
  f,
  refl,
  record {
    holds = contains_head f [];
    below = λ m c. ⊎_elim (λ q. subst (λ (z : Text). is_lt (cmp z f) ≡ false) q (not_below_itself f)) (λ t. absurd (contains_none m t))
        (contains_cases f [] m c);
  },
)
found_least f (x ∷ xs) = more (found_least (lesser x (Some f)) xs)
  where
    more : ((n : Text) × (least_from (Some (lesser x (Some f))) xs ≡ Some n) × IsLeast (Contains (lesser x (Some f) ∷ xs)) n)
        → (n : Text) × (least_from (Some (lesser x (Some f))) xs ≡ Some n) × IsLeast (Contains (f ∷ x ∷ xs)) n
    more found =
        let l : IsLeast (Contains (f ∷ x ∷ [])) (lesser x (Some f)) = lesser_is x f in
        let i : IsLeast (Contains (lesser x (Some f) ∷ xs)) found.0 = found.2 in
        let one : (m : Text) → Contains (f ∷ x ∷ []) m → Contains (f ∷ x ∷ xs) m = λ m c. ⊎_elim
        (λ q. subst (λ (z : Text). Contains (f ∷ x ∷ xs) z) q (contains_head f (x ∷ xs)))
        (λ t. ⊎_elim (λ q. subst (λ (z : Text). Contains (f ∷ x ∷ xs) z) q (contains_tail f (x ∷ xs) x (contains_head x xs)))
        (λ n. absurd (contains_none m n)) (contains_cases x [] m t))
        (contains_cases f (x ∷ []) m c) in
        let low : (m : Text) → Contains (f ∷ x ∷ []) m → is_lt (cmp m found.0) ≡ false =
        λ m c. not_below_on found.0 (lesser x (Some f)) m (i.below (lesser x (Some f)) (contains_head (lesser x (Some f)) xs)) (l.below m c) in (
          found.0,
          found.1,
          record {
            holds = ⊎_elim
                (λ q. subst (λ (z : Text). Contains (f ∷ x ∷ xs) z) q (one (lesser x (Some f)) l.holds))
                (λ t. contains_tail f (x ∷ xs) found.0 (contains_tail x xs found.0 t))
                (contains_cases (lesser x (Some f)) xs found.0 i.holds);
            below = λ m c. ⊎_elim
                (λ q. low m (subst (λ (z : Text). Contains (f ∷ x ∷ []) z) q (contains_head f (x ∷ []))))
                (λ t. ⊎_elim
                (λ q. low m (subst (λ (z : Text). Contains (f ∷ x ∷ []) z) q (contains_tail f (x ∷ []) x (contains_head x []))))
                (λ u. i.below m (contains_tail (lesser x (Some f)) xs m u))
                (contains_cases x xs m t))
                (contains_cases f (x ∷ xs) m c);
          },
        )

pub found_is_least : (xs : List Text) → least_from None xs ≡ least xs
found_is_least [] = refl
found_is_least (x ∷ xs) = let found = found_least x xs in found.1 ∙ sym (least_is_least (x ∷ xs) found.0 found.2)

-- one that is taken or not
pub found_append : (found : Option Text) (xs ys : List Text) → least_from found (xs ++ ys) ≡ least_from (least_from found xs) ys
found_append found [] ys = refl
found_append found (x ∷ xs) ys = found_append (Some (lesser x found)) xs ys
