-- The places of texts, as more of them are noted.
use Rattle.std.proofs.Common.{◌≡◌, ℕ, ◌+◌, Bool, true, false, cond, List, [], ◌∷◌, ◌++◌, length, Option, Some}
use Rattle.std.proofs.Common.{None, bytes_eq, refl, sym, ap, ◌∙◌, arith}
use Rattle.std.specs.Prelude.{is_some}
use Rattle.std.specs.Option.{option_or}
use Rattle.std.specs.List.{position_from}
use Rattle.std.proofs.lemmas.Slice.Eq.{bytes_eq-Decides}
use Rattle.rl_startup.specs.Rows.{place_in}

or_none : (o : Option ℕ) → option_or o None ≡ o
or_none None = refl
or_none (Some n) = refl

or_known : (o p : Option ℕ) → is_some o ≡ true → o ≡ option_or o p
or_known None p is = absurd (cc)
or_known (Some n) p is = refl

-- a text that has a place keeps it
kept_by : (f : List ℕ → Option ℕ) (text q : List ℕ) (place : ℕ) (b : Bool) → bytes_eq text q ≡ b → is_some (f text) ≡ true →
    f q ≡ option_or (f q) (cond b (Some place) None)
kept_by f text q place true e is =
    let same : text ≡ q = (bytes_eq-Decides text q).0 e in
    or_known (f q) (Some place) (ap (λ t. is_some (f t)) (sym same) ∙ is)
kept_by f text q place false e is = sym (or_none (f q))

pub kept : (f : List ℕ → Option ℕ) (text q : List ℕ) (place : ℕ) → is_some (f text) ≡ true →
    f q ≡ option_or (f q) (cond (bytes_eq text q) (Some place) None)
kept f text q place is = kept_by f text q place (bytes_eq text q) refl is

-- one that has none gets it
added_by : (f : List ℕ → Option ℕ) (text q : List ℕ) (place : ℕ) (b : Bool) → bytes_eq text q ≡ b → f text ≡ None →
    cond b (Some place) (f q) ≡ option_or (f q) (cond b (Some place) None)
added_by f text q place true e none =
    let same : text ≡ q = (bytes_eq-Decides text q).0 e in
    ap (λ o. option_or o (Some place)) (sym none ∙ ap f same)
added_by f text q place false e none = sym (or_none (f q))

pub added : (f : List ℕ → Option ℕ) (text q : List ℕ) (place : ℕ) → f text ≡ None →
    cond (bytes_eq text q) (Some place) (f q) ≡ option_or (f q) (cond (bytes_eq text q) (Some place) None)
added f text q place none = added_by f text q place (bytes_eq text q) refl none

-- ---- the place of one more text behind others

push_step : (b : Bool) (i : ℕ) (o p : Option ℕ) → option_or (cond b (Some i) o) p ≡ cond b (Some i) (option_or o p)
push_step true i o p = refl
push_step false i o p = refl

pub place_push : (p : List ℕ → Bool) (i n : ℕ) (xs : List (List ℕ)) (y : List ℕ) → n ≡ i + length xs →
    position_from p i (xs ++ y ∷ []) ≡ option_or (position_from p i xs) (cond (p y) (Some n) None)
place_push p i n [] y is =
    let same : n ≡ i = omega arith in ap (λ m. cond (p y) (Some m) None) (sym same)
place_push p i n (x ∷ xs) y is =
    ap (cond (p x) (Some i)) (place_push p (i + 1) n xs y (omega arith)) ∙ sym (push_step (p x) i (position_from p (i + 1) xs) (cond (p y) (Some n) None))

pub place_more : (before after : List (List ℕ)) (text q : List ℕ) (i : ℕ) (o : Option ℕ) → after ≡ before ++ text ∷ [] → i ≡ length before →
    o ≡ place_in before q
    → option_or o (cond (bytes_eq text q) (Some i) None) ≡ place_in after q
place_more before after text q i o grown count is =
    ap (λ p. option_or p (cond (bytes_eq text q) (Some i) None)) is ∙ sym (place_push (λ other. bytes_eq other q) 0 i before text (omega (arith, count)))
    ∙ ap (λ (texts : List (List ℕ)). place_in texts q) (sym grown)
