-- What a list has.
use Rattle.std.proofs.Common.{◌≡◌, ℕ, zero, suc, ◌<◌, List, [], ◌∷◌, Bool, true, ◌⊎◌, length, get_or, refl, ap, sym, subst, ◌∙◌}
use Rattle.std.proofs.Common.{inl, inr, ⊎_elim, arith, Vec}
use Rattle.std.specs.Prelude.{All, Contains}
use Rattle.std.specs.List.{list_all}
use Rattle.std.specs.declared.alloc.Global.{Global}
use Rattle.std.proofs.lemmas.Bool.{both_ways, true_from_ne_false}
use Rattle.std.proofs.lemmas.List.{get_or-map}
use Rattle.std.proofs.lemmas.List.Elements.{Contains-get_or}
use Rattle.std.proofs.lemmas.List.Folds.{list_all_at}
use Rattle.rl_graph.specs.Graph.{edge_lists, next_in, IsWithin}

pub contains_head : {X : Type 0} (x : X) (xs : List X) → Contains (x ∷ xs) x
contains_head x xs = (0, omega arith, refl)

pub contains_tail : {X : Type 0} (y : X) (xs : List X) (x : X) → Contains xs x → Contains (y ∷ xs) x
contains_tail y xs x c = (suc c.0, omega (arith, c.1), c.2)

pub contains_cases : {X : Type 0} (y : X) (xs : List X) (x : X) → Contains (y ∷ xs) x → (y ≡ x) ⊎ Contains xs x
contains_cases y xs x (zero, low, e) = inl e
contains_cases y xs x (suc k, low, e) = inr (k, omega arith, e)

pub contains_none : {X : Type 0} (x : X) → Contains [] x → ⊥
contains_none x c = absurd (omega (arith, c.1))

-- a list of one element has no other
pub contains_one : (k x : ℕ) → Contains (k ∷ []) x → k ≡ x
contains_one k x c = ⊎_elim (λ e. e) (λ d. absurd (contains_none x d)) (contains_cases k [] x c)

-- each passes
pub all_each : {X : Type 0} (p : X → Bool) (xs : List X) (x : X) → list_all p xs ≡ true → Contains xs x → p x ≡ true
all_each p xs x h c = true_from_ne_false (p x) (λ e. both_ways (list_all p xs) (list_all_at p xs c.0 x c.1 (ap p c.2 ∙ e)) h)

-- what is listed for a number
pub listed : (edges : List (Vec ℕ Global)) (from : ℕ) (d : Vec ℕ Global) (next : List ℕ) → from < length edges → d ≡ get_or edges from d →
    next ≡ d.items → next ≡ next_in (edge_lists edges) from
listed edges from d next low is e = e ∙ ap (λ (v : Vec ℕ Global). v.items) is ∙ sym (get_or-map (λ (v : Vec ℕ Global). v.items) edges from d [] low)

-- what is led to by one is low
pub all_within : (lists : List (List ℕ)) (from : ℕ) (next : List ℕ) (n : ℕ) → IsWithin lists → next ≡ next_in lists from →
    length lists ≡ n → All (λ to. to < n) next
all_within lists from next n within e f = λ k d low.
    let there : get_or next k d < length lists = within from (get_or next k d)
    (subst (λ (xs : List ℕ). Contains xs (get_or next k d)) e (Contains-get_or next k d low)) in
    omega (arith, there, f)
