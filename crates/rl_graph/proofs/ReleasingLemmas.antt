-- One number after another is released: one fewer is left for it.
use Rattle.std.proofs.Common.{◌≡◌, ℕ, suc, ◌+◌, ◌-◌, ◌<◌, ◌≤◌, List, [], ◌∷◌, ◌++◌, Bool, true, false, cond, ◌&&◌}
use Rattle.std.proofs.Common.{length, take, set, get_or, nat_eq, nat_lt, refl, ap, sym, subst, ◌∙◌, ⊎_elim, arith}
use Rattle.std.specs.Prelude.{count_by}
use Rattle.std.proofs.lemmas.Bool.{cases_eq, eq-eqb, ne_eqb, lt-ltb}
use Rattle.std.proofs.lemmas.List.{get_or-set_same, get_or-set_other, length-set, length-append, take_all, take-append-le}
use Rattle.std.proofs.lemmas.List.Sums.{sum_by-set, count_by_more_yes, sum_by-take-le}
use Rattle.rl_graph.specs.Ranks.{Releases}
use Rattle.rl_graph.specs.Reversed.{times}
use Rattle.rl_graph.proofs.CountsLemmas.{count_push, none_from}

pub releases_none : (left ranked : List ℕ) → Releases [] left left ranked ranked
releases_none left ranked = record {
  long = refl;
  fewer = λ number. omega arith;
  grows = omega arith;
  front = take_all (length ranked) ranked (omega arith);
  adds = λ number. omega arith;
  total = refl;
}

-- how often a number was released, once it was released once more
more : (x : ℕ) (ns : List ℕ) → times x (ns ++ x ∷ []) ≡ times x ns + 1
more x ns = count_push (nat_eq x) ns x ∙ ap (λ (b : Bool). times x ns + cond b 1 0) (eq-eqb x x refl)

same : (y x : ℕ) (ns : List ℕ) → (y ≡ x → ⊥) → times y (ns ++ x ∷ []) ≡ times y ns
same y x ns ne = omega (arith, count_push (nat_eq y) ns x, none_from (nat_eq y x) (ne_eqb y x ne))

-- what is left of a number that is released next
pub still_left : (x : ℕ) (ns left left' ranked ranked' : List ℕ) → Releases ns left left' ranked ranked' → times x ns < get_or left x 0 →
    get_or left' x 0 ≡ suc (get_or left x 0 - times x (ns ++ x ∷ []))
still_left x ns left left' ranked ranked' r room = omega (arith, r.fewer x, more x ns)

left_at : (x : ℕ) (ns left left' ranked ranked' : List ℕ) → x < length left → Releases ns left left' ranked ranked' → (y : ℕ)
    → get_or (set left' x (get_or left' x 0 - 1)) y 0 ≡ get_or left y 0 - times y (ns ++ x ∷ [])
left_at x ns left left' ranked ranked' low r y = ⊎_elim (λ e. here e) (λ ne. apart ne) (cases_eq y x)
  where
    here : y ≡ x → get_or (set left' x (get_or left' x 0 - 1)) y 0 ≡ get_or left y 0 - times y (ns ++ x ∷ [])
    here e =
        let at : get_or (set left' x (get_or left' x 0 - 1)) x 0
        ≡ get_or left' x 0 - 1 = get_or-set_same left' x (get_or left' x 0 - 1) 0 (omega (arith, r.long)) in
        let is : get_or (set left' x (get_or left' x 0 - 1)) x 0 ≡ get_or left x 0 - times x (ns ++ x ∷ []) = omega (arith, at, r.fewer x, more x ns) in
        subst (λ (k : ℕ). get_or (set left' x (get_or left' x 0 - 1)) k 0 ≡ get_or left k 0 - times k (ns ++ x ∷ [])) (sym e) is

    apart : (y ≡ x → ⊥) → get_or (set left' x (get_or left' x 0 - 1)) y 0 ≡ get_or left y 0 - times y (ns ++ x ∷ [])
    apart ne = omega (arith, get_or-set_other left' x y (get_or left' x 0 - 1) 0 ne, r.fewer y, same y x ns ne)

-- no other number is added
adds_other : (x : ℕ) (ns left left' ranked ranked' : List ℕ) → Releases ns left left' ranked ranked' → (y : ℕ) → (y ≡ x → ⊥)
    → times y ranked' ≡ times y ranked + cond (nat_lt 0 (times y (ns ++ x ∷ [])) && nat_eq (get_or (set left' x (get_or left' x 0 - 1)) y 0) 0) 1 0
adds_other x ns left left' ranked ranked' r y ne =
    r.adds y ∙ ap (λ (n : ℕ). times y ranked + cond (nat_lt 0 n && nat_eq (get_or left' y 0) 0) 1 0) (sym (same y x ns ne))
    ∙ ap (λ (n : ℕ). times y ranked + cond (nat_lt 0 (times y (ns ++ x ∷ [])) && nat_eq n 0) 1 0)
    (sym (get_or-set_other left' x y (get_or left' x 0 - 1) 0 ne))

-- the number was not added before
not_added : (x : ℕ) (ns left left' ranked ranked' : List ℕ) → Releases ns left left' ranked ranked' → times x ns < get_or left x 0 →
    times x ranked' ≡ times x ranked
not_added x ns left left' ranked ranked' r room =
    let some : nat_eq (get_or left' x 0) 0 ≡ false = ne_eqb (get_or left' x 0) 0 (λ z. omega (arith, z, r.fewer x, room)) in
    r.adds x ∙ ap (λ (b : Bool). times x ranked + cond (nat_lt 0 (times x ns) && b) 1 0) some ∙ step (nat_lt 0 (times x ns))
  where
    step : (b : Bool) → times x ranked + cond (b && false) 1 0 ≡ times x ranked
    step true = omega arith
    step false = omega arith

-- how many are at 0, before and after
zeros : (x : ℕ) (left' : List ℕ) (b : Bool) → x < length left' → 0 < get_or left' x 0 → nat_eq (get_or left' x 0 - 1) 0 ≡ b
    → count_by (λ n. nat_eq n 0) (set left' x (get_or left' x 0 - 1)) ≡ count_by (λ n. nat_eq n 0) left' + cond b 1 0
zeros x left' b low some e =
    let was : ◌≡◌ {A = ℕ} (cond (nat_eq (get_or left' x 0) 0) 1 0) 0 =
    none_from (nat_eq (get_or left' x 0) 0) (ne_eqb (get_or left' x 0) 0 (λ z. omega (arith, z, some))) in
    let is : ◌≡◌ {A = ℕ} (cond (nat_eq (get_or left' x 0 - 1) 0) 1 0) (cond b 1 0) = ap (λ (t : Bool). cond t 1 0) e in
    omega (arith, sum_by-set (λ (n : ℕ). cond (nat_eq n 0) 1 0) left' x (get_or left' x 0 - 1) 0 low, was, is)

-- some is left for the number that is released
pub releases_some : (x : ℕ) (ns left left' ranked ranked' : List ℕ) → Releases ns left left' ranked ranked' → x < length left →
    times x ns < get_or left x 0
    → nat_eq (get_or left' x 0 - 1) 0 ≡ false → Releases (ns ++ x ∷ []) left (set left' x (get_or left' x 0 - 1)) ranked ranked'
releases_some x ns left left' ranked ranked' r low room some = record {
  long = length-set left' x (get_or left' x 0 - 1) ∙ r.long;
  fewer = left_at x ns left left' ranked ranked' low r;
  grows = r.grows;
  front = r.front;
  adds = λ y. ⊎_elim (λ e. here y e) (λ ne. adds_other x ns left left' ranked ranked' r y ne) (cases_eq y x);
  total = omega (arith, zeros x left' false (omega (arith, r.long)) (omega (arith, r.fewer x, room)) some, r.total);
}
  where
    at : nat_eq (get_or (set left' x (get_or left' x 0 - 1)) x 0) 0 ≡ false
    at = ap (λ (n : ℕ). nat_eq n 0) (get_or-set_same left' x (get_or left' x 0 - 1) 0 (omega (arith, r.long))) ∙ some

    here : (y : ℕ) → y ≡ x → times y ranked' ≡ times y ranked + cond
        (nat_lt 0 (times y (ns ++ x ∷ [])) && nat_eq (get_or (set left' x (get_or left' x 0 - 1)) y 0) 0) 1 0
    here y e = subst (λ (k : ℕ). times k ranked' ≡ times k ranked + cond
        (nat_lt 0 (times k (ns ++ x ∷ [])) && nat_eq (get_or (set left' x (get_or left' x 0 - 1)) k 0) 0) 1 0) (sym e)
        (not_added x ns left left' ranked ranked' r room ∙ step (nat_lt 0 (times x (ns ++ x ∷ [])))
        ∙ ap (λ (b : Bool). times x ranked + cond (nat_lt 0 (times x (ns ++ x ∷ [])) && b) 1 0) (sym at))
      where
        step : (b : Bool) → times x ranked ≡ times x ranked + cond (b && false) 1 0
        step true = omega arith
        step false = omega arith

-- none is left, and the number is added
pub releases_last : (x : ℕ) (ns left left' ranked ranked' : List ℕ) → Releases ns left left' ranked ranked' → x < length left →
    times x ns < get_or left x 0
    → nat_eq (get_or left' x 0 - 1) 0 ≡ true → Releases (ns ++ x ∷ []) left (set left' x (get_or left' x 0 - 1)) ranked (ranked' ++ x ∷ [])
releases_last x ns left left' ranked ranked' r low room none = record {
  long = length-set left' x (get_or left' x 0 - 1) ∙ r.long;
  fewer = left_at x ns left left' ranked ranked' low r;
  grows = omega (arith, r.grows, length-append ranked' (x ∷ []));
  front = take-append-le (length ranked) ranked' (x ∷ []) r.grows ∙ r.front;
  adds = λ y. ⊎_elim (λ e. here y e) (λ ne. same y x ranked' ne ∙ adds_other x ns left left' ranked ranked' r y ne) (cases_eq y x);
  total = omega (arith, zeros x left' true (omega (arith, r.long)) (omega (arith, r.fewer x, room)) none, r.total, length-append ranked' (x ∷ []));
}
  where
    at : nat_eq (get_or (set left' x (get_or left' x 0 - 1)) x 0) 0 ≡ true
    at = ap (λ (n : ℕ). nat_eq n 0) (get_or-set_same left' x (get_or left' x 0 - 1) 0 (omega (arith, r.long))) ∙ none

    here : (y : ℕ) → y ≡ x → times y (ranked' ++ x ∷ [])
        ≡ times y ranked + cond (nat_lt 0 (times y (ns ++ x ∷ [])) && nat_eq (get_or (set left' x (get_or left' x 0 - 1)) y 0) 0) 1 0
    here y e = subst (λ (k : ℕ). times k (ranked' ++ x ∷ [])
        ≡ times k ranked + cond (nat_lt 0 (times k (ns ++ x ∷ [])) && nat_eq (get_or (set left' x (get_or left' x 0 - 1)) k 0) 0) 1 0) (sym e)
        (more x ranked' ∙ ap (λ (n : ℕ). n + 1) (not_added x ns left left' ranked ranked' r room)
        ∙ ap (λ (b : Bool). times x ranked + cond (b && true) 1 0) (sym (lt-ltb 0 (times x (ns ++ x ∷ [])) (omega (arith, more x ns))))
        ∙ ap (λ (b : Bool). times x ranked + cond (nat_lt 0 (times x (ns ++ x ∷ [])) && b) 1 0) (sym at))

-- there is room for the number that comes next
pub room_for : (numbers : List ℕ) (i : ℕ) (left : List ℕ) → i < length numbers →
    ((number : ℕ) → times number numbers ≤ get_or left number 0) → times (get_or numbers i 0) (take i numbers) < get_or left (get_or numbers i 0) 0
room_for numbers i left low enough =
    let x : ℕ = get_or numbers i 0 in
    omega (
      arith,
      count_by_more_yes (nat_eq x) numbers i 0 low (eq-eqb x x refl),
      sum_by-take-le (λ (y : ℕ). cond (nat_eq x y) 1 0) numbers (i + 1),
      enough
          x,
    )
