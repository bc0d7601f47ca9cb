-- The options of a line, as far as a loop has come.
use Rattle.std.proofs.Common.{◌≡◌, ℕ, zero, suc, ◌<◌, ◌+◌, ◌&&◌, ◌||◌, arith, true, false, Bool, List, [], ◌∷◌}
use Rattle.std.proofs.Common.{◌++◌, map, take, length, get_or, Bor, Option, Some, None, option_map, refl, ap, sym, ◌∙◌}
use Rattle.std.specs.List.{list_all, list_any}
use Rattle.std.specs.Option.{option_or}
use Rattle.std.proofs.lemmas.List.{take_more, map-append}
use Rattle.rl_gadgets.specs.Line.{last_value, value_under}

or_assoc : {X : Type 0} (a b c : Option X) → option_or (option_or a b) c ≡ option_or a (option_or b c)
or_assoc None b c = refl
or_assoc (Some x) b c = refl

or_none : {X : Type 0} (a : Option X) → option_or a None ≡ a
or_none None = refl
or_none (Some x) = refl

last_more : (key : List ℕ) (options : List (List ℕ)) (option : List ℕ)
    → last_value key (options ++ option ∷ []) ≡ option_or (value_under key option) (last_value key options)
last_more key [] option = sym (or_none (value_under key option))
last_more key (o ∷ os) option =
    ap (λ v. option_or v (value_under key o)) (last_more key os option) ∙ or_assoc (value_under key option) (last_value key os) (value_under key o)

or_seen : (a b : Option (Bor (List ℕ))) → option_map (λ v. v.now) (option_or a b) ≡ option_or (option_map (λ v. v.now) a) (option_map (λ v. v.now) b)
or_seen None b = refl
or_seen (Some x) b = refl

-- what the first texts are, with one more
pub seen_more : (texts : List (Bor (List ℕ))) (i : ℕ) (d : Bor (List ℕ)) → i < length texts
    → map (λ x. x.now) (take (i + 1) texts) ≡ map (λ x. x.now) (take i texts) ++ (get_or texts i d).now ∷ []
seen_more texts i d h = ap (map (λ x. x.now)) (take_more texts i d h) ∙ map-append (λ x. x.now) (take i texts) (get_or texts i d ∷ [])

pub last_after : (key : List ℕ) (options : List (Bor (List ℕ))) (i : ℕ) (d : Bor (List ℕ)) (last found : Option (Bor (List ℕ))) → i < length options
    → option_map (λ v. v.now) last ≡ last_value key (map (λ x. x.now) (take i options))
    → option_map (λ v. v.now) found ≡ value_under key (get_or options i d).now
    → option_map (λ v. v.now) (option_or found last) ≡ last_value key (map (λ x. x.now) (take (i + 1) options))
last_after key options i d last found h so_far here =
    or_seen found last ∙ ap (λ v. option_or v (option_map (λ v. v.now) last)) here ∙ ap (option_or (value_under key (get_or options i d).now)) so_far
    ∙ sym (last_more key (map (λ x. x.now) (take i options)) (get_or options i d).now)
    ∙ ap (last_value key) (sym (seen_more options i d h))

and_false : (v : Bool) → (v && false) ≡ false
and_false true = refl
and_false false = refl

pub not_all : (p : List ℕ → Bool) (texts : List (Bor (List ℕ))) (i : ℕ) (d : Bor (List ℕ)) → i < length texts → p (get_or texts i d).now ≡ false
    → list_all p (map (λ x. x.now) texts) ≡ false
not_all p [] i d h e = absurd (let x : ⊥ = omega arith in x)
not_all p (x ∷ xs) zero d h e = ap (λ v. v && list_all p (map (λ y. y.now) xs)) e
not_all p (x ∷ xs) (suc i) d h e = ap (λ v. p x.now && v) (not_all p xs i d (omega arith) e) ∙ and_false (p x.now)

or_true : (v : Bool) → (v || true) ≡ true
or_true true = refl
or_true false = refl

pub one_does : (p : List ℕ → Bool) (texts : List (Bor (List ℕ))) (i : ℕ) (d : Bor (List ℕ)) → i < length texts → p (get_or texts i d).now ≡ true
    → list_any p (map (λ x. x.now) texts) ≡ true
one_does p [] i d h e = absurd (let x : ⊥ = omega arith in x)
one_does p (x ∷ xs) zero d h e = ap (λ v. v || list_any p (map (λ y. y.now) xs)) e
one_does p (x ∷ xs) (suc i) d h e = ap (λ v. p x.now || v) (one_does p xs i d (omega arith) e) ∙ or_true (p x.now)
