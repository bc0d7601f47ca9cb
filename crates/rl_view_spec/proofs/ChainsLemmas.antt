-- A chain can be followed in as many steps as there are rows.
use Rattle.std.proofs.Common.{◌≡◌, ℕ, zero, suc, ◌+◌, ◌≤◌, List, [], ◌∷◌, Bool, true, false, cond, ◌&&◌, not, ◌⊎◌}
use Rattle.std.proofs.Common.{length, Option, Some, None, refl, ap, sym, subst, ◌∙◌, inl, inr, ⊎_elim, arith}
use Rattle.std.specs.Prelude.{bytes_eq, Contains, find, is_some}
use Rattle.std.specs.List.{list_any}
use Rattle.std.proofs.lemmas.Bool.{and_from, or_cases, or_left, or_right}
use Rattle.std.proofs.lemmas.Slice.Eq.{bytes_eq-Decides}
use Rattle.std.proofs.lemmas.List.Folds.{list_any_at}
use Rattle.rl_names.specs.declared.row.Row.{Row}
use Rattle.rl_view_spec.specs.Closure.{Text, Registered, row_of, deps_of, deps_of_row, Leads, InClosure, reaches, in_closure}

pub same : (a b : Text) → bytes_eq a b ≡ true → a ≡ b
same a b h = (bytes_eq-Decides a b).0 h

same_itself : (a : Text) → bytes_eq a a ≡ true
same_itself a = grind (arith, bytes_eq-Decides a a)

-- a member that passes
pub any_member : (p : Text → Bool) (xs : List Text) → list_any p xs ≡ true → (x : Text) × Contains xs x × (p x ≡ true)
any_member p [] h = cc
any_member p (x ∷ xs) h = ⊎_elim (λ e. (x, (0, omega arith, refl), e))
    (λ e. let m = any_member p xs e in (m.0, (suc m.1.0, omega (arith, m.1.1), m.1.2), m.2)) (or_cases (p x) (list_any p xs) h)

pub member_any : (p : Text → Bool) (xs : List Text) (x : Text) → Contains xs x → p x ≡ true → list_any p xs ≡ true
member_any p xs x c h = list_any_at p xs c.0 x c.1 (ap p c.2 ∙ h)

-- what is reached is led to
pub led_from_reaches : (r : Registered) (n : ℕ) (name last : Text) → reaches r n name last ≡ true → InClosure r name last
led_from_reaches r zero name last h = ([], same name last h)
led_from_reaches r (suc n) name last h =
    ⊎_elim (λ e. ([], same name last e))
    (λ e. let m = any_member (λ next. reaches r n next last) (deps_of r name) e in
    let led : InClosure r m.0 last = led_from_reaches r n m.0 last m.2 in
    (m.0 ∷ led.0, (m.1, led.1)))
    (or_cases (bytes_eq name last) (list_any (λ next. reaches r n next last) (deps_of r name)) h)

reaches_itself : (r : Registered) (n : ℕ) (name : Text) → reaches r n name name ≡ true
reaches_itself r zero name = same_itself name
reaches_itself r (suc n) name = or_left (bytes_eq name name) _ (same_itself name)

abbrev weight : Bool → ℕ
weight true = 1
weight false = 0

-- how many rows have a name that passes
abbrev pub count : (Text → Bool) → List Row → ℕ
count p [] = 0
count p (row ∷ rows) = weight (p row.name) + count p rows

abbrev pub without : (Text → Bool) → Text → Text → Bool
without p x y = p y && not (bytes_eq y x)

-- each name that the chain leaves passes
abbrev AllPass : (Text → Bool) → Text → List Text → Type 0
AllPass p name [] = Unit {0}
AllPass p name (next ∷ names) = (p name ≡ true) × AllPass p next names

pub count_le : (p q : Text → Bool) (rows : List Row) → ((y : Text) → q y ≡ true → p y ≡ true) → count q rows ≤ count p rows
count_le p q [] h = omega arith
count_le p q (row ∷ rows) h = omega (arith, count_le p q rows h, one_le (q row.name) (p row.name) (h row.name))
  where
    one_le : (a b : Bool) → (a ≡ true → b ≡ true) → weight a ≤ weight b
    one_le true b f = let e : b ≡ true = f refl in subst (λ (v : Bool). 1 ≤ weight v) (sym e) (omega arith)
    one_le false b f = omega arith

and_first : (a b : Bool) → (a && b) ≡ true → a ≡ true
and_first true b h = refl
and_first false b h = cc

-- one name fewer
pub count_without : (p : Text → Bool) (x : Text) (rows : List Row) → p x ≡ true → is_some (find (λ row. bytes_eq row.name x) rows) ≡ true →
    suc (count (without p x) rows) ≤ count p rows
count_without p x [] h f = cc
count_without p x (row ∷ rows) h f = step (λ g. count_without p x rows h g) (bytes_eq row.name x) refl
  where
    none : (a : Bool) → weight (a && not true) ≡ 0
    none true = refl
    none false = refl

    all : (a : Bool) → weight (a && not false) ≡ weight a
    all true = refl
    all false = refl

    step : (is_some (find (λ row. bytes_eq row.name x) rows) ≡ true → suc (count (without p x) rows) ≤ count p rows) → (b : Bool) →
        bytes_eq row.name x ≡ b → suc (count (without p x) (row ∷ rows)) ≤ count p (row ∷ rows)
    step rest true e =
        let passes : p row.name ≡ true = ap p (same row.name x e) ∙ h in
        let here : weight (p row.name) ≡ 1 = ap (λ b. weight b) passes in
        let gone : weight (without p x row.name) ≡ 0 = ap (λ b. weight (p row.name && not b)) e ∙ none (p row.name) in
        omega (arith, here, gone, count_le p (without p x) rows (λ y q. and_first (p y) (not (bytes_eq y x)) q))
    step rest false e =
        let kept : weight (without p x row.name) ≡ weight (p row.name) = ap (λ b. weight (p row.name && not b)) e ∙ all (p row.name) in
        let found : is_some (find (λ row. bytes_eq row.name x) rows)
        ≡ true = subst (λ (b : Bool). is_some (cond b (Some row) (find (λ row. bytes_eq row.name x) rows)) ≡ true) e f in
        omega (arith, kept, rest found)

-- what has a dependency has a row
pub row_from_dep : (r : Registered) (o : Option Row) (next : Text) → Contains (deps_of_row r o) next → is_some o ≡ true
row_from_dep r None next c = absurd (omega (arith, c.1))
row_from_dep r (Some row) next c = refl

-- Either the chain never leaves x, or the part after it last does so leads there from x.
last_leave : (r : Registered) (p : Text → Bool) (x name : Text) (chain : List Text) (last : Text) → Leads r name chain last → AllPass p name chain
    → AllPass (without p x) name chain ⊎ ((next : Text) × (rest : List Text) × Contains (deps_of r x) next × Leads r next rest last
    × AllPass (without p x) next rest)
last_leave r p x name [] last l a = inl tt
last_leave r p x name (next ∷ rest) last l a = ⊎_elim
    (λ avoids. here (bytes_eq name x) refl avoids)
    (λ found. inr found)
    (last_leave r p x next rest last l.1 a.1)
  where
    here : (b : Bool) → bytes_eq name x ≡ b → AllPass (without p x) next rest →
        AllPass (without p x) name (next ∷ rest) ⊎ ((next : Text) × (rest : List Text) × Contains (deps_of r x) next × Leads r next rest last
        × AllPass (without p x) next rest)
    here true e avoids = inr (next, rest, subst (λ (y : Text). Contains (deps_of r y) next) (same name x e) l.0, l.1, avoids)
    here false e avoids = inl (and_from (p name) (not (bytes_eq name x)) a.0 (ap not e), avoids)

-- a chain that leaves only names that pass is followed in as many steps as there are such rows
reaches_within : (r : Registered) (n : ℕ) (p : Text → Bool) (name : Text) (chain : List Text) (last : Text) → count p r.rows ≤ n →
    Leads r name chain last → AllPass p name chain → reaches r n name last ≡ true
reaches_within r n p name [] last h l a = subst (λ (y : Text). reaches r n name y ≡ true) l (reaches_itself r n name)
reaches_within r zero p name (next ∷ rest) last h l a = absurd (omega (arith, h, count_without p name r.rows a.0 (row_from_dep r (row_of r name) next l.0)))
reaches_within r (suc n) p name (next ∷ rest) last h l a =
    let fewer : count (without p name) r.rows ≤ n = omega (arith, h, count_without p name r.rows a.0 (row_from_dep r (row_of r name) next l.0)) in
    ⊎_elim
    (λ avoids. step next l.0 (reaches_within r n (without p name) next rest last fewer l.1 avoids))
    (λ f. step f.0 f.2 (reaches_within r n (without p name) f.0 f.1 last fewer f.3 f.4))
    (last_leave r p name next rest last l.1 a.1)
  where
    step : (c : Text) → Contains (deps_of r name) c → reaches r n c last ≡ true → reaches r (suc n) name last ≡ true
    step c member reached = or_right (bytes_eq name last) _ (member_any (λ next. reaches r n next last) (deps_of r name) c member reached)

count_all : (rows : List Row) → count (λ name. true) rows ≡ length rows
count_all [] = refl
count_all (row ∷ rows) = omega (arith, count_all rows)

pass_all : (name : Text) (chain : List Text) → AllPass (λ name. true) name chain
pass_all name [] = tt
pass_all name (next ∷ rest) = (refl, pass_all next rest)

-- what is led to is in the closure that computes
pub reaches_from_led : (r : Registered) (name last : Text) → InClosure r name last → in_closure r name last ≡ true
reaches_from_led r name last c = reaches_within r (length r.rows) (λ name. true) name c.0 last (omega (arith, count_all r.rows)) c.1 (pass_all name c.0)

pub led_in_closure : (r : Registered) (name last : Text) → in_closure r name last ≡ true → InClosure r name last
led_in_closure r name last h = led_from_reaches r (length r.rows) name last h
