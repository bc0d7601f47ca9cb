-- Why not everything was served is told exactly where something was not.
use Rattle.std.proofs.Common.{◌≡◌, ℕ, ◌+◌, List, [], ◌∷◌, Bool, true, false, ◌&&◌, not, reverse, Option, Some, None, refl, ap, ap₂, sym}
use Rattle.std.proofs.Common.{subst, ◌∙◌, ⊎_elim}
use Rattle.std.specs.Prelude.{Contains, cond, filter, find, flat_map, if◌then◌else◌, is_none, option_and_then, option_map}
use Rattle.std.specs.List.{list_all}
use Rattle.std.specs.Option.{option_map_or, option_or}
use Rattle.std.proofs.lemmas.Bool.{both_ways, not-true}
use Rattle.std.proofs.lemmas.List.{reverse-append}
use Rattle.std.proofs.lemmas.List.Elements.{Contains-append_cases}
use Rattle.std.proofs.lemmas.List.Folds.{list_all-append}
use Rattle.rl_view_spec.specs.Closure.{Text, Registered, Refusal, in_closures, least, refusal_of, resolves}
use Rattle.rl_view_spec.specs.View.{View, Event, first_of, is_touched, state_of, touches}
use Rattle.rl_view_spec.proofs.ResolveLemmas.{accepted_each_resolves, closure_itself, in_one, resolves_accepted, resolves_itself}
use Rattle.rl_view_spec.proofs.StatesLemmas.{iff_same}
use Rattle.rl_view_spec.proofs.ToolsLemmas.{all_each, contains_cases, contains_filter, contains_map, contains_none, contains_tail, flat_map_contains, found_in}
use Rattle.rl_view_spec.proofs.ToolsLemmas.{contains_head, found_place, one_any}
use Rattle.rl_script_spec.specs.Laws.{ToldWhereNotServed}
use Rattle.rl_script_spec.specs.Output.{all_ready, are_ready, event_of, events_of, is_ready, was_served}
use Rattle.rl_script_spec.specs.Unready.{blame_for, blamed, first_refused, held_up, names_of, refused}
use Rattle.rl_script_spec.specs.declared.Step.{Step}
use Rattle.rl_script_spec.specs.declared.Step.TheVariants.{Using, Load, Impl, State}
use Rattle.rl_script_spec.specs.declared.Unready.{Unready}
use Rattle.rl_script_spec.specs.declared.Unready.TheVariants.{NotReady}
use Rattle.rl_script_spec.proofs.BlamedLemmas.{blamed_is_least}
use Rattle.rl_script_spec.proofs.OrderLemmas.{steps_lawful}

-- ---- lists

-- in either order
pub all_reversed : {X : Type 0} (p : X → Bool) (xs : List X) → list_all p (reverse xs) ≡ list_all p xs
all_reversed p [] = refl
all_reversed p (x ∷ xs) = ap (list_all p) (reverse-append (x ∷ []) xs) ∙ list_all-append p (reverse xs) (x ∷ [])
    ∙ ap (λ (b : Bool). b && (p x && true)) (all_reversed p xs) ∙ turned (list_all p xs) (p x)
  where
    turned : (a b : Bool) → (a && (b && true)) ≡ (b && a)
    turned true true = refl
    turned true false = refl
    turned false true = refl
    turned false false = refl

contains_reversed : {X : Type 0} (xs : List X) (x : X) → Contains (reverse xs) x → Contains xs x
contains_reversed [] x c = absurd (contains_none x c)
contains_reversed {X = X} (y ∷ xs) x c = ⊎_elim
    (λ t. contains_tail y xs x (contains_reversed xs x t))
    (λ h. ⊎_elim (λ e. subst (λ (z : X). Contains (y ∷ xs) z) e (contains_head y xs)) (λ none. absurd (contains_none x none)) (contains_cases y [] x h))
    (Contains-append_cases (reverse xs) (y ∷ []) x (subst (λ (zs : List X). Contains zs x) (reverse-append (y ∷ []) xs) c))

all_both : {X : Type 0} (p q : X → Bool) (xs : List X) → list_all (λ x. p x && q x) xs ≡ (list_all p xs && list_all q xs)
all_both p q [] = refl
all_both p q (x ∷ xs) = ap (λ (b : Bool). (p x && q x) && b) (all_both p q xs) ∙ four (p x) (q x) (list_all p xs) (list_all q xs)
  where
    four : (a b c d : Bool) → ((a && b) && (c && d)) ≡ ((a && c) && (b && d))
    four true true c d = refl
    four true false true d = refl
    four true false false d = refl
    four false b c d = refl

pub all_alike : {X : Type 0} (p q : X → Bool) (xs : List X) → ((x : X) → p x ≡ q x) → list_all p xs ≡ list_all q xs
all_alike p q [] each = refl
all_alike p q (x ∷ xs) each = ap₂ (λ (a b : Bool). a && b) (each x) (all_alike p q xs each)

all_flat : {X Y : Type 0} (p : Y → Bool) (f : X → List Y) (xs : List X) → list_all p (flat_map f xs) ≡ list_all (λ x. list_all p (f x)) xs
all_flat p f [] = refl
all_flat p f (x ∷ xs) = list_all-append p (f x) (flat_map f xs) ∙ ap (λ (b : Bool). list_all p (f x) && b) (all_flat p f xs)

-- none fails where each passes
pub none_fails : {X : Type 0} (p : X → Bool) (xs : List X) → is_none (find (λ x. not (p x)) xs) ≡ list_all p xs
none_fails p [] = refl
none_fails {X = X} p (x ∷ xs) = step (p x) (none_fails p xs)
  where
    step : (b : Bool) → is_none (find (λ x. not (p x)) xs) ≡ list_all p xs
        → is_none (cond (not b) (Some x) (find (λ x. not (p x)) xs)) ≡ (b && list_all p xs)
    step true rest = rest
    step false rest = refl

mapped : (f : Text → Unready) (o : Option Text) → is_none o ≡ false → is_none (option_map f o) ≡ false
mapped f None h = h
mapped f (Some x) h = refl

-- ---- steps

-- a request of names is accepted where each resolves
each_resolved : (r : Registered) (names : List Text) → list_all (resolves r) names ≡ is_none (refusal_of r names)
each_resolved r names = iff_same (list_all (resolves r) names) (is_none (refusal_of r names))
    (λ h. ap is_none (resolves_accepted r names (λ name c. resolves_itself r name (all_each (resolves r) names name h c))))
    (λ h. subst (λ (b : Bool). list_all (resolves r) (if b then names else []) ≡ true) h (accepted_each_resolves r names))

-- nothing that is asked for is refused
pub nothing_refused : (r : Registered) → refusal_of r [] ≡ None
nothing_refused r = resolves_accepted r [] (λ name c. absurd (contains_none name c))

abbrev pub is_accepted : Registered → Step → Bool
is_accepted r step = is_none (refusal_of r (names_of step))

served_is : (v : View) (past : List Event) (step : Step) →
    was_served v past step ≡ (is_accepted v.registered step && are_ready v past (names_of step))
served_is v past (Using names) = refl
served_is v past (Load names) = ap (λ (b : Bool). b && are_ready v past names) (each_resolved v.registered names)
served_is v past (Impl key script) = ap (λ (o : Option Refusal). is_none o && true) (sym (nothing_refused v.registered))
served_is v past (State name kind) = ap (λ (o : Option Refusal). is_none o && true) (sym (nothing_refused v.registered))

pub none_refused : (r : Registered) (number : ℕ) (steps : List Step) → is_none (first_refused r number steps) ≡ list_all (is_accepted r) steps
none_refused r number [] = refl
none_refused r number (step ∷ steps) = here (refusal_of r (names_of step)) (none_refused r (number + 1) steps)
  where
    here : (o : Option Refusal) → is_none (first_refused r (number + 1) steps) ≡ list_all (is_accepted r) steps
        → is_none (option_map_or (λ refusal. Some (refused number refusal)) o (first_refused r (number + 1) steps))
        ≡ (is_none o && list_all (is_accepted r) steps)
    here None rest = rest
    here (Some refusal) rest = refl

-- a name that an accepted step requests is touched by it
touched_by : (r : Registered) (step : Step) (name : Text) → is_accepted r step ≡ true → Contains (names_of step) name →
    touches r name (event_of r step) ≡ true
touched_by r (Using names) name h c =
    subst (λ (b : Bool). in_closures r (if b then names else []) name ≡ true) (sym h) (in_one r names name name c (closure_itself r name))
touched_by r (Load names) name h c =
    in_one r (filter (resolves r) names) name name
    (contains_filter (resolves r) names name c (all_each (resolves r) names name (each_resolved r names ∙ h) c)) (closure_itself r name)
touched_by r (Impl key script) name h c = absurd (contains_none name c)
touched_by r (State word kind) name h c = absurd (contains_none name c)

module _ (v : View) (past : List Step) where
  abbrev r : Registered
  r = v.registered

  abbrev events : List Event
  events = events_of v.registered past

  abbrev names : List Text
  names = flat_map names_of (reverse past)

  abbrev ready : Text → Bool
  ready name = is_ready (state_of v (events_of v.registered past) name)

  -- what accepted steps requested was touched
  touched_in : list_all (is_accepted r) past ≡ true → (name : Text) → Contains names name → is_touched v events name ≡ true
  touched_in h name c =
      let m = flat_map_contains names_of (reverse past) name c in
      let s : Contains past m.0 = contains_reversed past m.0 m.1 in
      one_any (touches r name) events (event_of r m.0) (contains_map (event_of r) past m.0 s)
      (touched_by r m.0 name (all_each (is_accepted r) past m.0 h s) m.2)

  -- so of one that is not ready it is told why
  why_told : (name : Text) → is_touched v events name ≡ true → ready name ≡ false → is_none (held_up v events name) ≡ false
  why_told name touched h = step (least (blamed v events name)) refl
    where
      step : (o : Option Text) → least (blamed v events name) ≡ o → is_none (held_up v events name) ≡ false
      step None e = absurd (both_ways (ready name) h (ap is_ready ((blamed_is_least v events (steps_lawful v past) name touched).1.0 e)))
      step (Some member) e = mapped (λ member. NotReady name (state_of v events name) member (blame_for (first_of v events member)))
          (least (blamed v events name)) (ap is_none e)

  all_is : all_ready v past ≡ (list_all (is_accepted r) past && list_all ready names)
  all_is =
      all_alike (was_served v events) (λ step. is_accepted r step && are_ready v events (names_of step)) past (served_is v events)
      ∙ all_both (is_accepted r) (λ step. are_ready v events (names_of step)) past
      ∙ ap (λ (b : Bool). list_all (is_accepted r) past && b)
      (sym (all_reversed (λ step. are_ready v events (names_of step)) past) ∙ sym (all_flat ready names_of (reverse past)))

  accepted_is : is_none (first_refused r 1 (reverse past)) ≡ list_all (is_accepted r) past
  accepted_is = none_refused r 1 (reverse past) ∙ all_reversed (is_accepted r) past

  held_is : list_all (is_accepted r) past ≡ true
      → is_none (option_and_then (held_up v events) (find (λ name. not (ready name)) names)) ≡ list_all ready names
  held_is h = step (find (λ name. not (ready name)) names) refl
    where
      step : (o : Option Text) → find (λ name. not (ready name)) names ≡ o → is_none (option_and_then (held_up v events) o) ≡ list_all ready names
      step None e = sym (ap is_none e) ∙ none_fails ready names
      step (Some name) e =
          let m = found_place (λ name. not (ready name)) names name e in
          why_told name (touched_in h name (found_in (λ name. not (ready name)) names name e)) (not-true (ready name) m.2)
          ∙ sym (ap is_none e) ∙ none_fails ready names

pub told_where_not_served : ToldWhereNotServed
told_where_not_served v past = step (first_refused v.registered 1 (reverse past)) refl
  where
    step : (o : Option Unready) → first_refused v.registered 1 (reverse past) ≡ o
        → is_none (option_or o (option_and_then (held_up v (events_of v.registered past))
        (find (λ name. not (is_ready (state_of v (events_of v.registered past) name))) (flat_map names_of (reverse past))))) ≡ all_ready v past
    step None e =
        let h : list_all (is_accepted v.registered) past ≡ true = sym (accepted_is v past) ∙ ap is_none e in
        held_is v past h
        ∙ sym (all_is v past ∙ ap (λ (b : Bool). b && list_all (λ name. is_ready (state_of v (events_of v.registered past) name))
        (flat_map names_of (reverse past))) h)
    step (Some told) e =
        let h : list_all (is_accepted v.registered) past ≡ false = sym (accepted_is v past) ∙ ap is_none e in
        sym (all_is v past ∙ ap (λ (b : Bool). b && list_all (λ name. is_ready (state_of v (events_of v.registered past) name))
        (flat_map names_of (reverse past))) h)
