-- Why not everything was served, as a player finds it.
use Rattle.std.proofs.Common.{◌≡◌, ℕ, ◌+◌, List, [], ◌∷◌, Bool, true, false, ◌&&◌, not, reverse, Option, Some, None, refl, ap}
use Rattle.std.proofs.Common.{ap₂, sym, subst}
use Rattle.std.proofs.Common.{◌∙◌, ⊎_elim}
use Rattle.std.specs.Prelude.{Contains, cond, find, flat_map, is_none, is_some, option_and_then, option_map}
use Rattle.std.specs.List.{list_all}
use Rattle.std.specs.Option.{option_map_or, option_or}
use Rattle.std.proofs.lemmas.List.{reverse-reverse}
use Rattle.std.proofs.lemmas.List.Folds.{find-append}
use Rattle.rl_view_spec.specs.Closure.{Text, Registered, Refusal, Resolves, refusal_of}
use Rattle.rl_view_spec.specs.Laws.{AreLawful}
use Rattle.rl_view_spec.specs.Numbers.{closure_numbers}
use Rattle.rl_view_spec.specs.Progress.{Progress}
use Rattle.rl_view_spec.specs.View.{View, Event, log_of, state_of}
use Rattle.rl_view_spec.proofs.ResolveLemmas.{accepted_resolves, resolves_accepted}
use Rattle.rl_view_spec.proofs.ToolsLemmas.{all_each, contains_cases, contains_none, flat_map_contains, found_in}
use Rattle.rl_view_spec.specs.declared.Phase.{Phase}
use Rattle.rl_rows.specs.Least.{least_from}
use Rattle.rl_script_spec.specs.Output.{events_of, is_ready}
use Rattle.rl_script_spec.specs.Unready.{first_refused, held_up, names_of, refused, unready_of}
use Rattle.rl_script_spec.specs.declared.Blame.{Blame}
use Rattle.rl_script_spec.specs.declared.Step.{Step}
use Rattle.rl_script_spec.specs.declared.Step.TheVariants.{Using, Load, Impl, State}
use Rattle.rl_script_spec.specs.declared.Unready.{Unready}
use Rattle.rl_script_spec.specs.declared.Unready.TheVariants.{NotReady}
use Rattle.rl_script_spec.proofs.OrderLemmas.{steps_lawful}
use Rattle.rl_script_spec.proofs.UnreadyLemmas.{all_alike, is_accepted, none_refused}
use Rattle.rl_view.proofs.ReadingsLemmas.{refusal_seen}
use Rattle.rl_drive.specs.Blamed.{blame_named, blamed_at, phase_named}
use Rattle.rl_drive.specs.Played.{is_ready_at, is_served_at}
use Rattle.rl_drive.specs.Player.{HasPlayed, Sees, held}
use Rattle.rl_drive.specs.declared.player.Player.{Player}
use Rattle.rl_drive.proofs.BlamingLemmas.{held_none, held_some}
use Rattle.rl_drive.proofs.SummingLemmas.{ready_alike, ready_resolves}

-- ---- refusals

-- names that are all ready were accepted
pub ready_accepted : (v : View) (past : List Event) (p : Player) (names : List Text) → AreLawful v past → Sees v past (log_of v past) p
    → list_all (is_ready_at p.table) names ≡ true → refusal_of v.registered names ≡ None
ready_accepted v past p names lawful s h = ready_resolves v past names lawful
    (sym (all_alike (is_ready_at p.table) (λ name. is_ready (state_of v past name)) names (λ name. ready_alike v past p name lawful s)) ∙ h)

-- so nothing is told of a step whose names are ready
pub ready_told : (v : View) (past : List Event) (p : Player) (number : ℕ) (step : Step) → AreLawful v past → Sees v past (log_of v past) p
    → list_all (is_ready_at p.table) (names_of step) ≡ true → None ≡ option_map (refused number) (refusal_of v.registered (names_of step))
ready_told v past p number step lawful s h = ap (option_map (refused number)) (sym (ready_accepted v past p (names_of step) lawful s h))

-- what the player's registry answers is told
pub asked_told : (v : View) (past : List Event) (p : Player) (number : ℕ) (step : Step) (names : List Text) (o : Option Refusal)
    → Sees v past (log_of v past) p → refusal_of p.table.registered names ≡ o → names ≡ names_of step
    → option_map (refused number) o ≡ option_map (refused number) (refusal_of v.registered (names_of step))
asked_told v past p number step names o s e same =
    ap (option_map (refused number)) (sym e ∙ refusal_seen v past (log_of v past) p.table s.table names ∙ ap (refusal_of v.registered) same)

refusal_none : (number : ℕ) (o : Option Refusal) → option_map (refused number) o ≡ None → o ≡ None
refusal_none number None h = refl
refusal_none number (Some refusal) h = cc

-- a step that was not refused, and one that was
pub passed_on : (r : Registered) (number : ℕ) (step : Step) (steps : List Step) → option_map (refused number) (refusal_of r (names_of step)) ≡ None
    → first_refused r number (step ∷ steps) ≡ first_refused r (number + 1) steps
passed_on r number step steps h =
    ap (λ (o : Option Refusal). option_map_or (λ refusal. Some (refused number refusal)) o (first_refused r (number + 1) steps))
    (refusal_none number (refusal_of r (names_of step)) h)

pub stopped_at : (r : Registered) (number : ℕ) (step : Step) (steps : List Step) (told : Unready) →
    option_map (refused number) (refusal_of r (names_of step)) ≡ Some told
    → first_refused r number (step ∷ steps) ≡ Some told
stopped_at r number step steps told h = here (refusal_of r (names_of step)) h
  where
    here : (o : Option Refusal) → option_map (refused number) o ≡ Some told
        → option_map_or (λ refusal. Some (refused number refusal)) o (first_refused r (number + 1) steps) ≡ Some told
    here None h = cc
    here (Some refusal) h = h

-- nothing is told where what is told is none
pub none_told : (o : Option Unready) (b : Bool) → is_some o ≡ not b → b ≡ is_none o
none_told None true e = refl
none_told None false e = cc
none_told (Some told) true e = cc
none_told (Some told) false e = refl

-- ---- the first name that is not ready

served_named : (t : Progress) (step : Step) → is_served_at t step ≡ list_all (is_ready_at t) (names_of step)
served_named t (Using names) = refl
served_named t (Load names) = refl
served_named t (Impl key script) = refl
served_named t (State name kind) = refl

passes_all : {X : Type 0} (p : X → Bool) (xs : List X) → not (list_all p xs) ≡ is_some (find (λ x. not (p x)) xs)
passes_all p [] = refl
passes_all {X = X} p (x ∷ xs) = step (p x) (passes_all p xs)
  where
    step : (b : Bool) → not (list_all p xs) ≡ is_some (find (λ x. not (p x)) xs)
        → not (b && list_all p xs) ≡ is_some (cond (not b) (Some x) (find (λ x. not (p x)) xs))
    step true rest = rest
    step false rest = refl

pub find_alike : {X : Type 0} (p q : X → Bool) (xs : List X) → ((x : X) → p x ≡ q x) → find p xs ≡ find q xs
find_alike p q [] each = refl
find_alike {X = X} p q (x ∷ xs) each =
    ap (λ (b : Bool). cond b (Some x) (find p xs)) (each x) ∙ ap (λ (o : Option X). cond (q x) (Some x) o) (find_alike p q xs each)

-- in the first list that has one
find_flat : {X Y : Type 0} (q : Y → Bool) (f : X → List Y) (xs : List X)
    → find q (flat_map f xs) ≡ option_and_then (λ x. find q (f x)) (find (λ x. is_some (find q (f x))) xs)
find_flat q f [] = refl
find_flat {X = X} {Y = Y} q f (x ∷ xs) = find-append q (f x) (flat_map f xs) ∙ step (find q (f x)) refl (find_flat q f xs)
  where
    step : (o : Option Y) → find q (f x) ≡ o
        → find q (flat_map f xs) ≡ option_and_then (λ x. find q (f x)) (find (λ x. is_some (find q (f x))) xs)
        → option_or o (find q (flat_map f xs))
        ≡ option_and_then (λ x. find q (f x)) (cond (is_some o) (Some x) (find (λ x. is_some (find q (f x))) xs))
    step None e rest = rest
    step (Some y) e rest = sym e

-- the first step that is not served has it
pub find_named : (t : Progress) (steps : List Step)
    → find (λ name. not (is_ready_at t name)) (flat_map names_of steps)
    ≡ option_and_then (λ step. find (λ name. not (is_ready_at t name)) (names_of step)) (find (λ step. not (is_served_at t step)) steps)
find_named t steps =
    find_flat (λ name. not (is_ready_at t name)) names_of steps
    ∙ ap (option_and_then (λ step. find (λ name. not (is_ready_at t name)) (names_of step)))
    (find_alike (λ step. is_some (find (λ name. not (is_ready_at t name)) (names_of step))) (λ step. not (is_served_at t step)) steps
    (λ step. sym (ap not (served_named t step) ∙ passes_all (is_ready_at t) (names_of step))))

abbrev pub first_named : Progress → List Text → Option Text
first_named t names = find (λ name. not (is_ready_at t name)) names

pub named_some : (t : Progress) (steps : List Step) (step : Step) → Some step ≡ find (λ step. not (is_served_at t step)) steps
    → first_named t (names_of step) ≡ first_named t (flat_map names_of steps)
named_some t steps step e = ap (option_and_then (λ step. first_named t (names_of step))) e ∙ sym (find_named t steps)

pub named_none : (t : Progress) (steps : List Step) → None ≡ find (λ step. not (is_served_at t step)) steps →
    None ≡ first_named t (flat_map names_of steps)
named_none t steps e = ap (option_and_then (λ step. first_named t (names_of step))) e ∙ sym (find_named t steps)

-- ---- a name that is held up

module _ (v : View) (past : List Event) (lawful : AreLawful v past) (p : Player) (s : Sees v past (log_of v past) p) (name : Text) (rows : List ℕ)
    (closure : rows ≡ closure_numbers p.table.registered (name ∷ [])) where
  pub nothing_told : None ≡ least_from None (blamed_at p.table (held p) rows) → None ≡ held_up v past name
  nothing_told e = sym (held_none v past lawful p s name (ap (λ (rows : List ℕ). least_from None (blamed_at p.table (held p) rows)) (sym closure) ∙ sym e))

  pub held_told : (member copy kept : Text) (state : Phase) (blame : Blame) → Some member ≡ least_from None (blamed_at p.table (held p) rows) →
      copy ≡ name → state ≡ phase_named p.table name → kept ≡ member → blame ≡ blame_named p.table (held p) member
      → Some (NotReady copy state kept blame) ≡ held_up v past name
  held_told member copy kept state blame e c q k b =
      ap₂ (λ (copy : Text) (state : Phase). Some (NotReady copy state kept blame)) c q
      ∙ ap₂ (λ (kept : Text) (blame : Blame). Some (NotReady name (phase_named p.table name) kept blame)) k b
      ∙ sym (held_some v past lawful p s name member
      (ap (λ (rows : List ℕ). least_from None (blamed_at p.table (held p) rows)) (sym closure) ∙ sym e))

-- ---- all steps

module _ (v : View) (steps : List Step) (p : Player) (played : HasPlayed v (reverse steps) p) where
  abbrev events : List Event
  events = events_of v.registered (reverse steps)

  turned : unready_of v (reverse steps) ≡ option_or (first_refused v.registered 1 steps)
      (option_and_then (held_up v events) (find (λ name. not (is_ready_at p.table name)) (flat_map names_of steps)))
  turned =
      ap (λ (steps' : List Step). option_or (first_refused v.registered 1 steps')
      (option_and_then (held_up v events) (find (λ name. not (is_ready (state_of v events name))) (flat_map names_of steps')))) (reverse-reverse steps)
      ∙ ap (λ (o : Option Text). option_or (first_refused v.registered 1 steps) (option_and_then (held_up v events) o))
      (find_alike (λ name. not (is_ready (state_of v events name))) (λ name. not (is_ready_at p.table name)) (flat_map names_of steps)
      (λ name. ap not (sym (ready_alike v events p name (steps_lawful v (reverse steps)) played))))

  pub told_refused : (told : Unready) → first_refused v.registered 1 steps ≡ Some told → unready_of v (reverse steps) ≡ Some told
  told_refused told e = turned
      ∙ ap (λ (o : Option Unready). option_or o (option_and_then (held_up v events)
      (find (λ name. not (is_ready_at p.table name)) (flat_map names_of steps)))) e

  pub told_held : (o : Option Text) → first_refused v.registered 1 steps ≡ None
      → find (λ name. not (is_ready_at p.table name)) (flat_map names_of steps) ≡ o
      → unready_of v (reverse steps) ≡ option_and_then (held_up v events) o
  told_held o e f = turned ∙ ap₂ (λ (a : Option Unready) (o : Option Text). option_or a (option_and_then (held_up v events) o)) e f

  -- what was requested resolves, where nothing was refused
  pub asked_resolves : (name : Text) → first_refused v.registered 1 steps ≡ None → Contains (flat_map names_of steps) name →
      refusal_of p.table.registered (name ∷ []) ≡ None
  asked_resolves name e c =
      let m = flat_map_contains names_of steps name c in
      let accepted : is_accepted v.registered m.0 ≡ true =
      all_each (is_accepted v.registered) steps m.0 (sym (none_refused v.registered 1 steps) ∙ ap is_none e) m.1 in
      refusal_seen v events (log_of v events) p.table played.table (name ∷ [])
      ∙ resolves_accepted v.registered (name ∷ []) (λ other d. ⊎_elim
      (λ s. subst (λ (x : Text). Resolves v.registered x) s (accepted_resolves v.registered (names_of m.0) accepted name m.2))
      (λ none. absurd (contains_none other none)) (contains_cases name [] other d))

  pub found_resolves : (name : Text) → first_refused v.registered 1 steps ≡ None →
      find (λ name. not (is_ready_at p.table name)) (flat_map names_of steps) ≡ Some name
      → refusal_of p.table.registered (name ∷ []) ≡ None
  found_resolves name e f = asked_resolves name e (found_in (λ name. not (is_ready_at p.table name)) (flat_map names_of steps) name f)
