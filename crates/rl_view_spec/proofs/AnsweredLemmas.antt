-- What is answered and not to blame is good.
use Rattle.std.proofs.Common.{◌≡◌, ℕ, zero, suc, ◌≤◌, List, Bool, true, false, ◌&&◌, ◌||◌, not, ◌⊎◌, Option, Some, None, refl, sym}
use Rattle.std.proofs.Common.{subst, ◌∙◌, inl, inr, ⊎_elim, arith}
use Rattle.std.specs.Prelude.{bytes_eq, is_some}
use Rattle.std.proofs.lemmas.Bool.{and_from, or_left, or_parts, or_right, both_ways, cases_Bool, not-false, not-true, not_from_false}
use Rattle.rl_view_spec.specs.Closure.{Text, Registered, InClosure, Resolves, in_closure, is_skipped}
use Rattle.rl_view_spec.specs.View.{View, Event, Answer, Implementation, Missing, Failed, GivenUp, all_answered, all_in_closure, all_others, first_of}
use Rattle.rl_view_spec.specs.View.{is_broken, is_good, is_implementation, is_lost, is_missing, is_thrown, is_touched, throws_at}
use Rattle.rl_view_spec.specs.Laws.{AnsweredIsDecided, AreLawful}
use Rattle.rl_view_spec.specs.declared.Phase.TheVariants as phase
use Rattle.rl_view_spec.proofs.AfterLemmas.{smaller, some_count}
use Rattle.rl_view_spec.proofs.ChainsLemmas.{count, reaches_from_led, led_in_closure}
use Rattle.rl_view_spec.proofs.PlacesLemmas.{bytes_eq-from, closure_each, each_closure, name_there, place_of}
use Rattle.rl_view_spec.proofs.ResolveLemmas.{closure_itself, closure_on, touched_on, touched_resolves}
use Rattle.rl_view_spec.proofs.StatesLemmas.{chosen}
use Rattle.rl_view_spec.proofs.ToolsLemmas.{all_each, place_in}

-- what has an answer that is no loss has an implementation
implemented : (o : Option Answer) → is_some o ≡ true → is_lost o ≡ false → is_implementation o ≡ true
implemented None h l = cc
implemented (Some (Implementation version script)) h l = refl
implemented (Some Missing) h l = cc
implemented (Some Failed) h l = cc
implemented (Some GivenUp) h l = cc

and_false : (a b : Bool) → (a && b) ≡ false → b ≡ true → a ≡ false
and_false true b h t = sym t ∙ h
and_false false b h t = refl

-- the last of three, where the first does not hold
of_three : (a b c : Bool) → a ≡ true → (not a || b || c) ≡ true → (b ≡ true) ⊎ (c ≡ true)
of_three true true c t h = inl refl
of_three true false c t h = inr h
of_three false b c t h = cc

decided : (touched good missing broken impl : Bool) → touched ≡ true → (broken ≡ false → good ≡ true)
    → (chosen touched good missing broken impl ≡ phase.Ready)
    ⊎ ((chosen touched good missing broken impl ≡ phase.Error) ⊎ (chosen touched good missing broken impl ≡ phase.Missing))
decided false good missing broken impl t g = cc
decided true true missing broken impl t g = inl refl
decided true false true broken impl t g = inr (inr refl)
decided true false false true impl t g = inr (inl refl)
decided true false false false impl t g = absurd (both_ways false refl (g refl))

module _ (v : View) (past : List Event) (lawful : AreLawful v past) (answered : all_answered v past ≡ true) where
  abbrev r : Registered
  r = v.registered

  -- a touched name was skipped or answered
  answered_name : (name : Text) → is_touched v past name ≡ true → (is_skipped r name ≡ true) ⊎ (is_some (first_of v past name) ≡ true)
  answered_name name touched =
      let p = place_of r name ((touched_resolves v past name lawful touched).known name (closure_itself r name)) in
      let named : p.row.name ≡ name = sym (name_there r p.at p.row p.there) ∙ p.named in
      let one : (not (is_touched v past p.row.name) || is_skipped r p.row.name || is_some (first_of v past p.row.name)) ≡ true =
      all_each (λ row. not (is_touched v past row.name) || is_skipped r row.name || is_some (first_of v past row.name)) r.rows p.row answered
      (place_in r.rows p.at p.row p.there) in
      let here : (not (is_touched v past name) || is_skipped r name || is_some (first_of v past name)) ≡ true =
      subst (λ (x : Text). (not (is_touched v past x) || is_skipped r x || is_some (first_of v past x)) ≡ true) named one in
      of_three (is_touched v past name) (is_skipped r name) (is_some (first_of v past name)) touched here

  -- where nothing in the closure of a touched name is broken, the name is good
  sound_within : (n : ℕ) (name : Text) → is_touched v past name ≡ true → count (in_closure r name) r.rows ≤ n
      → ((member : Text) → InClosure r name member → is_broken v past member ≡ false) → is_good v past name ≡ true
  sound_within zero name touched few sound = absurd (some_count r name (touched_resolves v past name lawful touched) few)
  sound_within (suc n) name touched few sound = ⊎_elim
      (λ skipped. or_left (is_skipped r name) _ skipped)
      (λ some.
      let whole = or_parts (is_lost (first_of v past name)) (is_thrown v past name) (sound name (closure_itself r name)) in
      let others : all_others r name (is_good v past) ≡ true =
      each_closure r name (λ other. bytes_eq other name || is_good v past other) (λ other has c.
      let m : InClosure r name other = led_in_closure r name other c in
      ⊎_elim (λ e. or_left (bytes_eq other name) (is_good v past other) e)
      (λ ne. or_right (bytes_eq other name) (is_good v past other)
      (sound_within n other (touched_on v past name other touched m)
      (smaller r name other n (touched_resolves v past name lawful touched) m (λ e. both_ways (bytes_eq other name) ne (bytes_eq-from other name e)) few)
      (λ member d. sound member (closure_on r name other member m d))))
      (cases_Bool (bytes_eq other name))) in
      or_right (is_skipped r name) _
      (and_from (is_implementation (first_of v past name)) (not (throws_at v past name))
      (implemented (first_of v past name) some whole.0)
      (not_from_false (throws_at v past name) (and_false (throws_at v past name) (all_others r name (is_good v past)) whole.1 others))))
      (answered_name name touched)

  all_sound : (name : Text) → is_touched v past name ≡ true → not (all_in_closure r name (λ member. not (is_broken v past member))) ≡ false →
      all_in_closure r name (is_good v past) ≡ true
  all_sound name touched none =
      let res : Resolves r name = touched_resolves v past name lawful touched in
      let sound : all_in_closure r name (λ member. not (is_broken v past member)) ≡ true = not-false _ none in
      each_closure r name (is_good v past) (λ member has c.
      let m : InClosure r name member = led_in_closure r name member c in
      sound_within (count (in_closure r member) r.rows) member (touched_on v past name member touched m) (omega arith)
      (λ other d.
      let far : InClosure r name other = closure_on r name member other m d in
      not-true (is_broken v past other) (closure_each r name (λ member. not (is_broken v past member)) sound other (res.known other far)
      (reaches_from_led r name other far))))

pub answered_is_decided : AnsweredIsDecided
answered_is_decided v past lawful answered name touched =
    decided (is_touched v past name) (all_in_closure v.registered name (is_good v past)) (is_missing (first_of v past name))
    (not (all_in_closure v.registered name (λ member. not (is_broken v past member)))) (is_implementation (first_of v past name)) touched
    (all_sound v past lawful answered name touched)
