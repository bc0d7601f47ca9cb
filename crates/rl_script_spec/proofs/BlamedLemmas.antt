-- What is to blame where a touched name is not ready.
use Rattle.std.proofs.Common.{◌≡◌, ℕ, zero, suc, ◌≤◌, List, [], ◌∷◌, Bool, true, false, ◌&&◌, ◌||◌, not, ◌⊎◌, Option, Some}
use Rattle.std.proofs.Common.{None, refl, sym, ap, map, subst, ◌∙◌, inl, inr, ⊎_elim, arith}
use Rattle.std.specs.Prelude.{Contains, bytes_eq, filter, if◌then◌else◌, is_none}
use Rattle.std.proofs.lemmas.Bool.{and_from, and_parts, or_left, or_parts, or_right, both_ways, cases_Bool, false_from_ne_true, not_from_false}
use Rattle.rl_names.specs.declared.row.Row.{Row}
use Rattle.rl_view_spec.specs.Closure.{Text, Registered, InClosure, closure_rows, in_closure, in_closures, is_skipped, least}
use Rattle.rl_view_spec.specs.View.{View, Event, Answer, Implementation, Missing, Failed, GivenUp, all_in_closure, all_others, answer_in, first_of, or_else}
use Rattle.rl_view_spec.specs.View.{is_broken, is_good, is_implementation, is_lost, is_missing, is_thrown, is_touched, state_of, throws_at, throws_for}
use Rattle.rl_view_spec.specs.Laws.{AreLawful}
use Rattle.rl_view_spec.specs.declared.Phase.{Phase}
use Rattle.rl_view_spec.specs.declared.Phase.TheVariants as phase
use Rattle.rl_view_spec.proofs.AfterLemmas.{good_cases, good_from_skipped, smaller, some_count}
use Rattle.rl_view_spec.proofs.ChainsLemmas.{count, reaches_from_led, led_in_closure}
use Rattle.rl_view_spec.proofs.LeastLemmas.{least_is, least_is_least, least_of, none_of}
use Rattle.rl_view_spec.proofs.PlacesLemmas.{bytes_eq-from, closure_each, each_closure, name_there, place_of}
use Rattle.rl_view_spec.proofs.ResolveLemmas.{closure_itself, closure_on, in_one, of_one, touched_on, touched_resolves}
use Rattle.rl_view_spec.proofs.StatesLemmas.{chosen}
use Rattle.rl_view_spec.proofs.ToolsLemmas.{contains_cases, contains_filter, contains_head, contains_map, contains_none, contains_tail}
use Rattle.rl_view_spec.proofs.ToolsLemmas.{filter_contains, place_in}
use Rattle.rl_script_spec.specs.Laws.{BlamedIsLeast, IsBlamed}
use Rattle.rl_script_spec.specs.Output.{is_ready}
use Rattle.rl_script_spec.specs.Unready.{blamed, is_awaited, is_to_blame}

-- ---- single names

-- what has an answer that is no loss has an implementation
implemented : (o : Option Answer) → is_none o ≡ false → is_lost o ≡ false → is_implementation o ≡ true
implemented None h l = cc
implemented (Some (Implementation version script)) h l = refl
implemented (Some Missing) h l = cc
implemented (Some Failed) h l = cc
implemented (Some GivenUp) h l = cc

unlost : (o : Option Answer) → is_implementation o ≡ true → (is_none o ≡ false) × (is_lost o ≡ false)
unlost None h = cc
unlost (Some (Implementation version script)) h = (refl, refl)
unlost (Some Missing) h = cc
unlost (Some Failed) h = cc
unlost (Some GivenUp) h = cc

and_false : (a b : Bool) → (a && b) ≡ false → b ≡ true → a ≡ false
and_false true b h t = sym t ∙ h
and_false false b h t = refl

unawaited : (a b : Bool) → (not a && b) ≡ false → (a ≡ true) ⊎ (b ≡ false)
unawaited true b h = inl refl
unawaited false b h = inr h

-- a skipped name is never answered
pub skipped_none : (v : View) (past : List Event) (name : Text) → is_skipped v.registered name ≡ true → first_of v past name ≡ None
skipped_none v [] name s = refl
skipped_none v (event ∷ past) name s =
    ap (λ (o : Option Answer). or_else o (if is_touched v (event ∷ past) name && not (is_skipped v.registered name) then answer_in name event else None))
    (skipped_none v past name s)
    ∙ ap (λ (b : Bool). or_else None (if is_touched v (event ∷ past) name && not b then answer_in name event else None)) s
    ∙ never (is_touched v (event ∷ past) name) (answer_in name event)
  where
    never : (b : Bool) (o : Option Answer) → or_else None (if b && false then o else None) ≡ None
    never true o = refl
    never false o = refl

-- ---- the state

-- a name is ready where it is touched and its closure is good
pub ready_chosen : (touched good missing broken impl : Bool) → is_ready (chosen touched good missing broken impl) ≡ (touched && good)
ready_chosen false good missing broken impl = refl
ready_chosen true true missing broken impl = refl
ready_chosen true false true broken impl = refl
ready_chosen true false false true impl = refl
ready_chosen true false false false true = refl
ready_chosen true false false false false = refl

pub ready_phase : (p : Phase) → is_ready p ≡ true → p ≡ phase.Ready
ready_phase phase.Ready h = refl
ready_phase phase.Registered h = cc
ready_phase phase.Loading h = cc
ready_phase phase.Loaded h = cc
ready_phase phase.Executing h = cc
ready_phase phase.Error h = cc
ready_phase phase.Missing h = cc

pub ready_is : (v : View) (past : List Event) (name : Text) →
    is_ready (state_of v past name) ≡ (is_touched v past name && all_in_closure v.registered name (is_good v past))
ready_is v past name = ready_chosen (is_touched v past name) (all_in_closure v.registered name (is_good v past)) (is_missing (first_of v past name))
    (not (all_in_closure v.registered name (λ member. not (is_broken v past member)))) (is_implementation (first_of v past name))

-- what is good is not to blame
good_unblamed : (v : View) (past : List Event) (name : Text) → is_good v past name ≡ true → is_to_blame v past name ≡ false
good_unblamed v past name good = ⊎_elim
    (λ s. step (is_skipped v.registered name) (first_of v past name) (throws_at v past name) (all_others v.registered name (is_good v past)) s
    (skipped_none v past name s) (throwless s))
    (λ f. let whole = unlost (first_of v past name) f.1.0 in
    fine (is_skipped v.registered name) (is_none (first_of v past name)) (is_lost (first_of v past name)) (throws_at v past name)
    (all_others v.registered name (is_good v past)) whole.0 whole.1 f.1.1)
    (good_cases v past name good)
  where
    throwless : is_skipped v.registered name ≡ true → throws_at v past name ≡ false
    throwless s = subst (λ (o : Option Answer). throws_for v.throws name o ≡ false) (sym (skipped_none v past name s)) refl

    step : (skipped : Bool) (o : Option Answer) (throws others : Bool) → skipped ≡ true → o ≡ None → throws ≡ false →
        ((not skipped && is_none o) || (is_lost o || (throws && others))) ≡ false
    step true None false others s e t = refl
    step true None true others s e t = cc
    step true (Some answer) throws others s e t = cc
    step false o throws others s e t = cc

    fine : (skipped none lost throws others : Bool) → none ≡ false → lost ≡ false → throws ≡ false →
        ((not skipped && none) || (lost || (throws && others))) ≡ false
    fine true false false false others n l t = refl
    fine false false false false others n l t = refl
    fine skipped true lost throws others n l t = cc
    fine skipped false true throws others n l t = cc
    fine skipped false false true others n l t = cc

module _ (v : View) (past : List Event) (lawful : AreLawful v past) where
  abbrev r : Registered
  r = v.registered

  -- where nothing in the closure of a touched name is to blame, the name is good
  unblamed_good : (n : ℕ) (name : Text) → is_touched v past name ≡ true → count (in_closure r name) r.rows ≤ n
      → ((member : Text) → InClosure r name member → is_to_blame v past member ≡ false) → is_good v past name ≡ true
  unblamed_good zero name touched few fair = absurd (some_count r name (touched_resolves v past name lawful touched) few)
  unblamed_good (suc n) name touched few fair =
      let here = or_parts (is_awaited v past name) (is_broken v past name) (fair name (closure_itself r name)) in
      let whole = or_parts (is_lost (first_of v past name)) (is_thrown v past name) here.1 in
      ⊎_elim (λ skipped. good_from_skipped v past name skipped)
      (λ some.
      let others : all_others r name (is_good v past) ≡ true =
      each_closure r name (λ other. bytes_eq other name || is_good v past other) (λ other has c.
      let m : InClosure r name other = led_in_closure r name other c in
      ⊎_elim (λ e. or_left (bytes_eq other name) (is_good v past other) e)
      (λ ne. or_right (bytes_eq other name) (is_good v past other)
      (unblamed_good n other (touched_on v past name other touched m)
      (smaller r name other n (touched_resolves v past name lawful touched) m (λ e. both_ways (bytes_eq other name) ne (bytes_eq-from other name e)) few)
      (λ member d. fair member (closure_on r name other member m d))))
      (cases_Bool (bytes_eq other name))) in
      or_right (is_skipped r name) _
      (and_from (is_implementation (first_of v past name)) (not (throws_at v past name))
      (implemented (first_of v past name) some whole.0)
      (not_from_false (throws_at v past name) (and_false (throws_at v past name) (all_others r name (is_good v past)) whole.1 others))))
      (unawaited (is_skipped r name) (is_none (first_of v past name)) here.0)

  -- so the name is ready
  unblamed_ready : (name : Text) → is_touched v past name ≡ true
      → ((member : Text) → InClosure r name member → is_to_blame v past member ≡ false) → state_of v past name ≡ phase.Ready
  unblamed_ready name touched fair =
      ready_phase (state_of v past name)
      (ready_is v past name
      ∙ and_from (is_touched v past name) (all_in_closure r name (is_good v past)) touched
      (each_closure r name (is_good v past) (λ member has c.
      let m : InClosure r name member = led_in_closure r name member c in
      unblamed_good (count (in_closure r member) r.rows) member (touched_on v past name member touched m) (omega arith)
      (λ other d. fair other (closure_on r name member other m d)))))

  -- and where it is ready nothing is to blame
  ready_unblamed : (name : Text) → is_touched v past name ≡ true → state_of v past name ≡ phase.Ready
      → (member : Text) → InClosure r name member → is_to_blame v past member ≡ false
  ready_unblamed name touched ready member m =
      let parts = and_parts (is_touched v past name) (all_in_closure r name (is_good v past)) (sym (ready_is v past name) ∙ ap is_ready ready) in
      good_unblamed v past member
      (closure_each r name (is_good v past) parts.1 member ((touched_resolves v past name lawful touched).known member m) (reaches_from_led r name member m))

  -- ---- the names that are to blame

  blamed_means : (name member : Text) → Contains (blamed v past name) member → IsBlamed v past name member
  blamed_means name member c =
      let kept = filter_contains (is_to_blame v past) (map (λ (row : Row). row.name) (closure_rows r (name ∷ []))) member c in
      (named (filter_rows (λ row. in_closures r (name ∷ []) row.name) r.rows member kept.0), kept.1)
    where
      filter_rows : (p : Row → Bool) (rows : List Row) (x : Text) → Contains (map (λ (row : Row). row.name) (filter p rows)) x →
          (row : Row) × (p row ≡ true) × (row.name ≡ x)
      filter_rows p rows x d =
          let m = mapped (filter p rows) x d in
          (m.0, (filter_contains p rows m.0 m.1).1, m.2)
        where
          mapped : (rows : List Row) (x : Text) → Contains (map (λ (row : Row). row.name) rows) x → (row : Row) × Contains rows row × (row.name ≡ x)
          mapped [] x d = absurd (contains_none x d)
          mapped (row ∷ rows) x d = ⊎_elim (λ e. (row, contains_head row rows, e))
              (λ t. let m = mapped rows x t in (m.0, contains_tail row rows m.0 m.1, m.2))
              (contains_cases row.name (map (λ (row : Row). row.name) rows) x d)

      named : (row : Row) × (in_closures r (name ∷ []) row.name ≡ true) × (row.name ≡ member) → InClosure r name member
      named (row, inside, e) =
          let m = of_one r (name ∷ []) row.name inside in
          ⊎_elim (λ s. subst (λ (x : Text). InClosure r x member) (sym s) (subst (λ (x : Text). InClosure r m.0 x) e m.2))
          (λ none. absurd (contains_none m.0 none)) (contains_cases name [] m.0 m.1)

  means_blamed : (name member : Text) → is_touched v past name ≡ true → IsBlamed v past name member → Contains (blamed v past name) member
  means_blamed name member touched b =
      let p = place_of r member ((touched_resolves v past name lawful touched).known member b.0) in
      let e : p.row.name ≡ member = sym (name_there r p.at p.row p.there) ∙ p.named in
      contains_filter (is_to_blame v past) (map (λ (row : Row). row.name) (closure_rows r (name ∷ []))) member
      (subst (λ (x : Text). Contains (map (λ (row : Row). row.name) (closure_rows r (name ∷ []))) x) e
      (contains_map (λ (row : Row). row.name) (closure_rows r (name ∷ [])) p.row
      (contains_filter (λ (row : Row). in_closures r (name ∷ []) row.name) r.rows p.row (place_in r.rows p.at p.row p.there)
      (subst (λ (x : Text). in_closures r (name ∷ []) x ≡ true) (sym e) (in_one r (name ∷ []) name member (contains_head name []) b.0)))))
      b.1

pub blamed_is_least : BlamedIsLeast
blamed_is_least v past lawful name touched = (
  λ member. (
    λ e. least_of (IsBlamed v past name) (blamed v past name) member (λ m c. blamed_means v past lawful name m c)
        (λ m b. means_blamed v past lawful name m touched b) e,
    λ l. least_is_least (blamed v past name) member (record {
      holds = means_blamed v past lawful name member touched l.holds;
      below = λ other c. l.below other (blamed_means v past lawful name other c);
    }),
  ),
  (
    λ e. unblamed_ready v past lawful name touched (λ member m. false_from_ne_true (is_to_blame v past member)
        (λ h. none_of (IsBlamed v past name) (blamed v past name) (λ m b. means_blamed v past lawful name m touched b) e member (m, h))),
    λ ready. nothing (least (blamed v past name)) refl ready,
  ),
)
  where
    nothing : (o : Option Text) → least (blamed v past name) ≡ o → state_of v past name ≡ phase.Ready → least (blamed v past name) ≡ None
    nothing None e ready = e
    nothing (Some member) e ready =
        let b = blamed_means v past lawful name member (least_is (blamed v past name) member e).holds in
        absurd (both_ways (is_to_blame v past member) (ready_unblamed v past lawful name touched ready member b.0) b.1)
