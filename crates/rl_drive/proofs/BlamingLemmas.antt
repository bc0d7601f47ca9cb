-- What a player's rows tell of who is to blame.
use Rattle.std.proofs.Common.{◌≡◌, ℕ, ◌+◌, ◌<◌, length, List, [], ◌∷◌, Bool, true, false, ◌&&◌, ◌||◌, not, map, Option}
use Rattle.std.proofs.Common.{Some, None, refl, ap, ap₂, sym, subst, ◌∙◌}
use Rattle.std.proofs.Common.{⊎_elim, arith, nat_eq}
use Rattle.std.specs.Prelude.{Contains, bytes_eq, cond, filter, if◌then◌else◌, is_none, is_some, option_map}
use Rattle.std.specs.List.{list_any}
use Rattle.std.specs.Option.{option_map_or}
use Rattle.std.proofs.lemmas.Bool.{and_from, and_parts, or_left, or_right, both_ways, cases_Bool, eq-eqb, eqb-true, false_from_ne_true}
use Rattle.std.proofs.lemmas.Bool.{not_from_false, not-true, true_from_ne_false}
use Rattle.std.proofs.lemmas.List.Concat.{flat_map_single}
use mathlib.Core.Path.{fun_ext}
use Rattle.rl_names.specs.declared.name.Key.{Key}
use Rattle.rl_names.specs.declared.row.Row.{Row}
use Rattle.rl_view_spec.specs.Closure.{Text, Registered, has_row, in_closures, is_skipped}
use Rattle.rl_view_spec.specs.Laws.{AreLawful, Belongs}
use Rattle.rl_view_spec.specs.Numbers.{closure_numbers, number_of}
use Rattle.rl_view_spec.specs.Progress.{HasDistinctNames, Progress, name_at, has_run, is_skipped_at, outcome_at, phase_of, row_numbers}
use Rattle.rl_view_spec.specs.View.{View, Event, Answer, Implementation, Missing, Failed, GivenUp, all_in_closure, all_others, answer_in, first_of, is_broken}
use Rattle.rl_view_spec.specs.View.{is_good, is_implementation, is_lost, is_missing, is_thrown, is_touched, kind_of, log_of, or_else, state_of}
use Rattle.rl_view_spec.specs.View.{throws_at, throws_for}
use Rattle.rl_view_spec.specs.View.{touches}
use Rattle.rl_view_spec.specs.declared.Outcome.{Outcome}
use Rattle.rl_view_spec.specs.declared.Phase.{Phase}
use Rattle.rl_view_spec.specs.declared.Phase.TheVariants as phase
use Rattle.rl_view_spec.proofs.AfterLemmas.{good_cases, good_from_fine, logged_belongs}
use Rattle.rl_view_spec.proofs.ChainsLemmas.{led_in_closure, same}
use Rattle.rl_view_spec.proofs.LogLemmas.{badly_logged, outcome_row}
use Rattle.rl_view_spec.proofs.PlacesLemmas.{bytes_eq-from, closure_each, each_closure, name_there, number_named, number_within, skips_alike}
use Rattle.rl_view_spec.proofs.ResolveLemmas.{closure_itself, touched_resolves, within_itself}
use Rattle.rl_view_spec.proofs.StatesLemmas.{chosen, iff_same, thrown_alike, untouched}
use Rattle.rl_view_spec.proofs.ToolsLemmas.{any_one, contains_head, contains_tail, filter_contains, one_any, place_there}
use Rattle.rl_rows.proofs.EdgesLemmas.{number_found, number_named as number_named_by}
use Rattle.rl_rows.proofs.LeastLemmas.{found_is_least}
use Rattle.rl_rows.specs.Least.{least_from}
use Rattle.rl_script_spec.specs.Unready.{blame_for, blamed, held_up, is_to_blame}
use Rattle.rl_script_spec.specs.declared.Blame.{Blame}
use Rattle.rl_script_spec.specs.declared.Blame.TheVariants as blames
use Rattle.rl_script_spec.specs.declared.Unready.TheVariants.{NotReady}
use Rattle.rl_script_spec.proofs.BlamedLemmas.{skipped_none}
use Rattle.rl_view.specs.Heard.{execution_of}
use Rattle.rl_view.proofs.NowLemmas.{alike_now, closures_now}
use Rattle.rl_view.proofs.ReadingsLemmas.{found_seen, phase_seen, ran_seen, registered_seen}
use Rattle.rl_drive.specs.Blamed.{blame_at, blame_named, blamed_at, is_error, is_missing as is_said_missing, is_to_blame_at, phase_named}
use Rattle.rl_drive.specs.Played.{execution_at}
use Rattle.rl_drive.specs.Player.{Sees, held}
use Rattle.rl_drive.specs.declared.player.Player.{Player}
use Rattle.rl_drive.proofs.ListsLemmas.{flat_map_numbers}
use Rattle.rl_drive.proofs.RunningLemmas.{execution_alike}

-- ---- what is answered was touched

answered_if : (b : Bool) (o : Option Answer) (a : Answer) → (if b then o else None) ≡ Some a → b ≡ true
answered_if true o a h = refl
answered_if false o a h = cc

pub answered_touched : (v : View) (past : List Event) (name : Text) (a : Answer) → first_of v past name ≡ Some a → is_touched v past name ≡ true
answered_touched v [] name a h = cc
answered_touched v (event ∷ past) name a h = step (first_of v past name) (λ first e. answered_touched v past name first e) h
  where
    step : (o : Option Answer) → ((first : Answer) → o ≡ Some first → is_touched v past name ≡ true)
        → or_else o (if is_touched v (event ∷ past) name && not (is_skipped v.registered name) then answer_in name event else None) ≡ Some a
        → is_touched v (event ∷ past) name ≡ true
    step None before h = (and_parts (is_touched v (event ∷ past) name) (not (is_skipped v.registered name))
        (answered_if (is_touched v (event ∷ past) name && not (is_skipped v.registered name)) (answer_in name event) a h)).0
    step (Some first) before h = or_right (touches v.registered name event) _ (before first refl)

-- ---- the states

error_bad : (touched good missing broken impl : Bool) → is_error (chosen touched good missing broken impl) ≡ true → good ≡ false
error_bad false good missing broken impl h = cc
error_bad true true missing broken impl h = cc
error_bad true false missing broken impl h = refl

chosen_error : (touched good missing broken impl : Bool) → touched ≡ true → good ≡ false → missing ≡ false → broken ≡ true →
    is_error (chosen touched good missing broken impl) ≡ true
chosen_error true false false true impl t g m b = refl
chosen_error false good missing broken impl t g m b = cc
chosen_error true true missing broken impl t g m b = cc
chosen_error true false true broken impl t g m b = cc
chosen_error true false false false impl t g m b = cc

said_missing : (touched good missing broken impl : Bool) → is_said_missing (chosen touched good missing broken impl) ≡ (touched && (not good && missing))
said_missing false good missing broken impl = refl
said_missing true true missing broken impl = refl
said_missing true false true broken impl = refl
said_missing true false false true impl = refl
said_missing true false false false true = refl
said_missing true false false false false = refl

and_last : (a b c : Bool) → c ≡ false → (a && (b && c)) ≡ false
and_last true true c h = h
and_last true false c h = refl
and_last false b c h = refl

all_three : (a b c : Bool) → a ≡ true → b ≡ false → c ≡ true → (a && (not b && c)) ≡ true
all_three true false true ha hb hc = refl
all_three false b c ha hb hc = cc
all_three true true c ha hb hc = cc
all_three true false false ha hb hc = cc

unmissing : (o : Option Answer) → is_implementation o ≡ true → is_missing o ≡ false
unmissing None h = cc
unmissing (Some (Implementation version script)) h = refl
unmissing (Some Missing) h = cc
unmissing (Some Failed) h = cc
unmissing (Some GivenUp) h = cc

-- a name that is not good is not ready
bad_closure : (v : View) (past : List Event) (name : Text) → has_row v.registered name ≡ true → is_good v past name ≡ false →
    all_in_closure v.registered name (is_good v past) ≡ false
bad_closure v past name has bad = false_from_ne_true (all_in_closure v.registered name (is_good v past)) (λ all.
    both_ways (is_good v past name) bad (closure_each v.registered name (is_good v past) all name has (within_itself v.registered name)))

unthrown : (v : View) (name : Text) (o : Option Answer) (others : Bool) → is_implementation o ≡ false → (throws_for v.throws name o && others) ≡ false
unthrown v name None others h = refl
unthrown v name (Some (Implementation version script)) others h = cc
unthrown v name (Some Missing) others h = refl
unthrown v name (Some Failed) others h = refl
unthrown v name (Some GivenUp) others h = refl

module _ (v : View) (past : List Event) (lawful : AreLawful v past) (distinct : HasDistinctNames v.registered)
    (k : ℕ) (low : k < length v.registered.rows) where
  abbrev r : Registered
  r = v.registered

  abbrev own : Text
  own = name_at v.registered k

  others_good : Belongs v past k → all_others r own (is_good v past) ≡ true
  others_good b = each_closure r own (λ other. bytes_eq other own || is_good v past other) (λ other has c. ⊎_elim
      (λ e. or_left (bytes_eq other own) (is_good v past other) e)
      (λ ne. or_right (bytes_eq other own) (is_good v past other)
      (b.good other (led_in_closure r own other c) (λ s. both_ways (bytes_eq other own) ne (bytes_eq-from other own s))))
      (cases_Bool (bytes_eq other own)))

  all_good : Belongs v past k → is_good v past own ≡ true → all_in_closure r own (is_good v past) ≡ true
  all_good b good = each_closure r own (is_good v past) (λ other has c. ⊎_elim
      (λ e. subst (λ (x : Text). is_good v past x ≡ true) (sym (same other own e)) good)
      (λ ne. b.good other (led_in_closure r own other c) (λ s. both_ways (bytes_eq other own) ne (bytes_eq-from other own s)))
      (cases_Bool (bytes_eq other own)))

  -- it ran and is in error
  failed_thrown : (list_any (nat_eq k) (log_of v past) && is_error (state_of v past own)) ≡ true → is_thrown v past own ≡ true
  failed_thrown h =
      let parts = and_parts (list_any (nat_eq k) (log_of v past)) (is_error (state_of v past own)) h in
      let m = any_one (nat_eq k) (log_of v past) parts.0 in
      let b : Belongs v past k = logged_belongs v past k lawful
      (subst (λ (x : ℕ). Contains (log_of v past) x) (sym (eqb-true k m.0 m.2)) m.1) in
      let bad : all_in_closure r own (is_good v past) ≡ false =
      error_bad (is_touched v past own) (all_in_closure r own (is_good v past)) (is_missing (first_of v past own))
      (not (all_in_closure r own (λ member. not (is_broken v past member)))) (is_implementation (first_of v past own)) parts.1 in
      and_from (throws_at v past own) (all_others r own (is_good v past))
      (true_from_ne_false (throws_at v past own) (λ quiet.
      both_ways (all_in_closure r own (is_good v past)) bad (all_good b (good_from_fine v past own (b.answered, quiet)))))
      (others_good b)

  thrown_bad : Belongs v past k → throws_at v past own ≡ true → is_good v past own ≡ false
  thrown_bad b throws = false_from_ne_true (is_good v past own) (λ good. ⊎_elim
      (λ skipped. let none : first_of v past own ≡ None = skipped_none v past own skipped in
      both_ways (is_implementation (first_of v past own)) (ap is_implementation none) b.answered)
      (λ fine. both_ways (throws_at v past own) fine.1.1 throws)
      (good_cases v past own good))

  thrown_failed : is_thrown v past own ≡ true → (list_any (nat_eq k) (log_of v past) && is_error (state_of v past own)) ≡ true
  thrown_failed h =
      let m = badly_logged v past (log_of v past) k (thrown_alike v past lawful distinct k low ∙ h) in
      let b : Belongs v past k = logged_belongs v past k lawful m.0 in
      let has : has_row r own ≡ true = number_named r k low in
      let broken : is_broken v past own ≡ true = or_right (is_lost (first_of v past own)) (is_thrown v past own) h in
      and_from (list_any (nat_eq k) (log_of v past)) (is_error (state_of v past own))
      (one_any (nat_eq k) (log_of v past) k m.0 (eq-eqb k k refl))
      (chosen_error (is_touched v past own) (all_in_closure r own (is_good v past)) (is_missing (first_of v past own))
      (not (all_in_closure r own (λ member. not (is_broken v past member)))) (is_implementation (first_of v past own))
      b.touched
      (bad_closure v past own has (thrown_bad b m.1))
      (unmissing (first_of v past own) b.answered)
      (not_from_false (all_in_closure r own (λ member. not (is_broken v past member)))
      (false_from_ne_true (all_in_closure r own (λ member. not (is_broken v past member))) (λ all.
      both_ways (is_broken v past own)
      (not-true (is_broken v past own) (closure_each r own (λ member. not (is_broken v past member)) all own has (within_itself r own))) broken))))

  pub thrown_is : (list_any (nat_eq k) (log_of v past) && is_error (state_of v past own)) ≡ is_thrown v past own
  thrown_is = iff_same (list_any (nat_eq k) (log_of v past) && is_error (state_of v past own)) (is_thrown v past own) failed_thrown thrown_failed

-- what is said missing, of what is answered and no implementation
missing_bad : (v : View) (past : List Event) (name : Text) → first_of v past name ≡ Some Missing → is_good v past name ≡ false
missing_bad v past name e = false_from_ne_true (is_good v past name) (λ good. ⊎_elim
    (λ skipped. let none : Some Missing ≡ None = sym e ∙ skipped_none v past name skipped in absurd (cc))
    (λ fine. both_ways (is_implementation (first_of v past name)) (ap is_implementation e) fine.1.0)
    (good_cases v past name good))

missing_is : (v : View) (past : List Event) (name : Text) (a : Answer) → AreLawful v past → first_of v past name ≡ Some a →
    is_implementation (Some a) ≡ false
    → is_said_missing (state_of v past name) ≡ is_missing (Some a)
missing_is v past name a lawful e none =
    said_missing (is_touched v past name) (all_in_closure v.registered name (is_good v past)) (is_missing (first_of v past name))
    (not (all_in_closure v.registered name (λ member. not (is_broken v past member)))) (is_implementation (first_of v past name))
    ∙ step a e none
  where
    quiet : is_missing (first_of v past name) ≡ false
        → (is_touched v past name && (not (all_in_closure v.registered name (is_good v past)) && is_missing (first_of v past name))) ≡ false
    quiet h = and_last (is_touched v past name) (not (all_in_closure v.registered name (is_good v past))) (is_missing (first_of v past name)) h

    step : (a : Answer) → first_of v past name ≡ Some a → is_implementation (Some a) ≡ false
        → (is_touched v past name && (not (all_in_closure v.registered name (is_good v past)) && is_missing (first_of v past name))) ≡ is_missing (Some a)
    step (Implementation version script) e none = cc
    step Missing e none =
        let touched : is_touched v past name ≡ true = answered_touched v past name Missing e in
        all_three (is_touched v past name) (all_in_closure v.registered name (is_good v past)) (is_missing (first_of v past name)) touched
        (bad_closure v past name ((touched_resolves v past name lawful touched).known name (closure_itself v.registered name)) (missing_bad v past name e))
        (ap is_missing e)
    step Failed e none = quiet (ap is_missing e)
    step GivenUp e none = quiet (ap is_missing e)

-- ---- a row of a player

abbrev to_blame_by : Bool → Option (Key × Text) → Bool → Bool
to_blame_by skipped given thrown = not skipped && (is_none given || thrown)

to_blame_is : (name : Text) (skipped : Bool) (o : Option Answer) (thrown : Bool) → (skipped ≡ true → o ≡ None) →
    (is_implementation o ≡ false → thrown ≡ false)
    → to_blame_by skipped (execution_of name o) thrown ≡ ((not skipped && is_none o) || (is_lost o || thrown))
to_blame_is name true None thrown s t = sym (t refl)
to_blame_is name true (Some a) thrown s t = let e : Some a ≡ None = s refl in absurd (cc)
to_blame_is name false None thrown s t = refl
to_blame_is name false (Some (Implementation version script)) thrown s t = refl
to_blame_is name false (Some Missing) thrown s t = refl
to_blame_is name false (Some Failed) thrown s t = refl
to_blame_is name false (Some GivenUp) thrown s t = refl

abbrev blame_by : Option (Key × Text) → Option Outcome → Bool → Blame
blame_by given outcome missing =
    if is_some given then blames.Threw
    else if is_none outcome then blames.Unanswered
    else if missing then blames.Missing
    else blames.Error

blame_is : (name : Text) (o : Option Answer) (missing : Bool) →
    ((a : Answer) → o ≡ Some a → is_implementation (Some a) ≡ false → missing ≡ is_missing (Some a))
    → blame_by (execution_of name o) (option_map kind_of o) missing ≡ blame_for o
blame_is name None missing h = refl
blame_is name (Some (Implementation version script)) missing h = refl
blame_is name (Some Missing) missing h = ap (λ (b : Bool). if b then blames.Missing else blames.Error) (h Missing refl refl)
blame_is name (Some Failed) missing h = ap (λ (b : Bool). if b then blames.Missing else blames.Error) (h Failed refl refl)
blame_is name (Some GivenUp) missing h = ap (λ (b : Bool). if b then blames.Missing else blames.Error) (h GivenUp refl refl)

module _ (v : View) (past : List Event) (lawful : AreLawful v past) (p : Player) (s : Sees v past (log_of v past) p) where
  names_seen : (k : ℕ) → name_at p.table.registered k ≡ name_at v.registered k
  names_seen k = ap (λ (r : Registered). name_at r k) (registered_seen v past (log_of v past) p.table s.table) ∙ (alike_now v past).names k

  skips_seen : (k : ℕ) → k < length v.registered.rows → is_skipped_at p.table.registered k ≡ is_skipped v.registered (name_at v.registered k)
  skips_seen k low =
      ap (λ (r : Registered). is_skipped_at r k) (registered_seen v past (log_of v past) p.table s.table) ∙ (alike_now v past).skips k
      ∙ skips_alike v.registered s.table.distinct k low

  outcome_seen : (k : ℕ) → k < length v.registered.rows → outcome_at p.table k ≡ option_map kind_of (first_of v past (name_at v.registered k))
  outcome_seen k low = ap (λ (t : Progress). outcome_at t k) s.table.table ∙ outcome_row v past (log_of v past) k low

  execution_seen : (k : ℕ) → k < length v.registered.rows
      → execution_at (held p) k ≡ execution_of (name_at v.registered k) (first_of v past (name_at v.registered k))
  execution_seen k low =
      let m = place_there v.registered.rows k low in
      execution_alike v past (log_of v past) p s k m.0 m.1
      ∙ ap (λ (name : Text). execution_of name (first_of v past name)) (sym (name_there v.registered k m.0 m.1))

  phase_at : (k : ℕ) → k < length v.registered.rows → phase_of p.table k ≡ state_of v past (name_at v.registered k)
  phase_at k low =
      let m = place_there v.registered.rows k low in
      phase_seen v past p.table k m.0 lawful s.table m.1 ∙ ap (state_of v past) (sym (name_there v.registered k m.0 m.1))

  to_blame_alike : (k : ℕ) → k < length v.registered.rows → is_to_blame_at p.table (held p) k ≡ is_to_blame v past (name_at v.registered k)
  to_blame_alike k low =
      let name : Text = name_at v.registered k in
      ap (λ (b : Bool). to_blame_by b (execution_at (held p) k) (has_run p.table k && is_error (phase_of p.table k))) (skips_seen k low)
      ∙ ap (λ (x : Option (Key × Text)). to_blame_by (is_skipped v.registered name) x (has_run p.table k && is_error (phase_of p.table k)))
      (execution_seen k low)
      ∙ ap (to_blame_by (is_skipped v.registered name) (execution_of name (first_of v past name)))
      (ap₂ (λ (ran : Bool) (state : Phase). ran && is_error state) (ran_seen v past (log_of v past) p.table s.table k) (phase_at k low)
      ∙ thrown_is v past lawful s.table.distinct k low)
      ∙ to_blame_is name (is_skipped v.registered name) (first_of v past name) (is_thrown v past name) (skipped_none v past name)
      (unthrown v name (first_of v past name) (all_others v.registered name (is_good v past)))

  blame_alike : (k : ℕ) → k < length v.registered.rows → blame_at p.table (held p) k ≡ blame_for (first_of v past (name_at v.registered k))
  blame_alike k low =
      let name : Text = name_at v.registered k in
      ap (λ (x : Option (Key × Text)). blame_by x (outcome_at p.table k) (is_said_missing (phase_of p.table k))) (execution_seen k low)
      ∙ ap (λ (o : Option Outcome). blame_by (execution_of name (first_of v past name)) o (is_said_missing (phase_of p.table k))) (outcome_seen k low)
      ∙ ap (λ (state : Phase). blame_by (execution_of name (first_of v past name)) (option_map kind_of (first_of v past name)) (is_said_missing state))
      (phase_at k low)
      ∙ blame_is name (first_of v past name) (is_said_missing (state_of v past name)) (λ a e none. missing_is v past name a lawful e none)

  -- ---- by names

  -- a name without a row was never touched
  nowhere : (name : Text) → number_of v.registered name ≡ None → is_touched v past name ≡ false
  nowhere name e = false_from_ne_true (is_touched v past name) (λ t.
      let f = number_found v.registered name ((touched_resolves v past name lawful t).known name (closure_itself v.registered name)) in
      let g : None ≡ Some f.0 = sym e ∙ f.1 in absurd (cc))

  pub blame_seen : (name : Text) → blame_named p.table (held p) name ≡ blame_for (first_of v past name)
  blame_seen name =
      ap (λ (o : Option ℕ). option_map_or (blame_at p.table (held p)) o blames.Unanswered) (found_seen v past (log_of v past) p.table s.table name)
      ∙ step (number_of v.registered name) refl
    where
      none_there : number_of v.registered name ≡ None → (o : Option Answer) → first_of v past name ≡ o → blames.Unanswered ≡ blame_for o
      none_there e None f = refl
      none_there e (Some a) f = absurd (both_ways (is_touched v past name) (nowhere name e) (answered_touched v past name a f))

      step : (o : Option ℕ) → number_of v.registered name ≡ o
          → option_map_or (blame_at p.table (held p)) o blames.Unanswered ≡ blame_for (first_of v past name)
      step None e = none_there e (first_of v past name) refl
      step (Some k) e =
          let n = number_named_by v.registered name k e in
          blame_alike k n.0 ∙ ap (λ (x : Text). blame_for (first_of v past x)) n.1

  pub state_seen : (name : Text) → phase_named p.table name ≡ state_of v past name
  state_seen name =
      ap (λ (o : Option ℕ). option_map_or (phase_of p.table) o phase.Registered) (found_seen v past (log_of v past) p.table s.table name)
      ∙ step (number_of v.registered name) refl
    where
      step : (o : Option ℕ) → number_of v.registered name ≡ o → option_map_or (phase_of p.table) o phase.Registered ≡ state_of v past name
      step None e = sym (untouched v past name (nowhere name e))
      step (Some k) e =
          let n = number_named_by v.registered name k e in
          phase_at k n.0 ∙ ap (state_of v past) n.1

-- ---- the names that are to blame

filter_named : {X Y : Type 0} (p : Y → Bool) (f : X → Y) (xs : List X) → filter p (map f xs) ≡ map f (filter (λ x. p (f x)) xs)
filter_named p f [] = refl
filter_named {X = X} {Y = Y} p f (x ∷ xs) = step (p (f x)) (filter_named p f xs)
  where
    step : (b : Bool) → filter p (map f xs) ≡ map f (filter (λ x. p (f x)) xs)
        → cond b (f x ∷ filter p (map f xs)) (filter p (map f xs)) ≡ map f (cond b (x ∷ filter (λ x. p (f x)) xs) (filter (λ x. p (f x)) xs))
    step true rest = ap (λ (ys : List Y). f x ∷ ys) rest
    step false rest = rest

filter_alike : {X : Type 0} (p q : X → Bool) (xs : List X) → ((x : X) → Contains xs x → p x ≡ q x) → filter p xs ≡ filter q xs
filter_alike p q [] each = refl
filter_alike {X = X} p q (x ∷ xs) each =
    ap (λ (b : Bool). cond b (x ∷ filter p xs) (filter p xs)) (each x (contains_head x xs))
    ∙ ap (λ (ys : List X). cond (q x) (x ∷ ys) ys) (filter_alike p q xs (λ z c. each z (contains_tail x xs z c)))

numbered_names : (r : Registered) → map (name_at r) (row_numbers r) ≡ map (λ (row : Row). row.name) r.rows
numbered_names r =
    sym (flat_map_single (name_at r) (row_numbers r))
    ∙ flat_map_numbers (λ k. name_at r k ∷ []) (λ (row : Row). row.name ∷ []) 0 r.rows
    (λ k row there. let zero : k ≡ 0 + k = omega arith in
    subst (λ (m : ℕ). (name_at r m ∷ []) ≡ (row.name ∷ [])) zero (ap (λ (x : Text). x ∷ []) (name_there r k row there)))
    ∙ flat_map_single (λ (row : Row). row.name) r.rows

module _ (v : View) (past : List Event) (lawful : AreLawful v past) (p : Player) (s : Sees v past (log_of v past) p) (name : Text) where
  abbrev asked : Text → Bool
  asked other = in_closures v.registered (name ∷ []) other

  pub blamed_seen : blamed_at p.table (held p) (closure_numbers p.table.registered (name ∷ [])) ≡ blamed v past name
  blamed_seen =
      let r : Registered = v.registered in
      ap (blamed_at p.table (held p))
      (ap (λ (r : Registered). closure_numbers r (name ∷ [])) (registered_seen v past (log_of v past) p.table s.table) ∙ closures_now v past (name ∷ []))
      ∙ ap (λ (at : ℕ → Text). map at (filter (is_to_blame_at p.table (held p)) (closure_numbers r (name ∷ []))))
      (fun_ext (names_seen v past lawful p s))
      ∙ ap (map (name_at r)) (filter_alike (is_to_blame_at p.table (held p)) (λ k. is_to_blame v past (name_at r k)) (closure_numbers r (name ∷ []))
      (λ k c. to_blame_alike v past lawful p s k
      (number_within r k (filter_contains (λ row. in_closures r (name ∷ []) (name_at r row)) (row_numbers r) k c).0)))
      ∙ sym (filter_named (is_to_blame v past) (name_at r) (closure_numbers r (name ∷ [])))
      ∙ ap (filter (is_to_blame v past))
      (sym (filter_named (in_closures r (name ∷ [])) (name_at r) (row_numbers r))
      ∙ ap (filter (in_closures r (name ∷ []))) (numbered_names r)
      ∙ filter_named (in_closures r (name ∷ [])) (λ (row : Row). row.name) r.rows)

  -- the least of them
  pub held_none : least_from None (blamed_at p.table (held p) (closure_numbers p.table.registered (name ∷ []))) ≡ None → held_up v past name ≡ None
  held_none e = ap (option_map (λ member. NotReady name (state_of v past name) member (blame_for (first_of v past member))))
      (sym (found_is_least (blamed v past name)) ∙ ap (least_from None) (sym blamed_seen) ∙ e)

  pub held_some : (member : Text) → least_from None (blamed_at p.table (held p) (closure_numbers p.table.registered (name ∷ []))) ≡ Some member
      → held_up v past name ≡ Some (NotReady name (phase_named p.table name) member (blame_named p.table (held p) member))
  held_some member e =
      ap (option_map (λ member. NotReady name (state_of v past name) member (blame_for (first_of v past member))))
      (sym (found_is_least (blamed v past name)) ∙ ap (least_from None) (sym blamed_seen) ∙ e)
      ∙ ap₂ (λ (state : Phase) (blame : Blame). Some (NotReady name state member blame)) (sym (state_seen v past lawful p s name))
      (sym (blame_seen v past lawful p s member))
