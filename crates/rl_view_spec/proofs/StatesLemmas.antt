-- A name is ready where all that it needs is good, and the table says each state.
use Rattle.std.proofs.Common.{◌≡◌, ℕ, ◌<◌, List, [], ◌∷◌, Bool, true, false, ◌&&◌, ◌||◌, not, ◌⊎◌, length, Option, Some, None}
use Rattle.std.proofs.Common.{refl, ap, sym, subst, ◌∙◌, inl, inr, ⊎_elim}
use Rattle.std.specs.Prelude.{Contains, bytes_eq, option_map, if◌then◌else◌}
use Rattle.std.specs.List.{list_any}
use Rattle.std.proofs.lemmas.Bool.{and_from, and_parts, or_cases, or_left, or_right, both_ways, cases_Bool, not-true}
use Rattle.rl_view_spec.specs.Closure.{Text, Registered, InClosure, Resolves, in_closure, is_skipped}
use Rattle.rl_view_spec.specs.Progress as table
use Rattle.rl_view_spec.specs.Progress.{Progress, name_at, is_skipped_at, is_touched_at, outcome_at, is_impl, is_done, has_thrown, all_needed, phase_of}
use Rattle.rl_view_spec.specs.Progress.{HasDistinctNames}
use Rattle.rl_view_spec.specs.View.{View, Event, Answer, Implementation, Missing, Failed, GivenUp, answer_in, or_else, touches, is_touched, first_of}
use Rattle.rl_view_spec.specs.View.{is_implementation, is_good, is_lost, is_missing, is_broken, is_thrown, all_others, all_in_closure, throws_at, throws_for}
use Rattle.rl_view_spec.specs.View.{kind_of, progress_of, state_of, log_of}
use Rattle.rl_view_spec.specs.Headline.{ReadyWhereGood, Headline}
use Rattle.rl_view_spec.specs.Laws.{AreLawful}
use Rattle.rl_view_spec.specs.declared.Phase.{Phase}
use Rattle.rl_view_spec.specs.declared.Phase.TheVariants as phase
use Rattle.rl_view_spec.proofs.ChainsLemmas.{same, reaches_from_led, led_in_closure}
use Rattle.rl_view_spec.proofs.PlacesLemmas.{place_of, number_named, skips_alike, needed_each, each_needed, closure_each, each_closure, bytes_eq-from}
use Rattle.rl_view_spec.proofs.ResolveLemmas.{touched_resolves, touched_on, closure_on, closure_itself}
use Rattle.rl_view_spec.proofs.LogLemmas.{Fine, touched_row, outcome_row, impl_row, runs, ran_well, well_logged, logged_well, badly_logged, logged_badly}
use Rattle.rl_view_spec.proofs.AfterLemmas.{logged_belongs, belongs_logged, good_from_skipped, good_from_fine, good_cases, runs_once_and_after}

-- ---- what has an implementation was touched and is not skipped

or_else_cases : (o later : Option Answer) → is_implementation (or_else o later) ≡ true →
    (is_implementation o ≡ true) ⊎ (is_implementation later ≡ true)
or_else_cases None later h = inr h
or_else_cases (Some answer) later h = inl h

only_where : (b : Bool) (o : Option Answer) → is_implementation (if b then o else None) ≡ true → b ≡ true
only_where true o h = refl
only_where false o h = cc

throws_impl : (v : View) (name : Text) (o : Option Answer) → throws_for v.throws name o ≡ true → is_implementation o ≡ true
throws_impl v name None h = cc
throws_impl v name (Some (Implementation version script)) h = refl
throws_impl v name (Some Missing) h = cc
throws_impl v name (Some Failed) h = cc
throws_impl v name (Some GivenUp) h = cc

answered_where : (v : View) (past : List Event) (name : Text) → is_implementation (first_of v past name) ≡ true →
    (is_touched v past name ≡ true) × (is_skipped v.registered name ≡ false)
answered_where v [] name h = cc
answered_where v (event ∷ past) name h = ⊎_elim
    (λ e. let m = answered_where v past name e in (or_right (touches v.registered name event) _ m.0, m.1))
    (λ e. let parts = and_parts (is_touched v (event ∷ past) name) (not (is_skipped v.registered name))
    (only_where (is_touched v (event ∷ past) name && not (is_skipped v.registered name)) (answer_in name event) e) in
    (parts.0, not-true (is_skipped v.registered name) parts.1))
    (or_else_cases (first_of v past name) (if is_touched v (event ∷ past) name && not (is_skipped v.registered name) then answer_in name event else None) h)

-- ---- ready

abbrev pub chosen : Bool → Bool → Bool → Bool → Bool → Phase
chosen touched good missing broken impl =
    if not touched then phase.Registered
    else if good then phase.Ready
    else if missing then phase.Missing
    else if broken then phase.Error
    else if impl then phase.Loaded
    else phase.Loading

ready_means : (touched good missing broken impl : Bool) → chosen touched good missing broken impl ≡ phase.Ready → good ≡ true
ready_means false good missing broken impl h = cc
ready_means true true missing broken impl h = refl
ready_means true false true broken impl h = cc
ready_means true false false true impl h = cc
ready_means true false false false true h = cc
ready_means true false false false false h = cc

ready_from : (touched good missing broken impl : Bool) → touched ≡ true → good ≡ true → chosen touched good missing broken impl ≡ phase.Ready
ready_from true true missing broken impl t g = refl
ready_from true false missing broken impl t g = cc
ready_from false good missing broken impl t g = cc

unchosen : (touched good missing broken impl : Bool) → touched ≡ false → chosen touched good missing broken impl ≡ phase.Registered
unchosen false good missing broken impl t = refl
unchosen true good missing broken impl t = cc

-- a name that was not touched is registered
pub untouched : (v : View) (past : List Event) (name : Text) → is_touched v past name ≡ false → state_of v past name ≡ phase.Registered
untouched v past name e = unchosen (is_touched v past name) (all_in_closure v.registered name (is_good v past)) (is_missing (first_of v past name))
    (not (all_in_closure v.registered name (λ member. not (is_broken v past member)))) (is_implementation (first_of v past name)) e

-- ---- helpers

pub iff_same : (a b : Bool) → (a ≡ true → b ≡ true) → (b ≡ true → a ≡ true) → a ≡ b
iff_same true b f g = sym (f refl)
iff_same false true f g = g refl
iff_same false false f g = refl

missing_kind : (o : Option Answer) → table.is_missing (option_map kind_of o) ≡ is_missing o
missing_kind None = refl
missing_kind (Some (Implementation version script)) = refl
missing_kind (Some Missing) = refl
missing_kind (Some Failed) = refl
missing_kind (Some GivenUp) = refl

lost_kind : (o : Option Answer) → table.is_lost (option_map kind_of o) ≡ is_lost o
lost_kind None = refl
lost_kind (Some (Implementation version script)) = refl
lost_kind (Some Missing) = refl
lost_kind (Some Failed) = refl
lost_kind (Some GivenUp) = refl

-- what a test says of the rows of a closure, by number and by name
all_alike : (r : Registered) (row : ℕ) (test : ℕ → Bool) (by_name : Text → Bool) →
    ((other : ℕ) → other < length r.rows → test other ≡ by_name (name_at r other)) →
    all_needed r row test ≡ all_in_closure r (name_at r row) by_name
all_alike r row test by_name alike = iff_same (all_needed r row test) (all_in_closure r (name_at r row) by_name)
    (λ h. each_closure r (name_at r row) by_name (λ member has c.
    let p = place_of r member has in
    subst (λ (m : Text). by_name m ≡ true) p.named (sym (alike p.at p.inside)
    ∙ needed_each r row test h p.at p.inside (subst (λ (m : Text). in_closure r (name_at r row) m ≡ true) (sym p.named) c))))
    (λ h. each_needed r row test (λ other low c. alike other low ∙ closure_each r (name_at r row) by_name h (name_at r other) (number_named r other low) c))

chosen_alike : (touched touched' good good' missing missing' broken broken' impl impl' : Bool) → touched ≡ touched' →
    (touched' ≡ true → good ≡ good') → missing ≡ missing' → broken ≡ broken' → impl ≡ impl'
    → chosen touched good missing broken impl ≡ chosen touched' good' missing' broken' impl'
chosen_alike touched false good good' missing missing' broken broken' impl impl' t g m b i = ap (λ (x : Bool). chosen x good missing broken impl) t
chosen_alike touched true good good' missing missing' broken broken' impl impl' t g m b i =
    ap (λ (x : Bool). chosen x good missing broken impl) t
    ∙ ap (λ (x : Bool). chosen true x missing broken impl) (g refl)
    ∙ ap (λ (x : Bool). chosen true good' x broken impl) m
    ∙ ap (λ (x : Bool). chosen true good' missing' x impl) b
    ∙ ap (λ (x : Bool). chosen true good' missing' broken' x) i

-- ---- of a lawful past whose rows have distinct names

module _ (v : View) (past : List Event) (lawful : AreLawful v past) (distinct : HasDistinctNames v.registered) where
  abbrev r : Registered
  r = v.registered

  abbrev t : Progress
  t = progress_of v past (log_of v past)

  -- a row of which all else is good, where it is not skipped, is in the log
  pub good_logged : (row : ℕ) → row < length r.rows → is_touched v past (name_at r row) ≡ true
      → ((other : Text) → InClosure r (name_at r row) other → is_good v past other ≡ true) →
      (is_skipped r (name_at r row) ≡ true) ⊎ (Contains (log_of v past) row × Fine v past (name_at r row))
  good_logged row low touched good = ⊎_elim (λ s. inl s)
      (λ f. inr (
        belongs_logged v past row lawful distinct (record {
          inside = low;
          touched = touched;
          kept = skips_alike r distinct row low ∙ f.0;
          answered = f.1.0;
          good = λ other c ne. good other c;
        }),
        f.1,
      ))
      (good_cases v past (name_at r row) (good (name_at r row) (closure_itself r (name_at r row))))

  pub ready_where_good : (name : Text) → is_touched v past name ≡ true → ReadyWhereGood v past name
  ready_where_good name touched = record { ready = (means, back); ran = λ e row low m. ran e row low m }
    where
      broken : Bool
      broken = not (all_in_closure r name (λ member. not (is_broken v past member)))

      means : state_of v past name ≡ phase.Ready → (member : Text) → InClosure r name member → is_good v past member ≡ true
      means e member m = closure_each r name (is_good v past)
          (ready_means (is_touched v past name) (all_in_closure r name (is_good v past)) (is_missing (first_of v past name))
          (not (all_in_closure r name (λ member. not (is_broken v past member)))) (is_implementation (first_of v past name)) e)
          member ((touched_resolves v past name lawful touched).known member m) (reaches_from_led r name member m)

      back : ((member : Text) → InClosure r name member → is_good v past member ≡ true) → state_of v past name ≡ phase.Ready
      back good = ready_from (is_touched v past name) (all_in_closure r name (is_good v past)) (is_missing (first_of v past name))
          (not (all_in_closure r name (λ member. not (is_broken v past member)))) (is_implementation (first_of v past name)) touched
          (each_closure r name (is_good v past) (λ member has c. good member (led_in_closure r name member c)))

      ran : state_of v past name ≡ phase.Ready → (row : ℕ) → row < length r.rows → InClosure r name (name_at r row) →
          (is_skipped r (name_at r row) ≡ true) ⊎ Contains (log_of v past) row
      ran e row low m = ⊎_elim (λ s. inl s) (λ c. inr c.0)
          (good_logged row low (touched_on v past name (name_at r row) touched m)
          (λ other c. means e other (closure_on r name (name_at r row) other m c)))

  -- a row threw where an observer throws for it and all else that it needs is good
  pub thrown_alike : (row : ℕ) → row < length r.rows → has_thrown t row ≡ is_thrown v past (name_at r row)
  thrown_alike row low = iff_same (has_thrown t row) (is_thrown v past (name_at r row)) there back
    where
      there : has_thrown t row ≡ true → is_thrown v past (name_at r row) ≡ true
      there h =
          let m = badly_logged v past (log_of v past) row h in
          let b = logged_belongs v past row lawful m.0 in
          and_from (throws_at v past (name_at r row)) (all_others r (name_at r row) (is_good v past)) m.1
          (each_closure r (name_at r row) (λ other. bytes_eq other (name_at r row) || is_good v past other) (λ other has c. ⊎_elim
          (λ e. or_left (bytes_eq other (name_at r row)) (is_good v past other) e)
          (λ ne. or_right (bytes_eq other (name_at r row)) (is_good v past other)
          (b.good other (led_in_closure r (name_at r row) other c)
          (λ s. both_ways (bytes_eq other (name_at r row)) ne (bytes_eq-from other (name_at r row) s))))
          (cases_Bool (bytes_eq other (name_at r row)))))

      back : is_thrown v past (name_at r row) ≡ true → has_thrown t row ≡ true
      back h =
          let parts = and_parts (throws_at v past (name_at r row)) (all_others r (name_at r row) (is_good v past)) h in
          let impl : is_implementation (first_of v past (name_at r row)) ≡ true = throws_impl v (name_at r row) (first_of v past (name_at r row)) parts.0 in
          let here = answered_where v past (name_at r row) impl in
          let res : Resolves r (name_at r row) = touched_resolves v past (name_at r row) lawful here.0 in
          logged_badly v past (log_of v past) row
          (belongs_logged v past row lawful distinct (record {
            inside = low;
            touched = here.0;
            kept = skips_alike r distinct row low ∙ here.1;
            answered = impl;
            good = λ other c ne. ⊎_elim (λ e. absurd (ne (same other (name_at r row) e))) (λ g. g)
                (or_cases (bytes_eq other (name_at r row)) (is_good v past other)
                (closure_each r (name_at r row) (λ other. bytes_eq other (name_at r row) || is_good v past other) parts.1 other (res.known other c)
                (reaches_from_led r (name_at r row) other c)));
          }))
          parts.0

  pub broken_alike : (row : ℕ) → row < length r.rows
      → (table.is_lost (outcome_at t row) || has_thrown t row) ≡ is_broken v past (name_at r row)
  broken_alike row low =
      ap (λ (b : Bool). b || has_thrown t row) (ap table.is_lost (outcome_row v past (log_of v past) row low) ∙ lost_kind (first_of v past (name_at r row)))
      ∙ ap (λ (b : Bool). is_lost (first_of v past (name_at r row)) || b) (thrown_alike row low)

  -- all of the closure of a touched row is done where all of it is good
  done_alike : (row : ℕ) → row < length r.rows → is_touched v past (name_at r row) ≡ true
      → all_needed r row (is_done t) ≡ all_in_closure r (name_at r row) (is_good v past)
  done_alike row low touched = iff_same (all_needed r row (is_done t)) (all_in_closure r (name_at r row) (is_good v past))
      (λ h. each_closure r (name_at r row) (is_good v past) (λ member has c.
      let p = place_of r member has in
      ⊎_elim (λ s. good_from_skipped v past member (sym p.skips ∙ s))
      (λ w. let m = well_logged v past (log_of v past) p.at w in
      let b = logged_belongs v past p.at lawful m.0 in
      good_from_fine v past member (subst (λ (name : Text). Fine v past name) p.named (b.answered, m.1)))
      (or_cases (is_skipped_at r p.at) (list_any (ran_well p.at) (runs v past (log_of v past)))
      (needed_each r row (is_done t) h p.at p.inside (subst (λ (m : Text). in_closure r (name_at r row) m ≡ true) (sym p.named) c)))))
      (λ h. each_needed r row (is_done t) (λ other there c.
      let m : InClosure r (name_at r row) (name_at r other) = led_in_closure r (name_at r row) (name_at r other) c in
      let res : Resolves r (name_at r row) = touched_resolves v past (name_at r row) lawful touched in
      ⊎_elim (λ s. or_left (is_skipped_at r other) _ (skips_alike r distinct other there ∙ s))
      (λ w. or_right (is_skipped_at r other) _ (logged_well v past (log_of v past) other w.0 w.1.1))
      (good_logged other there (touched_on v past (name_at r row) (name_at r other) touched m)
      (λ x d. let n : InClosure r (name_at r row) x = closure_on r (name_at r row) (name_at r other) x m d in
      closure_each r (name_at r row) (is_good v past) h x (res.known x n) (reaches_from_led r (name_at r row) x n)))))

  pub phase_alike : (row : ℕ) → row < length r.rows
      → phase_of t row ≡ state_of v past (name_at r row)
  phase_alike row low =
      let name : Text = name_at r row in
      chosen_alike
      (is_touched_at t row) (is_touched v past name)
      (all_needed r row (is_done t)) (all_in_closure r name (is_good v past))
      (table.is_missing (outcome_at t row)) (is_missing (first_of v past name))
      (not (all_needed r row (λ other. not (table.is_lost (outcome_at t other) || has_thrown t other))))
      (not (all_in_closure r name (λ member. not (is_broken v past member))))
      (is_impl (outcome_at t row)) (is_implementation (first_of v past name))
      (touched_row v past (log_of v past) row low)
      (λ touched. done_alike row low touched)
      (ap table.is_missing (outcome_row v past (log_of v past) row low) ∙ missing_kind (first_of v past name))
      (ap not (all_alike r row (λ other. not (table.is_lost (outcome_at t other) || has_thrown t other)) (λ member. not (is_broken v past member))
      (λ other there. ap not (broken_alike other there))))
      (impl_row v past (log_of v past) row low)

pub headline : (v : View) (past : List Event) → Headline v past
headline v past distinct lawful = (runs_once_and_after v past lawful, λ name touched. ready_where_good v past lawful distinct name touched)
