-- The order of events does not matter where the outcomes are the same.
use Rattle.std.proofs.Common.{◌≡◌, ℕ, List, Bool, true, ◌&&◌, ◌||◌, not, nat_eq, Option, refl, ap, ap₂, sym, subst, ◌∙◌}
use Rattle.std.specs.Prelude.{Contains, if◌then◌else◌}
use Rattle.std.specs.List.{list_any}
use Rattle.std.proofs.lemmas.Bool.{eqb-true, eq-eqb}
use mathlib.Core.Path.{fun_ext}
use Rattle.rl_view_spec.specs.Closure.{Text, is_skipped}
use Rattle.rl_view_spec.specs.Progress.{name_at, HasDistinctNames}
use Rattle.rl_view_spec.specs.View.{View, Event, Answer, is_touched, first_of, is_implementation, is_good, is_missing, is_lost, throws_for, all_in_closure}
use Rattle.rl_view_spec.specs.View.{all_others, state_of, log_of}
use Rattle.rl_view_spec.specs.Laws.{AreLawful, Belongs}
use Rattle.rl_view_spec.specs.Order.{HaveSameOutcomes}
use Rattle.rl_view_spec.specs.declared.Phase.{Phase}
use Rattle.rl_view_spec.specs.declared.Phase.TheVariants as phase
use Rattle.rl_view_spec.proofs.ToolsLemmas.{any_one, one_any}
use Rattle.rl_view_spec.proofs.AfterLemmas.{logged_belongs, belongs_logged}
use Rattle.rl_view_spec.proofs.StatesLemmas.{iff_same}

-- ---- the state, of what was touched and of the outcomes alone

abbrev pub throws_by : View → (Text → Option Answer) → Text → Bool
throws_by v first name = throws_for v.throws name (first name)

abbrev pub good_by : View → (Text → Option Answer) → Text → Bool
good_by v first name = is_skipped v.registered name || (is_implementation (first name) && not (throws_by v first name))

abbrev pub broken_by : View → (Text → Option Answer) → Text → Bool
broken_by v first name = is_lost (first name) || (throws_by v first name && all_others v.registered name (good_by v first))

abbrev pub state_by : View → (Text → Bool) → (Text → Option Answer) → Text → Phase
state_by v touched first name =
    if not (touched name) then phase.Registered
    else if all_in_closure v.registered name (good_by v first) then phase.Ready
    else if is_missing (first name) then phase.Missing
    else if not (all_in_closure v.registered name (λ member. not (broken_by v first member))) then phase.Error
    else if is_implementation (first name) then phase.Loaded
    else phase.Loading

state_is : (v : View) (past : List Event) (name : Text) → state_of v past name ≡ state_by v (is_touched v past) (first_of v past) name
state_is v past name = refl

pub same_state : (v : View) (one other : List Event) → HaveSameOutcomes v one other → (name : Text) → state_of v one name ≡ state_of v other name
same_state v one other h name = ap₂ (λ (touched : Text → Bool) (first : Text → Option Answer). state_by v touched first name) (fun_ext h.touched)
    (fun_ext h.outcomes)

good_is : (v : View) (one other : List Event) → HaveSameOutcomes v one other → (name : Text) → is_good v one name ≡ is_good v other name
good_is v one other h name = ap (λ (first : Text → Option Answer). good_by v first name) (fun_ext h.outcomes)

-- ---- the rows that ran

belongs_too : (v : View) (one other : List Event) → HaveSameOutcomes v one other → (row : ℕ) → Belongs v one row → Belongs v other row
belongs_too v one other h row b = record {
  inside = b.inside;
  touched = sym (h.touched (name_at v.registered row)) ∙ b.touched;
  kept = b.kept;
  answered = sym (ap is_implementation (h.outcomes (name_at v.registered row))) ∙ b.answered;
  good = λ member m ne. sym (good_is v one other h member) ∙ b.good member m ne;
}

turned : (v : View) (one other : List Event) → HaveSameOutcomes v one other → HaveSameOutcomes v other one
turned v one other h = record { touched = λ name. sym (h.touched name); outcomes = λ name. sym (h.outcomes name) }

ran_too : (v : View) (one other : List Event) → HasDistinctNames v.registered → AreLawful v one → AreLawful v other → HaveSameOutcomes v one other →
    (row : ℕ) → list_any (nat_eq row) (log_of v one) ≡ true → list_any (nat_eq row) (log_of v other) ≡ true
ran_too v one other distinct law law' h row ran =
    let m = any_one (nat_eq row) (log_of v one) ran in
    let c : Contains (log_of v one) row = subst (λ (x : ℕ). Contains (log_of v one) x) (sym (eqb-true row m.0 m.2)) m.1 in
    one_any (nat_eq row) (log_of v other) row (belongs_logged v other row law' distinct (belongs_too v one other h row (logged_belongs v one row law c)))
    (eq-eqb row row refl)

pub same_row : (v : View) (one other : List Event) → HasDistinctNames v.registered → AreLawful v one → AreLawful v other →
    HaveSameOutcomes v one other → (row : ℕ) → list_any (nat_eq row) (log_of v one) ≡ list_any (nat_eq row) (log_of v other)
same_row v one other distinct law law' h row = iff_same (list_any (nat_eq row) (log_of v one)) (list_any (nat_eq row) (log_of v other))
    (ran_too v one other distinct law law' h row) (ran_too v other one distinct law' law (turned v one other h) row)
