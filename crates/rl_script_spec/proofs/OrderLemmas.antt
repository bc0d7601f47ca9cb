-- The summary depends on outcomes alone, and the steps of a script are lawful.
use Rattle.std.proofs.Common.{◌≡◌, ℕ, List, [], ◌∷◌, ◌++◌, Bool, Option, refl, ap, ap₂, ◌∙◌}
use Rattle.std.proofs.Common.{nat_eq}
use Rattle.std.specs.Prelude.{codes, filter, flat_map, decimal, length}
use Rattle.std.specs.List.{list_any}
use mathlib.Core.Path.{fun_ext}
use Rattle.rl_view_spec.specs.Closure.{Text, Registered, row_of, resolves}
use Rattle.rl_view_spec.specs.Progress.{name_at, row_numbers, HasDistinctNames}
use Rattle.rl_view_spec.specs.View.{View, Event, Answer, is_touched, first_of, log_of}
use Rattle.rl_view_spec.specs.Headline.{IsLawful}
use Rattle.rl_view_spec.specs.Laws.{AreLawful}
use Rattle.rl_view_spec.specs.Order.{HaveSameOutcomes}
use Rattle.rl_view_spec.proofs.ToolsLemmas.{each_all, filter_contains}
use Rattle.rl_view_spec.proofs.ResolveLemmas.{accepted_each_resolves}
use Rattle.rl_view_spec.proofs.StatesLemmas.{headline}
use Rattle.rl_view_spec.proofs.OrderLemmas.{state_by, same_row}
use Rattle.rl_script_spec.specs.declared.Step.{Step}
use Rattle.rl_script_spec.specs.declared.Step.TheVariants.{Using, Load, Impl, State}
use Rattle.rl_script_spec.specs.Laws.{ScriptsHold}
use Rattle.rl_script_spec.specs.Output.{event_of, events_of, line, state_word, key_or_name, version_of, row_version, script_of, names_where, summary_of}
use Rattle.rl_script_spec.specs.Output.{view_line}

-- ---- the summary

abbrev key_by : View → (Text → Option Answer) → Text → Text
key_by v first name = key_or_name name (version_of (first name) (row_version (row_of v.registered name)))

abbrev run_by : View → (Text → Option Answer) → Text → Text
run_by v first name = key_by v first name ++ codes " " ++ decimal (length (script_of (first name)))

abbrev summary_by : ℕ → View → (Text → Bool) → (Text → Option Answer) → (ℕ → Bool) → Text
summary_by number v touched first ran =
    view_line number ++ flat_map (λ name. line (state_word (state_by v touched first name) ++ codes " " ++ key_by v first name))
    (names_where v.registered touched)
    ++ flat_map (λ row. line (codes "executed " ++ run_by v first (name_at v.registered row))) (filter ran (row_numbers v.registered))

pub same_summary : (number : ℕ) (v : View) (one other : List Event) → HasDistinctNames v.registered → AreLawful v one → AreLawful v other →
    HaveSameOutcomes v one other
    → summary_of number v one ≡ summary_of number v other
same_summary number v one other distinct law law' h =
    ap₂ (λ (touched : Text → Bool) (first : Text → Option Answer). summary_by number v touched first (λ row. list_any (nat_eq row) (log_of v one)))
    (fun_ext h.touched) (fun_ext h.outcomes)
    ∙ ap (λ (ran : ℕ → Bool). summary_by number v (is_touched v other) (first_of v other) ran) (fun_ext (same_row v one other distinct law law' h))

-- ---- the steps of a script

step_lawful : (r : Registered) (step : Step) → IsLawful r (event_of r step)
step_lawful r (Using names) = accepted_each_resolves r names
step_lawful r (Load names) = each_all (resolves r) (filter (resolves r) names) (λ name c. (filter_contains (resolves r) names name c).1)
step_lawful r (Impl key script) = refl
step_lawful r (State name kind) = refl

pub steps_lawful : (v : View) (steps : List Step) → AreLawful v (events_of v.registered steps)
steps_lawful v [] = tt
steps_lawful v (step ∷ steps) = (step_lawful v.registered step, steps_lawful v steps)

pub scripts_hold : ScriptsHold
scripts_hold v steps distinct = headline v (events_of v.registered steps) distinct (steps_lawful v steps)
