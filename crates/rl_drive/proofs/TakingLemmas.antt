-- What each kind of step does to a player.
use mathlib.Core.Path.{fun_ext}
use Rattle.std.proofs.Common.{◌≡◌, ℕ, suc, ◌+◌, ◌-◌, List, [], ◌∷◌, ◌++◌, Bool, true, false, cond, not, length, Option, Some, None}
use Rattle.std.proofs.Common.{refl, ap, sym, subst, ◌∙◌, arith}
use Rattle.std.specs.Prelude.{codes, count_by, decimal, filter, if◌then◌else◌, is_none}
use Rattle.std.specs.List.{filter_map}
use Rattle.std.proofs.lemmas.List.Sums.{length-filter}
use Rattle.rl_names.specs.declared.row.Row.{Row}
use Rattle.rl_view_spec.specs.Closure.{Text, Registered, Refusal, refusal_of, resolves}
use Rattle.rl_view_spec.specs.Requests.{accepted_each, answer_alone, given_by, request}
use Rattle.rl_view_spec.specs.View.{View, Event, log_of}
use Rattle.rl_view_spec.proofs.ResolveLemmas.{resolves_accepted, resolves_itself}
use Rattle.rl_view_spec.proofs.ToolsLemmas.{filter_contains}
use Rattle.rl_script_spec.specs.Output.{event_of, events_of, line, refused_line}
use Rattle.rl_script_spec.specs.declared.Step.{Step}
use Rattle.rl_script_spec.specs.declared.Step.TheVariants.{Using, Load}
use Rattle.rl_view.specs.Seen.{HasSeen, asks}
use Rattle.rl_view.proofs.NowLemmas.{outcomes_asked, seen_begin}
use Rattle.rl_view.proofs.ReadingsLemmas.{refusal_seen}
use Rattle.rl_drive.specs.Player.{HasPlayed, Requested, Sees, IsDue, Stays, TakesIn}
use Rattle.rl_drive.specs.declared.player.Player.{Player}
use Rattle.rl_drive.proofs.GivenLemmas.{given_alike, hearing}

pub stays_seen : (v : View) (past : List Event) (log : List ℕ) (old new : Player) → Stays old new → Sees v past log old → Sees v past log new
stays_seen v past log old new stays s = record {
  table = subst (HasSeen v past log) (sym stays.table) s.table;
  given = stays.given ∙ s.given;
}

-- a request for nothing
pub due_begin : (v : View) (past : List Event) (p : Player) → Sees v past (log_of v past) p → IsDue v (asks []) past p
due_begin v past p s = record {
  table = seen_begin v past p.table s.table;
  given = s.given ∙ sym (given_alike v (asks [] ∷ past) past (outcomes_asked hearing v [] past));
}

no_rows : (rows : List Row) → filter (λ row. false) rows ≡ []
no_rows [] = refl
no_rows (row ∷ rows) = no_rows rows

brings_nothing : (r : Registered) → request answer_alone r [] ≡ asks []
brings_nothing r = ap (λ (rows : List Row). record { requested = []; came = filter_map (given_by answer_alone) rows }) (no_rows r.rows)

-- what a player refuses its view refuses
refusal_same : (v : View) (past : List Event) (log : List ℕ) (names : List Text) (p : Player) → Sees v past log p →
    refusal_of p.table.registered names ≡ refusal_of v.registered names
refusal_same v past log names p s = refusal_seen v past log p.table s.table names

-- ---- using

pub accepted : (names : List Text) (old new : Player) (out out' : Text) → Requested names old new → out' ≡ out ++ line (codes "using ok") →
    TakesIn (Using names) old new out out'
accepted names old new out out' requested text = record {
  event = λ v past played. subst (λ (event : Event). IsDue v event (events_of v.registered past) new) (asked v past played)
      (requested.event v (events_of v.registered past) played);
  reply = λ v past played. text ∙ ap (λ (o : Option Refusal). out ++ line (refused_line o)) (sym (none v past played));
}
  where
    none : (v : View) (past : List Step) → HasPlayed v past old → refusal_of v.registered names ≡ None
    none v past played = sym (refusal_same v (events_of v.registered past) (log_of v (events_of v.registered past)) names old played) ∙ requested.accepted

    asked : (v : View) (past : List Step) → HasPlayed v past old → request answer_alone v.registered names ≡ event_of v.registered (Using names)
    asked v past played = ap (λ (o : Option Refusal). request answer_alone v.registered (if is_none o then names else [])) (sym (none v past played))

pub refused : (names : List Text) (why : Refusal) (old new : Player) (out out' : Text) → refusal_of old.table.registered names ≡ Some why → Stays old new
    → out' ≡ out ++ line (refused_line (Some why)) → TakesIn (Using names) old new out out'
refused names why old new out out' e stays text = record {
  event = λ v past played.
      subst (λ (event : Event). IsDue v event (events_of v.registered past) new) (sym (brings_nothing v.registered) ∙ asked v past played)
      (stays_seen v (asks [] ∷ events_of v.registered past) (log_of v (events_of v.registered past)) old new stays
      (due_begin v (events_of v.registered past) old played));
  reply = λ v past played. text ∙ ap (λ (o : Option Refusal). out ++ line (refused_line o)) (sym (some v past played));
}
  where
    some : (v : View) (past : List Step) → HasPlayed v past old → refusal_of v.registered names ≡ Some why
    some v past played = sym (refusal_same v (events_of v.registered past) (log_of v (events_of v.registered past)) names old played) ∙ e

    asked : (v : View) (past : List Step) → HasPlayed v past old → request answer_alone v.registered [] ≡ event_of v.registered (Using names)
    asked v past played = ap (λ (o : Option Refusal). request answer_alone v.registered (if is_none o then names else [])) (sym (some v past played))

-- ---- load

-- what resolves is accepted
pub none_refused : (r : Registered) (names : List Text) (why : Refusal) → refusal_of r (accepted_each r names) ≡ Some why → ⊥
none_refused r names why e =
    let none : refusal_of r (accepted_each r names) ≡ None =
    resolves_accepted r (accepted_each r names) (λ name c. resolves_itself r name (filter_contains (resolves r) names name c).1) in
    let wrong : None ≡ Some why = sym none ∙ e in
    absurd (cc)

both_kinds : (p : Text → Bool) (names : List Text) → length (filter (λ name. not (p name)) names) + length (filter p names) ≡ length names
both_kinds p [] = refl
both_kinds p (name ∷ names) = step (p name) (both_kinds p names)
  where
    step : (b : Bool) → length (filter (λ name. not (p name)) names) + length (filter p names) ≡ length names
        → length (cond (not b) (name ∷ filter (λ name. not (p name)) names) (filter (λ name. not (p name)) names)) + length
        (cond b (name ∷ filter p names) (filter p names))
        ≡ suc (length names)
    step true e = omega (arith, e)
    step false e = omega (arith, e)

pub dropped_are : (p : Text → Bool) (names : List Text) → count_by (λ name. not (p name)) names + length (filter p names) ≡ length names
dropped_are p names =
    ap (λ (n : ℕ). n + length (filter p names)) (sym (length-filter (λ name. not (p name)) names)) ∙ both_kinds p names

pub loaded : (names accepted : List Text) (old new : Player) (out out' : Text) → accepted ≡ accepted_each old.table.registered names →
    Requested accepted old new
    → out' ≡ out ++ line (codes "load dropped " ++ decimal (length names - length accepted)) → TakesIn (Load names) old new out out'
loaded names accepted old new out out' are requested text = record {
  event = λ v past played.
      subst (λ (names : List Text). IsDue v (request answer_alone v.registered names) (events_of v.registered past) new) (are_same v past played)
      (requested.event v (events_of v.registered past) played);
  reply = λ v past played. text ∙ ap (λ (n : ℕ). out ++ line (codes "load dropped " ++ decimal n))
      (ap (λ (xs : List Text). length names - length xs) (are_same v past played)
      ∙ (let counted = dropped_are (resolves v.registered) names in omega (arith, counted)));
}
  where
    are_same : (v : View) (past : List Step) → HasPlayed v past old → accepted ≡ accepted_each v.registered names
    are_same v past played = are ∙ ap (λ (p : Text → Bool). filter p names)
        (fun_ext (λ name. ap is_none (refusal_same v (events_of v.registered past) (log_of v (events_of v.registered past)) (name ∷ []) old played)))
