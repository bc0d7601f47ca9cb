-- The replies tell the log.
use Rattle.std.proofs.Common.{◌≡◌, ℕ, List, [], ◌∷◌, ◌++◌, Option, refl, ap, ap₂, sym, subst, ◌∙◌, length, drop, append-nil}
use Rattle.std.specs.Prelude.{Contains, if◌then◌else◌, codes, decimal, flat_map}
use Rattle.std.proofs.lemmas.Grind.{flat_map-append}
use Rattle.std.proofs.lemmas.List.Elements.{Contains-append_left, Contains-append_right}
use Rattle.std.proofs.Math.Seq.{drop-append_seam}
use Rattle.rl_view_spec.specs.Closure.{Text, row_of}
use Rattle.rl_view_spec.specs.Progress.{name_at}
use Rattle.rl_view_spec.specs.View.{View, Event, Answer, throws_for, log_of}
use Rattle.rl_view_spec.proofs.LogLemmas.{first_kept, logged_fit, log_fits}
use Rattle.rl_view_spec.proofs.OnceLemmas.{log_grows}
use Rattle.rl_view_spec.proofs.ToolsLemmas.{contains_head, contains_tail}
use Rattle.rl_script_spec.specs.Laws.{Printing, printing_text, RepliesTellLog}
use Rattle.rl_script_spec.specs.Output.{event_of, events_of, line, reply_line, key_or_name, version_of, row_version, script_of, run_line}

-- a run's line, by the first outcome
abbrev run_line_by : View → Text → Option Answer → Text
run_line_by v name first =
    line ((if throws_for v.throws name first then codes "threw " else codes "ran ")
    ++ (key_or_name name (version_of first (row_version (row_of v.registered name))) ++ codes " " ++ decimal (length (script_of first))))

run_kept : (v : View) (event : Event) (past : List Event) (row : ℕ) → Contains (log_of v past) row →
    run_line v past (name_at v.registered row) ≡ run_line v (event ∷ past) (name_at v.registered row)
run_kept v event past row c =
    let fit = logged_fit v past (log_of v past) row (log_fits v past) c in
    ap (run_line_by v (name_at v.registered row)) (sym (first_kept v event past (name_at v.registered row) fit.1.answered))

runs_kept : (v : View) (event : Event) (past : List Event) (rows : List ℕ) → ((row : ℕ) → Contains rows row → Contains (log_of v past) row)
    → flat_map (λ row. run_line v past (name_at v.registered row)) rows ≡ flat_map (λ row. run_line v (event ∷ past) (name_at v.registered row)) rows
runs_kept v event past [] h = refl
runs_kept v event past (row ∷ rows) h =
    ap₂ (λ (a b : Text). a ++ b) (run_kept v event past row (h row (contains_head row rows)))
    (runs_kept v event past rows (λ other c. h other (contains_tail row rows other c)))

printings_kept : (v : View) (event : Event) (past : List Event) (printings : List Printing)
    → ((row : ℕ) → Contains (flat_map (λ (p : Printing). p.ran) printings) row → Contains (log_of v past) row)
    → flat_map (printing_text v past) printings ≡ flat_map (printing_text v (event ∷ past)) printings
printings_kept v event past [] h = refl
printings_kept v event past (p ∷ printings) h =
    ap₂ (λ (a b : Text). (line p.reply ++ a) ++ b)
    (runs_kept v event past p.ran (λ row c. h row (Contains-append_left p.ran (flat_map (λ (q : Printing). q.ran) printings) row c)))
    (printings_kept v event past printings (λ row c. h row (Contains-append_right p.ran (flat_map (λ (q : Printing). q.ran) printings) row c)))

seam : (whole front added : List ℕ) → whole ≡ front ++ added → front ++ drop (length front) whole ≡ whole
seam whole front added e = ap (λ (xs : List ℕ). front ++ drop (length front) xs) e ∙ ap (λ (xs : List ℕ). front ++ xs) (drop-append_seam front added)
    ∙ sym e

contains_by : (xs ys : List ℕ) → xs ≡ ys → (row : ℕ) → Contains xs row → Contains ys row
contains_by xs ys e row c = subst (λ (zs : List ℕ). Contains zs row) e c

pub replies_tell_log : RepliesTellLog
replies_tell_log v [] = ([], refl, refl)
replies_tell_log v (step ∷ past) =
    let before = replies_tell_log v past in
    let events : List Event = events_of v.registered past in
    let event : Event = event_of v.registered step in
    let grown = log_grows v event events in
    let p : Printing = record { reply = reply_line v events step; ran = drop (length (log_of v events)) (log_of v (event ∷ events)) } in (
      before.0 ++ p ∷ [],
      ap₂ (λ (a b : Text). a ++ b) (before.1 ∙ printings_kept v event events before.0 (contains_by _ _ before.2))
          (sym (append-nil (printing_text v (event ∷ events) p)))
          ∙ sym (flat_map-append (printing_text v (event ∷ events)) before.0 (p ∷ [])),
      flat_map-append (λ (q : Printing). q.ran) before.0 (p ∷ [])
          ∙ ap₂ (λ (a b : List ℕ). a ++ b) before.2 (append-nil p.ran)
          ∙ seam (log_of v (event ∷ events)) (log_of v events) grown.0 grown.1,
    )
