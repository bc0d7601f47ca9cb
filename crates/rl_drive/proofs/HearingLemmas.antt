-- What is heard, one run after another.
use mathlib.Core.Path.{fun_ext}
use Rattle.std.proofs.Common.{◌≡◌, ℕ, List, [], ◌∷◌, ◌++◌, Bool, length, ap, ap₂, refl, sym, ◌∙◌, append_assoc, append-nil}
use Rattle.std.specs.Prelude.{drop, option_to_list}
use Rattle.std.proofs.lemmas.List.{drop_at}
use Rattle.std.proofs.lemmas.List.Elements.{filter_map-append}
use Rattle.rl_names.specs.declared.name.Key.{Key}
use Rattle.rl_view_spec.specs.Closure.{Text}
use Rattle.rl_view_spec.specs.Progress.{Progress, name_at}
use Rattle.rl_view_spec.specs.View.{View, Event, first_of, log_of}
use Rattle.rl_view_spec.proofs.LogLemmas.{first_kept, log_fits, logged_fit}
use Rattle.rl_view_spec.proofs.OnceLemmas.{log_grows}
use Rattle.rl_view_spec.proofs.StepsLemmas.{loop_is_front}
use Rattle.rl_view.specs.Heard.{HearsFront, after_hearing, execution_of, executions, executions_of}
use Rattle.rl_view.proofs.RunsLemmas.{Runs}
use Rattle.rl_drive.specs.Player.{HeardSome, Told}
use Rattle.rl_drive.proofs.ListsLemmas.{as_list, filter_map_alike}

-- ---- what observers say and heard

pub same_says : (one other : Key → Text → Bool) → ((key : Key) (script : Text) → one key script ≡ other key script) → one ≡ other
same_says one other same = fun_ext (λ key. fun_ext (same key))

pub heard_nothing : (told : Told) → told ≡ after_hearing [] told
heard_nothing [] = refl
heard_nothing (before ∷ told) = ap₂ (λ (x : List (Key × Text)) (xs : Told). x ∷ xs) (sym (append-nil before)) (heard_nothing told)

pub heard_more : (one other : List (Key × Text)) (told : Told) → after_hearing other (after_hearing one told) ≡ after_hearing (one ++ other) told
heard_more one other [] = refl
heard_more one other (before ∷ told) =
    ap₂ (λ (x : List (Key × Text)) (xs : Told). x ∷ xs) (append_assoc before one other) (heard_more one other told)

-- ---- executions

module _ (v : View) where
  abbrev heard_at : List Event → ℕ → List (Key × Text)
  heard_at past row = option_to_list (execution_of (name_at v.registered row) (first_of v past (name_at v.registered row)))

  pub executions_both : (past : List Event) (one other : List ℕ) →
      executions_of v past (one ++ other) ≡ executions_of v past one ++ executions_of v past other
  executions_both past one other =
      filter_map-append (λ row. execution_of (name_at v.registered row) (first_of v past (name_at v.registered row))) one other

  pub executions_more : (past : List Event) (rows : List ℕ) (row : ℕ)
      → executions_of v past (rows ++ row ∷ []) ≡ executions_of v past rows ++ heard_at past row
  executions_more past rows row =
      executions_both past rows (row ∷ [])
      ∙ ap (λ (xs : List (Key × Text)). executions_of v past rows ++ xs)
      (as_list (execution_of (name_at v.registered row) (first_of v past (name_at v.registered row))))

  -- a new event takes nothing away
  executions_kept : (event : Event) (past : List Event) → executions_of v (event ∷ past) (log_of v past) ≡ executions v past
  executions_kept event past =
      filter_map_alike (λ row. execution_of (name_at v.registered row) (first_of v (event ∷ past) (name_at v.registered row)))
      (λ row. execution_of (name_at v.registered row) (first_of v past (name_at v.registered row))) (log_of v past)
      (λ row c. ap (execution_of (name_at v.registered row))
      (first_kept v event past (name_at v.registered row) (logged_fit v past (log_of v past) row (log_fits v past) c).1.answered))

  pub executions_added : (event : Event) (past : List Event) (added : List ℕ) → log_of v (event ∷ past) ≡ log_of v past ++ added
      → executions v (event ∷ past) ≡ executions v past ++ executions_of v (event ∷ past) added
  executions_added event past added e =
      ap (executions_of v (event ∷ past)) e ∙ executions_both (event ∷ past) (log_of v past) added
      ∙ ap (λ (xs : List (Key × Text)). xs ++ executions_of v (event ∷ past) added) (executions_kept event past)

  pub grown : (event : Event) (past : List Event) → log_of v (event ∷ past) ≡ log_of v past ++ drop (length (log_of v past)) (log_of v (event ∷ past))
  grown event past =
      let m = log_grows v event past in
      m.1 ∙ ap (λ (xs : List ℕ). log_of v past ++ xs)
      (sym (ap (drop (length (log_of v past))) m.1 ∙ drop_at (log_of v past) m.0 (length (log_of v past)) refl))

  executions_grow : (later past : List Event) → (more : List (Key × Text)) × (executions v (later ++ past) ≡ executions v past ++ more)
  executions_grow [] past = ([], sym (append-nil (executions v past)))
  executions_grow (event ∷ later) past =
      let m = executions_grow later past in
      let added : List ℕ = drop (length (log_of v (later ++ past))) (log_of v (event ∷ (later ++ past))) in
      let more : List (Key × Text) = executions_of v (event ∷ (later ++ past)) added in (
        m.0 ++ more,
        executions_added event (later ++ past) added (grown event (later ++ past)) ∙ ap (λ (xs : List (Key × Text)). xs ++ more) m.1
            ∙ append_assoc (executions v past) m.0 more,
      )

  -- ---- where memory ran out

  pub nothing_heard : (event : Event) (past : List Event) (told told' : Told) → told' ≡ told → HeardSome v event past told told'
  nothing_heard event past told told' same =
      let m = log_grows v event past in record { some = []; rest = m.0; log = m.1; heard = same ∙ heard_nothing told }

  pub some_heard : (event : Event) (past : List Event) (t : Progress) (added : List ℕ) (told told' : Told) → Runs v event past t added →
      told' ≡ after_hearing (executions_of v (event ∷ past) added) told
      → HeardSome v event past told told'
  some_heard event past t added told told' runs heard =
      let m = loop_is_front v event past runs.times in
      record {
        some = added;
        rest = m.0;
        log = m.1 ∙ ap (λ (xs : List ℕ). xs ++ m.0) runs.are ∙ append_assoc (log_of v past) added m.0;
        heard = heard;
      }

  pub front_heard : (event : Event) (past later : List Event) (first told told' : Told) → told ≡ after_hearing (executions v past) first
      → HeardSome v event past told told' → HearsFront (executions v (later ++ event ∷ past)) first told'
  front_heard event past later first told told' before h =
      let now : List Event = event ∷ past in
      let ran : List (Key × Text) = executions v past in
      let some : List (Key × Text) = executions_of v now h.some in
      let rest : List (Key × Text) = executions_of v now h.rest in
      let m = executions_grow later now in
      let whole : executions v now ≡ (ran ++ some) ++ rest =
      executions_added event past (h.some ++ h.rest) h.log
      ∙ ap (λ (xs : List (Key × Text)). ran ++ xs) (executions_both now h.some h.rest)
      ∙ sym (append_assoc ran some rest) in (
        ran ++ some,
        rest ++ m.0,
        m.1 ∙ ap (λ (xs : List (Key × Text)). xs ++ m.0) whole ∙ append_assoc (ran ++ some) rest m.0,
        h.heard ∙ ap (after_hearing some) before ∙ heard_more ran some first,
      )

  -- memory ran out after all
  pub all_heard : (past : List Event) (first told : Told) → told ≡ after_hearing (executions v past) first → HearsFront (executions v past) first told
  all_heard past first told heard = (executions v past, [], sym (append-nil (executions v past)), heard)
