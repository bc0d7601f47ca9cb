-- The summary and readiness.
use Rattle.std.proofs.Common.{◌≡◌, ℕ, ◌+◌, List, [], ◌++◌, Bool, true, false, map, Option, Some, None, refl, ap, ap₂}
use Rattle.std.proofs.Common.{sym, subst, ◌∙◌, arith, nat_eq}
use Rattle.std.specs.Prelude.{codes, flat_map, if◌then◌else◌, slice_get}
use Rattle.std.specs.List.{list_any}
use Rattle.std.specs.Option.{option_map_or}
use Rattle.std.proofs.lemmas.Bool.{false_from_ne_true, true_from_ne_false}
use Rattle.std.proofs.lemmas.List.Folds.{flat_map-map}
use Rattle.rl_names.specs.declared.row.Row.{Row}
use Rattle.rl_view_spec.specs.declared.Phase.{Phase}
use Rattle.rl_view_spec.specs.Closure.{Text, refusal_of}
use Rattle.rl_view_spec.specs.Laws.{AreLawful}
use Rattle.rl_view_spec.specs.Numbers.{number_of}
use Rattle.rl_view_spec.specs.Progress.{name_at, row_numbers, is_touched_at, has_run, phase_of}
use Rattle.rl_view_spec.specs.View.{View, Event, is_touched, log_of, state_of}
use Rattle.rl_view_spec.proofs.PlacesLemmas.{name_there, number_within}
use Rattle.rl_view_spec.proofs.ResolveLemmas.{closure_itself, resolves_accepted, touched_resolves}
use Rattle.rl_view_spec.proofs.StatesLemmas.{untouched}
use Rattle.rl_view_spec.proofs.ToolsLemmas.{all_each, place_there}
use Rattle.rl_rows.proofs.EdgesLemmas.{number_found, number_named}
use Rattle.rl_script_spec.specs.Output.{are_ready, executed_line, executed_told, is_ready, line, run_text, state_line, state_word, states_told}
use Rattle.rl_view.proofs.ReadingsLemmas.{found_seen, numbers_seen, phase_seen, ran_seen, touched_seen}
use Rattle.rl_drive.specs.Played.{executed_lines, is_ready_at, run_at, state_at, state_lines}
use Rattle.rl_drive.specs.Player.{Sees, held}
use Rattle.rl_drive.specs.declared.player.Player.{Player}
use Rattle.rl_drive.proofs.ListsLemmas.{flat_map_alike, flat_map_if, flat_map_numbers}
use Rattle.rl_drive.proofs.RunningLemmas.{key_alike, run_alike}

-- ---- states

module _ (v : View) (past : List Event) (p : Player) (s : Sees v past (log_of v past) p) where
  state_line_alike : (k : ℕ) (row : Row) → AreLawful v past → slice_get v.registered.rows k ≡ Some row
      → (if is_touched_at p.table k then state_at p.table k else [])
      ≡ (if is_touched v past row.name then state_line v past row.name else [])
  state_line_alike k row lawful there =
      ap₂ (λ (touched : Bool) (text : Text). if touched then text else []) (touched_seen v past (log_of v past) p.table s.table k row there)
      (ap₂ (λ (phase : Phase) (key : Text). line (state_word phase ++ codes " " ++ key))
      (phase_seen v past p.table k row lawful s.table there) (key_alike v past (log_of v past) p s k row there))

  pub states_alike : AreLawful v past → state_lines p.table ≡ states_told v past
  states_alike lawful =
      ap (flat_map (λ row. if is_touched_at p.table row then state_at p.table row else []))
      (numbers_seen v past (log_of v past) p.table s.table)
      ∙ flat_map_numbers (λ row. if is_touched_at p.table row then state_at p.table row else [])
      (λ (row : Row). if is_touched v past row.name then state_line v past row.name else []) 0 v.registered.rows
      (λ k row there. let zero : k ≡ 0 + k = omega arith in
      subst (λ (m : ℕ). (if is_touched_at p.table m then state_at p.table m else [])
      ≡ (if is_touched v past row.name then state_line v past row.name else []))
      zero (state_line_alike k row lawful there))
      ∙ sym (flat_map-map (λ (name : Text). if is_touched v past name then state_line v past name else []) (λ (row : Row). row.name) v.registered.rows)
      ∙ flat_map_if (is_touched v past) (state_line v past) (map (λ (row : Row). row.name) v.registered.rows)

  -- ---- executed rows

  executed_alike_at : (k : ℕ) (row : Row) → slice_get v.registered.rows k ≡ Some row
      → (if has_run p.table k then line (codes "executed " ++ run_at p.table (held p) k) else [])
      ≡ (if list_any (nat_eq k) (log_of v past) then executed_line v past (name_at v.registered k) else [])
  executed_alike_at k row there =
      ap₂ (λ (ran : Bool) (text : Text). if ran then line (codes "executed " ++ text) else [])
      (ran_seen v past (log_of v past) p.table s.table k)
      (run_alike v past (log_of v past) p s k row there ∙ ap (run_text v past) (sym (name_there v.registered k row there)))

  pub executed_alike : executed_lines p.table (held p) ≡ executed_told v past
  executed_alike =
      ap (flat_map (λ row. if has_run p.table row then line (codes "executed " ++ run_at p.table (held p) row) else []))
      (numbers_seen v past (log_of v past) p.table s.table)
      ∙ flat_map_alike (λ row. if has_run p.table row then line (codes "executed " ++ run_at p.table (held p) row) else [])
      (λ row. if list_any (nat_eq row) (log_of v past) then executed_line v past (name_at v.registered row) else []) (row_numbers v.registered)
      (λ k c. let m = place_there v.registered.rows k (number_within v.registered k c) in executed_alike_at k m.0 m.1)
      ∙ flat_map_if (λ row. list_any (nat_eq row) (log_of v past)) (λ row. executed_line v past (name_at v.registered row)) (row_numbers v.registered)

-- ---- readiness

touched_ready : (v : View) (past : List Event) (name : Text) → is_ready (state_of v past name) ≡ true →
    is_touched v past name ≡ true
touched_ready v past name h = true_from_ne_false (is_touched v past name)
    (λ e. let f : false ≡ true = sym (ap is_ready (untouched v past name e)) ∙ h in absurd (cc))

pub ready_alike : (v : View) (past : List Event) (p : Player) (name : Text) → AreLawful v past → Sees v past (log_of v past) p
    → is_ready_at p.table name ≡ is_ready (state_of v past name)
ready_alike v past p name lawful s =
    ap (λ (o : Option ℕ). option_map_or (λ row. is_ready (phase_of p.table row)) o false)
    (found_seen v past (log_of v past) p.table s.table name)
    ∙ step (number_of v.registered name) refl
  where
    step : (o : Option ℕ) → number_of v.registered name ≡ o → option_map_or (λ row. is_ready (phase_of p.table row)) o false
        ≡ is_ready (state_of v past name)
    step None e = sym (false_from_ne_true (is_ready (state_of v past name)) (λ h.
        let f = number_found v.registered name
        ((touched_resolves v past name lawful (touched_ready v past name h)).known name (closure_itself v.registered name)) in
        let g : None ≡ Some f.0 = sym e ∙ f.1 in absurd (cc)))
    step (Some k) e =
        let n = number_named v.registered name k e in
        let m = place_there v.registered.rows k n.0 in
        ap is_ready (phase_seen v past p.table k m.0 lawful s.table m.1)
        ∙ ap (λ (x : Text). is_ready (state_of v past x)) (sym (name_there v.registered k m.0 m.1) ∙ n.1)

-- a name that is ready was accepted
pub ready_resolves : (v : View) (past : List Event) (names : List Text) → AreLawful v past → are_ready v past names ≡ true →
    refusal_of v.registered names ≡ None
ready_resolves v past names lawful h = resolves_accepted v.registered names (λ name c.
    touched_resolves v past name lawful (touched_ready v past name (all_each (λ name. is_ready (state_of v past name)) names name h c)))
