-- What a table tells of the view that it stands for.
use Rattle.std.proofs.Common.{◌≡◌, ℕ, List, length, Option, Some, refl, ap, sym, subst, ◌∙◌, nat_eq}
use Rattle.std.specs.Prelude.{Contains, slice_get}
use Rattle.std.specs.List.{list_any}
use Rattle.std.proofs.lemmas.Bool.{eq-eqb, eqb-true}
use Rattle.std.proofs.lemmas.Option.{slice_get_within}
use Rattle.rl_names.specs.declared.row.Row.{Row}
use Rattle.rl_view_spec.specs.Closure.{Text, Registered, refusal_of, row_of}
use Rattle.rl_view_spec.specs.Keys.{key_of, key_or_name, row_version, version_of}
use Rattle.rl_view_spec.specs.Laws.{AreLawful}
use Rattle.rl_view_spec.specs.Numbers.{number_of}
use Rattle.rl_view_spec.specs.Progress.{Progress, HasDistinctNames, is_touched_at, has_run, phase_of, row_numbers}
use Rattle.rl_view_spec.specs.View.{View, Event, first_of, is_touched, log_of, progress_of, state_of}
use Rattle.rl_view_spec.proofs.LogLemmas.{logged_ran, ran_logged, touched_row}
use Rattle.rl_view_spec.proofs.PlacesLemmas.{apart, name_there, place_of, row_named}
use Rattle.rl_view_spec.proofs.StatesLemmas.{iff_same, phase_alike}
use Rattle.rl_view_spec.proofs.ToolsLemmas.{any_one, one_any, place_in}
use Rattle.rl_view.specs.Seen.{HasSeen, registered_now, versioned}
use Rattle.rl_view.proofs.NowLemmas.{alike_now, long_now, phase_now, row_now}

-- a row is the one of its name
pub row_alike : (r : Registered) (k : ℕ) (row : Row) → HasDistinctNames r → slice_get r.rows k ≡ Some row → row_of r row.name ≡ Some row
row_alike r k row distinct there =
    let p = place_of r row.name (row_named r row (place_in r.rows k row there)) in
    let at : p.at ≡ k = apart r distinct p.at k p.inside (slice_get_within r.rows k row there) (p.named ∙ sym (name_there r k row there)) in
    p.found ∙ sym (subst (λ (m : ℕ). slice_get r.rows m ≡ Some p.row) at p.there) ∙ there

module _ (v : View) (past : List Event) (log : List ℕ) (t : Progress) (s : HasSeen v past log t) where
  pub registered_seen : t.registered ≡ registered_now v past
  registered_seen = ap (λ (p : Progress). p.registered) s.table

  pub long_seen : length t.registered.rows ≡ length v.registered.rows
  long_seen = ap (λ (r : Registered). length r.rows) registered_seen ∙ long_now v past

  pub numbers_seen : row_numbers t.registered ≡ row_numbers v.registered
  numbers_seen = ap row_numbers registered_seen ∙ (alike_now v past).numbers

  pub found_seen : (name : Text) → number_of t.registered name ≡ number_of v.registered name
  found_seen name = ap (λ (r : Registered). number_of r name) registered_seen ∙ (alike_now v past).found name

  pub refusal_seen : (names : List Text) → refusal_of t.registered names ≡ refusal_of v.registered names
  refusal_seen names = ap (λ (r : Registered). refusal_of r names) registered_seen ∙ (alike_now v past).refusals names

  pub row_seen : (k : ℕ) (row : Row) → slice_get v.registered.rows k ≡ Some row → slice_get t.registered.rows k ≡ Some (versioned v past row)
  row_seen k row there = ap (λ (r : Registered). slice_get r.rows k) registered_seen ∙ row_now v past k row there

  -- the key of a row by now
  pub key_seen : (k : ℕ) (row : Row) → slice_get v.registered.rows k ≡ Some row
      → key_or_name row.name (version_of (first_of v past row.name) row.version) ≡ key_of v past row.name
  key_seen k row there =
      ap (λ (o : Option Row). key_or_name row.name (version_of (first_of v past row.name) (row_version o)))
      (sym (row_alike v.registered k row s.distinct there))

  pub touched_seen : (k : ℕ) (row : Row) → slice_get v.registered.rows k ≡ Some row → is_touched_at t k ≡ is_touched v past row.name
  touched_seen k row there =
      ap (λ (p : Progress). is_touched_at p k) s.table ∙ touched_row v past log k (slice_get_within v.registered.rows k row there)
      ∙ ap (is_touched v past) (name_there v.registered k row there)

  -- a row ran where it is in the log
  pub ran_seen : (k : ℕ) → has_run t k ≡ list_any (nat_eq k) log
  ran_seen k = ap (λ (p : Progress). has_run p k) s.table
      ∙ iff_same (has_run (progress_of v past log) k) (list_any (nat_eq k) log)
      (λ h. one_any (nat_eq k) log k (ran_logged v past log k h) (eq-eqb k k refl))
      (λ h. let m = any_one (nat_eq k) log h in logged_ran v past log k (subst (λ (x : ℕ). Contains log x) (sym (eqb-true k m.0 m.2)) m.1))

-- the states, where the log is that of the view
pub phase_seen : (v : View) (past : List Event) (t : Progress) (k : ℕ) (row : Row) → AreLawful v past → HasSeen v past (log_of v past) t →
    slice_get v.registered.rows k ≡ Some row
    → phase_of t k ≡ state_of v past row.name
phase_seen v past t k row lawful s there =
    ap (λ (p : Progress). phase_of p k) s.table
    ∙ phase_now v past (log_of v past) k
    ∙ phase_alike v past lawful s.distinct k (slice_get_within v.registered.rows k row there) ∙ ap (state_of v past) (name_there v.registered k row there)
