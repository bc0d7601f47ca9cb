-- The private rows of a request.
use Rattle.std.proofs.Common.{◌≡◌, ℕ, ◌+◌, ◌<◌, ◌≤◌, List, [], ◌∷◌, ◌++◌, Bool, true, false, ◌&&◌, length, take, get_or}
use Rattle.std.proofs.Common.{Option, Some, None, refl, ap, sym, subst, ◌∙◌}
use Rattle.std.specs.Prelude.{if◌then◌else◌, option_and_then, option_to_list, slice_get}
use Rattle.std.specs.List.{filter_map}
use Rattle.std.specs.Option.{option_map_or}
use Rattle.std.proofs.lemmas.List.{take_all, take_more}
use Rattle.std.proofs.lemmas.List.Elements.{filter_map-append}
use Rattle.rl_names.specs.declared.row.Row.{Row}
use Rattle.rl_view_spec.specs.Closure.{Text, Registered}
use Rattle.rl_view_spec.specs.Numbers.{closure_numbers}
use Rattle.rl_view_spec.specs.Progress.{Progress}
use Rattle.rl_view_spec.specs.Requests.{answer_alone, given_by, request}
use Rattle.rl_view_spec.specs.Rows.{is_private}
use Rattle.rl_view_spec.specs.View.{View, Event, Answer, Failed, log_of}
use Rattle.rl_view_spec.specs.declared.Outcome.TheVariants as outcome
use Rattle.rl_view_spec.proofs.ToolsLemmas.{place_there}
use Rattle.rl_states.specs.Changes.{after_outcome, after_touch}
use Rattle.rl_view.specs.Seen.{asks, brought_at, counts_at, given_to, with_answers}
use Rattle.rl_view.proofs.BroughtLemmas.{brought_all, outcomes_given, seen_given}
use Rattle.rl_view.proofs.NowLemmas.{closures_now, outcomes_asked}
use Rattle.rl_view.proofs.ReadingsLemmas.{registered_seen, row_seen}
use Rattle.rl_view.proofs.TouchesLemmas.{closure_within, seen_touch}
use Rattle.rl_drive.specs.Played.{is_private_at}
use Rattle.rl_drive.specs.Player.{IsDue, RefusesAll, RefusesPrivate, Sees, held}
use Rattle.rl_drive.specs.declared.player.Player.{Player}
use Rattle.rl_drive.proofs.GivenLemmas.{given_alike, hearing}
use Rattle.rl_drive.proofs.ListsLemmas.{as_list}

-- ---- one row

refused_is : (private : Bool) (k : ℕ) (t : Progress)
    → (if private && counts_at t k then after_outcome k outcome.Error t else t) ≡ given_to k (if private then Some Failed else None) t
refused_is true k t = refl
refused_is false k t = refl

no_script : (private : Bool) (given : Answer) → (if private then Some Failed else None) ≡ Some given → hearing (Some given) ≡ hearing None
no_script true given e = let same : Failed ≡ given = cc in subst (λ (answer : Answer). hearing (Some answer) ≡ hearing None) same refl
no_script false given e = cc

due_refused : (v : View) (event : Event) (past : List Event) (k : ℕ) (row : Row) (old new : Player) → IsDue v event past old →
    slice_get v.registered.rows k ≡ Some row
    → RefusesPrivate k old new → IsDue v (with_answers (option_to_list (given_by answer_alone row)) event) past new
due_refused v event past k row old new s there refuses = record {
  table = seen_given v answer_alone event past k row there old.table new.table s.table
      (refuses.table
      ∙ ap (λ (b : Bool). if b && counts_at old.table k then after_outcome k outcome.Error old.table else old.table) private
      ∙ refused_is (is_private row.group) k old.table);
  given = refuses.given ∙ s.given
      ∙ sym (given_alike v (with_answers (option_to_list (given_by answer_alone row)) event ∷ past) (event ∷ past)
      (outcomes_given v answer_alone event past k row there hearing old.table s.table (no_script (is_private row.group))));
}
  where
    private : is_private_at old.table k ≡ is_private row.group
    private = ap (λ (found : Option Row). option_map_or (λ found. is_private found.group) found false)
        (row_seen v (event ∷ past) (log_of v past) old.table s.table k row there)

-- ---- all rows

-- after so many rows
pub record Refusing (rows : List ℕ) (i : ℕ) (first now : Player) : Type 0 where
  pub long : length now.table.registered.rows ≡ length first.table.registered.rows
  pub event :
      (v : View) (names : List Text) (past : List Event) → IsDue v (asks names) past first → rows ≡ closure_numbers v.registered names
      → IsDue v (record { requested = names; came = filter_map (brought_at answer_alone v.registered) (take i rows) }) past now

pub refusing_begin : (rows : List ℕ) (first : Player) → Refusing rows 0 first first
refusing_begin rows first = record { long = refl; event = λ v names past due e. due }

came_more : (v : View) (rows : List ℕ) (i k d : ℕ) (row : Row) → i < length rows → k ≡ get_or rows i d → slice_get v.registered.rows k ≡ Some row
    → filter_map (brought_at answer_alone v.registered) (take i rows) ++ option_to_list (given_by answer_alone row)
    ≡ filter_map (brought_at answer_alone v.registered) (take (i + 1) rows)
came_more v rows i k d row low is there =
    ap (λ (came : List (Text × Answer)). filter_map (brought_at answer_alone v.registered) (take i rows) ++ came)
    (ap (λ (found : Option Row). option_to_list (option_and_then (given_by answer_alone) found)) (sym there)
    ∙ sym (as_list (brought_at answer_alone v.registered k)))
    ∙ sym (filter_map-append (brought_at answer_alone v.registered) (take i rows) (k ∷ []))
    ∙ ap (λ (j : ℕ). filter_map (brought_at answer_alone v.registered) (take i rows ++ j ∷ [])) is
    ∙ ap (filter_map (brought_at answer_alone v.registered)) (sym (take_more rows i d low))

refused_long : (b : Bool) (k : ℕ) (t : Progress) → length (if b then after_outcome k outcome.Error t else t).registered.rows ≡ length t.registered.rows
refused_long true k t = refl
refused_long false k t = refl

pub refusing_next : (rows : List ℕ) (i k d : ℕ) (first old new : Player) → i < length rows → k ≡ get_or rows i d → Refusing rows i first old →
    RefusesPrivate k old new
    → Refusing rows (i + 1) first new
refusing_next rows i k d first old new low is refusing refuses = record {
  long =
      ap (λ (t : Progress). length t.registered.rows) refuses.table
      ∙ refused_long (is_private_at old.table k && counts_at old.table k) k old.table ∙ refusing.long;
  event = λ v names past due e.
      let inside : get_or rows i d < length v.registered.rows = subst (λ (xs : List ℕ). get_or xs i d < length v.registered.rows) (sym e)
      (closure_within v.registered names i d (subst (λ (xs : List ℕ). i < length xs) e low)) in
      let m = place_there v.registered.rows k (subst (λ (j : ℕ). j < length v.registered.rows) (sym is) inside) in
      subst (λ (came : List (Text × Answer)). IsDue v (record { requested = names; came = came }) past new) (came_more v rows i k d m.0 low is m.1)
      (due_refused v (record { requested = names; came = filter_map (brought_at answer_alone v.registered) (take i rows) }) past k m.0 old new
      (refusing.event v names past due e) m.1 refuses);
}

pub refusing_all : (rows : List ℕ) (i : ℕ) (first now : Player) → length rows ≤ i → Refusing rows i first now → RefusesAll rows first now
refusing_all rows i first now high refusing v names past due e =
    let all : filter_map (brought_at answer_alone v.registered) (take i rows) ≡ (request answer_alone v.registered names).came =
    ap (filter_map (brought_at answer_alone v.registered)) (take_all i rows high ∙ e) ∙ brought_all answer_alone v.registered names in
    subst (λ (came : List (Text × Answer)). IsDue v (record { requested = names; came = came }) past now) all (refusing.event v names past due e)

-- ---- the whole request

pub due_touched : (v : View) (names : List Text) (past : List Event) (old new : Player) → Sees v past (log_of v past) old
    → new.table ≡ after_touch (closure_numbers old.table.registered names) old.table → held new ≡ held old →
    IsDue v (asks names) past new
due_touched v names past old new s table given = record {
  table = seen_touch v names past old.table new.table s.table table;
  given = given ∙ s.given ∙ sym (given_alike v (asks names ∷ past) past (outcomes_asked hearing v names past));
}

pub closures_same : (v : View) (names : List Text) (past : List Event) (log : List ℕ) (p : Player) → Sees v past log p →
    closure_numbers p.table.registered names ≡ closure_numbers v.registered names
closures_same v names past log p s =
    ap (λ (registered : Registered). closure_numbers registered names) (registered_seen v past log p.table s.table)
    ∙ closures_now v past names
