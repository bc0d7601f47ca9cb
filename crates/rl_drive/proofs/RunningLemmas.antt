-- What is printed of a row, and what the runs of an event print and tell.
use Rattle.std.proofs.Common.{◌≡◌, ℕ, List, [], ◌∷◌, ◌++◌, Bool, length, Option, Some, None, refl, ap, ap₂, sym, subst, ◌∙◌}
use Rattle.std.proofs.Common.{append_assoc}
use Rattle.std.proofs.Common.{append-nil}
use Rattle.std.specs.Prelude.{Result, Ok, Err, OnErr, codes, decimal, option_map, option_to_list, slice_get}
use Rattle.std.specs.Option.{option_map_or}
use Rattle.std.proofs.lemmas.List.Concat.{flat_map-append}
use Rattle.std.proofs.lemmas.Option.{slice_get-map}
use Rattle.rl_names.specs.declared.name.Key.{Key}
use Rattle.rl_names.specs.declared.row.Row.{Row}
use Rattle.rl_view_spec.specs.Closure.{Text, Registered}
use Rattle.rl_view_spec.specs.Keys.{key_of, key_or_name, script_of}
use Rattle.rl_view_spec.specs.Progress.{name_at, next_row}
use Rattle.rl_view_spec.specs.View.{View, Event, Answer, Implementation, Missing, Failed, GivenUp, first_of, throws_at, throws_for, log_of}
use Rattle.rl_view_spec.proofs.PlacesLemmas.{name_there}
use Rattle.rl_view_spec.proofs.ToolsLemmas.{place_there}
use Rattle.rl_script_spec.specs.Output.{line, run_line, run_text}
use Rattle.rl_states.specs.Changes.{after_ran}
use Rattle.rl_view.specs.Heard.{after_hearing, execution_of, executions_of, throws_by, watched}
use Rattle.rl_view.proofs.ReadingsLemmas.{key_seen, row_seen}
use Rattle.rl_view.proofs.RunsLemmas.{Runs, runs_added, runs_begin, runs_inside, runs_more, runs_seen}
use Rattle.rl_drive.specs.Given.{given_in}
use Rattle.rl_drive.specs.Played.{execution_at, key_at, run_at, run_lines, run_word, script_length, throws_for_run}
use Rattle.rl_drive.specs.Player.{IsDue, Ran, RunsDue, RunsNext, Sees, Stays, StopsDue, Told, held}
use Rattle.rl_drive.specs.declared.player.Player.{Player}
use Rattle.rl_drive.proofs.HearingLemmas.{executions_more, heard_more, heard_nothing, some_heard}
use Rattle.rl_drive.proofs.TakingLemmas.{stays_seen}

-- ---- what is printed of a row

length_alike : (name : Text) (o : Option Answer) → script_length (execution_of name o) ≡ length (script_of o)
length_alike name None = refl
length_alike name (Some (Implementation version script)) = refl
length_alike name (Some Missing) = refl
length_alike name (Some Failed) = refl
length_alike name (Some GivenUp) = refl

says_alike : (says : Key → Text → Bool) (name : Text) (o : Option Answer) →
    throws_for_run says (execution_of name o) ≡ throws_for (throws_by says) name o
says_alike says name None = refl
says_alike says name (Some (Implementation version script)) = refl
says_alike says name (Some Missing) = refl
says_alike says name (Some Failed) = refl
says_alike says name (Some GivenUp) = refl

module _ (v : View) (past : List Event) (log : List ℕ) (p : Player) (s : Sees v past log p) (k : ℕ) (row : Row)
    (there : slice_get v.registered.rows k ≡ Some row) where
  pub key_alike : key_at p.table k ≡ key_of v past row.name
  key_alike =
      ap (λ (o : Option Row). option_map_or (λ (found : Row). key_or_name found.name found.version) o [])
      (row_seen v past log p.table s.table k row there)
      ∙ key_seen v past log p.table s.table k row there

  pub execution_alike : execution_at (held p) k ≡ execution_of row.name (first_of v past row.name)
  execution_alike =
      ap (λ (given : List (Option (Key × Text))). execution_at given k) s.given
      ∙ ap (λ (o : Option (Option (Key × Text))). option_map_or (λ (execution : Option (Key × Text)). execution) o None)
      (slice_get-map (λ (row : Row). execution_of row.name (first_of v past row.name)) v.registered.rows k
      ∙ ap (option_map (λ (row : Row). execution_of row.name (first_of v past row.name))) there)

  pub run_alike : run_at p.table (held p) k ≡ run_text v past row.name
  run_alike =
      ap₂ (λ (key : Text) (len : ℕ). key ++ codes " " ++ decimal len) key_alike
      (ap script_length execution_alike ∙ length_alike row.name (first_of v past row.name))

-- ---- one run after another

-- these runs for an event, and what was heard of them
pub record RunsHeard (v : View) (event : Event) (past : List Event) (p : Player) (added : List ℕ) (told told' : Told) : Type 0 where
  pub runs : Runs v event past p.table added
  pub given : held p ≡ given_in v (event ∷ past)
  pub heard : told' ≡ after_hearing (executions_of v (event ∷ past) added) told

-- some runs, and their lines
pub record RunsFor (v : View) (event : Event) (past : List Event) (p : Player) (out out' : Text) (told told' : Told) : Type 0 where
  pub added : List ℕ
  pub heard : RunsHeard v event past p added told told'
  pub lines : out' ≡ out ++ run_lines v (event ∷ past) added

pub dues_begin : (v : View) (event : Event) (past : List Event) (p : Player) (out : Text) (told : Told) → IsDue v event past p →
    RunsFor v event past p out out told told
dues_begin v event past p out told due = record {
  added = [];
  heard = record { runs = runs_begin v event past p.table due.table; given = due.given; heard = heard_nothing told };
  lines = sym (append-nil out);
}

module _ (says : Key → Text → Bool) (r : Registered) (event : Event) (past : List Event) (k : ℕ) (threw : Bool) (old new : Player)
    (first told told' : Told) (ran : Ran says k threw old new told told') (added : List ℕ)
    (before : RunsHeard (watched says r) event past old added first told) where
  abbrev v : View
  v = watched says r

  abbrev now : List Event
  now = event ∷ past

  abbrev row : (row : Row) × (slice_get r.rows k ≡ Some row)
  row = place_there r.rows k (runs_inside v event past old.table added k before.runs ran.next)

  execution : execution_at (held old) k ≡ execution_of (name_at r k) (first_of v now (name_at r k))
  execution =
      execution_alike v now (log_of v past ++ added) old (record { table = before.runs.seen; given = before.given }) k row.0 row.1
      ∙ ap (λ (name : Text). execution_of name (first_of v now name)) (sym (name_there r k row.0 row.1))

  throws : threw ≡ throws_at v now (name_at r k)
  throws = ran.thrown ∙ ap (throws_for_run says) execution ∙ says_alike says (name_at r k) (first_of v now (name_at r k))

  -- one run more
  pub next_heard : RunsHeard v event past new (added ++ k ∷ []) first told'
  next_heard = record {
    runs = runs_more v event past added k old.table new.table before.runs ran.next (ran.table ∙ ap (λ (b : Bool). after_ran k b old.table) throws);
    given = ran.given ∙ before.given;
    heard =
        ran.heard ∙ ap (λ (o : Option (Key × Text)). after_hearing (option_to_list o) told) execution
        ∙ ap (after_hearing (option_to_list (execution_of (name_at r k) (first_of v now (name_at r k))))) before.heard
        ∙ heard_more (executions_of v now added) (option_to_list (execution_of (name_at r k) (first_of v now (name_at r k)))) first
        ∙ ap (λ (xs : List (Key × Text)). after_hearing xs first) (sym (executions_more v now added k));
  }

  line_alike : line (run_word threw ++ run_at new.table (held new) k) ≡ run_line v now (name_at r k)
  line_alike =
      ap₂ (λ (b : Bool) (text : Text). line (run_word b ++ text)) throws
      (run_alike v now (log_of v past ++ (added ++ k ∷ [])) new (record { table = next_heard.runs.seen; given = next_heard.given }) k row.0 row.1
      ∙ ap (run_text v now) (sym (name_there r k row.0 row.1)))

  pub lines_more : (out so_far out' : Text) → so_far ≡ out ++ run_lines v now added
      → out' ≡ so_far ++ line (run_word threw ++ run_at new.table (held new) k)
      → out' ≡ out ++ run_lines v now (added ++ k ∷ [])
  lines_more out so_far out' lines text =
      text ∙ ap₂ (λ (xs ys : Text). xs ++ ys) lines line_alike
      ∙ append_assoc out (run_lines v now added) (run_line v now (name_at r k))
      ∙ ap (λ (xs : Text). out ++ xs) (ap (λ (ys : Text). run_lines v now added ++ ys) (sym (append-nil (run_line v now (name_at r k))))
      ∙ sym (flat_map-append (λ row. run_line v now (name_at r row)) added (k ∷ [])))

-- what so many runs made, whatever the registry and the event
abbrev pub SoFar : (Key → Text → Bool) → Player → Player → Text → Text → Told → Told → Type 0
SoFar says first p out out' told told' =
    (r : Registered) (event : Event) (past : List Event) → IsDue (watched says r) event past first →
    RunsFor (watched says r) event past p out out' told told'

pub dues_next : (says : Key → Text → Bool) (k : ℕ) (threw : Bool) (first old new : Player) (out before out' : Text) (told told1 told' : Told)
    → SoFar says first old out before told told1 → Ran says k threw old new told1 told'
    → out' ≡ before ++ line (run_word threw ++ run_at new.table (held new) k) → SoFar says first new out out' told told'
dues_next says k threw first old new out before out' told told1 told' so_far ran text r event past due =
    let f = so_far r event past due in
    record {
      added = f.added ++ k ∷ [];
      heard = next_heard says r event past k threw old new told told1 told' ran f.added f.heard;
      lines = lines_more says r event past k threw old new told told1 told' ran f.added f.heard out before out' f.lines text;
    }

pub dues_end : (says : Key → Text → Bool) (first old new : Player) (out out' : Text) (told told1 told' : Told) → SoFar says first old out out' told told1
    → next_row old.table ≡ None → Stays old new → told' ≡ told1 → RunsDue says first new out out' told told'
dues_end says first old new out out' told told1 told' so_far end stays same = record {
  rest = ap next_row stays.table ∙ end;
  log = λ r event past due.
      let v : View = watched says r in
      let f = so_far r event past due in
      stays_seen v (event ∷ past) (log_of v (event ∷ past)) old new stays
      (record { table = runs_seen v event past old.table f.added f.heard.runs end; given = f.heard.given });
  lines = λ r event past due.
      let v : View = watched says r in
      let f = so_far r event past due in
      f.lines ∙ ap (λ (rows : List ℕ). out ++ run_lines v (event ∷ past) rows) (runs_added v event past old.table f.added f.heard.runs end);
  heard = λ r event past due.
      let v : View = watched says r in
      let f = so_far r event past due in
      same ∙ f.heard.heard
      ∙ ap (λ (rows : List ℕ). after_hearing (executions_of v (event ∷ past) rows) told) (runs_added v event past old.table f.added f.heard.runs end);
}

-- ---- where memory ran out

-- before a run
pub stops_before : (says : Key → Text → Bool) (first old : Player) (out out' : Text) (told told1 told' : Told)
    → SoFar says first old out out' told told1 →
    told' ≡ told1 → StopsDue says first told told'
stops_before says first old out out' told told1 told' so_far same r event past due =
    let f = so_far r event past due in
    some_heard (watched says r) event past old.table f.added told told' f.heard.runs (same ∙ f.heard.heard)

-- after it
pub stops_after : (says : Key → Text → Bool) (k : ℕ) (threw : Bool) (first old new : Player) (out out' : Text) (told told1 told' : Told)
    → SoFar says first old out out' told told1 → Ran says k threw old new told1 told' → StopsDue says first told told'
stops_after says k threw first old new out out' told told1 told' so_far ran r event past due =
    let f = so_far r event past due in
    let n = next_heard says r event past k threw old new told told1 told' ran f.added f.heard in
    some_heard (watched says r) event past new.table (f.added ++ k ∷ []) told told' n.runs n.heard

-- ---- what a run answers

-- where it answers a row, that row ran, by what observers said at first
pub ran_some : (says first : Key → Text → Bool) (o : Option (ℕ × Bool)) (k : ℕ) (threw : Bool) (old new : Player) (told told' : Told) →
    o ≡ Some (k, threw) → says ≡ first
    → RunsNext says (Ok o) old new told told' → Ran first k threw old new told told'
ran_some says first o k threw old new told told' e same h =
    subst (λ (s : Key → Text → Bool). Ran s k threw old new told told') same
    (subst (λ (o : Option (ℕ × Bool)). RunsNext says (Ok o) old new told told') e h)

-- where it answers none, none may run
pub ran_none : (says : Key → Text → Bool) (o : Option (ℕ × Bool)) (old new : Player) (told told' : Told)
    → ((run : ℕ × Bool) → o ≡ Some run → ⊥) →
    RunsNext says (Ok o) old new told told'
    → (next_row old.table ≡ None) × Stays old new × (told' ≡ told)
ran_none says None old new told told' none h = h
ran_none says (Some run) old new told told' none h = absurd (none run refl)

pub on_any_err : {T E P : Type 0} (r : Result T E) → P → OnErr r P
on_any_err (Ok value) p = tt
on_any_err (Err error) p = p
