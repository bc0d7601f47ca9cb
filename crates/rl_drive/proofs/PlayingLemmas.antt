-- Whole steps, and all steps of a script.
use Rattle.std.proofs.Common.{◌≡◌, ℕ, ◌+◌, ◌<◌, ◌≤◌, List, [], ◌∷◌, ◌++◌, Bool, length, take, get_or, reverse, None}
use Rattle.std.proofs.Common.{ap, ap₂, refl, sym}
use Rattle.std.proofs.Common.{subst, ◌∙◌}
use Rattle.std.specs.Prelude.{codes, drop}
use Rattle.std.proofs.lemmas.List.{map-append, reverse-append, take_all, take_more, take-append-drop}
use Rattle.rl_names.specs.declared.name.Key.{Key}
use Rattle.rl_view_spec.specs.Closure.{Text, Registered}
use Rattle.rl_view_spec.specs.Progress.{next_row}
use Rattle.rl_view_spec.specs.View.{View, Event, log_of}
use Rattle.rl_script_spec.specs.Output.{event_of, events_of, line, replies_of, reply_line, reply_to, summary_of, view_line}
use Rattle.rl_script_spec.specs.declared.Step.{Step}
use Rattle.rl_script_spec.proofs.OrderLemmas.{steps_lawful}
use Rattle.rl_view.specs.Heard.{HearsFront, after_hearing, executions, executions_of, watched}
use Rattle.rl_drive.specs.Played.{executed_lines, run_lines, state_lines}
use Rattle.rl_drive.specs.Player.{HasPlayed, Plays, RunsDue, StopsDue, StopsStep, TakesIn, Told, held}
use Rattle.rl_drive.specs.declared.player.Player.{Player}
use Rattle.rl_drive.proofs.HearingLemmas.{all_heard, executions_added, front_heard, grown, heard_more, heard_nothing, nothing_heard}
use Rattle.rl_drive.proofs.JoiningLemmas.{piece_more}
use Rattle.rl_drive.proofs.SummingLemmas.{executed_alike, states_alike}

-- a step is taken in, and what is due runs
pub plays :
    (says : Key → Text → Bool) (step : Step) (old mid new : Player) (out before out' : Text) (told told' : Told) → TakesIn step old mid out before
    → RunsDue says mid new before out' told told' → Plays says step old new out out' told told'
plays says step old mid new out before out' told told' takes dues = record {
  rest = dues.rest;
  played = λ r past played. dues.log r (event_of r step) (events_of r past) (takes.event (watched says r) past played);
  text = λ r past played.
      let v : View = watched says r in
      piece_more out before out' (line (reply_line v (events_of r past) step))
      (run_lines v (events_of r (step ∷ past)) (drop (length (log_of v (events_of r past))) (log_of v (events_of r (step ∷ past)))))
      (takes.reply v past played) (dues.lines r (event_of r step) (events_of r past) (takes.event v past played));
  heard = λ r past played. dues.heard r (event_of r step) (events_of r past) (takes.event (watched says r) past played);
}

-- memory ran out after it was taken in,
pub stops : (says : Key → Text → Bool) (step : Step) (old mid : Player) (out before : Text) (told told' : Told) → TakesIn step old mid out before →
    StopsDue says mid told told' → StopsStep says step old told told'
stops says step old mid out before told told' takes halts r past played =
    halts r (event_of r step) (events_of r past) (takes.event (watched says r) past played)

-- or before
pub stops_early : (says : Key → Text → Bool) (step : Step) (old : Player) (told : Told) → StopsStep says step old told told
stops_early says step old told r past played = nothing_heard (watched says r) (event_of r step) (events_of r past) told told refl

-- the summary, piece by piece
pub summed : (player : Player) (out out1 out2 out3 out4 : Text) → out1 ≡ out ++ line (codes "summary") → out2 ≡ out1 ++ view_line 0 →
    out3 ≡ out2 ++ state_lines player.table
    → out4 ≡ out3 ++ executed_lines player.table (held player) → (v : View) (past : List Step) → HasPlayed v past player
    → out4 ≡ out ++ line (codes "summary") ++ summary_of 0 v (events_of v.registered past)
summed player out out1 out2 out3 out4 e1 e2 e3 e4 v past played =
    piece_more (out ++ line (codes "summary")) out3 out4 (view_line 0 ++ state_lines player.table) (executed_lines player.table (held player))
    (piece_more (out ++ line (codes "summary")) out2 out3 (view_line 0) (state_lines player.table) (e2 ∙ ap (λ (text : Text). text ++ view_line 0) e1) e3) e4
    ∙ ap₂ (λ (states executed : Text). out ++ line (codes "summary") ++ (view_line 0 ++ states ++ executed))
    (states_alike v (events_of v.registered past) player played (steps_lawful v past)) (executed_alike v (events_of v.registered past) player played)

-- ---- all steps

-- after so many steps
pub record Playing (says : Key → Text → Bool) (r : Registered) (steps : List Step) (i : ℕ)
    (player : Player) (out : Text) (told told' : Told) : Type 0 where
  pub rest : next_row player.table ≡ None
  pub played : HasPlayed (watched says r) (reverse (take i steps)) player
  pub replies : out ≡ replies_of (watched says r) (reverse (take i steps))
  pub heard : told' ≡ after_hearing (executions (watched says r) (events_of r (reverse (take i steps)))) told

reverse_more : (steps : List Step) (i : ℕ) (step : Step) → i < length steps → step ≡ get_or steps i step →
    reverse (take (i + 1) steps) ≡ step ∷ reverse (take i steps)
reverse_more steps i step low is = ap reverse (take_more steps i step low) ∙ reverse-append (take i steps) (get_or steps i step ∷ [])
    ∙ ap (λ (s : Step). s ∷ reverse (take i steps)) (sym is)

module _ (says : Key → Text → Bool) (r : Registered) (steps : List Step) (first : Told) where
  abbrev v : View
  v = watched says r

  abbrev at : ℕ → List Event
  at i = events_of r (reverse (take i steps))

  pub playing_begin : (player : Player) → next_row player.table ≡ None → HasPlayed v [] player → Playing says r steps 0 player [] first first
  playing_begin player rest played = record { rest = rest; played = played; replies = refl; heard = heard_nothing first }

  pub playing_next : (i : ℕ) (step : Step) (old new : Player) (text text' : Text) (told told' : Told) → i < length steps → step ≡ get_or steps i step
      → Playing says r steps i old text first told → Plays says step old new text text' told told' → Playing says r steps (i + 1) new text' first told'
  playing_next i step old new text text' told told' low is playing plays =
      let past : List Step = reverse (take i steps) in
      let more : step ∷ past ≡ reverse (take (i + 1) steps) = sym (reverse_more steps i step low is) in
      let added : List ℕ = drop (length (log_of v (at i))) (log_of v (events_of r (step ∷ past))) in
      record {
        rest = plays.rest;
        played = subst (λ (past : List Step). HasPlayed v past new) more (plays.played r past playing.played);
        replies = plays.text r past playing.played ∙ ap (λ (before : Text). before ++ reply_to v (events_of r past) step) playing.replies
            ∙ ap (replies_of v) more;
        heard = plays.heard r past playing.played
            ∙ ap (after_hearing (executions_of v (events_of r (step ∷ past)) added)) playing.heard
            ∙ heard_more (executions v (at i)) (executions_of v (events_of r (step ∷ past)) added) first
            ∙ ap (λ (xs : List (Key × Text)). after_hearing xs first)
            (sym (executions_added v (event_of r step) (at i) added (grown v (event_of r step) (at i))))
            ∙ ap (λ (past : List Step). after_hearing (executions v (events_of r past)) first) more;
      }

  pub playing_all : (i : ℕ) (player : Player) (text : Text) (told : Told) → length steps ≤ i → Playing says r steps i player text first told
      → HasPlayed v (reverse steps) player × (text ≡ replies_of v (reverse steps))
      × (told ≡ after_hearing (executions v (events_of r (reverse steps))) first)
  playing_all i player text told high playing =
      let all : take i steps ≡ steps = take_all i steps high in (
        subst (λ (steps : List Step). HasPlayed v (reverse steps) player) all playing.played,
        playing.replies ∙ ap (λ (steps : List Step). replies_of v (reverse steps)) all,
        playing.heard ∙ ap (λ (steps : List Step). after_hearing (executions v (events_of r (reverse steps))) first) all,
      )

  -- ---- where memory ran out

  reverse_split : (i : ℕ) (step : Step) → i < length steps → step ≡ get_or steps i step →
      reverse steps ≡ reverse (drop (i + 1) steps) ++ step ∷ reverse (take i steps)
  reverse_split i step low is =
      ap reverse (sym (take-append-drop (i + 1) steps)) ∙ reverse-append (take (i + 1) steps) (drop (i + 1) steps)
      ∙ ap (λ (past : List Step). reverse (drop (i + 1) steps) ++ past) (reverse_more steps i step low is)

  pub playing_stops : (i : ℕ) (step : Step) (old : Player) (text : Text) (told told' : Told) → i < length steps → step ≡ get_or steps i step
      → Playing says r steps i old text first told → StopsStep says step old told told'
      → HearsFront (executions v (events_of r (reverse steps))) first told'
  playing_stops i step old text told told' low is playing halts =
      let past : List Step = reverse (take i steps) in
      let later : List Event = events_of r (reverse (drop (i + 1) steps)) in
      let split : events_of r (reverse steps) ≡ later ++ event_of r step ∷ at i =
      ap (events_of r) (reverse_split i step low is) ∙ map-append (event_of r) (reverse (drop (i + 1) steps)) (step ∷ past) in
      subst (λ (events : List Event). HearsFront (executions v events) first told') (sym split)
      (front_heard v (event_of r step) (at i) later first told told' playing.heard (halts r past playing.played))

  pub playing_ends : (i : ℕ) (player : Player) (text : Text) (told : Told) → length steps ≤ i → Playing says r steps i player text first told
      → HearsFront (executions v (events_of r (reverse steps))) first told
  playing_ends i player text told high playing =
      all_heard v (events_of r (reverse steps)) first told (playing_all i player text told high playing).2
