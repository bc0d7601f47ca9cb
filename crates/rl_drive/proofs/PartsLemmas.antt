-- What a part does to a player.
use Rattle.std.proofs.Common.{◌≡◌, ℕ, List, ◌∷◌, ◌++◌, [], Bool, false, Option, Some, None, refl, ap, sym, ◌∙◌}
use Rattle.std.specs.Prelude.{codes, is_some, slice_set}
use Rattle.rl_names.specs.declared.kind.StateKind.{StateKind}
use Rattle.rl_names.specs.declared.kind.StateKind.TheVariants as kinds
use Rattle.rl_names.specs.declared.name.Key.{Key}
use Rattle.rl_view_spec.specs.declared.Outcome.TheVariants as outcome
use Rattle.rl_view_spec.specs.Closure.{Text}
use Rattle.rl_view_spec.specs.Keys.{counts}
use Rattle.rl_view_spec.specs.View.{View, Event, Answer, Implementation, kind_of, log_of}
use Rattle.rl_registry.specs.Rows.{with_version}
use Rattle.rl_script_spec.specs.Output.{answer_of, events_of, line, part_line}
use Rattle.rl_script_spec.specs.declared.Step.{Step}
use Rattle.rl_script_spec.specs.declared.Step.TheVariants.{Impl, State}
use Rattle.rl_script_spec.proofs.OrderLemmas.{steps_lawful}
use Rattle.rl_states.specs.Changes.{after_outcome}
use Rattle.rl_view_spec.proofs.PlacesLemmas.{name_there}
use Rattle.rl_view.specs.Heard.{execution_of}
use Rattle.rl_view.specs.Seen.{after_answer, asks, counting_row, with_answer}
use Rattle.rl_view.proofs.AnswersLemmas.{Counting, counting, counting_alike, outcomes_passed, outcomes_plain, seen_passed, seen_used, set_used}
use Rattle.rl_drive.specs.Given.{given_in}
use Rattle.rl_drive.specs.Player.{HasPlayed, IsDue, TakesIn, held}
use Rattle.rl_drive.specs.declared.player.Player.{Player}
use Rattle.rl_drive.proofs.GivenLemmas.{given_alike, hearing}
use Rattle.rl_drive.proofs.TakingLemmas.{due_begin}

-- a part and the reply to it
record TakesPart (name : Text) (answer : Answer) (old new : Player) (out out' : Text) : Type 0 where
  event : (v : View) (past : List Step) → HasPlayed v past old → IsDue v (with_answer name answer (asks [])) (events_of v.registered past) new
  reply : (v : View) (past : List Step) → HasPlayed v past old → out' ≡ out ++ line (part_line (counts v (events_of v.registered past) name))

counts_as : (v : View) (past : List Step) (name : Text) (old : Player) → HasPlayed v past old →
    is_some (counting_row old.table name) ≡ counts v (events_of v.registered past) name
counts_as v past name old played =
    counting_alike v (events_of v.registered past) (log_of v (events_of v.registered past)) old.table name (steps_lawful v past) played.table

-- ---- passed over

part_passed : (name : Text) (answer : Answer) (old : Player) (out out' : Text) → counting_row old.table name ≡ None →
    out' ≡ out ++ line (codes "passed") → TakesPart name answer old old out out'
part_passed name answer old out out' e text = record {
  event = λ v past played.
      let due = due_begin v (events_of v.registered past) old played in
      let c : counts v (asks [] ∷ events_of v.registered past) name ≡ false =
      sym (counting_alike v (asks [] ∷ events_of v.registered past) (log_of v (events_of v.registered past)) old.table name (refl, steps_lawful v past)
      due.table) ∙ ap is_some e in
      record {
        table = seen_passed v name answer (asks []) (events_of v.registered past) old.table due.table c;
        given = due.given ∙ sym (given_alike v (with_answer name answer (asks []) ∷ events_of v.registered past) (asks [] ∷ events_of v.registered past)
            (outcomes_passed hearing v name answer (asks []) (events_of v.registered past) c));
      };
  reply = λ v past played. text ∙ ap (λ (b : Bool). out ++ line (part_line b)) (sym (ap is_some e) ∙ counts_as v past name old played);
}

pub give_passed : (key : Key) (script : Text) (old : Player) (out out' : Text) → counting_row old.table key.name ≡ None →
    out' ≡ out ++ line (codes "passed") → TakesIn (Impl key script) old old out out'
give_passed key script old out out' e text =
    let p : TakesPart key.name (Implementation key.version script) old old out out' =
    part_passed key.name (Implementation key.version script) old out out' e text in
    record { event = p.event; reply = p.reply }

pub settle_passed : (name : Text) (kind : StateKind) (old : Player) (out out' : Text) → counting_row old.table name ≡ None →
    out' ≡ out ++ line (codes "passed") → TakesIn (State name kind) old old out out'
settle_passed name kind old out out' e text =
    let p : TakesPart name (answer_of kind) old old out out' = part_passed name (answer_of kind) old out out' e text in
    record { event = p.event; reply = p.reply }

-- ---- used

part_used : (name : Text) (answer : Answer) (k : ℕ) (old new : Player) (out out' : Text) → counting_row old.table name ≡ Some k →
    new.table ≡ after_answer k answer old.table
    → ((v : View) (past : List Event) → IsDue v (asks []) past old → Counting v (asks [] ∷ past) name k
    → held new ≡ given_in v (with_answer name answer (asks []) ∷ past))
    → out' ≡ out ++ line (codes "used") → TakesPart name answer old new out out'
part_used name answer k old new out out' e table given text = record {
  event = λ v past played.
      let due = due_begin v (events_of v.registered past) old played in
      let c = counting v (asks [] ∷ events_of v.registered past) (log_of v (events_of v.registered past)) old.table name k due.table e in
      record {
        table = seen_used v name answer (asks []) (events_of v.registered past) k old.table new.table due.table c table;
        given = given v (events_of v.registered past) due c;
      };
  reply = λ v past played. text ∙ ap (λ (b : Bool). out ++ line (part_line b)) (sym (ap is_some e) ∙ counts_as v past name old played);
}

pub give_used : (key : Key) (script : Text) (k : ℕ) (old new : Player) (out out' : Text) → counting_row old.table key.name ≡ Some k
    → new.table ≡ record (after_outcome k outcome.Impl old.table) { registered = with_version old.table.registered k key.version }
    → held new ≡ slice_set (held old) k (Some (key, script))
    → out' ≡ out ++ line (codes "used") → TakesIn (Impl key script) old new out out'
give_used key script k old new out out' e table set text = record { event = p.event; reply = p.reply }
  where
    p : TakesPart key.name (Implementation key.version script) old new out out'
    p = part_used key.name (Implementation key.version script) k old new out out' e table
        (λ v past due c. set ∙ ap (λ (given : List (Option (Key × Text))). slice_set given k (Some (key, script))) due.given
        ∙ set_used v key.name (Implementation key.version script) (asks []) past k c due.table.distinct (λ row. execution_of row.name) (Some (key, script))
        (λ row there. ap (λ (name : Text). Some (record { name = name; version = key.version }, script)) (sym (name_there v.registered k row there)
        ∙ c.named)))
        text

pub settle_used : (name : Text) (kind : StateKind) (k : ℕ) (old new : Player) (out out' : Text) → counting_row old.table name ≡ Some k →
    new.table ≡ after_outcome k (kind_of (answer_of kind)) old.table
    → held new ≡ held old → out' ≡ out ++ line (codes "used") → TakesIn (State name kind) old new out out'
settle_used name kind k old new out out' e table same text = record { event = p.event; reply = p.reply }
  where
    no_script : (kind : StateKind) → hearing (Some (answer_of kind)) ≡ hearing None
    no_script kinds.Missing = refl
    no_script kinds.Error = refl

    no_version : (kind : StateKind) → after_outcome k (kind_of (answer_of kind)) old.table ≡ after_answer k (answer_of kind) old.table
    no_version kinds.Missing = refl
    no_version kinds.Error = refl

    p : TakesPart name (answer_of kind) old new out out'
    p = part_used name (answer_of kind) k old new out out' e (table ∙ no_version kind)
        (λ v past due c. same ∙ due.given ∙ sym (given_alike v (with_answer name (answer_of kind) (asks []) ∷ past) (asks [] ∷ past)
        (outcomes_plain hearing v name (answer_of kind) (asks []) past k c (no_script kind)))) text
