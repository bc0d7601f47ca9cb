-- What a view was given by answers.
use Rattle.std.proofs.Common.{◌≡◌, ℕ, Bool, true, false, List, Option, Some, None, refl, sym, ap, ◌∙◌}
use Rattle.std.specs.Prelude.{if◌then◌else◌, Result, Ok, Err, option_and_then, option_map, slice_get}
use Rattle.std.specs.Option.{option_or}
use Rattle.rl_names.specs.declared.row.Row.{Row}
use Rattle.rl_view_spec.specs.Closure.{Text, row_of}
use Rattle.rl_view_spec.specs.Rows.{is_private}
use Rattle.rl_wiki.specs.Front.{wiki_answer}
use Rattle.rl_wire.specs.Reading as wire
use Rattle.rl_wire.specs.declared.part.Part.{Part}
use Rattle.rl_book_spec.specs.Given.{given_at_touch, given_by, given_in}
use Rattle.rl_book_spec.specs.Opening.{Opening, part_of, stored_of}
use Rattle.rl_book_spec.specs.declared.Call.{Call}
use Rattle.rl_book_spec.specs.declared.Call.TheVariants.{Using, Load, Take, Deliver, Lose}
use Rattle.rl_book_spec.specs.declared.Mark.{Mark}
use Rattle.rl_book_spec.specs.declared.Origin.{Origin}
use Rattle.rl_book_spec.specs.declared.Origin.TheVariants as origin
use Rattle.rl_book_spec.specs.declared.Stored.{Stored}
use Rattle.rl_stage_spec.specs.Headline.{CameBy, PartsComeByAnswers}
use Rattle.rl_stage_spec.specs.Session.{Session, Viewed, body_of, session_of}
use Rattle.rl_stage_spec.proofs.OriginLemmas.{from_embedded, from_store, from_there, given_by_call}
use Rattle.rl_stage_spec.proofs.WiresLemmas.{Brought, CallOk, all_among, calls_of_view}

-- the mark of what came by an answer
abbrev mark_of : Origin → Option Mark
mark_of (origin.Wire mark) = Some mark
mark_of origin.Embedded = None
mark_of (origin.Stored wire) = None

abbrev marks_of : Option (Part × Origin) → Option Mark
marks_of given = option_and_then (λ (g : Part × Origin). mark_of g.1) given

abbrev parts_given : Option (Part × Origin) → Option Part
parts_given given = option_map (λ (g : Part × Origin). g.0) given

not_at_touch : (found : Option Part) (b : Bool) (stored : Option Stored) (part : Part) (mark : Mark)
    → option_or (option_map from_embedded found) (if b then None else option_map from_store stored) ≡ Some (part, origin.Wire mark) → ⊥
not_at_touch (Some p) b stored part mark is = let no_mark : None ≡ Some mark = ap marks_of is in cc
not_at_touch None true stored part mark is = cc
not_at_touch None false None part mark is = cc
not_at_touch None false (Some s) part mark is = let no_mark : None ≡ Some mark = ap marks_of is in cc

not_touched : (o : Opening) (found : Option Row) (part : Part) (mark : Mark)
    → option_and_then (given_at_touch o) found ≡ Some (part, origin.Wire mark) → ⊥
not_touched o None part mark is = cc
not_touched o (Some row) part mark is = not_at_touch (part_of o.embedded row.name) (is_private row.group) (stored_of o row) part mark is

-- what an answer gave stands in it, and has its mark
record Given (name : Text) (read : Result (List Part) ℕ) (from mark : Mark) (part : Part) : Type 0 where
  parts : List Part
  read_is : read ≡ Ok parts
  stands : part_of parts name ≡ Some part
  mark_is : from ≡ mark

given_of : (name : Text) (read : Result (List Part) ℕ) (from mark : Mark) (part : Part)
    → given_in name read (origin.Wire from) ≡ Some (part, origin.Wire mark) → Given name read from mark part
given_of name (Err line) from mark part is = absurd (cc)
given_of name (Ok parts) from mark part is = step (part_of parts name) refl is
  where
    step : (found : Option Part) → part_of parts name ≡ found → option_map (from_there (origin.Wire from)) found ≡ Some (part, origin.Wire mark)
        → Given name (Ok parts) from mark part
    step None found e = absurd (cc)
    step (Some p) found e =
        let same_part : Some p ≡ Some part = ap parts_given e in
        let same_mark : Some from ≡ Some mark = ap marks_of e in
        record { parts = parts; read_is = refl; stands = found ∙ same_part; mark_is = cc }

module _ (s : Session) (number : ℕ) (v : Viewed) (name : Text) (part : Part) (mark : Mark) where
  came : (bytes : Text) (from : Mark) → Brought s.catalogue s.wires number v bytes from.answer
      → given_in name (wire.answer_of bytes) (origin.Wire from) ≡ Some (part, origin.Wire mark) → CameBy s number v name part mark
  came bytes from h is =
      let given = given_of name (wire.answer_of bytes) from mark part is in
      record {
        wire = h.wire;
        kept = ap (λ (m : Mark). slice_get s.wires m.answer) (sym given.mark_is) ∙ h.kept;
        own = h.own;
        viewer = h.asked.viewer_is;
        asked = h.asked.past;
        batch = h.asked.batch;
        sent = h.asked.sent;
        waited = h.asked.there;
        query = h.asked.query_is;
        text = h.said ∙ ap (λ viewer. body_of (wiki_answer s.catalogue h.wire.entries viewer h.wire.ask.query)) h.asked.viewer_is;
        parts = given.parts;
        read = ap wire.answer_of h.bytes_are ∙ given.read_is;
        stands = given.stands;
      }

  by_call : (call : Call) → CallOk s.catalogue s.wires number v call → given_by v.opening call name ≡ Some (part, origin.Wire mark)
      → CameBy s number v name part mark
  by_call (Using names) h is = absurd (not_touched v.opening (row_of v.opening.registered name) part mark is)
  by_call (Load names) h is = absurd (not_touched v.opening (row_of v.opening.registered name) part mark is)
  by_call Take h is = absurd (cc)
  by_call (Deliver ask bytes from) h is = came bytes from h is
  by_call (Lose ask from) h is = absurd (cc)

pub parts_come_by_answers : PartsComeByAnswers
parts_come_by_answers throws c past number v there name part mark is =
    let s = session_of throws c past in
    let by = given_by_call v.opening name v.past (part, origin.Wire mark) is in
    by_call s number v name part mark by.0
    (all_among (CallOk s.catalogue s.wires number v) v.past by.0 (calls_of_view throws c past number v there) by.1) by.2
