-- What holds of every session, whatever its steps and their order.
use Rattle.std.specs.List.{AllByRecursion}
use Rattle.rl_names.specs.declared.part.Message.{Message}
use Rattle.rl_wire.specs.declared.part.Part.TheVariants.{Impl}
use Rattle.rl_book_spec.specs.Traffic.{traffic_of}
use Rattle.rl_book_spec.specs.declared.Call.{Call}
use Rattle.rl_book_spec.specs.declared.Sent.{Sent}
use Rattle.rl_steps.specs.declared.step.Step.TheVariants.{View}
use Rattle.std.specs.Prelude.{⊤, IsUtf8, ◌≡◌, ◌++◌, List, Contains, IsTrue, map, option_map, option_to_list, slice_get, Option, Some, Ok, ℕ}
use Rattle.rl_defs.specs.Catalogue.{Catalogue, IsCatalogue}
use Rattle.rl_build.specs.Sight.{Sight, sight}
use Rattle.rl_build.specs.declared.context.Context.{Context}
use Rattle.rl_pages.specs.declared.entry.Entry.{Entry}
use Rattle.rl_pages.specs.declared.viewer.Viewer.{Viewer}
use Rattle.rl_wire.specs.declared.part.Part.{Part}
use Rattle.rl_wire.specs.Reading.{answer_of}
use Rattle.rl_wiki.specs.Front.{wiki_answer}
use Rattle.rl_names.specs.Name.{key_text}
use Rattle.rl_names.specs.declared.row.Row.{Row}
use Rattle.rl_book_spec.specs.Closing.{key_bytes, wire_of}
use Rattle.rl_book_spec.specs.Laws.{IsOfKey}
use Rattle.rl_book_spec.specs.declared.Stored.{Stored}
use Rattle.rl_book_spec.specs.Given.{given_to}
use Rattle.rl_book_spec.specs.Opening.{part_of}
use Rattle.rl_book_spec.specs.Opening.{answer_of as said_of}
use Rattle.rl_book_spec.specs.declared.Origin.{Origin}
use Rattle.rl_book_spec.specs.declared.Mark.{Mark}
use Rattle.rl_book_spec.specs.declared.Origin.TheVariants as origin
use Rattle.rl_loadphp.specs.Body.{implementation_of, implementations}
use Rattle.rl_loadphp.specs.Embed.{private_names}
use Rattle.rl_startup.specs.Registry.{start_of}
use Rattle.rl_view_spec.specs.Closure.{Text, row_of}
use Rattle.rl_view_spec.specs.Headline.{ReadyWhereGood, RunsOnceAndAfter}
use Rattle.rl_view_spec.specs.Progress.{name_at}
use Rattle.rl_view_spec.specs.View.{Throws, Implementation, is_touched, log_of}
use Rattle.rl_steps.specs.declared.step.Step.{Step}
use Rattle.rl_stage_spec.specs.Replies.{events_in, view_in}
use Rattle.rl_stage_spec.specs.Session.{Session, Viewed, Wired, base_of, body_of, session_of, vary_of}
use Rattle.rl_stage_spec.specs.Shared.{HasSkins}

-- all views of a session, by number
abbrev pub views_of : Session → List Viewed
views_of s = map (λ e. e.view) s.ended ++ option_to_list s.current

-- ---- once and after, and ready exactly where all is good

-- No module of a view runs twice, and each runs after all else that it needs. A touched name is ready exactly where all of
-- its closure is good.
pub record ViewHolds (throws : Throws) (v : Viewed) : Type 0 where
  pub runs : RunsOnceAndAfter (view_in throws v) (events_in v)
  pub ready : (name : Text) → IsTrue (is_touched (view_in throws v) (events_in v) name) → ReadyWhereGood (view_in throws v) (events_in v) name

abbrev pub SessionsHold : Type 0
SessionsHold =
    (throws : Throws) (c : Catalogue) (past : List Step) → IsCatalogue c → (v : Viewed) → Contains (views_of (session_of throws c past)) v
    → ViewHolds throws v

-- ---- built

-- what the wiki of this history builds of a module for a viewer, in a context: all that the module brings, under the hash of that
abbrev pub IsBuilt : Catalogue → List Entry → Viewer → Context → Part → Type 0
IsBuilt c entries viewer ctx part = (name : Text) × (implementation_of (sight c entries viewer) ctx name ≡ Some part)

-- each row of a view that executed was given an implementation, embedded, by an answer or from the store: of such parts the
-- statements below speak
abbrev pub RunsAreGiven : Type 0
RunsAreGiven =
    (throws : Throws) (c : Catalogue) (past : List Step) → IsCatalogue c → (v : Viewed) → Contains (views_of (session_of throws c past)) v
    → (row : ℕ) → Contains (log_of (view_in throws v) (events_in v)) row
    → (given : Part × Origin) × (version script : Text)
    × (given_to v.opening v.past (name_at v.opening.registered row) ≡ Some given) × (said_of given.0 ≡ Implementation version script)

-- a part that was embedded in a page was built when the view was opened
abbrev pub EmbeddedIsBuilt : Type 0
EmbeddedIsBuilt =
    (throws : Throws) (c : Catalogue) (past : List Step) (v : Viewed) → Contains (views_of (session_of throws c past)) v
    → (name : Text) (part : Part) → given_to v.opening v.past name ≡ Some (part, origin.Embedded) → IsBuilt c v.entries v.viewer v.context part

-- A part that a view of this number was given by an answer: the wiki made the answer for an ask of that very view, which is for
-- one of its batches, of what the wiki was then, for the view's viewer, and the part is the first of its name that stands there.
pub record CameBy (s : Session) (number : ℕ) (v : Viewed) (name : Text) (part : Part) (mark : Mark) : Type 0 where
  pub wire : Wired
  pub kept : slice_get s.wires mark.answer ≡ Some wire
  pub own : wire.ask.view ≡ number
  pub viewer : wire.ask.viewer ≡ v.viewer
  pub asked : List Call
  pub batch : ℕ
  pub sent : Sent
  pub waited : slice_get (traffic_of v.opening asked).batches batch ≡ Some sent
  pub query : wire.ask.query ≡ sent.batch.query
  pub text : wire.text ≡ body_of (wiki_answer s.catalogue wire.entries v.viewer wire.ask.query)
  pub parts : List Part
  pub read : answer_of wire.text ≡ Ok parts
  pub stands : part_of parts name ≡ Some part

abbrev pub PartsComeByAnswers : Type 0
PartsComeByAnswers =
    (throws : Throws) (c : Catalogue) (past : List Step) (number : ℕ) (v : Viewed)
    → slice_get (views_of (session_of throws c past)) number ≡ Some v
    → (name : Text) (part : Part) (mark : Mark) → given_to v.opening v.past name ≡ Some (part, origin.Wire mark)
    → CameBy (session_of throws c past) number v name part mark

-- the texts of a step that opens a view are UTF-8, as all texts of scripts are
abbrev pub OpensWithTexts : Step → Type 0
OpensWithTexts (View user lang skin debug features) = IsUtf8 user × IsUtf8 lang × IsUtf8 skin
OpensWithTexts other = ⊤

-- A part that an answer gave was built for the view's viewer and context when the wiki made that answer, which is one to an ask
-- of this view.
pub record IsServed (s : Session) (number : ℕ) (v : Viewed) (part : Part) (mark : Mark) : Type 0 where
  pub wire : Wired
  pub kept : slice_get s.wires mark.answer ≡ Some wire
  pub own : wire.ask.view ≡ number
  pub viewer : wire.ask.viewer ≡ v.viewer
  pub built : IsBuilt s.catalogue wire.entries v.viewer v.context part

abbrev pub ServedIsBuilt : Type 0
ServedIsBuilt =
    (throws : Throws) (c : Catalogue) (past : List Step) → IsCatalogue c → AllByRecursion OpensWithTexts past → (number : ℕ) (v : Viewed)
    → slice_get (views_of (session_of throws c past)) number ≡ Some v
    → (name found version script styles : Text) (messages : List Message) (mark : Mark)
    → given_to v.opening v.past name ≡ Some (Impl found version script styles messages, origin.Wire mark)
    → IsServed (session_of throws c past) number v (Impl found version script styles messages) mark

-- A part that a view took from the store was built when the wiki made the answer whose number the store kept with it. It was
-- made for the viewer of that answer's ask, in a context for which the same is stored, and this is what the wiki built then for
-- the view's own viewer and context too. Its key is that of the row.
pub record WasStored (s : Session) (v : Viewed) (name : Text) (part : Part) (kept_number : Option ℕ) : Type 0 where
  pub wire : Wired
  pub mark : Mark
  pub kept : slice_get s.wires mark.answer ≡ Some wire
  pub number_is : kept_number ≡ wire_of mark
  pub context : Context
  pub alike : vary_of s.catalogue context ≡ vary_of s.catalogue v.context
  pub made : IsBuilt s.catalogue wire.entries wire.ask.viewer context part
  pub built : IsBuilt s.catalogue wire.entries v.viewer v.context part
  pub stored : Stored
  pub part_is : stored.part ≡ part
  pub of_key : IsOfKey stored
  pub row : Row
  pub named : row_of v.opening.registered name ≡ Some row
  pub row_key : option_map (key_text row.name) row.version ≡ Some (key_bytes stored.key)

abbrev pub StoredIsBuilt : Type 0
StoredIsBuilt =
    (throws : Throws) (c : Catalogue) (past : List Step) → IsCatalogue c → HasSkins c → AllByRecursion OpensWithTexts past → (v : Viewed)
    → Contains (views_of (session_of throws c past)) v
    → (name : Text) (part : Part) (number : Option ℕ) → given_to v.opening v.past name ≡ Some (part, origin.Stored number)
    → WasStored (session_of throws c past) v name part number

-- ---- what views are opened over

-- the wiki as it was when a view was opened, to the view's viewer
abbrev pub seen_at_view : Catalogue → Viewed → Sight
seen_at_view c v = sight c v.entries v.viewer

-- the rows and the embedded parts of a view are the wiki's for its viewer and context, and its queries tell these
pub record IsOver (c : Catalogue) (v : Viewed) : Type 0 where
  pub rows : v.opening.registered.rows ≡ (start_of (seen_at_view c v) v.context).rows
  pub embedded : v.opening.embedded ≡ implementations (seen_at_view c v) v.context (private_names (seen_at_view c v) v.context)
  pub base : v.opening.base ≡ base_of v.viewer v.context

abbrev pub ViewsAreOver : Type 0
ViewsAreOver =
    (throws : Throws) (c : Catalogue) (past : List Step) (v : Viewed) → Contains (views_of (session_of throws c past)) v → IsOver c v
