-- A session of both ends: one wiki, the views of it one after another, what goes between them, and the store that stays.
use Rattle.std.specs.Prelude.{ℕ, ◌==◌, ◌&&◌, ◌++◌, ◌∷◌, [], List, Bool, if◌then◌else◌, codes, decimal, false, is_none, is_some, length}
use Rattle.std.specs.Prelude.{option_and_then, option_map, option_to_list, slice_get, Option, Some, None, Result, Ok, Err}
use Rattle.std.specs.Option.{option_map_or}
use Rattle.rl_names.specs.declared.query.Only.TheVariants as only
use Rattle.rl_names.specs.declared.query.Query.{Query}
use Rattle.rl_defs.specs.Catalogue.{Catalogue}
use Rattle.rl_pages.specs.Refusals.{checked_choice, checked_edit, name_of}
use Rattle.rl_pages.specs.declared.entry.Entry.{Entry}
use Rattle.rl_pages.specs.declared.refusals.ChoiceError.{ChoiceError}
use Rattle.rl_pages.specs.declared.refusals.EditError.{EditError}
use Rattle.rl_pages.specs.declared.viewer.Viewer.{Viewer}
use Rattle.rl_pages.specs.declared.viewer.Viewer.TheVariants.{Anon, User}
use Rattle.rl_build.specs.Context.{context_of}
use Rattle.rl_build.specs.Sight.{Sight, sight}
use Rattle.rl_build.specs.declared.context.Context.{Context}
use Rattle.rl_loadphp.specs.Body.{implementations}
use Rattle.rl_loadphp.specs.Embed.{private_names}
use Rattle.rl_loadphp.specs.Refusal.{Refusal}
use Rattle.rl_loadphp.specs.declared.answers.Answer.{Answer}
use Rattle.rl_startup.specs.Registry.{start_of}
use Rattle.rl_wiki.specs.Front.{wiki_answer}
use Rattle.rl_view_spec.specs.Closure.{Text, refusal_of}
use Rattle.rl_view_spec.specs.View.{Throws}
use Rattle.rl_book_spec.specs.Closing.{age_at, stored_after}
use Rattle.rl_book_spec.specs.Opening.{Opening}
use Rattle.rl_book_spec.specs.Traffic.{Traffic, asked_of, may_be_lost, traffic_of, waiting_of}
use Rattle.rl_book_spec.specs.declared.Call.{Call}
use Rattle.rl_book_spec.specs.declared.Call.TheVariants as calls
use Rattle.rl_book_spec.specs.declared.Sent.{Sent}
use Rattle.rl_store.specs.Stock.{Stock, fitted, note_of, nothing_for}
use Rattle.rl_steps.specs.declared.step.Step.{Step}
use Rattle.rl_steps.specs.declared.step.Step.TheVariants.{Edit, Choice, Clock, View, Using, Load, Take, Serve, Deliver, Lose, Close, Embed}

-- ---- what a session keeps

-- A view: who views and how, the wiki's history when it was opened, what it was opened over, and its calls, the newest first.
pub record Viewed : Type 0 where
  pub viewer : Viewer
  pub context : Context
  pub entries : List Entry
  pub opening : Opening
  pub past : List Call

-- a view that was closed, and the store that it left
pub record Ended : Type 0 where
  pub view : Viewed
  pub left : Stock

-- An ask: the number of its view, its own number in that view, who views, and what it asks.
pub record Asking : Type 0 where
  pub view : ℕ
  pub number : ℕ
  pub viewer : Viewer
  pub query : Text

-- An answer of the wiki: the ask that it is for, its text, and the wiki's history when it was made.
pub record Wired : Type 0 where
  pub ask : Asking
  pub text : Text
  pub entries : List Entry

-- The definitions and the history of the wiki, the moment of the clock, the views that were closed, by number, and after
-- them the one that is open, all asks and all answers by number, and the store.
pub record Session : Type 0 where
  pub catalogue : Catalogue
  pub entries : List Entry
  pub clock : ℕ
  pub ended : List Ended
  pub current : Option Viewed
  pub asks : List Asking
  pub wires : List Wired
  pub store : Stock

-- a wiki without history, at the moment 0, and an empty store
abbrev pub started : Catalogue → Session
started c = record {
  catalogue = c;
  entries = [];
  clock = 0;
  ended = [];
  current = None;
  asks = [];
  wires = [];
  store = nothing_for [];
}

-- ---- the wiki

-- the viewer that a step names; the empty text is nobody
abbrev pub viewer_by : Text → Viewer
viewer_by [] = Anon
viewer_by (byte ∷ bytes) = User (byte ∷ bytes)

abbrev pub edit_by : Session → Text → Text → ℕ → Text → Result Entry EditError
edit_by s by title base text = checked_edit s.catalogue.admins s.entries (viewer_by by) title base text

abbrev pub choice_by : Session → Text → Text → Text → Result Entry ChoiceError
choice_by s user key value = checked_choice s.entries (viewer_by user) key value

-- an entry that is accepted is the newest of the history
abbrev pub with_entry : {E : Type 0} → Result Entry E → Session → Session
with_entry (Ok entry) s = record s { entries = s.entries ++ entry ∷ [] }
with_entry (Err refusal) s = s

-- ---- the end of a view

-- the store after a view that ends at a moment: in debug it stays as it is
abbrev pub store_after : Throws → ℕ → Viewed → Stock → Stock
store_after throws now v store =
    if v.opening.base.debug then store
    else record { vary = store.vary; as_of = age_at now; pairs = stored_after throws v.opening v.past }

abbrev pub ending : Throws → Session → Viewed → Session
ending throws s v =
    let left = store_after throws s.clock v s.store in
    record s { ended = s.ended ++ record { view = v; left = left } ∷ []; current = None; store = left }

-- the open view ends at the moment of the clock, if there is one
abbrev pub closed : Throws → Session → Session
closed throws s = option_map_or (ending throws s) s.current s

-- ---- a new view

-- what is stored fits the skin, the definitions' store version and the language
abbrev pub vary_of : Catalogue → Context → Text
vary_of c ctx = ctx.skin ++ codes "|" ++ decimal c.store_version ++ codes "|" ++ ctx.lang

-- the store as a new view finds it: in debug as it is, and else where it is for this and fresh
abbrev pub store_for : Session → Context → Stock
store_for s ctx =
    let vary = vary_of s.catalogue ctx in
    if ctx.debug then s.store else fitted (note_of s.store vary s.clock) s.store vary

-- each query of a view tells its language and skin, and whether it is in debug; the user is its viewer
abbrev pub base_of : Viewer → Context → Query
base_of viewer ctx = record {
  modules = [];
  lang = ctx.lang;
  skin = ctx.skin;
  debug = ctx.debug;
  only = only.All;
  user = name_of viewer;
  version = [];
}

-- A view is opened over the rows that the wiki's startup text has for its viewer, and over the private modules, which are
-- embedded; both as the wiki is when it is opened.
abbrev pub opening_over : Sight → Context → List Text → Stock → Opening
opening_over seen ctx features store = record {
  registered = record { rows = (start_of seen ctx).rows; features = features };
  embedded = implementations seen ctx (private_names seen ctx);
  base = base_of seen.history.viewer ctx;
  limit = seen.catalogue.limit;
  stored = store.pairs;
}

abbrev pub view_over : Session → Viewer → Context → List Text → Viewed
view_over s viewer ctx features = record {
  viewer = viewer;
  context = ctx;
  entries = s.entries;
  opening = opening_over (sight s.catalogue s.entries viewer) ctx features (store_for s ctx);
  past = [];
}

-- where no view is open
abbrev pub opened : Viewer → Context → List Text → Session → Session
opened viewer ctx features s = record s { current = Some (view_over s viewer ctx features); store = store_for s ctx }

-- ---- what the open view is asked to do

abbrev pub with_call : Call → Session → Session
with_call call s = record s { current = option_map (λ (v : Viewed). record v { past = call ∷ v.past }) s.current }

-- all names are requested together, or none is
abbrev pub using_by : List Text → Session → Viewed → Session
using_by names s v = if is_none (refusal_of v.opening.registered names) then with_call (calls.Using names) s else s

abbrev pub traffic_in : Viewed → Traffic
traffic_in v = traffic_of v.opening v.past

-- the batch that waits first
abbrev pub first_waiting : Viewed → Option Sent
first_waiting v = option_and_then (λ sent. sent) (slice_get (waiting_of v.opening v.past) 0)

-- the next ask of the view is for that batch
abbrev pub asking_by : Session → Viewed → Sent → Asking
asking_by s v sent = record {
  view = length s.ended;
  number = length (traffic_in v).asks;
  viewer = v.viewer;
  query = sent.batch.query;
}

abbrev pub taking : Session → Viewed → Session
taking s v = with_call calls.Take (record s { asks = s.asks ++ option_to_list (option_map (asking_by s v) (first_waiting v)) })

-- ---- asks and answers

-- the open view asked this
abbrev pub is_current : Session → Asking → Bool
is_current s ask = is_some s.current && (ask.view == length s.ended)

-- the text of an answer; the queries of views are never refused
abbrev pub body_of : Result Answer Refusal → Text
body_of (Ok answer) = answer.body
body_of (Err refusal) = []

-- the wiki answers an ask as it is now, whether its view is open or not
abbrev pub wire_for : Session → Asking → Wired
wire_for s ask = record {
  ask = ask;
  text = body_of (wiki_answer s.catalogue s.entries ask.viewer ask.query);
  entries = s.entries;
}

abbrev pub serving : Session → Asking → Session
serving s ask = record s { wires = s.wires ++ wire_for s ask ∷ [] }

-- an answer comes to its ask; its mark has the answer's number
abbrev pub delivery_of : ℕ → Wired → Call
delivery_of number wire = calls.Deliver wire.ask.number wire.text (record { link = 0; answer = number })

-- what comes to a view that was closed changes nothing
abbrev pub delivering : ℕ → Session → Wired → Session
delivering number s wire = if is_current s wire.ask then with_call (delivery_of number wire) s else s

-- an ask of the open view may be lost once, while its batch is not settled
abbrev pub may_lose : Viewed → Asking → Bool
may_lose v ask = option_map_or may_be_lost (asked_of (traffic_in v) ask.number) false

abbrev pub losing_by : Session → Asking → Viewed → Session
losing_by s ask v = if is_current s ask && may_lose v ask then with_call (calls.Lose ask.number None) s else s

abbrev pub losing : Session → Asking → Session
losing s ask = option_map_or (losing_by s ask) s.current s

-- ---- steps

-- What a step makes of a session. A step of a view does nothing where none is open, and a number without an ask or an answer
-- does nothing.
abbrev pub session_after : Throws → Session → Step → Session
session_after throws s (Edit by title base text) = with_entry (edit_by s by title base text) s
session_after throws s (Choice user key value) = with_entry (choice_by s user key value) s
session_after throws s (Clock now) = record s { clock = now }
session_after throws s (View user lang skin debug features) =
    opened (viewer_by user) (context_of s.catalogue lang skin debug) features (closed throws s)
session_after throws s (Using names) = option_map_or (using_by names s) s.current s
session_after throws s (Load names) = with_call (calls.Load names) s
session_after throws s Take = option_map_or (taking s) s.current s
session_after throws s (Serve ask) = option_map_or (serving s) (slice_get s.asks ask) s
session_after throws s (Deliver wire) = option_map_or (delivering wire s) (slice_get s.wires wire) s
session_after throws s (Lose ask) = option_map_or (losing s) (slice_get s.asks ask) s
session_after throws s Close = closed throws s
session_after throws s (Embed text) = s

-- the session after steps, of which the newest stands first
abbrev pub session_of : Throws → Catalogue → List Step → Session
session_of throws c [] = started c
session_of throws c (step ∷ past) = session_after throws (session_of throws c past) step
