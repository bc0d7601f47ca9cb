-- The answer to one request over a wiki with a history, and the history that the request leaves.
use Rattle.std.specs.Prelude.{◌≡◌, ◌≢◌, ℕ, ◌+◌, ◌⊎◌, ◌++◌, ◌∷◌, [], List, length, codes, Option, Some, None, Result, Ok, Err}
use Rattle.rl_names.specs.Title.{title_of}
use Rattle.rl_names.specs.Query.{last_value}
use Rattle.rl_defs.specs.Catalogue.{Catalogue}
use Rattle.rl_pages.specs.declared.entry.Entry.{Entry}
use Rattle.rl_pages.specs.declared.viewer.Viewer.{Viewer}
use Rattle.rl_pages.specs.declared.refusals.EditError.{EditError}
use Rattle.rl_pages.specs.declared.refusals.ChoiceError.{ChoiceError}
use Rattle.rl_pages.specs.History.{revision_of}
use Rattle.rl_pages.specs.Refusals.{checked_edit, checked_choice}
use Rattle.rl_loadphp.specs.Refusal as loading
use Rattle.rl_loadphp.specs.declared.answers.Answer.{Answer}
use Rattle.rl_wiki.specs.declared.error.DeskEditError.{DeskEditError}
use Rattle.rl_wiki.specs.declared.error.DeskEditError.TheVariants as edits
use Rattle.rl_wiki.specs.declared.error.DeskChoiceError.{DeskChoiceError}
use Rattle.rl_wiki.specs.declared.error.DeskChoiceError.TheVariants as choices
use Rattle.rl_wiki.specs.Desk.{edit_error, choice_error}
use Rattle.rl_wiki.specs.Front.{wiki_answer}
use Rattle.rl_http.specs.declared.refusals.Refusal.{Refusal}
use Rattle.rl_http.specs.declared.refusals.Refusal.TheVariants.{BadRequest, NotAllowed, NotFound, BadMethod, Conflict, TooLarge, Unavailable}
use Rattle.rl_http.specs.declared.routes.Route.{Route}
use Rattle.rl_http.specs.declared.routes.Route.TheVariants as route
use Rattle.rl_http.specs.declared.heads.Head.{Head}
use Rattle.rl_http.specs.Answers.{refused_text, revision_text, loaded_text}
use Rattle.rl_http.specs.Forms.{base_of}
use Rattle.rl_http.specs.Heads.{viewer_named}
use Rattle.rl_http.specs.Routes.{route_to, target_parts}

-- why an edit or a choice makes no entry, as it is answered; no check refuses for want of memory
abbrev pub refusal_of_edit : DeskEditError → Refusal
refusal_of_edit edits.BadTitle = BadRequest
refusal_of_edit edits.NotAllowed = NotAllowed
refusal_of_edit (edits.Conflict current) = Conflict current
refusal_of_edit (edits.TextTooLong len) = TooLarge
refusal_of_edit (edits.Full entries bytes) = TooLarge
refusal_of_edit edits.Failed = Unavailable
refusal_of_edit edits.NoMemory = Unavailable

abbrev pub refusal_of_choice : DeskChoiceError → Refusal
refusal_of_choice choices.NotAllowed = NotAllowed
refusal_of_choice choices.BadKey = BadRequest
refusal_of_choice (choices.TextTooLong len) = TooLarge
refusal_of_choice (choices.Full entries bytes) = TooLarge
refusal_of_choice choices.Failed = Unavailable
refusal_of_choice choices.NoMemory = Unavailable

-- what a request makes: an entry or why there is none
abbrev pub made_edit : Result Entry EditError → Result Entry Refusal
made_edit (Ok entry) = Ok entry
made_edit (Err e) = Err (refusal_of_edit (edit_error e))

abbrev pub made_choice : Result Entry ChoiceError → Result Entry Refusal
made_choice (Ok entry) = Ok entry
made_choice (Err e) = Err (refusal_of_choice (choice_error e))

-- a form without a base, or with a bad one, is refused before all else
abbrev pub edit_asked : List (List ℕ) → List Entry → Viewer → List ℕ → Option ℕ → Result Entry Refusal
edit_asked admins entries viewer form None = Err BadRequest
edit_asked admins entries viewer form (Some base) =
    made_edit (checked_edit admins entries viewer (last_value form (codes "title")) base (last_value form (codes "text")))

abbrev pub choice_asked : List Entry → Viewer → List ℕ → Result Entry Refusal
choice_asked entries viewer form =
    made_choice (checked_choice entries viewer (last_value form (codes "key")) (last_value form (codes "value")))

-- a text, and the entries afterwards
pub record Reply : Type 0 where
  pub text : List ℕ
  pub entries : List Entry

abbrev pub read_only : List Entry → List ℕ → Reply
read_only entries text = record { text = text; entries = entries }

-- an entry that is accepted is answered by its number
abbrev pub kept : List Entry → Result Entry Refusal → Reply
kept entries (Ok entry) = record { text = revision_text (length entries + 1); entries = entries ++ entry ∷ [] }
kept entries (Err refusal) = read_only entries (refused_text refusal)

abbrev pub load_text : Result Answer loading.Refusal → List ℕ
load_text (Ok answer) = loaded_text answer
load_text (Err e) = refused_text BadRequest

abbrev pub revision_asked : List Entry → Option (List ℕ) → List ℕ
revision_asked entries None = refused_text BadRequest
revision_asked entries (Some title) = revision_text (revision_of entries title)

abbrev pub reply_by : Route → Catalogue → List Entry → Viewer → List ℕ → List ℕ → Reply
reply_by route.Load catalogue entries viewer query body = read_only entries (load_text (wiki_answer catalogue entries viewer query))
reply_by route.Edit catalogue entries viewer query body =
    kept entries (edit_asked catalogue.admins entries viewer body (base_of (last_value body (codes "base"))))
reply_by route.Choice catalogue entries viewer query body = kept entries (choice_asked entries viewer body)
reply_by route.Revision catalogue entries viewer query body =
    read_only entries (revision_asked entries (title_of (last_value query (codes "title"))))
reply_by route.NotFound catalogue entries viewer query body = read_only entries (refused_text NotFound)
reply_by route.NotAllowed catalogue entries viewer query body = read_only entries (refused_text BadMethod)

-- the answer to a request
abbrev pub http_reply : Catalogue → List Entry → Head → List ℕ → Reply
http_reply catalogue entries head body =
    reply_by (route_to head.method head.target) catalogue entries (viewer_named head.viewer) (target_parts head.target).1 body

-- Replied before faults text after: the text answers the request, and these entries stand afterwards; or the keeper failed
-- at an entry that is accepted, and all is as before.
abbrev pub Unkept : List Entry → Type 0 → Reply → List ℕ → List Entry → Type 0
Unkept entries rose reply text after = rose × (reply.entries ≢ entries) × (text ≡ refused_text Unavailable) × (after ≡ entries)

abbrev pub Replies : List Entry → Type 0 → Reply → List ℕ → List Entry → Type 0
Replies entries rose reply text after =
    ((text ≡ reply.text) × (after ≡ reply.entries)) ⊎ Unkept entries rose reply text after
