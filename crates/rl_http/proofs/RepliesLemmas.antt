-- What the desk answers to an entry gives the reply.
use Rattle.std.proofs.Common.{◌≡◌, ◌≢◌, ℕ, ◌+◌, List, [], ◌∷◌, ◌++◌, length, Result, Ok, Err, Option, Some}
use Rattle.std.proofs.Common.{None, inl, inr}
use Rattle.std.proofs.Common.{refl, ap, ◌∙◌}
use Rattle.std.specs.Prelude.{IfOk}
use Rattle.rl_names.specs.Title.{user_name_of}
use Rattle.rl_names.specs.declared.text.NoMemory.{NoMemory}
use Rattle.rl_loadphp.specs.declared.answers.Answer.{Answer}
use Rattle.rl_loadphp.specs.Refusal as loading
use Rattle.rl_pages.specs.declared.entry.Entry.{Entry}
use Rattle.rl_pages.specs.declared.refusals.EditError.{EditError}
use Rattle.rl_pages.specs.declared.refusals.ChoiceError.{ChoiceError}
use Rattle.rl_pages.specs.Viewer.{IsViewer}
use Rattle.rl_wiki.specs.declared.error.DeskEditError.{DeskEditError}
use Rattle.rl_wiki.specs.declared.error.DeskEditError.TheVariants as edits
use Rattle.rl_wiki.specs.declared.error.DeskChoiceError.{DeskChoiceError}
use Rattle.rl_wiki.specs.declared.error.DeskChoiceError.TheVariants as choices
use Rattle.rl_wiki.specs.Desk.{edit_error, choice_error, RefusesEdit, RefusesChoice}
use Rattle.rl_wiki.specs.Wiki.{Takes}
use Rattle.rl_http.specs.declared.refusals.Refusal.{Refusal}
use Rattle.rl_http.specs.declared.refusals.Refusal.TheVariants.{BadRequest, Unavailable}
use Rattle.rl_http.specs.Answers.{refused_text, revision_text}
use Rattle.rl_http.specs.Heads.{viewer_named}
use Rattle.rl_http.specs.Replies.{Replies, kept, made_edit, made_choice, refusal_of_edit, refusal_of_choice, load_text, revision_asked}

-- a name as the rule of user names gives it is a viewer's
pub named_viewer : (name : List ℕ) → user_name_of name ≡ Some name → IsViewer (viewer_named name)
named_viewer [] e = tt
named_viewer (b ∷ bs) e = e

-- a list is not itself with one more behind it
pub longer_differs : (xs : List Entry) (x : Entry) → xs ++ x ∷ [] ≢ xs
longer_differs [] x e = cc
longer_differs (y ∷ ys) x e = longer_differs ys x (cc)

module _ {rose : Type 0} (entries : List Entry) (text : List ℕ) (after : List Entry) where
  pub taken : (made : Result Entry Refusal) (entry : Entry) → made ≡ Ok entry → after ≡ entries ++ entry ∷ []
      → text ≡ revision_text (length entries + 1) → Replies entries rose (kept entries made) text after
  taken made entry e a t = rw e (inl (t, a))

  pub plain : (made : Result Entry Refusal) (refusal : Refusal) → made ≡ Err refusal → text ≡ refused_text refusal → after ≡ entries
      → Replies entries rose (kept entries made) text after
  plain made refusal e t stays = rw e (inl (t, stays))

  pub unkept : (made : Result Entry Refusal) (entry : Entry) → made ≡ Ok entry → rose → text ≡ refused_text Unavailable
      → after ≡ entries → Replies entries rose (kept entries made) text after
  unkept made entry e r t stays = rw e (inr (r, longer_differs entries entry, t, stays))

  pub edit_accepted : (number : ℕ) (checked : Result Entry EditError) → Takes number checked entries after
      → text ≡ revision_text (length entries + 1) → Replies entries rose (kept entries (made_edit checked)) text after
  edit_accepted number checked (entry, e, a, n) t = taken (made_edit checked) entry (ap made_edit e) a t

  pub edit_refused : (checked : Result Entry EditError) (why : DeskEditError) → why ≢ edits.NoMemory → RefusesEdit why checked
      → (why ≡ edits.Failed → rose) → after ≡ entries → text ≡ refused_text (refusal_of_edit why)
      → Replies entries rose (kept entries (made_edit checked)) text after
  edit_refused checked why memory refuses failed stays t = by_error why memory refuses failed t
    where
      told : (why : DeskEditError) → (refusal : EditError) × (checked ≡ Err refusal) × (why ≡ edit_error refusal)
          → text ≡ refused_text (refusal_of_edit why) → Replies entries rose (kept entries (made_edit checked)) text after
      told why (refusal, e, w) t =
          plain (made_edit checked) (refusal_of_edit (edit_error refusal)) (ap made_edit e)
          (t ∙ ap (λ (x : DeskEditError). refused_text (refusal_of_edit x)) w) stays

      by_error : (why : DeskEditError) → why ≢ edits.NoMemory → RefusesEdit why checked → (why ≡ edits.Failed → rose)
          → text ≡ refused_text (refusal_of_edit why) → Replies entries rose (kept entries (made_edit checked)) text after
      by_error edits.BadTitle m r f t = told edits.BadTitle r t
      by_error edits.NotAllowed m r f t = told edits.NotAllowed r t
      by_error (edits.Conflict current) m r f t = told (edits.Conflict current) r t
      by_error (edits.TextTooLong len) m r f t = told (edits.TextTooLong len) r t
      by_error (edits.Full n bytes) m r f t = told (edits.Full n bytes) r t
      by_error edits.Failed m (entry, e) f t = unkept (made_edit checked) entry (ap made_edit e) (f refl) t stays
      by_error edits.NoMemory m r f t = absurd (m refl)

  pub choice_accepted : (number : ℕ) (checked : Result Entry ChoiceError) → Takes number checked entries after
      → text ≡ revision_text (length entries + 1) → Replies entries rose (kept entries (made_choice checked)) text after
  choice_accepted number checked (entry, e, a, n) t = taken (made_choice checked) entry (ap made_choice e) a t

  pub choice_refused : (checked : Result Entry ChoiceError) (why : DeskChoiceError) → why ≢ choices.NoMemory → RefusesChoice why checked
      → (why ≡ choices.Failed → rose) → after ≡ entries → text ≡ refused_text (refusal_of_choice why)
      → Replies entries rose (kept entries (made_choice checked)) text after
  choice_refused checked why memory refuses failed stays t = by_error why memory refuses failed t
    where
      told : (why : DeskChoiceError) → (refusal : ChoiceError) × (checked ≡ Err refusal) × (why ≡ choice_error refusal)
          → text ≡ refused_text (refusal_of_choice why) → Replies entries rose (kept entries (made_choice checked)) text after
      told why (refusal, e, w) t =
          plain (made_choice checked) (refusal_of_choice (choice_error refusal)) (ap made_choice e)
          (t ∙ ap (λ (x : DeskChoiceError). refused_text (refusal_of_choice x)) w) stays

      by_error : (why : DeskChoiceError) → why ≢ choices.NoMemory → RefusesChoice why checked → (why ≡ choices.Failed → rose)
          → text ≡ refused_text (refusal_of_choice why) → Replies entries rose (kept entries (made_choice checked)) text after
      by_error choices.NotAllowed m r f t = told choices.NotAllowed r t
      by_error choices.BadKey m r f t = told choices.BadKey r t
      by_error (choices.TextTooLong len) m r f t = told (choices.TextTooLong len) r t
      by_error (choices.Full n bytes) m r f t = told (choices.Full n bytes) r t
      by_error choices.Failed m (entry, e) f t = unkept (made_choice checked) entry (ap made_choice e) (f refl) t stays
      by_error choices.NoMemory m r f t = absurd (m refl)

-- ---- reading

-- a refusal of load.php is a bad request
pub refused_load : (answered : Result Answer loading.Refusal) (refusal : loading.Refusal) (result : Result (List ℕ) NoMemory) → answered ≡ Err refusal
    → IfOk result (λ t. t ≡ refused_text BadRequest) → IfOk result (λ t. t ≡ load_text answered)
refused_load answered refusal result e h = rw e h

pub no_title : (entries : List Entry) (title : Option (List ℕ)) (result : Result (List ℕ) NoMemory) → title ≡ None
    → IfOk result (λ t. t ≡ refused_text BadRequest) → IfOk result (λ t. t ≡ revision_asked entries title)
no_title entries title result e h = rw e h
