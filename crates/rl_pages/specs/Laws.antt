-- What holds of every history as entries are added.
use Rattle.std.specs.Prelude.{◌≡◌, ℕ, ◌<◌, IsTrue, false, List, [], ◌∷◌, ◌++◌, Ok}
use Rattle.rl_pages.specs.declared.viewer.Viewer.{Viewer}
use Rattle.rl_pages.specs.declared.entry.Entry.{Entry}
use Rattle.rl_pages.specs.Viewer.{IsViewer}
use Rattle.rl_pages.specs.History.{edits, page_of, revision_of, text_numbered}
use Rattle.rl_pages.specs.Refusals.{checked_edit, checked_choice, checked_kept, IsAccepted}

pub record HistoryLaws : Type 0 where
  -- an edit is a later revision of its page than any before it
  pub rises : (entries : List Entry) (entry : Entry) (title : List ℕ) → IsTrue (edits title entry)
      → revision_of entries title < revision_of (entries ++ entry ∷ []) title
  -- what edits no page, or another one, leaves a page at its revision
  pub stays : (entries : List Entry) (entry : Entry) (title : List ℕ) → edits title entry ≡ false
      → revision_of (entries ++ entry ∷ []) title ≡ revision_of entries title
  -- the text of a page is that of the entry which its revision numbers
  pub numbered : (entries : List Entry) (title : List ℕ) → text_numbered entries (revision_of entries title) ≡ page_of entries title
  -- of two edits of a page that start from one revision, whosever they are, only one is taken
  pub once : (admins : List (List ℕ)) (entries : List Entry) (viewer : Viewer) (bytes : List ℕ) (base : ℕ) (text : List ℕ) (entry : Entry)
      → checked_edit admins entries viewer bytes base text ≡ Ok entry
      → (other : Viewer) (later : List ℕ) (taken : Entry) → ¬ (checked_edit admins (entries ++ entry ∷ []) other bytes base later ≡ Ok taken)
  -- what a check takes may be added
  pub edit_added : (admins : List (List ℕ)) (entries : List Entry) (viewer : Viewer) (bytes : List ℕ) (base : ℕ) (text : List ℕ) (entry : Entry)
      → IsViewer viewer → IsAccepted entries → checked_edit admins entries viewer bytes base text ≡ Ok entry → IsAccepted (entries ++ entry ∷ [])
  pub choice_added : (entries : List Entry) (viewer : Viewer) (key value : List ℕ) (entry : Entry)
      → IsViewer viewer → IsAccepted entries → checked_choice entries viewer key value ≡ Ok entry → IsAccepted (entries ++ entry ∷ [])
  pub kept_added : (entries : List Entry) (kept entry : Entry) → IsAccepted entries → checked_kept entries kept ≡ Ok entry
      → IsAccepted (entries ++ entry ∷ [])
