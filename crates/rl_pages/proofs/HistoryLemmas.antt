-- Histories as entries are added: what a check takes may be added, revisions rise, and no edit is lost.
use Rattle.std.proofs.Common.{◌≡◌, ℕ, ◌+◌, ◌<◌, Bool, true, false, not, cond, List, [], ◌∷◌, ◌++◌, length, nat_eq, nat_lt, nat_le}
use Rattle.std.proofs.Common.{bytes_eq, Option, Some, None, Result, Ok, Err, refl, sym, ap, ◌∙◌, subst, arith, length-append, IsTrue}
use Rattle.std.specs.Prelude.{◌&&◌, ◌||◌}
use Rattle.std.specs.List.{list_all}
use Rattle.std.specs.Option.{option_map_or}
use Rattle.std.proofs.lemmas.Bool.{eqb-true, le-leb, ltb-false}
use Rattle.std.proofs.lemmas.List.Folds.{list_all-append}
use Rattle.std.proofs.lemmas.List.Sums.{sum_by-append}
use Rattle.std.proofs.lemmas.Slice.Eq.{bytes_eq-Decides}
use Rattle.rl_names.specs.Title.{title_of, user_name_of}
use Rattle.rl_pages.specs.declared.limits.TheConstants as limits
use Rattle.rl_pages.specs.declared.viewer.Viewer.{Viewer}
use Rattle.rl_pages.specs.declared.viewer.Viewer.TheVariants.{Anon, User}
use Rattle.rl_pages.specs.declared.entry.Entry.{Entry}
use Rattle.rl_pages.specs.declared.entry.Entry.TheVariants.{Edit, Choice}
use Rattle.rl_pages.specs.declared.refusals.EditError.TheVariants as edit
use Rattle.rl_pages.specs.declared.refusals.KeptError.{KeptError}
use Rattle.rl_pages.specs.Viewer.{IsViewer}
use Rattle.rl_pages.specs.Policy.{may_edit}
use Rattle.rl_pages.specs.History.{edits, revision_of, bytes_of, size_of, Fits}
use Rattle.rl_pages.specs.Refusals.{checked_edit, titled_edit, sized_edit, checked_choice, checked_kept, is_full, is_kept, is_option_key, is_spelt_user}
use Rattle.rl_pages.specs.Refusals.{name_of, IsAccepted}
use Rattle.rl_pages.specs.Laws.{HistoryLaws}
use Rattle.rl_pages.proofs.IndexLemmas.{revision_append, revision_within, last_text}

-- ---- answers by cases

two_tests : {E : Type 0} (p q : Bool) (a b : E) (entry taken : Entry) → cond p (Err a) (cond q (Err b) (Ok entry)) ≡ Ok taken → (p ≡ false)
    × (q ≡ false) × (taken ≡ entry)
two_tests true q a b entry taken is = absurd (cc)
two_tests false true a b entry taken is = absurd (cc)
two_tests false false a b entry taken is = (refl, refl, cc)

gates : {E : Type 0} (p q : Bool) (a b : E) (r : Result Entry E) (taken : Entry) → cond (not p) (Err a) (cond (not q) (Err b) r) ≡ Ok taken
    → (p ≡ true) × (q ≡ true) × (r ≡ Ok taken)
gates false q a b r taken is = absurd (cc)
gates true false a b r taken is = absurd (cc)
gates true true a b r taken is = (refl, refl, is)

gate : {E : Type 0} (p : Bool) (a : E) (r : Result Entry E) (taken : Entry) → cond (not p) (Err a) r ≡ Ok taken → (p ≡ true) × (r ≡ Ok taken)
gate false a r taken is = absurd (cc)
gate true a r taken is = (refl, is)

-- ---- what a taken edit is

record TakenEdit (admins : List (List ℕ)) (entries : List Entry) (viewer : Viewer) (bytes : List ℕ) (base : ℕ) (text : List ℕ)
    (entry : Entry) : Type 0 where
  title : List ℕ
  spelt : title_of bytes ≡ Some title
  allowed : may_edit admins viewer title ≡ true
  at_base : revision_of entries title ≡ base
  short : nat_lt limits.MAX_PAGE_BYTES (length text) ≡ false
  roomy : is_full entries (length text) ≡ false
  is : entry ≡ Edit (name_of viewer) title text

taken_edit : (admins : List (List ℕ)) (entries : List Entry) (viewer : Viewer) (bytes : List ℕ) (base : ℕ) (text : List ℕ) (entry : Entry)
    → checked_edit admins entries viewer bytes base text ≡ Ok entry → TakenEdit admins entries viewer bytes base text entry
taken_edit admins entries viewer bytes base text entry taken = cases (title_of bytes) refl taken
  where
    cases : (spelt : Option (List ℕ)) → title_of bytes ≡ spelt
        → option_map_or (λ title. titled_edit admins entries viewer title base text) spelt (Err edit.BadTitle) ≡ Ok entry
        → TakenEdit admins entries viewer bytes base text entry
    cases None e is = absurd (cc)
    cases (Some title) e is =
        let passed = gates (may_edit admins viewer title) (nat_eq (revision_of entries title) base) _ _ (sized_edit entries viewer title text) entry is in
        let kept = two_tests (nat_lt limits.MAX_PAGE_BYTES (length text)) (is_full entries (length text)) _ _
        (Edit (name_of viewer) title text) entry passed.2 in
        let at_base = eqb-true (revision_of entries title) base passed.1 in
        record { title = title; spelt = e; allowed = passed.0; at_base = at_base; short = kept.0; roomy = kept.1; is = kept.2 }

-- ---- what is taken keeps the rules of kept entries

same_bytes : (xs : List ℕ) → bytes_eq xs xs ≡ true
same_bytes xs = (bytes_eq-Decides xs xs).1 refl

spelt_user : (name : List ℕ) → user_name_of name ≡ Some name → is_spelt_user name ≡ true
spelt_user name is = rw is (same_bytes name)

both : (a b : Bool) → a ≡ true → b ≡ true → (a && b) ≡ true
both a b p q = rw (p, q) refl

not_longer : (limit len : ℕ) → nat_lt limit len ≡ false → nat_le len limit ≡ true
not_longer limit len is = le-leb len limit (ltb-false limit len is)

no_edit : {A : Type 0} → false ≡ true → A
no_edit is = absurd (cc)

edit_keeps : (admins : List (List ℕ)) (entries : List Entry) (viewer : Viewer) (bytes : List ℕ) (base : ℕ) (text : List ℕ) (entry : Entry)
    → IsViewer viewer → TakenEdit admins entries viewer bytes base text entry → is_kept entry ≡ true
edit_keeps admins entries Anon bytes base text entry is t = no_edit t.allowed
edit_keeps admins entries (User name) bytes base text entry is t =
    ap is_kept t.is
    ∙ both (is_spelt_user name) (nat_le (length text) limits.MAX_PAGE_BYTES) (spelt_user name is)
    (not_longer limits.MAX_PAGE_BYTES (length text) t.short)

pub edit_is_kept : (admins : List (List ℕ)) (entries : List Entry) (viewer : Viewer) (bytes : List ℕ) (base : ℕ) (text : List ℕ) (entry : Entry)
    → IsViewer viewer → checked_edit admins entries viewer bytes base text ≡ Ok entry → is_kept entry ≡ true
edit_is_kept admins entries viewer bytes base text entry is taken =
    edit_keeps admins entries viewer bytes base text entry is (taken_edit admins entries viewer bytes base text entry taken)

record TakenChoice (entries : List Entry) (name key value : List ℕ) (entry : Entry) : Type 0 where
  keyed : is_option_key key ≡ true
  short : nat_lt limits.MAX_VALUE_BYTES (length value) ≡ false
  roomy : is_full entries (length value) ≡ false
  is : entry ≡ Choice name key value

taken_choice : (entries : List Entry) (name key value : List ℕ) (entry : Entry) → checked_choice entries (User name) key value ≡ Ok entry
    → TakenChoice entries name key value entry
taken_choice entries name key value entry taken =
    let passed = gate (is_option_key key) _ _ entry taken in
    let kept = two_tests (nat_lt limits.MAX_VALUE_BYTES (length value)) (is_full entries (length value)) _ _ (Choice name key value) entry passed.1 in
    record { keyed = passed.0; short = kept.0; roomy = kept.1; is = kept.2 }

pub choice_is_kept : (entries : List Entry) (viewer : Viewer) (key value : List ℕ) (entry : Entry) → IsViewer viewer
    → checked_choice entries viewer key value ≡ Ok entry → is_kept entry ≡ true
choice_is_kept entries Anon key value entry is taken = absurd (cc)
choice_is_kept entries (User name) key value entry is taken =
    let t = taken_choice entries name key value entry taken in
    ap is_kept t.is
    ∙ both (is_spelt_user name && is_option_key key) (nat_le (length value) limits.MAX_VALUE_BYTES)
    (both (is_spelt_user name) (is_option_key key) (spelt_user name is) t.keyed)
    (not_longer limits.MAX_VALUE_BYTES (length value) t.short)

-- the same, as the checks answer

pub titled_is_kept : (admins : List (List ℕ)) (entries : List Entry) (viewer : Viewer) (bytes title : List ℕ) (base : ℕ) (text : List ℕ) (entry : Entry)
    → IsViewer viewer → title_of bytes ≡ Some title → titled_edit admins entries viewer title base text ≡ Ok entry
    → is_kept entry ≡ true
titled_is_kept admins entries viewer bytes title base text entry is spelt answer =
    edit_is_kept admins entries viewer bytes base text entry is
    (ap (λ o. option_map_or (λ t. titled_edit admins entries viewer t base text) o (Err edit.BadTitle)) spelt ∙ answer)

pub chosen_is_kept : (entries : List Entry) (viewer : Viewer) (name key value : List ℕ) (entry : Entry)
    → IsViewer viewer → viewer ≡ User name → checked_choice entries (User name) key value ≡ Ok entry → is_kept entry ≡ true
chosen_is_kept entries viewer name key value entry is who answer =
    choice_is_kept entries (User name) key value entry (subst IsViewer who is) answer

-- ---- one entry more

pub accepted_more : (entries : List Entry) (entry : Entry) → IsAccepted entries → Fits entries entry → is_kept entry ≡ true
    → IsAccepted (entries ++ entry ∷ [])
accepted_more entries entry a fits keeps =
    let longer : length (entries ++ entry ∷ []) ≡ length entries + 1 = length-append entries (entry ∷ []) in
    let larger : bytes_of (entries ++ entry ∷ []) ≡ bytes_of entries + (0 + size_of entry) = sum_by-append size_of entries (entry ∷ []) in
    record {
      kept = list_all-append is_kept entries (entry ∷ [])
          ∙ both (list_all is_kept entries) (is_kept entry && true) a.kept (both (is_kept entry) true keeps refl);
      few = omega (arith, longer, fits.few);
      small = omega (arith, larger, fits.small);
    }

or_parts : (a b : Bool) → (a || b) ≡ false → (a ≡ false) × (b ≡ false)
or_parts true b is = absurd (cc)
or_parts false b is = (refl, is)

fits_by : (entries : List Entry) (entry : Entry) → is_full entries (size_of entry) ≡ false → Fits entries entry
fits_by entries entry is =
    let parts = or_parts (nat_le limits.MAX_ENTRIES (length entries)) (nat_lt limits.MAX_ENTRY_BYTES (bytes_of entries + size_of entry)) is in
    record {
      few = grind (arith, parts.0);
      small = ltb-false limits.MAX_ENTRY_BYTES (bytes_of entries + size_of entry) parts.1;
    }

-- ---- the laws

rises : (entries : List Entry) (entry : Entry) (title : List ℕ) → IsTrue (edits title entry)
    → revision_of entries title < revision_of (entries ++ entry ∷ []) title
rises entries entry title is =
    let now : revision_of (entries ++ entry ∷ []) title ≡ length entries + 1 = revision_append title entries entry
    ∙ ap (λ b. cond b (length entries + 1) (revision_of entries title)) is in
    omega (arith, now, revision_within title entries)

stays : (entries : List Entry) (entry : Entry) (title : List ℕ) → edits title entry ≡ false
    → revision_of (entries ++ entry ∷ []) title ≡ revision_of entries title
stays entries entry title other = revision_append title entries entry ∙ ap (λ b. cond b (length entries + 1) (revision_of entries title)) other

once : (admins : List (List ℕ)) (entries : List Entry) (viewer : Viewer) (bytes : List ℕ) (base : ℕ) (text : List ℕ) (entry : Entry)
    → checked_edit admins entries viewer bytes base text ≡ Ok entry
    → (other : Viewer) (later : List ℕ) (taken : Entry) → ¬ (checked_edit admins (entries ++ entry ∷ []) other bytes base later ≡ Ok taken)
once admins entries viewer bytes base text entry first other later taken second =
    let a = taken_edit admins entries viewer bytes base text entry first in
    let b = taken_edit admins (entries ++ entry ∷ []) other bytes base later taken second in
    let one_title : b.title ≡ a.title = some_is (sym b.spelt ∙ a.spelt) in
    let edited : edits a.title entry ≡ true = ap (edits a.title) a.is ∙ same_bytes a.title in
    let still : revision_of (entries ++ entry ∷ []) a.title ≡ revision_of entries a.title = ap (revision_of (entries ++ entry ∷ [])) (sym one_title)
    ∙ b.at_base ∙ sym a.at_base in
    omega (arith, rises entries entry a.title edited, still)
  where
    some_is : {x y : List ℕ} → Some x ≡ Some y → x ≡ y
    some_is is = cc

edit_added : (admins : List (List ℕ)) (entries : List Entry) (viewer : Viewer) (bytes : List ℕ) (base : ℕ) (text : List ℕ) (entry : Entry)
    → IsViewer viewer → IsAccepted entries → checked_edit admins entries viewer bytes base text ≡ Ok entry → IsAccepted (entries ++ entry ∷ [])
edit_added admins entries viewer bytes base text entry is a taken =
    let t = taken_edit admins entries viewer bytes base text entry taken in
    accepted_more entries entry a (fits_by entries entry (ap (λ e. is_full entries (size_of e)) t.is ∙ t.roomy))
    (edit_keeps admins entries viewer bytes base text entry is t)

choice_added : (entries : List Entry) (viewer : Viewer) (key value : List ℕ) (entry : Entry)
    → IsViewer viewer → IsAccepted entries → checked_choice entries viewer key value ≡ Ok entry → IsAccepted (entries ++ entry ∷ [])
choice_added entries Anon key value entry is a taken = absurd (cc)
choice_added entries (User name) key value entry is a taken =
    let t = taken_choice entries name key value entry taken in
    accepted_more entries entry a (fits_by entries entry (ap (λ e. is_full entries (size_of e)) t.is ∙ t.roomy))
    (choice_is_kept entries (User name) key value entry is taken)

kept_one : (keeps full : Bool) (kept entry : Entry) (bad : KeptError) → cond (keeps && not full) (Ok kept) (Err bad) ≡ Ok entry → (keeps ≡ true)
    × (full ≡ false) × (kept ≡ entry)
kept_one true false kept entry bad is = (refl, refl, cc)
kept_one true true kept entry bad is = absurd (cc)
kept_one false full kept entry bad is = absurd (cc)

kept_added : (entries : List Entry) (kept entry : Entry) → IsAccepted entries → checked_kept entries kept ≡ Ok entry
    → IsAccepted (entries ++ entry ∷ [])
kept_added entries kept entry a taken =
    let t = kept_one (is_kept kept) (is_full entries (size_of kept)) kept entry _ taken in
    subst (λ e. IsAccepted (entries ++ e ∷ [])) t.2 (accepted_more entries kept a (fits_by entries kept t.1) t.0)

pub history_laws : HistoryLaws
history_laws = record {
  rises = rises;
  stays = stays;
  numbered = λ entries title. last_text title entries;
  once = once;
  edit_added = edit_added;
  choice_added = choice_added;
  kept_added = kept_added;
}
