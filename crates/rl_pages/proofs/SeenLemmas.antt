-- What is seen of a history is as it is in the whole history.
use Rattle.std.proofs.Common.{◌≡◌, ℕ, Bool, true, false, cond, List, [], ◌∷◌, filter, Option, None, bytes_eq, refl, sym, ap, ◌∙◌}
use Rattle.std.specs.Prelude.{◌==◌, length, option_map}
use Rattle.std.specs.List.{fold}
use Rattle.std.proofs.lemmas.Slice.Eq.{bytes_eq-Decides}
use Rattle.rl_names.specs.declared.part.Message.{Message}
use Rattle.rl_pages.specs.declared.viewer.Viewer.{Viewer}
use Rattle.rl_pages.specs.declared.viewer.Viewer.TheVariants.{Anon, User}
use Rattle.rl_pages.specs.declared.entry.Entry.{Entry}
use Rattle.rl_pages.specs.declared.entry.Entry.TheVariants.{Edit, Choice}
use Rattle.rl_names.specs.Title.{user_name_of}
use Rattle.rl_pages.specs.Viewer.{is_seen_by, is_user, viewer_of}
use Rattle.rl_pages.specs.History.{text_after, page_of, options_after, put_option}
use Rattle.rl_pages.specs.Seen.{sees, seen, options_by, SeenLaws}

-- bytes that are some and spell no user name spell no viewer
pub no_viewer : (bytes : List ℕ) → (length bytes == 0) ≡ false → user_name_of bytes ≡ None → viewer_of bytes ≡ None
no_viewer [] some none = absurd (cc)
no_viewer (b ∷ bs) some none = ap (option_map User) none

-- an entry that changes nothing may be passed over
passed : {A : Type 0} (b : Bool) (f : A → Entry → A) (found : A) (e : Entry) (xs : List Entry) → f found e ≡ found
    → fold f found (cond b (e ∷ xs) xs) ≡ fold f found xs
passed true f found e xs same = ap (λ o. fold f o xs) same
passed false f found e xs same = refl

-- ---- pages

module _ (v : Viewer) (t : List ℕ) (is : is_seen_by v t ≡ true) where
  seen_edit : (by edited text : List ℕ) (found : Option (List ℕ)) (es rest : List Entry) (w : Bool) → bytes_eq edited t ≡ w
      → ((found : Option (List ℕ)) → fold (text_after t) found rest ≡ fold (text_after t) found es)
      → fold (text_after t) found (cond (is_seen_by v edited) (Edit by edited text ∷ rest) rest)
      ≡ fold (text_after t) (text_after t found (Edit by edited text)) es
  seen_edit by edited text found es rest true e later =
      let same : edited ≡ t = (bytes_eq-Decides edited t).0 e in
      let shows : is_seen_by v edited ≡ true = ap (is_seen_by v) same ∙ is in
      rw shows (later (text_after t found (Edit by edited text)))
  seen_edit by edited text found es rest false e later =
      let none : text_after t found (Edit by edited text) ≡ found = rw e refl in
      passed (is_seen_by v edited) (text_after t) found (Edit by edited text) rest none ∙ later found ∙ sym (ap (λ o. fold (text_after t) o es) none)

  page_seen : (found : Option (List ℕ)) (es : List Entry) → fold (text_after t) found (filter (sees v) es) ≡ fold (text_after t) found es
  page_seen found [] = refl
  page_seen found (Choice user key value ∷ es) = passed (is_user v user) (text_after t) found (Choice user key value) (filter (sees v) es) refl
      ∙ page_seen found es
  page_seen found (Edit by edited text ∷ es) = seen_edit by edited text found es (filter (sees v) es) (bytes_eq edited t) refl (λ o. page_seen o es)

module _ (v : Viewer) (t : List ℕ) (is : is_seen_by v t ≡ false) where
  hidden_edit : (by edited text : List ℕ) (found : Option (List ℕ)) (rest : List Entry) (w : Bool) → bytes_eq edited t ≡ w
      → fold (text_after t) found rest ≡ found → fold (text_after t) found (cond (is_seen_by v edited) (Edit by edited text ∷ rest) rest) ≡ found
  hidden_edit by edited text found rest true e later =
      let same : edited ≡ t = (bytes_eq-Decides edited t).0 e in
      let hides : is_seen_by v edited ≡ false = ap (is_seen_by v) same ∙ is in
      rw hides later
  hidden_edit by edited text found rest false e later =
      let none : text_after t found (Edit by edited text) ≡ found = rw e refl in
      passed (is_seen_by v edited) (text_after t) found (Edit by edited text) rest none ∙ later

  page_hidden : (found : Option (List ℕ)) (es : List Entry) → fold (text_after t) found (filter (sees v) es) ≡ found
  page_hidden found [] = refl
  page_hidden found (Choice user key value ∷ es) = passed (is_user v user) (text_after t) found (Choice user key value) (filter (sees v) es) refl
      ∙ page_hidden found es
  page_hidden found (Edit by edited text ∷ es) = hidden_edit by edited text found (filter (sees v) es) (bytes_eq edited t) refl (page_hidden found es)

pub seen_pages : (v : Viewer) (es : List Entry) (t : List ℕ) → page_of (seen v es) t ≡ cond (is_seen_by v t) (page_of es t) None
seen_pages v es t = cases (is_seen_by v t) refl
  where
    cases : (w : Bool) → is_seen_by v t ≡ w → page_of (seen v es) t ≡ cond w (page_of es t) None
    cases true is = page_seen v t is None es
    cases false is = page_hidden v t is None es

pub page_if_seen : (v : Viewer) (es : List Entry) (t : List ℕ) → is_seen_by v t ≡ true → page_of es t ≡ page_of (seen v es) t
page_if_seen v es t is = sym (page_seen v t is None es)

pub none_if_hidden : (v : Viewer) (es : List Entry) (t : List ℕ) → is_seen_by v t ≡ false → None ≡ page_of (seen v es) t
none_if_hidden v es t is = sym (page_hidden v t is None es)

-- ---- options

own_choice : (name user key value : List ℕ) (found : List Message) (es rest : List Entry) (w : Bool) → bytes_eq name user ≡ w
    → ((found : List Message) → fold (options_after name) found rest ≡ fold (options_after name) found es)
    → fold (options_after name) found (cond w (Choice user key value ∷ rest) rest)
    ≡ fold (options_after name) (cond w (put_option key value found) found) es
own_choice name user key value found es rest true e later =
    let step : options_after name found (Choice user key value) ≡ put_option key value found = rw e refl in
    ap (λ o. fold (options_after name) o rest) step ∙ later (put_option key value found)
own_choice name user key value found es rest false e later = later found

options_seen : (name : List ℕ) (found : List Message) (es : List Entry)
    → fold (options_after name) found (filter (sees (User name)) es) ≡ fold (options_after name) found es
options_seen name found [] = refl
options_seen name found (Edit by edited text ∷ es) =
    passed (is_seen_by (User name) edited) (options_after name) found (Edit by edited text) (filter (sees (User name)) es) refl ∙ options_seen name found es
options_seen name found (Choice user key value ∷ es) =
    own_choice name user key value found es (filter (sees (User name)) es) (bytes_eq name user) refl (λ found. options_seen name found es)

seen_options : (v : Viewer) (es : List Entry) → options_by v (seen v es) ≡ options_by v es
seen_options Anon es = refl
seen_options (User name) es = options_seen name [] es

-- ---- seeing twice

kept_again : (p : Entry → Bool) (x : Entry) (xs : List Entry) (w : Bool) → p x ≡ w → filter p (filter p xs) ≡ filter p xs
    → filter p (cond w (x ∷ filter p xs) (filter p xs)) ≡ cond w (x ∷ filter p xs) (filter p xs)
kept_again p x xs true e later = rw e (ap (λ ys. x ∷ ys) later)
kept_again p x xs false e later = later

filter_twice : (p : Entry → Bool) (xs : List Entry) → filter p (filter p xs) ≡ filter p xs
filter_twice p [] = refl
filter_twice p (x ∷ xs) = kept_again p x xs (p x) refl (filter_twice p xs)

pub seen_laws : SeenLaws
seen_laws = record { pages = seen_pages; options = seen_options; again = λ v es. filter_twice (sees v) es }
