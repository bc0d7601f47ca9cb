-- The last edit of a page, as entries are added.
use Rattle.std.proofs.Common.{◌≡◌, ℕ, zero, suc, ◌+◌, ◌<◌, ◌≤◌, Bool, true, false, cond, List, [], ◌∷◌, ◌++◌, length, Some}
use Rattle.std.proofs.Common.{Option, IsSome, String, None, bytes_eq, refl, sym, ap, ◌∙◌, subst, arith, length-append, append_assoc, append-nil}
use Rattle.std.specs.Prelude.{option_and_then}
use Rattle.std.specs.List.{slice_get}
use Rattle.std.proofs.lemmas.Slice.Eq.{bytes_eq-Decides}
use Rattle.std.proofs.lemmas.List.Sums.{fold-append}
use Rattle.rl_pages.specs.declared.entry.Entry.{Entry}
use Rattle.rl_pages.specs.declared.entry.Entry.TheVariants.{Edit, Choice}
use Rattle.std.specs.BTreeMap.{BTreeMap, get_by_text}
use Rattle.std.specs.declared.alloc.Global.{Global}
use Rattle.rl_pages.specs.Index.{IsIndexed, HasRoom, HasNumber, HasChooser, number_at}
use Rattle.rl_pages.specs.History.{any_text, page_of, text_in, text_after, text_numbered, edits, revision_of, last_after, last_number}

-- ---- equality of texts, from either side

by_cases : (xs ys : List ℕ) (a b : Bool) → bytes_eq xs ys ≡ a → bytes_eq ys xs ≡ b → a ≡ b
by_cases xs ys true true e f = refl
by_cases xs ys false false e f = refl
by_cases xs ys true false e f = let same : bytes_eq ys xs ≡ true = (bytes_eq-Decides ys xs).1 (sym ((bytes_eq-Decides xs ys).0 e)) in absurd (cc)
by_cases xs ys false true e f = let same : bytes_eq xs ys ≡ true = (bytes_eq-Decides xs ys).1 (sym ((bytes_eq-Decides ys xs).0 f)) in absurd (cc)

pub bytes_eq_sym : (xs ys : List ℕ) → bytes_eq xs ys ≡ bytes_eq ys xs
bytes_eq_sym xs ys = by_cases xs ys (bytes_eq xs ys) (bytes_eq ys xs) refl refl

-- ---- one entry more

after_append : (meant : Entry → Bool) (count found : ℕ) (es : List Entry) (e : Entry)
    → last_after meant count found (es ++ e ∷ []) ≡ cond (meant e) (count + length es + 1) (last_after meant count found es)
after_append meant count found [] e = ap (λ n. cond (meant e) n found) (let same : count + 1 ≡ count + 0 + 1 = omega arith in same)
after_append meant count found (x ∷ es) e =
    after_append meant (count + 1) (cond (meant x) (count + 1) found) es e
    ∙ ap (λ n. cond (meant e) n (last_after meant (count + 1) (cond (meant x) (count + 1) found) es)) (let same : count + 1 + length es + 1
    ≡ count + length (x ∷ es) + 1 = omega arith in same)

pub last_append : (meant : Entry → Bool) (es : List Entry) (e : Entry)
    → last_number meant (es ++ e ∷ []) ≡ cond (meant e) (length es + 1) (last_number meant es)
last_append meant es e = after_append meant 0 0 es e ∙ ap (λ n. cond (meant e) n (last_number meant es))
    (let same : 0 + length es + 1 ≡ length es + 1 = omega arith in same)

pub revision_append : (t : List ℕ) (es : List Entry) (e : Entry) → revision_of (es ++ e ∷ []) t ≡ cond (edits t e) (length es + 1) (revision_of es t)
revision_append t es e = last_append (edits t) es e

pub page_append : (t : List ℕ) (es : List Entry) (e : Entry) → page_of (es ++ e ∷ []) t ≡ text_after t (page_of es t) e
page_append t es e = fold-append (text_after t) None es (e ∷ [])

-- ---- the text of the last edit

pub get_left : (es more : List Entry) (k : ℕ) → k < length es → slice_get (es ++ more) k ≡ slice_get es k
get_left [] more k h = absurd (omega arith)
get_left (e ∷ es) more zero h = refl
get_left (e ∷ es) more (suc k) h = get_left es more k (omega arith)

pub get_last : (es : List Entry) (e : Entry) → slice_get (es ++ e ∷ []) (length es) ≡ Some e
get_last [] e = refl
get_last (x ∷ es) e = get_last es e

numbered_left : (es more : List Entry) (n : ℕ) → n ≤ length es → text_numbered (es ++ more) n ≡ text_numbered es n
numbered_left es more zero h = refl
numbered_left es more (suc k) h = ap (option_and_then any_text) (get_left es more k (omega arith))

record Agrees (t : List ℕ) (es : List Entry) : Type 0 where
  within : revision_of es t ≤ length es
  text : text_numbered es (revision_of es t) ≡ page_of es t

unedited : (t : List ℕ) (es : List Entry) (e : Entry) → edits t e ≡ false → text_in t e ≡ None → Agrees t es → Agrees t (es ++ e ∷ [])
unedited t es e other none a =
    let same : revision_of (es ++ e ∷ []) t ≡ revision_of es t = revision_append t es e ∙ ap (λ b. cond b (length es + 1) (revision_of es t)) other in
    let longer : length (es ++ e ∷ []) ≡ length es + 1 = length-append es (e ∷ []) in
    record {
      within = omega (arith, a.within, same, longer);
      text = ap (text_numbered (es ++ e ∷ [])) same ∙ numbered_left es (e ∷ []) (revision_of es t) a.within ∙ a.text ∙ sym (page_append t es e
          ∙ kept none);
    }
  where
    kept : text_in t e ≡ None → text_after t (page_of es t) e ≡ page_of es t
    kept h = rw h refl

edited : (t by title text : List ℕ) (es : List Entry) → bytes_eq title t ≡ true → Agrees t (es ++ Edit by title text ∷ [])
edited t by title text es here =
    let e : Entry = Edit by title text in
    let same : revision_of (es ++ e ∷ []) t ≡ suc (length es) = revision_append t es e ∙ ap (λ b. cond b (length es + 1) (revision_of es t)) here
    ∙ (let one : length es + 1 ≡ suc (length es) = omega arith in one) in
    let longer : length (es ++ e ∷ []) ≡ length es + 1 = length-append es (e ∷ []) in
    let given : text_after t (page_of es t) e ≡ Some text = rw here refl in
    record {
      within = omega (arith, same, longer);
      text = ap (text_numbered (es ++ e ∷ [])) same ∙ ap (option_and_then any_text) (get_last es e) ∙ sym (page_append t es e ∙ given);
    }

one_more : (t : List ℕ) (es : List Entry) (e : Entry) → Agrees t es → Agrees t (es ++ e ∷ [])
one_more t es (Choice user key value) a = unedited t es (Choice user key value) refl refl a
one_more t es (Edit by title text) a = cases (bytes_eq title t) refl
  where
    cases : (b : Bool) → bytes_eq title t ≡ b → Agrees t (es ++ Edit by title text ∷ [])
    cases true here = edited t by title text es here
    cases false other = unedited t es (Edit by title text) other (rw other refl) a

all_agree : (t : List ℕ) (done es : List Entry) → Agrees t done → Agrees t (done ++ es)
all_agree t done [] a = subst (Agrees t) (sym (append-nil done)) a
all_agree t done (e ∷ es) a = subst (Agrees t) (append_assoc done (e ∷ []) es) (all_agree t (done ++ e ∷ []) es (one_more t done e a))

pub last_text : (t : List ℕ) (es : List Entry) → text_numbered es (revision_of es t) ≡ page_of es t
last_text t es = (all_agree t [] es (record { within = omega arith; text = refl })).text

pub revision_within : (t : List ℕ) (es : List Entry) → revision_of es t ≤ length es
revision_within t es = (all_agree t [] es (record { within = omega arith; text = refl })).within

-- ---- room

-- what holds of a history holds of it with more room, where no number changes and no place goes
pub roomier : (es es' : List Entry) (bytes capacity capacity' : ℕ) (numbers numbers' : BTreeMap (String Global) ℕ)
    (before before' : List ℕ) (links links' : ℕ) (choosers choosers' : BTreeMap (String Global) ℕ) (room : Option Entry)
    → es' ≡ es → before' ≡ before → capacity ≤ capacity' → links ≤ links'
    → ((q : List ℕ) → number_at numbers' q ≡ number_at numbers q)
    → ((q : List ℕ) → IsSome (get_by_text numbers q) → IsSome (get_by_text numbers' q))
    → ((q : List ℕ) → number_at choosers' q ≡ number_at choosers q)
    → ((q : List ℕ) → IsSome (get_by_text choosers q) → IsSome (get_by_text choosers' q))
    → IsIndexed es bytes capacity numbers before links choosers room → IsIndexed es' bytes capacity' numbers' before' links' choosers' room
roomier es es' bytes capacity capacity' numbers numbers' before before' links links' choosers choosers' room se sb hc hl same kept same' kept' i =
    subst (λ xs. IsIndexed xs bytes capacity' numbers' before' links' choosers' room) (sym se)
    (subst (λ ns. IsIndexed es bytes capacity' numbers' ns links' choosers' room) (sym sb) (record {
      accepted = i.accepted;
      counted = i.counted;
      last = λ q. same q ∙ i.last q;
      linked = i.linked;
      chosen = λ q. same' q ∙ i.chosen q;
      place = placed room i.place;
    }))
  where
    numbered : (e : Entry) → HasNumber numbers e → HasNumber numbers' e
    numbered (Edit by title text) h = kept title h
    numbered (Choice user key value) h = h

    chooser : (e : Entry) → HasChooser choosers e → HasChooser choosers' e
    chooser (Edit by title text) h = h
    chooser (Choice user key value) h = kept' user h

    placed : (room : Option Entry) → HasRoom es capacity numbers links choosers room → HasRoom es capacity' numbers' links' choosers' room
    placed None h = tt
    placed (Some e) h = (h.0, h.1, omega (arith, h.2, hc), numbered e h.3, omega (arith, h.4, hl), chooser e h.5)

-- and with room for another entry
pub with_room : (es : List Entry) (bytes capacity : ℕ) (numbers : BTreeMap (String Global) ℕ) (before : List ℕ) (links : ℕ)
    (choosers : BTreeMap (String Global) ℕ) (room : Option Entry) (entry : Entry) → HasRoom es capacity numbers links choosers (Some entry)
    → IsIndexed es bytes capacity numbers before links choosers room → IsIndexed es bytes capacity numbers before links choosers (Some entry)
with_room es bytes capacity numbers before links choosers room entry h i =
    record { accepted = i.accepted; counted = i.counted; last = i.last; linked = i.linked; chosen = i.chosen; place = h }
