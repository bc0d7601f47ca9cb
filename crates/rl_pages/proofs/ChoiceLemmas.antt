-- The choices of a user, from the last back to the first.
use Rattle.std.proofs.Common.{◌≡◌, ℕ, zero, suc, ◌+◌, ◌<◌, ◌≤◌, Bool, true, false, cond, List, [], ◌∷◌, ◌++◌}
use Rattle.std.proofs.Common.{length, take, Some}
use Rattle.std.proofs.Common.{Option, None, Bor, String, map, reverse, bytes_eq, IsTrue, ◌&&◌}
use Rattle.std.proofs.Common.{refl, sym, ap, ◌∙◌, subst, arith, length-append, append_assoc, append-nil}
use Rattle.std.specs.Prelude.{option_map, unwrap_or, fold}
use Rattle.std.specs.List.{slice_get, list_all}
use Rattle.std.specs.Str.{is_utf8}
use Rattle.std.specs.BTreeMap.{BTreeMap}
use Rattle.std.specs.declared.alloc.Global.{Global}
use Rattle.std.proofs.Math.Seq.{take-length}
use Rattle.std.proofs.lemmas.List.{map-append, take-append-le, length-take-le, reverse-append}
use Rattle.std.proofs.lemmas.List.Sums.{fold-append}
use Rattle.std.proofs.lemmas.Slice.Eq.{bytes_eq-Decides}
use Rattle.rl_names.specs.declared.part.Message.{Message}
use Rattle.rl_pages.specs.declared.entry.Entry.{Entry}
use Rattle.rl_pages.specs.declared.entry.Entry.TheVariants.{Edit, Choice}
use Rattle.rl_pages.specs.History.{chooses, last_number, options_of, options_after}
use Rattle.rl_pages.specs.Index.{choice_before, befores, entry_numbered, number_at, number_before}
use Rattle.rl_pages.specs.Refusals.{is_kept, is_spelt_user}
use Rattle.rl_pages.proofs.IndexLemmas.{last_append}

-- ---- the number of the choice before each entry

pub befores_append : (done es : List Entry) (e : Entry) → befores done (es ++ e ∷ []) ≡ befores done es ++ choice_before (done ++ es) e ∷ []
befores_append done [] e = ap (λ xs. choice_before xs e ∷ []) (sym (append-nil done))
befores_append done (x ∷ es) e =
    ap (λ ns. choice_before done x ∷ ns) (befores_append (done ++ x ∷ []) es e
    ∙ ap (λ xs. befores (done ++ x ∷ []) es ++ choice_before xs e ∷ []) (append_assoc done (x ∷ []) es))

pub befores_length : (done es : List Entry) → length (befores done es) ≡ length es
befores_length done [] = refl
befores_length done (e ∷ es) = ap suc (befores_length (done ++ e ∷ []) es)

befores_at : (done es : List Entry) (at : ℕ) (e : Entry) → slice_get es at ≡ Some e
    → slice_get (befores done es) at ≡ Some (choice_before (done ++ take at es) e)
befores_at done [] at e h = absurd (cc)
befores_at done (x ∷ es) zero e h =
    ap (option_map (choice_before done)) h ∙ ap (λ xs. Some (choice_before xs e)) (sym (append-nil done))
befores_at done (x ∷ es) (suc at) e h =
    befores_at (done ++ x ∷ []) es at e h ∙ ap (λ xs. Some (choice_before xs e)) (append_assoc done (x ∷ []) (take at es))

pub before_at : (es : List Entry) (at : ℕ) (e : Entry) → slice_get es at ≡ Some e → slice_get (befores [] es) at ≡ Some (choice_before (take at es) e)
before_at es at e h = befores_at [] es at e h

-- ---- what stands at the last choice of a user

-- the entries up to the last choice of a user have the options of all
pub record Chained (user : List ℕ) (es : List Entry) : Type 0 where
  pub within : last_number (chooses user) es ≤ length es
  pub last : last_number (chooses user) (take (last_number (chooses user) es) es) ≡ last_number (chooses user) es
  pub same : options_of (take (last_number (chooses user) es) es) user ≡ options_of es user

-- an entry that is no choice of theirs changes no options
unchosen : (user : List ℕ) (found : List Message) (e : Entry) → chooses user e ≡ false → options_after user found e ≡ found
unchosen user found (Edit by title text) other = refl
unchosen user found (Choice chooser key value) other = rw other refl

options_append : (user : List ℕ) (es : List Entry) (e : Entry) → options_of (es ++ e ∷ []) user ≡ options_after user (options_of es user) e
options_append user es e = fold-append (options_after user) [] es (e ∷ [])

passed : (user : List ℕ) (es : List Entry) (e : Entry) → chooses user e ≡ false → Chained user es → Chained user (es ++ e ∷ [])
passed user es e other c =
    let same : last_number (chooses user) (es ++ e ∷ []) ≡ last_number (chooses user) es = last_append (chooses user) es e
    ∙ ap (λ b. cond b (length es + 1) (last_number (chooses user) es)) other in
    let longer : length (es ++ e ∷ []) ≡ length es + 1 = length-append es (e ∷ []) in
    let front : take (last_number (chooses user) (es ++ e ∷ [])) (es ++ e ∷ []) ≡ take (last_number (chooses user) es) es
    = ap (λ n. take n (es ++ e ∷ [])) same ∙ take-append-le (last_number (chooses user) es) es (e ∷ []) c.within in
    record {
      within = omega (arith, c.within, same, longer);
      last = ap (last_number (chooses user)) front ∙ c.last ∙ sym same;
      same = ap (λ xs. options_of xs user) front ∙ c.same ∙ sym (options_append user es e ∙ unchosen user (options_of es user) e other);
    }

taken : (user : List ℕ) (es : List Entry) (e : Entry) → chooses user e ≡ true → Chained user (es ++ e ∷ [])
taken user es e here =
    let all : last_number (chooses user) (es ++ e ∷ []) ≡ length (es ++ e ∷ []) = last_append (chooses user) es e
    ∙ ap (λ b. cond b (length es + 1) (last_number (chooses user) es)) here ∙ sym (length-append es (e ∷ [])) in
    let whole : take (last_number (chooses user) (es ++ e ∷ [])) (es ++ e ∷ []) ≡ es ++ e ∷ []
    = ap (λ n. take n (es ++ e ∷ [])) all ∙ take-length (es ++ e ∷ []) in
    record {
      within = omega (arith, all);
      last = ap (last_number (chooses user)) whole;
      same = ap (λ xs. options_of xs user) whole;
    }

one_more : (user : List ℕ) (es : List Entry) (e : Entry) → Chained user es → Chained user (es ++ e ∷ [])
one_more user es e c = cases (chooses user e) refl
  where
    cases : (b : Bool) → chooses user e ≡ b → Chained user (es ++ e ∷ [])
    cases true here = taken user es e here
    cases false other = passed user es e other c

all_chained : (user : List ℕ) (done es : List Entry) → Chained user done → Chained user (done ++ es)
all_chained user done [] c = subst (Chained user) (sym (append-nil done)) c
all_chained user done (e ∷ es) c = subst (Chained user) (append_assoc done (e ∷ []) es) (all_chained user (done ++ e ∷ []) es (one_more user done e c))

pub chained : (user : List ℕ) (es : List Entry) → Chained user es
chained user es = all_chained user [] es (record { within = omega arith; last = refl; same = refl })

-- ---- one choice back

-- what was gone through, the last choice first, over the options of what is left
pub record Back (user : List ℕ) (es : List Entry) (number : ℕ) (gone : List Entry) : Type 0 where
  pub within : number ≤ length es
  pub last : last_number (chooses user) (take number es) ≡ number
  pub same : fold (options_after user) (options_of (take number es) user) (reverse gone) ≡ options_of es user

pub at_last : (user : List ℕ) (es : List Entry) → Back user es (last_number (chooses user) es) []
at_last user es = let c = chained user es in record { within = c.within; last = c.last; same = c.same }

take_more : (es : List Entry) (at : ℕ) (e : Entry) → slice_get es at ≡ Some e → take (suc at) es ≡ take at es ++ e ∷ []
take_more [] at e h = absurd (cc)
take_more (x ∷ es) zero e h = ap (λ y. unwrap_or y x ∷ []) h
take_more (x ∷ es) (suc at) e h = ap (λ xs. x ∷ xs) (take_more es at e h)

take_less : (n m : ℕ) (es : List Entry) → n ≤ m → take n (take m es) ≡ take n es
take_less zero m es h = refl
take_less (suc n) zero es h = absurd (omega (arith, h))
take_less (suc n) (suc m) [] h = refl
take_less (suc n) (suc m) (e ∷ es) h = ap (λ xs. e ∷ xs) (take_less n m es (omega (arith, h)))

-- a choice of theirs was made by them
before_theirs : (user : List ℕ) (es : List Entry) (e : Entry) → chooses user e ≡ true → choice_before es e ≡ last_number (chooses user) es
before_theirs user es (Edit by title text) here = absurd (cc)
before_theirs user es (Choice chooser key value) here = ap (λ name. last_number (chooses name) es) (sym ((bytes_eq-Decides user chooser).0 here))

module _ (user : List ℕ) (es : List Entry) (at : ℕ) (gone : List Entry) (e : Entry)
    (b : Back user es (suc at) gone) (here : slice_get es at ≡ Some e) where
  front : take (suc at) es ≡ take at es ++ e ∷ []
  front = take_more es at e here

  long : length (take at es) ≡ at
  long = length-take-le at es (omega (arith, b.within))

  numbered : cond (chooses user e) (length (take at es) + 1) (last_number (chooses user) (take at es)) ≡ suc at
  numbered = sym (last_append (chooses user) (take at es) e) ∙ ap (last_number (chooses user)) (sym front) ∙ b.last

  theirs : chooses user e ≡ true
  theirs = cases (chooses user e) refl
    where
      cases : (is : Bool) → chooses user e ≡ is → chooses user e ≡ true
      cases true h = h
      cases false h =
          let same : last_number (chooses user) (take at es) ≡ suc at
          = sym (ap (λ b. cond b (length (take at es) + 1) (last_number (chooses user) (take at es))) h) ∙ numbered in
          absurd (omega (arith, same, long, (chained user (take at es)).within))

  pub one_back : Back user es (choice_before (take at es) e) (gone ++ e ∷ [])
  one_back =
      let number : choice_before (take at es) e ≡ last_number (chooses user) (take at es) = before_theirs user (take at es) e theirs in
      let c : Chained user (take at es) = chained user (take at es) in
      let less : choice_before (take at es) e ≤ at = omega (arith, c.within, long, number) in
      let left : take (choice_before (take at es) e) es ≡ take (last_number (chooses user) (take at es)) (take at es)
      = sym (take_less (choice_before (take at es) e) at es less) ∙ ap (λ n. take n (take at es)) number in
      let options : options_of (take (choice_before (take at es) e) es) user ≡ options_of (take at es) user
      = ap (λ xs. options_of xs user) left ∙ c.same in
      let more : options_after user (options_of (take at es) user) e ≡ options_of (take (suc at) es) user
      = sym (options_append user (take at es) e) ∙ ap (λ xs. options_of xs user) (sym front) in
      record {
        within = omega (arith, less, b.within);
        last = ap (last_number (chooses user)) left ∙ c.last ∙ sym number;
        same = ap (fold (options_after user) (options_of (take (choice_before (take at es) e) es) user)) (reverse-append gone (e ∷ []))
            ∙ ap (λ found. fold (options_after user) (options_after user found e) (reverse gone)) options
            ∙ ap (λ found. fold (options_after user) found (reverse gone)) more ∙ b.same;
      }

  pub goes_back : choice_before (take at es) e < suc at
  goes_back = omega (arith, before_theirs user (take at es) e theirs, (chained user (take at es)).within, long)

-- ---- users who chose nothing

spelt_no : (name : List ℕ) → is_utf8 name ≡ false → is_spelt_user name ≡ false
spelt_no name bad = rw bad refl

chose_no : (user : List ℕ) (e : Entry) → is_utf8 user ≡ false → is_kept e ≡ true → chooses user e ≡ false
chose_no user (Edit by title text) bad kept = refl
chose_no user (Choice chooser key value) bad kept = cases (bytes_eq user chooser) refl
  where
    cases : (b : Bool) → bytes_eq user chooser ≡ b → bytes_eq user chooser ≡ false
    cases false h = h
    cases true h =
        let same : user ≡ chooser = (bytes_eq-Decides user chooser).0 h in
        let spelt : is_spelt_user chooser ≡ false = spelt_no chooser (subst (λ name. is_utf8 name ≡ false) same bad) in
        let not_kept : is_kept (Choice chooser key value) ≡ false = rw spelt refl in
        absurd (cc)

-- nobody chose by a name that is not UTF-8
pub unknown_chooser : (user : List ℕ) (es : List Entry) → is_utf8 user ≡ false → IsTrue (list_all is_kept es) → options_of es user ≡ []
unknown_chooser user [] bad kept = refl
unknown_chooser user (e ∷ es) bad kept = one (is_kept e) (list_all is_kept es) refl refl kept (unknown_chooser user es bad)
  where
    one : (k ks : Bool) → is_kept e ≡ k → list_all is_kept es ≡ ks → IsTrue (k && ks) → (IsTrue (list_all is_kept es) → options_of es user ≡ [])
        → options_of (e ∷ es) user ≡ []
    one false ks h hs both rest = absurd (cc)
    one true false h hs both rest = absurd (cc)
    one true true h hs both rest =
        ap (λ found. fold (options_after user) found es) (unchosen user [] e (chose_no user e bad h)) ∙ rest hs

-- ---- the choice of a number

pub numbered_there : (es : List Entry) (number at : ℕ) (e : Entry) (before : ℕ) → number ≡ suc at → slice_get es at ≡ Some e
    → slice_get (befores [] es) at ≡ Some before → Some (e, before) ≡ entry_numbered es number
numbered_there es number at e before is here link =
    let same : Some before ≡ Some (choice_before (take at es) e) = sym link ∙ before_at es at e here in
    ap (option_map (λ n. (e, n))) same ∙ sym (ap (entry_numbered es) is ∙ ap (option_map (λ entry. (entry, choice_before (take at es) entry))) here)

pub numbered_past : (es : List Entry) (number at : ℕ) → number ≡ suc at → slice_get es at ≡ None → None ≡ entry_numbered es number
numbered_past es number at is here =
    sym (ap (entry_numbered es) is ∙ ap (option_map (λ (entry : Entry). (entry, choice_before (take at es) entry))) here)

-- each entry has its number
there : (es : List Entry) (at : ℕ) → at < length es → slice_get es at ≡ None → ⊥
there [] at low gone = omega (arith, low)
there (e ∷ es) zero low gone = absurd (cc)
there (e ∷ es) (suc at) low gone = there es at (omega (arith, low)) gone

none_mapped : (found : Option Entry) (f : Entry → Entry × ℕ) → option_map f found ≡ None → found ≡ None
none_mapped None f past = refl
none_mapped (Some e) f past = absurd (cc)

pub numbered_in : (es : List Entry) (number : ℕ) → number ≤ length es → entry_numbered es number ≡ None → number ≡ 0
numbered_in es zero low past = refl
numbered_in es (suc at) low past =
    absurd (there es at (omega (arith, low)) (none_mapped (slice_get es at) (λ entry. (entry, choice_before (take at es) entry)) past))

-- one choice back by its number
pub stepped : (user : List ℕ) (es : List Entry) (number : ℕ) (gone : List Entry) (e : Entry) (before : ℕ)
    → ◌≡◌ {A = Option (Entry × ℕ)} (Some (e, before)) (entry_numbered es number)
    → Back user es number gone → Back user es before (gone ++ e ∷ []) × (before < number)
stepped user es zero gone e before is back = absurd (cc)
stepped user es (suc at) gone e before is back = found (slice_get es at) refl is
  where
    found : (o : Option Entry) → slice_get es at ≡ o
        → ◌≡◌ {A = Option (Entry × ℕ)} (Some (e, before)) (option_map (λ entry. (entry, choice_before (take at es) entry)) o)
        → Back user es before (gone ++ e ∷ []) × (before < suc at)
    found None here same = absurd (cc)
    found (Some x) here same =
        let this : e ≡ x = ap (λ (o : Option (Entry × ℕ)). (unwrap_or o (e, before)).0) same in
        let that : before ≡ choice_before (take at es) x = ap (λ (o : Option (Entry × ℕ)). (unwrap_or o (e, before)).1) same in (
          subst (λ y. Back user es before (gone ++ y ∷ [])) (sym this)
              (subst (λ n. Back user es n (gone ++ x ∷ [])) (sym that) (one_back user es at gone x back here)),
          subst (λ n. n < suc at) (sym that) (goes_back user es at gone x back here),
        )

-- where no choice is left, all were gone through
pub gone_through : (user : List ℕ) (es : List Entry) (number : ℕ) (gone : List Entry) → entry_numbered es number ≡ None → Back user es number gone
    → fold (options_after user) [] (reverse gone) ≡ options_of es user
gone_through user es number gone past back =
    let first : number ≡ 0 = numbered_in es number back.within past in
    ap (λ n. fold (options_after user) (options_of (take n es) user) (reverse gone)) (sym first) ∙ back.same

-- a list of borrowed entries, turned round
pub nows-reverse : (xs : List (Bor Entry)) → map (λ (e : Bor Entry). e.now) (reverse xs) ≡ reverse (map (λ (e : Bor Entry). e.now) xs)
nows-reverse [] = refl
nows-reverse (x ∷ xs) =
    ap (map (λ (e : Bor Entry). e.now)) (reverse-append (x ∷ []) xs) ∙ map-append (λ (e : Bor Entry). e.now) (reverse xs) (x ∷ [])
    ∙ ap (λ ys. ys ++ x.now ∷ []) (nows-reverse xs) ∙ sym (reverse-append (x.now ∷ []) (map (λ (e : Bor Entry). e.now) xs))

-- what stands under the user of a choice is the number of the choice before it
pub before_known : (es : List Entry) (choosers : BTreeMap (String Global) ℕ) → ((q : List ℕ) → number_at choosers q ≡ last_number (chooses q) es)
    → (e : Entry) → number_before choosers e ≡ choice_before es e
before_known es choosers chosen (Edit by title text) = refl
before_known es choosers chosen (Choice user key value) = chosen user
