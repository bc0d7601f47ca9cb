-- Key texts are what keys are read from.
use Rattle.std.proofs.Common.{◌≡◌, ℕ, Bool, true, false, not, cond, Option, Some, None, Result, Ok, Err, List, [], ◌∷◌, ◌++◌, drop, refl, sym}
use Rattle.std.proofs.Common.{ap, subst, ◌∙◌, arith, IsTrue, IfOk, IsErrAnd}
use Rattle.std.specs.List.{list_any, list_all}
use Rattle.std.specs.Option.{option_map_or}
use Rattle.std.proofs.lemmas.Bool.{and_parts, or_from, or_right, eqb-true, false_from_ne_true}
use Rattle.std.proofs.lemmas.List.Folds.{list_any-append}
use Rattle.rl_names.specs.Cut.{before_by, suffix_by}
use Rattle.rl_names.specs.Name.{is_name, is_version, is_version_byte, key_text, name_fault, name_of, fault_told, NameFault}
use Rattle.rl_names.specs.Name as faults
use Rattle.rl_names.specs.Meant.{Gives}
use Rattle.rl_names.specs.Key.{is_at, key_of, key_error_of, key_fault_told, KeyFault, KeyTexts, NoVersion, BadVersion, BadName}
use Rattle.rl_names.specs.declared.name.Key.{Key}
use Rattle.rl_names.specs.declared.name.NameError.{NameError}
use Rattle.rl_names.specs.declared.name.NameError.TheVariants as name_error
use Rattle.rl_names.specs.declared.text.NoMemory.{NoMemory}
use Rattle.rl_names.specs.declared.name.KeyError.{KeyError}
use Rattle.rl_names.proofs.NameLemmas.{faulty_name}
use Rattle.rl_names.proofs.CutLemmas.{cut_round, before_round}

not_at : (bs : List ℕ) → list_all is_version_byte bs ≡ true → list_any is_at bs ≡ false
not_at [] h = refl
not_at (b ∷ bs) h =
    let parts = and_parts (is_version_byte b) (list_all is_version_byte bs) h in
    or_from (is_at b) (list_any is_at bs) (false_from_ne_true (is_at b) (λ t. grind arith)) (not_at bs parts.1)

version_not_at : (v : List ℕ) → IsTrue (is_version v) → list_any is_at v ≡ false
version_not_at v h = not_at v (grind arith)

-- a text in which `@` stands is cut there, at the last
split_last : (xs : List ℕ) → list_any is_at xs ≡ true → (ys : List ℕ) × (zs : List ℕ) × (xs ≡ ys ++ 64 ∷ zs) × (list_any is_at zs ≡ false)
split_last [] h = absurd (cc)
split_last (x ∷ xs) h =
    let step : (v : Bool) → list_any is_at xs ≡ v → (ys : List ℕ) × (zs : List ℕ) × (x ∷ xs ≡ ys ++ 64 ∷ zs)
    × (list_any is_at zs ≡ false) =
    λ (v : Bool). elim v as (λ w. list_any is_at xs ≡ w →
    (ys : List ℕ) × (zs : List ℕ) × (x ∷ xs ≡ ys ++ 64 ∷ zs) × (list_any is_at zs ≡ false)) [
      | true ↦ λ e. let (ys, zs, is, none) = split_last xs e in (x ∷ ys, zs, ap (λ l. x ∷ l) is, none)
      | false ↦ λ e. ([], xs, ap (λ b. b ∷ xs) (eqb-true x 64 (grind arith)), e)
    ] in
    step (list_any is_at xs) refl

pub whole_round : (xs : List ℕ) → list_any is_at xs ≡ true → xs ≡ before_by is_at xs ++ 64 ∷ suffix_by is_at xs
whole_round xs h =
    let (ys, zs, is, none) = split_last xs h in
    let before : before_by is_at xs ≡ ys = ap (before_by is_at) is ∙ before_round is_at ys 64 zs refl none in
    let after : suffix_by is_at xs ≡ zs = ap (suffix_by is_at) is ∙ (cut_round is_at ys 64 zs refl none).1 in
    is ∙ ap (λ l. l ++ 64 ∷ zs) (sym before) ∙ ap (λ l. before_by is_at xs ++ 64 ∷ l) (sym after)

told : (at version name : Bool) (key read : Key)
    → cond (not at) (Err NoVersion) (cond (not version) (Err BadVersion) (cond (not name) (Err BadName) (Ok key))) ≡ Ok read →
    (at ≡ true) × (key ≡ read)
told false version name key read e = absurd (cc)
told true false name key read e = absurd (cc)
told true true false key read e = absurd (cc)
told true true true key read e = (refl, cc)

any_dropped : (xs : List ℕ) → list_any is_at (drop 1 xs) ≡ true → list_any is_at xs ≡ true
any_dropped [] h = h
any_dropped (x ∷ xs) h = or_right (is_at x) (list_any is_at xs) h

alone : (text : List ℕ) (key : Key) → key_of text ≡ Ok key → text ≡ key_text key.name key.version
alone text key e =
    let read : Key = record { name = before_by is_at text; version = suffix_by is_at text } in
    let (at, is) = told (list_any is_at (drop 1 text)) (is_version (suffix_by is_at text)) (is_name (before_by is_at text)) read key e in
    whole_round text (any_dropped text at) ∙ ap (λ k. key_text k.name k.version) is

-- `@` stands past the first place
past_front : (name version : List ℕ) → IsTrue (is_name name) → list_any is_at (drop 1 (name ++ 64 ∷ version)) ≡ true
past_front [] version h = absurd (grind arith)
past_front (b ∷ bs) version h = list_any-append is_at bs (64 ∷ version) ∙ or_right (list_any is_at bs) true refl

written : (key : Key) → IsTrue (is_name key.name) → IsTrue (is_version key.version) → key_of (key_text key.name key.version) ≡ Ok key
written key n v =
    let none = version_not_at key.version v in
    let at = past_front key.name key.version n in
    let before = before_round is_at key.name 64 key.version refl none in
    let after = (cut_round is_at key.name 64 key.version refl none).1 in
    rw (at, before, after) (rw (v, n) refl)

pub key_texts : KeyTexts
key_texts = record { written = written; alone = alone }

-- ---- for the code

-- what was written is split again
pub written_again : (key : Key) (r : Result (List ℕ) NoMemory) → IsTrue (is_name key.name) → IsTrue (is_version key.version)
    → IfOk r (λ t. t ≡ key_text key.name key.version) → IfOk r (λ t. key_of t ≡ Ok key)
written_again key (Ok t) name version is = ap key_of is ∙ written key name version
written_again key (Err e) name version is = tt

bad_name : (text : List ℕ) → list_any is_at (drop 1 text) ≡ true → is_version (suffix_by is_at text) ≡ true →
    is_name (before_by is_at text) ≡ false → key_of text ≡ Err BadName
bad_name text at version name = rw (at, version, name) refl

as_told : {f : KeyFault} → Some BadName ≡ Some f → ◌≡◌ {A = Result Key KeyFault} (Err BadName) (Err f)
as_told {f} told = cc

-- a text that is refused as a name is none
no_name : (text : List ℕ) (fault : NameFault) (v : Option NameFault) → name_fault text ≡ v → option_map_or Err v (Ok text) ≡ Err fault →
    is_name text ≡ false
no_name text fault None e h = absurd (cc)
no_name text fault (Some f) e h = faulty_name text f e

told_fault : (text : List ℕ) (e : NameError) → Gives fault_told (Err e) (name_of (before_by is_at text)) → list_any is_at (drop 1 text) ≡ true
    → is_version (suffix_by is_at text) ≡ true → Gives key_fault_told (Err (key_error_of e)) (key_of text)
told_fault text name_error.NoMemory h at version refusal none = cc
told_fault text name_error.Empty h at version refusal told =
    bad_name text at version (no_name (before_by is_at text) faults.Empty (name_fault (before_by is_at text)) refl (h faults.Empty refl)) ∙ as_told told
told_fault text (name_error.TooLong n) h at version refusal told =
    bad_name text at version (no_name (before_by is_at text) (faults.TooLong n) (name_fault (before_by is_at text)) refl (h (faults.TooLong n) refl))
    ∙ as_told told
told_fault text (name_error.BadByte n) h at version refusal told =
    bad_name text at version (no_name (before_by is_at text) (faults.BadByte n) (name_fault (before_by is_at text)) refl (h (faults.BadByte n) refl))
    ∙ as_told told
told_fault text name_error.LeadingDot h at version refusal told =
    bad_name text at version (no_name (before_by is_at text) faults.LeadingDot (name_fault (before_by is_at text)) refl (h faults.LeadingDot refl))
    ∙ as_told told

-- a fault of the name, told as a fault of the key
pub refused : (text name version : List ℕ) (e : NameError) (r : Result Key KeyError) → IsErrAnd r (λ k. k ≡ key_error_of e) →
    Gives fault_told (Err e) (name_of name)
    → list_any is_at (drop 1 text) ≡ true → name ≡ before_by is_at text → version ≡ suffix_by is_at text → is_version version ≡ true →
    Gives key_fault_told r (key_of text)
refused text name version e (Ok key) h reads at front after is = absurd h
refused text name version e (Err k) h reads at front after is =
    let P : KeyError → Type 0 = λ k. Gives key_fault_told (Err k) (key_of text) in
    let Q : List ℕ → Type 0 = λ n. Gives fault_told (Err e) (name_of n) in
    subst P (sym h) (told_fault text e (subst Q front reads) at (rw after at is))
