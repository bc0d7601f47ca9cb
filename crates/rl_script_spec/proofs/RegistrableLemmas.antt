-- The rows of a script are such as a registry takes.
use Rattle.std.proofs.Common.{◌≡◌, ℕ, List, [], ◌∷◌, Bool, true, false, Option, Some, None, refl, subst, arith}
use Rattle.std.specs.Prelude.{◌+◌, ◌&&◌, ◌^◌, ◌==◌, if◌then◌else◌, is_none, is_some, length, option_map, slice_get, nat_le, nat_lt}
use Rattle.std.specs.Prelude.{unwrap_or, ⊤}
use Rattle.std.specs.List.{list_all}
use Rattle.std.specs.Option.{option_map_or}
use Rattle.std.proofs.lemmas.Bool.{and_from}
use Rattle.std.proofs.lemmas.Bool.Decides.{nat_tests}
use Rattle.rl_view_spec.proofs.ToolsLemmas.{all_each, each_all}
use Rattle.serde_json.specs.Data as json
use Rattle.serde_json.specs.Data.{Data, null}
use Rattle.serde_json.specs.Find.{as_array, as_null, as_str, as_u64}
use Rattle.serde_json.specs.Read.{read}
use Rattle.rl_names.specs.Name.{is_name, is_version}
use Rattle.rl_names.specs.declared.row.Group.{Group}
use Rattle.rl_names.specs.declared.row.Group.TheVariants.{Plain, User, Private, Other}
use Rattle.rl_names.specs.declared.row.Row.{Row}
use Rattle.rl_view_spec.specs.Closure.{Text}
use Rattle.rl_view_spec.specs.Rows.{AreRegistrable, fits_group, has_own_group, has_version_unless_private, is_other_number}
use Rattle.rl_script_spec.specs.Laws.{RowsAreRegistrable}
use Rattle.rl_script_spec.specs.Grammar.{◌>>=◌, deps_in, features_line, group_in, group_numbered, impl_line, key_in, kind_named, line_of, load_line}
use Rattle.rl_script_spec.specs.Grammar.{members_line, members_of, only_texts, or_null, row_line, source_in, skip_in, state_line, text_if, using_line}
use Rattle.rl_script_spec.specs.Grammar.{version_in, word_line}
use Rattle.rl_script_spec.specs.Script.{cut, lines_of, rows_in, said_from, said_of, is_ignored, trimmed}
use Rattle.rl_script_spec.specs.declared.Line.{Line}
use Rattle.rl_script_spec.specs.declared.Line.TheVariants.{Registers, HasFeatures, Does, Faulty}

abbrev is_registrable : Row → Bool
is_registrable row = has_version_unless_private row && has_own_group row

-- a line, or none, that is no row that a registry does not take
abbrev fits : Line → Bool
fits (Registers row) = is_registrable row
fits other = true

abbrev fits_if : Option Line → Bool
fits_if None = true
fits_if (Some line) = fits line

record Fit (line : Option Line) : Type 0 where
  holds : fits_if line ≡ true

fit : (line : Option Line) → fits_if line ≡ true → Fit line
fit line h = record { holds = h }

then_fits : {A : Type 0} (o : Option A) (f : A → Option Line) → ((a : A) → o ≡ Some a → Fit (f a)) → Fit (o >>= f)
then_fits None f h = fit None refl
then_fits (Some a) f h = h a refl

choice_fits : (b : Bool) (one other : Option Line) → Fit one → Fit other → Fit (if b then one else other)
choice_fits true one other h k = h
choice_fits false one other h k = k

two_or_more : (number : ℕ) → (number == 0) ≡ false → (number == 1) ≡ false → nat_le 2 number ≡ true
two_or_more number a b = grind (arith, nat_tests)

numbered_fits : (number : ℕ) (group : Group) → group_numbered number ≡ Some group → is_other_number group ≡ true
numbered_fits number group = step (number == 0) (number == 1) (nat_lt number (2 ^ 32)) refl refl
  where
    from : (found : Group) → is_other_number found ≡ true → Some found ≡ Some group → is_other_number group ≡ true
    from found h e = let same : found ≡ group = cc in subst (λ (g : Group). is_other_number g ≡ true) same h

    step : (user private small : Bool) → (number == 0) ≡ user → (number == 1) ≡ private
        → (if user then Some User else if private then Some Private else if small then Some (Other number) else None) ≡ Some group →
        is_other_number group ≡ true
    step true private small a b e = from User refl e
    step false true small a b e = from Private refl e
    step false false true a b e = from (Other number) (two_or_more number a b) e
    step false false false a b e = cc

group_fits : (member : Data) (group : Group) → group_in member ≡ Some group → is_other_number group ≡ true
group_fits null group e = let same : Plain ≡ group = cc in subst (λ (g : Group). is_other_number g ≡ true) same refl
group_fits (json.boolean b) group e = cc
group_fits (json.number n) group e = step (as_u64 n) e
  where
    step : (whole : Option ℕ) → (whole >>= group_numbered) ≡ Some group → is_other_number group ≡ true
    step None e = cc
    step (Some value) e = numbered_fits value group e
group_fits (json.string text) group e = cc
group_fits (json.array items) group e = cc
group_fits (json.object fields) group e = cc

version_fits : (group : Group) (member : Data) (version : Option Text) → version_in group member ≡ Some version → fits_group version group ≡ true
version_fits group member version = cases group
  where
    given : (text : Option Text) → option_map Some text ≡ Some version → is_some version ≡ true
    given None e = cc
    given (Some text) e = let same : Some text ≡ version = cc in subst (λ (v : Option Text). is_some v ≡ true) same refl

    none : (found : Option ⊤) → option_map (λ _. None) found ≡ Some version → is_none version ≡ true
    none None e = cc
    none (Some found) e = let same : None ≡ version = cc in subst (λ (v : Option Text). is_none v ≡ true) same refl

    cases : (group : Group) → version_in group member ≡ Some version → fits_group version group ≡ true
    cases Plain e = given (text_if is_version member) e
    cases User e = given (text_if is_version member) e
    cases Private e = none (as_null member) e
    cases (Other number) e = given (text_if is_version member) e

then_version : (group : Group) (member : Option Data) (version : Option Text) → (member >>= version_in group) ≡ Some version →
    fits_group version group ≡ true
then_version group None version e = cc
then_version group (Some member) version e = version_fits group member version e

row_fits : (members : List Data) → Fit (row_line members)
row_fits members =
    choice_fits (nat_lt 6 (length members)) _ _ (fit None refl)
    (then_fits (slice_get members 0 >>= text_if is_name) _ (λ named a.
    then_fits (group_in (or_null (slice_get members 3))) _ (λ grouped b.
    then_fits (slice_get members 1 >>= version_in grouped) _ (λ versioned c.
    then_fits (option_map_or deps_in (slice_get members 2) (Some [])) _ (λ needed d.
    then_fits (source_in (or_null (slice_get members 4))) _ (λ sourced e.
    then_fits (skip_in (or_null (slice_get members 5))) _ (λ skipped f.
    fit _ (and_from _ _ (then_version grouped (slice_get members 1) versioned c) (group_fits (or_null (slice_get members 3)) grouped b)))))))))

-- ---- the other words

map_fits : {A : Type 0} (o : Option A) (f : A → Line) → ((a : A) → fits (f a) ≡ true) → Fit (option_map f o)
map_fits None f h = fit None refl
map_fits (Some a) f h = fit (Some (f a)) (h a)

features_fit : (members : List Data) → Fit (features_line members)
features_fit members = map_fits (only_texts members) _ (λ texts. refl)

using_fits : (members : List Data) → Fit (using_line members)
using_fits members = map_fits (only_texts members) _ (λ texts. refl)

load_fits : (members : List Data) → Fit (load_line members)
load_fits members = map_fits (only_texts members) _ (λ texts. refl)

impl_fits : (members : List Data) → Fit (impl_line members)
impl_fits [] = fit None refl
impl_fits (key ∷ []) = fit None refl
impl_fits (key ∷ script ∷ []) = then_fits (key_in key) _ (λ keyed a. then_fits (as_str script) _ (λ text b. fit _ refl))
impl_fits (key ∷ script ∷ more ∷ members) = fit None refl

state_fits : (members : List Data) → Fit (state_line members)
state_fits members =
    choice_fits (nat_lt 2 (length members)) _ _ (fit None refl)
    (then_fits (slice_get members 0 >>= as_str) _ (λ named a. then_fits (slice_get members 1 >>= as_str) _
    (λ word b. then_fits (kind_named word) _ (λ kind c. fit _ refl))))

word_fits : (word : Text) (members : List Data) → Fit (word_line word members)
word_fits word members =
    choice_fits _ _ _ (row_fits members) (choice_fits _ _ _ (features_fit members) (choice_fits _ _ _ (using_fits members)
    (choice_fits _ _ _ (load_fits members) (choice_fits _ _ _ (impl_fits members) (choice_fits _ _ _ (state_fits members) (fit None refl))))))

line_fits : (text : Text) → fits (line_of text) ≡ true
line_fits text = or_faulty (read text >>= as_array >>= λ items. members_line (members_of items))
    (then_fits (read text >>= as_array) _ (λ items e. by_word (members_of items)))
  where
    or_faulty : (line : Option Line) → Fit line → fits (unwrap_or line Faulty) ≡ true
    or_faulty None h = refl
    or_faulty (Some line) h = h.holds

    by_word : (members : List Data) → Fit (members_line members)
    by_word [] = fit None refl
    by_word (word ∷ members) = then_fits (as_str word) _ (λ text e. word_fits text members)

-- ---- all rows

said_fits : (line : Text) → Fit (if is_ignored line then None else Some (line_of line))
said_fits line = choice_fits (is_ignored line) None (Some (line_of line)) (fit None refl) (fit (Some (line_of line)) (line_fits line))

all_fit : (number : ℕ) (texts : List Text) → list_all is_registrable (rows_in (said_from number texts)) ≡ true
all_fit number [] = refl
all_fit number (text ∷ texts) = step (said_of text) (said_fits (trimmed text)) (all_fit (number + 1) texts)
  where
    step : (said : Option Line) → Fit said → list_all is_registrable (rows_in (said_from (number + 1) texts)) ≡ true
        → list_all is_registrable (rows_in (option_map_or (λ line. (number, line) ∷ said_from (number + 1) texts) said (said_from (number + 1) texts)))
        ≡ true
    step None h rest = rest
    step (Some (Registers row)) h rest = and_from _ _ h.holds rest
    step (Some (HasFeatures features)) h rest = rest
    step (Some (Does done)) h rest = rest
    step (Some Faulty) h rest = rest

registrable : (rows : List Row) → list_all is_registrable rows ≡ true → AreRegistrable rows
registrable rows h = record {
  versions = each_all has_version_unless_private rows (λ row c.
      (both (has_version_unless_private row) (has_own_group row) (all_each is_registrable rows row h c)).0);
  groups = each_all has_own_group rows (λ row c. (both (has_version_unless_private row) (has_own_group row) (all_each is_registrable rows row h c)).1);
}
  where
    both : (a b : Bool) → (a && b) ≡ true → (a ≡ true) × (b ≡ true)
    both true true e = (refl, refl)
    both true false e = cc
    both false b e = cc

pub rows_registrable : RowsAreRegistrable
rows_registrable bytes = registrable (rows_in (lines_of bytes)) (all_fit 1 (cut bytes))
