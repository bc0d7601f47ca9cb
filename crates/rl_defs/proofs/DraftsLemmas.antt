-- A draft from what was taken out of a table, and the order of its names.
use Rattle.std.proofs.Common.{◌≡◌, ℕ, List, [], ◌∷◌, map, Bool, true, false, cond, Option, Some, None, String, Global, Less, string_bytes}
use Rattle.std.proofs.Common.{nat_cmp, codes, refl, ap}
use Rattle.std.specs.Prelude.{option_and_then}
use Rattle.std.specs.Cmp.Lexicographic.{slice_cmp}
use Rattle.std.specs.List.{AllByRecursion, list_all}
use Rattle.std.specs.Option.{option_map_or, option_or}
use Rattle.std.specs.List.Sorted.{IsStrictlySortedBy}
use Rattle.std.specs.Map.{keys_of}
use Rattle.std.specs.Str.{IsUtf8}
use Rattle.std.specs.String.{string_cmp}
use Rattle.std.proofs.lemmas.Str.{IsUtf8-string_bytes}
use Rattle.toml.specs.Data.{Data, Members, no_members, member, get_member, as_str}
use Rattle.toml.specs.View.{members_view}
use Rattle.toml.proofs.Views.{Entry}
use Rattle.rl_defs.specs.Ascending.{IsAscending}
use Rattle.rl_defs.specs.Named.{AreNames}
use Rattle.rl_defs.specs.Draft.{files_of, modules_of, may_skip}
use Rattle.rl_defs.specs.Reading.{inside, is_feature, if_feature, feature_of}

-- a module is skipped for a feature that was read
is_read : (text : List ℕ) (b : Bool) → is_feature text ≡ b → option_map_or is_feature (option_or (cond b (Some text) None) None) true ≡ true
is_read text true is = is
is_read text false is = refl

text_skips : (o : Option (List ℕ)) → option_map_or is_feature (option_or (option_and_then if_feature o) None) true ≡ true
text_skips None = refl
text_skips (Some text) = is_read text (is_feature text) refl

skips : (o : Option Data) → option_map_or is_feature (option_or (option_and_then feature_of o) None) true ≡ true
skips None = refl
skips (Some d) = text_skips (as_str d)

pub all_skip : (ms : Members) → list_all may_skip (modules_of ms) ≡ true
all_skip no_members = refl
all_skip (member key d ms) = rw (skips (get_member (codes "skip") (inside d)), all_skip ms) refl

-- the keys of a map are names in order
above_names : (k : String Global) (es : List Entry) → AllByRecursion (λ y. string_cmp k y ≡ Less) (keys_of es) →
    AllByRecursion (λ y. slice_cmp nat_cmp (string_bytes k) y ≡ Less) (map (λ f. f.name) (files_of (members_view es)))
above_names k [] above = tt
above_names k (e ∷ es) above = (above.0, above_names k es above.1)

files_ascend : (es : List Entry) → IsStrictlySortedBy string_cmp (keys_of es) → IsAscending (map (λ f. f.name) (files_of (members_view es)))
unfolding IsStrictlySortedBy
files_ascend [] ordered = tt
files_ascend (e ∷ es) ordered = (above_names e.0 es ordered.0, files_ascend es ordered.1)

same_names : (es : List Entry) → map (λ f. f.name) (files_of (members_view es)) ≡ map (λ m. m.name) (modules_of (members_view es))
same_names [] = refl
same_names (e ∷ es) = ap (λ names. string_bytes e.0 ∷ names) (same_names es)

file_texts : (es : List Entry) → AllByRecursion IsUtf8 (map (λ f. f.name) (files_of (members_view es)))
file_texts [] = tt
file_texts (e ∷ es) = (IsUtf8-string_bytes e.0, file_texts es)

pub file_names : (es : List Entry) → IsStrictlySortedBy string_cmp (keys_of es) → AreNames (map (λ f. f.name) (files_of (members_view es)))
file_names es ordered = record { ascend = files_ascend es ordered; texts = file_texts es }

pub module_names : (es : List Entry) → IsStrictlySortedBy string_cmp (keys_of es) → AreNames (map (λ m. m.name) (modules_of (members_view es)))
module_names es ordered = rw (← same_names es) (file_names es ordered)
