-- What was read, beside the values that it is.
use Rattle.std.proofs.Common.{◌≡◌, ℕ, Bool, true, false, List, [], ◌∷◌, ◌++◌, map, Vec, Global, String, BTreeMap, Less, string_bytes, nat_cmp}
use Rattle.std.proofs.Common.{Option, Some, None, option_map, option_to_list, IsUtf8, refl, sym, ap, subst, ◌∙◌}
use Rattle.std.specs.Prelude.{⊤}
use Rattle.std.specs.Cmp.Lexicographic.{slice_cmp}
use Rattle.std.specs.List.{AllByRecursion}
use Rattle.std.specs.List.Sorted.{IsStrictlySortedBy}
use Rattle.std.specs.Map.{keys_of}
use Rattle.std.specs.Str.{is_utf8}
use Rattle.std.specs.String.{string_cmp}
use Rattle.std.proofs.lemmas.Str.{IsUtf8-from_is_utf8, is_utf8-from_IsUtf8}
use Rattle.serde_json.specs.Data.{Data, Members, array, member, no_members}
use Rattle.serde_json.specs.Read.{read}
use Rattle.serde_json.specs.Find.{as_array, as_object, as_str}
use Rattle.serde_json.specs.View.{view, items_of as items_of_view, items_view, members_view}
use Rattle.serde_json.specs.declared.value.Value.{Value, Array, Object}
use Rattle.serde_json.proofs.Views.{view-Array, view-Object, Entry}
use Rattle.rl_names.specs.declared.part.Message.{Message}
use Rattle.rl_names.specs.declared.part.Source.{Source}
use Rattle.rl_wire.specs.Message.{AreAscending}
use Rattle.rl_wire.specs.Arguments.{listed, list_in}
use Rattle.rl_wire.specs.Reading.{messages_among}
use Rattle.rl_wire.specs.Startup.{AreOrdered}
use Rattle.rl_wire.specs.StartupReading.{sources_among}

no_list : (text : List ℕ) (b : Bool) → is_utf8 text ≡ b → (IsUtf8 text → read text ≡ None) → None ≡ list_in text
no_list text true e none = rw (e, none (IsUtf8-from_is_utf8 text e)) refl
no_list text false e none = rw e refl

-- no JSON, no list
pub not_read : (text : List ℕ) → (IsUtf8 text → read text ≡ None) → None ≡ list_in text
not_read text none = no_list text (is_utf8 text) refl none

pub read_as : (text : List ℕ) (d : Data) → IsUtf8 text → read text ≡ Some d → list_in text ≡ option_map listed (as_array d)
read_as text d u is = rw (is_utf8-from_IsUtf8 text u, is) refl

items_back : (ds : List Data) → listed (items_of_view ds) ≡ ds
items_back [] = refl
items_back (d ∷ ds) = ap (λ xs. d ∷ xs) (items_back ds)

-- the list that an array is
pub array_read : (text : List ℕ) (value : Value) (values : Vec Value Global) → IsUtf8 text → read text ≡ Some (view value) →
    value ≡ Array values → Some (map view values.items) ≡ list_in text
array_read text value values u is same =
    let seen : view value ≡ array (items_view values.items) = ap view same ∙ view-Array values in
    sym (read_as text (view value) u is ∙ ap (λ d. option_map listed (as_array d)) seen ∙ ap Some (items_back (map view values.items)))

-- the values of an array
pub array_values : (value : Value) (values : Vec Value Global) → value ≡ Array values →
    Some (map view values.items) ≡ option_map listed (as_array (view value))
array_values value values same =
    let seen : view value ≡ array (items_view values.items) = ap view same ∙ view-Array values in
    sym (ap (λ d. option_map listed (as_array d)) seen ∙ ap Some (items_back (map view values.items)))

-- the members that an object is
pub object_read : (value : Value) (members : BTreeMap (String Global) Value) → value ≡ Object members →
    Some (members_view members.entries) ≡ as_object (view value)
object_read value members same = sym (ap as_object (ap view same ∙ view-Object members))

-- ---- what is made of an object's texts stands in the order of its keys

module _ {X : Type 0} (key : X → List ℕ) (make : List ℕ → List ℕ → X) (keyed : (name text : List ℕ) → key (make name text) ≡ name) where
  -- this name stands before the key of each
  abbrev Below : List ℕ → List X → Type 0
  Below name xs = AllByRecursion (λ (x : X). slice_cmp nat_cmp name (key x) ≡ Less) xs

  abbrev Ascends : List X → Type 0
  Ascends [] = ⊤
  Ascends (x ∷ xs) = Below (key x) xs × Ascends xs

  abbrev made : Members → List X
  made no_members = []
  made (member name d ms) = option_to_list (option_map (make name) (as_str d)) ++ made ms

  below_more : (k name : List ℕ) (o : Option (List ℕ)) (xs : List X) → slice_cmp nat_cmp k name ≡ Less → Below k xs →
      Below k (option_to_list (option_map (make name) o) ++ xs)
  below_more k name None xs is below = below
  below_more k name (Some text) xs is below = (subst (λ (n : List ℕ). slice_cmp nat_cmp k n ≡ Less) (sym (keyed name text)) is, below)

  ascends_more : (name : List ℕ) (o : Option (List ℕ)) (xs : List X) → Below name xs → Ascends xs →
      Ascends (option_to_list (option_map (make name) o) ++ xs)
  ascends_more name None xs below ascends = ascends
  ascends_more name (Some text) xs below ascends = (subst (λ (n : List ℕ). Below n xs) (sym (keyed name text)) below, ascends)

  made_below : (k : String Global) (es : List Entry) → AllByRecursion (λ y. string_cmp k y ≡ Less) (keys_of es) →
      Below (string_bytes k) (made (members_view es))
  made_below k [] above = tt
  made_below k (e ∷ es) above =
      below_more (string_bytes k) (string_bytes e.0) (as_str (view e.1)) (made (members_view es)) above.0 (made_below k es above.1)

  made_ascends : (es : List Entry) → IsStrictlySortedBy string_cmp (keys_of es) → Ascends (made (members_view es))
  unfolding IsStrictlySortedBy
  made_ascends [] ordered = tt
  made_ascends (e ∷ es) ordered =
      ascends_more (string_bytes e.0) (as_str (view e.1)) (made (members_view es)) (made_below e.0 es ordered.0) (made_ascends es ordered.1)

pub messages_ascend : (es : List Entry) → IsStrictlySortedBy string_cmp (keys_of es) → AreAscending (messages_among (members_view es))
messages_ascend es ordered = made_ascends (λ (m : Message). m.key) (λ name text. record { key = name; text = text }) (λ name text. refl) es ordered

pub sources_ordered : (es : List Entry) → IsStrictlySortedBy string_cmp (keys_of es) → AreOrdered (sources_among (members_view es))
sources_ordered es ordered = made_ascends (λ (s : Source). s.name) (λ name text. record { name = name; url = text }) (λ name text. refl) es ordered
