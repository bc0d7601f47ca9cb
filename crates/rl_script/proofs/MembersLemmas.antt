-- The members of an array, as a list.
use Rattle.std.proofs.Common.{◌≡◌, ◌∙◌, Vec, Global, List, [], ◌∷◌, Option, Some, None, map, refl, ap, sym}
use Rattle.std.specs.Prelude.{option_and_then, option_map, unwrap_or}
use Rattle.serde_json.specs.Find.{as_array}
use Rattle.serde_json.specs.Read.{read}
use Rattle.rl_names.specs.declared.row.Dep.TheVariants.{Named}
use Rattle.rl_view_spec.specs.Closure.{Text}
use Rattle.rl_script_spec.specs.declared.Line.TheVariants.{Faulty}
use Rattle.serde_json.specs.Data.{Data, Items}
use Rattle.serde_json.specs.View.{view, items_of, items_view}
use Rattle.serde_json.specs.declared.value.Value.{Value, Array}
use Rattle.serde_json.proofs.Views.{view-Array}
use Rattle.rl_script_spec.specs.Grammar.{deps_in, line_of, members_line, members_of, texts_in, texts_of}

members_of-items_of : (ds : List Data) → members_of (items_of ds) ≡ ds
members_of-items_of [] = refl
members_of-items_of (d ∷ ds) = ap (λ xs. d ∷ xs) (members_of-items_of ds)

pub members_view : (vs : List Value) → members_of (items_view vs) ≡ map view vs
members_view vs = members_of-items_of (map view vs)

-- the texts of an array
pub array_texts : (value : Value) (values : Vec Value Global) → value ≡ Array values → texts_in (view value) ≡ texts_of (map view values.items)
array_texts value values is = rw (is, view-Array values, members_view values.items) refl

-- the dependencies of an array
pub array_deps : (value : Value) (values : List Value) → Some (items_view values) ≡ as_array (view value) →
    deps_in (view value) ≡ option_map (map Named) (texts_of (map view values))
array_deps value values is =
    ap (λ (items : Option Items). option_map (map Named) (option_and_then (λ items. texts_of (members_of items)) items)) (sym is)
    ∙ ap (λ (members : List Data). option_map (map Named) (texts_of members)) (members_view values)

-- what a line says that is an array, and one that is none
pub array_line : (text : Text) (value : Value) (values : List Value) → read text ≡ Some (view value) → Some (items_view values) ≡ as_array (view value)
    → line_of text ≡ unwrap_or (members_line (map view values)) Faulty
array_line text value values spelt is =
    ap (λ (read : Option Data). unwrap_or (option_and_then (λ items. members_line (members_of items)) (option_and_then as_array read)) Faulty) spelt
    ∙ ap (λ (items : Option Items). unwrap_or (option_and_then (λ items. members_line (members_of items)) items) Faulty) (sym is)
    ∙ ap (λ (members : List Data). unwrap_or (members_line members) Faulty) (members_view values)

pub other_line : (text : Text) (value : Value) → read text ≡ Some (view value) → None ≡ as_array (view value) → line_of text ≡ Faulty
other_line text value spelt none =
    ap (λ (read : Option Data). unwrap_or (option_and_then (λ items. members_line (members_of items)) (option_and_then as_array read)) Faulty) spelt
    ∙ ap (λ (items : Option Items). unwrap_or (option_and_then (λ items. members_line (members_of items)) items) Faulty) (sym none)
