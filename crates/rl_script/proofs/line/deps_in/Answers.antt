use Rattle.std.proofs.Common.{◌≡◌, ◌∙◌, [], List, map, Option, Some, Bor, ap}
use Rattle.std.specs.Prelude.{option_map}
use Rattle.std.specs.Option.{option_map_or}
use Rattle.serde_json.specs.View.{items_view, view}
use Rattle.serde_json.specs.declared.value.Value.{Value}
use Rattle.rl_names.specs.declared.row.Dep.TheVariants.{Named}
use Rattle.rl_script_spec.specs.Grammar.{deps_in, texts_of}
use Rattle.rl_script.proofs.MembersLemmas.{array_deps}
use Rattle.rl_script.proofs.line.deps_in.Goals as goal

pub returns : goal.returns
returns c =
    let said : option_map_or deps_in (option_map (λ (v : Bor Value). view v.now) c.args.member) (Some [])
    ≡ option_map (map Named) (texts_of (map view c.as_slice.result.now)) =
    ap (λ (member : Option (Bor Value)). option_map_or deps_in (option_map (λ (v : Bor Value). view v.now) member) (Some [])) c.in-Some.is
    ∙ array_deps c.in-Some.value.now c.as_slice.result.now
    (ap (λ (values : List Value). Some (items_view values)) c.as_slice.ensures.value ∙ c.in-Some-as_array.ensures) in
    rw said c.deps_of.ensures
