use Rattle.std.proofs.Common.{◌≡◌, List, map, drop, sym, ap, ◌∙◌}
use Rattle.std.specs.Vec.Iter.{into_iter_items}
use Rattle.serde_json.specs.View.{view}
use Rattle.serde_json.specs.declared.value.Value.{Value}
use Rattle.rl_wire.specs.StartupReading.{next_field}
use Rattle.rl_wire.proofs.StartupLoopingLemmas.{row_made}
use Rattle.rl_wire.proofs.read_rows.row_of.Goals as goal

pub returns-clause-value : goal.returns-clause-value
returns-clause-value c =
    let all : map view (into_iter_items c.into_iter-fields.result)
    ≡ map view c.args.fields.items = ap (λ (l : List Value). map view l) c.into_iter-fields.ensures.rest in
    c.if_writable.ensures.value
    ∙ row_made (map view c.args.fields.items) _ _ _ _ _ _ _ _ _ _ _ c.in-Some.name c.version_in-version.result c.of.result c.group_in-group.result
    c.source_in-source.result c.text_in-skip.result
    (c.next_field.ensures.value ∙ ap next_field all) (c.next_field.ensures.rest ∙ ap (drop 1) all) c.next_field-2.ensures.value c.next_field-2.ensures.rest
    c.next_field-3.ensures.value c.next_field-3.ensures.rest
    c.next_field-4.ensures.value c.next_field-4.ensures.rest c.next_field-5.ensures.value c.next_field-5.ensures.rest c.next_field-6.ensures.value
    (sym c.in-Some.is ∙ c.name_in.ensures) c.version_in-version.ensures (c.of.ensures ∙ c.in_ok-deps.ensures) c.group_in-group.ensures
    c.source_in-source.ensures c.text_in-skip.ensures
