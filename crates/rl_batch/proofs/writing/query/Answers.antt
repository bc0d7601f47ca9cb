use Rattle.std.proofs.Common.{◌≡◌, ap, ap₂, ◌∙◌, map}
use Rattle.std.specs.List.{filter_map}
use Rattle.rl_names.specs.Hash.{combined}
use Rattle.rl_names.specs.Packing.{pack, packed_order}
use Rattle.rl_view_spec.specs.Closure.{Text}
use Rattle.rl_book_spec.specs.Batches.{names_in, versions_in}
use Rattle.rl_batch.specs.Split.{seen, version_at}
use Rattle.rl_batch.proofs.VersionsLemmas.{versions_same}
use Rattle.rl_batch.proofs.writing.query.Goals as goal

pub returns : goal.returns
returns c =
    let r = c.args.registry.now in
    let rows = map seen c.args.rows.now in
    let names : c.deref.result.now ≡ names_in rows = c.deref.ensures.value ∙ c.in_ok-names.ensures in
    let again : c.deref-3.result.now ≡ names_in rows = c.deref-3.ensures.value ∙ c.in_ok-names.ensures in
    let order : c.deref-2.result.now ≡ packed_order (names_in rows) = c.deref-2.ensures.value ∙ (c.in_ok-order.ensures ∙ ap packed_order names) in
    let versions : c.deref-4.result.now ≡ versions_in rows (packed_order (names_in rows)) =
    c.deref-4.ensures.value ∙ (c.in_ok-versions.ensures ∙ (ap (filter_map (version_at r)) order ∙ versions_same r rows c.requires)) in
    ap₂ (λ (modules version : Text). record c.args.base { modules = modules; version = version })
    (c.in_ok-query.ensures.text ∙ ap pack again)
    (c.in_ok-query-2.ensures ∙ (c.as_str.ensures.value ∙ (c.combined.ensures ∙ ap combined versions)))
