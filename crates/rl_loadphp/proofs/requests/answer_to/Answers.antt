use Rattle.std.proofs.Common.{◌≡◌, ◌∙◌, map, ap}
use Rattle.rl_names.specs.Packing.{distinct, expand}
use Rattle.rl_build.specs.Sight.{sight}
use Rattle.rl_build.specs.Payload.{version_of}
use Rattle.rl_loadphp.specs.Served.{is_own, names_of, names_viewer, query_context, served, missing, payloads}
use Rattle.rl_loadphp.specs.Body.{body_of}
use Rattle.rl_loadphp.specs.Answer.{age_with, age_of}
use Rattle.rl_loadphp.proofs.SortingLemmas.{served_names, missing_names, same_answer, told}
use Rattle.rl_loadphp.proofs.PartsLemmas.{same_parts}
use Rattle.rl_loadphp.proofs.requests.answer_to.Goals as goal

pub returns-clause-value : goal.returns-clause-value
returns-clause-value c =
    let s = sight c.args.catalog.now c.args.pages.now.entries c.args.viewer.now in
    let q = c.args.query.now in
    let ctx = c.in_ok-ctx.ctx in
    let sorted = c.in_ok-names-2.names in
    let own : c.in_ok-own.own ≡ is_own s q = c.in_ok-own.ensures ∙ ap (names_viewer c.args.viewer.now) c.as_str-2.ensures in
    let names : c.in_ok-names.names.items ≡ names_of q =
    c.in_ok-names.ensures ∙ ap distinct (c.deref.ensures.value ∙ c.in_ok-asked.ensures ∙ ap expand c.as_str.ensures) in
    let these : sorted.served.items ≡ served s q = served_names s q ctx _ _ _ c.in_ok-ctx.ensures own names
    c.in_ok-names-2.ensures.served in
    let others : sorted.missing.items ≡ missing s q =
    missing_names s q ctx _ _ _ c.in_ok-ctx.ensures own names c.in_ok-names-2.ensures.missing in
    let body : c.from_string.result ≡ body_of s (query_context s.catalogue q) q.only (served s q) (missing s q) =
    c.from_string.ensures ∙ c.in_ok-made.ensures.body
    ∙ ap (λ x. body_of s x q.only sorted.served.items sorted.missing.items) c.in_ok-ctx.ensures
    ∙ ap (λ names. body_of s (query_context s.catalogue q) q.only names sorted.missing.items) these
    ∙ ap (body_of s (query_context s.catalogue q) q.only (served s q)) others in
    let age : c.in_ok-made.made.max_age ≡ age_of s q =
    c.in_ok-made.ensures.age
    ∙ ap (λ x. age_with q.version (map version_of (payloads s x sorted.served.items))) c.in_ok-ctx.ensures
    ∙ ap (λ names. age_with q.version (map version_of (payloads s (query_context s.catalogue q) names))) these in
    same_answer _ _ _ _ _ _ _ _ body c.kind.ensures age (told c.is_empty.result _ q.user c.is_empty.ensures c.as_str-3.ensures)

pub returns-clause-parts : goal.returns-clause-parts
returns-clause-parts c all =
    let s = sight c.args.catalog.now c.args.pages.now.entries c.args.viewer.now in
    let q = c.args.query.now in
    let ctx = c.in_ok-ctx.ctx in
    let sorted = c.in_ok-names-2.names in
    let own : c.in_ok-own.own ≡ is_own s q = c.in_ok-own.ensures ∙ ap (names_viewer c.args.viewer.now) c.as_str-2.ensures in
    let names : c.in_ok-names.names.items ≡ names_of q =
    c.in_ok-names.ensures ∙ ap distinct (c.deref.ensures.value ∙ c.in_ok-asked.ensures ∙ ap expand c.as_str.ensures) in
    let these : sorted.served.items ≡ served s q = served_names s q ctx _ _ _ c.in_ok-ctx.ensures own names
    c.in_ok-names-2.ensures.served in
    let others : sorted.missing.items ≡ missing s q =
    missing_names s q ctx _ _ _ c.in_ok-ctx.ensures own names c.in_ok-names-2.ensures.missing in
    same_parts s ctx (query_context s.catalogue q) sorted.served.items (served s q) sorted.missing.items (missing s q)
    c.in_ok-ctx.ensures these others (c.in_ok-made.ensures.parts all)
