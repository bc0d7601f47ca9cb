use Rattle.std.proofs.Common.{◌≡◌, nat_cmp, refl, ◌∙◌, rules}
use Rattle.std.specs.Cmp.Lexicographic.{slice_cmp}
use Rattle.std.proofs.lemmas.Fn.{answers_by}
use Rattle.rl_defs.proofs.SearchLemmas.{searched}
use Rattle.rl_defs.proofs.named.place_of.Goals as goal

-- the closure compares a name with the one looked for
pub returns : goal.returns
returns g c =
    let facts = c.binary_search_by.ensures in
    let by_name = facts.position (λ x. slice_cmp nat_cmp (g.T.Named.name_of x) c.args.name.now)
    (answers_by _ _ (λ f. f.0.now ≡ c.args.name.now) (λ f a r h called same. (search (rules, same), search (rules, same))) _ refl) in
    let known = searched g.T.Named.name_of c.args.name.now c.args.values.now c.requires.ascend _ facts.bound by_name in
    record { place = c.ok.ensures.value ∙ known.place; found = search rules }
