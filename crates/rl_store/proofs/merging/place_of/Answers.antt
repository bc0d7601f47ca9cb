use Rattle.std.proofs.Common.{◌≡◌, nat_cmp, refl, rules}
use Rattle.std.specs.Cmp.Lexicographic.{slice_cmp}
use Rattle.std.proofs.lemmas.Fn.{answers_by}
use Rattle.rl_names.specs.Name.{key_text}
use Rattle.rl_book_spec.specs.declared.Stored.{Stored}
use Rattle.rl_book_spec.specs.Closing.{key_bytes}
use Rattle.rl_store.proofs.SearchLemmas.{searched}
use Rattle.rl_store.proofs.merging.place_of.Goals as goal

-- the closure compares a key with the one looked for
pub returns : goal.returns
returns c =
    let facts = c.binary_search_by.ensures in
    let text = key_text c.args.name.now c.args.version.now in
    let by_key = facts.position (λ (x : Stored). slice_cmp nat_cmp (key_bytes x.key) text)
    (answers_by _ _ (λ f. (f.0.now ≡ c.args.name.now) × (f.1.now ≡ c.args.version.now)) (λ f a r h called same. (search (rules, same), search (rules, same))) _
    (refl, refl)) in
    let known = searched (λ (x : Stored). key_bytes x.key) text c.args.pairs.now c.requires _ facts.bound by_key in
    record { found = search rules; place = search rules; within = search rules }
