use Rattle.std.proofs.Common.{◌≡◌, ◌∙◌, Some, None, rules}
use Rattle.std.proofs.lemmas.Map.Text.{btree_map_updates_str}
use Rattle.rl_startup.specs.Places.{place_by}
use Rattle.rl_startup.proofs.PlacesLemmas.{added}
use Rattle.rl_startup.proofs.places.note.Goals as goal

pub returns : goal.returns
returns c =
    let none : place_by c.args.places.now c.args.text.now ≡ None = search rules in
    λ q. btree_map_updates_str c.args.text.now c.args.places.now c.insert.new.self (Some c.args.place) c.in_ok-insert.ensures.updates q
    ∙ added (place_by c.args.places.now) c.args.text.now q c.args.place none
