use Rattle.std.proofs.Common.{Some}
use Rattle.std.proofs.lemmas.Map.Text.{btree_map_updates_str}
use Rattle.rl_names.proofs.packing.place_of.Goals as goal

pub returns-clause-noted : goal.returns-clause-noted
returns-clause-noted c = λ q. btree_map_updates_str c.args.front.now c.args.places.now c.insert.new.self (Some c.args.next) c.in_ok-insert.ensures.updates q
