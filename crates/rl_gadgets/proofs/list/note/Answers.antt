use Rattle.std.proofs.Common.{true, cond, ap, ◌∙◌}
use Rattle.std.specs.Prelude.{bytes_eq}
use Rattle.std.specs.BTreeSet.{contains_text}
use Rattle.std.proofs.lemmas.Map.Text.{btree_set_updates_text}
use Rattle.rl_gadgets.proofs.list.note.Goals as goal

pub returns-clause-noted : goal.returns-clause-noted
returns-clause-noted c = λ q.
    btree_set_updates_text _ c.args.names.now c.insert.new.self true c.in_ok-insert.ensures.updates q
    ∙ ap (λ text. cond (bytes_eq text q) true (contains_text c.args.names.now q)) c.in_ok-key.ensures.ok
