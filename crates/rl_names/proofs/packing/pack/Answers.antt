use Rattle.std.proofs.Common.{map}
use Rattle.rl_names.proofs.GroupingLemmas.{groups_pack, expands_again}
use Rattle.rl_names.proofs.packing.pack.Goals as goal

pub returns-clause-text : goal.returns-clause-text
returns-clause-text c =
    rw (
      c.deref.ensures.value,
      groups_pack (λ group. map (λ n. n.now) group.items) c.in_ok-groups.groups.items c.args.names.now
          c.in_ok-groups.ensures.grouped,
    ) at c.written.ensures

pub returns-clause-expands : goal.returns-clause-expands
returns-clause-expands c =
    expands_again c.args.names.now c.written.result
    (rw (
      c.deref.ensures.value,
      groups_pack (λ group. map (λ n. n.now) group.items) c.in_ok-groups.groups.items c.args.names.now
          c.in_ok-groups.ensures.grouped,
    ) at c.written.ensures)
    c.in_ok-groups.ensures.names
