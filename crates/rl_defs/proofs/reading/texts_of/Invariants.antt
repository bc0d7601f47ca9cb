use Rattle.std.proofs.Common.{◌≡◌, ◌++◌}
use Rattle.std.specs.Vec.Iter.{into_iter_items}
use Rattle.toml.specs.View.{items_view}
use Rattle.rl_defs.specs.Reading.{are_texts, texts_among}
use Rattle.rl_defs.proofs.reading.texts_of.Given as goal

-- the texts so far, and those among the items that are left, which answer for all
abbrev pub invariant-items : goal.invariant-items
invariant-items l =
    (l.texts.items ++ texts_among (items_view (into_iter_items l.item-iterator)) ≡ texts_among (items_view (into_iter_items l.initial.item-iterator)))
    × (are_texts (items_view (into_iter_items l.item-iterator)) ≡ are_texts (items_view (into_iter_items l.initial.item-iterator)))
