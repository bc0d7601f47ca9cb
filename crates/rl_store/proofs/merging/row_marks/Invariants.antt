use Rattle.std.proofs.Common.{◌≡◌, map, take}
use Rattle.rl_book_spec.specs.Closing.{is_key_of}
use Rattle.rl_store.proofs.merging.row_marks.Given as goal

-- the rows so far are marked
abbrev pub invariant-rows : goal.invariant-rows
invariant-rows l = l.marks.items ≡ map (λ stored. is_key_of (record l.registry { rows = take l.number l.registry.rows }) stored.key) l.pairs
