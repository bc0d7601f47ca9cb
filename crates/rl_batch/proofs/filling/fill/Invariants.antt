use Rattle.std.proofs.Common.{◌≡◌, ◌+◌, ◌≤◌, ℕ, List, true, length, map, take}
use Rattle.std.specs.Prelude.{bytes_eq}
use Rattle.std.specs.BTreeSet.{contains_by}
use Rattle.std.specs.List.{list_all, list_any}
use Rattle.std.specs.Ordering.{nat_cmp}
use Rattle.std.specs.Cmp.Lexicographic.{slice_cmp}
use Rattle.rl_names.specs.Packing.{front_of}
use Rattle.rl_names.specs.Query.{query_text}
use Rattle.rl_book_spec.specs.Batches.{Numbered, collected_len, names_in}
use Rattle.rl_batch.specs.Split.{is_split, seen, Open}
use Rattle.rl_batch.proofs.filling.fill.Given as goal

-- the rows so far are one batch, and these are its fronts and its length
abbrev pub invariant-rows : goal.invariant-rows
invariant-rows l = record {
  low : l.len ≤ l.room + 1024;
  len : l.len ≡ collected_len (names_in (map seen (take l.at l.rows)));
  fronts : (q : List ℕ) → contains_by (λ k. slice_cmp nat_cmp q k.now) l.fronts
      ≡ list_any (λ x. bytes_eq x q) (map front_of (names_in (map seen (take l.at l.rows))));
  split : list_all (λ (other : Numbered). is_split l.first other.1) (map seen (take l.at l.rows)) ≡ true;
  cut : Open (length (query_text l.base)) l.limit (map seen l.rows) l.at;
}
