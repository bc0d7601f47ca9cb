use Rattle.std.proofs.Common.{◌≡◌, ◌-◌, ℕ, List, length, map, take, drop, ap, sym, ◌∙◌, arith}
use Rattle.std.specs.Borrow.{Bor}
use Rattle.std.proofs.lemmas.List.{length-map}
use Rattle.rl_names.specs.Query.{query_text}
use Rattle.rl_names.specs.declared.row.Row.{Row}
use Rattle.rl_book_spec.specs.Batches.{Numbered, base_in, query_for}
use Rattle.rl_batch.specs.Split.{head_source, numbers_in, seen}
use Rattle.rl_batch.proofs.AskedLemmas.{of_part, rest_is, told_more, within_more}
use Rattle.rl_batch.proofs.CountedLemmas.{seen_at}
use Rattle.rl_batch.proofs.CutsLemmas.{map_drop, map_take}
use Rattle.rl_batch.proofs.cut.Goals as goal

pub written-requires-clause-rows : goal.written-requires-clause-rows
written-requires-clause-rows c = of_part c.args.registry.now c.args.rows.now c.in_ok-count.count _ c.batches.at c.requires.rows

pub batches-preserved : goal.batches-preserved
batches-preserved c =
    let rows = c.args.rows.now in
    let k = c.batches.at in
    let x = c.index-rows-at.result in
    let count = c.in_ok-count.count in
    let rest = take (length rows - k) (drop k rows) in
    let part : map seen (take count rest) ≡ take count (map seen rest) = map_take seen count rest in
    record {
      within = within_more rows k count c.batches-test.true c.in_ok-count.ensures.most;
      told = told_more c.args.base.now _ c.args.limit k count (map seen rows) _ (seen x) c.batches.batches.items c.push.new.self.items _ _
          c.batches.invariant.told c.in_ok-push.ensures.items (ap (map seen) (rest_is rows k) ∙ map_drop seen k rows)
          (omega (arith, c.batches-test.true, length-map rows seen))
          (seen_at rows k x (seen x) c.batches-test.true ∙ ap seen (sym c.index-rows-at.is)) c.in_ok-count.ensures.least
          (c.in_ok-base.ensures.value ∙ ap (λ (y : ℕ × Bor Row). base_in c.args.base.now y.1.now.group) (sym c.index-rows-at.is))
          c.in_ok-count.ensures.cut
          (c.in_ok-written.ensures.source ∙ ap head_source part) (c.in_ok-written.ensures.numbers ∙ ap numbers_in part)
          (c.in_ok-written.ensures.query ∙ ap (λ (xs : List Numbered). query_text (query_for c.in_ok-base.base xs)) part);
    }
