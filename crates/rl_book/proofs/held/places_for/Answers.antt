use Rattle.std.proofs.Common.{ap, arith, refl, ◌∙◌}
use Rattle.rl_view_spec.specs.Closure.{Registered}
use Rattle.rl_book.specs.Held.{gifts_at}
use Rattle.rl_book.proofs.HeldLemmas.{gifts_more, named_more}
use Rattle.rl_book.proofs.held.places_for.Goals as goal

pub loop-row-preserved : goal.loop-row-preserved
loop-row-preserved c =
    let r : Registered = c.args.registry.now in record {
      low = omega (arith, c.loop-row-test.true, c.count-row-end.ensures.value);
      gifts =
          ap (gifts_at c.args.parts.now c.args.store.now.pairs) c.in_ok-push.ensures.items
          ∙ gifts_more c.args.parts.now c.args.debug c.args.store.now.pairs r.rows c.loop-row.row c.row_at.result.now c.row_at.ensures r c.args.firsts.now
          c.first_at-first.result c.loop-row.places.items c.place_for-place.result refl c.requires c.first_at-first.ensures c.place_for-place.ensures.given
          c.loop-row.invariant.gifts;
      named =
          named_more c.args.parts.now c.args.debug c.args.store.now.pairs r.rows c.loop-row.row c.row_at.result.now c.row_at.ensures r c.args.firsts.now
          c.first_at-first.result refl c.requires c.first_at-first.ensures c.place_for-place.ensures.named c.loop-row.invariant.named;
    }
