use Rattle.std.proofs.Common.{◌<◌, ap, subst, length, ◌∙◌, arith, sym}
use Rattle.rl_book_spec.specs.Traffic.{Traffic, after_delivery}
use Rattle.rl_book_spec.specs.declared.Asked.{Asked}
use Rattle.rl_batch.proofs.KeptLemmas.{delivered, kept_delivered}
use Rattle.rl_batch.proofs.requests.Requests.deliver.Goals as goal

pub returns : goal.returns
returns c =
    let low : c.args.ask < length c.self.inside.asks.items = omega (arith, c.requires, ap (λ (t : Traffic). length t.asks) c.self.view_is) in
    let within : c.index.result.now.batch < length c.self.inside.batches.items =
    subst (λ (a : Asked). a.batch < length c.self.inside.batches.items) (sym c.index.ensures) (c.self.invariant.asked c.args.ask c.index.result.now low) in
    delivered (record { batches = c.self.inside.batches.items; waiting = c.self.inside.waiting.items; asks = c.self.inside.asks.items }) c.args.ask
    c.index.result.now
    c.mark_delivered.new.batches.items c.leave.new.waiting.items low c.index.ensures within c.mark_delivered.ensures c.leave.ensures.items
    ∙ ap (λ (t : Traffic). after_delivery t c.args.ask) c.self.view_is

pub invariant_of-self : goal.invariant_of-self
invariant_of-self c =
    let low : c.args.ask < length c.self.inside.asks.items = omega (arith, c.requires, ap (λ (t : Traffic). length t.asks) c.self.view_is) in
    let within : c.index.result.now.batch < length c.self.inside.batches.items =
    subst (λ (a : Asked). a.batch < length c.self.inside.batches.items) (sym c.index.ensures) (c.self.invariant.asked c.args.ask c.index.result.now low) in
    kept_delivered c.self.inside.batches.items c.self.inside.waiting.items c.self.inside.asks.items _ c.index.result.now.batch
    c.mark_delivered.new.batches.items c.leave.new.waiting.items _ c.self.invariant within c.mark_delivered.ensures c.leave.ensures.items
    c.leave.ensures.capacity
