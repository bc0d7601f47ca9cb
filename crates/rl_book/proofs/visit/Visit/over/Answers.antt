use Rattle.std.proofs.Common.{Global, refl}
use Rattle.std.specs.declared.vec.Vec.{Vec}
use Rattle.rl_book_spec.specs.Traffic.{Traffic}
use Rattle.rl_book_spec.specs.declared.Call.{Call}
use Rattle.rl_book_spec.specs.declared.Plan.{Plan}
use Rattle.rl_store.specs.Stock.{Stock}
use Rattle.rl_book.specs.Held.{gifts_at}
use Rattle.rl_book.specs.declared.opening.Ready.{Ready}
use Rattle.rl_book.specs.declared.visit.Visit.TheInside.{Inside}
use Rattle.rl_book.proofs.OpenedLemmas.{fresh_kept, is_opened, ready_fresh}
use Rattle.rl_book.proofs.visit.Visit.over.Goals as goal

abbrev made : Global → Ready → Plan → Stock → Traffic → Vec Call Global → Inside
made alloc ready plan store requests calls = record {
  alloc = alloc;
  startup = ready.startup;
  plan = plan;
  held = record {
    embedded = ready.embedded.items;
    store = store;
    gifts = gifts_at ready.embedded.items store.pairs ready.places.items;
  };
  table = ready.table;
  delivered = ready.delivered;
  requests = requests;
  calls = calls;
  runs = ready.runs;
}

pub invariant_of-result : goal.invariant_of-result
invariant_of-result c =
    let i : Inside = made c.args.alloc c.args.ready c.args.plan c.args.store c.new.result c.new-2.result in
    fresh_kept i c.requires.ready.1.said
    (ready_fresh i c.args.ready c.requires.ready.0 c.requires.ready.1 c.requires.base refl refl refl refl refl c.new.ensures c.new-2.ensures.items)

pub returns : goal.returns
returns c = λ startup is.
    let i : Inside = made c.args.alloc c.args.ready c.args.plan c.args.store c.new.result c.new-2.result in
    is_opened i c.args.ready startup is
    (ready_fresh i c.args.ready startup is c.requires.base refl refl refl refl refl c.new.ensures c.new-2.ensures.items) refl refl
