use Rattle.std.proofs.Common.{rules, ap, ◌-◌, ℕ, List, take, drop, Err}
use Rattle.rl_http.specs.declared.hand.Hand.TheVariants as hands
use Rattle.rl_http.proofs.ServingLemmas.{begins, read_more, broke, answered, broke_answer, ends_here, ends_bad, ends_long, goes_next, ends_asked, serves_broken}
use Rattle.rl_http.proofs.ServingLemmas.{rose_since, has_here, sends_here, front_here, peer_by}
use Rattle.rl_http.proofs.SentLemmas.{front_none}
use Rattle.rl_http.specs.Serving.{moment}
use Rattle.rl_http.proofs.serving.serve_by.Goals as goal

pub requests-init : goal.requests-init
requests-init g c = record {
  progress = begins _ _ _ _ _ _ c.new-inbox.ensures c.new-out.ensures.items;
  catalogue = search rules;
  keeper = search rules;
  later = search rules;
  room = search rules;
}

pub returns-in-Err-answer-clause-serves : goal.returns-in-Err-answer-clause-serves
returns-in-Err-answer-clause-serves g c =
    serves_broken _ _ _ _ _ _ _ _ _ c.in-Err-answer.error c.end_by.ensures
    (broke_answer _ _ _ _ _ _ _ _ c.requests.inbox c.requests.out.items c.requests.invariant.progress
    (moment c.answer.new.desk.entries (g.K.Keeper.faults c.answer.new.desk.keeper)) _ _ _ c.in-Ok-Whole.head c.in-Ok-Whole.from c.in-Ok-Whole.to _
    (has_here _ _ (hands.Whole c.in-Ok-Whole.head c.in-Ok-Whole.from c.in-Ok-Whole.to) c.rest.ensures (rw c.in-Ok-Whole.field-0-is at c.in-Ok-Whole.ensures))
    (ap (λ (i : List ℕ). take (c.in-Ok-Whole.to - c.in-Ok-Whole.from) (drop c.in-Ok-Whole.from i)) c.rest-in-Ok-Whole.ensures)
    (front_here _ _ _ _ _ c.in-Ok-Whole.head
    (take (c.in-Ok-Whole.to - c.in-Ok-Whole.from) (drop c.in-Ok-Whole.from c.rest-in-Ok-Whole.result.now)) _ _ _
    c.requests.invariant.catalogue c.in-Err-answer.ensures.front)
    c.in-Err-answer.ensures.keeper c.in-Err-answer.ensures.left_stays c.saturating_add-requests.ensures)

pub returns-in-Err-answer-clause-peer_fault : goal.returns-in-Err-answer-clause-peer_fault
returns-in-Err-answer-clause-peer_fault g c =
    peer_by c.in-Err-answer.error c.end_by.result _ c.end_by.ensures
    (λ e. rose_since _ _ _ c.requests.invariant.later (c.in-Err-answer.ensures.failed (ap Err e)))

pub returns-then-head-clause-serves : goal.returns-then-head-clause-serves
returns-then-head-clause-serves g c =
    ends_asked _ _ _ _ _ _ _ _ c.in-Ok-Whole.head (drop c.in-Ok-Whole.to c.requests.inbox) c.answer.new.out.items
    (answered _ _ _ _ _ _ _ _ c.requests.inbox c.requests.out.items c.requests.invariant.progress
    (moment c.answer.new.desk.entries (g.K.Keeper.faults c.answer.new.desk.keeper)) _ _ _ c.in-Ok-Whole.head c.in-Ok-Whole.from c.in-Ok-Whole.to _ _
    (has_here _ _ (hands.Whole c.in-Ok-Whole.head c.in-Ok-Whole.from c.in-Ok-Whole.to) c.rest.ensures (rw c.in-Ok-Whole.field-0-is at c.in-Ok-Whole.ensures))
    (ap (λ (i : List ℕ). take (c.in-Ok-Whole.to - c.in-Ok-Whole.from) (drop c.in-Ok-Whole.from i)) c.rest-in-Ok-Whole.ensures)
    (sends_here _ _ _ _ _ c.in-Ok-Whole.head
    (take (c.in-Ok-Whole.to - c.in-Ok-Whole.from) (drop c.in-Ok-Whole.from c.rest-in-Ok-Whole.result.now)) _ _ _ _
    c.requests.invariant.catalogue c.in_default.ensures.whole)
    c.in_default.ensures.left_stays c.saturating_add-requests.ensures)
    _ _ _ c.if-head.true c.finish-end.ensures.left_stays c.finish-end.ensures.finishes

pub returns-then-head-clause-peer_fault : goal.returns-then-head-clause-peer_fault
returns-then-head-clause-peer_fault g c = λ e.
    rose_since _ _ _ c.requests.invariant.later (rose_since _ _ _ c.in_default.ensures.never_falls (c.finish-end.ensures.failed (λ q. cc) e))

pub requests-preserved-in-Ok-Whole : goal.requests-preserved-in-Ok-Whole
requests-preserved-in-Ok-Whole g c = record {
  progress =
      goes_next _ _ _ _ _ _ _ _ c.in-Ok-Whole.head (drop c.in-Ok-Whole.to c.requests.inbox) c.answer.new.out.items
      (answered _ _ _ _ _ _ _ _ c.requests.inbox c.requests.out.items c.requests.invariant.progress
      (moment c.answer.new.desk.entries (g.K.Keeper.faults c.answer.new.desk.keeper)) _ _ _ c.in-Ok-Whole.head c.in-Ok-Whole.from c.in-Ok-Whole.to _ _
      (has_here _ _ (hands.Whole c.in-Ok-Whole.head c.in-Ok-Whole.from c.in-Ok-Whole.to) c.rest.ensures (rw c.in-Ok-Whole.field-0-is at c.in-Ok-Whole.ensures))
      (ap (λ (i : List ℕ). take (c.in-Ok-Whole.to - c.in-Ok-Whole.from) (drop c.in-Ok-Whole.from i)) c.rest-in-Ok-Whole.ensures)
      (sends_here _ _ _ _ _ c.in-Ok-Whole.head
      (take (c.in-Ok-Whole.to - c.in-Ok-Whole.from) (drop c.in-Ok-Whole.from c.rest-in-Ok-Whole.result.now)) _ _ _ _
      c.requests.invariant.catalogue c.in_default.ensures.whole)
      c.in_default.ensures.left_stays c.saturating_add-requests.ensures)
      c.if-head.false c.pass.new.self c.pass.ensures;
  catalogue = search rules;
  keeper = search rules;
  later = search rules;
  room = search rules;
}

pub returns-in-Ok-eq0-clause-serves : goal.returns-in-Ok-eq0-clause-serves
returns-in-Ok-eq0-clause-serves g c =
    ends_here _ _ _ _ _ _ _ _ c.requests.inbox c.requests.out.items c.requests.invariant.progress
    _ _ c.more.new.inbox _
    (has_here _ _ hands.More c.rest.ensures (rw c.in-Ok-More.field-0-is at c.in-Ok-More.ensures))
    c.in-Ok-eq0.ensures.took (c.in-Ok-eq0.ensures.none (search rules)) c.in-Ok-eq0.ensures.whole (search rules)

pub requests-preserved : goal.requests-preserved
requests-preserved g c = record {
  progress =
      read_more _ _ _ _ _ _ _ _ c.requests.inbox c.requests.out.items c.requests.invariant.progress
      _ _ c.more.new.inbox c.more.new.out.items c.in-Ok.ensures.took c.in-Ok.ensures.whole c.in-Ok.ensures.empty;
  catalogue = search rules;
  keeper = search rules;
  later = search rules;
  room = search rules;
}

pub returns-in-Err-more-clause-serves : goal.returns-in-Err-more-clause-serves
returns-in-Err-more-clause-serves g c =
    serves_broken _ _ _ _ _ _ _ _ _ c.in-Err-more.error c.end_by-in-Err-more.ensures
    (broke _ _ _ _ _ _ _ _ c.requests.inbox c.requests.out.items c.requests.invariant.progress
    _ _ c.more.new.inbox c.in-Err-more.ensures.took c.in-Err-more.ensures.front)

pub returns-in-Err-more-clause-peer_fault : goal.returns-in-Err-more-clause-peer_fault
returns-in-Err-more-clause-peer_fault g c =
    peer_by c.in-Err-more.error c.end_by-in-Err-more.result _ c.end_by-in-Err-more.ensures
    (λ e. rose_since _ _ _ c.requests.invariant.later (c.in-Err-more.ensures.failed (ap Err e)))

pub returns-in-Ok-Bad-clause-serves : goal.returns-in-Ok-Bad-clause-serves
returns-in-Ok-Bad-clause-serves g c =
    ends_bad _ _ _ _ _ _ _ _ c.requests.inbox c.requests.out.items c.requests.invariant.progress
    _ _ c.in-Ok-Bad.code _
    (has_here _ _ (hands.Bad c.in-Ok-Bad.code) c.rest.ensures (rw c.in-Ok-Bad.field-0-is at c.in-Ok-Bad.ensures))
    c.refuse-end.ensures.left_stays c.refuse-end.ensures.finishes

pub returns-in-Ok-Bad-clause-peer_fault : goal.returns-in-Ok-Bad-clause-peer_fault
returns-in-Ok-Bad-clause-peer_fault g c = λ e. rose_since _ _ _ c.requests.invariant.later (c.refuse-end.ensures.failed e)

pub returns-in-Ok-TooLong-clause-serves : goal.returns-in-Ok-TooLong-clause-serves
returns-in-Ok-TooLong-clause-serves g c =
    ends_long _ _ _ _ _ _ _ _ c.requests.inbox c.requests.out.items c.requests.invariant.progress
    _ _ _
    (has_here _ _ hands.TooLong c.rest.ensures (rw c.in-Ok-TooLong.field-0-is at c.in-Ok-TooLong.ensures))
    c.finish-end-in-Ok-TooLong.ensures.left_stays c.finish-end-in-Ok-TooLong.ensures.finishes

pub returns-in-Ok-TooLong-clause-peer_fault : goal.returns-in-Ok-TooLong-clause-peer_fault
returns-in-Ok-TooLong-clause-peer_fault g c = λ e. rose_since _ _ _ c.requests.invariant.later (c.finish-end-in-Ok-TooLong.ensures.failed (λ q. cc) e)

pub returns-in-Err-clause-serves : goal.returns-in-Err-clause-serves
returns-in-Err-clause-serves g c =
    broke _ _ _ _ _ _ _ _ c.requests.inbox c.requests.out.items c.requests.invariant.progress
    _ _ c.requests.inbox (search rules) (front_none _ _) _
