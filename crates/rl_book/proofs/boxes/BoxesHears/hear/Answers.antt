use Rattle.std.proofs.Common.{◌∙◌, ap, map}
use Rattle.std.specs.List.{list_any}
use Rattle.std.proofs.lemmas.List.{take_at}
use Rattle.rl_book.proofs.TurnsLemmas.{asked_same}
use Rattle.rl_book.proofs.boxes.BoxesHears.hear.Goals as goal

pub returns-clause-threw : goal.returns-clause-threw
returns-clause-threw g c = rw (← c.as_mut_slice.ensures.value) c.tell_each.ensures.threw

pub returns-clause-fixed : goal.returns-clause-fixed
returns-clause-fixed g c k s =
    ap (list_any (λ o. (goal.Observer-dyn g (o.vtable, o.value)).throws o.value k s))
    (take_at c.tell_each.new.observers _ _ (c.tell_each.auto.observers ∙ c.as_mut_slice.ensures.len))
    ∙ asked_same (λ o. (goal.Observer-dyn g (o.vtable, o.value)).throws o.value k s) _ _ (c.tell_each.ensures.fixed k s)
    ∙ ap (list_any (λ o. (goal.Observer-dyn g (o.vtable, o.value)).throws o.value k s)) c.as_mut_slice.ensures.value

pub returns-clause-same : goal.returns-clause-same
returns-clause-same g c first before =
    let whole = take_at c.tell_each.new.observers _ _ (c.tell_each.auto.observers ∙ c.as_mut_slice.ensures.len) in (
      ap (map (λ o. o.ptr)) whole ∙ c.tell_each.ensures.same.0 ∙ ap (map (λ o. o.ptr)) c.as_mut_slice.ensures.value ∙ before.0,
      ap (map (λ o. o.vtable)) whole ∙ c.tell_each.ensures.same.1 ∙ ap (map (λ o. o.vtable)) c.as_mut_slice.ensures.value ∙ before.1,
      λ k s.
          ap (map (λ o. (goal.Observer-dyn g (o.vtable, o.value)).throws o.value k s)) whole
          ∙ c.tell_each.ensures.fixed k s
          ∙ ap (map (λ o. (goal.Observer-dyn g (o.vtable, o.value)).throws o.value k s)) c.as_mut_slice.ensures.value
          ∙ before.2 k s,
    )
