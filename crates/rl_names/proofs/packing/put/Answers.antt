use Rattle.std.proofs.Common.{◌++◌, ◌∷◌, [], map, rules, ap, ◌∙◌}
use Rattle.std.proofs.lemmas.List.{map-append}
use Rattle.rl_names.proofs.GroupingLemmas.{put_within, put_behind}
use Rattle.rl_names.proofs.packing.put.Goals as goal

pub returns-then-place-len : goal.returns-then-place-len
returns-then-place-len c =
    put_within _ c.args.groups.now.items c.args.place c.push.new.self c.index_mut.result.now c.args.name.now (search rules)
    (ap (map (λ n. n.now)) c.in_ok-push.ensures.items ∙ map-append (λ n. n.now) c.index_mut.result.now.items (c.args.name ∷ [])
    ∙ ap (λ g. map (λ n. n.now) g.items ++ c.args.name.now ∷ []) c.index_mut.ensures.value)

pub returns : goal.returns
returns c =
    put_behind _ c.args.groups.now.items c.push-3.new.self.items c.args.place c.push-2.new.self c.args.name.now c.in_ok-push-3.ensures.items (search rules)
    (ap (map (λ n. n.now)) (c.in_ok-push-2.ensures.items ∙ ap (λ l. l ++ c.args.name ∷ []) c.new-group.ensures.items))
