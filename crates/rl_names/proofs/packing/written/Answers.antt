use Rattle.std.proofs.Common.{◌≡◌, ◌+◌, ◌++◌, [], ◌∷◌, ◌==◌, ◌≤◌, length, take, map, cond, ap, sym, ◌∙◌, arith}
use Rattle.std.proofs.Common.{append_assoc}
use Rattle.std.specs.List.{join_with_byte}
use Rattle.std.proofs.lemmas.List.{take_more, map-append, length-map, length-take-le}
use Rattle.rl_names.specs.Grouping.{group_written}
use Rattle.rl_names.proofs.GroupingLemmas.{join_more}
use Rattle.rl_names.proofs.packing.written.Goals as goal

pub groups-preserved : goal.groups-preserved
groups-preserved c =
    let xs = c.args.groups.now in
    let i = c.groups.i in
    let y = c.index-groups-i.result in
    let text = group_written (map (λ n. n.now) y.items) in
    let done = map (λ group. group_written (map (λ n. n.now) group.items)) (take i xs) in
    let grown : map (λ group. group_written (map (λ n. n.now) group.items)) (take (i + 1) xs) ≡ done ++ text ∷ [] =
    ap (map (λ group. group_written (map (λ n. n.now) group.items)))
    (take_more xs i y c.groups-test.true ∙ ap (λ z. take i xs ++ z ∷ []) (sym c.index-groups-i.is))
    ∙ map-append (λ group. group_written (map (λ n. n.now) group.items)) (take i xs) (y ∷ []) in
    let within : i ≤ length xs = omega arith in
    let at : length done ≡ i = length-map (take i xs) (λ group. group_written (map (λ n. n.now) group.items)) ∙ length-take-le i xs within in
    c.in_ok-push_group.ensures
    ∙ ap (λ l. l ++ group_written (map (λ n. n.now) c.deref.result.now))
    (c.in_ok-push_str.ensures.bytes ∙ ap (λ l. l ++ c.bar.result.now) c.groups.invariant ∙ ap (λ l. join_with_byte 124 done ++ l) c.bar.ensures)
    ∙ ap (λ l. (join_with_byte 124 done ++ cond (i == 0) [] (124 ∷ [])) ++ group_written (map (λ n. n.now) l)) c.deref.ensures.value
    ∙ append_assoc (join_with_byte 124 done) (cond (i == 0) [] (124 ∷ [])) text
    ∙ sym (join_more 124 done i text at) ∙ ap (join_with_byte 124) (sym grown)
