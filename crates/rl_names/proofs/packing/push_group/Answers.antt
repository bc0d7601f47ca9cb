use Rattle.std.proofs.Common.{◌≡◌, ◌+◌, ◌++◌, [], ◌∷◌, ◌==◌, ◌≤◌, length, take, map, cond, ap, sym, ◌∙◌, arith}
use Rattle.std.proofs.Common.{string_bytes, append_assoc}
use Rattle.std.proofs.lemmas.List.{take_more, map-append, length-map, length-take-le}
use Rattle.rl_names.specs.Grouping.{group_written}
use Rattle.rl_names.specs.Packing.{front_of, suffix_of}
use Rattle.rl_names.proofs.GroupingLemmas.{written_more}
use Rattle.rl_names.proofs.packing.push_group.Goals as goal

pub names-preserved : goal.names-preserved
names-preserved c =
    let xs = c.args.group.now in
    let i = c.names.i in
    let y = c.index-group-i.result in
    let done = map (λ n. n.now) (take i xs) in
    let grown : map (λ n. n.now) (take (i + 1) xs) ≡ done ++ y.now ∷ [] =
    ap (map (λ n. n.now)) (take_more xs i y c.names-test.true ∙ ap (λ z. take i xs ++ z ∷ []) (sym c.index-group-i.is))
    ∙ map-append (λ n. n.now) (take i xs) (y ∷ []) in
    let within : i ≤ length xs = omega arith in
    let at : length done ≡ i = length-map (take i xs) (λ n. n.now) ∙ length-take-le i xs within in
    let front : c.cut.result.0.now ≡ front_of y.now = c.cut.ensures.front ∙ ap front_of c.as_str.ensures in
    let suffix : c.cut.result.1.now ≡ suffix_of y.now = c.cut.ensures.suffix ∙ ap suffix_of c.as_str.ensures in
    let lead : c.lead.result.now ≡ cond (i == 0) (front_of y.now) (44 ∷ []) = c.lead.ensures ∙ ap (λ f. cond (i == 0) f (44 ∷ [])) front in
    c.in_ok-push_str-2.ensures.bytes
    ∙ ap (λ l. l ++ c.cut.result.1.now) (c.in_ok-push_str.ensures.bytes ∙ ap (λ l. l ++ c.lead.result.now) c.names.invariant)
    ∙ ap (λ l. ((string_bytes c.args.out.now ++ group_written done) ++ l) ++ c.cut.result.1.now) lead
    ∙ ap (λ l. ((string_bytes c.args.out.now ++ group_written done) ++ cond (i == 0) (front_of y.now) (44 ∷ [])) ++ l) suffix
    ∙ append_assoc (string_bytes c.args.out.now ++ group_written done) (cond (i == 0) (front_of y.now) (44 ∷ [])) (suffix_of y.now)
    ∙ append_assoc (string_bytes c.args.out.now) (group_written done) (cond (i == 0) (front_of y.now) (44 ∷ []) ++ suffix_of y.now)
    ∙ ap (λ l. string_bytes c.args.out.now ++ l) (sym (written_more done i y.now at) ∙ ap group_written (sym grown))
