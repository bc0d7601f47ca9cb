use Rattle.std.proofs.Common.{◌≡◌, ◌-◌, ◌<◌, ℕ, List, length, take, set, get_or, arith, sym, ◌∙◌}
use Rattle.std.proofs.lemmas.Bool.{eq-eqb, ne_eqb}
use Rattle.std.proofs.lemmas.List.{take_more, get_or-set_same}
use Rattle.rl_graph.specs.Reversed.{times}
use Rattle.rl_graph.proofs.ReleasingLemmas.{releases_none, releases_some, releases_last, room_for}
use Rattle.rl_graph.proofs.ranks.release.Goals as goal
use Rattle.rl_graph.proofs.ranks.release.Goals.{then-left-at-eq0+in_ok-push, else-left-at-eq0}

pub loop-number-init : goal.loop-number-init
loop-number-init c = releases_none c.args.left.now c.args.ranked.now.items

pub overflow_sub-left : goal.overflow_sub-left
overflow_sub-left c =
    let x : ℕ = get_or c.args.numbers.now c.loop-number.number-index 0 in
    omega (
      arith,
      c.loop-number.invariant.fewer x,
      room_for c.args.numbers.now c.loop-number.number-index c.args.left.now c.loop-number-test.true
          c.requires.enough,
    )

pub loop-number-preserved : goal.loop-number-preserved
loop-number-preserved c =
    let i : c.loop-number.number-index < length c.args.numbers.now = omega arith in
    let x : ℕ = get_or c.args.numbers.now c.loop-number.number-index 0 in
    let ns : List ℕ = take c.loop-number.number-index c.args.numbers.now in
    let low : x < length c.args.left.now = c.requires.low c.loop-number.number-index 0 i in
    let room : times x ns < get_or c.args.left.now x 0 = room_for c.args.numbers.now c.loop-number.number-index c.args.left.now i c.requires.enough in
    let there : x < length c.loop-number.left = omega (arith, c.loop-number.invariant.long) in
    let now : get_or (set c.loop-number.left x (get_or c.loop-number.left x 0 - 1)) x 0
    ≡ get_or c.loop-number.left x 0 - 1 = get_or-set_same c.loop-number.left x (get_or c.loop-number.left x 0 - 1) 0 there in
    rw (take_more c.args.numbers.now c.loop-number.number-index 0 i)
    (elim c.if-left-at-eq0.branch [
      | then-left-at-eq0+in_ok-push w ↦
          rw (w.ranked-is, w.in_ok-push.ensures.items)
          (releases_last x ns c.args.left.now c.loop-number.left c.args.ranked.now.items c.loop-number.ranked.items c.loop-number.invariant low room
          (eq-eqb (get_or c.loop-number.left x 0 - 1) 0 (sym now ∙ w.if-left-at-eq0.true)))
      | else-left-at-eq0 w ↦
          rw w.ranked-is
          (releases_some x ns c.args.left.now c.loop-number.left c.args.ranked.now.items c.loop-number.ranked.items c.loop-number.invariant low room
          (ne_eqb (get_or c.loop-number.left x 0 - 1) 0 (λ z. w.if-left-at-eq0.false (now ∙ z))))
    ])
