use Rattle.std.proofs.Common.{arith, ap, ◌≡◌, count_by, ◌∙◌, Bool}
use Rattle.rl_store.specs.Merging.{stays}
use Rattle.rl_store.proofs.MarksLemmas.{length_marks}
use Rattle.rl_store.proofs.PickedLemmas.{length_picked}
use Rattle.rl_store.proofs.merging.prepare.Goals as goal

pub returns-clause-room : goal.returns-clause-room
returns-clause-room c =
    let n = length_picked c.in_ok-marks.marks.items c.args.pairs.now
    (length_marks (stays c.args.registry.now c.as_slice.result.now) c.args.pairs.now c.in_ok-marks.marks.items c.in_ok-marks.ensures) in
    let m : c.count_of-count.result ≡ count_by (λ (mark : Bool). mark) c.in_ok-marks.marks.items =
    c.count_of-count.ensures ∙ ap (count_by (λ (mark : Bool). mark)) c.as_slice-2.ensures.value in
    omega (arith, n, m, c.in_ok-reserve.ensures.ok)

pub returns-clause-few : goal.returns-clause-few
returns-clause-few c =
    let n = length_picked c.in_ok-marks.marks.items c.args.pairs.now
    (length_marks (stays c.args.registry.now c.as_slice.result.now) c.args.pairs.now c.in_ok-marks.marks.items c.in_ok-marks.ensures) in
    let m : c.count_of-count.result ≡ count_by (λ (mark : Bool). mark) c.in_ok-marks.marks.items =
    c.count_of-count.ensures ∙ ap (count_by (λ (mark : Bool). mark)) c.as_slice-2.ensures.value in
    let k = c.in_ok-reserve.ensures.len in
    omega (arith, n, m, k, c.if-count-len.false, c.len-else-len-gt-MAX_PAIRS.ensures, c.if-len-gt-MAX_PAIRS.false)
