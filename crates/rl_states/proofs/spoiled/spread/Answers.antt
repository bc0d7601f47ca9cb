use Rattle.std.proofs.Common.{◌≡◌, ◌<◌, ◌≤◌, ◌+◌, ◌*◌, ℕ, List, [], ◌∷◌, ◌++◌, Bool, Option, None, Some, length, get_or}
use Rattle.std.proofs.Common.{refl, sym, ◌∙◌, subst, ap, arith}
use Rattle.std.specs.Prelude.{All, sum_by}
use Rattle.std.proofs.lemmas.List.Elements.{Contains-get_or}
use Rattle.std.proofs.lemmas.List.Sums.{sum_by-append}
use Rattle.rl_graph.specs.Graph.{next_in}
use Rattle.rl_states.specs.Counted.{Held}
use Rattle.rl_states.specs.declared.cell.Mark.{Mark}
use Rattle.rl_states.specs.Spoiled.{AreLinked, all_pushed, left, spoiled_in, weight}
use Rattle.rl_states.proofs.PassingLemmas.{Next, Passing, Pushes, all_passed, first_row, next_of, none_pending, passing_begun, passing_done, passing_more}
use Rattle.rl_states.proofs.PassingLemmas.{pushed_long, pushes_all, pushes_one}
use Rattle.rl_states.proofs.spoiled.spread.Goals as goal

-- with these marks
abbrev with : Held → List Mark → Held
with held marks = record held { marks = marks }

-- pushes, by what the call answered
as_answered : (rows : List ℕ) (marks marks' now : List Mark) (head' first : Option ℕ) (pending : List ℕ) → Pushes rows marks now first pending →
    marks' ≡ now → head' ≡ first → Pushes rows marks marks' head' pending
as_answered rows marks marks' now head' first pending p m h =
    subst (λ (o : Option ℕ). Pushes rows marks marks' o pending) (sym h) (subst (λ (ms : List Mark). Pushes rows marks ms first pending) (sym m) p)

-- what a row had to spend is spent on those that need it
spent : (w : ℕ → ℕ) (row n now read done before after added total : ℕ) (pending rest : List ℕ) → w row ≡ 32 + 3 * n →
    pending ≡ row ∷ rest → now + before + sum_by w pending ≤ total → read ≡ now + 1 → done ≤ read + 3 * n
    → added + after ≡ before → done + after + (added + sum_by w rest) ≤ total
spent w row n now read done before after added total pending rest weighs is cost one all weighed =
    let first : sum_by w pending ≡ (0 + w row) + sum_by w rest = ap (sum_by w) is ∙ sum_by-append w (row ∷ []) rest in
    omega (arith, first, weighs, cost, one, all, weighed)

pub loop-turn-init : goal.loop-turn-init
loop-turn-init g c =
    let p : Pushes (c.args.row ∷ []) c.args.held.now.marks c.push-head.new.held.marks c.push-head.result [] =
    as_answered (c.args.row ∷ []) c.args.held.now.marks c.push-head.new.held.marks _ c.push-head.result _ []
    (pushes_one c.args.held.now.marks None [] c.args.row c.requires.low refl) (ap (λ (h : Held). h.marks) c.push-head.ensures.marks)
    c.push-head.ensures.head in record {
      pending = p.added ++ [];
      rest = c.push-head.ensures.marks ∙ ap (with c.args.held.now) (sym (ap (λ (h : Held). h.marks) c.push-head.ensures.marks));
      passing = passing_begun c.args.held.now.users c.args.row c.args.held.now.marks c.push-head.new.held.marks c.push-head.result
          c.requires.long c.requires.closed p;
      cost = omega (arith, c.push-head.ensures.cost, p.weighed (weight c.args.held.now.users), sum_by-append (weight c.args.held.now.users) p.added []);
    }

pub returns-in-None-clause-spreads : goal.returns-in-None-clause-spreads
returns-in-None-clause-spreads g c =
    passing_done c.args.held.now.users c.args.row (spoiled_in c.args.held.now.marks) c.loop-turn.held.marks c.loop-turn.head
    c.loop-turn.invariant.pending c.loop-turn._turn
    c.loop-turn.invariant.passing
    (none_pending c.loop-turn.held.marks c.loop-turn.head c.loop-turn.invariant.pending c.loop-turn.invariant.passing.linked c.in-None.is)

pub returns-in-None-clause-cost : goal.returns-in-None-clause-cost
returns-in-None-clause-cost g c = omega (arith, c.loop-turn.invariant.cost)

pub mark-mark-requires : goal.mark-mark-requires
mark-mark-requires g c =
    first_row c.loop-turn.held.marks c.in-Some.at c.loop-turn.invariant.pending
    (subst (λ (o : Option ℕ). AreLinked c.loop-turn.held.marks o c.loop-turn.invariant.pending) c.in-Some.is c.loop-turn.invariant.passing.linked)

pub push_users-head-requires-clause-row : goal.push_users-head-requires-clause-row
push_users-head-requires-clause-row g c =
    omega (
      arith,
      c.loop-turn.invariant.passing.long,
      ap (λ (h : Held). length h.users) c.loop-turn.invariant.rest,
      first_row c.loop-turn.held.marks c.in-Some.at c.loop-turn.invariant.pending
          (subst (λ (o : Option ℕ). AreLinked c.loop-turn.held.marks o c.loop-turn.invariant.pending) c.in-Some.is c.loop-turn.invariant.passing.linked),
    )

pub push_users-head-requires-clause-low : goal.push_users-head-requires-clause-low
push_users-head-requires-clause-low g c =
    let same : c.loop-turn.held.users ≡ c.args.held.now.users = ap (λ (h : Held). h.users) c.loop-turn.invariant.rest in
    subst (λ (users : List (List ℕ)). All (λ user. user < length c.loop-turn.held.marks) (next_in users c.in-Some.at)) (sym same) (λ k d low.
    let us = next_in c.args.held.now.users c.in-Some.at in
    let within : get_or us k d < length c.args.held.now.users = c.requires.within c.in-Some.at (get_or us k d) (Contains-get_or us k d low) in
    omega (arith, within, c.loop-turn.invariant.passing.long))

pub loop-turn-preserved : goal.loop-turn-preserved
loop-turn-preserved g c =
    let users : List (List ℕ) = c.args.held.now.users in
    let before : List Bool = spoiled_in c.args.held.now.marks in
    let pending : List ℕ = c.loop-turn.invariant.pending in
    let same : c.loop-turn.held.users ≡ users = ap (λ (h : Held). h.users) c.loop-turn.invariant.rest in
    let start : List Mark × Option ℕ = (c.loop-turn.held.marks, c.mark-mark.result.next) in
    let noted : c.push_users-head.new.held.marks ≡ (all_pushed start (next_in users c.in-Some.at)).0 =
    ap (λ (h : Held). h.marks) c.push_users-head.ensures.marks ∙ ap (λ (us : List (List ℕ)). (all_pushed start (next_in us c.in-Some.at)).0) same in
    let first : c.push_users-head.result ≡ (all_pushed start (next_in users c.in-Some.at)).1 =
    c.push_users-head.ensures.head ∙ ap (λ (us : List (List ℕ)). (all_pushed start (next_in us c.in-Some.at)).1) same in
    let entries : length (next_in c.loop-turn.held.users c.in-Some.at) ≡ length (next_in users c.in-Some.at) =
    ap (λ (us : List (List ℕ)). length (next_in us c.in-Some.at)) same in
    let p : Passing users c.args.row before c.loop-turn.held.marks c.loop-turn.head pending c.loop-turn._turn = c.loop-turn.invariant.passing in
    let linked : AreLinked c.loop-turn.held.marks (Some c.in-Some.at) pending =
    subst (λ (o : Option ℕ). AreLinked c.loop-turn.held.marks o pending) c.in-Some.is p.linked in
    let next : Next c.loop-turn.held.marks c.in-Some.at c.mark-mark.result pending =
    next_of c.loop-turn.held.marks c.in-Some.at c.mark-mark.result pending c.mark-mark.ensures.value linked in
    let low : All (λ user. user < length c.loop-turn.held.marks) (next_in users c.in-Some.at) = λ k d inside.
    omega (arith, c.requires.within c.in-Some.at (get_or (next_in users c.in-Some.at) k d) (Contains-get_or (next_in users c.in-Some.at) k d inside), p.long) in
    let q : Pushes (next_in users c.in-Some.at) c.loop-turn.held.marks c.push_users-head.new.held.marks c.push_users-head.result next.rest =
    as_answered (next_in users c.in-Some.at) c.loop-turn.held.marks c.push_users-head.new.held.marks _ c.push_users-head.result _ next.rest
    (pushes_all (next_in users c.in-Some.at) c.loop-turn.held.marks c.mark-mark.result.next next.rest low next.linked) noted first in record {
      pending = q.added ++ next.rest;
      rest = c.push_users-head.ensures.marks
          ∙ ap (λ (h : Held). with h (all_pushed (c.loop-turn.held.marks, c.mark-mark.result.next) (next_in c.loop-turn.held.users c.in-Some.at)).0)
          c.loop-turn.invariant.rest
          ∙ ap (with c.args.held.now) (sym (ap (λ (h : Held). h.marks) c.push_users-head.ensures.marks));
      passing = passing_more users c.args.row before c.loop-turn.held.marks c.push_users-head.new.held.marks c.loop-turn.head
          c.push_users-head.result c.loop-turn._turn
          c.in-Some.at pending next.rest c.requires.closed p next.noted next.is q;
      cost = subst (λ (n : ℕ). c.push_users-head.new.steps + left (weight users) (spoiled_in c.push_users-head.new.held.marks) + n ≤
          c.args.steps.now + left
          (weight users) before + 2) (sym (sum_by-append (weight users) q.added next.rest))
          (spent (weight users) c.in-Some.at (length (next_in users c.in-Some.at)) c.loop-turn.steps c.mark-mark.new.steps c.push_users-head.new.steps _ _ _ _
          pending next.rest refl next.is
          c.loop-turn.invariant.cost c.mark-mark.ensures.cost (omega (arith, c.push_users-head.ensures.cost, entries)) (q.weighed (weight users)));
    }

pub returns-clause-spreads : goal.returns-clause-spreads
returns-clause-spreads g c =
    passing_done c.args.held.now.users c.args.row (spoiled_in c.args.held.now.marks) c.loop-turn.held.marks c.loop-turn.head
    c.loop-turn.invariant.pending c.loop-turn._turn
    c.loop-turn.invariant.passing
    (all_passed c.args.held.now.users c.args.row (spoiled_in c.args.held.now.marks) c.loop-turn.held.marks c.loop-turn.head
    c.loop-turn.invariant.pending c.loop-turn._turn
    c.loop-turn.invariant.passing
    (omega (
      arith,
      c.loop-turn.invariant.passing.long,
      c.requires.long,
      ap (λ (h : Held). length h.marks) c.push-head.ensures.marks,
      pushed_long c.args.held.now.marks None c.args.row,
      c.rows-turn-end.ensures.marks,
      c.loop-turn-test.false,
    )))

pub returns-clause-cost : goal.returns-clause-cost
returns-clause-cost g c = omega (arith, c.loop-turn.invariant.cost)
