use Rattle.std.proofs.Common.{◌≡◌, ◌<◌, ℕ, List, Option, length, get_or, take, refl, sym, ◌∙◌, ap, ap₂, arith, ◌+◌, ◌++◌, ◌∷◌}
use Rattle.std.proofs.Common.{[]}
use Rattle.std.specs.Prelude.{slice_get}
use Rattle.std.proofs.lemmas.List.{take_more, take_all}
use Rattle.std.proofs.lemmas.List.Sums.{fold_push}
use Rattle.std.proofs.lemmas.Option.{get_or_from_slice_get, slice_get_within}
use Rattle.rl_graph.specs.Graph.{next_in}
use Rattle.rl_states.specs.Counted.{Held}
use Rattle.rl_states.specs.declared.cell.Mark.{Mark}
use Rattle.rl_states.specs.Spoiled.{all_pushed, pushed}
use Rattle.rl_states.proofs.PassingLemmas.{pushed_long}
use Rattle.rl_states.proofs.spoiled.push_users.Goals as goal

-- one user more
more : (start : List Mark × Option ℕ) (users : List ℕ) (place user : ℕ) (marks marks' : List Mark) (first first' : Option ℕ) →
    place < length users → get_or users place 0 ≡ user
    → marks ≡ (all_pushed start (take place users)).0 → first ≡ (all_pushed start (take place users)).1
    → marks' ≡ (pushed (marks, first) user).0 → first' ≡ (pushed (marks, first) user).1
    → (marks', first') ≡ all_pushed start (take (place + 1) users)
more start users place user marks marks' first first' low is m f m' f' =
    let state : List Mark × Option ℕ = all_pushed start (take place users) in
    let joined : (let s : List Mark × Option ℕ = (marks, first) in s)
    ≡ state = ap₂ (λ (a : List Mark) (b : Option ℕ). let s : List Mark × Option ℕ = (a, b) in s) m f in
    ap₂ (λ (a : List Mark) (b : Option ℕ). let s : List Mark × Option ℕ = (a, b) in s) m' f'
    ∙ ap (λ (s : List Mark × Option ℕ). pushed s user) joined
    ∙ sym (ap (all_pushed start) (take_more users place 0 low ∙ ap (λ (u : ℕ). take place users ++ u ∷ []) is)
    ∙ fold_push pushed start (take place users) user)

-- with these marks
abbrev with : Held → List Mark → Held
with held marks = record held { marks = marks }

pub loop-place-init : goal.loop-place-init
loop-place-init g c = record { value = refl; head = refl; long = refl; cost = omega arith }

pub user-user-requires-clause-row : goal.user-user-requires-clause-row
user-user-requires-clause-row g c = omega (arith, c.requires.row, ap (λ (h : Held). length h.users) c.loop-place.invariant.value)

pub user-user-requires-clause-at : goal.user-user-requires-clause-at
user-user-requires-clause-at g c =
    omega (
      arith,
      c.user_count-place-end.ensures,
      c.loop-place-test.true,
      ap (λ (h : Held). length (next_in h.users c.args.row)) c.loop-place.invariant.value,
    )

pub push-first-requires : goal.push-first-requires
push-first-requires g c =
    let us = next_in c.args.held.now.users c.args.row in
    let there = ap (λ (h : Held). slice_get (next_in h.users c.args.row) c.loop-place.place) (sym c.loop-place.invariant.value) ∙
    c.user-user.ensures.value in
    let low : c.loop-place.place < length us = slice_get_within us c.loop-place.place c.user-user.result there in
    omega (
      arith,
      c.requires.low c.loop-place.place 0 low,
      get_or_from_slice_get us c.loop-place.place c.user-user.result 0 there,
      c.loop-place.invariant.long,
    )

pub loop-place-preserved : goal.loop-place-preserved
loop-place-preserved g c =
    let us = next_in c.args.held.now.users c.args.row in
    let there = ap (λ (h : Held). slice_get (next_in h.users c.args.row) c.loop-place.place) (sym c.loop-place.invariant.value) ∙
    c.user-user.ensures.value in
    let low : c.loop-place.place < length us = slice_get_within us c.loop-place.place c.user-user.result there in
    let user : get_or us c.loop-place.place 0 ≡ c.user-user.result = get_or_from_slice_get us c.loop-place.place c.user-user.result 0 there in
    let both = more (c.args.held.now.marks, c.args.head) us c.loop-place.place c.user-user.result c.loop-place.held.marks c.push-first.new.held.marks
    c.loop-place.first c.push-first.result low user
    (ap (λ (h : Held). h.marks) c.loop-place.invariant.value) c.loop-place.invariant.head (ap (λ (h : Held). h.marks) c.push-first.ensures.marks)
    c.push-first.ensures.head in record {
      value =
          c.push-first.ensures.marks
          ∙ ap (λ (h : Held). with h (pushed (c.loop-place.held.marks, c.loop-place.first) c.user-user.result).0) c.loop-place.invariant.value
          ∙ ap (with c.args.held.now) (sym (ap (λ (h : Held). h.marks) c.push-first.ensures.marks) ∙ ap (λ (s : List Mark × Option ℕ). s.0) both);
      head = ap (λ (s : List Mark × Option ℕ). s.1) both;
      long = ap (λ (h : Held). length h.marks) c.push-first.ensures.marks
          ∙ pushed_long c.loop-place.held.marks c.loop-place.first c.user-user.result ∙ c.loop-place.invariant.long;
      cost = omega (arith, c.loop-place.invariant.cost, c.user-user.ensures.cost, c.push-first.ensures.cost);
    }

pub returns : goal.returns
returns g c =
    let us = next_in c.args.held.now.users c.args.row in
    let all : take c.loop-place.place us ≡ us = take_all c.loop-place.place us (omega (arith, c.user_count-place-end.ensures, c.loop-place-test.false)) in
    record {
      marks = c.loop-place.invariant.value ∙ ap (λ (xs : List ℕ). with c.args.held.now (all_pushed (c.args.held.now.marks, c.args.head) xs).0) all;
      head = c.loop-place.invariant.head ∙ ap (λ (xs : List ℕ). (all_pushed (c.args.held.now.marks, c.args.head) xs).1) all;
      cost = omega (arith, c.loop-place.invariant.cost, c.user_count-place-end.ensures, c.loop-place.auto.place-end);
    }
