use Rattle.std.proofs.Common.{◌≡◌, ◌+◌, ◌/◌, ◌%◌, ℕ, List, length, get_or, map, replicate, min, sym, subst, ◌∙◌, ap, arith}
use Rattle.std.proofs.lemmas.List.{length-replicate, get_or-replicate}
use Rattle.std.proofs.lemmas.Nat.{div-add-mod', mod_below}
use Rattle.rl_graph.specs.Graph.{edge_lists}
use Rattle.rl_graph.specs.Reversed.{AreReversed}
use Rattle.rl_states.specs.declared.cell.Cell.{Cell}
use Rattle.rl_states.specs.declared.standing.Standing.{Standing}
use Rattle.rl_states.specs.Cells.{runnable_in}
use Rattle.rl_states.specs.Counted.{clean}
use Rattle.rl_states.specs.Standings.{fresh}
use Rattle.rl_states.proofs.CellsLemmas.{fresh_none}
use Rattle.rl_states.proofs.CountedLemmas.{marks_clean, standings_clean}
use Rattle.rl_states.proofs.StandingsLemmas.{length_rows}
use Rattle.rl_states.proofs.UsersLemmas.{users_reversed}
use Rattle.rl_states.proofs.counted.Counted.open.Goals as goal

pub returns-clause-standings : goal.returns-clause-standings
returns-clause-standings c =
    ap (map (λ (cell : Cell). cell.standing)) c.in_ok-cells.ensures ∙ standings_clean _ ∙ c.as_slice.ensures.value ∙ c.in_ok-standings.ensures

pub returns-clause-marks : goal.returns-clause-marks
returns-clause-marks c =
    ap (map (λ (cell : Cell). cell.mark)) c.in_ok-cells.ensures ∙ marks_clean _
    ∙ ap (map (λ (standing : Standing). clean)) (c.as_slice.ensures.value ∙ c.in_ok-standings.ensures)

pub returns-clause-users : goal.returns-clause-users
returns-clause-users c =
    users_reversed c.args.registry.now (edge_lists c.in_ok-users.users.items)
    (subst (λ (es : List (List ℕ)). AreReversed es (edge_lists c.in_ok-users.users.items)) c.edges.ensures.value c.in_ok-users.ensures)

pub returns-clause-runnable : goal.returns-clause-runnable
returns-clause-runnable c =
    let r = c.args.registry.now in
    let n : ℕ = length r.rows in
    let is = ap (map (λ (cell : Cell). cell.standing)) c.in_ok-cells.ensures ∙ standings_clean _ ∙ c.as_slice.ensures.value ∙
    c.in_ok-standings.ensures in
    let long = ap length is ∙ length_rows r (fresh r) in
    let counts : c.in_ok-runnable.runnable.items ≡ replicate c.div_ceil-blocks.result 0 = c.in_ok-runnable.ensures.items_if_clones_equal (λ y e. e) in
    let blocks : length c.in_ok-runnable.runnable.items ≡ n / 64 + min 1 (n % 64) =
    ap length counts ∙ length-replicate {A = ℕ} c.div_ceil-blocks.result 0 ∙ c.div_ceil-blocks.ensures
    ∙ ap (λ (k : ℕ). k / 64 + min 1 (k % 64)) c.count.ensures.value in
    record {
      few = omega (arith, long, c.count.ensures.few);
      blocks = omega (arith, blocks, c.count.ensures.few, div-add-mod' n 64, mod_below n 64 (omega arith));
      long = omega (arith, long, blocks, div-add-mod' n 64, mod_below n 64 (omega arith));
      each = λ block low.
          ap (λ (ks : List ℕ). get_or ks block 0) counts
          ∙ get_or-replicate {A = ℕ} c.div_ceil-blocks.result block 0 0
          (omega (arith, low, ap length counts, length-replicate {A = ℕ} c.div_ceil-blocks.result 0))
          ∙ sym (ap (λ (ss : List Standing). runnable_in ss block) is ∙ fresh_none r block);
    }
