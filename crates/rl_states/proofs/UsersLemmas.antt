-- The edges of rows, turned round, are their users.
use Rattle.std.proofs.Common.{◌≡◌, ℕ, List, [], cond, length, map, nat_eq, Option, ap, sym, ◌∙◌, ⊎_elim, arith}
use Rattle.std.specs.Option.{option_map_or}
use Rattle.std.proofs.lemmas.Bool.{cases_lt}
use Rattle.std.proofs.lemmas.List.{get_or-map, get_or_past, length-map}
use Rattle.std.proofs.lemmas.Option.{slice_get_past}
use Rattle.rl_names.specs.declared.row.Row.{Row}
use Rattle.rl_view_spec.specs.Closure.{Registered}
use Rattle.rl_view_spec.specs.Numbers.{needed, needs_of}
use Rattle.rl_graph.specs.Graph.{next_in}
use Rattle.rl_graph.specs.Reversed.{times, AreReversed}
use Rattle.rl_rows.proofs.EdgesLemmas.{blank, row_there}
use Rattle.rl_states.specs.Users.{AreUsers}

needs_listed : (r : Registered) (user : ℕ) → next_in (map (needed r) r.rows) user ≡ needs_of r user
needs_listed r user = ⊎_elim
    (λ lt. get_or-map (needed r) r.rows user blank [] lt ∙ sym (ap (λ (o : Option Row). option_map_or (needed r) o []) (row_there r.rows user lt)))
    (λ ge. get_or_past (map (needed r) r.rows) user [] (omega (arith, ge, length-map r.rows (needed r)))
    ∙ sym (ap (λ (o : Option Row). option_map_or (needed r) o []) (slice_get_past r.rows user ge)))
    (cases_lt user (length r.rows))

pub users_reversed : (r : Registered) (users : List (List ℕ)) → AreReversed (map (needed r) r.rows) users → AreUsers r users
users_reversed r users a = record {
  long = a.long ∙ length-map r.rows (needed r);
  each = λ row user low. a.each user row (omega (arith, low, length-map r.rows (needed r)))
      ∙ ap (λ (xs : List ℕ). cond (nat_eq user row) 0 (times row xs)) (needs_listed r user);
}
