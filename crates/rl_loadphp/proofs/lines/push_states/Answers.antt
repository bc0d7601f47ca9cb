use Rattle.std.proofs.Common.{ℕ, List, IsUtf8, subst, rules, arith}
use Rattle.rl_wire.specs.Line.{line, state_text}
use Rattle.rl_wire.proofs.EveryLemmas.{none_left}
use Rattle.rl_loadphp.proofs.MadeLemmas.{more_made}
use Rattle.rl_loadphp.proofs.PartsLemmas.{one_left}
use Rattle.rl_loadphp.proofs.lines.push_states.Goals as goal

pub names-preserved : goal.names-preserved
names-preserved c =
    let item : IsUtf8 c.name-item.result = subst IsUtf8 c.as_str.ensures (search rules) in
    record {
      text = more_made (λ (name : List ℕ). line (state_text name c.args.word.now)) _ _ _ c.args.names.now c.names.name-index c.name-item.result
          c.as_str.result.now c.names-test.true c.name-item.is c.as_str.ensures c.names.invariant.text c.in_ok-push_state.ensures;
      utf8 = λ rest.
          c.names.invariant.utf8
          (one_left IsUtf8 c.args.names.now c.names.name-index c.name-item.result c.names-test.true c.name-item.is item rest);
    }

pub returns-clause-utf8 : goal.returns-clause-utf8
returns-clause-utf8 c = c.names.invariant.utf8 (none_left IsUtf8 c.args.names.now c.names.name-index (omega arith))
