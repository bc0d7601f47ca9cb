use Rattle.std.proofs.Common.{◌≡◌, ◌≤◌, ◌-◌, length, take}
use Rattle.rl_base.specs.Written.{appended}
use Rattle.rl_http.proofs.writing.write_all.Given as goal

abbrev pub invariant-loop-at : goal.invariant-loop-at
invariant-loop-at g l = record {
  within : l.at ≤ length l.text;
  written : g.C.Conn.written l.conn ≡ appended (g.C.Conn.written l.fn.conn) (take l.at l.text);
  left : g.C.Conn.left l.conn ≡ g.C.Conn.left l.fn.conn;
  later : g.C.Conn.faults l.fn.conn ≤ g.C.Conn.faults l.conn;
}

abbrev pub decreases-loop-at : goal.decreases-loop-at
decreases-loop-at g l = length l.text - l.at
