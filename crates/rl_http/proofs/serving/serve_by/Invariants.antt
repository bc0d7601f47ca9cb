use Rattle.std.proofs.Common.{◌≡◌, ◌<◌, ◌≤◌, length}
use Rattle.rl_http.specs.Serving.{moment}
use Rattle.rl_http.proofs.ServingLemmas.{Progress}
use Rattle.rl_http.proofs.serving.serve_by.Given as goal

abbrev pub invariant-requests : goal.invariant-requests
invariant-requests g l = record {
  progress : Progress l.fn.desk.catalogue (moment l.fn.desk.entries (g.K.Keeper.faults l.fn.desk.keeper))
      (moment l.desk.entries (g.K.Keeper.faults l.desk.keeper))
      (g.C.Conn.left l.fn.conn) (g.C.Conn.left l.conn) (g.C.Conn.written l.fn.conn) (g.C.Conn.written l.conn) l.requests l.inbox l.out.items;
  catalogue : l.desk.catalogue ≡ l.fn.desk.catalogue;
  keeper : g.K.Keeper.faults l.fn.desk.keeper ≤ g.K.Keeper.faults l.desk.keeper;
  later : g.C.Conn.faults l.fn.conn ≤ g.C.Conn.faults l.conn;
  room : 0 < length l.chunk;
}
