use Rattle.std.proofs.Common.{◌≡◌, ◌++◌, map}
use Rattle.std.specs.List.{filter_map}
use Rattle.std.specs.Vec.Iter.{into_iter_items}
use Rattle.serde_json.specs.View.{view}
use Rattle.rl_wire.specs.Startup.{AreWritable}
use Rattle.rl_wire.specs.StartupReading.{row_in}
use Rattle.rl_wire.proofs.read_rows.rows_among.Given as goal

-- those so far, and those among the values that are left
abbrev pub invariant-values : goal.invariant-values
invariant-values l = record {
  rows : l.rows.items ++ filter_map row_in (map view (into_iter_items l.value-iterator)) ≡ filter_map row_in (map view l.fn.values.items);
  writable : AreWritable l.rows.items;
}
