use Rattle.std.proofs.Common.{◌≡◌, drop, map}
use Rattle.std.specs.Vec.Iter.{into_iter_items}
use Rattle.mix_tree.specs.Forest.{forest_of}
use Rattle.lxp_core.specs.Open.{without_holes}
use Rattle.lxp_core.specs.Plain.{put_all}
use Rattle.table_keep.specs.Rows.{value_of}
use Rattle.table_wrap.specs.Rows.{cells}
use Rattle.table_wrap.specs.Wire.{AreInRange}
use Rattle.table_wrap.proofs.document.TableDoc.cells.Given as goal

-- the columns so far and those to come are all of them, and where the numbers to come are of 64 bits all are
abbrev pub invariant-columns : goal.invariant-columns
invariant-columns l = record {
  list :
      put_all l.list.items (without_holes (forest_of (cells (drop l.column-index l.self.columns.items) (map value_of (into_iter_items l.rest)))))
      ≡ without_holes (forest_of (cells l.self.columns.items (map value_of l.fn.found.items)));
  range :
      AreInRange (drop l.column-index l.self.columns.items) (map value_of (into_iter_items l.rest))
      → AreInRange l.self.columns.items (map value_of l.fn.found.items);
}
