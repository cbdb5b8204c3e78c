use Rattle.std.proofs.Common.{◌≡◌, SFits, w64}
use Rattle.std.specs.List.{AllByRecursion}
use Rattle.lxp_core.specs.Open.{Open, open_followed, without_holes}
use Rattle.lxp_core.specs.Plain.{put_all}
use Rattle.table_keep.specs.Rows.{rows_of}
use Rattle.table_wrap.specs.Document.{last_key}
use Rattle.table_wrap.specs.Rows.{row_forest}
use Rattle.table_wrap.specs.Wire.{AreInRange}
use Rattle.table_wrap.proofs.document.TableDoc.give_page.Given as goal

abbrev pub invariant-rows : goal.invariant-rows
invariant-rows l = record {
  given : (rest : Open) → put_all l.list.items rest ≡ open_followed (without_holes (row_forest l.self.columns.items (rows_of l.yielded))) rest;
  last : l.last ≡ last_key l.fn.after (rows_of l.yielded);
  keys : AllByRecursion (λ r. SFits w64 r.key) (rows_of l.yielded);
  range : AllByRecursion (λ r. AreInRange l.self.columns.items r.values) (rows_of l.yielded);
}
