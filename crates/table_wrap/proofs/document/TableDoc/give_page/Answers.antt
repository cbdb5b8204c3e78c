use Rattle.std.proofs.Common.{◌≡◌, ◌∙◌, List, [], ◌∷◌, Some, SFits, w64, rules, arith, map, length, nat_eq, sym, ap, subst}
use Rattle.std.proofs.lemmas.Iterator.Adapters.{YieldsList-from_vec}
use Rattle.std.proofs.lemmas.Iterator.Consumers.{YieldsList-end}
use Rattle.std.proofs.lemmas.List.{length-map}
use Rattle.std.specs.List.{AllByRecursion}
use Rattle.std.proofs.lemmas.Int.{to_z-of_z}
use Rattle.mix_base.proofs.Firsts.{each_snoc, map-map}
use Rattle.mix_tree.specs.Forest.{forest_of}
use Rattle.lxp_core.specs.Open.{node, open_followed, without_holes}
use Rattle.lxp_core.specs.Plain.{put_all}
use Rattle.row_document.specs.Rows.{rest_given}
use Rattle.row_document.proofs.Lists.{row_more}
use Rattle.table_keep.specs.declared.row.TableRow.{TableRow}
use Rattle.table_keep.specs.Rows.{Row, row_of, rows_of}
use Rattle.table_wrap.specs.Document.{is_full, last_key}
use Rattle.table_wrap.specs.declared.parts.Part.TheVariants.{Rows}
use Rattle.table_wrap.specs.Parts.{hole_of}
use Rattle.table_wrap.specs.Rows.{row_cells, row_forest}
use Rattle.table_wrap.specs.Wire.{AreInRange}
use Rattle.table_wrap.proofs.Shown.{last_more, rows_of_more}
use Rattle.table_wrap.proofs.document.TableDoc.give_page.Goals as goal

pub rows-preserved : goal.rows-preserved
rows-preserved c =
    let columns = c.args.self.now.columns.items in
    let rows = rows_of c.rows.yielded in
    let row = row_of c.in-Some.row in
    let more = rows_of_more c.rows.yielded c.in-Some.row in
    let fits : SFits w64 c.in-Some.row.key = search rules in
    record {
      given = λ rest.
          c.in_ok-push_row.ensures rest
          ∙ ap (λ kids. put_all c.rows.list.items (node (114 ∷ 111 ∷ 119 ∷ []) kids rest)) c.in_ok-cells.ensures.list
          ∙ c.rows.invariant.given (node (114 ∷ 111 ∷ 119 ∷ []) (without_holes (forest_of (row_cells columns row))) rest)
          ∙ sym (row_more (row_cells columns) rows row rest)
          ∙ ap (λ (rs : List Row). open_followed (without_holes (row_forest columns rs)) rest) (sym more);
      last = ap Some (to_z-of_z w64 c.in-Some.row.key fits) ∙ sym (last_more c.args.after rows row) ∙ ap (last_key c.args.after) (sym more);
      keys = subst (AllByRecursion (λ (r : Row). SFits w64 r.key)) (sym more) (each_snoc (λ (r : Row). SFits w64 r.key) rows row c.rows.invariant.keys fits);
      range = subst (AllByRecursion (λ (r : Row). AreInRange columns r.values)) (sym more)
          (each_snoc (λ (r : Row). AreInRange columns r.values) rows row c.rows.invariant.range c.in_ok-cells.ensures.range);
    }

pub returns-clause-given : goal.returns-clause-given
returns-clause-given c =
    let d = c.args.self.now in
    let rows = c.args.rows.items in
    let start = c.into_iter-row-iterator.ensures.into_iter_gives in
    let gone : map (λ (r : TableRow). r) c.rows.yielded ≡ c.args.rows.items = (YieldsList-end (YieldsList-from_vec c.args.rows.items start.0 (omega (arith, start.1, c.args.rows.ok.0))) c.rows.yielded c.rows.row-iterator c.rows.yielded_by c.next.result c.next.new.self c.in-None.is c.next.ensures.steps).0 in
    let whole : rows_of c.rows.yielded ≡ rows_of c.args.rows.items = sym (map-map row_of (λ (r : TableRow). r) c.rows.yielded) ∙ ap rows_of gone in
    let full : nat_eq c.len.result c.args.self.now.chunk ≡ nat_eq (length (rows_of c.args.rows.items)) c.args.self.now.chunk = ap (λ n. nat_eq n c.args.self.now.chunk) (omega (arith, c.len.ensures, c.args.rows.ok.0, length-map c.args.rows.items row_of)) in
    c.in_ok-push_rest.ensures
    ∙ ap (λ id. put_all c.rows.list.items (rest_given (nat_eq c.len.result d.chunk) id)) c.hole.ensures
    ∙ ap (λ more. put_all c.rows.list.items (rest_given more (hole_of (Rows c.rows.last)))) full
    ∙ ap (λ last. put_all c.rows.list.items (rest_given (is_full d (rows_of rows)) (hole_of (Rows last)))) (c.rows.invariant.last ∙ ap (last_key c.args.after) whole)
    ∙ c.rows.invariant.given (rest_given (is_full d (rows_of rows)) (hole_of (Rows (last_key c.args.after (rows_of rows)))))
    ∙ ap (λ (rs : List Row). open_followed (without_holes (row_forest d.columns.items rs)) (rest_given (is_full d (rows_of rows)) (hole_of (Rows (last_key c.args.after (rows_of rows)))))) whole
