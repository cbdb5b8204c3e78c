use Rattle.std.proofs.Common.{◌≡◌, ◌∙◌, ◌<◌, ◌+◌, ℕ, suc, List, ◌∷◌, length, drop, get_or, map, sym, ap, subst, add-one, drop-cons}
use Rattle.std.specs.Vec.Iter.{into_iter_items}
use Rattle.mix_catalog.specs.declared.column.Column.{Column}
use Rattle.mix_tree.specs.Forest.{forest_of}
use Rattle.lxp_core.specs.declared.open_tree.OpenTree.{OpenTree}
use Rattle.lxp_core.specs.Open.{Open, node, without_holes}
use Rattle.lxp_core.specs.Plain.{put_all}
use Rattle.table_keep.specs.declared.row.Cell.{Cell}
use Rattle.table_keep.specs.Rows.{value_of}
use Rattle.table_wrap.specs.Rows.{cells, label_of, leaf}
use Rattle.table_wrap.specs.Wire.{AreInRange, IsInRange}
use Rattle.table_wrap.proofs.document.TableDoc.cells.Goals as goal

-- one column more is put after a list
one_more : (all : List Column) (i : ℕ) (x : Column) (v : Cell) (vs ws : List Cell) (some more : List OpenTree) → i < length all → x ≡ get_or all i x → ws ≡ v ∷ vs
    → ((rest : Open) → put_all more rest ≡ put_all some (node x.name (without_holes (leaf (label_of (value_of v)))) rest))
    → put_all more (without_holes (forest_of (cells (drop (i + 1) all) (map value_of vs)))) ≡ put_all some (without_holes (forest_of (cells (drop i all) (map value_of ws))))
one_more all i x v vs ws some more h e w p =
    let next : drop i all ≡ x ∷ drop (i + 1) all = rw (add-one, drop-cons all i x) (ap (λ (u : Column). u ∷ drop (suc i) all) (sym e)) in
    p (without_holes (forest_of (cells (drop (i + 1) all) (map value_of vs))))
    ∙ ap (λ (us : List Cell). put_all some (without_holes (forest_of (cells (x ∷ drop (i + 1) all) (map value_of us))))) (sym w)
    ∙ ap (λ (cs : List Column). put_all some (without_holes (forest_of (cells cs (map value_of ws))))) (sym next)

-- where the number of one column more is of 64 bits, and those after it are, all to come are
range_more : (all : List Column) (i : ℕ) (x : Column) (v : Cell) (vs ws : List Cell) → i < length all → x ≡ get_or all i x → ws ≡ v ∷ vs → IsInRange (value_of v)
    → AreInRange (drop (i + 1) all) (map value_of vs) → AreInRange (drop i all) (map value_of ws)
range_more all i x v vs ws h e w here later =
    let next : drop i all ≡ x ∷ drop (i + 1) all = rw (add-one, drop-cons all i x) (ap (λ (u : Column). u ∷ drop (suc i) all) (sym e)) in
    subst (λ (cs : List Column). AreInRange cs (map value_of ws)) (sym next)
    (subst (λ (us : List Cell). AreInRange (x ∷ drop (i + 1) all) (map value_of us)) (sym w) (here, later))

pub columns-preserved : goal.columns-preserved
columns-preserved c =
    let all = c.args.self.now.columns.items in
    let whole = c.deref-column-items.ensures.value in
    let i = c.columns.column-index in
    let more = into_iter_items c.next.new.self in
    let some = into_iter_items c.columns.rest in
    let inside : i < length all = subst (λ (cs : List Column). c.columns.column-index < length cs) whole c.columns-test.true in
    let this : c.column-item.result ≡ get_or all i c.column-item.result =
    subst (λ (cs : List Column). c.column-item.result ≡ get_or cs c.columns.column-index c.column-item.result) whole c.column-item.is in
    record {
      list =
          one_more all i c.column-item.result c.in-Some.cell more some c.columns.list.items c.push_cell.new.list.items inside this c.in-Some.ensures.items
          c.in_ok-push_cell.ensures.put
          ∙ c.columns.invariant.list;
      range = λ later. c.columns.invariant.range (range_more all i c.column-item.result c.in-Some.cell more some inside this c.in-Some.ensures.items c.in_ok-push_cell.ensures.range later);
    }
