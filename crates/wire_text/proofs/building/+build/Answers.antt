use Rattle.std.proofs.Common.{◌≡◌, ◌+◌, ◌-◌, ◌<◌, ◌^◌, ◌++◌, length, arith, ap, subst, sym, ◌∙◌}
use Rattle.std.specs.Prelude.{option_map}
use Rattle.std.proofs.lemmas.List.{length-append}
use Rattle.std.proofs.lemmas.Result.{err_from_is_err_and}
use Rattle.wire_text.specs.Wired.{nil, node, hole, count_of}
use Rattle.wire_text.specs.Bytes.{u32_bytes, label_bytes, trees_bytes}
use Rattle.wire_text.specs.Reply.{deep_place}
use Rattle.wire_text.proofs.Widths.{wide32, number_one}
use Rattle.wire_text.proofs.Told.{hole_one, label_one}
use Rattle.wire_text.proofs.Trees.{put-node, put-hole}
use Rattle.wire_text.proofs.Judged.{parted}
use Rattle.wire_text.proofs.Built.{BuildsOn, node_here, hole_here, deep_at_once, deep_node, deep_hole, builds_more, builds_all, first_text, stops_later, stops_below}
use Rattle.wire_text.proofs.building.+build.Goals as goal

pub build_tree-returns-then-levels-eq0 : goal.build_tree-returns-then-levels-eq0
build_tree-returns-then-levels-eq0 t c = λ o y are one text. (0, ap (λ n. deep_place n o) c.if-levels-eq0.true ∙ deep_at_once o one, omega arith)

pub build_tree-returns-in-Some-hole_at : goal.build_tree-returns-in-Some-hole_at
build_tree-returns-in-Some-hole_at t c = λ o y are one text.
    let rest = c.in-Some.rest.now in
    let made = c.in-Some-hole_at.hole in
    let some : 0 < c.args.levels = omega arith in
    let h = hole_here o y rest c.in-Some.tag.now c.if-tag-eq1.true are one (sym c.in-Some.ensures.cases.0 ∙ text) in
    let read = c.in-Some-hole_at.ensures.hole in
    let same = hole_one made.id h.id made.weight h.weight c.in-Some-hole_at.after.now y read.0 h.good c.in-Some-hole_at.ensures.fits h.low (sym read.1 ∙ h.text) in (
      put-hole made nil ∙ ap (λ i. hole i made.weight nil) same.0 ∙ ap (λ w. hole h.id w nil) same.1.0 ∙ sym h.is,
      same.1.1,
      ap (deep_place c.args.levels) h.is ∙ deep_hole c.args.levels h.id h.weight some,
    )

pub build_tree-returns-in_err-kids : goal.build_tree-returns-in_err-kids
build_tree-returns-in_err-kids t c = λ o y are one text.
    let rest = c.in-Some.rest.now in
    let label = c.in_ok-label in
    let number = c.in-Some-u32_at in
    let some : 0 < c.args.levels = omega arith in
    let n = node_here o y rest c.in-Some.tag.now c.if-tag-eq1.false are one (sym c.in-Some.ensures.cases.0 ∙ text) in
    let lab = label_one label.label n.label label.rest.now (u32_bytes (count_of n.kids) ++ (trees_bytes n.kids ++ y)) label.ensures.label.0 n.short (sym label.ensures.label.1 ∙ n.text) in
    let num = number_one u32_bytes 4 (2 ^ 32) wide32 number.count (count_of n.kids) number.rest.now (trees_bytes n.kids ++ y) number.ensures.fits n.few (sym number.ensures.number ∙ lab.1) in
    let long : length c.args.bytes.now ≡ length (label_bytes n.label) + 5 + length number.rest.now =
    omega (
      arith,
      ap length c.in-Some.ensures.cases.0,
      ap length label.ensures.label.1,
      length-append (label_bytes label.label) label.rest.now,
      ap (λ l. length (label_bytes l)) lab.0,
      ap length number.ensures.number,
      length-append (u32_bytes number.count) number.rest.now,
      wide32.len number.count,
    ) in
    let p = err_from_is_err_and c.from_residual-in_err-kids.result c.from_residual-in_err-kids.ensures.1 in
    rw (p.1, p.2) (stops_below c.args.levels o n.label n.kids c.args.bytes.now number.rest.now _ some n.is long (c.in_err-kids.ensures n.kids y n.are (sym num.0) num.1))

pub build_tree-returns : goal.build_tree-returns
build_tree-returns t c = λ o y are one text.
    let rest = c.in-Some.rest.now in
    let label = c.in_ok-label in
    let number = c.in-Some-u32_at in
    let some : 0 < c.args.levels = omega arith in
    let n = node_here o y rest c.in-Some.tag.now c.if-tag-eq1.false are one (sym c.in-Some.ensures.cases.0 ∙ text) in
    let lab = label_one label.label n.label label.rest.now (u32_bytes (count_of n.kids) ++ (trees_bytes n.kids ++ y)) label.ensures.label.0 n.short (sym label.ensures.label.1 ∙ n.text) in
    let num = number_one u32_bytes 4 (2 ^ 32) wide32 number.count (count_of n.kids) number.rest.now (trees_bytes n.kids ++ y) number.ensures.fits n.few (sym number.ensures.number ∙ lab.1) in
    let kids = c.in_ok-kids.ensures n.kids y n.are (sym num.0) num.1 in (
      put-node label.label c.in_ok-kids.kids nil ∙ ap (λ k. node label.label k nil) kids.0 ∙ ap (λ l. node l n.kids nil) lab.0 ∙ sym n.is,
      kids.1,
      ap (deep_place c.args.levels) n.is ∙ deep_node c.args.levels n.label n.kids some ∙ ap (option_map (λ i. length (label_bytes n.label) + 5 + i)) kids.2,
    )

pub build_trees-returns-in_err-tree : goal.build_trees-returns-in_err-tree
build_trees-returns-in_err-tree t c = λ o y are cnt text.
    let still = c.args.count - (c.loop-i.i + 1) in
    let left : c.args.count - c.loop-i.i ≡ still + 1 = omega arith in
    let b = subst (BuildsOn c.args.levels o y c.loop-i.rest.now c.loop-i.trees.items) left (c.loop-i.invariant o y are cnt text) in
    let p = parted 1 still b.later b.are (omega (arith, b.left)) in
    let q = err_from_is_err_and c.from_residual.result c.from_residual.ensures.1 in
    rw (q.1, q.2) (stops_later c.args.levels o y c.args.bytes.now c.loop-i.rest.now c.loop-i.trees.items still _ b p text
    (c.in_err-tree.ensures p.first (trees_bytes p.others ++ y) p.are_first p.count_first (first_text b.later y c.loop-i.rest.now still p b.text)))

pub build_trees-loop-i-preserved : goal.build_trees-loop-i-preserved
build_trees-loop-i-preserved t c = λ o y are cnt text.
    let still = c.args.count - (c.loop-i.i + 1) in
    let left : c.args.count - c.loop-i.i ≡ still + 1 = omega arith in
    let b = subst (BuildsOn c.args.levels o y c.loop-i.rest.now c.loop-i.trees.items) left (c.loop-i.invariant o y are cnt text) in
    let p = parted 1 still b.later b.are (omega (arith, b.left)) in
    let made = c.in_ok-tree.ensures p.first (trees_bytes p.others ++ y) p.are_first p.count_first (first_text b.later y c.loop-i.rest.now still p b.text) in
    subst (λ ts. BuildsOn c.args.levels o y c.in_ok-tree.after.now ts still) (sym c.in_ok-push.ensures.items)
    (builds_more c.args.levels o y c.loop-i.rest.now c.in_ok-tree.after.now c.loop-i.trees.items c.in_ok-tree.tree still b p made.0 made.1 made.2)

pub build_trees-returns : goal.build_trees-returns
build_trees-returns t c = λ o y are cnt text.
    builds_all c.args.levels o y c.loop-i.rest.now c.loop-i.trees.items (c.args.count - c.loop-i.i) (c.loop-i.invariant o y are cnt text) (omega arith)
