use Rattle.std.proofs.Common.{rules, arith, ◌≡◌, ◌∙◌, ◌+◌, [], ap, sym, subst, take, drop}
use Rattle.std.proofs.lemmas.List.{take_all, drop_all}
use Rattle.path_expr.specs.Depth.{first_of, deep_at}
use Rattle.path_expr.proofs.Deep.{scan_deep, deep_next, first_none, whole_deep}
use Rattle.path_expr.proofs.Shapes.{ScansTo, scan_next, scan_unexpected, scan_whole, scan_cut}
use Rattle.path_expr.proofs.scan.scan_path.Goals as goal

pub returns-in_default : goal.returns-in_default
returns-in_default c = (c.requires, scan_unexpected _ _ c.loop-at.scan c.requires c.loop-at-test.true c.loop-at.invariant.scan (sym c.in_default.ensures.step))

pub loop-at-preserved : goal.loop-at-preserved
loop-at-preserved c = record {
  depth = omega (arith, c.in-Some.ensures.depth, c.loop-at.invariant.depth);
  found =
      ap (λ deep. first_of deep (scan_deep (drop (c.loop-at.at + 1) c.args.text.now) (c.loop-at.at + 1) c.in-Some.next)) c.first_deep-deep.ensures
      ∙ deep_next _ c.loop-at.at c.loop-at.scan c.in-Some.next c.loop-at.deep c.loop-at-test.true (sym c.in-Some.ensures.step) ∙ c.loop-at.invariant.found;
  scan = scan_next _ _ c.loop-at.scan c.in-Some.next c.loop-at-test.true c.loop-at.invariant.scan (sym c.in-Some.ensures.step);
}

pub returns-then-may_end_scan : goal.returns-then-may_end_scan
returns-then-may_end_scan c =
    let text = c.args.text.now in
    let whole : take c.loop-at.at text ≡ text = search (rules, take_all) in
    let none : drop c.loop-at.at text ≡ [] = search (rules, drop_all) in
    let written = scan_whole _ c.loop-at.scan (subst (λ x. ScansTo x c.loop-at.scan) whole c.loop-at.invariant.scan) (sym c.may_end_scan.ensures ∙ c.if-may_end_scan.true) in
    let found : deep_at written.0 ≡ c.loop-at.deep =
    sym (whole_deep text written.0 written.1) ∙ sym c.loop-at.invariant.found ∙ ap (λ r. first_of c.loop-at.deep (scan_deep r c.loop-at.at c.loop-at.scan)) none ∙ first_none c.loop-at.deep in
    (written.0, written.1, found)

pub returns : goal.returns
returns c =
    let whole : take c.loop-at.at c.args.text.now ≡ c.args.text.now = search (rules, take_all) in
    (c.requires, scan_cut _ c.loop-at.scan c.requires (subst (λ x. ScansTo x c.loop-at.scan) whole c.loop-at.invariant.scan) (sym c.may_end_scan.ensures ∙ c.if-may_end_scan.false))
