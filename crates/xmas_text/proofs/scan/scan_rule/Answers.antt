use Rattle.std.proofs.Common.{rules, arith, ◌≡◌, sym, subst, take}
use Rattle.std.proofs.lemmas.List.{take_all}
use Rattle.xmas_text.proofs.Cuts.{ScansTo, scan_next}
use Rattle.xmas_text.proofs.Verdicts.{scan_unexpected, ends_scan}
use Rattle.xmas_text.proofs.scan.scan_rule.Goals as goal

pub returns-in_default : goal.returns-in_default
returns-in_default c = (c.requires, scan_unexpected _ _ c.loop-at.scan c.requires c.loop-at-test.true c.loop-at.invariant.scan (sym c.in_default.ensures.step))

pub loop-at-preserved : goal.loop-at-preserved
loop-at-preserved c = record {
  depth = omega (arith, c.in-Some.ensures.depth, c.loop-at.invariant.depth);
  part = omega (arith, c.in-Some.ensures.part, c.loop-at.invariant.part);
  scan = scan_next _ _ c.loop-at.scan c.in-Some.next c.loop-at-test.true c.loop-at.invariant.scan (sym c.in-Some.ensures.step);
}

pub returns : goal.returns
returns c =
    let whole : take c.loop-at.at c.args.text.now ≡ c.args.text.now = search (rules, take_all) in
    ends_scan c.args.text.now c.loop-at.scan c.end_scan.result c.requires (subst (λ x. ScansTo x c.loop-at.scan) whole c.loop-at.invariant.scan) c.end_scan.ensures
