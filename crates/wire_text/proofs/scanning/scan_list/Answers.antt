use Rattle.std.proofs.Common.{arith, subst, sym}
use Rattle.wire_text.specs.Bytes.{u32_bytes}
use Rattle.wire_text.specs.Heads.{IsTreesText, JudgesText}
use Rattle.wire_text.specs.Sized.{IsListText}
use Rattle.wire_text.proofs.Scans.{led, list_leads, no_number}
use Rattle.wire_text.proofs.scanning.scan_list.Goals as goal

pub returns-in-Some : goal.returns-in-Some
returns-in-Some c =
    let n = c.in-Some.count in
    subst (λ t. JudgesText IsListText t c.scan_trees.result) (sym c.in-Some.ensures.number)
    (led IsListText (IsTreesText n) (u32_bytes n) c.in-Some.rest.now c.scan_trees.result (list_leads n c.in-Some.ensures.fits) c.scan_trees.ensures)

pub returns-in-None : goal.returns-in-None
returns-in-None c = no_number c.args.text.now (λ i. omega (arith, c.type_inv.text i)) c.in-None.ensures.number
