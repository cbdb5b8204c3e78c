use Rattle.std.proofs.Common.{◌∙◌, sym, ap, subst}
use Rattle.mix_tree.specs.Comparisons.{operand_label}
use Rattle.mix_tree.specs.declared.comparing.Operand.{Operand}
use Rattle.lazy_plan.specs.Bench.{state_of, documents}
use Rattle.lazy_seek.specs.Known.{IsOperandKnown}
use Rattle.lazy_seek.proofs.Testing.{label_test}
use Rattle.lazy_seek.proofs.evidence.Found.passes.Goals as goal

pub returns-in_default-label_of : goal.returns-in_default-label_of
returns-in_default-label_of c = λ view places nodes bench told h.
    absurd (rw c.in_default-label_of.is at (c.label_of.ensures view places (nodes c.args.test.now.left) bench told h.0))

pub returns-in-Same : goal.returns-in-Same
returns-in-Same c = λ view places nodes bench told h. c.has_same_node.ensures (state_of view c.args.bench.now) places nodes h

pub returns-in-Some-label_of : goal.returns-in-Some-label_of
returns-in-Some-label_of c = λ view places nodes bench told h.
    let st = state_of view c.args.bench.now in
    let left = rw c.in-Some.is at (c.label_of.ensures view places (nodes c.args.test.now.left) bench told h.0) in
    let known = subst (IsOperandKnown st places c.args.self.now.nodes nodes) c.in-Var.is h.1 in
    let right = rw c.in-Some-label_of.is at (c.label_of-in-Var.ensures view places (nodes c.in-Var.v) bench told known) in
    label_test (documents st) c.args.test.now nodes _ _ c.holds.result c.in_default.not-Same left (right ∙ ap (λ (o : Operand). operand_label (documents st) o nodes) (sym c.in-Var.is)) c.holds.ensures

pub returns-in-Text : goal.returns-in-Text
returns-in-Text c = λ view places nodes bench told h.
    let st = state_of view c.args.bench.now in
    let left = rw c.in-Some.is at (c.label_of.ensures view places (nodes c.args.test.now.left) bench told h.0) in
    label_test (documents st) c.args.test.now nodes _ _ c.holds-in-Text.result c.in_default.not-Same left (ap (λ (o : Operand). operand_label (documents st) o nodes) (sym c.in-Text.is)) c.holds-in-Text.ensures
