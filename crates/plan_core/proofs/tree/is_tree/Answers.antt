use Rattle.std.proofs.Common.{◌≡◌, ◌+◌, ◌∙◌, sym, ap, subst, arith, List, [], ◌∷◌, ◌++◌, true, false, length, map}
use Rattle.std.specs.Prelude.{Bool}
use Rattle.std.proofs.lemmas.List.{length-map}
use Rattle.plan_core.specs.PlanMade.{op_of}
use Rattle.plan_core.specs.Trees.{IsMarked, CannotMark}
use Rattle.plan_core.specs.Valid.{inputs_of}
use Rattle.plan_core.proofs.Marks.{AreMarked, written_back, marked_more, marked_tree, unmarked_no_tree}
use Rattle.plan_core.proofs.Numbers.{op_read}
use Rattle.plan_core.proofs.tree.is_tree.Goals as goal

pub returns-then-not-mark_inputs-clause-not : goal.returns-then-not-mark_inputs-clause-not
returns-then-not-mark_inputs-clause-not c = λ f t.
    let ops = map op_of c.args.ops.now in
    let count = length-map c.args.ops.now op_of in
    let within = c.ops-test.true in
    let is : c.mark_inputs.result ≡ false = cc in
    let cannot : CannotMark c.ops.marks.items (inputs_of (op_of c.op-item.result)) =
    subst (λ (ms : List Bool). CannotMark ms (inputs_of (op_of c.op-item.result))) c.deref_mut.ensures.value (c.mark_inputs.ensures.unmarked is)
    in
    unmarked_no_tree ops c.ops.op-index (op_of c.op-item.result) c.ops.marks.items (omega (arith, count, within))
    (op_read c.args.ops.now c.ops.op-index c.op-item.result (omega (arith, within)) c.op-item.is) c.ops.invariant cannot t

pub ops-preserved : goal.ops-preserved
ops-preserved c =
    let ops = map op_of c.args.ops.now in
    let count = length-map c.args.ops.now op_of in
    let within = c.ops-test.true in
    let is : c.mark_inputs.result ≡ true = cc in
    let marked : IsMarked c.ops.marks.items (inputs_of (op_of c.op-item.result)) c.mark_inputs.new.marks =
    subst (λ (ms : List Bool). IsMarked ms (inputs_of (op_of c.op-item.result)) c.mark_inputs.new.marks) c.deref_mut.ensures.value (c.mark_inputs.ensures.marked is)
    in
    let len : length c.ops.marks.items ≡ c.ops.marks.len = cc in
    let items : c.push.new.self.items ≡ c.mark_inputs.new.marks ++ false ∷ [] =
    c.in_ok-push.ensures.items ∙ ap (λ (ms : List Bool). ms ++ false ∷ []) (written_back c.ops.marks.items c.mark_inputs.new.marks c.ops.marks.len marked.count len)
    in
    subst (AreMarked ops (c.ops.op-index + 1)) (sym items)
    (marked_more ops c.ops.op-index (op_of c.op-item.result) c.ops.marks.items c.mark_inputs.new.marks (omega (arith, count, within))
    (op_read c.args.ops.now c.ops.op-index c.op-item.result (omega (arith, within)) c.op-item.is) c.ops.invariant marked)

pub returns-clause-is : goal.returns-clause-is
returns-clause-is c = λ t.
    let count = length-map c.args.ops.now op_of in
    let end = c.ops-test.false in
    marked_tree (map op_of c.args.ops.now) c.ops.op-index c.ops.marks.items (omega (arith, count, end)) c.ops.invariant
