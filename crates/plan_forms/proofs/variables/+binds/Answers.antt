use Rattle.std.proofs.Common.{refl, map, ◌∙◌, sym, ap}
use Rattle.std.specs.Prelude.{◌==◌, is_some}
use Rattle.mix_tree.specs.Keys.{has_var}
use Rattle.plan_core.specs.PlanMade.{op_of}
use Rattle.plan_core.specs.Valid.{Kinds, kinds, a_node, an_element, a_list, kept}
use Rattle.plan_core.proofs.Groups.{group_kinds}
use Rattle.plan_forms.proofs.Binding.{bound_at, bound_out, bound_other, bound_only, bound_key, bound_no_key, bound_left, bound_right}
use Rattle.plan_forms.proofs.variables.+binds.Goals as goal

pub returns-in-Source : goal.returns-in-Source
returns-in-Source t c =
    bound_at (map op_of c.args.ops.now) c.requires.typed c.args.n c.requires.op _ (ap op_of (sym c.in-Source.is) ∙ c.operator.ensures) c.args.v _
    (bound_only (c.in-Source.out == c.args.v) _ a_node c.eq.ensures)

pub returns-then-eq : goal.returns-then-eq
returns-then-eq t c =
    bound_at (map op_of c.args.ops.now) c.requires.typed c.args.n c.requires.op _ (ap op_of (sym c.in-GetDescendants.is) ∙ c.operator.ensures) c.args.v _
    (bound_out (c.in-GetDescendants.out == c.args.v) _ a_node (kinds (map op_of c.args.ops.now) c.in-GetDescendants.input c.args.v) c.eq-in-GetDescendants.ensures c.if-eq.true)

pub returns-else-eq : goal.returns-else-eq
returns-else-eq t c =
    bound_at (map op_of c.args.ops.now) c.requires.typed c.args.n c.requires.op _ (ap op_of (sym c.in-GetDescendants.is) ∙ c.operator.ensures) c.args.v _
    (bound_other (c.in-GetDescendants.out == c.args.v) _ _ a_node (kinds (map op_of c.args.ops.now) c.in-GetDescendants.input c.args.v) c.eq-in-GetDescendants.ensures c.if-eq.false c.binds.ensures)

pub returns-in-Select : goal.returns-in-Select
returns-in-Select t c =
    bound_at (map op_of c.args.ops.now) c.requires.typed c.args.n c.requires.op _ (ap op_of (sym c.in-Select.is) ∙ c.operator.ensures) c.args.v _
    (c.binds-in-Select.ensures)

pub returns-then-binds : goal.returns-then-binds
returns-then-binds t c =
    bound_at (map op_of c.args.ops.now) c.requires.typed c.args.n c.requires.op _ (ap op_of (sym c.in-Join.is) ∙ c.operator.ensures) c.args.v _
    (bound_left _ (kinds (map op_of c.args.ops.now) c.in-Join.left c.args.v) (kinds (map op_of c.args.ops.now) c.in-Join.right c.args.v) c.binds-in-Join.ensures c.if-binds.true)

pub returns-else-binds : goal.returns-else-binds
returns-else-binds t c =
    bound_at (map op_of c.args.ops.now) c.requires.typed c.args.n c.requires.op _ (ap op_of (sym c.in-Join.is) ∙ c.operator.ensures) c.args.v _
    (bound_right _ _ (kinds (map op_of c.args.ops.now) c.in-Join.left c.args.v) (kinds (map op_of c.args.ops.now) c.in-Join.right c.args.v) c.binds-in-Join.ensures c.if-binds.false c.binds-else-binds.ensures)

pub returns-then-names_var : goal.returns-then-names_var
returns-then-names_var t c =
    bound_at (map op_of c.args.ops.now) c.requires.typed c.args.n c.requires.op _ (ap op_of (sym c.in-Project.is) ∙ c.operator.ensures) c.args.v _
    (bound_key (has_var c.in-Project.keys.items c.args.v) _ _ (kinds (map op_of c.args.ops.now) c.in-Project.input c.args.v) (c.names_var.ensures ∙ ap (λ keys. has_var keys c.args.v) c.deref.ensures.value) c.if-names_var.true c.binds-then-names_var.ensures)

pub returns-else-names_var : goal.returns-else-names_var
returns-else-names_var t c =
    bound_at (map op_of c.args.ops.now) c.requires.typed c.args.n c.requires.op _ (ap op_of (sym c.in-Project.is) ∙ c.operator.ensures) c.args.v _
    (bound_no_key (has_var c.in-Project.keys.items c.args.v) _ (kinds (map op_of c.args.ops.now) c.in-Project.input c.args.v) (c.names_var.ensures ∙ ap (λ keys. has_var keys c.args.v) c.deref.ensures.value) c.if-names_var.false)

pub returns-then-eq-2 : goal.returns-then-eq-2
returns-then-eq-2 t c =
    bound_at (map op_of c.args.ops.now) c.requires.typed c.args.n c.requires.op _ (ap op_of (sym c.in-GroupBy.is) ∙ c.operator.ensures) c.args.v _
    (bound_out (c.in-GroupBy.out == c.args.v) _ a_list (kept c.in-GroupBy.keys.items (kinds (map op_of c.args.ops.now) c.in-GroupBy.input) c.args.v) c.eq-in-GroupBy.ensures c.if-eq-2.true
    ∙ sym (ap (λ (g : Kinds). is_some (g c.args.v)) (group_kinds c.in-GroupBy.keys.items c.in-GroupBy.piece c.in-GroupBy.out (kinds (map op_of c.args.ops.now) c.in-GroupBy.input))))

pub returns-then-names_var-2 : goal.returns-then-names_var-2
returns-then-names_var-2 t c =
    bound_at (map op_of c.args.ops.now) c.requires.typed c.args.n c.requires.op _ (ap op_of (sym c.in-GroupBy.is) ∙ c.operator.ensures) c.args.v _
    (bound_other (c.in-GroupBy.out == c.args.v) _ _ a_list (kept c.in-GroupBy.keys.items (kinds (map op_of c.args.ops.now) c.in-GroupBy.input) c.args.v) c.eq-in-GroupBy.ensures c.if-eq-2.false (bound_key (has_var c.in-GroupBy.keys.items c.args.v) _ _ (kinds (map op_of c.args.ops.now) c.in-GroupBy.input c.args.v) (c.names_var-else-eq-2.ensures ∙ ap (λ keys. has_var keys c.args.v) c.deref-else-eq-2.ensures.value) c.if-names_var-2.true c.binds-then-names_var-2.ensures)
    ∙ sym (ap (λ (g : Kinds). is_some (g c.args.v)) (group_kinds c.in-GroupBy.keys.items c.in-GroupBy.piece c.in-GroupBy.out (kinds (map op_of c.args.ops.now) c.in-GroupBy.input))))

pub returns-else-names_var-2 : goal.returns-else-names_var-2
returns-else-names_var-2 t c =
    bound_at (map op_of c.args.ops.now) c.requires.typed c.args.n c.requires.op _ (ap op_of (sym c.in-GroupBy.is) ∙ c.operator.ensures) c.args.v _
    (bound_other (c.in-GroupBy.out == c.args.v) _ _ a_list (kept c.in-GroupBy.keys.items (kinds (map op_of c.args.ops.now) c.in-GroupBy.input) c.args.v) c.eq-in-GroupBy.ensures c.if-eq-2.false (bound_no_key (has_var c.in-GroupBy.keys.items c.args.v) _ (kinds (map op_of c.args.ops.now) c.in-GroupBy.input c.args.v) (c.names_var-else-eq-2.ensures ∙ ap (λ keys. has_var keys c.args.v) c.deref-else-eq-2.ensures.value) c.if-names_var-2.false)
    ∙ sym (ap (λ (g : Kinds). is_some (g c.args.v)) (group_kinds c.in-GroupBy.keys.items c.in-GroupBy.piece c.in-GroupBy.out (kinds (map op_of c.args.ops.now) c.in-GroupBy.input))))

pub returns-in-OrderBy : goal.returns-in-OrderBy
returns-in-OrderBy t c =
    bound_at (map op_of c.args.ops.now) c.requires.typed c.args.n c.requires.op _ (ap op_of (sym c.in-OrderBy.is) ∙ c.operator.ensures) c.args.v _
    (c.binds-in-OrderBy.ensures)

pub returns-then-eq-3 : goal.returns-then-eq-3
returns-then-eq-3 t c =
    bound_at (map op_of c.args.ops.now) c.requires.typed c.args.n c.requires.op _ (ap op_of (sym c.in-Concatenate.is) ∙ c.operator.ensures) c.args.v _
    (bound_out (c.in-Concatenate.out == c.args.v) _ a_list (kinds (map op_of c.args.ops.now) c.in-Concatenate.input c.args.v) c.eq-in-Concatenate.ensures c.if-eq-3.true)

pub returns-else-eq-3 : goal.returns-else-eq-3
returns-else-eq-3 t c =
    bound_at (map op_of c.args.ops.now) c.requires.typed c.args.n c.requires.op _ (ap op_of (sym c.in-Concatenate.is) ∙ c.operator.ensures) c.args.v _
    (bound_other (c.in-Concatenate.out == c.args.v) _ _ a_list (kinds (map op_of c.args.ops.now) c.in-Concatenate.input c.args.v) c.eq-in-Concatenate.ensures c.if-eq-3.false c.binds-else-eq-3.ensures)

pub returns-then-eq-4 : goal.returns-then-eq-4
returns-then-eq-4 t c =
    bound_at (map op_of c.args.ops.now) c.requires.typed c.args.n c.requires.op _ (ap op_of (sym c.in-CreateElement.is) ∙ c.operator.ensures) c.args.v _
    (bound_out (c.in-CreateElement.out == c.args.v) _ an_element (kinds (map op_of c.args.ops.now) c.in-CreateElement.input c.args.v) c.eq-in-CreateElement.ensures c.if-eq-4.true)

pub returns-else-eq-4 : goal.returns-else-eq-4
returns-else-eq-4 t c =
    bound_at (map op_of c.args.ops.now) c.requires.typed c.args.n c.requires.op _ (ap op_of (sym c.in-CreateElement.is) ∙ c.operator.ensures) c.args.v _
    (bound_other (c.in-CreateElement.out == c.args.v) _ _ an_element (kinds (map op_of c.args.ops.now) c.in-CreateElement.input c.args.v) c.eq-in-CreateElement.ensures c.if-eq-4.false c.binds-else-eq-4.ensures)

pub returns-in-TupleDestroy : goal.returns-in-TupleDestroy
returns-in-TupleDestroy t c =
    bound_at (map op_of c.args.ops.now) c.requires.typed c.args.n c.requires.op _ (ap op_of (sym c.in-TupleDestroy.is) ∙ c.operator.ensures) c.args.v _ refl
