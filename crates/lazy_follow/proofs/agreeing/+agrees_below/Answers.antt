use Rattle.std.proofs.Common.{◌∙◌, List, [], ◌∷◌, sym, ap, subst, arith, inl, inr, refl}
use Rattle.std.specs.Prelude.{Bool, ◌&&◌}
use Rattle.mix_base.specs.Ascents.{Among}
use Rattle.mix_tree.specs.declared.var.Key.{Key}
use Rattle.mix_tree.specs.declared.var.Key.TheVariants.{Node as node_key}
use Rattle.plan_core.specs.declared.plan.Plan.{Plan}
use Rattle.plan_core.specs.ByNumber.{op_at}
use Rattle.plan_core.specs.PlanMade.{op_of, plan_value}
use Rattle.plan_core.specs.Shapes.{Shape, shape_of}
use Rattle.plan_core.specs.TolledRows.{row_node, same_values}
use Rattle.plan_core.specs.Valid.{shape_inputs, kinds, AreNodes}
use Rattle.plan_core.proofs.Fresh.{smaller}
use Rattle.plan_core.proofs.Typed.{valid_is_typed}
use Rattle.plan_evidence.specs.Held.{held, node_values}
use Rattle.lazy_plan.specs.Bench.{state_of, documents, binding_at}
use Rattle.lazy_follow.specs.Spotted.{nodes_of}
use Rattle.lazy_follow.proofs.Agreements.{agree_both, agree_one, then_both, else_both, nodes_first, nodes_second, node_itself, group_holds, held_at}
use Rattle.lazy_follow.proofs.agreeing.+agrees_below.Goals as goal

pub agrees_by-requires-clause-node : goal.agrees_by-requires-clause-node
agrees_by-requires-clause-node t c =
    let p = plan_value c.args.bench.now.fixed.plan in
    let valid = c.requires.cursor.1.1.valid in
    let typed = valid_is_typed p valid in
    let read = c.operator.ensures ∙ ap (λ (q : Plan). op_at (plan_value q).ops c.args.op) c.plan.ensures in
    let shape = ap shape_of (sym read ∙ ap op_of c.in-Source.is) in
    let e = held_at p.ops typed c.args.op c.requires.op _ shape in
    let ks = kinds p.ops c.args.evidence.now.op in
    let nodes = subst (λ (keys : List Key). AreNodes keys ks) e c.requires.nodes in
    node_itself c.in-Source.out ks nodes

pub agrees_below-requires : goal.agrees_below-requires
agrees_below-requires t c =
    let p = plan_value c.args.bench.now.fixed.plan in
    let valid = c.requires.cursor.1.1.valid in
    let typed = valid_is_typed p valid in
    let read = c.operator.ensures ∙ ap (λ (q : Plan). op_at (plan_value q).ops c.args.op) c.plan.ensures in
    let shape = ap shape_of (sym read ∙ ap op_of c.in-GetDescendants.is) in
    let e = held_at p.ops typed c.args.op c.requires.op _ shape in
    let ks = kinds p.ops c.args.evidence.now.op in
    let nodes = subst (λ (keys : List Key). AreNodes keys ks) e c.requires.nodes in
    let low = smaller p valid typed c.in-GetDescendants.input c.args.op c.requires.op (subst (λ (f : Shape). Among c.in-GetDescendants.input (shape_inputs f)) (sym shape) (inl refl)) in
    let b = c.requires.op in
    (omega (arith, low), (omega (arith, low, b), (c.requires.cursor, nodes_first (held p.ops c.in-GetDescendants.input) (node_key c.in-GetDescendants.out ∷ []) ks nodes)))

pub agrees_by-requires-then-agrees_below-clause-node : goal.agrees_by-requires-then-agrees_below-clause-node
agrees_by-requires-then-agrees_below-clause-node t c =
    let p = plan_value c.args.bench.now.fixed.plan in
    let valid = c.requires.cursor.1.1.valid in
    let typed = valid_is_typed p valid in
    let read = c.operator.ensures ∙ ap (λ (q : Plan). op_at (plan_value q).ops c.args.op) c.plan.ensures in
    let shape = ap shape_of (sym read ∙ ap op_of c.in-GetDescendants.is) in
    let e = held_at p.ops typed c.args.op c.requires.op _ shape in
    let ks = kinds p.ops c.args.evidence.now.op in
    let nodes = subst (λ (keys : List Key). AreNodes keys ks) e c.requires.nodes in
    node_itself c.in-GetDescendants.out ks (nodes_second (held p.ops c.in-GetDescendants.input) (node_key c.in-GetDescendants.out ∷ []) ks nodes)

pub agrees_below-requires-in-Join : goal.agrees_below-requires-in-Join
agrees_below-requires-in-Join t c =
    let p = plan_value c.args.bench.now.fixed.plan in
    let valid = c.requires.cursor.1.1.valid in
    let typed = valid_is_typed p valid in
    let read = c.operator.ensures ∙ ap (λ (q : Plan). op_at (plan_value q).ops c.args.op) c.plan.ensures in
    let shape = ap shape_of (sym read ∙ ap op_of c.in-Join.is) in
    let e = held_at p.ops typed c.args.op c.requires.op _ shape in
    let ks = kinds p.ops c.args.evidence.now.op in
    let nodes = subst (λ (keys : List Key). AreNodes keys ks) e c.requires.nodes in
    let low = smaller p valid typed c.in-Join.left c.args.op c.requires.op (subst (λ (f : Shape). Among c.in-Join.left (shape_inputs f)) (sym shape) (inl refl)) in
    let b = c.requires.op in
    (omega (arith, low), (omega (arith, low, b), (c.requires.cursor, nodes_first (held p.ops c.in-Join.left) (held p.ops c.in-Join.right) ks nodes)))

pub agrees_below-requires-then-agrees_below-2 : goal.agrees_below-requires-then-agrees_below-2
agrees_below-requires-then-agrees_below-2 t c =
    let p = plan_value c.args.bench.now.fixed.plan in
    let valid = c.requires.cursor.1.1.valid in
    let typed = valid_is_typed p valid in
    let read = c.operator.ensures ∙ ap (λ (q : Plan). op_at (plan_value q).ops c.args.op) c.plan.ensures in
    let shape = ap shape_of (sym read ∙ ap op_of c.in-Join.is) in
    let e = held_at p.ops typed c.args.op c.requires.op _ shape in
    let ks = kinds p.ops c.args.evidence.now.op in
    let nodes = subst (λ (keys : List Key). AreNodes keys ks) e c.requires.nodes in
    let low = smaller p valid typed c.in-Join.right c.args.op c.requires.op (subst (λ (f : Shape). Among c.in-Join.right (shape_inputs f)) (sym shape) (inr (inl refl))) in
    let b = c.requires.op in
    (omega (arith, low), (omega (arith, low, b), (c.requires.cursor, nodes_second (held p.ops c.in-Join.left) (held p.ops c.in-Join.right) ks nodes)))

pub agrees_by_all-requires-clause-nodes : goal.agrees_by_all-requires-clause-nodes
agrees_by_all-requires-clause-nodes t c =
    let p = plan_value c.args.bench.now.fixed.plan in
    let valid = c.requires.cursor.1.1.valid in
    let typed = valid_is_typed p valid in
    let read = c.operator.ensures ∙ ap (λ (q : Plan). op_at (plan_value q).ops c.args.op) c.plan.ensures in
    let shape = ap shape_of (sym read ∙ ap op_of c.in-Project.is) in
    let e = held_at p.ops typed c.args.op c.requires.op _ shape in
    let ks = kinds p.ops c.args.evidence.now.op in
    let nodes = subst (λ (keys : List Key). AreNodes keys ks) e c.requires.nodes in
    subst (λ (keys : List Key). AreNodes keys ks) (sym c.deref.ensures.value) nodes

pub agrees_by_all-requires-in-GroupBy-clause-nodes : goal.agrees_by_all-requires-in-GroupBy-clause-nodes
agrees_by_all-requires-in-GroupBy-clause-nodes t c =
    let p = plan_value c.args.bench.now.fixed.plan in
    let valid = c.requires.cursor.1.1.valid in
    let typed = valid_is_typed p valid in
    let read = c.operator.ensures ∙ ap (λ (q : Plan). op_at (plan_value q).ops c.args.op) c.plan.ensures in
    let shape = ap shape_of (sym read ∙ ap op_of c.in-GroupBy.is) in
    let e = held_at p.ops typed c.args.op c.requires.op _ shape in
    let ks = kinds p.ops c.args.evidence.now.op in
    let nodes = subst (λ (keys : List Key). AreNodes keys ks) e c.requires.nodes in
    subst (λ (keys : List Key). AreNodes keys ks) (group_holds c.in-GroupBy.keys.items c.in-GroupBy.piece c.in-GroupBy.out (held p.ops c.in-GroupBy.input) ∙ sym c.deref-in-GroupBy.ensures.value) nodes

pub agrees_below-requires-in-Select : goal.agrees_below-requires-in-Select
agrees_below-requires-in-Select t c =
    let p = plan_value c.args.bench.now.fixed.plan in
    let valid = c.requires.cursor.1.1.valid in
    let typed = valid_is_typed p valid in
    let read = c.operator.ensures ∙ ap (λ (q : Plan). op_at (plan_value q).ops c.args.op) c.plan.ensures in
    let shape = ap shape_of (sym read ∙ ap op_of c.in-Select.is) in
    let e = held_at p.ops typed c.args.op c.requires.op _ shape in
    let ks = kinds p.ops c.args.evidence.now.op in
    let nodes = subst (λ (keys : List Key). AreNodes keys ks) e c.requires.nodes in
    let low = smaller p valid typed c.in-Select.input c.args.op c.requires.op (subst (λ (f : Shape). Among c.in-Select.input (shape_inputs f)) (sym shape) (inl refl)) in
    let b = c.requires.op in
    (omega (arith, low), (omega (arith, low, b), (c.requires.cursor, nodes)))

pub agrees_below-requires-in-OrderBy : goal.agrees_below-requires-in-OrderBy
agrees_below-requires-in-OrderBy t c =
    let p = plan_value c.args.bench.now.fixed.plan in
    let valid = c.requires.cursor.1.1.valid in
    let typed = valid_is_typed p valid in
    let read = c.operator.ensures ∙ ap (λ (q : Plan). op_at (plan_value q).ops c.args.op) c.plan.ensures in
    let shape = ap shape_of (sym read ∙ ap op_of c.in-OrderBy.is) in
    let e = held_at p.ops typed c.args.op c.requires.op _ shape in
    let ks = kinds p.ops c.args.evidence.now.op in
    let nodes = subst (λ (keys : List Key). AreNodes keys ks) e c.requires.nodes in
    let low = smaller p valid typed c.in-OrderBy.input c.args.op c.requires.op (subst (λ (f : Shape). Among c.in-OrderBy.input (shape_inputs f)) (sym shape) (inl refl)) in
    let b = c.requires.op in
    (omega (arith, low), (omega (arith, low, b), (c.requires.cursor, nodes)))

pub agrees_below-requires-in-Concatenate : goal.agrees_below-requires-in-Concatenate
agrees_below-requires-in-Concatenate t c =
    let p = plan_value c.args.bench.now.fixed.plan in
    let valid = c.requires.cursor.1.1.valid in
    let typed = valid_is_typed p valid in
    let read = c.operator.ensures ∙ ap (λ (q : Plan). op_at (plan_value q).ops c.args.op) c.plan.ensures in
    let shape = ap shape_of (sym read ∙ ap op_of c.in-Concatenate.is) in
    let e = held_at p.ops typed c.args.op c.requires.op _ shape in
    let ks = kinds p.ops c.args.evidence.now.op in
    let nodes = subst (λ (keys : List Key). AreNodes keys ks) e c.requires.nodes in
    let low = smaller p valid typed c.in-Concatenate.input c.args.op c.requires.op (subst (λ (f : Shape). Among c.in-Concatenate.input (shape_inputs f)) (sym shape) (inl refl)) in
    let b = c.requires.op in
    (omega (arith, low), (omega (arith, low, b), (c.requires.cursor, nodes)))

pub agrees_below-requires-in-CreateElement : goal.agrees_below-requires-in-CreateElement
agrees_below-requires-in-CreateElement t c =
    let p = plan_value c.args.bench.now.fixed.plan in
    let valid = c.requires.cursor.1.1.valid in
    let typed = valid_is_typed p valid in
    let read = c.operator.ensures ∙ ap (λ (q : Plan). op_at (plan_value q).ops c.args.op) c.plan.ensures in
    let shape = ap shape_of (sym read ∙ ap op_of c.in-CreateElement.is) in
    let e = held_at p.ops typed c.args.op c.requires.op _ shape in
    let ks = kinds p.ops c.args.evidence.now.op in
    let nodes = subst (λ (keys : List Key). AreNodes keys ks) e c.requires.nodes in
    let low = smaller p valid typed c.in-CreateElement.input c.args.op c.requires.op (subst (λ (f : Shape). Among c.in-CreateElement.input (shape_inputs f)) (sym shape) (inl refl)) in
    let b = c.requires.op in
    (omega (arith, low), (omega (arith, low, b), (c.requires.cursor, nodes)))

pub returns-in-Source : goal.returns-in-Source
returns-in-Source t c = λ places view at sp cursor tells.
    let p = plan_value c.args.bench.now.fixed.plan in
    let valid = c.requires.cursor.1.1.valid in
    let typed = valid_is_typed p valid in
    let read = c.operator.ensures ∙ ap (λ (q : Plan). op_at (plan_value q).ops c.args.op) c.plan.ensures in
    let shape = ap shape_of (sym read ∙ ap op_of c.in-Source.is) in
    let e = held_at p.ops typed c.args.op c.requires.op _ shape in
    let st = state_of view c.args.bench.now in
    let a = nodes_of st places c.args.evidence.now in
    let b = row_node (binding_at st c.args.evidence.now.op c.args.c.now) in
    let all : List Key → Bool = λ keys. same_values (node_values (documents st) keys a) (node_values (documents st) keys b) in
    c.agrees_by.ensures places view at sp cursor tells ∙ sym (ap all e ∙ agree_one (documents st) a b (node_key c.in-Source.out))

pub returns-then-agrees_below : goal.returns-then-agrees_below
returns-then-agrees_below t c = λ places view at sp cursor tells.
    let p = plan_value c.args.bench.now.fixed.plan in
    let valid = c.requires.cursor.1.1.valid in
    let typed = valid_is_typed p valid in
    let read = c.operator.ensures ∙ ap (λ (q : Plan). op_at (plan_value q).ops c.args.op) c.plan.ensures in
    let shape = ap shape_of (sym read ∙ ap op_of c.in-GetDescendants.is) in
    let e = held_at p.ops typed c.args.op c.requires.op _ shape in
    let st = state_of view c.args.bench.now in
    let a = nodes_of st places c.args.evidence.now in
    let b = row_node (binding_at st c.args.evidence.now.op c.args.c.now) in
    let all : List Key → Bool = λ keys. same_values (node_values (documents st) keys a) (node_values (documents st) keys b) in
    let both = ap all e ∙ agree_both (documents st) a b (held p.ops c.in-GetDescendants.input) (node_key c.in-GetDescendants.out ∷ [])
    ∙ ap (λ (t : Bool). all (held p.ops c.in-GetDescendants.input) && t) (agree_one (documents st) a b (node_key c.in-GetDescendants.out)) in
    then_both _ _ _ _ (sym (c.agrees_below.ensures places view at sp cursor tells) ∙ c.if-agrees_below.true) (c.agrees_by-then-agrees_below.ensures places view at sp cursor tells) both

pub returns-else-agrees_below : goal.returns-else-agrees_below
returns-else-agrees_below t c = λ places view at sp cursor tells.
    let p = plan_value c.args.bench.now.fixed.plan in
    let valid = c.requires.cursor.1.1.valid in
    let typed = valid_is_typed p valid in
    let read = c.operator.ensures ∙ ap (λ (q : Plan). op_at (plan_value q).ops c.args.op) c.plan.ensures in
    let shape = ap shape_of (sym read ∙ ap op_of c.in-GetDescendants.is) in
    let e = held_at p.ops typed c.args.op c.requires.op _ shape in
    let st = state_of view c.args.bench.now in
    let a = nodes_of st places c.args.evidence.now in
    let b = row_node (binding_at st c.args.evidence.now.op c.args.c.now) in
    let all : List Key → Bool = λ keys. same_values (node_values (documents st) keys a) (node_values (documents st) keys b) in
    let both = ap all e ∙ agree_both (documents st) a b (held p.ops c.in-GetDescendants.input) (node_key c.in-GetDescendants.out ∷ [])
    ∙ ap (λ (t : Bool). all (held p.ops c.in-GetDescendants.input) && t) (agree_one (documents st) a b (node_key c.in-GetDescendants.out)) in
    else_both _ _ _ _ (c.agrees_below.ensures places view at sp cursor tells) c.if-agrees_below.false both

pub returns-then-agrees_below-2 : goal.returns-then-agrees_below-2
returns-then-agrees_below-2 t c = λ places view at sp cursor tells.
    let p = plan_value c.args.bench.now.fixed.plan in
    let valid = c.requires.cursor.1.1.valid in
    let typed = valid_is_typed p valid in
    let read = c.operator.ensures ∙ ap (λ (q : Plan). op_at (plan_value q).ops c.args.op) c.plan.ensures in
    let shape = ap shape_of (sym read ∙ ap op_of c.in-Join.is) in
    let e = held_at p.ops typed c.args.op c.requires.op _ shape in
    let st = state_of view c.args.bench.now in
    let a = nodes_of st places c.args.evidence.now in
    let b = row_node (binding_at st c.args.evidence.now.op c.args.c.now) in
    let all : List Key → Bool = λ keys. same_values (node_values (documents st) keys a) (node_values (documents st) keys b) in
    let both = ap all e ∙ agree_both (documents st) a b (held p.ops c.in-Join.left) (held p.ops c.in-Join.right) in
    then_both _ _ _ _ (sym (c.agrees_below-in-Join.ensures places view at sp cursor tells) ∙ c.if-agrees_below-2.true) (c.agrees_below-then-agrees_below-2.ensures places view at sp cursor tells) both

pub returns-else-agrees_below-2 : goal.returns-else-agrees_below-2
returns-else-agrees_below-2 t c = λ places view at sp cursor tells.
    let p = plan_value c.args.bench.now.fixed.plan in
    let valid = c.requires.cursor.1.1.valid in
    let typed = valid_is_typed p valid in
    let read = c.operator.ensures ∙ ap (λ (q : Plan). op_at (plan_value q).ops c.args.op) c.plan.ensures in
    let shape = ap shape_of (sym read ∙ ap op_of c.in-Join.is) in
    let e = held_at p.ops typed c.args.op c.requires.op _ shape in
    let st = state_of view c.args.bench.now in
    let a = nodes_of st places c.args.evidence.now in
    let b = row_node (binding_at st c.args.evidence.now.op c.args.c.now) in
    let all : List Key → Bool = λ keys. same_values (node_values (documents st) keys a) (node_values (documents st) keys b) in
    let both = ap all e ∙ agree_both (documents st) a b (held p.ops c.in-Join.left) (held p.ops c.in-Join.right) in
    else_both _ _ _ _ (c.agrees_below-in-Join.ensures places view at sp cursor tells) c.if-agrees_below-2.false both

pub returns-in-Project : goal.returns-in-Project
returns-in-Project t c = λ places view at sp cursor tells.
    let p = plan_value c.args.bench.now.fixed.plan in
    let valid = c.requires.cursor.1.1.valid in
    let typed = valid_is_typed p valid in
    let read = c.operator.ensures ∙ ap (λ (q : Plan). op_at (plan_value q).ops c.args.op) c.plan.ensures in
    let shape = ap shape_of (sym read ∙ ap op_of c.in-Project.is) in
    let e = held_at p.ops typed c.args.op c.requires.op _ shape in
    let st = state_of view c.args.bench.now in
    let a = nodes_of st places c.args.evidence.now in
    let b = row_node (binding_at st c.args.evidence.now.op c.args.c.now) in
    let all : List Key → Bool = λ keys. same_values (node_values (documents st) keys a) (node_values (documents st) keys b) in
    c.agrees_by_all.ensures places view at sp cursor tells ∙ ap all c.deref.ensures.value ∙ sym (ap all e)

pub returns-in-GroupBy : goal.returns-in-GroupBy
returns-in-GroupBy t c = λ places view at sp cursor tells.
    let p = plan_value c.args.bench.now.fixed.plan in
    let valid = c.requires.cursor.1.1.valid in
    let typed = valid_is_typed p valid in
    let read = c.operator.ensures ∙ ap (λ (q : Plan). op_at (plan_value q).ops c.args.op) c.plan.ensures in
    let shape = ap shape_of (sym read ∙ ap op_of c.in-GroupBy.is) in
    let e = held_at p.ops typed c.args.op c.requires.op _ shape in
    let st = state_of view c.args.bench.now in
    let a = nodes_of st places c.args.evidence.now in
    let b = row_node (binding_at st c.args.evidence.now.op c.args.c.now) in
    let all : List Key → Bool = λ keys. same_values (node_values (documents st) keys a) (node_values (documents st) keys b) in
    c.agrees_by_all-in-GroupBy.ensures places view at sp cursor tells ∙ ap all c.deref-in-GroupBy.ensures.value
    ∙ sym (ap all (e ∙ group_holds c.in-GroupBy.keys.items c.in-GroupBy.piece c.in-GroupBy.out (held p.ops c.in-GroupBy.input)))

pub returns-in-Select : goal.returns-in-Select
returns-in-Select t c = λ places view at sp cursor tells.
    let p = plan_value c.args.bench.now.fixed.plan in
    let valid = c.requires.cursor.1.1.valid in
    let typed = valid_is_typed p valid in
    let read = c.operator.ensures ∙ ap (λ (q : Plan). op_at (plan_value q).ops c.args.op) c.plan.ensures in
    let shape = ap shape_of (sym read ∙ ap op_of c.in-Select.is) in
    let e = held_at p.ops typed c.args.op c.requires.op _ shape in
    let st = state_of view c.args.bench.now in
    let a = nodes_of st places c.args.evidence.now in
    let b = row_node (binding_at st c.args.evidence.now.op c.args.c.now) in
    let all : List Key → Bool = λ keys. same_values (node_values (documents st) keys a) (node_values (documents st) keys b) in
    c.agrees_below-in-Select.ensures places view at sp cursor tells ∙ sym (ap all e)

pub returns-in-OrderBy : goal.returns-in-OrderBy
returns-in-OrderBy t c = λ places view at sp cursor tells.
    let p = plan_value c.args.bench.now.fixed.plan in
    let valid = c.requires.cursor.1.1.valid in
    let typed = valid_is_typed p valid in
    let read = c.operator.ensures ∙ ap (λ (q : Plan). op_at (plan_value q).ops c.args.op) c.plan.ensures in
    let shape = ap shape_of (sym read ∙ ap op_of c.in-OrderBy.is) in
    let e = held_at p.ops typed c.args.op c.requires.op _ shape in
    let st = state_of view c.args.bench.now in
    let a = nodes_of st places c.args.evidence.now in
    let b = row_node (binding_at st c.args.evidence.now.op c.args.c.now) in
    let all : List Key → Bool = λ keys. same_values (node_values (documents st) keys a) (node_values (documents st) keys b) in
    c.agrees_below-in-OrderBy.ensures places view at sp cursor tells ∙ sym (ap all e)

pub returns-in-Concatenate : goal.returns-in-Concatenate
returns-in-Concatenate t c = λ places view at sp cursor tells.
    let p = plan_value c.args.bench.now.fixed.plan in
    let valid = c.requires.cursor.1.1.valid in
    let typed = valid_is_typed p valid in
    let read = c.operator.ensures ∙ ap (λ (q : Plan). op_at (plan_value q).ops c.args.op) c.plan.ensures in
    let shape = ap shape_of (sym read ∙ ap op_of c.in-Concatenate.is) in
    let e = held_at p.ops typed c.args.op c.requires.op _ shape in
    let st = state_of view c.args.bench.now in
    let a = nodes_of st places c.args.evidence.now in
    let b = row_node (binding_at st c.args.evidence.now.op c.args.c.now) in
    let all : List Key → Bool = λ keys. same_values (node_values (documents st) keys a) (node_values (documents st) keys b) in
    c.agrees_below-in-Concatenate.ensures places view at sp cursor tells ∙ sym (ap all e)

pub returns-in-CreateElement : goal.returns-in-CreateElement
returns-in-CreateElement t c = λ places view at sp cursor tells.
    let p = plan_value c.args.bench.now.fixed.plan in
    let valid = c.requires.cursor.1.1.valid in
    let typed = valid_is_typed p valid in
    let read = c.operator.ensures ∙ ap (λ (q : Plan). op_at (plan_value q).ops c.args.op) c.plan.ensures in
    let shape = ap shape_of (sym read ∙ ap op_of c.in-CreateElement.is) in
    let e = held_at p.ops typed c.args.op c.requires.op _ shape in
    let st = state_of view c.args.bench.now in
    let a = nodes_of st places c.args.evidence.now in
    let b = row_node (binding_at st c.args.evidence.now.op c.args.c.now) in
    let all : List Key → Bool = λ keys. same_values (node_values (documents st) keys a) (node_values (documents st) keys b) in
    c.agrees_below-in-CreateElement.ensures places view at sp cursor tells ∙ sym (ap all e)

pub returns-in-TupleDestroy : goal.returns-in-TupleDestroy
returns-in-TupleDestroy t c = λ places view at sp cursor tells.
    let p = plan_value c.args.bench.now.fixed.plan in
    let valid = c.requires.cursor.1.1.valid in
    let typed = valid_is_typed p valid in
    let read = c.operator.ensures ∙ ap (λ (q : Plan). op_at (plan_value q).ops c.args.op) c.plan.ensures in
    let shape = ap shape_of (sym read ∙ ap op_of c.in-TupleDestroy.is) in
    let e = held_at p.ops typed c.args.op c.requires.op _ shape in
    let st = state_of view c.args.bench.now in
    let a = nodes_of st places c.args.evidence.now in
    let b = row_node (binding_at st c.args.evidence.now.op c.args.c.now) in
    let all : List Key → Bool = λ keys. same_values (node_values (documents st) keys a) (node_values (documents st) keys b) in
    sym (ap all e)
