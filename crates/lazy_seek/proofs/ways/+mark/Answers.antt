use Rattle.std.proofs.Common.{rules, arith, ◌≡◌, ◌∙◌, inl, inr, refl, sym, ap, subst, [], ◌∷◌, true, map, length, slice_set}
use Rattle.std.proofs.lemmas.List.{length-map}
use Rattle.mix_base.specs.Ascents.{Among}
use Rattle.plan_core.specs.PlanMade.{op_of}
use Rattle.plan_core.specs.Plans.{Operator}
use Rattle.plan_core.specs.Shapes.{shape_of, shape_at}
use Rattle.plan_evidence.specs.Evidence.{shape_way}
use Rattle.lazy_seek.specs.Ways.{way_inputs_of}
use Rattle.lazy_seek.proofs.Marks.{op_read, way_smaller, marks_none, marks_input, marks_sides}
use Rattle.lazy_seek.proofs.ways.+mark.Goals as goal

pub mark-requires : goal.mark-requires
mark-requires t c =
    let e = op_read c.args.ops.now c.args.op c.index-ops-op.result (let l = length-map c.args.ops.now op_of in let b = c.requires.op in omega (arith, l, b)) c.index-ops-op.is in
    let w : shape_way (shape_at (map op_of c.args.ops.now) c.args.op) ≡ c.in-One.input ∷ [] = ap (λ (o : Operator). shape_way (shape_of o)) (sym e) ∙ c.inputs_on_way.ensures ∙ ap way_inputs_of c.in-One.is in
    let s = way_smaller (map op_of c.args.ops.now) c.requires.typed c.args.op c.requires.op c.in-One.input (subst (Among c.in-One.input) (sym w) (inl refl)) in
    let n : length (slice_set c.args.way.now c.args.op true) ≡ length c.args.way.now = search rules in
    (omega (arith, s), (c.requires.typed, (omega (arith, s), omega (arith, s, n))))

pub mark-requires-in-Two : goal.mark-requires-in-Two
mark-requires-in-Two t c =
    let e = op_read c.args.ops.now c.args.op c.index-ops-op.result (let l = length-map c.args.ops.now op_of in let b = c.requires.op in omega (arith, l, b)) c.index-ops-op.is in
    let w : shape_way (shape_at (map op_of c.args.ops.now) c.args.op) ≡ c.in-Two.left ∷ c.in-Two.right ∷ [] = ap (λ (o : Operator). shape_way (shape_of o)) (sym e) ∙ c.inputs_on_way.ensures ∙ ap way_inputs_of c.in-Two.is in
    let s = way_smaller (map op_of c.args.ops.now) c.requires.typed c.args.op c.requires.op c.in-Two.left (subst (Among c.in-Two.left) (sym w) (inl refl)) in
    let n : length (slice_set c.args.way.now c.args.op true) ≡ length c.args.way.now = search rules in
    (omega (arith, s), (c.requires.typed, (omega (arith, s), omega (arith, s, n))))

pub mark-requires-in-Two-2 : goal.mark-requires-in-Two-2
mark-requires-in-Two-2 t c =
    let e = op_read c.args.ops.now c.args.op c.index-ops-op.result (let l = length-map c.args.ops.now op_of in let b = c.requires.op in omega (arith, l, b)) c.index-ops-op.is in
    let w : shape_way (shape_at (map op_of c.args.ops.now) c.args.op) ≡ c.in-Two.left ∷ c.in-Two.right ∷ [] = ap (λ (o : Operator). shape_way (shape_of o)) (sym e) ∙ c.inputs_on_way.ensures ∙ ap way_inputs_of c.in-Two.is in
    let s = way_smaller (map op_of c.args.ops.now) c.requires.typed c.args.op c.requires.op c.in-Two.right (subst (Among c.in-Two.right) (sym w) (inr (inl refl))) in
    let n : length (slice_set c.args.way.now c.args.op true) ≡ length c.args.way.now = search rules in
    (omega (arith, s), (c.requires.typed, (omega (arith, s), omega (arith, s, n, c.mark-in-Two.ensures.length))))

pub returns-in-None-clause-marked : goal.returns-in-None-clause-marked
returns-in-None-clause-marked t c = λ i.
    let e = op_read c.args.ops.now c.args.op c.index-ops-op.result (let l = length-map c.args.ops.now op_of in let b = c.requires.op in omega (arith, l, b)) c.index-ops-op.is in
    let w : shape_way (shape_at (map op_of c.args.ops.now) c.args.op) ≡ [] = ap (λ (o : Operator). shape_way (shape_of o)) (sym e) ∙ c.inputs_on_way.ensures ∙ ap way_inputs_of c.in-None.is in
    marks_none (map op_of c.args.ops.now) c.requires.typed c.args.op c.requires.op c.args.way.now c.requires.room i w

pub returns-in-One-clause-marked : goal.returns-in-One-clause-marked
returns-in-One-clause-marked t c = λ i.
    let e = op_read c.args.ops.now c.args.op c.index-ops-op.result (let l = length-map c.args.ops.now op_of in let b = c.requires.op in omega (arith, l, b)) c.index-ops-op.is in
    let w : shape_way (shape_at (map op_of c.args.ops.now) c.args.op) ≡ c.in-One.input ∷ [] = ap (λ (o : Operator). shape_way (shape_of o)) (sym e) ∙ c.inputs_on_way.ensures ∙ ap way_inputs_of c.in-One.is in
    marks_input (map op_of c.args.ops.now) c.requires.typed c.args.op c.requires.op c.args.way.now c.requires.room i c.in-One.input w _ (c.mark.ensures.marked i)

pub returns-in-Two-clause-marked : goal.returns-in-Two-clause-marked
returns-in-Two-clause-marked t c = λ i.
    let e = op_read c.args.ops.now c.args.op c.index-ops-op.result (let l = length-map c.args.ops.now op_of in let b = c.requires.op in omega (arith, l, b)) c.index-ops-op.is in
    let w : shape_way (shape_at (map op_of c.args.ops.now) c.args.op) ≡ c.in-Two.left ∷ c.in-Two.right ∷ [] = ap (λ (o : Operator). shape_way (shape_of o)) (sym e) ∙ c.inputs_on_way.ensures ∙ ap way_inputs_of c.in-Two.is in
    marks_sides (map op_of c.args.ops.now) c.requires.typed c.args.op c.requires.op c.args.way.now c.requires.room i c.in-Two.left c.in-Two.right w _ _ (c.mark-in-Two.ensures.marked i) (c.mark-in-Two-2.ensures.marked i)
