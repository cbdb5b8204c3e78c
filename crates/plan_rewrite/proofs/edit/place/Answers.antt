use Rattle.std.proofs.Common.{sym, rules, ◌∙◌, ap, map, suc, ◌<◌, ◌≡◌, arith, length, subst, take, drop, set, get_or, List, ◌++◌, ◌∷◌, [], refl}
use Rattle.std.specs.Prelude.{Some, None}
use Rattle.std.proofs.lemmas.List.{length-map, take_at}
use Rattle.plan_core.specs.PlanMade.{op_of}
use Rattle.plan_core.specs.declared.plan.Op.{Op}
use Rattle.plan_core.specs.declared.plan.Op.TheVariants as variant
use Rattle.plan_rewrite.specs.Edits.{Added, bumped_op}
use Rattle.plan_rewrite.proofs.Placing.{placed_in, placed_over}
use Rattle.plan_rewrite.proofs.edit.place.Goals as goal

pub returns-in_default : goal.returns-in_default
returns-in_default c =
    let lt : c.args.at < length c.args.ops.now.items = omega (arith, c.requires, c.args.ops.now.ok.0) in
    let here : c.index_mut.result.now ≡ get_or c.args.ops.now.items c.args.at c.index_mut.result.now = search rules in
    let added : Added c.args.test None (op_of c.index_mut.result.now) (op_of c.add_test.new.op) = subst (λ z. Added c.args.test z (op_of c.index_mut.result.now) (op_of c.add_test.new.op)) c.in_default.is c.in_ok-test.ensures in
    placed_in c.args.test c.args.at c.args.at c.args.ops.now.items c.index_mut.result.now c.add_test.new.op lt
    (subst (λ (o : Op). Added c.args.test None (op_of o) (op_of c.add_test.new.op)) here added)

pub returns : goal.returns
returns c =
    let lt : c.args.at < length c.args.ops.now.items = omega (arith, c.requires, c.args.ops.now.ok.0) in
    let here : c.index_mut.result.now ≡ get_or c.args.ops.now.items c.args.at c.index_mut.result.now = search rules in
    let added : Added c.args.test (Some c.in-Some.test) (op_of c.index_mut.result.now) (op_of c.add_test.new.op) = subst (λ z. Added c.args.test z (op_of c.index_mut.result.now) (op_of c.add_test.new.op)) c.in-Some.is c.in_ok-test.ensures in
    let s : Op = variant.Select c.args.at c.in-Some.test in
    let changed : List Op = set c.args.ops.now.items c.args.at c.add_test.new.op in
    let moved : List Op = c.bump_ops.new.ops in
    let a = length-map moved op_of in
    let b = ap length c.in_ok-bump_ops.ensures in
    let d = length-map (map op_of c.as_mut_slice.result.now) (bumped_op c.args.at) in
    let e = length-map c.as_mut_slice.result.now op_of in
    let v = ap length c.as_mut_slice.ensures.value in
    let many : c.in_ok-after.after.len ≡ length moved = omega (arith, a, b, d, e, v, c.in_ok-after.after.ok.0) in
    let prefix : c.split_off.new.self.items ≡ take (suc c.args.at) changed = search rules in
    let all : c.append.new.self.items ≡ (take (suc c.args.at) changed ++ s ∷ []) ++ moved =
    c.in_ok-append.ensures.items ∙ ap (λ z. c.push.new.self.items ++ z) (take_at moved _ c.in_ok-after.after.len (sym many)) ∙ ap (λ z. z ++ moved) (c.in_ok-push.ensures.items ∙ ap (λ z. z ++ s ∷ []) prefix) in
    let after : map op_of c.bump_ops.new.ops ≡ map (bumped_op c.args.at) (map op_of (drop (suc c.args.at) changed)) = search rules in
    ap (map op_of) all
    ∙ placed_over c.args.test c.in-Some.test c.args.at c.args.at c.args.ops.now.items c.index_mut.result.now c.add_test.new.op s c.bump_ops.new.ops lt
    (subst (λ (o : Op). Added c.args.test (Some c.in-Some.test) (op_of o) (op_of c.add_test.new.op)) here added) refl after
