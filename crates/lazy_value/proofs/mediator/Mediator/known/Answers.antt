use Rattle.std.proofs.Common.{rules, arith, ◌≡◌, sym, ◌∙◌, length}
use Rattle.lazy_walk.specs.Stages.{size_of}
use Rattle.lazy_value.proofs.OnWay.{none_above, root_known}
use Rattle.lazy_value.proofs.Parts.{before_stage, whole_stage}
use Rattle.lazy_value.proofs.mediator.Mediator.known.Goals as goal

pub parts-init : goal.parts-init
parts-init c =
    let levels : c.len-levels.result ≡ length c.args.node.now.levels = search rules in
    let steps : length c.steps-steps.result.now ≡ length c.args.node.now.inside = search rules in
    record {
      stage = whole_stage c.args.node.now (record { levels = c.len-levels.result; steps = length c.steps-steps.result.now }) levels steps;
      none = λ x l w k. omega (arith, levels, steps, l, w);
    }

pub returns-in_default : goal.returns-in_default
returns-in_default c =
    let h = c.parts.invariant in
    let none : size_of c.parts.stage ≡ 0 = search rules in
    record { known = root_known c.requires.mediator.0 c.args.self.now c.requires.mediator.1 c.args.node.now c.parts.stage h.stage none; largest = λ x l w k. h.none x (omega (arith, l)) w k }

pub part_text-requires-clause-stage : goal.part_text-requires-clause-stage
part_text-requires-clause-stage c = before_stage c.args.node.now c.in-Some.before c.parts.stage c.parts.invariant.stage c.in-Some.ensures

pub returns-then-contains_key : goal.returns-then-contains_key
returns-then-contains_key c =
    let h = c.parts.invariant in
    let before = c.in-Some.ensures in
    let size = before.size in
    record {
      known = record {
        stage = before_stage c.args.node.now c.in-Some.before c.parts.stage h.stage before;
        text = c.in_ok-text.text;
        spells = c.in_ok-text.ensures;
        found = sym c.contains_key.ensures ∙ c.if-contains_key.true;
      };
      largest = λ x l w k. h.none x (omega (arith, size, l)) w k;
    }

pub parts-preserved-else-contains_key : goal.parts-preserved-else-contains_key
parts-preserved-else-contains_key c =
    let h = c.parts.invariant in
    let before = c.in-Some.ensures in
    let stage = before_stage c.args.node.now c.in-Some.before c.parts.stage h.stage before in
    record {
      stage = stage;
      none = none_above c.args.self.now c.args.node.now c.in-Some.before c.parts.stage c.in_ok-text.text stage c.in_ok-text.ensures (sym c.contains_key.ensures ∙ c.if-contains_key.false) before.size h.none;
    }

pub parts-preserved : goal.parts-preserved
parts-preserved c =
    let h = c.parts.invariant in
    let before = c.in-Some.ensures in
    let stage = before_stage c.args.node.now c.in-Some.before c.parts.stage h.stage before in
    record {
      stage = stage;
      none = none_above c.args.self.now c.args.node.now c.in-Some.before c.parts.stage c.in_ok-text.text stage c.in_ok-text.ensures (sym c.contains_key.ensures ∙ c.if-contains_key.false) before.size h.none;
    }
