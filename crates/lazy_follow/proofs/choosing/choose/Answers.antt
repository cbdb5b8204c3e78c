use Rattle.std.proofs.Common.{rules, ◌≡◌, ◌∙◌, ◌<◌, ℕ, List, sym, ap, subst, arith, length}
use Rattle.std.specs.Prelude.{◌==◌}
use Rattle.mix_base.proofs.Choices.{none_some}
use Rattle.node_text.specs.Node.{LevelValue}
use Rattle.plan_core.specs.ByNumber.{op_at}
use Rattle.plan_core.specs.PlanMade.{op_of, plan_value}
use Rattle.plan_core.specs.Plans.{Operator}
use Rattle.plan_core.specs.Shapes.{shape_of}
use Rattle.plan_evidence.specs.Named.{listing}
use Rattle.plan_forms.specs.Forms.{pieces_of, input_of, input_at, IsWritten}
use Rattle.lazy_follow.specs.Choosing.{IsChosen}
use Rattle.lazy_follow.proofs.Choices.{no_list, group_makes, pieces_makes, first_chosen, later_chosen, past_chosen, there_chosen}
use Rattle.plan_core.proofs.Typed.{valid_is_typed}
use Rattle.lazy_follow.proofs.Scopes.{input_scope}
use Rattle.lazy_follow.proofs.choosing.choose.Goals as goal

pub returns-in_default-clause-chosen : goal.returns-in_default-clause-chosen
returns-in_default-clause-chosen c = λ l e.
    none_some l (sym (ap (λ (o : Operator). listing (shape_of o)) (sym c.operator.ensures) ∙ no_list c.operator.result.now c.in_default.not-GroupBy c.in_default.not-Concatenate) ∙ e)

pub returns-then-level-eq0-clause-chosen : goal.returns-then-level-eq0-clause-chosen
returns-then-level-eq0-clause-chosen c = λ l e.
    let ops = (plan_value c.args.plan.now).ops in
    let m = group_makes ops c.args.list c.requires.list c.in-GroupBy.input c.in-GroupBy.keys.items c.in-GroupBy.piece c.in-GroupBy.out (sym c.operator.ensures ∙ ap op_of c.in-GroupBy.is) in
    let zero : c.args.level.now.piece ≡ 0 = sym (ap (λ (x : LevelValue). x.piece) c.level.view_is) ∙ c.if-level-eq0.true in
    (m, first_chosen ops l _ _ _ c.args.level.now (sym e ∙ m.listed) zero)

pub returns-else-level-eq0-clause-chosen : goal.returns-else-level-eq0-clause-chosen
returns-else-level-eq0-clause-chosen c = λ l e.
    let ops = (plan_value c.args.plan.now).ops in
    let m = group_makes ops c.args.list c.requires.list c.in-GroupBy.input c.in-GroupBy.keys.items c.in-GroupBy.piece c.in-GroupBy.out (sym c.operator.ensures ∙ ap op_of c.in-GroupBy.is) in
    later_chosen ops l _ _ _ c.args.level.now (sym e ∙ m.listed) (λ z. c.if-level-eq0.false (ap (λ (x : LevelValue). x.piece) c.level.view_is ∙ z))

pub piece_chosen-requires-clause-piece : goal.piece_chosen-requires-clause-piece
piece_chosen-requires-clause-piece c =
    let ops = (plan_value c.args.plan.now).ops in
    let e = sym c.operator.ensures ∙ ap op_of c.in-Concatenate.is in
    let pieces = ap pieces_of e in
    let many : c.len.result ≡ length c.in-Concatenate.pieces.items = search rules in
    let before = c.if-level-len.false in
    let there : c.level.inside.piece < length (pieces_of (op_at ops c.args.list)) = (let z = ap length pieces in omega (arith, many, before, z)) in
    record { within = c.requires.list; there = there; written = subst IsWritten (sym e) (λ q. (let f : ⊥ = cc in f)) }

pub returns-then-level-len-clause-chosen : goal.returns-then-level-len-clause-chosen
returns-then-level-len-clause-chosen c = λ l e.
    let ops = (plan_value c.args.plan.now).ops in
    let m = pieces_makes ops c.args.list c.requires.list c.in-Concatenate.input c.in-Concatenate.pieces.items c.in-Concatenate.out (sym c.operator.ensures ∙ ap op_of c.in-Concatenate.is) in
    let pieces = ap pieces_of (sym c.operator.ensures ∙ ap op_of c.in-Concatenate.is) in
    let many : c.len.result ≡ length c.in-Concatenate.pieces.items = search rules in
    let same = ap (λ (x : LevelValue). x.piece) c.level.view_is in
    let past = c.if-level-len.true in
    past_chosen ops l _ c.args.level.now (sym e ∙ m.listed) (let z = ap length pieces in omega (arith, many, same, past, z))

pub returns-else-level-len-clause-chosen : goal.returns-else-level-len-clause-chosen
returns-else-level-len-clause-chosen c = λ l q.
    let ops = (plan_value c.args.plan.now).ops in
    let e = sym c.operator.ensures ∙ ap op_of c.in-Concatenate.is in
    let pieces = ap pieces_of e in
    let many : c.len.result ≡ length c.in-Concatenate.pieces.items = search rules in
    let before = c.if-level-len.false in
    let there : c.level.inside.piece < length (pieces_of (op_at ops c.args.list)) = (let z = ap length pieces in omega (arith, many, before, z)) in
    let m = pieces_makes ops c.args.list c.requires.list c.in-Concatenate.input c.in-Concatenate.pieces.items c.in-Concatenate.out e in
    let same = ap (λ (x : LevelValue). x.piece) c.level.view_is in
    let bare : c.is_empty.result ≡ (length c.level.inside.tuple.items == 0) = search rules in
    let tuple = ap (λ (x : LevelValue). x.tuple) c.level.view_is in
    subst (IsChosen ops c.piece_chosen.result) (sym (there_chosen ops l _ c.args.level.now (sym q ∙ m.listed) c.level.inside.piece same there))
    (c.piece_chosen.ensures.chosen c.args.level.now.tuple (bare ∙ ap (λ (t : List (List ℕ)). length t == 0) tuple))

pub piece_chosen-requires-clause-scope : goal.piece_chosen-requires-clause-scope
piece_chosen-requires-clause-scope c =
    let p = plan_value c.args.plan.now in
    let e = sym c.operator.ensures ∙ ap op_of c.in-Concatenate.is in
    input_scope p c.requires.valid (valid_is_typed p c.requires.valid) c.args.list c.requires.list _ (ap shape_of e) (input_at p.ops c.args.list) (ap input_of e)

pub returns-then-level-eq0-clause-scope : goal.returns-then-level-eq0-clause-scope
returns-then-level-eq0-clause-scope c = λ v kind h. h
