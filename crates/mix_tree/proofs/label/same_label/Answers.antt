use Rattle.std.proofs.Common.{◌≡◌, ◌∙◌, take, sym, ap, subst, arith}
use Rattle.std.specs.Str.{bytes_eq}
use Rattle.mix_tree.specs.LabelText.{text_bytes, IsText}
use Rattle.mix_tree.proofs.LabelWords.{texts_are, texts_differ}
use Rattle.mix_tree.proofs.label.same_label.Goals as goal
use Rattle.mix_tree.proofs.label.same_label.Goals.{In-Short-Short}

-- the bytes of both labels, and what holds of them
seen : (c : In-Short-Short) → bytes_eq (take c.in-Short-Short.m c.in-Short-Short.x) (take c.in-Short-Short.n c.in-Short-Short.y) ≡ bytes_eq c.args.a.now c.args.b.now
seen c =
    ap (λ t. bytes_eq t (take c.in-Short-Short.n c.in-Short-Short.y)) (ap text_bytes (sym c.in-Short-Short.is-0) ∙ c.a.view_is)
    ∙ ap (bytes_eq c.args.a.now) (ap text_bytes (sym c.in-Short-Short.is-1) ∙ c.b.view_is)

pub returns-then-m-n : goal.returns-then-m-n
returns-then-m-n c =
    let a = subst IsText c.in-Short-Short.is-0 c.a.invariant in
    let b = subst IsText c.in-Short-Short.is-1 c.b.invariant in
    c.same_bytes.ensures
    ∙ texts_are c.in-Short-Short.m c.in-Short-Short.n c.in-Short-Short.x c.in-Short-Short.y a.3 b.3 c.if-m-n.true
    ∙ seen (goal.at.returns-then-m-n c).In-Short-Short

pub returns-else-m-n : goal.returns-else-m-n
returns-else-m-n c =
    let a = subst IsText c.in-Short-Short.is-0 c.a.invariant in
    let b = subst IsText c.in-Short-Short.is-1 c.b.invariant in
    texts_differ c.in-Short-Short.m c.in-Short-Short.n c.in-Short-Short.x c.in-Short-Short.y (omega (arith, a.0, a.2)) (omega (arith, b.0, b.2)) c.if-m-n.false
    ∙ seen (goal.at.returns-else-m-n c).In-Short-Short
