use Rattle.std.proofs.Common.{◌∙◌, sym, subst, IsUtf8}
use Rattle.document_store.proofs.Kept.{label-range}
use Rattle.document_store.proofs.spots.label_at.Goals as goal

pub part-requires-clause-order : goal.part-requires-clause-order
part-requires-clause-order c =
    (label-range c.args.bytes.now c.args.spots.now c.args.i _ _ c.requires.kept c.requires.inside c.spot_at-from.ensures c.spot_at-to.ensures).order

pub part-requires-clause-inside : goal.part-requires-clause-inside
part-requires-clause-inside c =
    (label-range c.args.bytes.now c.args.spots.now c.args.i _ _ c.requires.kept c.requires.inside c.spot_at-from.ensures c.spot_at-to.ensures).inside

pub returns-clause-bytes : goal.returns-clause-bytes
returns-clause-bytes c =
    c.part.ensures
    ∙ (label-range c.args.bytes.now c.args.spots.now c.args.i _ _ c.requires.kept c.requires.inside c.spot_at-from.ensures c.spot_at-to.ensures).label

pub returns-clause-utf8 : goal.returns-clause-utf8
returns-clause-utf8 c =
    subst (λ b. ∥ IsUtf8 b ∥₁) (sym c.part.ensures)
    (label-range c.args.bytes.now c.args.spots.now c.args.i _ _ c.requires.kept c.requires.inside c.spot_at-from.ensures c.spot_at-to.ensures).utf8
