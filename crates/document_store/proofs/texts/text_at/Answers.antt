use Rattle.std.proofs.Common.{◌∙◌, sym, subst, refl, IsUtf8}
use Rattle.document_store.proofs.Joined.{text_part}
use Rattle.document_store.proofs.texts.text_at.Goals as goal

pub part-requires-clause-order : goal.part-requires-clause-order
part-requires-clause-order c = (text_part c.args.bytes.now c.args.ends.now c.args.i _ _ c.requires.kept c.requires.inside c.begin_at-from.ensures refl).order

pub part-requires-clause-inside : goal.part-requires-clause-inside
part-requires-clause-inside c = (text_part c.args.bytes.now c.args.ends.now c.args.i _ _ c.requires.kept c.requires.inside c.begin_at-from.ensures refl).inside

pub returns-clause-bytes : goal.returns-clause-bytes
returns-clause-bytes c = c.part.ensures ∙ (text_part c.args.bytes.now c.args.ends.now c.args.i _ _ c.requires.kept c.requires.inside c.begin_at-from.ensures refl).bytes_are

pub returns-clause-utf8 : goal.returns-clause-utf8
returns-clause-utf8 c = subst (λ b. ∥ IsUtf8 b ∥₁) (sym c.part.ensures) (text_part c.args.bytes.now c.args.ends.now c.args.i _ _ c.requires.kept c.requires.inside c.begin_at-from.ensures refl).utf8
