use Rattle.std.proofs.Common.{◌∙◌, refl, sym, subst, codes}
use Rattle.catalog_continuations.specs.GoesOn.{IsOneLine}
use Rattle.catalog_continuations.proofs.TriedLines.{second_tells, with_words}
use Rattle.catalog_continuations.proofs.tried.goes_on_with.Goals as goal

pub is_line-requires : goal.is_line-requires
is_line-requires c =
    let same = c.deref.ensures.value ∙ c.in_ok-plain.ensures in
    subst IsOneLine (sym same) (with_words c.args.front.now (codes " ") c.args.rest.now c.requires refl)

pub is_line-requires-2 : goal.is_line-requires-2
is_line-requires-2 c =
    let same = c.deref-2.ensures.value ∙ c.in_ok-quoted.ensures in
    subst IsOneLine (sym same) (with_words c.args.front.now (codes " \" ") c.args.rest.now c.requires refl)

pub returns : goal.returns
returns c =
    second_tells c.args.front.now c.args.rest.now c.deref.result.now c.deref-2.result.now c.in_ok-is_line.field-0 c.is_line-2.result (c.deref.ensures.value ∙ c.in_ok-plain.ensures)
    (c.deref-2.ensures.value ∙ c.in_ok-quoted.ensures) c.if-branch.false c.in_ok-is_line.ensures c.is_line-2.ensures
