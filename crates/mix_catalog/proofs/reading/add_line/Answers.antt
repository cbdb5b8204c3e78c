use Rattle.std.proofs.Common.{◌∙◌, refl, sym, subst}
use Rattle.mix_catalog.specs.Grammar.{Spells}
use Rattle.mix_catalog.specs.Sources.{IsInPlace}
use Rattle.mix_catalog.proofs.Places.{out_of_place}
use Rattle.mix_catalog.proofs.Spelled.{one_source}
use Rattle.mix_catalog.proofs.reading.add_line.Goals as goal

pub returns-then-has_view-clause-err : goal.returns-then-has_view-clause-err
returns-then-has_view-clause-err c =
    let spelled : Spells c.args.line.now c.in-Some.source = rw c.in-Some.is at c.in_ok-source.ensures in (
      refl,
      sym c.is_passed_over.ensures ∙ c.if-is_passed_over.false,
      λ s fits.
          out_of_place c.args.catalog.now c.in-Some.source (sym c.is_view.ensures ∙ c.if-not-is_view.true) (sym c.has_view.ensures ∙ c.if-has_view.true) (subst (IsInPlace c.args.catalog.now) (one_source c.args.line.now s c.in-Some.source fits.0 spelled) fits.1),
    )
