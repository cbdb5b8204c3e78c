use Rattle.std.proofs.Common.{◌∙◌, ap, sym}
use Rattle.mix_catalog.specs.Sources.{source_named}
use Rattle.mix_catalog.proofs.catalog.Catalog.spec.Goals as goal

pub returns-clause-named : goal.returns-clause-named
returns-clause-named c = (c.self.invariant.numbered c.args.s c.index.result.now c.index.ensures).0

pub returns-clause-found : goal.returns-clause-found
returns-clause-found c =
    ap (λ sources. source_named sources c.index.result.now.name) (sym c.self.view_is) ∙ (c.self.invariant.numbered c.args.s c.index.result.now c.index.ensures).1
