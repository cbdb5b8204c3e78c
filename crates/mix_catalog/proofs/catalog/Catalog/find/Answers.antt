use Rattle.std.proofs.Common.{◌∙◌, ap, position, Vec, Global, ℕ}
use Rattle.std.specs.Str.{bytes_eq}
use Rattle.std.specs.Map.{keys_of}
use Rattle.mix_catalog.specs.Sources.{source_named}
use Rattle.mix_catalog.proofs.Finds.{found_by_name}
use Rattle.mix_catalog.proofs.catalog.Catalog.find.Goals as goal

pub returns-in_err-at : goal.returns-in_err-at
returns-in_err-at c =
    c.from_residual.ensures ∙ c.in_err-at.ensures.index
    ∙ ap (λ n. position (λ (k : Vec ℕ Global). bytes_eq n k.items) (keys_of c.self.inside.sources.entries)) c.bytes.ensures.bytes
    ∙ found_by_name c.self.inside.sources.entries c.args.name.now c.self.invariant.keys
    ∙ ap (λ sources. source_named sources c.args.name.now) c.self.view_is

pub returns : goal.returns
returns c =
    c.in_ok-at.ensures.index
    ∙ ap (λ n. position (λ (k : Vec ℕ Global). bytes_eq n k.items) (keys_of c.self.inside.sources.entries)) c.bytes.ensures.bytes
    ∙ found_by_name c.self.inside.sources.entries c.args.name.now c.self.invariant.keys
    ∙ ap (λ sources. source_named sources c.args.name.now) c.self.view_is
