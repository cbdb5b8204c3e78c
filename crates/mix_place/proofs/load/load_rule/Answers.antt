use Rattle.std.proofs.Common.{ℕ, List, refl, subst}
use Rattle.xmas_read.specs.Results.{names_of_sources, Refuses}
use Rattle.mix_place.specs.Causes.{IsNoRule}
use Rattle.mix_place.specs.declared.refusal.FileFault.TheVariants.{View}
use Rattle.mix_place.proofs.LoadLaws.{load_stop}
use Rattle.mix_place.proofs.load.load_rule.Goals as goal

pub returns-clause-err : goal.returns-clause-err
returns-clause-err g c =
    load_stop (IsNoRule (names_of_sources c.args.catalog.now)) (g.F.Files.view c.args.files.now) (g.F.Files.view c.load.new.files) c.args.path.now (View c.in-Err.fault) _ c.refused.ensures
    (c.in_ok-bytes.bytes.items, c.in_ok-bytes.ensures.ok, (c.in-Err.fault, refl, subst (λ (text : List ℕ). Refuses text (names_of_sources c.args.catalog.now) c.in-Err.fault) c.deref.ensures.value c.in-Err.ensures.answers))
