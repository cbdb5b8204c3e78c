use Rattle.std.proofs.Common.{List, ℕ, refl, subst}
use Rattle.std.proofs.lemmas.Result.{err_from_is_err_and}
use Rattle.mix_catalog.specs.Sources.{Refuses}
use Rattle.mix_place.specs.Causes.{IsNoCatalog}
use Rattle.mix_place.specs.declared.refusal.FileFault.TheVariants.{Catalog}
use Rattle.mix_place.proofs.LoadLaws.{load_stop, load_stop_unread}
use Rattle.mix_place.proofs.load.load_catalog.Goals as goal

pub returns-in_err-bytes-clause-err : goal.returns-in_err-bytes-clause-err
returns-in_err-bytes-clause-err g c =
    let p = err_from_is_err_and c.from_residual.result c.from_residual.ensures.1 in
    rw (p.1, p.2) (load_stop_unread IsNoCatalog (g.F.Files.view c.args.files.now) (g.F.Files.view c.load.new.files) c.args.path.now _ c.in_err-bytes.ensures.err)

pub returns-clause-err : goal.returns-clause-err
returns-clause-err g c =
    load_stop IsNoCatalog (g.F.Files.view c.args.files.now) (g.F.Files.view c.load.new.files) c.args.path.now (Catalog c.in-Err.fault) _ c.refused.ensures
    (c.in_ok-bytes.bytes.items, c.in_ok-bytes.ensures.ok, (c.in-Err.fault, refl, subst (λ (text : List ℕ). Refuses text c.in-Err.fault) c.deref.ensures.value c.in-Err.ensures.answers))
