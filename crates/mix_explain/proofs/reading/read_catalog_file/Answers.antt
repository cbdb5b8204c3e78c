use Rattle.std.proofs.Common.{◌≤◌, ℕ, List, [], Err, ap, refl, subst, sym, length, arith}
use Rattle.mix_catalog.specs.Sources.{Refuses}
use Rattle.mix_place.specs.Causes.{IsNoCatalog, IsRead}
use Rattle.mix_place.specs.declared.refusal.FileFault.TheVariants.{Catalog}
use Rattle.refusal_words.specs.Catalog.{ExplainsAt, ExplainsCatalog, IsFaultPlace}
use Rattle.refusal_words.proofs.FaultyLines.{in_faulty_line}
use Rattle.mix_explain.proofs.Explaining.{explained_for, read_of, unread_explained}
use Rattle.mix_explain.proofs.reading.read_catalog_file.Goals as goal

pub returns-in-Err-clause-ok : goal.returns-in-Err-clause-ok
returns-in-Err-clause-ok g c =
    let is = c.in-Err.ensures in
    unread_explained IsNoCatalog [] (g.F.Files.view c.args.files.now) (g.F.Files.view c.read_whole.new.files) c.args.path.now c.in-Err.fault
    c.in_ok-unread-in-Err.field-0 (λ e. is.failed (ap Err e))
    (λ e. record { unfailed = is.long_steady (ap Err e) c.args.path.now; long = is.long (ap Err e); far = is.far (ap Err e) }) c.in_ok-unread-in-Err.ensures

pub returns-clause-ok : goal.returns-clause-ok
returns-clause-ok g c =
    let bytes = c.in-Ok.bytes.items in
    let short : length bytes ≤ 67108864 = search arith in
    let read : IsRead (g.F.Files.view c.args.files.now) c.args.path.now bytes = read_of (g.F.Files.view c.args.files.now) c.args.path.now bytes c.in-Ok.ensures.ok short in
    let fault = c.in-Err-read_catalog.fault in
    let refused : Refuses bytes fault = subst (λ (text : List ℕ). Refuses text fault) c.deref.ensures.value c.in-Err-read_catalog.ensures.answers in
    let explains : ExplainsCatalog bytes fault c.in_ok-words-in-Err-read_catalog.words.items =
    subst (λ (text : List ℕ). ExplainsCatalog text fault c.in_ok-words-in-Err-read_catalog.words.items) c.deref-in-Err-read_catalog.ensures.value
    c.in_ok-words-in-Err-read_catalog.ensures in
    let said : ExplainsAt bytes (IsFaultPlace bytes fault) c.deref-in-Err-read_catalog-2.result.now =
    subst (λ (words : List ℕ). ExplainsAt bytes (IsFaultPlace bytes fault) words) (sym c.deref-in-Err-read_catalog-2.ensures.value)
    (in_faulty_line bytes fault c.in_ok-words-in-Err-read_catalog.words.items refused explains) in
    explained_for IsNoCatalog [] (g.F.Files.view c.args.files.now) (g.F.Files.view c.read_whole.new.files) c.args.path.now (Catalog fault)
    c.deref-in-Err-read_catalog-2.result.now c.in_ok-explained-in-Err-read_catalog.explained (bytes, read, (fault, refl, refused)) (bytes, read, said)
    c.in_ok-explained-in-Err-read_catalog.ensures
