use Rattle.std.proofs.Common.{List, ℕ, refl, subst}
use Rattle.std.proofs.lemmas.Result.{err_from_is_err_and}
use Rattle.csv_wrap.specs.Csv.{Explains, IsFile}
use Rattle.csv_wrap.specs.Rows.{file_tree}
use Rattle.mix_place.specs.Causes.{IsNoCsv}
use Rattle.mix_place.specs.declared.refusal.FileFault.TheVariants.{Csv}
use Rattle.mix_place.proofs.LoadLaws.{load_stop, load_stop_unread}
use Rattle.mix_place.proofs.load.mount_csv.Goals as goal

pub returns-in_err-bytes-clause-err : goal.returns-in_err-bytes-clause-err
returns-in_err-bytes-clause-err g c =
    let p = err_from_is_err_and c.from_residual.result c.from_residual.ensures.1 in
    rw (p.1, p.2) (load_stop_unread (IsNoCsv c.args.columns.now) (g.F.Files.view c.args.files.now) (g.F.Files.view c.load.new.files) c.args.path.now _ c.in_err-bytes.ensures.err)

pub returns-in-Ok-clause-ok : goal.returns-in-Ok-clause-ok
returns-in-Ok-clause-ok g c =
    let a = c.in-Ok.ensures.document in
    record {
      tree = file_tree c.args.source.now.name c.args.columns.now a.0;
      document_is = record {
        text = c.in_ok-bytes.bytes.items;
        read = c.in_ok-bytes.ensures.ok;
        stands = (a.0, subst (λ (text : List ℕ). IsFile text c.args.columns.now a.0) c.deref.ensures.value a.1, refl);
      };
      in_memory = refl;
      told = λ v. refl;
      given = λ v. a.2;
      given_by = (c.in-Ok.ensures.chunk, refl);
    }

pub returns-clause-err : goal.returns-clause-err
returns-clause-err g c =
    load_stop (IsNoCsv c.args.columns.now) (g.F.Files.view c.args.files.now) (g.F.Files.view c.load.new.files) c.args.path.now (Csv c.in-Err.fault) _ c.refused.ensures
    (c.in_ok-bytes.bytes.items, c.in_ok-bytes.ensures.ok, (c.in-Err.fault, refl, subst (λ (text : List ℕ). Explains text c.args.columns.now c.in-Err.fault) c.deref.ensures.value c.in-Err.ensures.refused))
