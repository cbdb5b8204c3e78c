use Rattle.std.proofs.Common.{arith, ap, sym, subst}
use Rattle.std.proofs.lemmas.Grind.{common_steps}
use Rattle.mix_io.specs.System.{os_files_view}
use Rattle.mix_io.specs.Views.{FilesView, KeepsFiles}
use Rattle.mix_io.proofs.Keeps.{keeps_files_same}
use Rattle.mix_io.proofs.os_files.OsFilesFiles.read_at.Goals as goal

pub returns-in_err-set_end-in-Ok-clause-keeps : goal.returns-in_err-set_end-in-Ok-clause-keeps
returns-in_err-set_end-in-Ok-clause-keeps c =
    let old = os_files_view c.args.self.now in
    subst (λ new. KeepsFiles old new) (sym c.in_err-set_end-in-Ok.ensures.err) (keeps_files_same old)

pub returns-in_err-set_end-in-Ok-clause-end_err : goal.returns-in_err-set_end-in-Ok-clause-end_err
returns-in_err-set_end-in-Ok-clause-end_err c =
    let same = ap (λ (view : FilesView). view.furthest c.args.path.now) c.in_err-set_end-in-Ok.ensures.err in
    grind (arith, common_steps, same)
