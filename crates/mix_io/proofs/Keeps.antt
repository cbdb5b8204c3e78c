-- What calls keep of files, one after another.
use Rattle.std.proofs.Common.{◌∙◌, arith, refl}
use Rattle.mix_io.specs.Views.{FilesView, KeepsFiles}

-- where no call is made, files keep everything
pub keeps_files_same : (view : FilesView) → KeepsFiles view view
keeps_files_same view = record { told = λ _. refl; faults = λ _. omega arith; furthest = λ _. omega arith }

-- what two calls keep, both together keep
pub keeps_files_twice : (old between new : FilesView) → KeepsFiles old between → KeepsFiles between new → KeepsFiles old new
keeps_files_twice old between new first second =
    record {
      told = λ path. second.told path ∙ first.told path;
      faults = λ path. omega (arith, first.faults path, second.faults path);
      furthest = λ path. omega (arith, first.furthest path, second.furthest path);
    }
