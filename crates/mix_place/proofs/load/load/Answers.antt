use Rattle.std.proofs.Common.{Err, ap}
use Rattle.mix_place.specs.Causes.{IsNoBytes}
use Rattle.mix_place.specs.declared.refusal.FileFault.TheVariants.{Unread, TooLong}
use Rattle.mix_place.proofs.LoadLaws.{load_stop}
use Rattle.mix_place.proofs.load.load.Goals as goal

pub returns-in-Err-Failed-clause-err : goal.returns-in-Err-Failed-clause-err
returns-in-Err-Failed-clause-err g c =
    load_stop IsNoBytes (g.F.Files.view c.args.files.now) (g.F.Files.view c.read_whole.new.files) c.args.path.now Unread c.refused.result c.refused.ensures
    (c.in-Err-Failed.ensures.failed (ap Err c.in-Err-Failed.field-0-is))

pub returns-in-Err-TooLong-clause-err : goal.returns-in-Err-TooLong-clause-err
returns-in-Err-TooLong-clause-err g c =
    let is = c.in-Err-TooLong.ensures in
    let e = ap Err c.in-Err-TooLong.field-0-is in
    load_stop IsNoBytes (g.F.Files.view c.args.files.now) (g.F.Files.view c.read_whole.new.files) c.args.path.now TooLong _ c.refused-in-Err-TooLong.ensures
    (record { unfailed = is.long_steady e c.args.path.now; long = is.long e; far = is.far e })
