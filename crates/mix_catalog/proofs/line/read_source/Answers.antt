use Rattle.std.proofs.Common.{rules}
use Rattle.std.specs.Str.{IsUtf8}
use Rattle.std.proofs.lemmas.Result.{IfOk-weaker}
use Rattle.mix_catalog.proofs.Spelled.{no_place, found_decides}
use Rattle.mix_catalog.proofs.line.read_source.Goals as goal

pub returns-in_default : goal.returns-in_default
returns-in_default c = no_place c.args.line.now c.in_default.ensures.place

pub returns : goal.returns
returns c =
    let utf8 : IsUtf8 c.args.line.now = search rules in
    IfOk-weaker c.read_at.result _ _ (λ found e. found_decides c.args.line.now c.in-Some.at found utf8 c.in-Some.ensures.apart c.in-Some.ensures.place e) c.read_at.ensures
