use Rattle.std.proofs.Common.{◌≡◌, sym, subst, position}
use Rattle.std.specs.Str.{bytes_eq}
use Rattle.join_memo.specs.Places.{IsNumber}
use Rattle.join_memo.proofs.Numbers.{number_is}
use Rattle.join_memo.proofs.known.KnownLabels.number.Goals as goal

pub returns : goal.returns
returns c =
    let e : position (bytes_eq c.args.key.now) c.self.inside.labels.keys ≡ c.get_index_of.result = sym c.get_index_of.ensures.index in
    subst (λ r. IsNumber c.args.self.now c.args.key.now r) e
    (subst (λ ns. IsNumber ns c.args.key.now (position (bytes_eq c.args.key.now) c.self.inside.labels.keys)) c.self.view_is (number_is c.args.key.now c.self.inside.labels.keys))
