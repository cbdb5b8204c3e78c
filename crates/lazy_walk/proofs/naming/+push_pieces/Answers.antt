use Rattle.std.proofs.Common.{◌∙◌, sym}
use Rattle.lazy_walk.proofs.Pushed.{piece_pushed}
use Rattle.lazy_walk.proofs.naming.+push_pieces.Goals as goal

pub returns-in_ok-push-in-Pieces : goal.returns-in_ok-push-in-Pieces
returns-in_ok-push-in-Pieces t c =
    λ st. piece_pushed st (sym c.deref-rest.ensures ∙ c.in-Pieces.is) c.if-next-eq0.false c.args.levels.now.items c.push_pieces.new.levels.items c.push.new.self.items c.new-tuple.result.items
    (c.in_ok-push_pieces-in-Pieces.ensures st) c.new-tuple.ensures.items c.in_ok-push-in-Pieces.ensures.items
