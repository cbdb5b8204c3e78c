use Rattle.std.proofs.Common.{length, ap, sym, refl}
use Rattle.std.proofs.lemmas.Option.{slice_get_read}
use Rattle.lxp_remote.specs.Remotes.{last_in}
use Rattle.lxp_remote.proofs.remote.Remote.last.Goals as goal

pub returns : goal.returns
returns g c = let ps = c.args.self.now.peers.items in ap last_in (sym (slice_get_read ps (length ps) c.args.s c.index.result.now refl c.requires c.index.ensures))
