use Rattle.mix_script.specs.Names.{held}
use Rattle.mix_session.proofs.Acts.{session_start}
use Rattle.mix_session.proofs.session.Session.open.Goals as goal

pub returns-clause-session : goal.returns-clause-session
returns-clause-session g c = λ v ready. session_start (g.W.Walker.means v c.args.walker) (held c.new.result) ready c.new.ensures
