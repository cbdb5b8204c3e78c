use Rattle.std.proofs.Common.{◌≡◌, drop}
use Rattle.browse_profile.specs.Profiles.{costless}
use Rattle.plan_class.specs.Known.{pieces_known}
use Rattle.plan_class.specs.VarDomains.{domain_in}
use Rattle.plan_class.proofs.stages.pieces_profile.Given as goal

abbrev pub invariant-pieces : goal.invariant-pieces
invariant-pieces l = pieces_known (domain_in l.domains) l.found (drop l.piece-index l.pieces) ≡ pieces_known (domain_in l.domains) costless l.pieces
