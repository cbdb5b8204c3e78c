-- What one refusal of a fill gives of another.
use Rattle.std.proofs.Common.{Result, inl}
use Rattle.lxp_core.specs.Fill.{Piecewise, IsRefused, IsRefusedAtOnce}
use Rattle.lxp_core.specs.declared.fault.SourceFault.{SourceFault}
use Rattle.lxp_core.specs.declared.open_tree.HoleId.{HoleId}

-- a document that refuses an unknown hole at once refuses it if memory allows
pub refused_at_once : (T : Type 0) (old new : Piecewise) (h : HoleId) (r : Result T SourceFault) → IsRefusedAtOnce T old new h r → IsRefused T old new h r
refused_at_once T old new h r e = record {
  failed = e.failed;
  unknown = e.unknown;
  only_unknown = λ unknown. inl (e.only_unknown unknown);
}
