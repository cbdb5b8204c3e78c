use Rattle.std.proofs.Common.{◌≡◌, ◌+◌, ◌≤◌, length, map, drop}
use Rattle.std.specs.Str.{bytes_eq}
use Rattle.mix_base.specs.Groups.{firsts}
use Rattle.mix_base.proofs.Seen.{distinct}
use Rattle.xmas_read.proofs.sizes.have_many_names.Given as goal

abbrev pub invariant-loop-var : goal.invariant-loop-var
invariant-loop-var l = record {
  few : length l.names.items ≤ 60;
  count : length l.names.items + length (distinct bytes_eq l.names.items (map (λ v. v.now.name) (drop l.var-index l.vars))) ≡ length (firsts bytes_eq (map (λ v. v.now.name) l.vars));
}
