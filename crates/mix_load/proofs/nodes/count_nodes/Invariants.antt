use Rattle.std.proofs.Common.{◌≡◌, ◌+◌, ◌≤◌, drop}
use Rattle.mix_load.specs.Parts.{parts}
use Rattle.mix_load.specs.declared.nodes.Stand.TheVariants.{Outside}
use Rattle.mix_load.proofs.nodes.count_nodes.Given as goal

abbrev pub invariant-bytes : goal.invariant-bytes
invariant-bytes l = record {
  few : l.parts ≤ l.byte-index;
  counted : l.parts + parts l.stand (drop l.byte-index l.text) ≡ parts Outside l.text;
}
