use Rattle.std.proofs.Common.{◌≡◌, ◌<◌, ◌^◌, drop}
use Rattle.mix_catalog.specs.Forms.{number_after}
use Rattle.mix_catalog.proofs.form.read_number.Given as goal

abbrev pub invariant-loop-byte : goal.invariant-loop-byte
invariant-loop-byte l = record {
  below : l.number < 10 ^ l.byte-index;
  means : number_after l.number (drop l.byte-index l.word) ≡ number_after 0 l.word;
}
