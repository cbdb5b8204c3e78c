use Rattle.std.proofs.Common.{◌≡◌, ◌-◌, ◌≤◌, ℕ, List, vec_len, IfSome}
use Rattle.mix_io.specs.Views.{KeepsFiles, ReadsOnly}
use Rattle.mix_describe.proofs.Beginnings.{IsPrefix}
use Rattle.mix_describe.proofs.reading.read_content.Given as goal

abbrev pub invariant-reads : goal.invariant-reads
invariant-reads g l =
    let view = g.F.Files.view in
    record {
      keeps : KeepsFiles (view l.fn.files) (view l.files);
      others : ReadsOnly l.fn.path (view l.fn.files) (view l.files);
      steady : (p : List ℕ) → (view l.files).faults p ≡ (view l.fn.files).faults p;
      prefix : IfSome ((view l.fn.files).told l.fn.path) (IsPrefix l.bytes.items (vec_len l.bytes));
      short : vec_len l.bytes ≤ 67108864;
      room : vec_len l.room ≡ 65536;
    }

abbrev pub decreases-reads : goal.decreases-reads
decreases-reads g l = 67108865 - vec_len l.bytes
