use Rattle.std.proofs.Common.{◌≡◌, ◌≤◌, ◌<◌, ◌+◌, ◌-◌, ◌^◌, min, arith, length, take, drop, ◌++◌}
use Rattle.std.proofs.lemmas.Grind.{common_steps}
use Rattle.mix_io.proofs.Taking.{given, none_left}
use Rattle.mix_io.proofs.mem_input.MemInputInput.take.Goals as goal

pub returns-clause-gives : goal.returns-clause-gives
returns-clause-gives c =
    let self = c.args.self.now in
    let bytes = self.bytes.items in
    let count = c.min-count.result in
    let piece = c.copy_from_slice.new.self in
    let rest = drop c.min-count.result c.args.room.now in
    let whole : length c.deref.result.now ≡ length bytes = grind (arith, common_steps) in
    let some : 0 < self.most = self.some in
    let least : count ≡ min (min (length bytes - self.from) (length c.args.room.now)) self.most = grind (arith, common_steps) in
    let copied : piece ≡ take count (drop self.from bytes) = grind (arith, common_steps) in
    let within : self.from ≤ length bytes = self.inside in
    let inside : self.from + count ≤ length bytes = omega (arith, least, within) in
    let few : length bytes < 2 ^ 64 = omega arith in
    let room : length (piece ++ rest) ≡ length c.args.room.now = grind (arith, common_steps) in
    given bytes piece rest self.from count self.faults copied inside few (λ none. rw room (none_left bytes (length c.args.room.now) self.from self.most count least some none))
