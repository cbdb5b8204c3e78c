use Rattle.lazy_plan.specs.Bench.{state_of}
use Rattle.lazy_site.proofs.Opening.{opens_to}
use Rattle.lazy_site.proofs.law.levels_open.Goals as goal

pub returns : goal.returns
returns c = λ view b h y rests q n d v list open_list head r i s j index. opens_to (state_of view b) h.valid h.fixed.typed h.bench y open_list head r i s j index
