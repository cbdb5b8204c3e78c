use Rattle.lazy_site.proofs.Keep.{keeps_sites}
use Rattle.lazy_walk.proofs.law.trees_stay.Goals as goal

pub returns : goal.returns
returns c = λ a b k n h. (keeps_sites a b k n.site h.site).here
