use Rattle.mix_tree.proofs.LabelOrders.{label_order_ok}
use Rattle.mix_tree.proofs.comparing.label_order_is_total.Goals as goal

pub returns : goal.returns
returns c = label_order_ok
