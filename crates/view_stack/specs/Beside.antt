-- Sources beside others.
use Rattle.std.specs.Prelude.{◌+◌, ◌-◌, nat_lt, cond}
use Rattle.lxp_core.specs.View.{View}

-- the sources of the first view, and those of the second with the numbers after them; the fills are those that the second counts
abbrev pub beside : View → View → View
beside v w = record {
  count = v.count + w.count;
  root = λ s. cond (nat_lt s v.count) (v.root s) (w.root (s - v.count));
  told = λ s. cond (nat_lt s v.count) (v.told s) (w.told (s - v.count));
  knows = λ s. cond (nat_lt s v.count) (v.knows s) (w.knows (s - v.count));
  forest = λ s. cond (nat_lt s v.count) (v.forest s) (w.forest (s - v.count));
  weight = λ s. cond (nat_lt s v.count) (v.weight s) (w.weight (s - v.count));
  forward = λ s. cond (nat_lt s v.count) (v.forward s) (w.forward (s - v.count));
  small = λ s. cond (nat_lt s v.count) (v.small s) (w.small (s - v.count));
  fills = w.fills;
  faults = λ s. cond (nat_lt s v.count) (v.faults s) (w.faults (s - v.count));
}
