-- What every call keeps, kept by many calls.
use Rattle.std.proofs.Common.{◌≡◌, ℕ, true, refl, ◌∙◌, ap, arith}
use Rattle.lxp_core.specs.View.{View, Keeps, document}

-- a view keeps itself
pub keeps_same : (v : View) → Keeps v v
keeps_same v = record {
  count = refl;
  root = λ s. refl;
  told = λ s. refl;
  forward = λ s. refl;
  small = λ s. refl;
  knows = λ s h k. k;
  forest = λ s h k. refl;
  weight = λ s h k. refl;
  fills = omega arith;
  faults = λ s. omega arith;
}

-- what is kept twice is kept
pub keeps_twice : (a b c : View) → Keeps a b → Keeps b c → Keeps a c
keeps_twice a b c x y = record {
  count = y.count ∙ x.count;
  root = λ s. y.root s ∙ x.root s;
  told = λ s. y.told s ∙ x.told s;
  forward = λ s. y.forward s ∙ x.forward s;
  small = λ s. y.small s ∙ x.small s;
  knows = λ s h k. y.knows s h (x.knows s h k);
  forest = λ s h k. y.forest s h (x.knows s h k) ∙ x.forest s h k;
  weight = λ s h k. y.weight s h (x.knows s h k) ∙ x.weight s h k;
  fills = omega (arith, x.fills, y.fills);
  faults = λ s. omega (arith, x.faults s, y.faults s);
}

-- a document whose hole was known stays the same
pub document_kept : (old new : View) (s : ℕ) → Keeps old new → old.knows s (old.root s) ≡ true → document new s ≡ document old s
document_kept old new s keeps known = ap (new.forest s) (keeps.root s) ∙ keeps.forest s (old.root s) known
