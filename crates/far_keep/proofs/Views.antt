-- What every call keeps of far sources, kept by many calls.
use Rattle.std.proofs.Common.{refl, ◌∙◌, arith}
use Rattle.far_keep.specs.Views.{FarsView, KeepsFars}

-- what far sources mean keeps itself
pub fars_same : (v : FarsView) → KeepsFars v v
fars_same v = record {
  told = λ far. refl;
  knows = λ far h k. k;
  forest = λ far h k. refl;
  weight = λ far h k. refl;
  faults = λ far. omega arith;
}

-- what is kept to a second state and from there to a third is kept from the first to the third
pub fars_after : (a b c : FarsView) → KeepsFars a b → KeepsFars b c → KeepsFars a c
fars_after a b c x y = record {
  told = λ far. y.told far ∙ x.told far;
  knows = λ far h k. y.knows far h (x.knows far h k);
  forest = λ far h k. y.forest far h (x.knows far h k) ∙ x.forest far h k;
  weight = λ far h k. y.weight far h (x.knows far h k) ∙ x.weight far h k;
  faults = λ far. omega (arith, x.faults far, y.faults far);
}
