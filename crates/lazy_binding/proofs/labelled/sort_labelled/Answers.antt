use Rattle.std.proofs.Common.{rules}
use Rattle.std.proofs.lemmas.Fn.{always_returns_same}
use Rattle.plan_core.specs.Unary.{comes_before}
use Rattle.lazy_binding.specs.declared.labelled.Labelled.{Labelled}
use Rattle.lazy_binding.proofs.StableSorts.{label_weak, sort_is}
use Rattle.lazy_binding.proofs.labelled.sort_labelled.Goals as goal

pub returns : goal.returns
returns c =
    sort_is (λ (a b : Labelled). comes_before c.args.desc a.label b.label) (label_weak c.args.desc (λ (x : Labelled). x.label)) _ _
    (c.in_ok-sort_by.ensures.sorted (λ a b. comes_before c.args.desc a.label b.label) (label_weak c.args.desc (λ (x : Labelled). x.label)) (always_returns_same _ _ _ (λ a r q k. search rules)))
    (c.sort_by.ensures.stable (λ a b. comes_before c.args.desc a.label b.label) (label_weak c.args.desc (λ (x : Labelled). x.label)) (always_returns_same _ _ _ (λ a r q k. search rules)))
