use Rattle.std.proofs.Common.{◌≡◌, ◌∙◌, sym, subst, List, []}
use Rattle.std.specs.Prelude.{OnOk, Result}
use Rattle.std.proofs.lemmas.List.{get_or_default, get_or-set_same}
use Rattle.lxp_core.specs.declared.fault.WalkFault.{WalkFault}
use Rattle.lazy_binding.specs.declared.key.KeyPart.{KeyPart}
use Rattle.lazy_binding.specs.declared.position.Position.{Position}
use Rattle.lazy_binding.specs.Gathered.{Gathered, IsGatheredBy, no_groups}
use Rattle.lazy_steps.proofs.gather_steps.add_member.Goals as goal

-- what was gathered stays so where groups and keys are given in other words
in_words : (r : Result (Unit {0}) WalkFault) (key : List KeyPart) (at : Position) {a b x y : Gathered} {s t u v : List (List KeyPart)} → a ≡ x → b ≡ y → s ≡ u → t ≡ v
    → OnOk r (IsGatheredBy a b s t key at) → OnOk r (IsGatheredBy x y u v key at)
in_words r key at {a} {b} {x} {y} {s} {t} {u} {v} e f p q h =
    subst (λ (z : List (List KeyPart)). OnOk r (IsGatheredBy x y u z key at)) q
    (subst (λ (z : List (List KeyPart)). OnOk r (IsGatheredBy x y z t key at)) p
    (subst (λ (z : Gathered). OnOk r (IsGatheredBy x z s t key at)) f
    (subst (λ (z : Gathered). OnOk r (IsGatheredBy z b s t key at)) e h)))

pub returns-clause-ok : goal.returns-clause-ok
returns-clause-ok c =
    let groups = c.args.walked.now.gathered.items in
    let keys = c.args.seen.now.items in
    in_words c.push.result c.args.event.key.items c.args.event.below.value
    (c.index_mut-gathered.ensures.value ∙ get_or_default groups c.args.op c.index_mut-gathered.result.now no_groups c.requires.walks)
    (sym (get_or-set_same groups c.args.op c.push.new.self no_groups c.requires.walks))
    (c.index_mut-keys.ensures.value ∙ get_or_default keys c.args.op c.index_mut-keys.result.now [] c.requires.op)
    (sym (get_or-set_same keys c.args.op c.push.new.seen [] c.requires.op))
    c.push.ensures.ok
