use Rattle.std.proofs.Common.{◌≡◌, ℕ, List, ap, ◌∙◌, length, take}
use Rattle.std.specs.Prelude.{Bool}
use Rattle.plan_core.specs.Fronts.{Front, node_keys, shared, covers, are_contiguous}
use Rattle.plan_core.proofs.FrontCode.{shared_first}
use Rattle.plan_core.proofs.front.Front.kept_by.Goals as goal

pub returns : goal.returns
returns c =
    let keys = c.args.keys.now in
    let had : List ℕ = c.self.inside.vars.items in
    let count : c.shared_count.result ≡ length (shared keys had) = c.shared_count.ensures ∙ ap (λ (vs : List ℕ). length (shared keys vs)) c.deref.ensures.value in
    let items : c.truncate.new.self.items ≡ shared keys had = c.truncate.ensures.items ∙ ap (λ (n : ℕ). take n had) count ∙ shared_first keys had in
    let whole : c.covers-whole.result ≡ are_contiguous keys had = c.covers-whole.ensures ∙ ap (λ (vs : List ℕ). covers (node_keys vs) keys) (c.deref-2.ensures.value ∙ items) in
    ap {B = Front} (λ (vs : List ℕ). record { vars = vs; whole = c.covers-whole.result }) items
    ∙ ap {B = Front} (λ (w : Bool). record { vars = shared keys had; whole = w }) whole
    ∙ ap {B = Front} (λ (f : Front). record { vars = shared keys f.vars; whole = are_contiguous keys f.vars }) c.self.view_is
