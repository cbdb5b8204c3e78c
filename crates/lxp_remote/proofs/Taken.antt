-- What taking a list comes to, and that one of told sources is taken unless memory runs out.
use Rattle.std.proofs.Common.{◌≡◌, ℕ, List, true, sym, subst, ◌∙◌}
use Rattle.std.specs.Prelude.{Option, Result, Ok, Err, IfOk, IfErr, OnOk}
use Rattle.mix_base.specs.Counts.{HasRisen}
use Rattle.lxp_core.specs.declared.open_tree.HoleId.{HoleId}
use Rattle.lxp_core.specs.Open.{Open}
use Rattle.wire_text.specs.declared.request.Request.{Request}
use Rattle.wire_text.specs.declared.request.Request.TheVariants.{Fill}
use Rattle.wire_text.specs.Reply.{list}
use Rattle.wire_text.specs.Replies.{SpellsShallow}
use Rattle.wire_text.specs.Wired.{Wired, holes_of, without_weights}
use Rattle.wire_text.proofs.Shallow.{lists_small}
use Rattle.lxp_core.specs.Small.{IsSmall}
use Rattle.lxp_wire.specs.Answer.{IsAnswer}
use Rattle.lxp_wire.specs.Links.{LinkView}
use Rattle.lxp_remote.specs.declared.fault.RemoteFault.{RemoteFault}
use Rattle.lxp_remote.specs.declared.fault.RemoteFault.TheVariants.{Wire, OutOfMemory}
use Rattle.lxp_remote.specs.declared.fault.WireFault.{WireFault}
use Rattle.lxp_remote.specs.Causes.{Asked, asking, HasCome}
use Rattle.lxp_remote.specs.Faults.{ShowsFault}
use Rattle.lxp_remote.specs.Known.{IsChanged}
use Rattle.lxp_remote.specs.Learned.{Learns}
use Rattle.lxp_remote.specs.Rules.{KeepsRules}
use Rattle.lxp_remote.specs.Taken.{IsTaken, AreKnownThere}
use Rattle.lxp_remote.proofs.Ruled.{told_keep}
use Rattle.lxp_remote.proofs.Unread.{has_come}

-- a list that was read, keeps the rules and was learned is taken
pub list_taken : {A : Type 0} (f : A → Open) (s : ℕ) (h : HoleId) (weight : ℕ) (old new : LinkView) (known known' : HoleId → Option ℕ) (o : Wired) (r : Result A RemoteFault) → SpellsShallow new.last (list o)
    → (old.told ≡ true → IsAnswer old.peer new.peer (Fill s h) (list o)) → IfOk r (λ l. f l ≡ without_weights o) → OnOk r (Learns known known' (holes_of o)) → OnOk r (KeepsRules o weight)
    → IfOk r (λ l. IsTaken s h weight old new known known' (f l))
list_taken f s h weight old new known known' o (Err e) spells answers same learns rules = tt
list_taken f s h weight old new known known' o (Ok l) spells answers same learns rules = record {
  wired = o;
  same = same;
  rules = rules;
  small = subst IsSmall (sym same) (lists_small new.last o spells);
  learns = learns;
  told = answers;
}

-- the last reply shows why it was not taken
pub shown_last : {A : Type 0} (q : Request) (weight : ℕ) (known : HoleId → Option ℕ) (x : List ℕ) (o : Wired) (r : Result A RemoteFault) → SpellsShallow x (list o)
    → IfErr r (λ e. (p : Request) (text : List ℕ) → SpellsShallow text (list o) → ShowsFault (asking p weight known) text e) → IfErr r (λ e. ShowsFault (asking q weight known) x e)
shown_last q weight known x o (Ok l) spells shows = tt
shown_last q weight known x o (Err e) spells shows = shows q x spells

-- a cause that the last reply shows has come
pub list_refused : {A : Type 0} (a : Asked) (old new : LinkView) (r : Result A RemoteFault) → HasRisen old.replies new.replies → IfErr r (λ e. ShowsFault a new.last e)
    → IfErr r (λ e. (fault : WireFault) → e ≡ Wire fault → HasCome a old new fault)
list_refused a old new (Ok l) risen shows = tt
list_refused a old new (Err e) risen shows = λ fault is. has_come a old new fault risen (subst (ShowsFault a new.last) is shows)

-- a list of told sources keeps the rules, and none of its holes changed
told_sound : (old new : LinkView) (s : ℕ) (h : HoleId) (weight : ℕ) (known : HoleId → Option ℕ) (o : Wired) → AreKnownThere old s h weight known
    → IsAnswer old.peer new.peer (Fill s h) (list o) → KeepsRules o weight × (IsChanged known (holes_of o) → ⊥)
told_sound old new s h weight known o are is =
    let told = told_keep old.peer new.peer s h o known is.answers.2 (λ i n e. (are.weights i n e).1 ∙ sym (is.keeps.weight s i (are.weights i n e).0)) in
    (subst (KeepsRules o) (sym are.same) told.0, told.1)

-- where a list is refused only for a rule that it breaks, that of told sources is refused for want of memory alone
pub told_taken : {A : Type 0} (Goal : WireFault → Type 0) (old new : LinkView) (s : ℕ) (h : HoleId) (weight : ℕ) (known : HoleId → Option ℕ) (o : Wired) (r : Result A RemoteFault)
    → (old.told ≡ true → IsAnswer old.peer new.peer (Fill s h) (list o)) → (KeepsRules o weight → (IsChanged known (holes_of o) → ⊥) → IfErr r (λ e. e ≡ OutOfMemory))
    → IfErr r (λ e. (fault : WireFault) → e ≡ Wire fault → old.told ≡ true → AreKnownThere old s h weight known → Goal fault)
told_taken Goal old new s h weight known o (Ok l) answers sound = tt
told_taken Goal old new s h weight known o (Err e) answers sound = λ fault is told are.
    let t = told_sound old new s h weight known o are (answers told) in
    let both = sym is ∙ sound t.0 t.1 in
    absurd cc
