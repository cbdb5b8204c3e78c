-- How a walk goes on along a text: from the node of a known part to the next node on the way, which is then known too.
use Rattle.std.proofs.Common.{◌≡◌, ◌≤◌, ◌<◌, ◌+◌, ◌⊎◌, inl, inr, ℕ, List, [], ◌∷◌, ◌++◌, Option, Some, sym, ap, subst, ◌∙◌, arith}
use Rattle.std.specs.Prelude.{IsTrue, is_some, MatchOption, Result, Ok, IfOk}
use Rattle.std.specs.BTreeMap.{Updates}
use Rattle.std.specs.Cmp.Lexicographic.{slice_cmp}
use Rattle.std.specs.Ordering.{nat_cmp}
use Rattle.std.proofs.lemmas.Bool.{cases_lt}
use Rattle.lxp_core.specs.View.{View, Keeps as KeepsView}
use Rattle.lxp_core.specs.declared.fault.WalkFault.{WalkFault}
use Rattle.mix_tree.specs.Nodes.{Documents}
use Rattle.node_text.specs.Grammar.{Spells}
use Rattle.node_text.specs.Node.{NodeValue}
use Rattle.node_text.proofs.Verdicts.{one_node}
use Rattle.plan_core.specs.PlanMade.{plan_value}
use Rattle.plan_core.specs.Plans.{Operator}
use Rattle.plan_core.specs.Valid.{IsValid}
use Rattle.plan_evidence.specs.Named.{Names}
use Rattle.plan_evidence.proofs.NamedOnce.{names_one}
use Rattle.lazy_plan.specs.Bench.{BenchState, ops_of, documents, told, KeepsBench}
use Rattle.lazy_walk.specs.declared.ids.WalkedNode.{WalkedNode}
use Rattle.lazy_walk.specs.declared.stage.Passed.{Passed}
use Rattle.lazy_walk.specs.declared.stage.Stage.{Stage}
use Rattle.lazy_walk.specs.Finding.{root_height, walk_charge, child_charge, charge_below, GoesOnTo, IsFurther, IsNextNamed, LeadsFurther}
use Rattle.lazy_walk.specs.Stages.{IsStage, NamesNoneBetween, part_of, size_of, whole_size}
use Rattle.lazy_walk.specs.Walks.{node_height, HasWalked}
use Rattle.lazy_walk.specs.Places.{IsAt}
use Rattle.lazy_walk.proofs.Walking.{charge_further}
use Rattle.lazy_value.specs.declared.mediator.Mediator.{Mediator}
use Rattle.lazy_value.specs.Named.{AreShared, IsFoundFor, IsMediatorOf, NamedWalked, WasFound, found_for, state_of}
use Rattle.lazy_value.specs.Finding.{ComesFurther, ComesOn, IsNamedFurther}
use Rattle.lazy_value.proofs.Keeping.{found_back, found_more, found_new, found_now, named_walked, names_back, names_on, root_kept}
use Rattle.lazy_value.proofs.Parts.{part_again, part_among, part_smaller, part_within, same_part}

-- two texts that spell the same are the same
pub same_text : (x y : List ℕ) (d : NodeValue) → Spells x d → Spells y d → x ≡ y
same_text x y d f g = sym f.text ∙ g.text

-- what the walk to a place costs is what that to a node above it costs, with the steps to that node's child and those from there on
charge_to : (docs : Documents) (ops : List Operator) (q rest : List ℕ) (index : ℕ)
    → walk_charge docs ops (q ++ index ∷ rest) ≡ walk_charge docs ops q + (child_charge docs ops q index + charge_below docs ops (q ++ index ∷ []) rest)
charge_to docs ops q rest index = charge_further docs ops [] q (index ∷ rest)

-- where memory ran out before a step, nothing was asked
pub comes_nowhere : (st : BenchState) (d : NodeValue) (from : Stage) (r : Result (Option Stage) WalkFault) → ((q : List ℕ) → IfOk r (λ x. MatchOption x ⊥ (IsNamedFurther st d q 0))) → ComesOn st st d from r
comes_nowhere st d from r none = λ q p here there. record { most = 0; asks = λ told forward. omega arith; within = λ spent k l. omega (arith, l); finds = none q }

module _ (a b : BenchState) (d : NodeValue) (from : Stage) (q p : List ℕ) where
  -- what a step towards a place asks, the walk to that place costs
  pub comes_further : (r : Result (Option Passed) WalkFault) (l : LeadsFurther a b d from q p r) (o : Result (Option Stage) WalkFault)
      → IfOk o (λ x. MatchOption x ⊥ (IsNamedFurther a d q (child_charge (documents a) (ops_of a) q l.index))) → ComesFurther a b d q p o
  comes_further r l o finds = record {
    most = child_charge (documents a) (ops_of a) q l.index;
    asks = l.asks;
    within = λ spent h k.
        (let c = charge_to (documents a) (ops_of a) q l.rest l.index in
        let e = ap (walk_charge (documents a) (ops_of a)) l.is in
        omega (arith, c, e, h));
    finds = finds;
  }

  -- the step leads to a node that a larger part names
  pub comes_next : (index : ℕ) (x : Passed) → IsNextNamed a b d from (q ++ index ∷ []) x → IsNamedFurther a d q (child_charge (documents a) (ops_of a) q index) x.stage
  comes_next index x h = record {
    place = q ++ index ∷ [];
    names = h.names;
    charge = (let c = charge_to (documents a) (ops_of a) q [] index in omega (arith, c));
  }

module _ (a : BenchState) (d : NodeValue) (from : Stage) (text : List ℕ) (spells : Spells text (part_of d from)) (n : WalkedNode) (f : IsFoundFor a text n) (ahead : size_of from < whole_size d) where
  -- what was found for a part's text was found for the part
  found_says : f.says ≡ part_of d from
  found_says = one_node text f.says (part_of d from) f.spells spells

  -- from the node that was found for a part, a step leads on
  pub leads_further : (b : BenchState) (r : Result (Option Passed) WalkFault) → (IsTrue (told a) → GoesOnTo a b n d from r) → IsTrue (told a) → (q p : List ℕ)
      → Names (documents a) (ops_of a) (part_of d from) q → Names (documents a) (ops_of a) d p → LeadsFurther a b d from q p r
  leads_further b r goes tells q p here there =
      goes tells q p (f.place tells q (subst (λ (e : NodeValue). Names (documents a) (ops_of a) e q) (sym found_says) here)) here there ahead

  -- so the next node on the way is found where the text names one
  pub next_named : (b : BenchState) (x : Passed) → (IsTrue (told a) → GoesOnTo a b n d from (Ok (Some x))) → (IsTrue (told a) → (p : List ℕ) × Names (documents a) (ops_of a) d p)
      → IsTrue (told a) → (place : List ℕ) × IsNextNamed a b d from place x
  next_named b x goes named tells =
      let q = f.names tells in
      let p = named tells in
      let here = subst (λ (e : NodeValue). Names (documents a) (ops_of a) e q.0) found_says q.1 in
      let l = leads_further b (Ok (Some x)) goes tells q.0 p.0 here p.1 in
      (q.0 ++ l.index ∷ [], l.finds)

module _ (a b : BenchState) (kept : KeepsBench a b) (d : NodeValue) (from : Stage) where
  -- a node that was found behind the one of a known part stands where the part that leads to it names one
  pub found_further : IsValid (plan_value a.plan) → (n : WalkedNode) (x : Passed) (text : List ℕ) → IsFurther a b n d from x
      → (IsTrue (told a) → (place : List ℕ) × IsNextNamed a b d from place x) → Spells text (part_of d x.stage) → node_height a n ≤ root_height a → root_height b ≡ root_height a
      → IsFoundFor b text x.node
  found_further valid n x text is next spells height root = record {
    says = part_of d x.stage;
    spells = spells;
    node = is.node;
    height = (let l = is.lower in omega (arith, l, height, root));
    names = λ tells. (let y = next (sym kept.told ∙ tells) in (y.0, names_on a b kept (part_of d x.stage) y.0 y.1.names));
    place = λ tells p names.
        (let y = next (sym kept.told ∙ tells) in
        subst (IsAt b x.node)
        (names_one (plan_value a.plan) valid (documents a) (part_of d x.stage) y.0 p y.1.names (names_back a b kept (part_of d x.stage) p names)) y.1.at);
  }

  module _ (next : Stage) (is_from : IsStage d from) (is_next : IsStage d next) (m n : Mediator) (h : AreShared a m)
      (none : IsTrue (told a) → NamesNoneBetween (documents a) (ops_of a) d from next) (here there : List ℕ)
      (spells_here : Spells here (part_of d from)) (found_here : WasFound m here) (spells_there : Spells there (part_of d next)) (found_there : WasFound n there)
      (more : (text : List ℕ) → WasFound m text → WasFound n text) where
    -- each part of the next one that names a node was found: with the part before it, or now
    shared_below : IsTrue (told a) → (part : Stage) → IsStage d part → size_of part ≤ size_of next → (p : List ℕ) → Names (documents a) (ops_of a) (part_of d part) p
        → (text : List ℕ) → Spells text (part_of d part) → WasFound n text
    shared_below tells part is l p names text says = by_size (cases_lt (size_of from) (size_of part)) (cases_lt (size_of part) (size_of next))
      where
        by_size : (size_of from < size_of part) ⊎ (size_of part ≤ size_of from) → (size_of part < size_of next) ⊎ (size_of next ≤ size_of part) → WasFound n text
        by_size (inr low) z =
            let again = sym (part_again d part from is is_from low) in
            more text
            (h tells here (part_of d from) spells_here found_here part (part_among d part from is is_from low) p
            (subst (λ (x : NodeValue). Names (documents a) (ops_of a) x p) again names) text (subst (Spells text) again says))
        by_size (inl k) (inl low) = absurd (none tells part is k low p names)
        by_size (inl k) (inr high) =
            let same = same_part d next part is_next is (omega (arith, l, high)) in
            subst (WasFound n) (same_text there text (part_of d part) (subst (Spells there) same spells_there) says) found_there

    -- so all is shared
    pub shared_further : ((text : List ℕ) → WasFound n text → WasFound m text ⊎ (there ≡ text)) → AreShared b n
    shared_further back = λ tells text e spells found part is p names x says.
        (let names_then = names_back a b kept (part_of e part) p names in
        let tells_then = sym kept.told ∙ tells in
        elim (back text found) [
          | inl f ↦ more x (h tells_then text e spells f part is p names_then x says)
          | inr f ↦
              (let same : e ≡ part_of d next = one_node text e (part_of d next) spells (subst (λ (t : List ℕ). Spells t (part_of d next)) f spells_there) in
              let is_there : IsStage (part_of d next) part = subst (λ (y : NodeValue). IsStage y part) same is in
              let within = part_within d part next is_next is_there in
              let small = part_smaller d part next is_next is_there in
              let again : part_of e part ≡ part_of d part = ap (λ (y : NodeValue). part_of y part) same ∙ part_again d part next within is_next small in
              shared_below tells_then part within small p (subst (λ (y : NodeValue). Names (documents a) (ops_of a) y p) again names_then) x (subst (Spells x) again says))
        ])

module _ {S : Type 0} {view : S → View} {came_from : S → S → Type 0} (keeps : (a b : S) → came_from a b → KeepsView (view a) (view b)) (s t : S) (m n : Mediator) (h : IsMediatorOf (view s) m)
    (w : HasWalked view came_from s m.walk t n.walk) where
  -- what a step leaves whose node is kept under the text of the part that names it
  pub kept_further : (d : NodeValue) (from : Stage) (here : List ℕ) (n0 : WalkedNode) → found_for m here ≡ Some n0 → Spells here (part_of d from) → IsStage d from
      → size_of from < whole_size d → (IsTrue (told (state_of (view s) m)) → (p : List ℕ) × Names (documents (state_of (view s) m)) (ops_of (state_of (view s) m)) d p)
      → (x : Passed) → IsFurther (state_of (view s) m) (state_of (view t) n) n0 d from x
      → (IsTrue (told (state_of (view s) m)) → GoesOnTo (state_of (view s) m) (state_of (view t) n) n0 d from (Ok (Some x)))
      → (there : List ℕ) → Spells there (part_of d x.stage) → Updates (slice_cmp nat_cmp) m.found n.found there (Some x.node) → NamedWalked view came_from s m t n
  kept_further d from here n0 e spells stage ahead names x is goes there spells_there update =
      let a = state_of (view s) m in
      let b = state_of (view t) n in
      let f = h.found here n0 e in
      let next = next_named a d from here spells n0 f ahead b x goes names in
      let same = root_kept keeps s t m n w.came h w.kept in
      let found = found_further a b w.kept d from h.walk.valid n0 x there is next spells_there f.height same in
      let more = found_more m.found n.found there x.node update in
      named_walked keeps s t m n h w
      (λ text y g. elim (found_new m.found n.found there x.node update text y g) [
        | inl old ↦ inl old
        | inr new ↦ inr (subst (λ (q : List ℕ). IsFoundFor b q y) new.0 (subst (λ (z : WalkedNode). IsFoundFor b there z) new.1 found))
      ])
      more
      (shared_further a b w.kept d from x.stage stage is.stage m n h.shared (λ tells. (next tells).1.next) here there spells (ap (λ (o : Option WalkedNode). is_some o) e) spells_there
      (found_now m.found n.found there x.node update) more (found_back m.found n.found there x.node update))
