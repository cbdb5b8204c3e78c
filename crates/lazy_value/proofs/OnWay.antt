-- A walk along a text, from its largest known part on: where it has come, and what it has asked.
use Rattle.std.proofs.Common.{◌≡◌, ◌≤◌, ◌<◌, ◌+◌, ◌⊎◌, inl, inr, ℕ, Bool, true, false, cond, List, [], ◌∷◌, Option, Some, None, refl, sym, ap, subst, ◌∙◌, arith}
use Rattle.std.specs.Prelude.{IsTrue, is_some}
use Rattle.std.proofs.lemmas.Bool.{cases_lt}
use Rattle.node_text.specs.Grammar.{Spells}
use Rattle.node_text.specs.Node.{NodeValue, node}
use Rattle.node_text.proofs.Verdicts.{one_node}
use Rattle.lxp_core.specs.View.{View}
use Rattle.plan_evidence.specs.Named.{Names}
use Rattle.lazy_plan.specs.Bench.{BenchState, ops_of, documents, told, KeepsBench, AsksAtMost}
use Rattle.lazy_walk.specs.declared.stage.Stage.{Stage}
use Rattle.lazy_walk.specs.Finding.{walk_charge}
use Rattle.lazy_walk.specs.Stages.{IsStage, part_of, size_of, whole_size}
use Rattle.lazy_walk.proofs.Walking.{asks_more, asks_twice, same_number}
use Rattle.lazy_value.specs.declared.ids.MarkedText.{MarkedText}
use Rattle.lazy_value.specs.declared.mediator.Mediator.{Mediator}
use Rattle.lazy_value.specs.Named.{IsMediatorOf, WasFound, found_for, owed_of, state_of}
use Rattle.lazy_value.specs.Finding.{IsKnown, IsNamedFurther}
use Rattle.lazy_value.proofs.Going.{same_text}
use Rattle.lazy_value.proofs.Keeping.{names_back}
use Rattle.lazy_value.proofs.Parts.{root_part, same_part, whole_part}

-- THE LARGEST KNOWN PART

-- what is there is something
pub some_there : {X : Type 0} (o : Option X) → IsTrue (is_some o) → (x : X) × (o ≡ Some x)
some_there None h = (let z : ⊥ = cc in absurd z)
some_there (Some x) h = (x, refl)

-- the root's text
root_spelled : Spells (45 ∷ []) (node [] [])
root_spelled = record { formed = record { root = λ z. refl; places = tt }; small = record { levels = tt; inside = tt }; text = refl }

-- the root is known
pub root_known : (v : View) (m : Mediator) → IsMediatorOf v m → (d : NodeValue) (part : Stage) → IsStage d part → size_of part ≡ 0 → IsKnown m d part
root_known v m h d part is e = record {
  stage = is;
  text = 45 ∷ [];
  spells = subst (Spells (45 ∷ [])) (sym (root_part d part e)) root_spelled;
  found = h.root (45 ∷ []) root_spelled;
}

-- where the text of a part was not found, neither it nor one above it is known
pub none_above : (m : Mediator) (d : NodeValue) (before part : Stage) (text : List ℕ) → IsStage d before → Spells text (part_of d before) → is_some (found_for m text) ≡ false
    → size_of before + 1 ≡ size_of part
    → ((x : Stage) → size_of part ≤ size_of x → size_of x < whole_size d → IsKnown m d x → ⊥) → (x : Stage) → size_of before ≤ size_of x → size_of x < whole_size d → IsKnown m d x → ⊥
none_above m d before part text is spells none one h x l w known = by_size (cases_lt (size_of before) (size_of x))
  where
    by_size : (size_of before < size_of x) ⊎ (size_of x ≤ size_of before) → ⊥
    by_size (inl more) = h x (omega (arith, more, one)) w known
    by_size (inr low) =
        let same = same_part d x before known.stage is (omega (arith, l, low)) in
        let found = subst (WasFound m) (same_text known.text text (part_of d before) (subst (Spells known.text) same known.spells) spells) known.found in
        let z : true ≡ false = sym found ∙ none in
        cc

-- THE WAY SO FAR

-- over told sources, a part that is known names a node
pub known_names : (v : View) (m : Mediator) → IsMediatorOf v m → (d : NodeValue) (part : Stage) → IsKnown m d part → IsTrue (told (state_of v m))
    → (q : List ℕ) × Names (documents (state_of v m)) (ops_of (state_of v m)) (part_of d part) q
known_names v m h d part known tells =
    let x = some_there (found_for m known.text) known.found in
    let f = h.found known.text x.0 x.1 in
    let y = f.names tells in
    let same : f.says ≡ part_of d part = one_node known.text f.says (part_of d part) f.spells known.spells in
    (y.0, subst (λ (e : NodeValue). Names (documents (state_of v m)) (ops_of (state_of v m)) e y.0) same y.1)

-- over told sources, a walk along a text that names the node at a place has come to a node on its way, and asked no more than the walks there cost
pub record Way (old now : BenchState) (d : NodeValue) (p : List ℕ) (part : Stage) : Type 0 where
  pub place : List ℕ
  pub names : Names (documents old) (ops_of old) (part_of d part) place
  pub spent : ℕ
  pub asks : AsksAtMost old now spent
  pub here : spent ≤ walk_charge (documents old) (ops_of old) place
  pub there : spent ≤ walk_charge (documents old) (ops_of old) p

-- a walk has asked nothing where it begins
pub way_start : (st : BenchState) (d : NodeValue) (p : List ℕ) (part : Stage) (q : List ℕ) → Names (documents st) (ops_of st) (part_of d part) q → Way st st d p part
way_start st d p part q names = record { place = q; names = names; spent = 0; asks = λ told forward. omega arith; here = omega arith; there = omega arith }

module _ (old now new : BenchState) (kept : KeepsBench old now) (d : NodeValue) (p : List ℕ) (part : Stage) (w : Way old now d p part) (most : ℕ) (asks : AsksAtMost now new most)
    (within : (spent : ℕ) → spent ≤ walk_charge (documents now) (ops_of now) w.place → spent ≤ walk_charge (documents now) (ops_of now) p → spent + most ≤ walk_charge (documents now) (ops_of now) p) where
  -- with one more step no more is asked than the whole walk costs
  way_within : w.spent + most ≤ walk_charge (documents old) (ops_of old) p
  way_within =
      let e = same_number old now kept (λ docs ops. walk_charge docs ops w.place) in
      let f = same_number old now kept (λ docs ops. walk_charge docs ops p) in
      let h = w.here in
      let k = w.there in
      let l = within w.spent (omega (arith, e, h)) (omega (arith, f, k)) in
      omega (arith, l, f)

  -- so it is where the step fails
  pub way_failed : AsksAtMost old new (walk_charge (documents old) (ops_of old) p)
  way_failed = asks_twice old now kept new w.spent most (walk_charge (documents old) (ops_of old) p) w.asks asks way_within

  -- the step brings the walk to the next node
  pub way_next : (next : Stage) → IsNamedFurther now d w.place most next → Way old new d p next
  way_next next x = record {
    place = x.place;
    names = names_back old now kept (part_of d next) x.place x.names;
    spent = w.spent + most;
    asks = asks_twice old now kept new w.spent most (w.spent + most) w.asks asks (omega arith);
    here =
        (let e = same_number old now kept (λ docs ops. walk_charge docs ops w.place) in
        let f = same_number old now kept (λ docs ops. walk_charge docs ops x.place) in
        let h = w.here in
        let l = x.charge in
        omega (arith, e, f, h, l));
    there = way_within;
  }

-- a walk that has come to its end asked what is owed
pub way_asked : (old now : BenchState) (d : NodeValue) (p : List ℕ) (part : Stage) → Way old now d p part → AsksAtMost old now (walk_charge (documents old) (ops_of old) p)
way_asked old now d p part w = asks_more old now w.spent (walk_charge (documents old) (ops_of old) p) w.there w.asks

-- where no walk found a text's node, the whole walk is owed
pub owed_whole : (old now : BenchState) (m : Mediator) (t : MarkedText) (p : List ℕ) → is_some (found_for m t.text) ≡ false → AsksAtMost old now (walk_charge (documents old) (ops_of old) p)
    → AsksAtMost old now (owed_of old m t p)
owed_whole old now m t p none asks = subst (AsksAtMost old now) (ap (λ (b : Bool). cond b 0 (walk_charge (documents old) (ops_of old) p)) (sym none)) asks

-- a text is found where it is known as a whole
pub whole_found : (m : Mediator) (t : MarkedText) (part : Stage) → Spells t.text t.mark.data → IsKnown m t.mark.data part → size_of part ≡ whole_size t.mark.data → WasFound m t.text
whole_found m t part spells known e =
    let whole = subst (Spells known.text) (whole_part t.mark.data part known.stage e) known.spells in
    subst (WasFound m) (same_text known.text t.text t.mark.data whole spells) known.found
