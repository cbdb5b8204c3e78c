-- A child of a node at an index: the first child, and siblings behind it.
use Rattle.std.proofs.Common.{◌≡◌, ◌<◌, ◌+◌, ℕ, List, [], ◌∷◌, ◌++◌, Option, Some, None, sym, ap, subst, ◌∙◌, arith, append_assoc, length, take, drop, slice_index}
use Rattle.std.proofs.lemmas.List.{take-append-drop}
use Rattle.mix_base.proofs.Runs.{take_next}
use Rattle.std.specs.Prelude.{IsTrue, Result, Ok, Err, IfOk}
use Rattle.lxp_core.specs.declared.fault.WalkFault.{WalkFault}
use Rattle.lazy_plan.specs.Bench.{BenchState, told, ops_of, documents, KeepsBench, AsksAtMost}
use Rattle.lazy_walk.specs.declared.ids.WalkedNode.{WalkedNode}
use Rattle.lazy_walk.specs.Finding.{SiblingAt, ChildAt, right_charge, charge_below, FindsNode}
use Rattle.lazy_walk.specs.Walks.{node_height, HasLower, HasNoHigher}
use Rattle.lazy_walk.specs.Places.{IsAt, HasPlace, GivesNode, down_toll}
use Rattle.lazy_walk.proofs.Walking.{same_number, has_on, asks_twice}

-- what stands no higher than a node that stands below a number stands below that number
lower_than : (st : BenchState) (h k : ℕ) → h < k → (r : Result (Option WalkedNode) WalkFault) → IfOk r (λ x. GivesNode st x × HasNoHigher h st x) → IfOk r (λ x. GivesNode st x × HasLower k st x)
lower_than st h k l (Err e) f = tt
lower_than st h k l (Ok None) f = (tt, tt)
lower_than st h k l (Ok (Some n)) f = (f.0, (let z = f.1 in omega (arith, l, z)))

-- behind the first child, so many steps to the right come to the child at an index
pub below_first : (old now new : BenchState) → KeepsBench old now → (n first : WalkedNode) (index : ℕ) (r : Result (Option WalkedNode) WalkFault) → node_height now first < node_height old n
    → (IsTrue (told old) → (q : List ℕ) → IsAt old n q → HasPlace old (q ++ index ∷ []) → AsksAtMost old now (down_toll (documents old) (ops_of old) q) × IsAt now first (q ++ 0 ∷ []))
    → SiblingAt first index now new r → ChildAt n index old new r
below_first old now new kept n first index r low down found = (
  lower_than new (node_height now first) (node_height old n) low r found.0,
  λ tells q at has.
      (let d = down tells q at has in
      let zero : 0 + index ≡ index = omega arith in
      let f = found.1 (kept.told ∙ tells) q 0 d.1 (subst (λ (k : ℕ). HasPlace now (q ++ k ∷ [])) (sym zero) (has_on old now kept (q ++ index ∷ []) has)) in
      let same = same_number old now kept (λ docs ops. right_charge docs ops q 0 index) in (
        asks_twice old now kept new (down_toll (documents old) (ops_of old) q) (right_charge (documents now) (ops_of now) q 0 index) (charge_below (documents old) (ops_of old) q (index ∷ [])) d.0 f.0
            (omega (arith, same)),
        subst (λ (k : ℕ). FindsNode new (q ++ k ∷ []) r) zero f.1,
      )),
)

-- a place is that before an index, the step there and the steps behind it
pub place_split : (path : List ℕ) (i : ℕ) → i < length path → take i path ++ slice_index path i ∷ drop (i + 1) path ≡ path
place_split path i h =
    sym (append_assoc (take i path) (slice_index path i ∷ []) (drop (i + 1) path)) ∙ ap (λ (r : List ℕ). r ++ drop (i + 1) path) (sym (take_next path i h)) ∙ take-append-drop (i + 1) path
