-- What a walk over views comes to below.
use Rattle.std.specs.Prelude.{◌≡◌, ◌+◌, ◌*◌, ◌-◌, ◌^◌, ◌≤◌, ℕ, Some}
use Rattle.mix_tree.specs.Forest.{LabelledTree, alone}
use Rattle.lxp_core.specs.View.{View, document}
use Rattle.lazy_plan.specs.Bench.{told}
use Rattle.lazy_walk.specs.declared.walk.Walk.{Walk}
use Rattle.lazy_walk.specs.Walks.{state_of}
use Rattle.lazy_walk.specs.Places.{plan_document}
use Rattle.view_stack.specs.declared.layers.Layers.{Layers}
use Rattle.view_stack.specs.Stacks.{Stacking, view_at, view_of, plans_of}
use Rattle.view_stack.specs.Steps.{Bounds, AreOpen, CameFrom}

-- the document of a view is that of its plan over those of the sources below, and it is told where these are
pub record IsView (k : Stacking) (i : ℕ) (m : Walk) : Type 0 where
  pub document_is : (t : LabelledTree) → plan_document (state_of k.base m) ≡ Some t → document (view_of k) (k.base.count + i) ≡ alone t
  pub told_is : (view_of k).told (k.base.count + i) ≡ told (state_of k.base m)

-- the document of each view that is mounted is that of its plan over those of the sources below, and it is told where these are
abbrev pub ViewsAreDocuments : Type 0
ViewsAreDocuments = (k : Stacking) (i : ℕ) (m : Walk) → view_at k.views i ≡ Some m → IsView k i m

-- where all sources that the views name are told and forward, so many fills of a new stack ask at most as many below for each as the dearest step
-- of a view costs, or one; the count of fills below is one of 64 bits
abbrev pub AsksBelow : {S : Type 0} → (S → View) → (S → S → Type 0) → Type 0
AsksBelow {S} view came_from =
    (old new : Layers S) (most asked : ℕ) → CameFrom view came_from old new → Bounds (view old.base) (plans_of old.views.items) most
    → AreOpen (view old.base) (plans_of old.views.items) → old.fills ≡ 0 → new.fills ≤ asked → (view new.base).fills ≤ 2 ^ 64 - 1
    → (view new.base).fills ≤ (view old.base).fills + most * asked
