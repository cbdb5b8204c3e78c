-- A search from a node on: the node itself, and its later siblings.
use Rattle.std.specs.Prelude.{ℕ, cond, List, Option, Some, None}
use Rattle.std.specs.Str.{bytes_eq}
use Rattle.mix_tree.specs.Forest.{Forest, none, tree, LabelledTree, alone}
use Rattle.mix_tree.specs.Place.{trees_at}
use Rattle.mix_script.specs.Transcript.{first_labelled}
use Rattle.mix_script.specs.declared.step.Way.{Way}
use Rattle.mix_session.specs.declared.walker.Found.{Found}
use Rattle.mix_session.specs.Meaning.{Meaning}
use Rattle.mix_session.specs.Seeking.{IfNode, HasCause, IsMoved, IsReached}
use Rattle.mix_session.specs.Tolls.{search_toll}

-- the place of the first of these trees with a label, where the first one stands at a place
abbrev pub labelled_from : List ℕ → Forest → List ℕ → Option (List ℕ)
labelled_from label none place = None
labelled_from label (tree other kids rest) place = cond (bytes_eq other label) (Some place) (first_labelled label rest place)

-- the place of the first node with a label among the node at a place of a tree and its later siblings
abbrev pub labelled_at : LabelledTree → List ℕ → List ℕ → Option (List ℕ)
labelled_at t label place = labelled_from label (trees_at (alone t) place) place

-- the tolls of the ways to the right from the first of these trees, up to the first one with a label
abbrev pub ahead_from : (Way → List ℕ → ℕ) → List ℕ → Forest → List ℕ → ℕ
ahead_from toll label none place = 0
ahead_from toll label (tree other kids rest) place = cond (bytes_eq other label) 0 (search_toll toll label rest place)

-- the toll of a search from the node at a place of a tree on
abbrev pub ahead_at : (Way → List ℕ → ℕ) → LabelledTree → List ℕ → List ℕ → ℕ
ahead_at toll t label place = ahead_from toll label (trees_at (alone t) place) place

-- a search from a node on for a label finds the first such node among it and its later siblings, or none, or a source fails
pub record IsFirst {V W : Type 0} (m m' : Meaning V W) (before after : ℕ → ℕ) (label : List ℕ) (first : V) (r : Found V) : Type 0 where
  pub cause : HasCause m.course.MayFail before after r
  pub node : IfNode (IsReached m') r
  pub place : (p : List ℕ) → m.IsAt first p → (t : LabelledTree) → m.course.IsDocument t → IsMoved m'.IsAt t (labelled_at t label p) r
