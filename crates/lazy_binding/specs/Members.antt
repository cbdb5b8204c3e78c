-- The members of a join's memo: the bindings of its right side, one after another.
use Rattle.std.specs.Prelude.{◌≡◌, ◌≤◌, ◌+◌, ℕ, suc, IsTrue, List, [], ◌∷◌, ◌++◌}
use Rattle.std.specs.Hash as fed
use Rattle.std.specs.declared.alloc.Global.{Global}
use Rattle.std.specs.declared.rc.Rc.{Rc}
use Rattle.join_memo.specs.Kept.{Kept}
use Rattle.mix_base.specs.Events.{nothing, finds, found}
use Rattle.mix_tree.specs.Nodes.{label_at}
use Rattle.plan_core.specs.Plans.{Operator}
use Rattle.plan_core.specs.TolledRows.{row_node}
use Rattle.plan_forms.specs.declared.link.Link.{Link}
use Rattle.plan_forms.specs.declared.link.LinkKind.{LinkKind}
use Rattle.plan_forms.specs.declared.link.Side.{Side}
use Rattle.plan_forms.specs.declared.link.Side.TheVariants.{Right as on_right}
use Rattle.plan_forms.specs.Links.{side_var}
use Rattle.plan_forms.specs.declared.link.LinkKind.TheVariants.{Label as by_label, Node as by_node}
use Rattle.lazy_binding.specs.declared.position.Position.{Position, Start}
use Rattle.lazy_binding.specs.World.{World, docs_of, is_told, Member, last_of}
use Rattle.lazy_binding.specs.Cursors.{binding, ahead, number, size, IsOf, has_row}
use Rattle.lazy_binding.specs.Spots.{spot_in, hash_text, spot_fed, spot_text}

-- the label by which a variable is looked up in the binding of a cursor of operator n, where it is looked up alone: that of its node, or a text that the node's spot alone makes
abbrev pub link_label : World → List Operator → ℕ → LinkKind → ℕ → Position → List ℕ
link_label w ops n by_label v c = label_at (docs_of w) (row_node (binding w ops n c) v)
link_label w ops n by_node v c = spot_text (spot_in ops n c v)

-- what a hasher is fed of a variable in the binding of a cursor of operator n: the label of its node, or the number of the node's spot
abbrev pub link_fed : World → List Operator → ℕ → LinkKind → ℕ → Position → fed.HashWrites
link_fed w ops n by_label v c = fed.slice fed.u8 (label_at (docs_of w) (row_node (binding w ops n c) v))
link_fed w ops n by_node v c = spot_fed (spot_in ops n c v)

-- what a hasher is fed of the variables of links on a side of a join, one after another
abbrev pub links_fed : World → List Operator → ℕ → Side → List Link → Position → fed.HashWrites
links_fed w ops n side [] c = []
links_fed w ops n side (link ∷ links) c = link_fed w ops n link.by (side_var side link) c ++ links_fed w ops n side links c

-- the text that all of these links make of a binding of a side of a join
abbrev pub text_by : World → List Operator → ℕ → Side → List Link → Position → List ℕ
text_by w ops n side links c = hash_text (links_fed w ops n side links c)

-- the label by which a binding of a side of a join is looked up: no bytes without links, that of the only link, and of several links a text that all of them together make
abbrev pub key_by : World → List Operator → ℕ → Side → List Link → Position → List ℕ
key_by w ops n side [] c = []
key_by w ops n side (link ∷ []) c = link_label w ops n link.by (side_var side link) c
key_by w ops n side (link ∷ other ∷ links) c = text_by w ops n side (link ∷ other ∷ links) c

-- the label by which a binding of a join's right side is looked up
abbrev pub member_label : World → List Operator → ℕ → List Link → Position → List ℕ
member_label w ops i by c = key_by w ops i on_right by c

-- position m of operator i stands at the next binding after position `at`, before which k members come, and the label is the one by which m is looked up
pub record IsMember (w : World) (ops : List Operator) (i : ℕ) (by : List Link) (at : Position) (k : ℕ) (label : List ℕ) (m : Position) : Type 0 where
  pub cursor : IsOf w ops i m
  pub row : IsTrue (has_row m)
  pub few : suc k + number w ops i m ≤ size w ops i
  pub found : IsTrue (is_told w ops) → found (ahead w ops i at) ≡ finds (binding w ops i m) (ahead w ops i m)
  pub label_is : IsTrue (is_told w ops) → label ≡ member_label w ops i by m

-- given members of operator i stand at its next bindings after position `at`, one after another, the first with k members before it
abbrev pub AreNext : World → List Operator → ℕ → List Link → Position → ℕ → List Member → Type 0
AreNext w ops i by at k [] = Unit {0}
AreNext w ops i by at k (m ∷ ms) = IsMember w ops i by at k m.0 m.1.value × AreNext w ops i by m.1.value (suc k) ms

-- a memo holds the first bindings of operator i, and all of them where it has ended
pub record AreMembers (w : World) (ops : List Operator) (i : ℕ) (by : List Link) (m : Kept (Rc Position Global)) : Type 0 where
  pub next : AreNext w ops i by Start 0 m.pairs
  pub all : IsTrue m.ended → IsTrue (is_told w ops) → found (ahead w ops i (last_of Start m.pairs)) ≡ nothing
