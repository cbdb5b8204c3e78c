-- Layouts: which lists of trees a source can have below a node.
use Rattle.std.specs.Prelude.{◌≡◌, ◌⊎◌, ℕ, Bool, cond, List}
use Rattle.mix_base.specs.Ascents.{Among}
use Rattle.mix_tree.specs.Forest.{Forest, none, tree}
use Rattle.mix_tree.specs.Nodes.{Documents, Node, kids_at}

-- a layout: no trees; a tree of a label with trees below it, and trees after it; one leaf of any label; any number of trees of a
-- label with trees below each; either of two; any trees
pub data Layout : Type 0 where
  no_trees : Layout
  a_tree : (label : List ℕ) → (kids rest : Layout) → Layout
  one_value : Layout
  any_rows : (label : List ℕ) → (kids : Layout) → Layout
  either : (a b : Layout) → Layout
  any_trees : Layout

-- each tree has this label, and below it what is said
abbrev pub EachTree : List ℕ → (Forest → Type 0) → Forest → Type 0
EachTree label below none = Unit {0}
EachTree label below (tree l kids rest) = (l ≡ label) × below kids × EachTree label below rest

-- a list has no trees at all
abbrev pub IsNone : Forest → Type 0
IsNone none = Unit {0}
IsNone (tree label kids rest) = ⊥

-- the first tree has this label, below it and after it is what is said
abbrev pub HasFirst : List ℕ → (Forest → Type 0) → (Forest → Type 0) → Forest → Type 0
HasFirst label below rest none = ⊥
HasFirst label below rest (tree l kids later) = (l ≡ label) × below kids × rest later

-- a list is one leaf
abbrev pub IsLeaf : Forest → Type 0
IsLeaf none = ⊥
IsLeaf (tree label kids rest) = IsNone kids × IsNone rest

-- the trees are laid out as the layout says
abbrev pub IsLaid : Layout → Forest → Type 0
IsLaid no_trees f = IsNone f
IsLaid (a_tree label kids rest) f = HasFirst label (IsLaid kids) (IsLaid rest) f
IsLaid one_value f = IsLeaf f
IsLaid (any_rows label kids) f = EachTree label (IsLaid kids) f
IsLaid (either a b) f = IsLaid a f ⊎ IsLaid b f
IsLaid any_trees f = Unit {0}

-- the layout of what stands below a column: one value, or one or none
abbrev pub value_layout : Bool → Layout
value_layout always = cond always one_value (either no_trees one_value)

-- the document of each source has its layout
abbrev pub AreLaid : (ℕ → Layout) → Documents → Type 0
AreLaid shapes docs = (s : ℕ) → IsLaid (shapes s) (docs s)

-- the trees below a node are laid out by one of these
abbrev pub IsBelow : List Layout → Forest → Type 0
IsBelow gs f = (g : Layout) × Among g gs × IsLaid g f

-- the trees below a node of a source have one of these layouts
abbrev pub IsLaidAt : Documents → List Layout → Node → Type 0
IsLaidAt docs gs n = IsBelow gs (kids_at docs n)
