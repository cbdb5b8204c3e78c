-- What a template makes over a body: written operators, which bind anew at least as many variables as are numbered, those of the body among them.
use Rattle.std.proofs.Common.{◌≡◌, ◌+◌, ℕ, true, false, cond, List, [], ◌∷◌, ◌++◌, map, sym, subst, arith, Option, None, Some}
use Rattle.std.specs.List.{AllByRecursion}
use Rattle.std.specs.Str.{IsUtf8}
use Rattle.mix_base.specs.Ascents.{Among}
use Rattle.mix_base.proofs.Ascents.{among_left}
use Rattle.mix_base.proofs.Lists.{append_nil}
use Rattle.mix_tree.specs.Keys.{collects, in_force}
use Rattle.mix_tree.specs.Names.{IsName}
use Rattle.mix_tree.specs.declared.var.Key.{Key}
use Rattle.mix_tree.specs.declared.var.Key.TheVariants.{Node as node_key, LabelOf as label_key}
use Rattle.xmas_rule.proofs.Members.{each_append}
use Rattle.xmas_rule.specs.Items.{Shown, whole, label_alone, Items, done, literal, variable, element}
use Rattle.plan_core.specs.declared.plan.Piece.{Piece}
use Rattle.plan_core.specs.declared.plan.Piece.TheVariants.{Var as var_piece}
use Rattle.plan_core.specs.Unary.{Unary, project, group_by, concatenate, create_element}
use Rattle.plan_core.proofs.Groups.{group_outs}
use Rattle.plan_make.specs.Raised.{raised}
use Rattle.plan_make.specs.Translation.{shown_piece, Built, add_piece, element_ops, add_element, first_list, with_list, add_list, other_lists, build, Branch, Level, key_test, one_branch, with_branch, with_branches, level_of, variable_branch, element_branch, inner_level, outer_level, branches, outer_of, outer_build, template_tree}
use Rattle.plan_make.specs.Trees.{Tree, above, stacked}
use Rattle.plan_make.proofs.BranchParts.{stacked-outs}
use Rattle.plan_make.proofs.RaisedParts.{raised_outs}
use Rattle.plan_make.proofs.Rising.{outs}
use Rattle.plan_make.proofs.TreeParts.{tree_outs}
use Rattle.plan_written.proofs.Counts.{IsCounted, counted_none, counted_one, counted_append, counted_raised, element_counted, build_counted}
use Rattle.plan_written.proofs.Trees.{IsWrittenTest, IsWrittenPiece, IsWrittenUnary, IsWrittenTree, stacked_written, raised_written}

-- items of which the names of elements and the labels are written
abbrev pub AreWrittenItems : Items → Type 0
AreWrittenItems done = Unit {0}
AreWrittenItems (literal label rest) = IsUtf8 label × AreWrittenItems rest
AreWrittenItems (variable shown v own rest) = AreWrittenItems rest
AreWrittenItems (element label inside own rest) = IsName label × AreWrittenItems inside × AreWrittenItems rest

-- LEVELS

-- what was built of a level, of which the operators and the pieces are written
record IsWrittenBuilt (b : Built) : Type 0 where
  ops : AllByRecursion IsWrittenUnary b.ops
  pieces : AllByRecursion IsWrittenPiece b.pieces

-- what an item of a variable shows is written
shown_written : (s : Shown) (v : ℕ) → IsWrittenPiece (shown_piece s v)
shown_written whole v = tt
shown_written label_alone v = tt

-- pieces are written with a list before them
list_written : (list : Option ℕ) (pieces : List Piece) → AllByRecursion IsWrittenPiece pieces → AllByRecursion IsWrittenPiece (with_list list pieces)
list_written None pieces h = h
list_written (Some list) pieces h = (tt, h)

-- a level is written with a list as its first piece
list_built : (list : Option ℕ) (b : Built) → IsWrittenBuilt b → IsWrittenBuilt (add_list list b)
list_built list b h = record { ops = h.ops; pieces = list_written list b.pieces h.pieces }

-- an element's operators are written before others
element_written : (label : List ℕ) (b : Built) (more : List Unary) → IsName label → IsWrittenBuilt b → AllByRecursion IsWrittenUnary more → AllByRecursion IsWrittenUnary (element_ops label b more)
element_written label b more n h g =
    each_append IsWrittenUnary b.ops (concatenate b.pieces b.next ∷ create_element label b.next (b.next + 1) ∷ more) h.ops (h.pieces, (n, g))

-- what is built of written items is written
build_written : (items : Items) (force : List Key) (lists : List ℕ) (n : ℕ) → AreWrittenItems items → IsWrittenBuilt (build force lists items n)
build_written done force lists n h = record { ops = tt; pieces = tt }
build_written (literal label rest) force lists n h = let r = build_written rest force lists n h.1 in record { ops = r.ops; pieces = (h.0, r.pieces) }
build_written (variable s v own rest) force lists n h =
    let e = build force (other_lists lists) rest n in
    let f = build force lists rest n in
    elim (collects force own) as (λ w. IsWrittenBuilt (cond w (add_list (first_list lists) e) (add_piece (shown_piece s v) f))) [
      | true ↦ list_built (first_list lists) e (build_written rest force (other_lists lists) n h)
      | false ↦ (let r = build_written rest force lists n h in record { ops = r.ops; pieces = (shown_written s v, r.pieces) })
    ]
build_written (element label inside own rest) force lists n h =
    let i = build (in_force force own) lists inside n in
    let e = build force (other_lists lists) rest n in
    let f = build force i.left rest (i.next + 2) in
    elim (collects force own) as (λ w. IsWrittenBuilt (cond w (add_list (first_list lists) e) (add_element label i f))) [
      | true ↦ list_built (first_list lists) e (build_written rest force (other_lists lists) n h.2)
      | false ↦ (let a = build_written inside (in_force force own) lists n h.1 in
          let r = build_written rest force i.left (i.next + 2) h.2 in
          record { ops = element_written label i f.ops h.0 a r.ops; pieces = (tt, r.pieces) })
    ]

-- TREES OVER A BODY

-- a written tree over a body: it binds anew at least as many variables as are numbered before the next new one, those of the body among them
pub record IsMade (body t : Tree) (next : ℕ) : Type 0 where
  pub written : IsWrittenTree t
  pub counted : IsCounted 0 (tree_outs t) next
  pub keeps : (v : ℕ) → Among v (tree_outs body) → Among v (tree_outs t)

-- the tree of a branch is made over the body
abbrev IsMadeBranch : Tree → Branch → Type 0
IsMadeBranch body b = IsMade body b.tree b.next

-- the tree below a level is made over the body
abbrev IsMadeLevel : Tree → Level → Type 0
IsMadeLevel body l = IsMade body l.tree l.next

-- a tree that is made over a body is made with further written operators over it
stacked_made : (body t : Tree) (n k : ℕ) (ops : List Unary) → IsMade body t n → AllByRecursion IsWrittenUnary ops → IsCounted n (outs ops) k → IsMade body (stacked t ops) k
stacked_made body t n k ops h w c = record {
  written = stacked_written ops t h.written w;
  counted = subst (λ (vs : List ℕ). IsCounted 0 vs k) (sym (stacked-outs ops t)) (counted_append 0 n k (tree_outs t) (outs ops) h.counted c);
  keeps = λ v a. subst (Among v) (sym (stacked-outs ops t)) (among_left (tree_outs t) (outs ops) v (h.keeps v a));
}

-- a groupBy binds one variable anew
group_counted : (keys : List Key) (piece : Piece) (n : ℕ) → IsCounted n (outs (group_by keys piece n ∷ [])) (n + 1)
group_counted keys piece n = subst (λ (vs : List ℕ). IsCounted n (vs ++ []) (n + 1)) (sym (group_outs keys piece n)) (counted_one n)

-- the branch of an item of a variable is made over the body
variable_made : (body : Tree) (n : ℕ) (outer inner : List Key) (s : Shown) (v : ℕ) → IsMade body body n → IsMadeBranch body (variable_branch body n outer inner (shown_piece s v))
variable_made body n outer inner s v h =
    stacked_made body body n (n + 1) (project inner ∷ group_by outer (shown_piece s v) n ∷ []) h (tt, (shown_written s v, tt)) (group_counted outer (shown_piece s v) n)

-- the branch of an element is made over the body, where the tree below its level is
element_made : (body : Tree) (outer : List Key) (label : List ℕ) (l : Level) (force : List Key) (items : Items) → IsName label → AreWrittenItems items → IsMadeLevel body l
    → IsMadeBranch body (element_branch outer label l (build force l.lists items l.next))
element_made body outer label l force items name w h =
    let b = build force l.lists items l.next in
    let last : Unary = group_by outer (var_piece (b.next + 1)) (b.next + 2) in
    let e : b.next + 2 + 1 ≡ b.next + 3 = omega arith in
    stacked_made body l.tree l.next (b.next + 3) (element_ops label b (last ∷ [])) h
    (element_written label b (last ∷ []) name (build_written items force l.lists l.next w) (tt, tt))
    (element_counted l.next (b.next + 3) label b (last ∷ []) (build_counted items force l.lists l.next)
    (subst (λ (k : ℕ). IsCounted (b.next + 2) (outs (last ∷ [])) k) e (group_counted outer (var_piece (b.next + 1)) (b.next + 2))))

-- the comparisons by which branches agree are of variables, and so are written
key_written : (r : ℕ) (keys : List Key) → AllByRecursion IsWrittenTest (map (key_test r) keys)
key_written r [] = tt
key_written r (node_key v ∷ keys) = (tt, key_written r keys)
key_written r (label_key v ∷ keys) = (tt, key_written r keys)

-- the tree below a level with a made branch joined to it is made
joined_made : (body : Tree) (keys : List Key) (l : Level) (b : Branch) → IsMadeLevel body l → IsMadeBranch body b → IsMadeLevel body (with_branch keys l b)
unfolding IsWrittenTree tree_outs
joined_made body keys l b h g = record {
  written = (h.written, raised_written l.next b.tree g.written, key_written l.next keys);
  counted = counted_append 0 l.next (l.next + b.next) (tree_outs l.tree) (tree_outs (raised l.next b.tree)) h.counted
      (subst (λ (vs : List ℕ). IsCounted l.next vs (l.next + b.next)) (sym (raised_outs l.next b.tree)) (counted_raised l.next b.next (tree_outs b.tree) g.counted));
  keeps = λ v a. among_left (tree_outs l.tree) (tree_outs (raised l.next b.tree)) v (h.keeps v a);
}

-- the tree below a level with made branches joined to it is made
all_made : (body : Tree) (keys : List Key) (bs : List Branch) (l : Level) → IsMadeLevel body l → AllByRecursion (IsMadeBranch body) bs → IsMadeLevel body (with_branches keys l bs)
all_made body keys [] l h g = h
all_made body keys (b ∷ bs) l h g = all_made body keys bs (with_branch keys l b) (joined_made body keys l b h g.0) g.1

-- the tree below a level is made, where those of its branches are, and that of none
level_made : (body : Tree) (empty : Level) (keys : List Key) (bs : List Branch) → IsMadeLevel body empty → AllByRecursion (IsMadeBranch body) bs → IsMadeLevel body (level_of empty keys bs)
level_made body empty keys [] h g = h
level_made body empty keys (b ∷ bs) h g = all_made body keys bs (one_branch b) g.0 g.1

-- the tree below the level of an element that collects is made, where those of its branches are
inner_made : (body : Tree) (n : ℕ) (keys : List Key) (bs : List Branch) → IsMade body body n → AllByRecursion (IsMadeBranch body) bs → IsMadeLevel body (inner_level body n keys bs)
unfolding IsWrittenTree tree_outs
inner_made body n keys bs h g =
    level_made body (record { tree = above body (project keys); lists = []; next = n }) keys bs
    (record {
      written = (h.written, tt);
      counted = subst (λ (vs : List ℕ). IsCounted 0 vs n) (sym (append_nil (tree_outs body))) h.counted;
      keeps = λ v a. among_left (tree_outs body) [] v a;
    }) g

-- the tree below the outer element is made, where those of its branches are
outer_made : (body : Tree) (n : ℕ) (bs : List Branch) → IsMade body body n → AllByRecursion (IsMadeBranch body) bs → IsMadeLevel body (outer_level body n bs)
unfolding IsWrittenTree tree_outs
outer_made body n bs h g =
    level_made body (record { tree = above body (group_by [] (var_piece 0) n); lists = []; next = n + 1 }) [] bs
    (record {
      written = (h.written, tt);
      counted = counted_append 0 n (n + 1) (tree_outs body) (n ∷ []) h.counted (counted_one n);
      keeps = λ v a. among_left (tree_outs body) (n ∷ []) v a;
    }) g

-- the branches of written items are made over the body
branches_made : (body : Tree) (n : ℕ) → IsMade body body n → (items : Items) (outer force : List Key) (after : List Branch) → AreWrittenItems items → AllByRecursion (IsMadeBranch body) after
    → AllByRecursion (IsMadeBranch body) (branches body n outer force items after)
branches_made body n h done outer force after w g = g
branches_made body n h (literal label rest) outer force after w g = branches_made body n h rest outer force after w.1 g
branches_made body n h (variable s v own rest) outer force after w g =
    let inner = in_force force own in
    let more = branches body n outer force rest after in
    let k = branches_made body n h rest outer force after w g in
    elim (collects force own) as (λ x. AllByRecursion (IsMadeBranch body) (cond x (variable_branch body n outer inner (shown_piece s v) ∷ more) more))
    [ true ↦ (variable_made body n outer inner s v h, k) | false ↦ k ]
branches_made body n h (element label inside own rest) outer force after w g =
    let inner = in_force force own in
    let more = branches body n outer force rest after in
    let found = branches body n inner inner inside [] in
    let l = inner_level body n inner found in
    let b = element_branch outer label l (build inner l.lists inside l.next) in
    let k = branches_made body n h rest outer force after w.2 g in
    elim (collects force own) as (λ x. AllByRecursion (IsMadeBranch body) (cond x (b ∷ more) (branches body n outer inner inside more))) [
      | true ↦ (element_made body outer label l inner inside w.0 w.1 (inner_made body n inner found h (branches_made body n h inside inner inner [] w.1 tt)), k)
      | false ↦ branches_made body n h inside outer inner more w.1 k
    ]

-- the operators of a written template over a body are made over the body
pub template_made : (body : Tree) (n : ℕ) (label : List ℕ) (items : Items) → IsMade body body n → IsName label → AreWrittenItems items
    → IsMade body (template_tree body n label items) ((outer_build body n items).next + 2)
template_made body n label items h name w =
    let l = outer_of body n items in
    let o = outer_build body n items in
    let c : IsCounted (o.next + 2) (outs []) (o.next + 2) = counted_none (o.next + 2) in
    stacked_made body l.tree l.next (o.next + 2) (element_ops label o []) (outer_made body n (branches body n [] [] items []) h (branches_made body n h items [] [] [] w tt))
    (element_written label o [] name (build_written items [] l.lists l.next w) tt)
    (element_counted l.next (o.next + 2) label o [] (build_counted items [] l.lists l.next) c)
