-- What a template makes over a body uses what is held: its branches, its levels, its outer element.
use Rattle.std.proofs.Common.{◌≡◌, ℕ, ◌+◌, ◌-◌, ◌<◌, ◌≤◌, true, false, cond, List, [], ◌∷◌, ◌++◌, map, Option, None, Some, refl, ◌∙◌, sym, ap, subst, arith}
use Rattle.std.specs.List.{AllByRecursion}
use Rattle.std.proofs.lemmas.Bool.{and_parts, and_from, ne_eqb}
use Rattle.mix_base.proofs.Firsts.{each_weaker, each_snoc}
use Rattle.mix_tree.specs.Keys.{has_var, stands, collects, in_force}
use Rattle.mix_tree.specs.declared.var.Key.{Key}
use Rattle.mix_tree.specs.declared.var.Key.TheVariants.{Node as node_key, LabelOf as label_key}
use Rattle.xmas_rule.specs.Items.{Shown, Items, done, literal, variable, element, shown_key, AreBelow, AreAccepted}
use Rattle.plan_core.specs.declared.plan.Piece.{Piece}
use Rattle.plan_core.specs.declared.plan.Piece.TheVariants.{Var as var_piece}
use Rattle.plan_core.specs.Fronts.{covers}
use Rattle.plan_core.specs.Shapes.{stage_of}
use Rattle.plan_core.specs.Unary.{Unary, project, group_by}
use Rattle.plan_core.specs.Valid.{Kind, an_element, a_list, Kinds, with_kind, kept, either_kind}
use Rattle.plan_core.proofs.Chained.{kinds_after}
use Rattle.plan_core.proofs.Groups.{group_kinds}
use Rattle.plan_evidence.specs.Held.{stage_held, test_uses, kind_uses, piece_uses, stage_uses}
use Rattle.plan_make.specs.Raised.{raised_key, raised}
use Rattle.plan_make.specs.Translation.{shown_piece, element_ops, build, Branch, Level, key_test, one_branch, with_branch, with_branches, variable_branch, element_branch, inner_level, outer_level, branches, outer_of, template_tree}
use Rattle.plan_make.specs.Trees.{Tree, above, stacked}
use Rattle.plan_make.proofs.Branches.{inner_below}
use Rattle.plan_make.proofs.BranchParts.{stacked-kinds, stacked-append, element-more}
use Rattle.plan_make.proofs.Fitting.{kind-here, element-after, element_kinds-new}
use Rattle.plan_make.proofs.Levels.{build-next}
use Rattle.plan_make.proofs.RaisedParts.{raised_kinds}
use Rattle.plan_make.proofs.TreeParts.{tree_kinds}
use Rattle.plan_uses.proofs.Bodies.{IsUsedBody}
use Rattle.plan_uses.proofs.Keys.{stands_left, stands_right, covers_through, covers_itself, covers_both, covers_left, var_covered, covers_below, stands-raised, in_force_covers}
use Rattle.plan_uses.proofs.Levels.{kind_covered, shown_covered, AreListed, element_used, build_used}
use Rattle.plan_uses.proofs.Raised.{raised-held, raised_uses}
use Rattle.plan_uses.proofs.Trees.{tree_held, TreeUses, stacked-held, stacked_uses}

-- BRANCHES

-- what is known of a branch: it uses what is held, and its keys are covered by what it holds; its list is bound, and nothing from the next new variable on
pub record IsUsedBranch (top : ℕ) (outer : List Key) (b : Branch) : Type 0 where
  pub uses : TreeUses b.tree
  pub holds : covers (tree_held b.tree) outer ≡ true
  pub listed : tree_kinds b.tree b.list ≡ Some a_list
  pub below : b.list < b.next
  pub ends : (v : ℕ) → b.next ≤ v → tree_kinds b.tree v ≡ None
  pub up : top ≤ b.next

-- a groupBy uses what is held, where that covers its keys and tells its piece
group_covered : (keys outer : List Key) (kinds : Kinds) (piece : Piece) (out : ℕ) → covers keys outer ≡ true → covers keys (piece_uses kinds piece) ≡ true → covers keys (stage_uses kinds (stage_of (group_by outer piece out))) ≡ true
group_covered keys [] kinds piece out c p = p
group_covered keys (k ∷ outer) kinds piece out c p = covers_both keys (k ∷ outer) (piece_uses kinds piece) c p

-- a groupBy holds its keys
group_holds : (keys outer : List Key) (piece : Piece) (out : ℕ) → covers (stage_held (stage_of (group_by outer piece out)) keys) outer ≡ true
group_holds keys [] piece out = refl
group_holds keys (k ∷ outer) piece out = covers_itself (k ∷ outer)

-- a groupBy binds nothing after its list
group_ends : (top : ℕ) (outer : List Key) (piece : Piece) (out v : ℕ) (kinds : Kinds) → AreBelow top outer → top ≤ out → out + 1 ≤ v → with_kind out a_list (kept outer kinds) v ≡ None
group_ends top outer piece out v kinds small l e =
    rw (ne_eqb out v (λ d. (let g : out ≡ v = d in omega (arith, g, e))))
    ((elim (has_var outer v) as (λ w. has_var outer v ≡ w → cond w (kinds v) None ≡ None) [
      | true ↦ λ d. (let s = small v d in absurd (omega (arith, s, e, l)))
      | false ↦ λ d. refl
    ]) refl)

-- a groupBy over a tree makes a branch that uses what is held
group_used : (top : ℕ) (outer : List Key) (t : Tree) (piece : Piece) (out : ℕ) → TreeUses t → AreBelow top outer → top ≤ out → covers (tree_held t) outer ≡ true → covers (tree_held t) (piece_uses (tree_kinds t) piece) ≡ true
    → IsUsedBranch top outer (record { tree = above t (group_by outer piece out); list = out; next = out + 1 })
unfolding TreeUses tree_held tree_kinds
group_used top outer t piece out h small m c p = record {
  uses = (h, group_covered (tree_held t) outer (tree_kinds t) piece out c p);
  holds = group_holds (tree_held t) outer piece out;
  listed = ap (λ (g : Kinds). g out) (group_kinds outer piece out (tree_kinds t)) ∙ kind-here out a_list (kept outer (tree_kinds t));
  below = omega arith;
  ends = λ v e. ap (λ (g : Kinds). g v) (group_kinds outer piece out (tree_kinds t)) ∙ group_ends top outer piece out v (tree_kinds t) small m e;
  up = omega (arith, m);
}

-- the branch of a variable uses what is held
variable_used : (top n : ℕ) (body : Tree) (outer inner : List Key) (s : Shown) (v : ℕ) → IsUsedBody top body → top ≤ n → AreBelow top inner → covers inner outer ≡ true → stands inner (shown_key s v) ≡ true
    → IsUsedBranch top outer (variable_branch body n outer inner (shown_piece s v))
unfolding TreeUses tree_held tree_kinds
variable_used top n body outer inner s v b m small c known =
    group_used top outer (above body (project inner)) (shown_piece s v) n (b.uses, covers_below (tree_held body) top inner b.nodes small) (λ u h. small u (var_covered inner outer u c h)) m c
    (shown_covered (kept inner (tree_kinds body)) inner s v known)

-- LEVELS

-- what is known of what stands below a level: it uses what is held, and the level's keys are covered by what it holds; its lists are bound
pub record IsUsedLevel (top : ℕ) (keys : List Key) (l : Level) : Type 0 where
  pub uses : TreeUses l.tree
  pub holds : covers (tree_held l.tree) keys ≡ true
  pub listed : AreListed (tree_kinds l.tree) l.next l.lists
  pub up : top ≤ l.next

-- what stands below a level of joined branches uses what is held, and binds nothing from the next new variable on
record IsUsedJoined (top : ℕ) (keys : List Key) (l : Level) : Type 0 where
  level : IsUsedLevel top keys l
  ends : (v : ℕ) → l.next ≤ v → tree_kinds l.tree v ≡ None

-- a level of one branch that uses what is held uses it
one_used : (top : ℕ) (keys : List Key) (b : Branch) → IsUsedBranch top keys b → IsUsedJoined top keys (one_branch b)
one_used top keys b h = record { level = record { uses = h.uses; holds = h.holds; listed = ((h.listed, h.below), tt); up = h.up }; ends = h.ends }

-- the tests of keys use what two sides hold, where each side covers the keys, the right one with its variables renamed
tests_used : (m : ℕ) (low high keys : List Key) → covers low keys ≡ true → covers high keys ≡ true → AllByRecursion (λ t. covers (low ++ map (raised_key m) high) (test_uses t) ≡ true) (map (key_test m) keys)
tests_used m low high [] c d = tt
tests_used m low high (node_key v ∷ keys) c d =
    let p = and_parts (stands low (node_key v)) (covers low keys) c in
    let q = and_parts (stands high (node_key v)) (covers high keys) d in
    let far : List Key = map (raised_key m) high in (
      and_from (stands (low ++ far) (node_key v)) (covers (low ++ far) (node_key (m + v) ∷ [])) (stands_left low far (node_key v) p.0)
          (and_from (stands (low ++ far) (node_key (m + v))) true (stands_right low far (node_key (m + v)) (stands-raised m high (node_key v) ∙ q.0)) refl),
      tests_used m low high keys p.1 q.1,
    )
tests_used m low high (label_key v ∷ keys) c d =
    let p = and_parts (stands low (label_key v)) (covers low keys) c in
    let q = and_parts (stands high (label_key v)) (covers high keys) d in
    let far : List Key = map (raised_key m) high in (
      and_from (stands (low ++ far) (label_key v)) (covers (low ++ far) (label_key (m + v) ∷ [])) (stands_left low far (label_key v) p.0)
          (and_from (stands (low ++ far) (label_key (m + v))) true (stands_right low far (label_key (m + v)) (stands-raised m high (label_key v) ∙ q.0)) refl),
      tests_used m low high keys p.1 q.1,
    )

-- a renamed tree binds nothing from the next new variable on, renamed
past : (m v next : ℕ) (low high : Kinds) → ((w : ℕ) → high (m + w) ≡ low w) → ((w : ℕ) → next ≤ w → low w ≡ None) → m + next ≤ v → high v ≡ None
past m v next low high same ends e = let d : m + (v - m) ≡ v = omega (arith, e) in ap high (sym d) ∙ same (v - m) ∙ ends (v - m) (omega (arith, e))

-- a branch joined to those so far uses what is held where they do
more_used : (top : ℕ) (keys : List Key) (l : Level) (b : Branch) → IsUsedJoined top keys l → IsUsedBranch top keys b → IsUsedJoined top keys (with_branch keys l b)
unfolding TreeUses tree_held tree_kinds
more_used top keys l b h g =
    let m : ℕ = l.next in
    let f = h.level in
    let k = raised_kinds m b.tree in
    let low : Kinds = tree_kinds l.tree in
    let high : Kinds = tree_kinds (raised m b.tree) in
    let kinds : Kinds = λ v. either_kind (low v) (high v) in
    let up = f.up in let y = g.below in
    let left : (v : ℕ) (x : Kind) → low v ≡ Some x → kinds v ≡ Some x = λ v x e. ap (λ (z : Option Kind). either_kind z (high v)) e in
    let right : (v : ℕ) → kinds (m + v) ≡ tree_kinds b.tree v = λ v. ap (λ (z : Option Kind). either_kind z (high (m + v))) (h.ends (m + v) (omega arith)) ∙ k.same v in
    record {
      level = record {
        uses = (
          f.uses,
          raised_uses m b.tree g.uses,
          subst (λ (z : List Key). AllByRecursion (λ t. covers (tree_held l.tree ++ z) (test_uses t) ≡ true) (map (key_test m) keys)) (sym (raised-held m b.tree))
              (tests_used m (tree_held l.tree) (tree_held b.tree) keys f.holds g.holds),
        );
        holds = covers_left (tree_held l.tree) (tree_held (raised m b.tree)) keys f.holds;
        listed = each_snoc (λ list. (kinds list ≡ Some a_list) × (list < m + b.next)) l.lists (m + b.list)
            (each_weaker (λ list. (low list ≡ Some a_list) × (list < m)) (λ list. (kinds list ≡ Some a_list) × (list < m + b.next)) (λ list p. (left list a_list p.0, (let q = p.1 in omega (arith, q)))) l.lists f.listed)
            (right b.list ∙ g.listed, omega (arith, y));
        up = omega (arith, up);
      };
      ends = λ v e. ap (λ (z : Option Kind). either_kind z (high v)) (h.ends v (omega (arith, e))) ∙ past m v b.next (tree_kinds b.tree) high k.same g.ends e;
    }

-- branches joined to a level, one after another, use what is held where it does
all_used : (top : ℕ) (keys : List Key) (bs : List Branch) (l : Level) → IsUsedJoined top keys l → AllByRecursion (IsUsedBranch top keys) bs → IsUsedJoined top keys (with_branches keys l bs)
all_used top keys [] l h g = h
all_used top keys (b ∷ bs) l h g = all_used top keys bs (with_branch keys l b) (more_used top keys l b h g.0) g.1

-- what stands below an element that collects uses what is held
inner_used : (top n : ℕ) (body : Tree) (keys : List Key) (bs : List Branch) → IsUsedBody top body → top ≤ n → AreBelow top keys → AllByRecursion (IsUsedBranch top keys) bs → IsUsedLevel top keys (inner_level body n keys bs)
unfolding TreeUses tree_held tree_kinds
inner_used top n body keys [] b m small h =
    record { uses = (b.uses, covers_below (tree_held body) top keys b.nodes small); holds = covers_itself keys; listed = tt; up = m }
inner_used top n body keys (x ∷ bs) b m small h = (all_used top keys bs (one_branch x) (one_used top keys x h.0) h.1).level

-- what stands below the outer element uses what is held
outer_used : (top n : ℕ) (body : Tree) (bs : List Branch) → IsUsedBody top body → top ≤ n → 0 < top → AllByRecursion (IsUsedBranch top []) bs → IsUsedLevel top [] (outer_level body n bs)
unfolding TreeUses tree_held tree_kinds
outer_used top n body [] b m some h =
    record { uses = (b.uses, kind_covered (tree_held body) 0 (tree_kinds body 0) (b.nodes 0 some)); holds = refl; listed = tt; up = omega (arith, m) }
outer_used top n body (x ∷ bs) b m some h = (all_used top [] bs (one_branch x) (one_used top [] x h.0) h.1).level

-- ELEMENTS

-- what is known of an element over its level: it uses what is held, holds it on, and binds the element
record IsUsedElement (t : Tree) (v : ℕ) (keys : List Key) : Type 0 where
  uses : TreeUses t
  holds : covers (tree_held t) keys ≡ true
  made : tree_kinds t v ≡ Some an_element

-- an element over a level that uses what is held uses it
element_over : (top : ℕ) (label : List ℕ) (keys : List Key) (items : Items) (l : Level) → IsUsedLevel top keys l → AreAccepted top keys items
    → IsUsedElement (stacked l.tree (element_ops label (build keys l.lists items l.next) [])) ((build keys l.lists items l.next).next + 1) keys
element_over top label keys items l f a =
    let b = build keys l.lists items l.next in
    let ops : List Unary = element_ops label b [] in
    let kinds : Kinds = tree_kinds l.tree in
    let x = build_used top items keys l.lists l.next kinds (tree_held l.tree) a f.holds f.listed in
    let u = element_used label b [] kinds (tree_held l.tree) x tt in
    record {
      uses = stacked_uses ops l.tree f.uses u.0;
      holds = ap (λ (z : List Key). covers z keys) (stacked-held ops l.tree ∙ u.1) ∙ f.holds;
      made = ap (λ (z : Kinds). z (b.next + 1)) (stacked-kinds ops l.tree ∙ element-after label b [] kinds) ∙ element_kinds-new b (kinds_after kinds b.ops);
    }

-- the branch of an element over a level that uses what is held uses it
branch_used : (top : ℕ) (label : List ℕ) (outer inner : List Key) (items : Items) (l : Level) → IsUsedLevel top inner l → AreBelow top inner → covers inner outer ≡ true → AreAccepted top inner items
    → IsUsedBranch top outer (element_branch outer label l (build inner l.lists items l.next))
branch_used top label outer inner items l f small c a =
    let b = build inner l.lists items l.next in
    let ops : List Unary = element_ops label b [] in
    let last : Unary = group_by outer (var_piece (b.next + 1)) (b.next + 2) in
    let t : Tree = stacked l.tree ops in
    let e = element_over top label inner items l f a in
    let up = f.up in
    let later = build-next items inner l.lists l.next in
    let g = group_used top outer t (var_piece (b.next + 1)) (b.next + 2) e.uses (λ u h. small u (var_covered inner outer u c h)) (omega (arith, up, later)) (covers_through (tree_held t) inner outer e.holds c)
    (ap (λ (k : Option Kind). covers (tree_held t) (kind_uses (b.next + 1) k)) e.made) in
    let shape : above t last ≡ stacked l.tree (element_ops label b (last ∷ [])) = sym (stacked-append ops (last ∷ []) l.tree) ∙ ap (stacked l.tree) (sym (element-more label b (last ∷ []))) in
    let end : b.next + 2 + 1 ≡ b.next + 3 = omega arith in
    subst (λ (z : Tree). IsUsedBranch top outer (record { tree = z; list = b.next + 2; next = b.next + 3 })) shape
    (subst (λ (k : ℕ). IsUsedBranch top outer (record { tree = above t last; list = b.next + 2; next = k })) end g)

-- the branches of a level's items use what is held, where the keys in force cover the level's
branches_used : (top n : ℕ) (body : Tree) → IsUsedBody top body → top ≤ n → (items : Items) (outer force : List Key) (after : List Branch) → AreBelow top force → covers force outer ≡ true → AreAccepted top force items
    → AllByRecursion (IsUsedBranch top outer) after → AllByRecursion (IsUsedBranch top outer) (branches body n outer force items after)
branches_used top n body b m done outer force after small c a h = h
branches_used top n body b m (literal label rest) outer force after small c a h = branches_used top n body b m rest outer force after small c a h
branches_used top n body b m (variable s v own rest) outer force after small c a h =
    let inner = in_force force own in
    let more = branches body n outer force rest after in
    let k = branches_used top n body b m rest outer force after small c a.2 h in
    elim (collects force own) as (λ w. AllByRecursion (IsUsedBranch top outer) (cond w (variable_branch body n outer inner (shown_piece s v) ∷ more) more)) [
      | true ↦ (variable_used top n body outer inner s v b m (inner_below top force own small a.1) (covers_through inner force outer (in_force_covers force own) c) a.0, k)
      | false ↦ k
    ]
branches_used top n body b m (element label inside own rest) outer force after small c a h =
    let inner = in_force force own in
    let lower : AreBelow top inner = inner_below top force own small a.0 in
    let up : covers inner outer ≡ true = covers_through inner force outer (in_force_covers force own) c in
    let more = branches body n outer force rest after in
    let found = branches body n inner inner inside [] in
    let l = inner_level body n inner found in
    let x = element_branch outer label l (build inner l.lists inside l.next) in
    let k = branches_used top n body b m rest outer force after small c a.2 h in
    elim (collects force own) as (λ w. AllByRecursion (IsUsedBranch top outer) (cond w (x ∷ more) (branches body n outer inner inside more))) [
      | true ↦
          (let below = branches_used top n body b m inside inner inner [] lower (covers_itself inner) a.1 tt in
          (branch_used top label outer inner inside l (inner_used top n body inner found b m lower below) lower up a.1, k))
      | false ↦ branches_used top n body b m inside outer inner more lower up a.1 k
    ]

-- what a template makes over a body that uses what is held uses it
pub template_used : (top n : ℕ) (body : Tree) (label : List ℕ) (items : Items) → IsUsedBody top body → top ≤ n → 0 < top → AreAccepted top [] items → TreeUses (template_tree body n label items)
template_used top n body label items b m some a =
    let no : AreBelow top [] = λ v h. (let c : false ≡ true = h in cc) in
    let found = branches body n [] [] items [] in
    let l = outer_of body n items in
    (element_over top label [] items l (outer_used top n body found b m some (branches_used top n body b m items [] [] [] no refl a tt)) a).uses
