-- A look-up by labels or by nodes finds all that the comparisons let through.
use Rattle.std.proofs.Common.{◌≡◌, ◌<◌, ◌&&◌, ◌||◌, ℕ, Bool, true, false, cond, List, [], ◌∷◌, Option, Some, None, length, get_or, refl, ◌∙◌, sym, ap, subst, arith}
use Rattle.std.proofs.lemmas.List.{get_or-map, length-map}
use Rattle.std.specs.Cmp.{unsigned_Decides}
use Rattle.std.specs.Prelude.{◌==◌, is_some, IfSome}
use Rattle.std.specs.List.{AllByRecursion}
use Rattle.std.specs.declared.alloc.Global.{Global}
use Rattle.std.specs.declared.rc.Rc.{Rc}
use Rattle.std.specs.declared.vec.Vec.{Vec}
use Rattle.join_memo.specs.Kept.{Kept, labels_of, IsFound}
use Rattle.mix_base.proofs.Choices.{and_parts, some_is}
use Rattle.mix_base.proofs.Firsts.{each_weaker}
use Rattle.mix_tree.specs.Comparisons.{passes}
use Rattle.mix_tree.specs.Nodes.{Documents, label_at}
use Rattle.mix_tree.specs.declared.comparing.Operand.{Operand}
use Rattle.mix_tree.specs.declared.comparing.Operand.TheVariants.{Var as var_operand, Text as text_operand}
use Rattle.mix_tree.specs.declared.comparing.Test.{Test}
use Rattle.mix_tree.specs.declared.comparing.TestOp.{TestOp}
use Rattle.mix_tree.specs.declared.comparing.TestOp.TheVariants.{Eq, Ne, Lt, Le, Gt, Ge, Same}
use Rattle.plan_core.specs.Plans.{Operator, source}
use Rattle.plan_core.specs.Shapes.{pairs_up, shape_at}
use Rattle.plan_core.specs.Typed.{IsTyped}
use Rattle.plan_core.specs.TolledRows.{TolledRow, row_node}
use Rattle.plan_core.specs.Events.{passes_all}
use Rattle.plan_core.specs.Valid.{Kind, Kinds, kinds, a_node, either_kind, IsTest, IsOperand}
use Rattle.plan_forms.specs.declared.link.Link.{Link}
use Rattle.plan_forms.specs.declared.link.LinkKind.{LinkKind}
use Rattle.plan_forms.specs.declared.link.LinkKind.TheVariants.{Label as by_label, Node as by_node}
use Rattle.lazy_binding.specs.declared.parts.Fixed.{Fixed}
use Rattle.lazy_binding.specs.declared.position.Position.{Position}
use Rattle.plan_forms.specs.Links.{link_kind, on_sides, kind_link, test_link, with_link, all_links, shape_links, op_links, links_at, if_label, only_label}
use Rattle.lazy_binding.specs.Parts.{operators, IsFixed}
use Rattle.lazy_binding.specs.Cursors.{binding}
use Rattle.lazy_binding.specs.Members.{link_label}
use Rattle.lazy_binding.specs.World.{World, docs_of, Member}
use Rattle.lazy_binding.proofs.Bound.{fit_at}
use Rattle.lazy_steps.proofs.Agreeing.{Agree, Alike, agrees, alike_from, alike_sym}
use Rattle.lazy_steps.specs.Beside.{sought_label, is_by_label, NoneBetween, IsPlaceFrom, IsNextPlace, HasSought}

-- the variables of a link are of nodes, each of its side, and the left side doesn't bind the right one
pub record LinkFits (left right : Kinds) (link : Link) : Type 0 where
  pub left_is : left link.left ≡ Some a_node
  pub right_is : right link.right ≡ Some a_node
  pub apart : left link.right ≡ None

module _ (left right : Kinds) (link : Link) where
  -- the link of two variables of nodes fits: each is of its side
  sides_fit : (by : LinkKind) (v u : ℕ) → either_kind (left v) (right v) ≡ Some a_node → either_kind (left u) (right u) ≡ Some a_node → on_sides left by v u ≡ Some link → LinkFits left right link
  sides_fit by v u a b h = by_case (left v) (left u) refl refl h
    where
      one : (x y : ℕ) (k : Kind) → left x ≡ Some k → left y ≡ None → either_kind (left x) (right x) ≡ Some a_node → either_kind (left y) (right y) ≡ Some a_node
          → LinkFits left right (record { left = x; right = y; by = by })
      one x y k e f c d = record {
        left_is = e ∙ sym (ap (λ (z : Option Kind). either_kind z (right x)) e) ∙ c;
        right_is = sym (ap (λ (z : Option Kind). either_kind z (right y)) f) ∙ d;
        apart = f;
      }

      by_case : (j i : Option Kind) → left v ≡ j → left u ≡ i
          → cond (is_some j) (cond (is_some i) None (Some (record { left = v; right = u; by = by }))) (cond (is_some i) (Some (record { left = u; right = v; by = by })) None) ≡ Some link → LinkFits left right link
      by_case (Some x) (Some y) e f g = cc
      by_case (Some x) None e f g = subst (LinkFits left right) (some_is (record { left = v; right = u; by = by }) link g) (one v u x e f a b)
      by_case None (Some y) e f g = subst (LinkFits left right) (some_is (record { left = u; right = v; by = by }) link g) (one u v y f e b a)
      by_case None None e f g = cc

  -- the link of a comparison that fits is one of variables of nodes, each of its side
  test_fits : (t : Test) → IsTest (λ v. either_kind (left v) (right v)) t → test_link left t ≡ Some link → LinkFits left right link
  test_fits t fit h = by_case t.op t.left t.right fit.0 fit.1 h
    where
      by_case : (op : TestOp) (v : ℕ) (o : Operand) → either_kind (left v) (right v) ≡ Some a_node → IsOperand (λ w. either_kind (left w) (right w)) op o
          → kind_link left (link_kind op) v o ≡ Some link → LinkFits left right link
      by_case Eq v (var_operand u) a b g = sides_fit by_label v u a b g
      by_case Eq v (text_operand label) a b g = cc
      by_case Ne v o a b g = cc
      by_case Lt v o a b g = cc
      by_case Le v o a b g = cc
      by_case Gt v o a b g = cc
      by_case Ge v o a b g = cc
      by_case Same v (var_operand u) a b g = sides_fit by_node v u a b g
      by_case Same v (text_operand label) a b g = cc

-- the variables of each link of comparisons that fit are of nodes, each of its side
pub links_fit : (left right : Kinds) (tests : List Test) → AllByRecursion (IsTest (λ v. either_kind (left v) (right v))) tests → AllByRecursion (LinkFits left right) (all_links left tests)
links_fit left right [] fit = tt
links_fit left right (t ∷ tests) fit = by_case (links_fit left right tests fit.1) (test_link left t) refl
  where
    by_case : AllByRecursion (LinkFits left right) (all_links left tests) → (o : Option Link) → test_link left t ≡ o → AllByRecursion (LinkFits left right) (with_link o (all_links left tests))
    by_case others None e = others
    by_case others (Some x) e = (test_fits left right x t fit.0 e, others)

-- a test or nothing is the test
or_none : (b c : Bool) → b ≡ c → (b || false) ≡ c
or_none true c e = e
or_none false c e = e

module _ (left : Kinds) (link : Link) (docs : Documents) (row : TolledRow) (verdict : Bool) (come : Agree link.by docs (row_node row link.left) (row_node row link.right) verdict) where
  -- what the comparison of the two sides comes to
  sides_come : (by : LinkKind) (v u : ℕ) → on_sides left by v u ≡ Some link → agrees by docs (row_node row v) (row_node row u) ≡ verdict
  sides_come by v u h = by_case (left v) (left u) h
    where
      by_case : (j i : Option Kind) → cond (is_some j) (cond (is_some i) None (Some (record { left = v; right = u; by = by }))) (cond (is_some i) (Some (record { left = u; right = v; by = by })) None) ≡ Some link
          → agrees by docs (row_node row v) (row_node row u) ≡ verdict
      by_case (Some x) (Some y) g = cc
      by_case (Some x) None g =
          let e = some_is (record { left = v; right = u; by = by }) link g in
          subst (λ (z : Link). agrees z.by docs (row_node row z.left) (row_node row z.right) ≡ verdict) (sym e) come.one
      by_case None (Some y) g =
          let e = some_is (record { left = u; right = v; by = by }) link g in
          subst (λ (z : Link). agrees z.by docs (row_node row z.right) (row_node row z.left) ≡ verdict) (sym e) come.other
      by_case None None g = cc

  -- a comparison comes to what the two sides of its link come to
  test_comes : (t : Test) → test_link left t ≡ Some link → passes docs t (row_node row) ≡ verdict
  test_comes t h = by_case t.op t.left t.right h
    where
      by_case : (op : TestOp) (v : ℕ) (o : Operand) → kind_link left (link_kind op) v o ≡ Some link → passes docs (record { left = v; op = op; right = o }) (row_node row) ≡ verdict
      by_case Eq v (var_operand u) g = or_none _ _ (sides_come by_label v u g)
      by_case Eq v (text_operand label) g = cc
      by_case Ne v o g = cc
      by_case Lt v o g = cc
      by_case Le v o g = cc
      by_case Gt v o g = cc
      by_case Ge v o g = cc
      by_case Same v (var_operand u) g = sides_come by_node v u g
      by_case Same v (text_operand label) g = cc

-- a test holds where it or nothing does
or_left : (b : Bool) → (b || false) ≡ true → b ≡ true
or_left true h = refl
or_left false h = cc

module _ (left : Kinds) (link : Link) (docs : Documents) (row : TolledRow) where
  -- where two variables agree, so do the sides of their link
  sides_say : (by : LinkKind) (v u : ℕ) → on_sides left by v u ≡ Some link → agrees by docs (row_node row v) (row_node row u) ≡ true
      → Alike link.by docs (row_node row link.left) (row_node row link.right)
  sides_say by v u h a = by_case (left v) (left u) h
    where
      by_case : (j i : Option Kind) → cond (is_some j) (cond (is_some i) None (Some (record { left = v; right = u; by = by }))) (cond (is_some i) (Some (record { left = u; right = v; by = by })) None) ≡ Some link
          → Alike link.by docs (row_node row link.left) (row_node row link.right)
      by_case (Some x) (Some y) g = cc
      by_case (Some x) None g =
          subst (λ (z : Link). Alike z.by docs (row_node row z.left) (row_node row z.right)) (some_is (record { left = v; right = u; by = by }) link g) (alike_from by docs (row_node row v) (row_node row u) a)
      by_case None (Some y) g =
          subst (λ (z : Link). Alike z.by docs (row_node row z.left) (row_node row z.right)) (some_is (record { left = u; right = v; by = by }) link g)
          (alike_sym by docs (row_node row v) (row_node row u) (alike_from by docs (row_node row v) (row_node row u) a))
      by_case None None g = cc

  -- where a comparison holds, the sides of its link are alike
  test_says : (t : Test) → test_link left t ≡ Some link → passes docs t (row_node row) ≡ true → Alike link.by docs (row_node row link.left) (row_node row link.right)
  test_says t h p = by_case t.op t.left t.right h p
    where
      by_case : (op : TestOp) (v : ℕ) (o : Operand) → kind_link left (link_kind op) v o ≡ Some link → passes docs (record { left = v; op = op; right = o }) (row_node row) ≡ true
          → Alike link.by docs (row_node row link.left) (row_node row link.right)
      by_case Eq v (var_operand u) g q = sides_say by_label v u g (or_left _ q)
      by_case Eq v (text_operand label) g q = cc
      by_case Ne v o g q = cc
      by_case Lt v o g q = cc
      by_case Le v o g q = cc
      by_case Gt v o g q = cc
      by_case Ge v o g q = cc
      by_case Same v (var_operand u) g q = sides_say by_node v u g q
      by_case Same v (text_operand label) g q = cc

-- where all comparisons hold, the sides of each link are alike
pub tests_say : (left : Kinds) (docs : Documents) (row : TolledRow) (tests : List Test) → passes_all docs tests row ≡ true
    → AllByRecursion (λ (link : Link). Alike link.by docs (row_node row link.left) (row_node row link.right)) (all_links left tests)
tests_say left docs row [] h = tt
tests_say left docs row (t ∷ tests) h =
    let both = and_parts (passes docs t (row_node row)) (passes_all docs tests row) h in
    by_case both.0 (tests_say left docs row tests both.1) (test_link left t) refl
  where
    by_case : passes docs t (row_node row) ≡ true → AllByRecursion (λ (link : Link). Alike link.by docs (row_node row link.left) (row_node row link.right)) (all_links left tests)
        → (o : Option Link) → test_link left t ≡ o → AllByRecursion (λ (link : Link). Alike link.by docs (row_node row link.left) (row_node row link.right)) (with_link o (all_links left tests))
    by_case holds others None e = others
    by_case holds others (Some x) e = (test_says left x docs row t e holds, others)

module _ (left : Kinds) (link : Link) (docs : Documents) (row : TolledRow) where
  -- where the sides of the only link agree, the only comparison holds
  pub test_holds : Agree link.by docs (row_node row link.left) (row_node row link.right) true → (tests : List Test) → length tests ≡ 1 → all_links left tests ≡ link ∷ [] → passes_all docs tests row ≡ true
  test_holds same [] one h = absurd (omega (arith, one))
  test_holds same (t ∷ u ∷ tests) one h = absurd (omega (arith, one))
  test_holds same (t ∷ []) one h = by_case (test_link left t) refl h
    where
      by_case : (o : Option Link) → test_link left t ≡ o → with_link o [] ≡ link ∷ [] → passes docs t (row_node row) && true ≡ true
      by_case None e g = cc
      by_case (Some x) e g =
          let f : x ≡ link = cc in
          ap (λ (z : Bool). z && true) (test_comes left link docs row true same t (e ∙ ap (λ (z : Link). Some z) f))

-- what is looked up by labels is looked up
pub label_some : (by : List Link) → is_by_label by ≡ true → by ≡ [] → ⊥
label_some [] h e = cc
label_some (link ∷ links) h e = cc

-- the only link by labels is the only link, and by labels
pub only_is : (by : List Link) (link : Link) → only_label by ≡ Some link → (by ≡ link ∷ []) × (link.by ≡ by_label)
only_is [] link h = cc
only_is (x ∷ []) link h = by_case x.by refl h
  where
    by_case : (kind : LinkKind) → x.by ≡ kind → if_label kind x ≡ Some link → (x ∷ [] ≡ link ∷ []) × (link.by ≡ by_label)
    by_case by_label e g =
        let f = some_is x link g in
        (ap (λ (z : Link). z ∷ []) f, ap (λ (z : Link). z.by) (sym f) ∙ e)
    by_case by_node e g = cc
only_is (x ∷ y ∷ links) link h = cc

-- the links that were read for an operator are its own
pub links_read : (f : Fixed) → IsFixed f → (n : ℕ) → n < length (operators f) → (v : Vec Link Global) → v ≡ get_or f.links.items n v → v.items ≡ links_at (operators f) n
links_read f fixed n within v e =
    ap (λ (z : Vec Link Global). z.items) e ∙ sym (get_or-map (λ (z : Vec Link Global). z.items) f.links.items n v v.items inside)
    ∙ ap (λ (os : List (List Link)). get_or os n v.items) fixed.links ∙ get_or-map (op_links (operators f)) (operators f) n (source 0 0) v.items within
  where
    inside : n < length f.links.items
    inside = omega (arith, within, sym (length-map f.links.items (λ (z : Vec Link Global). z.items)) ∙ ap length fixed.links ∙ length-map (operators f) (op_links (operators f)))

-- the variables of a join's links are of nodes, each of its side
pub join_fits : (ops : List Operator) → IsTyped ops → (n : ℕ) → n < length ops → (l r : ℕ) (tests : List Test) → shape_at ops n ≡ pairs_up l r tests → (links : List Link) → links ≡ links_at ops n
    → AllByRecursion (LinkFits (kinds ops l) (kinds ops r)) links
join_fits ops typed n within l r tests is links e =
    subst (AllByRecursion (LinkFits (kinds ops l) (kinds ops r))) (sym (e ∙ ap (shape_links ops) is)) (links_fit (kinds ops l) (kinds ops r) tests (fit_at ops typed n within (pairs_up l r tests) is))

-- the left variables of a join's links are of nodes
pub left_nodes : (ops : List Operator) → IsTyped ops → (n : ℕ) → n < length ops → (l r : ℕ) (tests : List Test) → shape_at ops n ≡ pairs_up l r tests → (links : List Link) → links ≡ links_at ops n
    → AllByRecursion (λ (link : Link). kinds ops l link.left ≡ Some a_node) links
left_nodes ops typed n within l r tests is links e =
    each_weaker (LinkFits (kinds ops l) (kinds ops r)) (λ (link : Link). kinds ops l link.left ≡ Some a_node) (λ link h. h.left_is) links (join_fits ops typed n within l r tests is links e)

-- the right variables of a join's links are of nodes
pub right_nodes : (ops : List Operator) → IsTyped ops → (n : ℕ) → n < length ops → (l r : ℕ) (tests : List Test) → shape_at ops n ≡ pairs_up l r tests → (links : List Link) → links ≡ links_at ops n
    → AllByRecursion (λ (link : Link). kinds ops r link.right ≡ Some a_node) links
right_nodes ops typed n within l r tests is links e =
    each_weaker (LinkFits (kinds ops l) (kinds ops r)) (λ (link : Link). kinds ops r link.right ≡ Some a_node) (λ link h. h.right_is) links (join_fits ops typed n within l r tests is links e)

-- what a look-up found, in other words for the memo
pub found_in : (m m' : Kept (Rc Position Global)) (key key' : List ℕ) (from : ℕ) (r : Option ℕ) → m ≡ m' → key ≡ key' → IsFound (labels_of m.pairs) key from r → IsFound (labels_of m'.pairs) key' from r
found_in m m' key key' from r e f h =
    subst (λ (z : Kept (Rc Position Global)). IsFound (labels_of z.pairs) key' from r) e (subst (λ (z : List ℕ). IsFound (labels_of m.pairs) z from r) f h)

-- what a memo finds is the next place
pub next_place : (ms : List Member) (key : List ℕ) (from : ℕ) (r : Option ℕ) → IsFound (labels_of ms) key from r → IsNextPlace ms key from r
next_place ms key from None h = λ j f l e. h j f (record { within = (let n = length-map ms (λ (m : Member). m.0) in omega (arith, n, l)); is = e })
next_place ms key from (Some p) h = λ j f l e. h.before j f l (record { within = (let w = h.label.within in omega (arith, w, l)); is = e })

-- where there is none, no member has the label
pub none_next : (ms : List Member) (key : List ℕ) (from : ℕ) (r : Option ℕ) → ((p : ℕ) → r ≡ Some p → ⊥) → IsNextPlace ms key from r → NoneBetween ms key from (length ms)
none_next ms key from None never h = h
none_next ms key from (Some p) never h = absurd (never p refl)

-- the place that a memo finds is that of a member, and no earlier one than that from which it was looked for
pub place_found : (ms : List Member) (key : List ℕ) (from : ℕ) (r : Option ℕ) → IsFound (labels_of ms) key from r → IsPlaceFrom ms from r
place_found ms key from None h = tt
place_found ms key from (Some p) h = (h.after, (let w = h.label.within in omega (arith, length-map ms (λ (m : Member). m.0), w)))

-- the member that a memo finds has the label that was looked up
pub found_label : (ms : List Member) (key : List ℕ) (by : List Link) (from : ℕ) (r : Option ℕ) → IsFound (labels_of ms) key from r → IfSome r (HasSought ms key by)
found_label ms key by from None h = tt
found_label ms key by from (Some p) h = λ some. h.label.is

-- a list that is found empty is empty
pub empty_is : (xs : List Link) (b : Bool) → b ≡ (length xs == 0) → b ≡ true → xs ≡ []
empty_is [] b e h = refl
empty_is (x ∷ xs) b e h = (let l = (unsigned_Decides (length (x ∷ xs)) 0).0 (sym e ∙ h) in absurd (omega (arith, l)))

-- where nothing is looked up there is nothing to have
pub no_label : (ms : List Member) (key : List ℕ) (by : List Link) (r : Option ℕ) → by ≡ [] → IfSome r (HasSought ms key by)
no_label ms key by None e = tt
no_label ms key by (Some p) e = λ some. absurd (some e)

-- what the only link looks up, where it is by labels, is the label of the left variable's node
pub sought_by_label : (w : World) (ops : List Operator) (l : ℕ) (by : List Link) (link : Link) (x : Position) → by ≡ link ∷ [] → link.by ≡ by_label
    → label_at (docs_of w) (row_node (binding w ops l x) link.left) ≡ sought_label w ops l by x
sought_by_label w ops l by link x e f = sym (ap (λ (z : List Link). sought_label w ops l z x) e ∙ ap (λ (k : LinkKind). link_label w ops l k link.left x) f)
