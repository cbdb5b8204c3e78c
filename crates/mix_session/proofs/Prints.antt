-- The text of a subtree, one tree after another.
use Rattle.std.proofs.Common.{◌≡◌, ◌∙◌, ◌+◌, ◌≤◌, ℕ, Bool, true, false, cond, List, [], ◌∷◌, ◌++◌, Option, Some, None, Result, Ok, Err, refl, ap, sym, subst, arith, append_assoc, option_map}
use Rattle.std.specs.Prelude.{is_some, IfSome, OnOk}
use Rattle.mix_base.proofs.Lists.{append_nil}
use Rattle.mix_tree.specs.Forest.{Forest, none, tree, LabelledTree, alone, first_tree, first_label, first_kids, after_first, followed}
use Rattle.mix_tree.specs.Place.{trees_at, tree_at, has_place, child_place, next_place}
use Rattle.mix_tree.specs.Spelling.{spelling}
use Rattle.mix_tree.proofs.Forests.{followed_assoc}
use Rattle.mix_tree.proofs.Places.{trees_at-child}
use Rattle.lxp_core.specs.declared.fault.WalkFault.{WalkFault}
use Rattle.bracket_text.specs.Canonical.{canon, canon_trees}
use Rattle.mix_script.specs.Transcript.{move_answer}
use Rattle.mix_script.specs.declared.answer.Answer.TheVariants as answer
use Rattle.mix_script.specs.declared.step.Way.{Way}
use Rattle.mix_script.specs.declared.step.Way.TheVariants.{Down, Right}
use Rattle.mix_session.specs.Meaning.{Meaning, Stays}
use Rattle.mix_session.specs.Seeking.{IsSmaller, ReadsLabel}
use Rattle.mix_session.specs.Printing.{place_toll, CostsOn, IsPaidFor, IsThere, IsStepTo, OpensTree, PrintsBelow, PrintsTree, PrintsTrees, closing, opening}
use Rattle.mix_session.specs.Tolls.{toll_from, one_toll, trees_toll, print_toll, siblings_toll}
use Rattle.mix_session.proofs.Walking.{stays_twice, place_toll_less, trees_at-next}

-- TREES

-- where a document has a place, a tree stands at it
tree_there : (t : LabelledTree) (p : List ℕ) → has_place (alone t) p ≡ true → (u : LabelledTree) × (trees_at (alone t) p ≡ tree u.label u.kids (after_first (trees_at (alone t) p)))
tree_there t p h = of (trees_at (alone t) p) h
  where
    of : (f : Forest) → is_some (first_label f) ≡ true → (u : LabelledTree) × (f ≡ tree u.label u.kids (after_first f))
    of none e = cc
    of (tree label kids rest) e = (record { label = label; kids = kids }, refl)

-- the trees at a place are the tree there and those after it
trees_of : (t u : LabelledTree) (p : List ℕ) → tree_at t p ≡ Some u → trees_at (alone t) p ≡ tree u.label u.kids (after_first (trees_at (alone t) p))
trees_of t u p h = of (trees_at (alone t) p) h
  where
    at_label : Option LabelledTree → List ℕ
    at_label None = []
    at_label (Some x) = x.label

    at_kids : Option LabelledTree → Forest
    at_kids None = none
    at_kids (Some x) = x.kids

    of : (f : Forest) → first_tree f ≡ Some u → f ≡ tree u.label u.kids (after_first f)
    of none e = cc
    of (tree label kids rest) e = ap (λ l. tree l kids rest) (ap at_label e) ∙ ap (λ k. tree u.label k rest) (ap at_kids e)

-- no trees stand where no place is
no_trees : (t : LabelledTree) (q : List ℕ) → move_answer t (Some q) ≡ answer.None → trees_at (alone t) q ≡ none
no_trees t q h = of (trees_at (alone t) q) refl
  where
    of : (f : Forest) → trees_at (alone t) q ≡ f → f ≡ none
    of none e = refl
    of (tree label kids rest) e = let z : answer.Node ≡ answer.None = ap (λ g. cond (is_some (first_label g)) answer.Node answer.None) (sym e) ∙ h in cc

-- where a move found a node, there is a place
has_there : (t : LabelledTree) (q : List ℕ) → move_answer t (Some q) ≡ answer.Node → has_place (alone t) q ≡ true
has_there t q h = of (has_place (alone t) q) h
  where
    of : (b : Bool) → cond b answer.Node answer.None ≡ answer.Node → b ≡ true
    of true e = refl
    of false e = cc

-- the root alone has no next place
next_none : (p : List ℕ) → next_place p ≡ None → p ≡ []
next_none [] e = refl
next_none (i ∷ []) e = cc
next_none (i ∷ j ∷ p) e = deeper (next_place (j ∷ p)) (λ z. next_none (j ∷ p) z) refl e
  where
    deeper : (o : Option (List ℕ)) → (next_place (j ∷ p) ≡ None → j ∷ p ≡ []) → next_place (j ∷ p) ≡ o → option_map (λ q. i ∷ q) o ≡ None → i ∷ j ∷ p ≡ []
    deeper None more h k = let z : j ∷ p ≡ [] = more h in cc
    deeper (Some q) more h k = cc

-- nothing stands after a node that has no next sibling
after_none : (t : LabelledTree) (p : List ℕ) → move_answer t (next_place p) ≡ answer.None → after_first (trees_at (alone t) p) ≡ none
after_none t p h = by_next (next_place p) refl h
  where
    by_next : (o : Option (List ℕ)) → next_place p ≡ o → move_answer t o ≡ answer.None → after_first (trees_at (alone t) p) ≡ none
    by_next None e k = ap (λ q. after_first (trees_at (alone t) q)) (next_none p e)
    by_next (Some q) e k = sym (trees_at-next (alone t) p q e) ∙ no_trees t q k

-- TEXTS

-- the text of a tree before others is its own, a comma, and that of the others
canon_prefix : (u : LabelledTree) (label : List ℕ) (kids rest : Forest) → canon_trees (tree u.label u.kids (tree label kids rest)) ≡ canon u ++ 44 ∷ canon_trees (tree label kids rest)
canon_prefix u label kids rest = refl

-- the text of a tree alone is its own
canon_alone : (u : LabelledTree) → canon_trees (tree u.label u.kids none) ≡ canon u
canon_alone u = append_nil (canon u)

-- TOLLS

module _ (toll toll' : Way → List ℕ → ℕ) (less : (way : Way) (p : List ℕ) → toll' way p ≤ toll way p) where
  -- where the tolls of all ways are no greater, the toll of trees is no greater
  pub trees_less : (f : Forest) (p : List ℕ) → trees_toll toll' f p ≤ trees_toll toll f p
  trees_less none p = omega arith
  trees_less (tree label kids rest) p =
      let down = less Down p in
      let right = less Right p in
      let below = trees_less kids (child_place p) in
      let later = from_less (trees_less rest) (next_place p) in
      omega (arith, down, right, below, later)
    where
      from_less : ((q : List ℕ) → trees_toll toll' rest q ≤ trees_toll toll rest q) → (o : Option (List ℕ)) → toll_from (trees_toll toll' rest) o ≤ toll_from (trees_toll toll rest) o
      from_less more None = omega arith
      from_less more (Some q) = more q

-- the toll from a node on is that of its subtree, of the way to the right, and of what stands after it
siblings_are : (toll : Way → List ℕ → ℕ) (t : LabelledTree) (p : List ℕ) → has_place (alone t) p ≡ true
    → siblings_toll toll t p ≡ print_toll toll t p + toll Right p + toll_from (trees_toll toll (after_first (trees_at (alone t) p))) (next_place p)
siblings_are toll t p h = of (trees_at (alone t) p) h
  where
    of : (f : Forest) → is_some (first_label f) ≡ true → trees_toll toll f p ≡ toll Down p + trees_toll toll (first_kids f) (child_place p) + toll Right p + toll_from (trees_toll toll (after_first f)) (next_place p)
    of none e = cc
    of (tree label kids rest) e = refl

module _ {V W : Type 0} (m : Meaning V W) (n : V) where
  -- A NODE'S SUBTREE

  -- a way down from a node costs no more than its subtree's text
  pub down_costs : (fills fills' : ℕ) → CostsOn m n fills fills' (λ toll t p. toll Down p) → CostsOn m n fills fills' print_toll
  down_costs fills fills' cost tolls p at t one = let h = cost tolls p at t one in omega (arith, h)

  -- a node without children is printed where its label was printed
  pub prints_leaf : (m' : Meaning V W) (label before mid after : List ℕ) → ReadsLabel m n label → IsStepTo m m' Down n None → mid ≡ before ++ spelling label → after ≡ mid → PrintsTree m n before after
  prints_leaf m' label before mid after reads step text same = record {
    subtree = record { label = label; kids = none };
    text = same ∙ text ∙ ap (λ x. before ++ x) (sym (append_nil (spelling label)));
    place = λ p at t one.
        let there = reads p at t one in
        let below : first_kids (trees_at (alone t) p) ≡ none = sym (trees_at-child (alone t) p) ∙ no_trees t (child_place p) (step.place p at t one) in
        let trees = trees_of t there.0 p there.1 in
        let kids : there.0.kids ≡ none = sym (ap first_kids trees) ∙ below in
        there.1 ∙ ap Some (ap (λ l. record { label = l; kids = there.0.kids }) (sym there.2) ∙ ap (λ k. record { label = label; kids = k }) kids);
  }

  -- a node without children was printed when its label was printed
  pub opened_leaf : (m' : Meaning V W) (before after : List ℕ) → OpensTree m m' n before after None → PrintsTree m n before after
  opened_leaf m' before after o = prints_leaf m' o.label before (before ++ spelling o.label) after o.reads o.step refl (o.text ∙ append_nil (before ++ spelling o.label))

  module _ (m' : Meaning V W) (first : V) (stays : Stays m m') (step : IsStepTo m m' Down n (Some first)) where
    -- the first child stands at the place of the node's first child
    child_at : (p : List ℕ) → m.IsAt n p → (t : LabelledTree) → m.course.IsDocument t → m'.IsAt first (child_place p)
    child_at p at t one =
        let asked = (step.place p at t one).1 in
        let same : child_place p ≡ asked.0 = of (child_place p) asked.0 asked.1 in
        subst (m'.IsAt first) (sym same) asked.2
      where
        of : (x y : List ℕ) → Some x ≡ Some y → x ≡ y
        of x y e = cc

    -- a node is printed where the trees below it were printed between brackets after its label
    pub prints_node : (label before mid inner inner' after : List ℕ) → ReadsLabel m n label → mid ≡ before ++ spelling label → inner ≡ mid ++ 91 ∷ [] → PrintsTrees m' first inner inner' → after ≡ inner' ++ 93 ∷ []
        → PrintsTree m n before after
    prints_node label before mid inner inner' after reads text open' trees close = record {
      subtree = record { label = label; kids = tree trees.label trees.kids trees.rest };
      text = close ∙ ap (λ x. x ++ 93 ∷ []) (trees.text ∙ ap (λ x. x ++ below) (open' ∙ ap (λ x. x ++ 91 ∷ []) text)) ∙ bracketed before (spelling label) below;
      place = λ p at t one.
          let there = reads p at t one in
          let kids : first_kids (trees_at (alone t) p) ≡ tree trees.label trees.kids trees.rest =
          sym (trees_at-child (alone t) p) ∙ trees.place (child_place p) (child_at p at t one) t (stays.course.document t one) in
          let same : there.0.kids ≡ tree trees.label trees.kids trees.rest = sym (ap first_kids (trees_of t there.0 p there.1)) ∙ kids in
          there.1 ∙ ap Some (ap (λ l. record { label = l; kids = there.0.kids }) (sym there.2) ∙ ap (λ k. record { label = label; kids = k }) same);
    }
      where
        below : List ℕ
        below = canon_trees (tree trees.label trees.kids trees.rest)

        bracketed : (x y z : List ℕ) → (((x ++ y) ++ 91 ∷ []) ++ z) ++ 93 ∷ [] ≡ x ++ (y ++ ((91 ∷ z) ++ 93 ∷ []))
        bracketed x y z =
            append_assoc ((x ++ y) ++ 91 ∷ []) z (93 ∷ []) ∙ append_assoc (x ++ y) (91 ∷ []) (z ++ 93 ∷ []) ∙ append_assoc x y ((91 ∷ z) ++ 93 ∷ [])

    -- a node is printed where what stands below it was printed after the opening bracket
    pub opened_node : (before mid after : List ℕ) → OpensTree m m' n before mid (Some first) → PrintsBelow m' first mid after → PrintsTree m n before after
    opened_node before mid after o below = prints_node o.label before (before ++ spelling o.label) mid below.inner after o.reads refl o.text below.trees below.text

    -- a node is printed where a call printed what stands below it, if it didn't fail
    pub opened_below : (before mid after : List ℕ) (r : Result (Unit {0}) WalkFault) → OpensTree m m' n before mid (Some first) → OnOk r (PrintsBelow m' first mid after) → OnOk r (PrintsTree m n before after)
    opened_below before mid after (Ok x) o below = opened_node before mid after o below
    opened_below before mid after (Err e) o below = tt

    -- nothing is owed for the first child
    child_owes : (p : List ℕ) → m'.owes first p ≡ 0
    child_owes p = m'.walked_owes first p step.node.1

    -- the way down and the trees below cost together no more than the node's text
    pub node_costs : (fills fills' fills'' : ℕ) → CostsOn m n fills fills' (λ toll t p. toll Down p) → CostsOn m' first fills' fills'' siblings_toll → CostsOn m n fills fills'' print_toll
    node_costs fills fills' fills'' down cost tolls p at t one =
        let own = down tolls p at t one in
        let rest = cost (stays.course.tolls tolls) (child_place p) (child_at p at t one) t (stays.course.document t one) in
        let free = child_owes (child_place p) in
        let less = trees_less (place_toll m.course) (place_toll m'.course) (place_toll_less m.course m'.course stays.course) (trees_at (alone t) (child_place p)) (child_place p) in
        let same = ap (λ f. trees_toll (place_toll m.course) f (child_place p)) (trees_at-child (alone t) p) in
        omega (arith, own, rest, free, less, same)

-- a label that was read is that of a node of the document
pub read_there : {V W : Type 0} (m : Meaning V W) (n : V) (label : List ℕ) → ReadsLabel m n label → IsThere m n
read_there m n label reads p at t one = let there = reads p at t one in ap (λ o. is_some (first_label o)) (trees_of t there.0 p there.1)

-- the trees from a node on were printed up to another node, which stands at some place among the later siblings
pub record IsOnWay {V W : Type 0} (m m' : Meaning V W) (fills fills' : ℕ) (prefix : Forest) (node : V) (p : List ℕ) (t : LabelledTree) : Type 0 where
  pub here : List ℕ
  pub at : m'.IsAt node here
  pub trees : trees_at (alone t) p ≡ followed prefix (trees_at (alone t) here)
  pub cost : m.course.HasTolls → fills' + siblings_toll (place_toll m.course) t here ≤ fills + siblings_toll (place_toll m.course) t p

-- wherever the first node stands, the trees from it on were printed up to another node to which a walk led, with a comma after each
pub record ArePrinted {V W : Type 0} (m m' : Meaning V W) (fills fills' : ℕ) (before now : List ℕ) (first node : V) : Type 0 where
  pub stays : Stays m m'
  pub is_node : m'.IsNode node
  pub walked : m'.IsWalked node
  pub low : m'.height node ≤ m.height first
  pub prefix : Forest
  pub text : (label : List ℕ) (kids rest : Forest) → now ++ canon_trees (tree label kids rest) ≡ before ++ canon_trees (followed prefix (tree label kids rest))
  pub place : (p : List ℕ) → m.IsAt first p → (t : LabelledTree) → m.course.IsDocument t → IsOnWay m m' fills fills' prefix node p t

-- before any tree was printed, the trees from a node on are printed up to the node itself
pub printed_start : {V W : Type 0} (m : Meaning V W) (first : V) (fills : ℕ) (before : List ℕ) → Stays m m → m.IsNode first → m.IsWalked first → ArePrinted m m fills fills before before first first
printed_start m first fills before stays node walked = record {
  stays = stays;
  is_node = node;
  walked = walked;
  low = omega arith;
  prefix = none;
  text = λ label kids rest. refl;
  place = λ p at t one. record { here = p; at = at; trees = refl; cost = λ tolls. omega arith };
}

-- a forest followed by one tree more has a first tree
trees_after : (prefix : Forest) (u : LabelledTree) → (label : List ℕ) × (kids : Forest) × (rest : Forest) × (followed prefix (tree u.label u.kids none) ≡ tree label kids rest)
trees_after none u = (u.label, u.kids, none, refl)
trees_after (tree label kids rest) u = (label, kids, followed rest (tree u.label u.kids none), refl)

-- a step from a node, as it is seen from before a call
pub step_later : {V W : Type 0} (m m' m'' : Meaning V W) (way : Way) (n : V) (r : Option V) → Stays m m' → m.IsNode n → IsStepTo m' m'' way n r → IsStepTo m m'' way n r
step_later {V} m m' m'' way n r stays node step = record {
  node = step.node;
  place = λ p at t one. step.place p (stays.place n p at) t (stays.course.document t one);
  smaller = of way r step.smaller;
  paid = λ tolls p at. step.paid (stays.course.tolls tolls) p (stays.place n p at);
}
  where
    of : (way : Way) (r : Option V) → IfSome r (IsSmaller m' m'' way n) → IfSome r (IsSmaller m m'' way n)
    of way None h = tt
    of Down (Some c) h = let a = stays.height n node in omega (arith, a, h)
    of Right (Some c) h =
        let a = stays.height n node in
        let b = stays.left n node in
        let y = h.1 in
        (λ walked. let x = h.0 (stays.walked n walked) in omega (arith, b, x), omega (arith, a, y))

-- the text of a tree costs no more than the tree with the way after it
pub tree_costs : {V W : Type 0} (m : Meaning V W) (n : V) (fills fills' : ℕ) → CostsOn m n fills fills' print_toll → CostsOn m n fills fills' one_toll
tree_costs m n fills fills' own tolls p at t one = let a = own tolls p at t one in omega (arith, a)

-- a tree, after which nothing is owed for its node, and the way to the right of it cost together no more than both tolls
pub one_costs : {V W : Type 0} (m m' : Meaning V W) (n : V) (fills fills' fills'' : ℕ) → Stays m m' → IsPaidFor m m' n → CostsOn m n fills fills' print_toll
    → CostsOn m' n fills' fills'' (λ toll t p. toll Right p) → CostsOn m n fills fills'' one_toll
one_costs m m' n fills fills' fills'' stays paid own right tolls p at t one =
    let a = own tolls p at t one in
    let free = paid tolls p at in
    let b = right (stays.course.tolls tolls) p (stays.place n p at) t (stays.course.document t one) in
    let less = place_toll_less m.course m'.course stays.course Right p in
    omega (arith, a, free, b, less)

module _ {V W : Type 0} (m m' m3 : Meaning V W) (first node : V) (fills fills' fills3 : ℕ) (before now : List ℕ) (so : ArePrinted m m' fills fills' before now first node) (stays : Stays m' m3) (there : IsThere m' node)
    (cost : CostsOn m' node fills' fills3 one_toll) where
  -- one more tree was printed, after those from a first node up to it, where the first one stands at a place
  module _ (p : List ℕ) (at : m.IsAt first p) (t : LabelledTree) (one : m.course.IsDocument t) where
    on : IsOnWay m m' fills fills' so.prefix node p t
    on = so.place p at t one

    paid : m.course.HasTolls
        → fills3 + toll_from (trees_toll (place_toll m.course) (after_first (trees_at (alone t) on.here))) (next_place on.here) ≤ fills + siblings_toll (place_toll m.course) t p
    paid tolls =
        let own = cost (so.stays.course.tolls tolls) on.here on.at t (so.stays.course.document t one) in
        let free = m'.walked_owes node on.here so.walked in
        let so_far = on.cost tolls in
        let all = siblings_are (place_toll m.course) t on.here (there on.here on.at t (so.stays.course.document t one)) in
        let down = place_toll_less m.course m'.course so.stays.course Down on.here in
        let right = place_toll_less m.course m'.course so.stays.course Right on.here in
        let below = trees_less (place_toll m.course) (place_toll m'.course) (place_toll_less m.course m'.course so.stays.course) (first_kids (trees_at (alone t) on.here)) (child_place on.here) in
        omega (arith, own, free, so_far, all, down, right, below)

  -- the trees up to the one that was printed cost no more than all of them
  pub printed_costs : CostsOn m first fills fills3 siblings_toll
  printed_costs tolls p at t one = let h = paid p at t one tolls in omega (arith, h)

  module _ (now' : List ℕ) (tree' : PrintsTree m' node now now') where
    -- the trees at the node's place are its subtree and those after it
    own_trees : (p : List ℕ) (at : m.IsAt first p) (t : LabelledTree) (one : m.course.IsDocument t)
        → trees_at (alone t) (on p at t one).here ≡ tree tree'.subtree.label tree'.subtree.kids (after_first (trees_at (alone t) (on p at t one).here))
    own_trees p at t one = trees_of t tree'.subtree (on p at t one).here (tree'.place (on p at t one).here (on p at t one).at t (so.stays.course.document t one))

    -- where there is no next sibling, all trees from the first node on are printed
    pub printed_all : IsStepTo m' m3 Right node None → PrintsTrees m first before now'
    printed_all step =
        let u = tree'.subtree in
        let all = trees_after so.prefix tree'.subtree in record {
          label = all.0;
          kids = all.1;
          rest = all.2;
          text = tree'.text ∙ ap (λ x. now ++ x) (sym (canon_alone tree'.subtree)) ∙ so.text tree'.subtree.label tree'.subtree.kids none ∙ ap (λ f. before ++ canon_trees f) all.3;
          place = λ p at t one.
              let here = (on p at t one).here in
              let last : after_first (trees_at (alone t) (on p at t one).here) ≡ none =
              after_none t (on p at t one).here (step.place (on p at t one).here (on p at t one).at t (so.stays.course.document t one)) in
              (on p at t one).trees ∙ ap (followed so.prefix) (own_trees p at t one ∙ ap (tree tree'.subtree.label tree'.subtree.kids) last) ∙ all.3;
        }

    -- where there is a next sibling, and a comma was put after the text, the trees are printed up to that sibling
    pub printed_more : (next : V) → IsStepTo m' m3 Right node (Some next) → (now'' : List ℕ) → now'' ≡ now' ++ 44 ∷ [] → ArePrinted m m3 fills fills3 before now'' first next
    printed_more next step now'' comma =
        record {
          stays = stays_twice so.stays stays;
          is_node = step.node.0;
          walked = step.node.1;
          low = let a = so.low in let c = step.smaller.1 in omega (arith, a, c);
          prefix = followed so.prefix (tree tree'.subtree.label tree'.subtree.kids none);
          text = λ label kids rest.
              ap (λ x. x ++ canon_trees (tree label kids rest)) (comma ∙ ap (λ x. x ++ 44 ∷ []) tree'.text)
              ∙ joined now (canon tree'.subtree) (canon_trees (tree label kids rest))
              ∙ ap (λ x. now ++ x) (sym (canon_prefix tree'.subtree label kids rest))
              ∙ so.text tree'.subtree.label tree'.subtree.kids (tree label kids rest)
              ∙ ap (λ f. before ++ canon_trees f) (sym (followed_assoc so.prefix (tree tree'.subtree.label tree'.subtree.kids none) (tree label kids rest)));
          place = λ p at t one.
              let moved = (step.place (on p at t one).here (on p at t one).at t (so.stays.course.document t one)).1 in
              let after_is : after_first (trees_at (alone t) (on p at t one).here) ≡ trees_at (alone t) moved.0 = sym (trees_at-next (alone t) (on p at t one).here moved.0 moved.1) in
              record {
                here = moved.0;
                at = moved.2;
                trees = (on p at t one).trees ∙ ap (followed so.prefix) (own_trees p at t one ∙ ap (tree tree'.subtree.label tree'.subtree.kids) after_is)
                    ∙ sym (followed_assoc so.prefix (tree tree'.subtree.label tree'.subtree.kids none) (trees_at (alone t) moved.0));
                cost = λ tolls.
                    let h = paid p at t one tolls in
                    let e = ap (toll_from (trees_toll (place_toll m.course) (after_first (trees_at (alone t) (on p at t one).here)))) moved.1 in
                    let k = ap (λ f. trees_toll (place_toll m.course) f moved.0) after_is in
                    omega (arith, h, e, k);
              };
        }
      where
        joined : (x y z : List ℕ) → ((x ++ y) ++ 44 ∷ []) ++ z ≡ x ++ (y ++ 44 ∷ z)
        joined x y z = append_assoc (x ++ y) (44 ∷ []) z ∙ append_assoc x y (44 ∷ z)

-- MARKS

-- the mark of a first child is an opening bracket
pub opening_some : {V : Type 0} (r : Option V) → is_some r ≡ true → opening r ≡ 91 ∷ []
opening_some None e = cc
opening_some (Some n) e = refl

-- without a first child no mark is put
pub opening_none : {V : Type 0} (r : Option V) → is_some r ≡ false → opening r ≡ []
opening_none None e = refl
opening_none (Some n) e = cc

-- the mark of a next sibling is a comma
pub closing_some : {V : Type 0} (r : Option V) → is_some r ≡ true → closing r ≡ 44 ∷ []
closing_some None e = cc
closing_some (Some n) e = refl

-- without a next sibling the mark is a closing bracket
pub closing_none : {V : Type 0} (r : Option V) → is_some r ≡ false → closing r ≡ 93 ∷ []
closing_none None e = refl
closing_none (Some n) e = cc
