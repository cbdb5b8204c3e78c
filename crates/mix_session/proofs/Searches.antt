-- A search among later siblings, one after another.
use Rattle.std.proofs.Common.{◌≡◌, ◌∙◌, ◌+◌, ◌≤◌, ℕ, Bool, true, false, cond, List, Option, Some, None, refl, ap, sym, subst, arith}
use Rattle.std.specs.Prelude.{is_some}
use Rattle.std.specs.Str.{bytes_eq}
use Rattle.mix_tree.specs.Forest.{Forest, none, tree, LabelledTree, alone, first_tree, first_label, after_first}
use Rattle.mix_tree.specs.Place.{trees_at, tree_at, has_place, next_place}
use Rattle.mix_script.specs.Transcript.{move_answer, first_labelled, selected}
use Rattle.mix_script.specs.declared.answer.Answer.TheVariants as answer
use Rattle.mix_script.specs.declared.step.Way.{Way}
use Rattle.mix_script.specs.declared.step.Way.TheVariants.{Right}
use Rattle.mix_session.specs.declared.walker.Found.{Found}
use Rattle.mix_session.specs.declared.walker.Found.TheVariants as found
use Rattle.mix_session.specs.Meaning.{Meaning, Stays}
use Rattle.mix_session.specs.Seeking.{IfNode, UnlessFault, IsReached, IsAsked, IsMoved, IsNext, IsSelected, ReadsLabel}
use Rattle.mix_session.specs.Searches.{labelled_from, labelled_at, ahead_from, ahead_at, IsFirst}
use Rattle.mix_session.specs.Printing.{place_toll, CostsOn, IsPaidFor}
use Rattle.mix_session.specs.Tolls.{toll_from, search_toll, select_toll}
use Rattle.mix_session.proofs.Walking.{stays_twice, place_toll_less, cause_before, still_paid, trees_at-next, unless_fault}

-- the place of the first with a label of the node at an optional place and its later siblings
abbrev pub labelled_on : LabelledTree → List ℕ → Option (List ℕ) → Option (List ℕ)
labelled_on t label None = None
labelled_on t label (Some q) = labelled_at t label q

-- what a search for a label costs from an optional place on
abbrev pub ahead_on : (Way → List ℕ → ℕ) → LabelledTree → List ℕ → Option (List ℕ) → ℕ
ahead_on toll t label None = 0
ahead_on toll t label (Some q) = ahead_at toll t label q

-- the first later sibling with a label is the first one from the next sibling on
pub selected_on : (t : LabelledTree) (label p : List ℕ) → selected t label p ≡ labelled_on t label (next_place p)
selected_on t label p = by_next (next_place p) refl
  where
    nowhere : (f : Forest) → next_place p ≡ None → first_labelled label f p ≡ None
    nowhere none e = refl
    nowhere (tree other kids rest) e = rw e (either (bytes_eq other label))
      where
        either : (b : Bool) → ◌≡◌ {A = Option (List ℕ)} (cond b None None) None
        either true = refl
        either false = refl

    there : (f : Forest) (q : List ℕ) → next_place p ≡ Some q → first_labelled label f p ≡ labelled_from label f q
    there none q e = refl
    there (tree other kids rest) q e = rw e refl

    by_next : (o : Option (List ℕ)) → next_place p ≡ o → selected t label p ≡ labelled_on t label o
    by_next None e = nowhere (after_first (trees_at (alone t) p)) e
    by_next (Some q) e = there (after_first (trees_at (alone t) p)) q e ∙ ap (λ f. labelled_from label f q) (sym (trees_at-next (alone t) p q e))

-- the toll of a search is that of the way to the next sibling and what the search costs from there on
pub toll_on : (toll : Way → List ℕ → ℕ) (t : LabelledTree) (label p : List ℕ) → select_toll toll t label p ≡ toll Right p + ahead_on toll t label (next_place p)
toll_on toll t label p = by_next (next_place p) refl
  where
    nowhere : (f : Forest) → next_place p ≡ None → search_toll toll label f p ≡ toll Right p + 0
    nowhere none e = omega arith
    nowhere (tree other kids rest) e = rw e (either (bytes_eq other label))
      where
        either : (b : Bool) → toll Right p + cond b 0 0 ≡ toll Right p + 0
        either true = refl
        either false = refl

    there : (f : Forest) (q : List ℕ) → next_place p ≡ Some q → search_toll toll label f p ≡ toll Right p + ahead_from toll label f q
    there none q e = omega arith
    there (tree other kids rest) q e = rw e refl

    by_next : (o : Option (List ℕ)) → next_place p ≡ o → select_toll toll t label p ≡ toll Right p + ahead_on toll t label o
    by_next None e = nowhere (after_first (trees_at (alone t) p)) e
    by_next (Some q) e = there (after_first (trees_at (alone t) p)) q e ∙ ap (λ f. toll Right p + ahead_from toll label f q) (sym (trees_at-next (alone t) p q e))

-- where calls have tolls, a step to the right asked at most as many fills as are owed for its node and the toll of its place says
abbrev pub AsksRight : {V W : Type 0} → Meaning V W → V → ℕ → ℕ → Type 0
AsksRight m n fills fills' = m.course.HasTolls → (p : List ℕ) → m.IsAt n p → fills' ≤ fills + (m.owes n p + place_toll m.course Right p)

-- a search from a node at a place has come to another node
pub record IsOnWay {V W : Type 0} (m m' : Meaning V W) (fills fills' : ℕ) (label : List ℕ) (first node : V) (p : List ℕ) (t : LabelledTree) : Type 0 where
  pub here : List ℕ
  pub at : m'.IsAt node here
  pub same : labelled_at t label p ≡ labelled_at t label here
  pub cost : m.course.HasTolls → fills' + ahead_at (place_toll m.course) t label here ≤ fills + ahead_at (place_toll m.course) t label p

-- wherever it began, a search from a node has come to another node to which a walk led
pub record IsSought {V W : Type 0} (m m' : Meaning V W) (fills fills' : ℕ) (label : List ℕ) (first node : V) : Type 0 where
  pub stays : Stays m m'
  pub is_node : m'.IsNode node
  pub walked : m'.IsWalked node
  pub place : (p : List ℕ) → m.IsAt first p → (t : LabelledTree) → m.course.IsDocument t → IsOnWay m m' fills fills' label first node p t

-- the first tree of a forest has a label or has another, as told
abbrev HasLabel : List ℕ → Bool → Forest → Type 0
HasLabel label b none = ⊥
HasLabel label b (tree other kids rest) = bytes_eq other label ≡ b

-- a label that was read of a node is that of the trees at its place
label_there : (t : LabelledTree) (q label read : List ℕ) (b : Bool) (u : LabelledTree) → tree_at t q ≡ Some u → read ≡ u.label → bytes_eq read label ≡ b → HasLabel label b (trees_at (alone t) q)
label_there t q label read b u at is h = of (trees_at (alone t) q) at
  where
    of : (f : Forest) → first_tree f ≡ Some u → HasLabel label b f
    of none e = cc
    of (tree other kids rest) e = let same : other ≡ u.label = ap label_of e in ap (λ l. bytes_eq l label) (same ∙ sym is) ∙ h
      where
        label_of : Option LabelledTree → List ℕ
        label_of None = other
        label_of (Some x) = x.label

-- where the first tree has the label, a search from it on finds it
own_from : (label : List ℕ) (f : Forest) (x : List ℕ) → HasLabel label true f → labelled_from label f x ≡ Some x
own_from label none x h = absurd h
own_from label (tree other kids rest) x h = ap (λ b. cond b (Some x) (first_labelled label rest x)) h

-- where the first tree has another label, a search goes on after it
other_from : (label : List ℕ) (f : Forest) (x : List ℕ) → HasLabel label false f → labelled_from label f x ≡ first_labelled label (after_first f) x
other_from label none x h = absurd h
other_from label (tree other kids rest) x h = ap (λ b. cond b (Some x) (first_labelled label rest x)) h

-- where the first tree has another label, a search costs what it costs after that tree
other_toll : (toll : Way → List ℕ → ℕ) (label : List ℕ) (f : Forest) (x : List ℕ) → HasLabel label false f → ahead_from toll label f x ≡ search_toll toll label (after_first f) x
other_toll toll label none x h = absurd h
other_toll toll label (tree other kids rest) x h = ap (λ b. cond b 0 (search_toll toll label rest x)) h

-- where the tolls of all ways are no greater, the toll of a search is no greater
module _ (toll toll' : Way → List ℕ → ℕ) (less : (way : Way) (p : List ℕ) → toll' way p ≤ toll way p) where
  -- where the tolls of all ways are no greater, the toll of a search among trees is no greater
  pub search_less : (label : List ℕ) (f : Forest) (p : List ℕ) → search_toll toll' label f p ≤ search_toll toll label f p
  search_less label none p = less Right p
  search_less label (tree other kids rest) p = let here = less Right p in let rest_less = either (search_less label rest) (bytes_eq other label) (next_place p) in omega (arith, here, rest_less)
    where
      either : ((q : List ℕ) → search_toll toll' label rest q ≤ search_toll toll label rest q) → (b : Bool) (o : Option (List ℕ))
          → cond b 0 (toll_from (search_toll toll' label rest) o) ≤ cond b 0 (toll_from (search_toll toll label rest) o)
      either more true o = omega arith
      either more false None = omega arith
      either more false (Some q) = more q

  -- where the tolls of all ways are no greater, the toll of a search from a node of a tree on is no greater
  pub ahead_less : (t : LabelledTree) (label p : List ℕ) → ahead_at toll' t label p ≤ ahead_at toll t label p
  ahead_less t label p = of (trees_at (alone t) p)
    where
      of : (f : Forest) → ahead_from toll' label f p ≤ ahead_from toll label f p
      of none = omega arith
      of (tree other kids rest) = either (bytes_eq other label)
        where
          either : (b : Bool) → cond b 0 (search_toll toll' label rest p) ≤ cond b 0 (search_toll toll label rest p)
          either true = omega arith
          either false = search_less label rest p

-- where there is no place, a search finds none
nowhere : (t : LabelledTree) (label : List ℕ) (goal : Option (List ℕ)) → move_answer t goal ≡ answer.None → labelled_on t label goal ≡ None
nowhere t label None h = refl
nowhere t label (Some q) h = empty (trees_at (alone t) q) refl
  where
    empty : (f : Forest) → trees_at (alone t) q ≡ f → labelled_from label f q ≡ None
    empty none e = refl
    empty (tree other kids rest) e = let z : answer.Node ≡ answer.None = ap (λ g. cond (is_some (first_label g)) answer.Node answer.None) (sym e) ∙ h in cc

-- where a subtree is at a place, a move there finds a node
node_there : (t u : LabelledTree) (q : List ℕ) → tree_at t q ≡ Some u → move_answer t (Some q) ≡ answer.Node
node_there t u q e = of (trees_at (alone t) q) refl e
  where
    of : (f : Forest) → trees_at (alone t) q ≡ f → first_tree f ≡ Some u → cond (has_place (alone t) q) answer.Node answer.None ≡ answer.Node
    of none k h = cc
    of (tree other kids rest) k h = ap (λ g. cond (is_some (first_label g)) answer.Node answer.None) k

module _ {V W : Type 0} (m : Meaning V W) (label : List ℕ) (first : V) where
  -- a search from a node has come to that node before any step
  pub sought_start : (fills : ℕ) → Stays m m → m.IsNode first → m.IsWalked first → IsSought m m fills fills label first first
  sought_start fills stays node walked = record {
    stays = stays;
    is_node = node;
    walked = walked;
    place = λ p at t one. record { here = p; at = at; same = refl; cost = λ tolls. omega arith };
  }

  module _ (m' : Meaning V W) (fills fills' : ℕ) (node : V) (so : IsSought m m' fills fills' label first node) (read : List ℕ) (reads : ReadsLabel m' node read) where
    -- a search that has come to a node costs so far no more than a whole one
    pub sought_costs : CostsOn m first fills fills' (λ toll t p. ahead_at toll t label p)
    sought_costs tolls p at t one = let cost = (so.place p at t one).cost tolls in omega (arith, cost)

    -- where the node that a search has come to has the label, the search found it
    pub sought_found : (before after : ℕ → ℕ) → bytes_eq read label ≡ true → IsFirst m m' before after label first (found.Node node)
    sought_found before after same = record {
      cause = tt;
      node = (so.is_node, so.walked);
      place = λ p at t one.
          let on = so.place p at t one in
          let there = reads on.here on.at t (so.stays.course.document t one) in
          let is : labelled_at t label p ≡ Some on.here =
          on.same ∙ own_from label (trees_at (alone t) on.here) on.here (label_there t on.here label read true there.0 there.1 there.2 same) in
          subst (λ g. IsMoved m'.IsAt t g (found.Node node)) (sym is) (node_there t there.0 on.here there.1, (on.here, refl, on.at));
    }

    module _ (m'' : Meaning V W) (fills'' : ℕ) (other : bytes_eq read label ≡ false) (stays : Stays m' m'') (asks : AsksRight m' node fills' fills'') where
      -- a search has come to a node with another label, and the way to the next sibling was paid for
      module _ (p : List ℕ) (at : m.IsAt first p) (t : LabelledTree) (one : m.course.IsDocument t) where
        on : IsOnWay m m' fills fills' label first node p t
        on = so.place p at t one

        differs : HasLabel label false (trees_at (alone t) on.here)
        differs = let there = reads on.here on.at t (so.stays.course.document t one) in label_there t on.here label read false there.0 there.1 there.2 other

        later : labelled_at t label p ≡ labelled_on t label (next_place on.here)
        later = on.same ∙ other_from label (trees_at (alone t) on.here) on.here differs ∙ selected_on t label on.here

        paid : m.course.HasTolls → fills'' + ahead_on (place_toll m.course) t label (next_place on.here) ≤ fills + ahead_at (place_toll m.course) t label p
        paid tolls =
            let cost = on.cost tolls in
            let step = asks (so.stays.course.tolls tolls) on.here on.at in
            let free = m'.walked_owes node on.here so.walked in
            let less = place_toll_less m.course m'.course so.stays.course Right on.here in
            let ahead : ahead_at (place_toll m.course) t label on.here ≡ place_toll m.course Right on.here + ahead_on (place_toll m.course) t label (next_place on.here) =
            other_toll (place_toll m.course) label (trees_at (alone t) on.here) on.here differs ∙ toll_on (place_toll m.course) t label on.here in
            omega (arith, cost, step, free, less, ahead)

      pub more_costs : CostsOn m first fills fills'' (λ toll t p. ahead_at toll t label p)
      more_costs tolls p at t one = let h = paid p at t one tolls in omega (arith, h)

      module _ (before mid after : ℕ → ℕ) (rises : (s : ℕ) → before s ≤ mid s) (r : Found V) (next : IsNext m' m'' mid after Right node r) where
        -- the next sibling was reached by a walk
        reached : (q : V) → r ≡ found.Node q → IsReached m'' q
        reached q is = subst (IfNode (IsReached m'')) is next.node

        -- a search goes on at the next sibling of a node with another label
        pub sought_more : (q : V) → r ≡ found.Node q → IsSought m m'' fills fills'' label first q
        sought_more q is = record {
          stays = stays_twice so.stays stays;
          is_node = (reached q is).0;
          walked = (reached q is).1;
          place = λ p at t one.
              let moved : IsMoved m''.IsAt t (next_place (on p at t one).here) (found.Node q) =
              subst (IsMoved m''.IsAt t (next_place (on p at t one).here)) is (next.place (on p at t one).here (on p at t one).at t (so.stays.course.document t one)) in
              record {
                here = moved.1.0;
                at = moved.1.2;
                same = later p at t one ∙ ap (labelled_on t label) moved.1.1;
                cost = λ tolls. let h = paid p at t one tolls in let e = ap (ahead_on (place_toll m.course) t label) moved.1.1 in omega (arith, h, e);
              };
        }

        -- where there is no later sibling, a search finds none
        pub sought_none : r ≡ found.None → IsFirst m m'' before after label first found.None
        sought_none is = record {
          cause = tt;
          node = tt;
          place = λ p at t one.
              let moved : move_answer t (next_place (on p at t one).here) ≡ answer.None =
              subst (IsMoved m''.IsAt t (next_place (on p at t one).here)) is (next.place (on p at t one).here (on p at t one).at t (so.stays.course.document t one)) in
              ap (move_answer t) (later p at t one ∙ nowhere t label (next_place (on p at t one).here) moved);
        }

-- the step to the next sibling costs no more than a search
pub start_costs : {V W : Type 0} (m : Meaning V W) (label : List ℕ) (n : V) (fills fills' : ℕ) → AsksRight m n fills fills'
    → CostsOn m n fills fills' (λ toll t p. select_toll toll t label p)
start_costs m label n fills fills' asks tolls p at t one =
    let paid = asks tolls p at in
    let all = toll_on (place_toll m.course) t label p in omega (arith, paid, all)

-- a search among the later siblings of a node, which begins with a step to the next one
module _ {V W : Type 0} (m m' : Meaning V W) (label : List ℕ) (n : V) (before mid : ℕ → ℕ) (fills fills' : ℕ) (stays : Stays m m') (asks : AsksRight m n fills fills')
    (r : Found V) (next : IsNext m m' before mid Right n r) where
  -- where there is no next sibling, none of the later siblings is found
  pub select_none : r ≡ found.None → IsSelected m m' before mid label n found.None
  select_none is = record {
    cause = tt;
    node = tt;
    place = λ p at t one.
        let moved : move_answer t (next_place p) ≡ answer.None = subst (IsMoved m'.IsAt t (next_place p)) is (next.place p at t one) in
        ap (move_answer t) (selected_on t label p ∙ nowhere t label (next_place p) moved);
    paid = λ tolls p at. subst (UnlessFault (m'.owes n p ≡ 0)) is (next.paid tolls p at);
  }

  module _ (q : V) (is : r ≡ found.Node q) where
    -- the next sibling stands at the next place
    module _ (p : List ℕ) (at : m.IsAt n p) (t : LabelledTree) (one : m.course.IsDocument t) where
      there : IsAsked m'.IsAt (next_place p) q
      there = (subst (IsMoved m'.IsAt t (next_place p)) is (next.place p at t one)).1

    -- once the next sibling was found, nothing is owed for the node
    started_paid : IsPaidFor m m' n
    started_paid tolls p at = subst (UnlessFault (m'.owes n p ≡ 0)) is (next.paid tolls p at)

    -- what is found from the next sibling on is what was searched among the later siblings
    pub select_found : (m'' : Meaning V W) (after : ℕ → ℕ) → Stays m' m'' → ((s : ℕ) → before s ≤ mid s) → (r' : Found V) → IsFirst m' m'' mid after label q r' → IsSelected m m'' before after label n r'
    select_found m'' after later rises r' found = record {
      cause = cause_before m.course m'.course stays.course before mid after rises r' found.cause;
      node = found.node;
      place = λ p at t one.
          let same : selected t label p ≡ labelled_at t label (there p at t one).0 = selected_on t label p ∙ ap (labelled_on t label) (there p at t one).1 in
          subst (λ g. IsMoved m''.IsAt t g r') (sym same) (found.place (there p at t one).0 (there p at t one).2 t (stays.course.document t one));
      paid = λ tolls p at. unless_fault (m''.owes n p ≡ 0) r' (still_paid stays later n started_paid tolls p at);
    }

    -- a search among later siblings costs what the way to the next one and the search from it cost
    pub select_costs : (fills'' : ℕ) → CostsOn m' q fills' fills'' (λ toll t p. ahead_at toll t label p) → CostsOn m n fills fills'' (λ toll t p. select_toll toll t label p)
    select_costs fills'' cost tolls p at t one =
        let paid = asks tolls p at in
        let next_is : IsReached m' q = subst (IfNode (IsReached m')) is next.node in
        let free = m'.walked_owes q (there p at t one).0 next_is.1 in
        let all = toll_on (place_toll m.course) t label p in
        let e = ap (ahead_on (place_toll m.course) t label) (there p at t one).1 in
        let rest = cost (stays.course.tolls tolls) (there p at t one).0 (there p at t one).2 t (stays.course.document t one) in
        let less = ahead_less (place_toll m.course) (place_toll m'.course) (place_toll_less m.course m'.course stays.course) t label (there p at t one).0 in
        omega (arith, paid, free, all, e, rest, less)
