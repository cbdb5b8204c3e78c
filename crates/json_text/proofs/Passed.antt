-- The members of a list of JSON, some of which were read and whose trees were laid.
use Rattle.std.proofs.Common.{◌≡◌, ◌∙◌, List, ◌++◌, Option, Some, None, refl, sym, ap, append_assoc}
use Rattle.mix_tree.specs.Forest.{Forest, none, tree, LabelledTree, alone, followed}
use Rattle.mix_tree.proofs.Forests.{followed-none, followed_assoc}
use Rattle.document_store.specs.Laid.{LaidNode, laid}
use Rattle.document_store.proofs.Laying.{laid-followed}
use Rattle.json.specs.Token.{Token}
use Rattle.json.specs.Json.{parse_map}
use Rattle.json.proofs.Trees.{none_before}

-- the first members of a list were read and their trees laid after old nodes, and what is left gives the others
pub record Passed {A : Type 0} (trees : A → Forest) (whole next : Option (A × List Token)) (old new : List LaidNode) : Type 0 where
  pub after : A → A
  pub before : Forest
  pub trees_are : (a : A) → trees (after a) ≡ followed before (trees a)
  pub whole_is : whole ≡ parse_map after next
  pub nodes_are : new ≡ laid before ++ old

-- no member was read
pub none_passed : {A : Type 0} (trees : A → Forest) (whole : Option (A × List Token)) (old : List LaidNode) → Passed trees whole whole old old
none_passed trees whole old = record { after = λ a. a; before = none; trees_are = λ a. refl; whole_is = none_before whole; nodes_are = refl }

-- of what was read, one function after another is applied to the value
mapped_twice : {A B C : Type 0} (f : B → C) (g : A → B) (r : Option (A × List Token)) → parse_map f (parse_map g r) ≡ parse_map (λ a. f (g a)) r
mapped_twice f g None = refl
mapped_twice f g (Some p) = refl

module _ {A : Type 0} {trees : A → Forest} {whole next : Option (A × List Token)} {old new : List LaidNode} (p : Passed trees whole next old new) where
  -- one member more was read and its tree laid
  pub one_passed : (put : A → A) (t : LabelledTree) (others : Option (A × List Token)) (newer : List LaidNode) → next ≡ parse_map put others
      → ((a : A) → trees (put a) ≡ tree t.label t.kids (trees a)) → newer ≡ laid (alone t) ++ new → Passed trees whole others old newer
  one_passed put t others newer e shown n = record {
    after = λ a. p.after (put a);
    before = followed p.before (alone t);
    trees_are = λ a. p.trees_are (put a) ∙ ap (followed p.before) (shown a) ∙ sym (followed_assoc p.before (alone t) (trees a));
    whole_is = p.whole_is ∙ ap (parse_map p.after) e ∙ mapped_twice p.after put others;
    nodes_are = n ∙ ap (λ ns. laid (alone t) ++ ns) p.nodes_are ∙ sym (append_assoc (laid (alone t)) (laid p.before) old) ∙ ap (λ ns. ns ++ old) (sym (laid-followed p.before (alone t)));
  }

  -- where the list ends, its trees are laid
  pub all_passed : (last : A) (rest : List Token) → next ≡ Some (last, rest) → trees last ≡ none → (a : A) × (whole ≡ Some (a, rest)) × (new ≡ laid (trees a) ++ old)
  all_passed last rest e ends =
      let laid_are : trees (p.after last) ≡ p.before = p.trees_are last ∙ ap (followed p.before) ends ∙ followed-none p.before in
      (p.after last, p.whole_is ∙ ap (parse_map p.after) e, p.nodes_are ∙ ap (λ f. laid f ++ old) (sym laid_are))

  -- where what is left is no list, the whole is none
  pub none_left : next ≡ None → whole ≡ None
  none_left e = p.whole_is ∙ ap (parse_map p.after) e
