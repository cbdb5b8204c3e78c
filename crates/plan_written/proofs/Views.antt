-- What the text of a view says of its rule: its paths, names and labels are written, and its variables have names, all different.
use Rattle.std.proofs.Common.{◌≡◌, ◌+◌, ℕ, false, IsTrue, List, [], ◌∷◌, ◌++◌, Option, Ok, ap, sym, subst, arith, map, length, append_assoc}
use Rattle.std.specs.List.{AllByRecursion}
use Rattle.std.specs.Str.{IsUtf8}
use Rattle.mix_base.proofs.Firsts.{each_both, each_snoc}
use Rattle.mix_base.proofs.Utf8.{utf8_split}
use Rattle.mix_words.specs.Words.{is_name}
use Rattle.xmas_tokens.specs.Lexical.{IsBlanks, IsVar}
use Rattle.xmas_tokens.specs.Tokens.{op_text}
use Rattle.xmas_text.specs.Groups.{GroupForm}
use Rattle.xmas_text.specs.Grammar.{Key, node, label, Items, nothing, variable, literal, element, Operand, a_variable, a_text, Cond, source, walk, compare, Conds, one, also, Rule, IsItemGap, AreItems, IsOperand, IsCond, AreConds, IsRule, key_text, group_text, items_text, operand_text, cond_text, conds_text}
use Rattle.xmas_text.specs.Elements.{contents_of}
use Rattle.xmas_text.specs.Parsed.{RuleForm, shown_at, items_at, operand_at, cond_at, conds_at, template_place, conds_place}
use Rattle.xmas_text.specs.Results as texts
use Rattle.xmas_text.specs.declared.cond.CondText.{CondText}
use Rattle.xmas_text.specs.declared.cond.CondText.TheVariants as condition
use Rattle.xmas_text.specs.declared.cond.OperandText.{OperandText}
use Rattle.xmas_text.specs.declared.cond.OperandText.TheVariants as operand
use Rattle.xmas_text.specs.declared.element.ItemText.{ItemText}
use Rattle.xmas_text.specs.declared.element.ItemText.TheVariants as item
use Rattle.xmas_rule.specs.Conditions.{binders, comparisons}
use Rattle.xmas_rule.specs.Items as items
use Rattle.xmas_rule.specs.Rules.{RuleValue, IsAccepted}
use Rattle.xmas_read.specs.Results.{Spells}
use Rattle.xmas_read.specs.Refusals.{is_nested, has_many, has_path, checked}
use Rattle.xmas_read.specs.Tree.{Tree, form_of_tree, bound_names}
use Rattle.xmas_read.specs.Value.{path_value, items_value, operand_value, cond_value, rule_value}
use Rattle.xmas_read.proofs.Acceptance.{no_refusal, accepted_of}
use Rattle.xmas_read.proofs.Bodies.{bound_apart}
use Rattle.xmas_read.proofs.CleanPaths.{KeptCond, KeptConds, IsShort, after_blanks, gap_blanks, around_gap, rule_parts, conds_kept}
use Rattle.xmas_read.proofs.CleanText.{then_items, value_push}
use Rattle.xmas_read.proofs.CleanUtf8.{template_items}
use Rattle.xmas_read.proofs.NamePlaces.{AreDifferent}
use Rattle.xmas_read.proofs.Unrefused.{any_none, unrefused}
use Rattle.plan_written.proofs.Bodies.{IsWrittenBinder, IsWrittenRule}
use Rattle.plan_written.proofs.Paths.{path_written, around_blanks, label_within, var_is_name}
use Rattle.plan_written.proofs.Templates.{AreWrittenItems}
use Rattle.plan_written.proofs.Trees.{IsWrittenPath, IsWrittenOperand, IsWrittenTest}

-- ITEMS

-- written items with written items after them are written
then_written : (a b : items.Items) → AreWrittenItems a → AreWrittenItems b → AreWrittenItems (then_items a b)
then_written items.done b h k = k
then_written (items.literal l rest) b h k = (h.0, then_written rest b h.1 k)
then_written (items.variable s v own rest) b h k = then_written rest b h k
then_written (items.element l inside own rest) b h k = (h.0, h.1, then_written rest b h.2 k)

-- the value of items with one more is written, where theirs is and that of the one
push_written : (names : List (List ℕ)) (is : List ItemText) (i : ItemText) → AreWrittenItems (items_value names (contents_of is)) → AreWrittenItems (items_value names (contents_of (i ∷ [])))
    → AreWrittenItems (items_value names (contents_of (is ++ i ∷ [])))
push_written names is i h k = subst AreWrittenItems (sym (value_push names is i)) (then_written (items_value names (contents_of is)) (items_value names (contents_of (i ∷ []))) h k)

-- the value of an item of a variable has no label, and so is written
shown_written : (names : List (List ℕ)) (n : ℕ) (k : Key) (e : Option GroupForm) → AreWrittenItems (items_value names (contents_of (shown_at n k e ∷ [])))
shown_written names n (node v) e = tt
shown_written names n (label g v) e = tt

-- a gap before an item is of blanks
item_blanks : (xs : Items) (g : List ℕ) → IsItemGap xs g → IsBlanks g
item_blanks nothing g h = h
item_blanks (variable w f k e) g h = gap_blanks g h
item_blanks (literal w f ps) g h = gap_blanks g h
item_blanks (element w f name inside b close e) g h = gap_blanks g h

-- in a UTF-8 text the items before one that shows a variable are UTF-8
shown_prefix : (xs : Items) (g y : List ℕ) (k : Key) → IsItemGap xs g → IsUtf8 (items_text xs ++ (g ++ (key_text k ++ y))) → IsUtf8 (items_text xs)
shown_prefix xs g y (node v) h u = (around_blanks (items_text xs) g (v ++ y) 36 (item_blanks xs g h) (omega arith) u).0
shown_prefix xs g y (label f v) h u = (around_blanks (items_text xs) g _ 108 (item_blanks xs g h) (omega arith) u).0

-- the value of items of a UTF-8 text is written
items_written : (names : List (List ℕ)) (n : ℕ) (xs : Items) → AreItems xs → IsUtf8 (items_text xs) → AreWrittenItems (items_value names (contents_of (items_at n xs)))
items_written names n nothing h u = tt
items_written names n (variable w g k e) h u =
    push_written names (items_at n w) _ (items_written names n w h.0 (shown_prefix w g (group_text e) k h.1 u)) (shown_written names _ k _)
items_written names n (literal w g ps) h u =
    let p = around_blanks (items_text w) g _ 34 (item_blanks w g h.1) (omega arith) u in
    push_written names (items_at n w) _ (items_written names n w h.0 p.0) (label_within (items_text w) g ps h.2 u, tt)
items_written names n (element w g name inside b close e) h u =
    let end = 47 ∷ (close ++ 62 ∷ group_text e) in
    let p = around_blanks (items_text w) g (name ++ 62 ∷ (items_text inside ++ (b ++ 60 ∷ end))) 60 (item_blanks w g h.1) (omega arith) u in
    let q = utf8_split name (items_text inside ++ (b ++ 60 ∷ end)) 62 (omega arith) p.1 in
    let r = around_blanks (items_text inside) b end 60 h.4 (omega arith) q.1 in
    push_written names (items_at n w) _ (items_written names n w h.0 p.0) (h.2, items_written names (n + length (items_text w) + length g + 1 + length name + 1) inside h.3 r.0, tt)

-- CONDITIONS

-- what is compared with is a variable, or a label in UTF-8, in the tree of a text
abbrev IsWrittenSide : OperandText → Type 0
IsWrittenSide (operand.Var v) = Unit {0}
IsWrittenSide (operand.Text l) = IsUtf8 l

-- a condition in the tree of a text, of which the path or the label is written, and the variable that it binds has a name
abbrev IsWrittenCond : CondText → Type 0
IsWrittenCond (condition.FromSource at from path var) = IsWrittenPath (path_value path) × IsVar var.name
IsWrittenCond (condition.FromVar start path var) = IsWrittenPath (path_value path) × IsVar var.name
IsWrittenCond (condition.Compare left op right) = IsWrittenSide right

-- what is compared with in a UTF-8 text is written in the tree
side_written : (n : ℕ) (before gap : List ℕ) (a : Operand) → IsOperand a → IsUtf8 (before ++ (gap ++ operand_text a)) → IsWrittenSide (operand_at n a)
side_written n before gap (a_variable v) h u = tt
side_written n before gap (a_text ps) h u = label_within before gap ps h u

-- a condition of a UTF-8 text is written in the tree
cond_written : (n : ℕ) (c : Cond) → IsCond c → IsUtf8 (cond_text c) → KeptCond c → IsWrittenCond (cond_at n c)
cond_written n (source name g p b v) h u k = (path_written p k, h.4)
cond_written n (walk start g p b v) h u k = (path_written p k, h.4)
cond_written n (compare v g o b a) h u k = side_written _ (36 ∷ (v ++ (g ++ op_text o))) b a h.3 (subst IsUtf8 (regroup v g (op_text o) b (operand_text a)) u)
  where
    regroup : (a b c d e : List ℕ) → 36 ∷ (a ++ (b ++ (c ++ (d ++ e)))) ≡ 36 ∷ (a ++ (b ++ c)) ++ (d ++ e)
    regroup a b c d e = simp append_assoc

-- the conditions of a UTF-8 text are written in the tree
conds_written : (n : ℕ) (cs : Conds) → AreConds cs → IsUtf8 (conds_text cs) → KeptConds cs → AllByRecursion IsWrittenCond (conds_at n cs)
conds_written n (one g c) h u k = (cond_written _ c h.1 (after_blanks g (cond_text c) (gap_blanks g h.0) u) k, tt)
conds_written n (also cs g b c) h u k =
    let a = around_gap (conds_text cs) g (65 ∷ 78 ∷ 68 ∷ (b ++ cond_text c)) h.1 u in
    let y = after_blanks b (cond_text c) (gap_blanks b h.2) (utf8_split (65 ∷ 78 ∷ []) (b ++ cond_text c) 68 (omega arith) a.1).1 in
    each_snoc IsWrittenCond (conds_at n cs) _ (conds_written n cs h.0 a.0 k.0) (cond_written _ c h.3 y k.1)

-- the values of written conditions have written paths
binders_written : (sources names : List (List ℕ)) (cs : List CondText) → AllByRecursion IsWrittenCond cs → AllByRecursion IsWrittenBinder (binders (map (cond_value sources names) cs))
binders_written sources names [] h = tt
binders_written sources names (condition.FromSource at from path var ∷ cs) h = (h.0.0, binders_written sources names cs h.1)
binders_written sources names (condition.FromVar start path var ∷ cs) h = (h.0.0, binders_written sources names cs h.1)
binders_written sources names (condition.Compare left op right ∷ cs) h = binders_written sources names cs h.1

-- the value of what is compared with in a written condition is written
operand_written : (names : List (List ℕ)) (o : OperandText) → IsWrittenSide o → IsWrittenOperand (operand_value names o)
operand_written names (operand.Var v) h = tt
operand_written names (operand.Text l) h = h

-- the values of written conditions have written comparisons
tests_written : (sources names : List (List ℕ)) (cs : List CondText) → AllByRecursion IsWrittenCond cs → AllByRecursion IsWrittenTest (comparisons (map (cond_value sources names) cs))
tests_written sources names [] h = tt
tests_written sources names (condition.FromSource at from path var ∷ cs) h = tests_written sources names cs h.1
tests_written sources names (condition.FromVar start path var ∷ cs) h = tests_written sources names cs h.1
tests_written sources names (condition.Compare left op right ∷ cs) h = (operand_written names right h.0, tests_written sources names cs h.1)

-- the variables that written conditions bind have names
names_written : (cs : List CondText) → AllByRecursion IsWrittenCond cs → AllByRecursion (λ x. IsTrue (is_name x)) (bound_names cs)
names_written [] h = tt
names_written (condition.FromSource at from path var ∷ cs) h = (var_is_name var.name h.0.1, names_written cs h.1)
names_written (condition.FromVar start path var ∷ cs) h = (var_is_name var.name h.0.1, names_written cs h.1)
names_written (condition.Compare left op right ∷ cs) h = names_written cs h.1

-- RULES

-- a rule that a text spells over so many sources: it is accepted, its paths, names and labels are written, and its variables have names, all different
pub record IsSpelled (sources : ℕ) (r : RuleValue) : Type 0 where
  pub accepted : IsAccepted sources r
  pub written : IsWrittenRule r
  pub named : AllByRecursion (λ x. IsTrue (is_name x)) r.names
  pub apart : AreDifferent r.names

-- the value of the tree of a UTF-8 text that is not refused is accepted and written, and its variables have names, all different
value_written : (x : List ℕ) (sources : List (List ℕ)) (t : Tree) (v : RuleValue) → IsUtf8 x → texts.SpellsWithin x (form_of_tree t) → checked sources t ≡ Ok v → IsSpelled (length sources) (rule_value sources t)
value_written x sources t v u w c =
    let r : Rule = w.written in
    let is : IsRule r = w.writes.0 in
    let names = bound_names t.conds in
    let place = conds_place r in
    let q = no_refusal sources t v c in
    let free = unrefused sources t q.0 in
    let conds : conds_at place r.conds ≡ t.conds = ap (λ (f : RuleForm). f.conds) w.tree in
    let short : AllByRecursion IsShort t.conds =
    each_both (λ c. has_path is_nested c ≡ false) (λ c. has_path has_many c ≡ false) t.conds (any_none (has_path is_nested) t.conds free.nested) (any_none (has_path has_many) t.conds free.many) in
    let parts = rule_parts r is (subst IsUtf8 (sym w.writes.1) u) in
    let kept = conds_kept place r.conds is.conds parts.1 (subst (AllByRecursion IsShort) (sym conds) short) in
    let written : AllByRecursion IsWrittenCond t.conds = subst (AllByRecursion IsWrittenCond) conds (conds_written place r.conds is.conds parts.1 kept) in
    let template : AreWrittenItems (items_value names (contents_of (item.Element t.template ∷ []))) =
    subst (λ (is : List ItemText). AreWrittenItems (items_value names (contents_of is))) (ap (λ (f : RuleForm). f.template) w.tree) (items_written names (template_place r) r.template (template_items r.template is.template) parts.0) in
    record {
      accepted = subst (IsAccepted (length sources)) (sym q.1) (accepted_of x sources t v w c);
      written = record { label = template.0; items = template.1; binders = binders_written sources names t.conds written; tests = tests_written sources names t.conds written };
      named = names_written t.conds written;
      apart = (bound_apart [] t.conds free.again).1;
    }

-- a rule that a text spells is accepted and written, and its variables have names, all different
pub spelled_is_written : (x : List ℕ) (sources : List (List ℕ)) (v : RuleValue) → Spells x sources v → IsSpelled (length sources) v
spelled_is_written x sources v (u, (t, w, c)) = subst (IsSpelled (length sources)) (no_refusal sources t v c).1 (value_written x sources t v u w c)
