-- The canonical text of a rule that comes of a text is one from which it comes.
use Rattle.std.proofs.Common.{◌≡◌, ◌∙◌, ◌+◌, ◌≤◌, ℕ, Bool, true, false, List, [], ◌∷◌, ◌++◌, Option, Some, None, Result, Ok, Err, refl, ap, sym, subst, length, map, codes}
use Rattle.std.specs.Str.{IsUtf8}
use Rattle.std.specs.List.{AllByRecursion}
use Rattle.mix_base.proofs.Lists.{append_nil}
use Rattle.mix_base.proofs.Firsts.{each_both}
use Rattle.xmas_text.specs.Contents.{ElementForm}
use Rattle.xmas_text.specs.Elements.{contents_of}
use Rattle.xmas_text.specs.Grammar.{Items, nothing, variable, literal, element, none, Conds, Order, Rule, IsRule, Writes, AreItems, IsGroup, rule_text}
use Rattle.xmas_text.specs.Grammar as written
use Rattle.xmas_text.specs.Levels.{levels}
use Rattle.xmas_text.specs.Parsed.{RuleForm, group_at, items_at, conds_at, order_at, parsed, template_place, conds_place}
use Rattle.xmas_text.specs.Results.{SpellsWithin}
use Rattle.xmas_text.specs.declared.cond.CondText.{CondText}
use Rattle.xmas_text.specs.declared.rule.OrderText.{OrderText}
use Rattle.xmas_text.specs.declared.element.ItemText.TheVariants as item
use Rattle.xmas_rule.specs.Rules.{RuleValue}
use Rattle.xmas_read.specs.declared.fault.XmasFault.{XmasFault}
use Rattle.xmas_read.specs.Tree.{Tree, form_of_tree, bound_names}
use Rattle.xmas_read.specs.Value.{own_keys, items_value, cond_value, order_value, rule_value}
use Rattle.xmas_read.specs.Refusals.{is_nested, has_many, has_path, first_of, refusals, or_rule, checked}
use Rattle.xmas_read.specs.Canonical.{group_text, element_text, items_text, conds_text, order_text, canonical}
use Rattle.xmas_read.proofs.Acceptance.{no_refusal}
use Rattle.xmas_read.proofs.CleanForm.{clean_group, clean_items, clean_conds, clean_order, clean_is_group, clean_are_items, clean_is_order, clean_levels}
use Rattle.xmas_read.proofs.CleanText.{group_written}
use Rattle.xmas_read.proofs.CleanItems.{element_written, items_written}
use Rattle.xmas_read.proofs.CleanPaths.{IsShort, KeptConds, rule_parts, conds_kept}
use Rattle.xmas_read.proofs.CleanConds.{conds_are, conds_written}
use Rattle.xmas_read.proofs.CleanBound.{order_written}
use Rattle.xmas_read.proofs.CleanUtf8.{rule_utf8}
use Rattle.xmas_read.proofs.Unrefused.{Unrefused, any_none, unrefused, none_refused}
use Rattle.xmas_read.proofs.CleanTree.{Parts, template_of, clean_parts, inside_at, group_place, element_at, tree_at, Known, names_known, value_same, clean_unrefused}

-- the written rule of parts, with blanks at its ends and before WHERE
abbrev rule_in : List ℕ → Parts → List ℕ → List ℕ → Rule
rule_in lead p gap tail = record { lead = lead; template = template_of p; gap = gap; conds = p.conds; order = p.order; tail = tail }

-- the canonical form of parts
abbrev clean_in : Parts → Rule
clean_in p = rule_in [] (clean_parts p) (32 ∷ []) []

-- the text of the canonical form of parts is the canonical text of the value of their tree
rule_written :
    (sources : List (List ℕ)) (n m k : ℕ) (p : Parts) → AreItems p.inside → IsGroup p.group → KeptConds p.conds → Known sources m k p
    → rule_text (clean_in p) ≡ canonical sources (rule_value sources (tree_at n m k p))
rule_written sources n m k p a g h w =
    let names = bound_names (conds_at m p.conds) in
    let own = own_keys names [] (group_at (group_place n p) p.group) in
    let text = items_text names (items_value names (contents_of (items_at (inside_at n p) p.inside))) in
    let group : written.group_text (clean_group none p.group) ≡ 32 ∷ group_text names own = group_written names (group_place n p) none [] p.group refl g w.group in
    let conds = written.conds_text (clean_conds p.conds) in
    let order = written.order_text (clean_order p.order) in
    let values = conds_text sources names (map (cond_value sources names) (conds_at m p.conds)) in
    ap (λ x. codes "CONSTRUCT " ++ (x ++ (codes " WHERE" ++ (conds ++ (order ++ [])))))
    (element_written names p.name (written.items_text (clean_items p.inside)) text (written.group_text (clean_group none p.group)) (group_text names own)
    (items_written names (inside_at n p) p.inside a w.items) group)
    ∙ ap (λ x. codes "CONSTRUCT " ++ (element_text names p.name text own ++ (codes " WHERE" ++ (x ++ (order ++ []))))) (conds_written sources names m p.conds h w.conds)
    ∙ ap (λ x. codes "CONSTRUCT " ++ (element_text names p.name text own ++ (codes " WHERE " ++ (values ++ x)))) (append_nil order ∙ order_written names k p.order w.order)

-- the text is UTF-8, and spells with at most 20 levels a tree of which the value comes
abbrev pub Again : List ℕ → List (List ℕ) → RuleValue → Type 0
Again x sources v = IsUtf8 x × ((t : Tree) × SpellsWithin x (form_of_tree t) × (checked sources t ≡ Ok v))

-- what a tree comes to that stands for a given value
abbrev comes : RuleValue → Result RuleValue XmasFault
comes v = Ok v

-- the value comes again of the canonical text
again_of :
    (sources : List (List ℕ)) (lead gap tail : List ℕ) (p : Parts) (n m k : ℕ) → IsRule (rule_in lead p gap tail) → IsUtf8 (rule_text (rule_in lead p gap tail)) → levels (template_of p) ≤ 20
    → Unrefused sources (tree_at n m k p) → Again (canonical sources (rule_value sources (tree_at n m k p))) sources (rule_value sources (tree_at n m k p))
again_of sources lead gap tail p n m k w u l h =
    let r = rule_in lead p gap tail in
    let short : AllByRecursion IsShort (conds_at m p.conds) =
    each_both (λ c. has_path is_nested c ≡ false) (λ c. has_path has_many c ≡ false) (conds_at m p.conds) (any_none (has_path is_nested) (conds_at m p.conds) h.nested) (any_none (has_path has_many) (conds_at m p.conds) h.many) in
    let kept = conds_kept m p.conds w.conds (rule_parts r w u).1 short in
    let text = rule_written sources n m k p w.template.3 w.template.6 kept (names_known sources n m k p h) in
    let q = clean_parts p in
    let n' = template_place (clean_in p) in
    let m' = conds_place (clean_in p) in
    let k' = m' + length (written.conds_text q.conds) in
    let t = tree_at n' m' k' q in
    let is : IsRule (clean_in p) = record {
      lead = refl;
      template = (tt, refl, w.template.2, clean_are_items p.inside w.template.3, refl, w.template.2, clean_is_group none p.group tt w.template.6);
      gap = refl;
      conds = conds_are p.conds w.conds kept;
      order = clean_is_order p.order w.order;
      tail = refl;
    } in
    let none' = none_refused sources t (clean_unrefused sources n m k n' m' k' p kept h) in (
      subst IsUtf8 text (rule_utf8 r w kept u),
      (
        t,
        record { written = clean_in p; writes = (is, text); tree = refl; levels = subst (λ i. i ≤ 20) (sym (clean_levels (template_of p))) l },
        ap (λ o. or_rule o (rule_value sources t)) none' ∙ ap comes (value_same sources n m k n' m' k' p kept),
      ),
    )

-- the tree with this template, these conditions and this order
abbrev pub tree_by : ElementForm → List CondText → Option OrderText → Tree
tree_by e cs o = record { template = e; conds = cs; order = o }

-- two items that are the same and are elements are the same element
pub one_element : (e f : ElementForm) → item.Element e ∷ [] ≡ item.Element f ∷ [] → e ≡ f
one_element e f h = cc

-- a tree is that of the written rule
tree_is : (n m k : ℕ) (p : Parts) (t : Tree) (f : RuleForm) → f ≡ form_of_tree t → f.template ≡ item.Element (element_at n p) ∷ [] → f.conds ≡ conds_at m p.conds → f.order ≡ order_at k p.order → tree_at n m k p ≡ t
tree_is n m k p t f h a b c =
    let e = one_element (element_at n p) t.template (sym a ∙ ap (λ (f : RuleForm). f.template) h) in
    let cs = sym b ∙ ap (λ (f : RuleForm). f.conds) h in
    let o = sym c ∙ ap (λ (f : RuleForm). f.order) h in
    ap (λ (e : ElementForm). tree_by e (conds_at m p.conds) (order_at k p.order)) e ∙ ap (λ (cs : List CondText). tree_by t.template cs (order_at k p.order)) cs
    ∙ ap (λ (o : Option OrderText). tree_by t.template t.conds o) o

-- a rule that comes of a text comes of its canonical text, by the template of the written rule
by_template :
    (sources : List (List ℕ)) (t : Tree) (v : RuleValue) (lead : List ℕ) (xs : Items) (gap : List ℕ) (cs : Conds) (o : Order) (tail : List ℕ)
    → IsRule (record { lead = lead; template = xs; gap = gap; conds = cs; order = o; tail = tail })
    → IsUtf8 (rule_text (record { lead = lead; template = xs; gap = gap; conds = cs; order = o; tail = tail }))
    → parsed (record { lead = lead; template = xs; gap = gap; conds = cs; order = o; tail = tail }) ≡ form_of_tree t → levels xs ≤ 20
    → checked sources t ≡ Ok v → Again (canonical sources v) sources v
by_template sources t v lead nothing gap cs o tail w u e l h = absurd w.template
by_template sources t v lead (variable d g k i) gap cs o tail w u e l h = absurd w.template
by_template sources t v lead (literal d g ps) gap cs o tail w u e l h = absurd w.template
by_template sources t v lead (element (variable d f k i) g name inside b close group) gap cs o tail w u e l h = absurd w.template.0
by_template sources t v lead (element (literal d f ps) g name inside b close group) gap cs o tail w u e l h = absurd w.template.0
by_template sources t v lead (element (element d f i j a c z) g name inside b close group) gap cs o tail w u e l h = absurd w.template.0
by_template sources t v lead (element nothing g name inside b close group) gap cs o tail w u e l h =
    let p : Parts = record { gap = g; name = name; inside = inside; blanks = b; close = close; group = group; conds = cs; order = o } in
    let r = rule_in lead p gap tail in
    let n = template_place r in
    let m = conds_place r in
    let k = m + length (written.conds_text cs) in
    let same : tree_at n m k p ≡ t = tree_is n m k p t (parsed r) e refl refl refl in
    let c : checked sources (tree_at n m k p) ≡ Ok v = subst (λ (t : Tree). checked sources t ≡ Ok v) (sym same) h in
    let q = no_refusal sources (tree_at n m k p) v c in
    subst (λ v. Again (canonical sources v) sources v) q.1 (again_of sources lead gap tail p n m k w u l (unrefused sources (tree_at n m k p) q.0))

-- a rule that comes of a text comes of its canonical text
pub comes_again : (x : List ℕ) (sources : List (List ℕ)) (t : Tree) (v : RuleValue) → IsUtf8 x → SpellsWithin x (form_of_tree t) → checked sources t ≡ Ok v → Again (canonical sources v) sources v
comes_again x sources t v u w h =
    let r = w.written in
    by_template sources t v r.lead r.template r.gap r.conds r.order r.tail w.writes.0 (subst IsUtf8 (sym w.writes.1) u) w.tree w.levels h
