-- The tree of a rule has names, variables and paths as the grammar has them.
use Rattle.std.proofs.Common.{◌≡◌, ◌≤◌, ℕ, Bool, true, false, cond, List, [], ◌∷◌, ◌++◌, Ok, Err, refl, subst, arith, nat_lt}
use Rattle.std.proofs.lemmas.Bool.Decides.{nat_tests}
use Rattle.path_expr.specs.Grammar as paths
use Rattle.path_expr.specs.Form.{positions_in}
use Rattle.path_expr.specs.Values.{value_of}
use Rattle.path_expr.specs.Depth.{nesting}
use Rattle.xmas_text.specs.declared.var.KeyText.{KeyText}
use Rattle.xmas_text.specs.declared.element.ItemText.{ItemText}
use Rattle.xmas_text.specs.declared.element.ItemText.TheVariants as item
use Rattle.xmas_tokens.specs.declared.lexeme.PathLimit.TheVariants.{Nesting, Positions}
use Rattle.xmas_text.specs.declared.cond.CondText.{CondText}
use Rattle.xmas_text.specs.Elements.{contents_of}
use Rattle.xmas_text.specs.Grammar.{Key, node, label, Keys, none, first, more, Group, absent, braced, Items, nothing, variable, literal, element, Operand, a_variable, a_text, Cond, source, walk, compare, Conds, one, also, Order, unordered, ordered, descending, Rule, IsKey, AreKeys, IsGroup, AreItems, IsOperand, IsCond, AreConds, IsTemplate, IsOrder, IsRule}
use Rattle.xmas_text.specs.Parsed.{RuleForm, key_at, keys_at, group_at, shown_at, items_at, operand_at, cond_at, conds_at, order_at, parsed}
use Rattle.xmas_tokens.specs.Lexemes.{path_form}
use Rattle.xmas_text.specs.Results.{Spells}
use Rattle.xmas_text.specs.Named.{IsNamedKey, AreNamedKeys, IsNamedGroup, AreNamed, IsReadPath, IsNamedOperand, IsNamedCond, AreNamedConds, IsNamedOrder, IsNamedTree}

-- a written key's variable is one of the grammar
key_named : (n : ℕ) (k : Key) → IsKey k → IsNamedKey (key_at n k)
key_named n (node v) h = h
key_named n (label g v) h = h.1

-- keys with names of the grammar stay such with one more
keys_push : (ks : List KeyText) (k : KeyText) → AreNamedKeys ks → IsNamedKey k → AreNamedKeys (ks ++ k ∷ [])
keys_push [] k h i = (i, tt)
keys_push (c ∷ ks) k h i = (h.0, keys_push ks k h.1 i)

-- all written keys have variables of the grammar
keys_named : (n : ℕ) (ks : Keys) → AreKeys ks → AreNamedKeys (keys_at n ks)
keys_named n none h = tt
keys_named n (first g k) h = (key_named _ k h.1, tt)
keys_named n (more ks g e k) h = keys_push (keys_at n ks) _ (keys_named n ks h.1) (key_named _ k h.4)

-- the keys of a written group label have variables of the grammar
group_named : (n : ℕ) (e : Group) → IsGroup e → IsNamedGroup (group_at n e)
group_named n absent h = tt
group_named n (braced g ks i) h = keys_named _ ks h.1

-- items with names of the grammar stay such with one more
items_push : (is : List ItemText) (i : ItemText) → AreNamed (contents_of is) → AreNamed (contents_of (i ∷ [])) → AreNamed (contents_of (is ++ i ∷ []))
items_push [] i h k = k
items_push (item.Element e ∷ is) i h k = (h.0, h.1, h.2, h.3, items_push is i h.4 k)
items_push (item.Node s ∷ is) i h k = (h.0, items_push is i h.1 k)
items_push (item.LabelOf s ∷ is) i h k = (h.0, items_push is i h.1 k)
items_push (item.Text l ∷ is) i h k = (h.0, items_push is i h.1 k)

-- a written item that shows a variable has names of the grammar
shown_named : (n m : ℕ) (k : Key) (e : Group) → IsKey k → IsGroup e → AreNamed (contents_of (shown_at n k (group_at m e) ∷ []))
shown_named n m (node v) e h i = ((h, group_named m e i), tt)
shown_named n m (label g v) e h i = ((h.1, group_named m e i), tt)

-- all written items have names of the grammar
items_named : (xs : Items) (n : ℕ) → AreItems xs → AreNamed (contents_of (items_at n xs))
items_named nothing n h = tt
items_named (variable b g k e) n h = items_push (items_at n b) _ (items_named b n h.0) (shown_named _ _ k e h.2 h.3)
items_named (literal b g ps) n h = items_push (items_at n b) _ (items_named b n h.0) (tt, tt)
items_named (element b g name i j close e) n h =
    items_push (items_at n b) _ (items_named b n h.0) (h.2, h.5, group_named _ e h.6, items_named i _ h.3, tt)

-- a written template has names of the grammar
template_named : (n : ℕ) (xs : Items) → IsTemplate xs → AreNamed (contents_of (items_at n xs))
template_named n nothing h = absurd h
template_named n (variable b g k e) h = absurd h
template_named n (literal b g ps) h = absurd h
template_named n (element nothing g name i j close e) h = (h.2, h.5, group_named _ e h.6, items_named i _ h.3, tt)
template_named n (element (variable b f k d) g name i j close e) h = absurd h.0
template_named n (element (literal b f ps) g name i j close e) h = absurd h.0
template_named n (element (element b f m l k d a) g name i j close e) h = absurd h.0

-- a written path is read as one that a text spells within the limits, or as its limit
path_named : (p : paths.Spelled) → paths.Is p paths.a_path → IsReadPath (path_form p)
path_named p h = by_cases (nat_lt 100 (nesting p)) (nat_lt 120 (positions_in (value_of p))) refl refl
  where
    by_cases : (c d : Bool) → nat_lt 100 (nesting p) ≡ c → nat_lt 120 (positions_in (value_of p)) ≡ d → IsReadPath (cond c (Err Nesting) (cond d (Err Positions) (Ok (value_of p))))
    by_cases true d e f = tt
    by_cases false true e f = tt
    by_cases false false e f =
        let n : nesting p ≤ 100 = grind (arith, nat_tests) in
        let m : positions_in (value_of p) ≤ 120 = grind (arith, nat_tests) in
        (paths.text_of p, record { spelled = p; writes = (h, refl); value = refl; nesting = n; positions = m })

-- a written operand's variable is one of the grammar
operand_named : (n : ℕ) (a : Operand) → IsOperand a → IsNamedOperand (operand_at n a)
operand_named n (a_variable v) h = h
operand_named n (a_text ps) h = tt

-- a written condition's names, variables and path are as the grammar has them
cond_named : (n : ℕ) (c : Cond) → IsCond c → IsNamedCond (cond_at n c)
cond_named n (source name g p i v) h = (h.0, path_named p h.2, h.4)
cond_named n (walk start g p i v) h = (h.0, path_named p h.2, h.4)
cond_named n (compare v g o i a) h = (h.0, operand_named _ a h.3)

-- conditions with names of the grammar stay such with one more
conds_push : (cs : List CondText) (c : CondText) → AreNamedConds cs → IsNamedCond c → AreNamedConds (cs ++ c ∷ [])
conds_push [] c h i = (i, tt)
conds_push (d ∷ cs) c h i = (h.0, conds_push cs c h.1 i)

-- all written conditions have names, variables and paths of the grammar
conds_named : (n : ℕ) (cs : Conds) → AreConds cs → AreNamedConds (conds_at n cs)
conds_named n (one g c) h = (cond_named _ c h.1, tt)
conds_named n (also cs g i c) h = conds_push (conds_at n cs) _ (conds_named n cs h.0) (cond_named _ c h.3)

-- the variable of a written order is one of the grammar
order_named : (n : ℕ) (o : Order) → IsOrder o → IsNamedOrder (order_at n o)
order_named n unordered h = tt
order_named n (ordered g i j v) h = h.3
order_named n (descending g i j v k) h = h.3

-- the tree of a written rule has names, variables and paths as the grammar has them
rule_named : (r : Rule) → IsRule r → IsNamedTree (parsed r)
rule_named r h = record { template = template_named _ r.template h.template; conds = conds_named _ r.conds h.conds; order = order_named _ r.order h.order }

-- the tree that a text spells has names, variables and paths as the grammar has them
pub spells_named : (x : List ℕ) (v : RuleForm) → Spells x v → IsNamedTree v
spells_named x v (r, w, e) = subst IsNamedTree e (rule_named r w.0)
