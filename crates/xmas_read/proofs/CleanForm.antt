-- A written rule in its canonical form: single blanks, each group label written out, labels and paths in their canonical spelling.
use Rattle.std.proofs.Common.{◌≡◌, ◌∙◌, ◌+◌, ℕ, List, [], ◌∷◌, Option, Some, None, refl, ap, max}
use Rattle.mix_tree.specs.LabelGrammar.{Piece, meaning}
use Rattle.path_expr.specs.Grammar as paths
use Rattle.path_expr.specs.Values.{value_of}
use Rattle.path_expr.specs.Machine.{read_of}
use Rattle.path_expr.specs.Canonical.{canon}
use Rattle.path_expr.proofs.Again.{quoted_pieces, pieces_of}
use Rattle.xmas_text.specs.Grammar.{Key, node, label, Keys, none, first, more, Group, absent, braced, Items, nothing, variable, literal, element, Operand, a_variable, a_text, Cond, source, walk, compare, Conds, one, also, Order, unordered, ordered, descending, Rule, IsKey, HasKeys, AreKeys, IsGroup, IsItemGap, AreItems, IsOperand, IsOrder}
use Rattle.xmas_text.specs.Levels.{levels}

-- a key with one blank after label
abbrev pub clean_key : Key → Key
clean_key (node v) = node v
clean_key (label g v) = label (32 ∷ []) v

-- keys without blanks between them
abbrev pub clean_keys : Keys → Keys
clean_keys none = none
clean_keys (first g k) = first [] (clean_key k)
clean_keys (more ks g h k) = more (clean_keys ks) [] [] (clean_key k)

-- a group label that is written out, with keys for one that there isn't
abbrev pub clean_group : Keys → Group → Group
clean_group without absent = braced (32 ∷ []) without []
clean_group without (braced g ks h) = braced (32 ∷ []) (clean_keys ks) []

-- items with one blank before each, and closing tags that are named as the opening ones
abbrev pub clean_items : Items → Items
clean_items nothing = nothing
clean_items (variable before g k e) = variable (clean_items before) (32 ∷ []) (clean_key k) (clean_group (first [] (clean_key k)) e)
clean_items (literal before g ps) = literal (clean_items before) (32 ∷ []) (pieces_of (meaning ps))
clean_items (element before g name inside h close e) = element (clean_items before) (32 ∷ []) name (clean_items inside) (32 ∷ []) name (clean_group none e)

-- what was found, or what stands for it
abbrev pub or_else : Option paths.Spelled → paths.Spelled → paths.Spelled
or_else None p = p
or_else (Some q) p = q

-- a path as its canonical text spells it
abbrev pub clean_path : paths.Spelled → paths.Spelled
clean_path p = or_else (read_of (canon (value_of p))) p

-- an operand in its canonical spelling
abbrev pub clean_operand : Operand → Operand
clean_operand (a_variable v) = a_variable v
clean_operand (a_text ps) = a_text (pieces_of (meaning ps))

-- a condition with single blanks
abbrev pub clean_cond : Cond → Cond
clean_cond (source name g p h v) = source name (32 ∷ []) (clean_path p) (32 ∷ []) v
clean_cond (walk start g p h v) = walk start (32 ∷ []) (clean_path p) (32 ∷ []) v
clean_cond (compare v g o h a) = compare v (32 ∷ []) o (32 ∷ []) (clean_operand a)

-- conditions with single blanks
abbrev pub clean_conds : Conds → Conds
clean_conds (one g c) = one (32 ∷ []) (clean_cond c)
clean_conds (also cs g h c) = also (clean_conds cs) (32 ∷ []) (32 ∷ []) (clean_cond c)

-- an order with single blanks
abbrev pub clean_order : Order → Order
clean_order unordered = unordered
clean_order (ordered g h i v) = ordered (32 ∷ []) (32 ∷ []) (32 ∷ []) v
clean_order (descending g h i v j) = descending (32 ∷ []) (32 ∷ []) (32 ∷ []) v (32 ∷ [])

-- a rule in its canonical form
abbrev pub clean_rule : Rule → Rule
clean_rule r = record { lead = []; template = clean_items r.template; gap = 32 ∷ []; conds = clean_conds r.conds; order = clean_order r.order; tail = [] }

-- a key of the grammar remains one in its canonical form
pub clean_is_key : (k : Key) → IsKey k → IsKey (clean_key k)
clean_is_key (node v) h = h
clean_is_key (label g v) h = (refl, h.1)

-- keys of which there are some are some in their canonical form
clean_has : (ks : Keys) → HasKeys ks → HasKeys (clean_keys ks)
clean_has none h = h
clean_has (first g k) h = tt
clean_has (more ks g h k) e = tt

-- keys of the grammar remain such in their canonical form
clean_are_keys : (ks : Keys) → AreKeys ks → AreKeys (clean_keys ks)
clean_are_keys none h = tt
clean_are_keys (first g k) h = (refl, clean_is_key k h.1)
clean_are_keys (more ks g b k) h = (clean_has ks h.0, clean_are_keys ks h.1, refl, refl, clean_is_key k h.4)

-- a group label of the grammar remains one in its canonical form
pub clean_is_group : (ks : Keys) (e : Group) → AreKeys ks → IsGroup e → IsGroup (clean_group ks e)
clean_is_group ks absent k h = (refl, k, refl)
clean_is_group ks (braced g own b) k h = (refl, clean_are_keys own h.1, refl)

-- one blank may stand before any item
blank_gap : (xs : Items) → IsItemGap xs (32 ∷ [])
blank_gap nothing = refl
blank_gap (variable before g k e) = refl
blank_gap (literal before g ps) = refl
blank_gap (element before g name inside h close e) = refl

-- items of the grammar remain such in their canonical form
pub clean_are_items : (xs : Items) → AreItems xs → AreItems (clean_items xs)
clean_are_items nothing h = tt
clean_are_items (variable before g k e) h =
    (clean_are_items before h.0, blank_gap (clean_items before), clean_is_key k h.2, clean_is_group (first [] (clean_key k)) e (refl, clean_is_key k h.2) h.3)
clean_are_items (literal before g ps) h = (clean_are_items before h.0, blank_gap (clean_items before), (quoted_pieces (meaning ps)).1)
clean_are_items (element before g name inside b close e) h =
    (clean_are_items before h.0, blank_gap (clean_items before), h.2, clean_are_items inside h.3, refl, h.2, clean_is_group none e tt h.6)

-- items have as many levels in their canonical form
pub clean_levels : (xs : Items) → levels (clean_items xs) ≡ levels xs
clean_levels nothing = refl
clean_levels (variable before g k e) = clean_levels before
clean_levels (literal before g ps) = clean_levels before
clean_levels (element before g name inside h close e) =
    ap (λ n. max n (1 + levels (clean_items inside))) (clean_levels before) ∙ ap (λ n. max (levels before) (1 + n)) (clean_levels inside)

-- an operand of the grammar remains one in its canonical form
pub clean_is_operand : (a : Operand) → IsOperand a → IsOperand (clean_operand a)
clean_is_operand (a_variable v) h = h
clean_is_operand (a_text ps) h = (quoted_pieces (meaning ps)).1

-- an order of the grammar remains one in its canonical form
pub clean_is_order : (o : Order) → IsOrder o → IsOrder (clean_order o)
clean_is_order unordered h = tt
clean_is_order (ordered g h i v) w = (refl, refl, refl, w.3)
clean_is_order (descending g h i v j) w = (refl, refl, refl, w.3, refl)
