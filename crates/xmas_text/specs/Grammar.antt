-- How rules are spelled.
use Rattle.std.specs.Prelude.{◌≡◌, ℕ, List, [], ◌∷◌, ◌++◌, codes}
use Rattle.mix_tree.specs.LabelGrammar.{Piece, ArePieces}
use Rattle.mix_tree.specs.Names.{IsName}
use Rattle.path_expr.specs.Grammar as paths
use Rattle.xmas_tokens.specs.declared.lexeme.Comparison.{Comparison}
use Rattle.xmas_tokens.specs.Lexical.{IsBlanks, IsGap, IsVar}
use Rattle.xmas_tokens.specs.Tokens.{quoted_text, op_text}

-- a variable, or `label`, a gap and a variable
pub data Key : Type 0 where
  node : List ℕ → Key
  label : List ℕ → List ℕ → Key

-- the keys between braces: the first after blanks, the others each after blanks, a comma and blanks
pub data Keys : Type 0 where
  none : Keys
  first : List ℕ → Key → Keys
  more : Keys → List ℕ → List ℕ → Key → Keys

-- a group label, with the blanks before it and before its closing brace, or none
pub data Group : Type 0 where
  absent : Group
  braced : List ℕ → Keys → List ℕ → Group

-- items, each after those before it and blanks: a variable with its group label, a quoted label, or an element with its name, what stands
-- inside, the blanks before its closing tag, the name there, and its group label
pub data Items : Type 0 where
  nothing : Items
  variable : Items → List ℕ → Key → Group → Items
  literal : Items → List ℕ → List Piece → Items
  element : Items → List ℕ → List ℕ → Items → List ℕ → List ℕ → Group → Items

-- the text of a key
abbrev pub key_text : Key → List ℕ
key_text (node v) = 36 ∷ v
key_text (label g v) = codes "label" ++ (g ++ 36 ∷ v)

-- the text of keys
abbrev pub keys_text : Keys → List ℕ
keys_text none = []
keys_text (first g k) = g ++ key_text k
keys_text (more ks g h k) = keys_text ks ++ (g ++ 44 ∷ (h ++ key_text k))

-- the text of a group label
abbrev pub group_text : Group → List ℕ
group_text absent = []
group_text (braced g ks h) = g ++ 123 ∷ (keys_text ks ++ (h ++ 125 ∷ []))

-- the text of items
abbrev pub items_text : Items → List ℕ
items_text nothing = []
items_text (variable before g k group) = items_text before ++ (g ++ (key_text k ++ group_text group))
items_text (literal before g ps) = items_text before ++ (g ++ quoted_text ps)
items_text (element before g name inside h close group) =
    items_text before ++ (g ++ 60 ∷ (name ++ 62 ∷ (items_text inside ++ (h ++ 60 ∷ 47 ∷ (close ++ 62 ∷ group_text group)))))

-- a key as the grammar has it
abbrev pub IsKey : Key → Type 0
IsKey (node v) = IsVar v
IsKey (label g v) = IsGap g × IsVar v

-- the keys are not none
abbrev pub HasKeys : Keys → Type 0
HasKeys none = ⊥
HasKeys (first g k) = Unit {0}
HasKeys (more ks g h k) = Unit {0}

-- keys with commas between them
abbrev pub AreKeys : Keys → Type 0
AreKeys none = Unit {0}
AreKeys (first g k) = IsBlanks g × IsKey k
AreKeys (more ks g h k) = HasKeys ks × AreKeys ks × IsBlanks g × IsBlanks h × IsKey k

-- a group label as the grammar has it
abbrev pub IsGroup : Group → Type 0
IsGroup absent = Unit {0}
IsGroup (braced g ks h) = IsBlanks g × AreKeys ks × IsBlanks h

-- the first item may stand at once, the others after a blank
abbrev pub IsItemGap : Items → List ℕ → Type 0
IsItemGap nothing g = IsBlanks g
IsItemGap (variable before h k group) g = IsGap g
IsItemGap (literal before h ps) g = IsGap g
IsItemGap (element before f name inside h close group) g = IsGap g

-- items as the grammar has them; the names of an element's two tags may differ
abbrev pub AreItems : Items → Type 0
AreItems nothing = Unit {0}
AreItems (variable before g k group) = AreItems before × IsItemGap before g × IsKey k × IsGroup group
AreItems (literal before g ps) = AreItems before × IsItemGap before g × ArePieces ps
AreItems (element before g name inside h close group) =
    AreItems before × IsItemGap before g × IsName name × AreItems inside × IsBlanks h × IsName close × IsGroup group

-- what stands after an operator
pub data Operand : Type 0 where
  a_variable : List ℕ → Operand
  a_text : List Piece → Operand

-- the text of an operand
abbrev pub operand_text : Operand → List ℕ
operand_text (a_variable v) = 36 ∷ v
operand_text (a_text ps) = quoted_text ps

-- an operand as the grammar has it
abbrev pub IsOperand : Operand → Type 0
IsOperand (a_variable v) = IsVar v
IsOperand (a_text ps) = ArePieces ps

-- a condition: a source's name or a variable, a path and a variable, with gaps between; or a variable, an operator and an operand, with blanks
-- between
pub data Cond : Type 0 where
  source : List ℕ → List ℕ → paths.Spelled → List ℕ → List ℕ → Cond
  walk : List ℕ → List ℕ → paths.Spelled → List ℕ → List ℕ → Cond
  compare : List ℕ → List ℕ → Comparison → List ℕ → Operand → Cond

-- conditions, each after a gap, and all but the first after AND and another one
pub data Conds : Type 0 where
  one : List ℕ → Cond → Conds
  also : Conds → List ℕ → List ℕ → Cond → Conds

-- the text of a condition
abbrev pub cond_text : Cond → List ℕ
cond_text (source name g p h v) = name ++ (g ++ (paths.text_of p ++ (h ++ 36 ∷ v)))
cond_text (walk start g p h v) = 36 ∷ (start ++ (g ++ (paths.text_of p ++ (h ++ 36 ∷ v))))
cond_text (compare v g o h a) = 36 ∷ (v ++ (g ++ (op_text o ++ (h ++ operand_text a))))

-- the text of conditions
abbrev pub conds_text : Conds → List ℕ
conds_text (one g c) = g ++ cond_text c
conds_text (also cs g h c) = conds_text cs ++ (g ++ (codes "AND" ++ (h ++ cond_text c)))

-- a condition as the grammar has it
abbrev pub IsCond : Cond → Type 0
IsCond (source name g p h v) = IsName name × IsGap g × paths.Is p paths.a_path × IsGap h × IsVar v
IsCond (walk start g p h v) = IsVar start × IsGap g × paths.Is p paths.a_path × IsGap h × IsVar v
IsCond (compare v g o h a) = IsVar v × IsBlanks g × IsBlanks h × IsOperand a

-- conditions as the grammar has them
abbrev pub AreConds : Conds → Type 0
AreConds (one g c) = IsGap g × IsCond c
AreConds (also cs g h c) = AreConds cs × IsGap g × IsGap h × IsCond c

-- a list of items is empty
abbrev pub IsNothing : Items → Type 0
IsNothing nothing = Unit {0}
IsNothing (variable before g k group) = ⊥
IsNothing (literal before g ps) = ⊥
IsNothing (element before g name inside h close group) = ⊥

-- the template is one element, after a gap
abbrev pub IsTemplate : Items → Type 0
IsTemplate nothing = ⊥
IsTemplate (variable before g k group) = ⊥
IsTemplate (literal before g ps) = ⊥
IsTemplate (element before g name inside h close group) = IsNothing before × IsGap g × IsName name × AreItems inside × IsBlanks h × IsName close × IsGroup group

-- nothing, or ORDER, BY, a variable, and DESC or not, each after a gap
pub data Order : Type 0 where
  unordered : Order
  ordered : List ℕ → List ℕ → List ℕ → List ℕ → Order
  descending : List ℕ → List ℕ → List ℕ → List ℕ → List ℕ → Order

-- the text of an order up to its variable
abbrev pub ordered_text : List ℕ → List ℕ → List ℕ → List ℕ → List ℕ
ordered_text g h i v = g ++ (codes "ORDER" ++ (h ++ (codes "BY" ++ (i ++ 36 ∷ v))))

-- the text of an order
abbrev pub order_text : Order → List ℕ
order_text unordered = []
order_text (ordered g h i v) = ordered_text g h i v
order_text (descending g h i v j) = ordered_text g h i v ++ (j ++ codes "DESC")

-- an order as the grammar has it
abbrev pub IsOrder : Order → Type 0
IsOrder unordered = Unit {0}
IsOrder (ordered g h i v) = IsGap g × IsGap h × IsGap i × IsVar v
IsOrder (descending g h i v j) = IsGap g × IsGap h × IsGap i × IsVar v × IsGap j

-- a rule as it is written: blanks, CONSTRUCT, the template, a gap, WHERE, the conditions, the order, blanks
pub record Rule : Type 0 where
  pub lead : List ℕ
  pub template : Items
  pub gap : List ℕ
  pub conds : Conds
  pub order : Order
  pub tail : List ℕ

-- the bytes of CONSTRUCT
abbrev pub construct_text : List ℕ
construct_text = codes "CONSTRUCT"

-- the bytes of WHERE
abbrev pub where_text : List ℕ
where_text = codes "WHERE"

-- the text of a rule
abbrev pub rule_text : Rule → List ℕ
rule_text r = r.lead ++ (construct_text ++ (items_text r.template ++ (r.gap ++ (where_text ++ (conds_text r.conds ++ (order_text r.order ++ r.tail))))))

-- a rule as the grammar has it
pub record IsRule (r : Rule) : Type 0 where
  pub lead : IsBlanks r.lead
  pub template : IsTemplate r.template
  pub gap : IsGap r.gap
  pub conds : AreConds r.conds
  pub order : IsOrder r.order
  pub tail : IsBlanks r.tail

-- the text is that of the rule, which is as the grammar has it
abbrev pub Writes : List ℕ → Rule → Type 0
Writes x r = IsRule r × (rule_text r ≡ x)
