-- Where in a rule a token stands, with all that was read before it.
use Rattle.std.specs.Prelude.{ℕ, Bool, true, false, List, [], ◌∷◌}
use Rattle.path_expr.specs.Grammar.{Spelled}
use Rattle.xmas_tokens.specs.declared.lexeme.Comparison.{Comparison}
use Rattle.xmas_tokens.specs.declared.token.Mark.TheVariants as mark
use Rattle.xmas_tokens.specs.declared.token.Kind.{Kind}
use Rattle.xmas_text.specs.declared.stage.Last.{Last}
use Rattle.xmas_text.specs.declared.stage.Last.TheVariants as last
use Rattle.xmas_text.specs.declared.stage.Stage.{Stage}
use Rattle.xmas_text.specs.declared.stage.Stage.TheVariants as stage
use Rattle.xmas_text.specs.Grammar.{Key, node, label, Keys, none, first, more, Group, absent, braced, Items, nothing, variable, literal, element, a_variable, a_text, Cond, source, walk, compare, Conds, one, also, Order, unordered, ordered, descending}
use Rattle.xmas_tokens.specs.Tokens.{Token, fixed, open_tag, close_tag, word, var, quoted, path, comparison}
use Rattle.xmas_text.specs.Stages.{is_first, may_stand, may_group_after, may_come}

-- an element whose tag is open: the items before it, the gap, and its name
pub record Frame : Type 0 where
  pub before : Items
  pub gap : List ℕ
  pub name : List ℕ

-- what stands before the conditions, up to WHERE
pub record Head : Type 0 where
  pub lead : List ℕ
  pub template : Items
  pub gap : List ℕ

-- where a key may stand: first, or after blanks and a comma
pub data Place : Type 0 where
  at_first : Place
  at_more : List ℕ → Place

-- where a condition may stand: first, or after others, a gap and AND
pub data Before : Type 0 where
  first_cond : Before
  also_cond : Conds → List ℕ → Before

-- what a condition begins with
pub data Start : Type 0 where
  by_name : List ℕ → Start
  by_var : List ℕ → Start

-- where a token stands, with all that was read before it
pub data Spot : Type 0 where
  beginning : Spot
  items : List ℕ → List Frame → Items → Spot
  labelled : List ℕ → List Frame → Items → List ℕ → Spot
  keys : List ℕ → List Frame → Items → List ℕ → Keys → Spot
  key_comma : List ℕ → List Frame → Items → List ℕ → Keys → List ℕ → Spot
  key_label : List ℕ → List Frame → Items → List ℕ → Keys → Place → List ℕ → Spot
  cond_start : Head → Before → Spot
  cond_from : Head → Before → List ℕ → Start → Spot
  cond_path : Head → Before → List ℕ → Start → List ℕ → Spelled → Spot
  cond_done : Head → Conds → Spot
  compared : Head → Before → List ℕ → List ℕ → List ℕ → Comparison → Spot
  ordering : Head → Conds → List ℕ → Spot
  ordering_by : Head → Conds → List ℕ → List ℕ → Spot
  sorted : Head → Conds → Order → Spot

-- whether there is a blank
abbrev pub has_blank : List ℕ → Bool
has_blank [] = false
has_blank (b ∷ x) = true

-- whether there is no group label
abbrev pub is_absent : Group → Bool
is_absent absent = true
is_absent (braced g ks h) = false

-- what the last of these items is
abbrev pub last_of : Items → Last
last_of nothing = last.Nothing
last_of (variable before g k e) = last.Item (is_absent e)
last_of (literal before g ps) = last.Item false
last_of (element before g name inside h close e) = last.Item (is_absent e)

-- whether an item may come after these items and a gap
abbrev pub item_gap : Items → List ℕ → Bool
item_gap xs g = may_stand (last_of xs) (has_blank g)

-- whether a group label may come after these items
abbrev pub may_group : Items → Bool
may_group xs = may_group_after (last_of xs)

-- whether there are no items
abbrev pub is_nothing : Items → Bool
is_nothing xs = is_first (last_of xs)

-- whether there are no keys
abbrev pub is_none : Keys → Bool
is_none none = true
is_none (first g k) = false
is_none (more ks g h k) = false

-- whether a condition that begins with this may be a comparison
abbrev pub may_compare : Start → Bool
may_compare (by_name n) = false
may_compare (by_var v) = true

-- whether DESC may come after the order
abbrev pub may_descend : Order → Bool
may_descend unordered = false
may_descend (ordered g h i v) = true
may_descend (descending g h i v j) = false

-- the name or the variable that a condition begins with
abbrev pub start_name : Start → List ℕ
start_name (by_name n) = n
start_name (by_var v) = v

-- whether an element is open
abbrev pub is_inside : List Frame → Bool
is_inside [] = false
is_inside (f ∷ o) = true

-- the stage of a spot
abbrev pub stage_of : Spot → Stage
stage_of beginning = stage.Beginning
stage_of (items lead o xs) = stage.Items (last_of xs)
stage_of (labelled lead o xs g) = stage.Labelled
stage_of (keys lead o xs g ks) = stage.Keys (is_none ks)
stage_of (key_comma lead o xs g ks h) = stage.KeyComma
stage_of (key_label lead o xs g ks p h) = stage.KeyLabel
stage_of (cond_start r b) = stage.CondStart
stage_of (cond_from r b g s) = stage.CondFrom (may_compare s)
stage_of (cond_path r b g s h p) = stage.CondPath
stage_of (cond_done r cs) = stage.CondDone
stage_of (compared r b g v h o) = stage.Compared
stage_of (ordering r cs g) = stage.Ordering
stage_of (ordering_by r cs g h) = stage.OrderingBy
stage_of (sorted r cs o) = stage.Sorted (may_descend o)

-- the open elements around a spot, the innermost first
abbrev pub frames_of : Spot → List Frame
frames_of beginning = []
frames_of (items lead o xs) = o
frames_of (labelled lead o xs g) = o
frames_of (keys lead o xs g ks) = o
frames_of (key_comma lead o xs g ks h) = o
frames_of (key_label lead o xs g ks p h) = o
frames_of (cond_start r b) = []
frames_of (cond_from r b g s) = []
frames_of (cond_path r b g s h p) = []
frames_of (cond_done r cs) = []
frames_of (compared r b g v h o) = []
frames_of (ordering r cs g) = []
frames_of (ordering_by r cs g h) = []
frames_of (sorted r cs o) = []

-- a token of this kind may come at the spot, after this gap
abbrev pub takes : Spot → List ℕ → Kind → Bool
takes s g k = may_come (stage_of s) (is_inside (frames_of s)) (has_blank g) k

-- the last item gets a group label
abbrev pub with_group : Items → Group → Items
with_group nothing e = nothing
with_group (variable before h k group) e = variable before h k e
with_group (literal before h ps) e = literal before h ps
with_group (element before h name inside i close group) e = element before h name inside i close e

-- keys with one more, which comes first or after a comma
abbrev pub push_key : Keys → Place → List ℕ → Key → Keys
push_key ks at_first g k = first g k
push_key ks (at_more h) g k = more ks h g k

-- the conditions so far with one more, after its gap
abbrev pub push_cond : Before → List ℕ → Cond → Conds
push_cond first_cond g c = one g c
push_cond (also_cond cs h) g c = also cs h g c

-- the condition with a path that begins with this word
abbrev pub cond_of : Start → List ℕ → Spelled → List ℕ → List ℕ → Cond
cond_of (by_name n) g p h v = source n g p h v
cond_of (by_var u) g p h v = walk u g p h v

-- the spot after a token
abbrev pub shift : Spot → List ℕ → Token → Spot
shift beginning g (fixed mark.Construct) = items g [] nothing
shift (items lead o xs) g (open_tag l) = items lead (record { before = xs; gap = g; name = l } ∷ o) nothing
shift (items lead (f ∷ o) xs) g (close_tag l) = items lead o (element f.before f.gap f.name xs g l absent)
shift (items lead o xs) g (var v) = items lead o (variable xs g (node v) absent)
shift (items lead o xs) g (quoted ps) = items lead o (literal xs g ps)
shift (items lead o xs) g (fixed mark.LabelWord) = labelled lead o xs g
shift (items lead o xs) g (fixed mark.OpenBrace) = keys lead o xs g none
shift (items lead o xs) g (fixed mark.Where) = cond_start (record { lead = lead; template = xs; gap = g }) first_cond
shift (labelled lead o xs h) g (var v) = items lead o (variable xs h (label g v) absent)
shift (keys lead o xs h ks) g (var v) = keys lead o xs h (first g (node v))
shift (keys lead o xs h ks) g (fixed mark.LabelWord) = key_label lead o xs h ks at_first g
shift (keys lead o xs h ks) g (fixed mark.Comma) = key_comma lead o xs h ks g
shift (keys lead o xs h ks) g (fixed mark.CloseBrace) = items lead o (with_group xs (braced h ks g))
shift (key_comma lead o xs h ks e) g (var v) = keys lead o xs h (more ks e g (node v))
shift (key_comma lead o xs h ks e) g (fixed mark.LabelWord) = key_label lead o xs h ks (at_more e) g
shift (key_label lead o xs h ks p e) g (var v) = keys lead o xs h (push_key ks p e (label g v))
shift (cond_start r b) g (word n) = cond_from r b g (by_name n)
shift (cond_start r b) g (var v) = cond_from r b g (by_var v)
shift (cond_from r b h s) g (path p) = cond_path r b h s g p
shift (cond_from r b h s) g (comparison o) = compared r b h (start_name s) g o
shift (compared r b h v e o) g (var u) = cond_done r (push_cond b h (compare v e o g (a_variable u)))
shift (compared r b h v e o) g (quoted ps) = cond_done r (push_cond b h (compare v e o g (a_text ps)))
shift (cond_path r b h s e p) g (var v) = cond_done r (push_cond b h (cond_of s e p g v))
shift (cond_done r cs) g (fixed mark.And) = cond_start r (also_cond cs g)
shift (cond_done r cs) g (fixed mark.Order) = ordering r cs g
shift (ordering r cs h) g (fixed mark.By) = ordering_by r cs h g
shift (ordering_by r cs h i) g (var v) = sorted r cs (ordered h i g v)
shift (sorted r cs (ordered e f h v)) g (fixed mark.Desc) = sorted r cs (descending e f h v g)
shift s g t = s
