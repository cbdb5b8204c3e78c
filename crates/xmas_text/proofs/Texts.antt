-- What a spot writes, and when what stands before it is as the grammar has it.
use Rattle.std.specs.Prelude.{codes}
use Rattle.std.proofs.Common.{ℕ, IsTrue, List, [], ◌∷◌, ◌++◌}
use Rattle.mix_tree.specs.Names.{IsName}
use Rattle.xmas_text.specs.Grammar.{Keys, none, first, more, Items, nothing, variable, literal, element, keys_text, items_text, HasKeys, AreKeys, IsItemGap, AreItems, order_text, IsOrder, conds_text, AreConds, IsNothing, IsTemplate, construct_text, where_text}
use Rattle.xmas_tokens.specs.Tokens.{op_text}
use Rattle.xmas_tokens.specs.Lexical.{IsBlanks, IsGap, IsVar}
use Rattle.xmas_text.specs.Spots.{Frame, Head, Place, at_first, at_more, Before, first_cond, also_cond, Start, by_name, by_var, Spot, beginning, items, labelled, keys, key_comma, key_label, cond_start, cond_from, cond_path, cond_done, compared, ordering, ordering_by, sorted, may_group}
use Rattle.path_expr.specs.Grammar as paths

-- the text of an open element
abbrev pub frame_text : Frame → List ℕ
frame_text f = items_text f.before ++ (f.gap ++ 60 ∷ (f.name ++ 62 ∷ []))

-- the text of open elements
abbrev pub outer_text : List Frame → List ℕ
outer_text [] = []
outer_text (f ∷ o) = outer_text o ++ frame_text f

-- the text up to the last item
abbrev pub base : List ℕ → List Frame → Items → List ℕ
base lead o xs = lead ++ (construct_text ++ (outer_text o ++ items_text xs))

-- the text up to WHERE
abbrev pub head_text : Head → List ℕ
head_text r = r.lead ++ (construct_text ++ (items_text r.template ++ (r.gap ++ where_text)))

-- the text of the word `label`
abbrev pub label_text : List ℕ
label_text = codes "label"

-- the text before a key: nothing, or blanks and a comma
abbrev pub place_text : Place → List ℕ
place_text at_first = []
place_text (at_more h) = h ++ 44 ∷ []

-- what stands before a condition
abbrev pub before_text : Before → List ℕ
before_text first_cond = []
before_text (also_cond cs g) = conds_text cs ++ (g ++ codes "AND")

-- what a condition begins with
abbrev pub start_text : Start → List ℕ
start_text (by_name n) = n
start_text (by_var v) = 36 ∷ v

-- the text up to a spot
abbrev pub spot_text : Spot → List ℕ
spot_text beginning = []
spot_text (items lead o xs) = base lead o xs
spot_text (labelled lead o xs g) = base lead o xs ++ (g ++ label_text)
spot_text (keys lead o xs g ks) = base lead o xs ++ (g ++ 123 ∷ keys_text ks)
spot_text (key_comma lead o xs g ks h) = base lead o xs ++ (g ++ 123 ∷ (keys_text ks ++ (h ++ 44 ∷ [])))
spot_text (key_label lead o xs g ks p h) = base lead o xs ++ (g ++ 123 ∷ (keys_text ks ++ (place_text p ++ (h ++ label_text))))
spot_text (cond_start r b) = head_text r ++ before_text b
spot_text (cond_from r b g s) = head_text r ++ (before_text b ++ (g ++ start_text s))
spot_text (cond_path r b g s h p) = head_text r ++ (before_text b ++ (g ++ (start_text s ++ (h ++ paths.text_of p))))
spot_text (cond_done r cs) = head_text r ++ conds_text cs
spot_text (compared r b g v h o) = head_text r ++ (before_text b ++ (g ++ 36 ∷ (v ++ (h ++ op_text o))))
spot_text (ordering r cs g) = head_text r ++ (conds_text cs ++ (g ++ codes "ORDER"))
spot_text (ordering_by r cs g h) = head_text r ++ (conds_text cs ++ (g ++ (codes "ORDER" ++ (h ++ codes "BY"))))
spot_text (sorted r cs o) = head_text r ++ (conds_text cs ++ order_text o)

-- the element at hand, in those around it; the outermost one is the template
abbrev pub IsTop : Items → Type 0
IsTop nothing = Unit {0}
IsTop (variable before g k e) = ⊥
IsTop (literal before g ps) = ⊥
IsTop (element before g n i h c e) = IsTemplate (element before g n i h c e)

-- where an element may begin
abbrev pub Begins : List Frame → Items → List ℕ → Type 0
Begins [] before g = IsNothing before × IsGap g
Begins (f ∷ o) before g = IsItemGap before g

-- the items at hand and the open elements around them are as the grammar has them
abbrev pub Level : List Frame → Items → Type 0
Level [] xs = IsTop xs
Level (f ∷ o) xs = AreItems xs × IsName f.name × Begins o f.before f.gap × Level o f.before

-- an element is open
abbrev pub Inside : List Frame → Type 0
Inside [] = ⊥
Inside (f ∷ o) = Unit {0}

-- what stands before the conditions is as the grammar has it
abbrev pub IsHead : Head → Type 0
IsHead r = IsBlanks r.lead × IsTemplate r.template × IsGap r.gap

-- a key may stand at this place of the keys
abbrev pub IsPlace : Keys → Place → Type 0
IsPlace none at_first = Unit {0}
IsPlace (first g k) at_first = ⊥
IsPlace (more ks g h k) at_first = ⊥
IsPlace none (at_more h) = ⊥
IsPlace (first g k) (at_more h) = IsBlanks h
IsPlace (more ks g e k) (at_more h) = IsBlanks h

-- what stands before a condition is as the grammar has it
abbrev pub IsBefore : Before → Type 0
IsBefore first_cond = Unit {0}
IsBefore (also_cond cs g) = AreConds cs × IsGap g

-- what a condition begins with is a name or a variable of the grammar
abbrev pub IsStart : Start → Type 0
IsStart (by_name n) = IsName n
IsStart (by_var v) = IsVar v

-- what stands before a token is as the grammar has it
abbrev pub IsSpot : Spot → Type 0
IsSpot beginning = Unit {0}
IsSpot (items lead o xs) = IsBlanks lead × Level o xs
IsSpot (labelled lead o xs g) = IsBlanks lead × Level o xs × Inside o × IsItemGap xs g
IsSpot (keys lead o xs g ks) = IsBlanks lead × Level o xs × IsTrue (may_group xs) × IsBlanks g × AreKeys ks
IsSpot (key_comma lead o xs g ks h) = IsBlanks lead × Level o xs × IsTrue (may_group xs) × IsBlanks g × AreKeys ks × HasKeys ks × IsBlanks h
IsSpot (key_label lead o xs g ks p h) = IsBlanks lead × Level o xs × IsTrue (may_group xs) × IsBlanks g × AreKeys ks × IsPlace ks p × IsBlanks h
IsSpot (cond_start r b) = IsHead r × IsBefore b
IsSpot (cond_from r b g s) = IsHead r × IsBefore b × IsGap g × IsStart s
IsSpot (cond_path r b g s h p) = IsHead r × IsBefore b × IsGap g × IsStart s × IsGap h × paths.Is p paths.a_path
IsSpot (cond_done r cs) = IsHead r × AreConds cs
IsSpot (compared r b g v h o) = IsHead r × IsBefore b × IsGap g × IsVar v × IsBlanks h
IsSpot (ordering r cs g) = IsHead r × AreConds cs × IsGap g
IsSpot (ordering_by r cs g h) = IsHead r × AreConds cs × IsGap g × IsGap h
IsSpot (sorted r cs o) = IsHead r × AreConds cs × IsOrder o
