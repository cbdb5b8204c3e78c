-- Lists of trees with tolls.
use Rattle.std.proofs.Common.{◌≡◌, ℕ, ◌+◌, ◌≤◌, List, [], ◌∷◌, refl, ◌∙◌, sym, ap, arith}
use Rattle.mix_base.specs.Events.{skip, bind, nothing, finds, found, cost}
use Rattle.mix_tree.specs.Nodes.{Documents}
use Rattle.plan_core.specs.declared.plan.Piece.{Piece}
use Rattle.plan_core.specs.declared.plan.Piece.TheVariants.{Var as var_piece, LabelOf as label_piece, Text as text_piece}
use Rattle.plan_core.specs.Tolled.{Tolled, ends, item, toll, is_item, paid, dearer, tolled_followed}
use Rattle.plan_core.specs.TolledRows.{TolledValue, of_source, element, trees, TolledRow, tolled_value, value_trees, piece_items, all_items, collected}
use Rattle.plan_core.specs.Events.{RowEvents}

-- a list of trees with no further toll is the list
pub dearer_zero : (f : Tolled) → dearer 0 f ≡ f
dearer_zero (ends u) = let e : 0 + u ≡ u = omega arith in rw e refl
dearer_zero (item u x d r) = let e : 0 + u ≡ u = omega arith in rw e refl

-- a list of trees with one toll and another before it is one with both together
pub dearer_twice : (s t : ℕ) (f : Tolled) → dearer s (dearer t f) ≡ dearer (s + t) f
dearer_twice s t (ends u) = let e : s + (t + u) ≡ (s + t) + u = omega arith in rw e refl
dearer_twice s t (item u x d r) = let e : s + (t + u) ≡ (s + t) + u = omega arith in rw e refl

-- a toll before two lists of trees is one before the first
pub followed_dearer : (t : ℕ) (f g : Tolled) → tolled_followed (dearer t f) g ≡ dearer t (tolled_followed f g)
followed_dearer t (ends u) g = sym (dearer_twice t u g)
followed_dearer t (item u x d r) g = refl

-- three lists of trees one after another are the same, whichever two are put together first
pub followed_twice : (f g h : Tolled) → tolled_followed (tolled_followed f g) h ≡ tolled_followed f (tolled_followed g h)
followed_twice (ends u) g h = followed_dearer u g h
followed_twice (item u x d r) g h = rw (followed_twice r g h) refl

-- the trees of a value before two lists of trees are those of the value before the first, and then the second
value_followed : (docs : Documents) (v : TolledValue) (f g : Tolled) → tolled_followed (value_trees docs v f) g ≡ value_trees docs v (tolled_followed f g)
value_followed docs (of_source n) f g = refl
value_followed docs (element x k) f g = refl
value_followed docs (trees l) f g = followed_twice l f g

-- the trees of a piece before two lists of trees are those of the piece before the first, and then the second
pub piece_followed : (docs : Documents) (p : Piece) (b : TolledRow) (f g : Tolled) → tolled_followed (piece_items docs p b f) g ≡ piece_items docs p b (tolled_followed f g)
piece_followed docs (var_piece v) b f g = value_followed docs (tolled_value b v) f g
piece_followed docs (label_piece v) b f g = refl
piece_followed docs (text_piece x) b f g = refl

-- the trees of pieces before two lists of trees are those of the pieces before the first, and then the second
pub all_followed : (docs : Documents) (ps : List Piece) (b : TolledRow) (f g : Tolled) → tolled_followed (all_items docs ps b f) g ≡ all_items docs ps b (tolled_followed f g)
all_followed docs [] b f g = refl
all_followed docs (p ∷ ps) b f g = piece_followed docs p b (all_items docs ps b f) g ∙ ap (piece_items docs p b) (all_followed docs ps b f g)

-- collected trees before two lists of trees are those before the first, and then the second
pub collected_followed : (docs : Documents) (p : Piece) (es : RowEvents) (f g : Tolled) → tolled_followed (collected docs p es f) g ≡ collected docs p es (tolled_followed f g)
collected_followed docs p [] f g = refl
collected_followed docs p (skip ∷ es) f g = followed_dearer 1 (collected docs p es f) g ∙ ap (dearer 1) (collected_followed docs p es f g)
collected_followed docs p (bind b ∷ es) f g =
    followed_dearer 1 (piece_items docs p b (collected docs p es f)) g ∙ ap (dearer 1) (piece_followed docs p b (collected docs p es f) g ∙ ap (piece_items docs p b) (collected_followed docs p es f g))

-- without a binding what is collected is at its end
pub collected_nothing : (docs : Documents) (p : Piece) (es : RowEvents) (rest : Tolled) → found es ≡ nothing → collected docs p es rest ≡ dearer (cost es) rest
collected_nothing docs p [] rest h = sym (dearer_zero rest)
collected_nothing docs p (skip ∷ es) rest h =
    rw (collected_nothing docs p es rest h, dearer_twice 1 (cost es) rest) (let e : 1 + cost es ≡ cost es + 1 = omega arith in rw e refl)
collected_nothing docs p (bind b ∷ es) rest h = cc

-- the trees of a list after some events are those of the first binding that is found, and then those of the bindings after it
pub collected_finds : (docs : Documents) (p : Piece) (es : RowEvents) (rest : Tolled) (b : TolledRow) (later : RowEvents) → found es ≡ finds b later
    → collected docs p es rest ≡ dearer (cost es) (piece_items docs p b (collected docs p later rest))
collected_finds docs p [] rest b later h = cc
collected_finds docs p (skip ∷ es) rest b later h =
    rw (collected_finds docs p es rest b later h, dearer_twice 1 (cost es) (piece_items docs p b (collected docs p later rest))) (let e : 1 + cost es ≡ cost es + 1 = omega arith in rw e refl)
collected_finds docs p (bind a ∷ es) rest b later h =
    let e : a ≡ b = cc in let f : es ≡ later = cc in rw (e, f) refl

-- a further toll before trees adds to their toll
pub toll_dearer : (t : ℕ) (f : Tolled) → toll (dearer t f) ≡ t + toll f
toll_dearer t (ends u) = refl
toll_dearer t (item u x d r) = refl

-- a further toll before trees does not change whether there is a tree
pub is_item_dearer : (t : ℕ) (f : Tolled) → is_item (dearer t f) ≡ is_item f
is_item_dearer t (ends u) = refl
is_item_dearer t (item u x d r) = refl

-- a further toll before trees does not change what is there once the toll was paid
pub paid_dearer : (t : ℕ) (f : Tolled) → paid (dearer t f) ≡ paid f
paid_dearer t (ends u) = refl
paid_dearer t (item u x d r) = refl

-- the events up to the first binding cost no more than what is collected
pub toll_collected : (docs : Documents) (p : Piece) (es : RowEvents) (rest : Tolled) → cost es ≤ toll (collected docs p es rest)
toll_collected docs p [] rest = omega arith
toll_collected docs p (skip ∷ es) rest = let e = toll_dearer 1 (collected docs p es rest) in let i = toll_collected docs p es rest in omega (arith, e, i)
toll_collected docs p (bind b ∷ es) rest = let e = toll_dearer 1 (piece_items docs p b (collected docs p es rest)) in omega (arith, e)
