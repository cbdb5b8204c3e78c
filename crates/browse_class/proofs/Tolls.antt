-- Tolls of lists, by the profiles of what they are made of.
use Rattle.std.proofs.Common.{◌≡◌, ℕ, ◌+◌, List, [], ◌∷◌, refl, sym, ap, subst, ◌∙◌, arith}
use Rattle.std.specs.Prelude.{Option, Some, None}
use Rattle.std.specs.List.{AllByRecursion}
use Rattle.mix_base.specs.Events.{skip, bind}
use Rattle.mix_tree.specs.Forest.{Forest, none, tree}
use Rattle.mix_tree.specs.Nodes.{Documents, kids_at}
use Rattle.plan_core.specs.declared.plan.Piece.{Piece}
use Rattle.plan_core.specs.declared.plan.Piece.TheVariants.{Var as var_piece, LabelOf as label_piece, Text as text_piece}
use Rattle.plan_core.specs.Events.{RowEvents}
use Rattle.plan_core.specs.Tolled.{Tolled, ends as the_end, item, dearer, tolled_followed, charged}
use Rattle.plan_core.specs.TolledRows.{TolledValue, of_source, element, trees, TolledRow, tolled_value, value_trees, piece_items, all_items, collected}
use Rattle.plan_core.specs.Valid.{Kind, a_node, an_element, a_list, Kinds, IsPiece, IsSinglePiece}
use Rattle.browse_profile.specs.declared.profile.Profile.{Profile}
use Rattle.browse_profile.specs.Bounds.{Within}
use Rattle.browse_class.specs.Bound.{IsValue, HasValue, IsBound}
use Rattle.browse_class.specs.Cheap.{spine, IsCheap, IsCheapBelow, AtMost, IsWithin}
use Rattle.browse_profile.specs.Costs.{Costs, ends, stop, more, followed, costs_of}
use Rattle.browse_class.specs.Facts.{Facts, one_item, kind_profile, piece_profile, pieces_from, pieces_profile}
use Rattle.browse_profile.specs.Fits.{FourFit, After}
use Rattle.browse_visit.specs.Layouts.{Layout}
use Rattle.browse_profile.specs.Profiles.{costless, in_turn}
use Rattle.plan_core.specs.Beside.{EachBinding}
use Rattle.browse_profile.proofs.Following.{more-zero, followed_assoc, fits_in_turn}

-- the value of a variable that is bound
pub value_of : (docs : Documents) (most : Option ℕ) (kinds : Kinds) (f : Facts) (row : TolledRow) → IsBound docs most kinds f row → (v : ℕ) (k : Kind) → kinds v ≡ Some k → IsValue docs most k (f.layouts v) (f.lists v) (tolled_value row v)
value_of docs most kinds f row b v k e = (let h : HasValue docs most (Some k) (f.layouts v) (f.lists v) row [] v = subst (λ (j : Option Kind). HasValue docs most j (f.layouts v) (f.lists v) row [] v) e (b v []) in h.1)

-- a further toll of a list is a further cost of its own tolls
spine-dearer : (n : ℕ) (f : Tolled) → spine (dearer n f) ≡ more n (spine f)
spine-dearer n (the_end t) = refl
spine-dearer n (item t label kids rest) = refl

-- the own tolls of one list after another are those of the one after those of the other
pub spine-followed : (f g : Tolled) → spine (tolled_followed f g) ≡ followed (spine f) (spine g)
spine-followed (the_end t) g = spine-dearer t g
spine-followed (item t label kids rest) g = ap (stop t) (spine-followed rest g)

-- trees below a list whose first toll is raised are as cheap as before
cheap_dearer : (most : Option ℕ) (n : ℕ) (f : Tolled) → IsCheapBelow most f → IsCheapBelow most (dearer n f)
cheap_dearer most n (the_end t) h = tt
cheap_dearer most n (item t label kids rest) h = h

-- trees below one list after another are cheap where those below each are
cheap_followed : (most : Option ℕ) (f g : Tolled) → IsCheapBelow most f → IsCheapBelow most g → IsCheapBelow most (tolled_followed f g)
cheap_followed most (the_end t) g h k = cheap_dearer most t g k
cheap_followed most (item t label kids rest) g h k = (h.0, cheap_followed most rest g h.1 k)

-- trees of a source have no toll above 1
cheap_charged : (most : Option ℕ) → Within 1 most → (f : Forest) → IsCheap most (charged f)
cheap_charged most m none = m
cheap_charged most m (tree label kids rest) = (m, cheap_charged most m kids, cheap_charged most m rest)

-- 0 is within every bound
pub within_zero : (most : Option ℕ) → Within 0 most
within_zero None = tt
within_zero (Some k) = omega arith

-- a number within a bound that is at most another
within_most : (x most : Option ℕ) (n : ℕ) → AtMost x most → Within n x → Within n most
within_most x None n a w = tt
within_most None (Some m) n a w = absurd a
within_most (Some k) (Some m) n a w = omega (arith, a, w)

-- a list whose profile is within a number is cheap
cheap_after : (most : Option ℕ) (p : Profile) → IsWithin most p → (f : Tolled) → After p (spine f) → IsCheapBelow most f → IsCheap most f
cheap_after most p w (the_end t) h b = within_most p.trail most t w.trail h
cheap_after most p w (item t label kids rest) h b = (within_most p.between most t w.between h.0, b.0, cheap_after most p w rest h.2 b.1)

-- a list whose own tolls and those below its trees are within a bound is cheap
pub cheap_list : (most : Option ℕ) (p : Profile) → IsWithin most p → (f : Tolled) → FourFit p (spine f) → IsCheapBelow most f → IsCheap most f
cheap_list most p w (the_end t) h b = within_most p.none most t w.none h.0
cheap_list most p w (item t label kids rest) h b = (within_most p.lead most t w.lead h.0, b.0, cheap_after most p w rest h.2 b.1)

module _ (docs : Documents) (most : Option ℕ) (one : Within 1 most) (kinds : Kinds) (f : Facts) where
  -- below the trees of a value that is bound, before others, all is cheap where it is below the others
  cheap_value : (k : Kind) (gs : List Layout) (p : Profile) (x : TolledValue) (rest : Tolled) → IsValue docs most k gs p x → IsCheapBelow most rest → IsCheapBelow most (value_trees docs x rest)
  cheap_value a_node gs p (of_source n) rest h r = (cheap_charged most one (kids_at docs n), r)
  cheap_value a_node gs p (element label kids) rest h r = absurd h
  cheap_value a_node gs p (trees t) rest h r = absurd h
  cheap_value an_element gs p (of_source n) rest h r = absurd h
  cheap_value an_element gs p (element label kids) rest h r = (h, r)
  cheap_value an_element gs p (trees t) rest h r = absurd h
  cheap_value a_list gs p (of_source n) rest h r = absurd h
  cheap_value a_list gs p (element label kids) rest h r = absurd h
  cheap_value a_list gs p (trees t) rest h r = cheap_followed most t rest h.1 r

  -- below the trees of a piece, before others, all is cheap where it is below the others
  cheap_piece : (piece : Piece) (row : TolledRow) (rest : Tolled) → IsPiece kinds piece → IsBound docs most kinds f row → IsCheapBelow most rest → IsCheapBelow most (piece_items docs piece row rest)
  cheap_piece (var_piece v) row rest h b r = cheap_value h.0 (f.layouts v) (f.lists v) (tolled_value row v) rest (value_of docs most kinds f row b v h.0 h.1) r
  cheap_piece (label_piece v) row rest h b r = (within_zero most, r)
  cheap_piece (text_piece label) row rest h b r = (within_zero most, r)

  -- the costs of the own tolls of a value's trees
  abbrev value_costs : TolledValue → Costs
  value_costs (of_source n) = stop 0 (ends 0)
  value_costs (element label kids) = stop 0 (ends 0)
  value_costs (trees t) = spine t

  -- the costs of the own tolls of a piece's trees
  abbrev piece_costs : TolledRow → Piece → Costs
  piece_costs row (var_piece v) = value_costs (tolled_value row v)
  piece_costs row (label_piece v) = stop 0 (ends 0)
  piece_costs row (text_piece label) = stop 0 (ends 0)

  -- the own tolls of a value's trees before others are those of the value, and then those of the others
  spine-value : (x : TolledValue) (rest : Tolled) → spine (value_trees docs x rest) ≡ followed (value_costs x) (spine rest)
  spine-value (of_source n) rest = ap (stop 0) (sym (more-zero (spine rest)))
  spine-value (element label kids) rest = ap (stop 0) (sym (more-zero (spine rest)))
  spine-value (trees t) rest = spine-followed t rest

  -- the own tolls of a piece's trees before others are those of the piece, and then those of the others
  spine-piece : (piece : Piece) (row : TolledRow) (rest : Tolled) → spine (piece_items docs piece row rest) ≡ followed (piece_costs row piece) (spine rest)
  spine-piece (var_piece v) row rest = spine-value (tolled_value row v) rest
  spine-piece (label_piece v) row rest = ap (stop 0) (sym (more-zero (spine rest)))
  spine-piece (text_piece label) row rest = ap (stop 0) (sym (more-zero (spine rest)))

  -- an item by itself is as its profile says
  one_fits : FourFit one_item (stop 0 (ends 0))
  one_fits = (omega arith, refl, omega arith)

  -- the own tolls of the trees of a value of a kind are as the kind's profile says
  value_fits : (k : Kind) (gs : List Layout) (p : Profile) (x : TolledValue) → IsValue docs most k gs p x → FourFit (kind_profile (Some k) p) (value_costs x)
  value_fits a_node gs p (of_source n) h = one_fits
  value_fits a_node gs p (element label kids) h = absurd h
  value_fits a_node gs p (trees t) h = absurd h
  value_fits an_element gs p (of_source n) h = absurd h
  value_fits an_element gs p (element label kids) h = one_fits
  value_fits an_element gs p (trees t) h = absurd h
  value_fits a_list gs p (of_source n) h = absurd h
  value_fits a_list gs p (element label kids) h = absurd h
  value_fits a_list gs p (trees t) h = h.0

  -- the own tolls of a piece's trees are as the piece's profile says
  piece_fits : (piece : Piece) (row : TolledRow) → IsPiece kinds piece → IsBound docs most kinds f row → FourFit (piece_profile kinds f.lists piece) (piece_costs row piece)
  piece_fits (var_piece v) row h b =
      subst (λ (j : Option Kind). FourFit (kind_profile j (f.lists v)) (value_costs (tolled_value row v))) (sym h.1)
      (value_fits h.0 (f.layouts v) (f.lists v) (tolled_value row v) (value_of docs most kinds f row b v h.0 h.1))
  piece_fits (label_piece v) row h b = one_fits
  piece_fits (text_piece label) row h b = one_fits

  -- nothing after a list changes no costs
  followed_end : (c : Costs) → followed c (ends 0) ≡ c
  followed_end (ends t) = let e : t + 0 ≡ t = omega arith in ap ends e
  followed_end (stop t c) = ap (stop t) (followed_end c)

  -- the own tolls of pieces' trees, after what is before them, are as the profile of both says
  pieces_fit : (pieces : List Piece) (row : TolledRow) (before : Profile) (c : Costs) → AllByRecursion (IsPiece kinds) pieces → IsBound docs most kinds f row → FourFit before c
      → FourFit (pieces_from before kinds f.lists pieces) (followed c (spine (all_items docs pieces row (the_end 0))))
  pieces_fit [] row before c h b k = subst (FourFit before) (sym (followed_end c)) k
  pieces_fit (p ∷ pieces) row before c h b k =
      let rest : Tolled = all_items docs pieces row (the_end 0) in
      subst (FourFit (pieces_from (in_turn before (piece_profile kinds f.lists p)) kinds f.lists pieces))
      (followed_assoc c (piece_costs row p) (spine rest) ∙ ap (followed c) (sym (spine-piece p row rest)))
      (pieces_fit pieces row (in_turn before (piece_profile kinds f.lists p)) (followed c (piece_costs row p)) h.1 b (fits_in_turn before (piece_profile kinds f.lists p) c (piece_costs row p) k (piece_fits p row h.0 b)))

  -- below the trees of pieces all is cheap
  cheap_pieces : (pieces : List Piece) (row : TolledRow) → AllByRecursion (IsPiece kinds) pieces → IsBound docs most kinds f row → IsCheapBelow most (all_items docs pieces row (the_end 0))
  cheap_pieces [] row h b = tt
  cheap_pieces (p ∷ pieces) row h b = cheap_piece p row (all_items docs pieces row (the_end 0)) h.0 b (cheap_pieces pieces row h.1 b)

  -- the list of a concatenation is a list with such tolls as its facts say
  pub concatenation_is : (pieces : List Piece) (row : TolledRow) (gs : List Layout) → AllByRecursion (IsPiece kinds) pieces → IsBound docs most kinds f row
      → IsValue docs most a_list gs (pieces_profile kinds f.lists pieces) (trees (all_items docs pieces row (the_end 0)))
  concatenation_is pieces row gs h b = (
    subst (FourFit (pieces_profile kinds f.lists pieces)) (more-zero (spine (all_items docs pieces row (the_end 0)))) (pieces_fit pieces row costless (ends 0) h b (omega arith, refl)),
    cheap_pieces pieces row h b,
  )

  -- the element over a list whose tolls are within a bound is an element below which all is cheap
  pub element_is : (label : List ℕ) (list : ℕ) (row : TolledRow) (gs : List Layout) (p : Profile) → IsWithin most (f.lists list) → kinds list ≡ Some a_list → IsBound docs most kinds f row
      → IsValue docs most an_element gs p (element label (piece_items docs (var_piece list) row (the_end 0)))
  element_is label list row gs p w e b = whole (tolled_value row list) (value_of docs most kinds f row b list a_list e)
    where
      whole : (x : TolledValue) → IsValue docs most a_list (f.layouts list) (f.lists list) x → IsCheap most (value_trees docs x (the_end 0))
      whole (of_source n) h = absurd h
      whole (element l kids) h = absurd h
      whole (trees t) h =
          cheap_list most (f.lists list) w (tolled_followed t (the_end 0)) (subst (FourFit (f.lists list)) (sym (spine-followed t (the_end 0) ∙ followed_end (spine t))) h.0) (cheap_followed most t (the_end 0) h.1 tt)

  -- a single piece is one item
  single_piece : (piece : Piece) → IsSinglePiece kinds piece → IsPiece kinds piece
  single_piece (var_piece v) h = (h.0, h.1)
  single_piece (label_piece v) h = h
  single_piece (text_piece label) h = h

  -- a value that is no list has one tree, with no toll of its own
  single_value : (k : Kind) (gs : List Layout) (p : Profile) (x : TolledValue) → (k ≡ a_list → ⊥) → IsValue docs most k gs p x → value_costs x ≡ stop 0 (ends 0)
  single_value a_node gs p (of_source n) other h = refl
  single_value a_node gs p (element label kids) other h = absurd h
  single_value a_node gs p (trees t) other h = absurd h
  single_value an_element gs p (of_source n) other h = absurd h
  single_value an_element gs p (element label kids) other h = refl
  single_value an_element gs p (trees t) other h = absurd h
  single_value a_list gs p x other h = absurd (other refl)

  -- a single piece has one tree, with no toll of its own
  single_costs : (piece : Piece) (row : TolledRow) → IsSinglePiece kinds piece → IsBound docs most kinds f row → piece_costs row piece ≡ stop 0 (ends 0)
  single_costs (var_piece v) row h b = single_value h.0 (f.layouts v) (f.lists v) (tolled_value row v) h.2 (value_of docs most kinds f row b v h.0 h.1)
  single_costs (label_piece v) row h b = refl
  single_costs (text_piece label) row h b = refl

  -- the own tolls of a single piece's tree before others are no toll, and then those of the others
  spine-single : (piece : Piece) (row : TolledRow) (rest : Tolled) → IsSinglePiece kinds piece → IsBound docs most kinds f row → spine (piece_items docs piece row rest) ≡ stop 0 (spine rest)
  spine-single piece row rest h b = spine-piece piece row rest ∙ ap (λ (c : Costs). followed c (spine rest)) (single_costs piece row h b) ∙ ap (stop 0) (more-zero (spine rest))

  -- the own tolls of the list that events give are the costs of the events
  spine-collected : (piece : Piece) (es : RowEvents) → IsSinglePiece kinds piece → EachBinding (IsBound docs most kinds f) es → spine (collected docs piece es (the_end 0)) ≡ costs_of es
  spine-collected piece [] h b = refl
  spine-collected piece (skip ∷ es) h b = spine-dearer 1 (collected docs piece es (the_end 0)) ∙ ap (more 1) (spine-collected piece es h b)
  spine-collected piece (bind row ∷ es) h b =
      spine-dearer 1 (piece_items docs piece row (collected docs piece es (the_end 0)))
      ∙ ap (more 1) (spine-single piece row (collected docs piece es (the_end 0)) h b.0)
      ∙ ap (stop 1) (spine-collected piece es h b.1)

  -- below the trees of the list that events give all is cheap
  cheap_collected : (piece : Piece) (es : RowEvents) → IsSinglePiece kinds piece → EachBinding (IsBound docs most kinds f) es → IsCheapBelow most (collected docs piece es (the_end 0))
  cheap_collected piece [] h b = tt
  cheap_collected piece (skip ∷ es) h b = cheap_dearer most 1 (collected docs piece es (the_end 0)) (cheap_collected piece es h b)
  cheap_collected piece (bind row ∷ es) h b =
      cheap_dearer most 1 (piece_items docs piece row (collected docs piece es (the_end 0)))
      (cheap_piece piece row (collected docs piece es (the_end 0)) (single_piece piece h) b.0 (cheap_collected piece es h b.1))

  -- the list of a groupBy by no keys is a list with such tolls as its facts say
  pub gathered_is : (piece : Piece) (es : RowEvents) (gs : List Layout) → IsSinglePiece kinds piece → EachBinding (IsBound docs most kinds f) es → FourFit f.profile (costs_of es)
      → IsValue docs most a_list gs f.profile (trees (collected docs piece es (the_end 0)))
  gathered_is piece es gs h b k = (subst (FourFit f.profile) (sym (spine-collected piece es h b)) k, cheap_collected piece es h b)

  -- the list of a group, which stands at its first member, is a list with such tolls as its facts say
  pub group_is : (piece : Piece) (row : TolledRow) (es : RowEvents) (gs : List Layout) (p : Profile) → IsSinglePiece kinds piece → IsBound docs most kinds f row → EachBinding (IsBound docs most kinds f) es
      → FourFit p (stop 0 (costs_of es)) → IsValue docs most a_list gs p (trees (piece_items docs piece row (collected docs piece es (the_end 0))))
  group_is piece row es gs p h b c k = (
    subst (FourFit p) (sym (spine-single piece row (collected docs piece es (the_end 0)) h b ∙ ap (stop 0) (spine-collected piece es h c))) k,
    cheap_piece piece row (collected docs piece es (the_end 0)) (single_piece piece h) b (cheap_collected piece es h c),
  )
