-- Levels followed one after another.
use Rattle.std.proofs.Common.{◌≡◌, ◌∙◌, ◌<◌, ℕ, List, [], ◌∷◌, Option, Some, None, refl, sym, ap, subst, length}
use Rattle.std.specs.Prelude.{Bool, IsTrue, true, false, cond, ◌==◌, MatchOption, option_map, slice_get}
use Rattle.mix_base.proofs.Choices.{none_some}
use Rattle.mix_tree.specs.Nodes.{Documents}
use Rattle.node_text.specs.Node.{LevelValue}
use Rattle.plan_core.specs.declared.plan.Piece.{Piece}
use Rattle.plan_core.specs.declared.plan.Piece.TheVariants.{Var as var_piece, LabelOf as label_piece, Text as text_piece}
use Rattle.plan_core.specs.declared.plan.Plan.{Plan}
use Rattle.plan_core.specs.ByNumber.{op_at}
use Rattle.plan_core.specs.PlanMade.{plan_value}
use Rattle.plan_core.specs.Plans.{Operator}
use Rattle.plan_core.specs.Shapes.{shape_at}
use Rattle.plan_evidence.specs.Named.{Listing, of_pieces, of_group, listing, list_of, IsSingle}
use Rattle.plan_forms.specs.Forms.{pieces_of, piece_at, input_at}
use Rattle.lazy_plan.specs.Bench.{BenchState, ops_of, documents, told, KeepsBench}
use Rattle.lazy_follow.specs.declared.ends.TreeAt.{TreeAt}
use Rattle.lazy_follow.specs.declared.evidence.Evidence.{Evidence}
use Rattle.lazy_follow.specs.declared.following.Trail.{Trail}
use Rattle.lazy_follow.specs.declared.members.Group.{Group}
use Rattle.lazy_follow.specs.Choosing.{HasPiece, MakesPieces}
use Rattle.lazy_follow.specs.Ends.{IsTreeAt, stand_of}
use Rattle.lazy_follow.specs.Following.{Choice, nothing, a_tree, a_member, a_list_among, without_places, value_choice, piece_choice, choice, Stand, FollowsFrom, Follows, Ending, before, choice_ending, ending}
use Rattle.lazy_follow.specs.Levels.{IsListIn, LeadsNowhere}
use Rattle.lazy_follow.specs.declared.mark.Shown.{Shown}
use Rattle.lazy_follow.specs.Marks.{AreMembers, IsShown, member_ops, HasEnd}
use Rattle.lazy_follow.specs.Scope.{InScope}
use Rattle.lazy_follow.specs.Spotted.{IsSpotted}
use Rattle.lazy_follow.specs.Trails.{GivesTrail, GoesBefore}
use Rattle.lazy_follow.proofs.Groups.{spotted_on}

-- WHAT WAS CHOSEN

-- the piece whose tree is chosen
abbrev chosen_piece : Choice → Piece
chosen_piece nothing = text_piece []
chosen_piece (a_tree piece) = piece
chosen_piece (a_member n keys piece) = piece
chosen_piece (a_list_among pieces) = text_piece []

-- what is chosen without places is chosen by a level that has none
bare : (places : List (List ℕ)) (c d : Choice) → without_places places c ≡ d → (nothing ≡ d → ⊥) → (places ≡ []) × (c ≡ d)
bare [] c d e n = (refl, e)
bare (p ∷ places) c d e n = absurd (n e)

-- the tree of a piece that a level chooses is that of no list, and the level has no places
abbrev IsBareTree : List Operator → List (List ℕ) → Piece → Type 0
IsBareTree ops places x = IsSingle ops x × (places ≡ [])

-- nothing is no tree
no_tree : (x : Piece) → nothing ≡ a_tree x → ⊥
no_tree x e = cc

-- the tree that is chosen of a piece
bare_tree : (ops : List Operator) (places : List (List ℕ)) (y x : Piece) → IsSingle ops y → without_places places (a_tree y) ≡ a_tree x → IsBareTree ops places x
bare_tree ops places y x h e = (let r = bare places (a_tree y) (a_tree x) e (no_tree x) in (subst (IsSingle ops) (ap chosen_piece r.1) h, r.0))

-- the tree that is chosen of a variable's value
value_tree : (ops : List Operator) (v : ℕ) (places : List (List ℕ)) (o : Option Listing) (x : Piece) → list_of ops v ≡ o → value_choice v places o ≡ a_tree x → IsBareTree ops places x
value_tree ops v places None x l e = bare_tree ops places (var_piece v) x l e
value_tree ops v places (Some (of_pieces inner)) x l e = (let r = bare places (a_list_among inner) (a_tree x) e (no_tree x) in let z = r.1 in let f : ⊥ = cc in absurd f)
value_tree ops v places (Some (of_group n keys piece)) x l e = (let f : ⊥ = cc in absurd f)

-- the tree that is chosen of a piece at an index
piece_tree : (ops : List Operator) (places : List (List ℕ)) (o : Option Piece) (x : Piece) → piece_choice ops places o ≡ a_tree x → IsBareTree ops places x
piece_tree ops places None x e = absurd (no_tree x e)
piece_tree ops places (Some (var_piece v)) x e = value_tree ops v places (list_of ops v) x refl e
piece_tree ops places (Some (label_piece v)) x e = bare_tree ops places (label_piece v) x tt e
piece_tree ops places (Some (text_piece label)) x e = bare_tree ops places (text_piece label) x tt e

-- where a level chooses a tree, it is that of no list, and the level has no places
pub tree_chosen : (ops : List Operator) (list : Listing) (l : LevelValue) (x : Piece) → choice ops list l ≡ a_tree x → IsBareTree ops l.tuple x
tree_chosen ops (of_pieces pieces) l x e = piece_tree ops l.tuple (slice_get pieces l.piece) x e
tree_chosen ops (of_group n keys piece) l x e = either (l.piece == 0) e
  where
    either : (t : Bool) → cond t (a_member n keys piece) nothing ≡ a_tree x → IsBareTree ops l.tuple x
    either true q = (let f : ⊥ = cc in absurd f)
    either false q = absurd (no_tree x q)

-- nothing is no list
no_among : (inner : List Piece) → nothing ≡ a_list_among inner → ⊥
no_among inner e = cc

-- the list that is chosen of a variable's value
value_among : (v : ℕ) (places : List (List ℕ)) (o : Option Listing) (inner : List Piece) → value_choice v places o ≡ a_list_among inner → places ≡ []
value_among v places None inner e = (bare places (a_tree (var_piece v)) (a_list_among inner) e (no_among inner)).0
value_among v places (Some (of_pieces pieces)) inner e = (bare places (a_list_among pieces) (a_list_among inner) e (no_among inner)).0
value_among v places (Some (of_group n keys piece)) inner e = (let f : ⊥ = cc in absurd f)

-- the list that is chosen of a piece at an index
piece_among : (ops : List Operator) (places : List (List ℕ)) (o : Option Piece) (inner : List Piece) → piece_choice ops places o ≡ a_list_among inner → places ≡ []
piece_among ops places None inner e = absurd (no_among inner e)
piece_among ops places (Some (var_piece v)) inner e = value_among v places (list_of ops v) inner e
piece_among ops places (Some (label_piece v)) inner e = (bare places (a_tree (label_piece v)) (a_list_among inner) e (no_among inner)).0
piece_among ops places (Some (text_piece label)) inner e = (bare places (a_tree (text_piece label)) (a_list_among inner) e (no_among inner)).0

-- where a level chooses a list among the pieces, it has no places
pub among_chosen : (ops : List Operator) (list : Listing) (l : LevelValue) (inner : List Piece) → choice ops list l ≡ a_list_among inner → l.tuple ≡ []
among_chosen ops (of_pieces pieces) l inner e = piece_among ops l.tuple (slice_get pieces l.piece) inner e
among_chosen ops (of_group n keys piece) l inner e = either (l.piece == 0) e
  where
    either : (t : Bool) → cond t (a_member n keys piece) nothing ≡ a_list_among inner → l.tuple ≡ []
    either true q = (let f : ⊥ = cc in absurd f)
    either false q = absurd (no_among inner q)

-- FROM CALL TO CALL

module _ (a b : BenchState) (kept : KeepsBench a b) where
  -- what holds of a state's documents and plan held before a call
  pub held_before : (P : Documents → Plan → Type 0) → P (documents b) b.plan → P (documents a) a.plan
  held_before P h = subst (λ (q : Plan). P (documents a) q) kept.plan (subst (λ (d : Documents). P d b.plan) kept.documents h)

  -- what held of them holds after it
  pub holds_after : (P : Documents → Plan → Type 0) → P (documents a) a.plan → P (documents b) b.plan
  holds_after P h = subst (λ (d : Documents). P d b.plan) (sym kept.documents) (subst (λ (q : Plan). P (documents a) q) (sym kept.plan) h)

  -- a list of pieces over the same binding
  pub inner_list : (places : List (List ℕ)) (here : Evidence) (n : ℕ) (from : Group) → from.op ≡ n → from.here.now ≡ here → IsSpotted a places here → MakesPieces (ops_of a) n → InScope (ops_of a) here.op n → IsListIn b places from
  inner_list places here n from e f h m s = record {
    here = subst (IsSpotted b places) (sym f) (spotted_on a b kept places here h);
    within = subst (λ (k : ℕ). k < length (ops_of b)) (sym e) (subst (λ (q : Plan). n < length (plan_value q).ops) (sym kept.plan) m.within);
    list = of_pieces (pieces_of (op_at (ops_of a) n));
    is_list =
        subst (λ (k : ℕ). listing (shape_at (ops_of b) k) ≡ Some (of_pieces (pieces_of (op_at (ops_of a) n)))) (sym e)
        (subst (λ (q : Plan). listing (shape_at (plan_value q).ops n) ≡ Some (of_pieces (pieces_of (op_at (ops_of a) n)))) (sym kept.plan) m.listed);
    scope =
        subst (λ (k : ℕ). InScope (ops_of b) from.here.now.op k) (sym e)
        (subst (λ (x : Evidence). InScope (ops_of b) x.op n) (sym f) (subst (λ (q : Plan). InScope (plan_value q).ops here.op n) (sym kept.plan) s));
  }

  -- the tree of a piece over a binding
  pub tree_at : (places : List (List ℕ)) (here : Evidence) (n index : ℕ) → IsSpotted b places here → HasPiece (ops_of a) n index → InScope (ops_of a) here.op (input_at (ops_of a) n)
      → IsSingle (ops_of a) (piece_at (ops_of a) n index) → (t : TreeAt) → t.op ≡ n → t.index ≡ index → t.here.now ≡ here → IsTreeAt b places t
  tree_at places here n index h has s single t e f g = record {
    here = subst (IsSpotted b places) (sym g) h;
    has_piece =
        subst (λ (k : ℕ). HasPiece (ops_of b) k t.index) (sym e)
        (subst (λ (k : ℕ). HasPiece (ops_of b) n k) (sym f) (subst (λ (q : Plan). HasPiece (plan_value q).ops n index) (sym kept.plan) has));
    scope =
        subst (λ (k : ℕ). InScope (ops_of b) t.here.now.op (input_at (ops_of b) k)) (sym e)
        (subst (λ (x : Evidence). InScope (ops_of b) x.op (input_at (ops_of b) n)) (sym g) (subst (λ (q : Plan). InScope (plan_value q).ops here.op (input_at (plan_value q).ops n)) (sym kept.plan) s));
    single =
        subst (λ (k : ℕ). IsSingle (ops_of b) (piece_at (ops_of b) k t.index)) (sym e)
        (subst (λ (k : ℕ). IsSingle (ops_of b) (piece_at (ops_of b) n k)) (sym f) (subst (λ (q : Plan). IsSingle (plan_value q).ops (piece_at (plan_value q).ops n index)) (sym kept.plan) single));
  }

-- FOLLOWING

module _ (docs : Documents) (ops : List Operator) (s : Stand) (list : Listing) (l : LevelValue) (ls : List LevelValue) (p : List ℕ) where
  -- what is said of the levels behind one
  abbrev pub Rest : Stand → Listing → Type 0
  Rest there inner = Follows docs ops there inner ls p

  -- a level and those behind it can be followed as from what it chooses
  pub follows_choice : (c : Choice) → choice ops list l ≡ c → FollowsFrom docs ops Rest s l.tuple c ls p → Follows docs ops s list (l ∷ ls) p
  follows_choice c e h = subst (λ (x : Choice). FollowsFrom docs ops Rest s l.tuple x ls p) (sym e) h

  -- a level and those behind it end where what it chooses does
  pub choice_ends : (c : Choice) → choice ops list l ≡ c → choice_ending ops (λ there inner. ending ops there inner ls) s l.tuple c ls ≡ ending ops s list (l ∷ ls)
  choice_ends c e = sym (ap (λ (x : Choice). choice_ending ops (λ there inner. ending ops there inner ls) s l.tuple x ls) e)

  -- and from what it chooses as the level and those behind it
  pub choice_follows : (c : Choice) → choice ops list l ≡ c → Follows docs ops s list (l ∷ ls) p → FollowsFrom docs ops Rest s l.tuple c ls p
  choice_follows c e h = subst (λ (x : Choice). FollowsFrom docs ops Rest s l.tuple x ls p) e h

-- where a level leads nowhere, none behind it can be followed
pub nowhere : (st : BenchState) (places : List (List ℕ)) (from : Group) (list : Listing) (l : LevelValue) (ls : List LevelValue) (p : List ℕ)
    → LeadsNowhere st places from l.tuple (choice (ops_of st) list l) → Follows (documents st) (ops_of st) (stand_of places from.here.now) list (l ∷ ls) p → ⊥
nowhere st places from list l ls p = by_choice (choice (ops_of st) list l)
  where
    by_choice : (c : Choice) → LeadsNowhere st places from l.tuple c
        → FollowsFrom (documents st) (ops_of st) (λ there inner. Follows (documents st) (ops_of st) there inner ls p) (stand_of places from.here.now) l.tuple c ls p → ⊥
    by_choice nothing h f = f
    by_choice (a_tree piece) h f = h
    by_choice (a_member n keys piece) h f = h f.0
    by_choice (a_list_among pieces) h f = h

-- TRAILS

-- what one level more leads to is evidence of a member, or none
abbrev pub IsMemberThere : BenchState → LevelValue → Option Evidence → Type 0
IsMemberThere st l m = MatchOption m (l.tuple ≡ []) (IsSpotted st l.tuple)

-- with one level more before them, levels end where they did
end_before : (st : BenchState) (D : Option Ending) (p : List ℕ) (m : Option Evidence) (input : Option ℕ) (members more : List (Option Evidence)) (shown : Shown)
    → option_map (λ (e : Evidence). e.op) m ≡ input → more ≡ m ∷ members → HasEnd st D p members shown → HasEnd st (option_map (before input) D) p more shown
end_before st None p m input members more shown o e h = h
end_before st (Some d) p m input members more shown o e h = record { shows = h.shows; inputs = ap member_ops e ∙ ap (λ (x : Option ℕ). x ∷ member_ops members) o ∙ ap (λ (xs : List (Option ℕ)). input ∷ xs) h.inputs }

-- a trail with one level more is one of that level and those behind it
pub trail_before : (old mid new : BenchState) → KeepsBench old mid → (l : LevelValue) (ls : List LevelValue) (p : List ℕ) (F G : Type 0) (E D : Option Ending) (input : Option ℕ)
    → option_map (before input) D ≡ E → (m : Option Evidence) → option_map (λ (e : Evidence). e.op) m ≡ input → (t r : Option Trail)
    → IsMemberThere new l m → (IsTrue (told old) → G → F) → (IsTrue (told old) → F → G) → GivesTrail mid new ls p G D t → GoesBefore m t r → GivesTrail old new (l ∷ ls) p F E r
trail_before old mid new kept l ls p F G E D input same m o None None h to from g b = λ tells f. g (kept.told ∙ tells) (from tells f)
trail_before old mid new kept l ls p F G E D input same m o None (Some y) h to from g b = none_some y (sym b)
trail_before old mid new kept l ls p F G E D input same m o (Some x) None h to from g b = absurd b
trail_before old mid new kept l ls p F G E D input same m o (Some x) (Some y) h to from g b = (
  record {
    members = subst (AreMembers new (l ∷ ls)) (sym b.0) (h, g.0.members);
    shown = subst (IsShown new) (sym b.1) g.0.shown;
  },
  λ tells. to tells (g.1 (kept.told ∙ tells)),
  subst (λ (e : Option Ending). HasEnd new e p y.members.items y.shown) same
      (end_before new D p m input x.members.items y.members.items y.shown o b.0 (subst (HasEnd new D p x.members.items) (sym b.1) g.2)),
)
