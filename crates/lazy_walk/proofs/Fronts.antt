-- Fronts of a text: levels that are cut at one point, and what levels name with a shorter place below.
use Rattle.std.proofs.Common.{◌≡◌, ◌∙◌, ℕ, zero, suc, ◌<◌, ◌≤◌, ◌+◌, true, List, [], ◌∷◌, ◌++◌, refl, sym, ap, subst, arith, length, take, drop}
use Rattle.std.proofs.lemmas.List.{take-append-drop, length-take-le}
use Rattle.mix_tree.specs.Forest.{Forest, none, tree, first_kids, from}
use Rattle.mix_tree.specs.Nodes.{Documents, label_at, kids_at}
use Rattle.mix_tree.specs.Place.{has_place}
use Rattle.node_text.specs.Node.{LevelValue}
use Rattle.plan_core.specs.declared.plan.Piece.{Piece}
use Rattle.plan_core.specs.declared.plan.Piece.TheVariants.{Var as var_piece, LabelOf as label_piece, Text as text_piece}
use Rattle.plan_core.specs.Plans.{Operator}
use Rattle.plan_core.specs.TolledRows.{TolledRow, TolledValue, of_source, element, trees, tolled_value}
use Rattle.plan_evidence.specs.Named.{Listing, before_piece, Reached, IsBelow, Ends, Leads, to_tree, to_element, to_pieces, NamesBy}
use Rattle.lazy_walk.proofs.Splits.{heads}
use Rattle.lazy_walk.proofs.Walking.{has_first}

-- LEVELS

-- where two lists are the same, and their fronts are as long, these are the same, and so is what is behind them
pub same_parts : (a b c d : List LevelValue) → a ++ b ≡ c ++ d → length a ≡ length c → (a ≡ c) × (b ≡ d)
same_parts [] b [] d e l = (refl, e)
same_parts [] b (y ∷ c) d e l = absurd (omega (arith, l))
same_parts (x ∷ a) b [] d e l = absurd (omega (arith, l))
same_parts (x ∷ a) b (y ∷ c) d e l =
    let h : x ≡ y = cc in
    let t : a ++ b ≡ c ++ d = cc in
    let r = same_parts a b c d t (omega (arith, l)) in
    (ap (λ (zs : List LevelValue). x ∷ zs) r.0 ∙ ap (λ (z : LevelValue). z ∷ c) h, r.1)

-- some levels are the first so many, then more of them up to a number, and others behind
pub record IsPart (levels : List LevelValue) (k m : ℕ) : Type 0 where
  pub next : LevelValue
  pub more : List LevelValue
  pub behind : List LevelValue
  pub front : take m levels ≡ take k levels ++ next ∷ more
  pub all : levels ≡ (take k levels ++ next ∷ more) ++ behind
  pub ahead : drop k levels ≡ (next ∷ more) ++ behind
  pub size : length (next ∷ more) + k ≡ m

pub part_at : (levels : List LevelValue) (k m : ℕ) → k < m → m ≤ length levels → IsPart levels k m
part_at [] k m l h = absurd (omega (arith, l, h))
part_at (x ∷ xs) k zero l h = absurd (omega (arith, l))
part_at (x ∷ xs) zero (suc m) l h =
    let w : m ≤ length xs = omega (arith, h) in
    let e = length-take-le m xs w in
    let same = take-append-drop m xs in
    record { next = x; more = take m xs; behind = drop m xs; front = refl; all = ap (λ (zs : List LevelValue). x ∷ zs) (sym same); ahead = ap (λ (zs : List LevelValue). x ∷ zs) (sym same); size = omega (arith, e) }
part_at (x ∷ xs) (suc k) (suc m) l h =
    let r = part_at xs k m (omega (arith, l)) (omega (arith, h)) in
    let s = r.size in
    record {
      next = r.next;
      more = r.more;
      behind = r.behind;
      front = ap (λ (zs : List LevelValue). x ∷ zs) r.front;
      all = ap (λ (zs : List LevelValue). x ∷ zs) r.all;
      ahead = r.ahead;
      size = omega (arith, s);
    }

-- PLACES

-- a front of an empty place is empty
none_before : (f g : List ℕ) → f ++ g ≡ [] → f ≡ []
none_before [] g e = refl
none_before (k ∷ f) g e = cc

-- where a place is, each front of it is
front_there : (f : Forest) (q r : List ℕ) → has_place f (q ++ r) ≡ true → has_place f q ≡ true
front_there f [] r h = has_first f r h
front_there f (k ∷ q) r h = front_there (from k (first_kids f)) q r h

module _ (docs : Documents) (ops : List Operator) where
  -- a front of a place below a value is one
  below_front : (x : TolledValue) (f g : List ℕ) → IsBelow docs ops x (f ++ g) → IsBelow docs ops x f
  below_front (of_source n) f g h = front_there (tree (label_at docs n) (kids_at docs n) none) f g h
  below_front (element label kids) f g h = none_before f g h
  below_front (trees t) f g h = absurd h

  -- where a piece ends levels with a place below it, it does with each front of that
  pub ends_front : (row : TolledRow) (piece : Piece) (f g : List ℕ) → Ends docs ops row piece (f ++ g) → Ends docs ops row piece f
  ends_front row (var_piece v) f g h = below_front (tolled_value row v) f g h
  ends_front row (label_piece v) f g h = none_before f g h
  ends_front row (text_piece label) f g h = none_before f g h

  -- levels lead to a top and to the place below that, and so to each front of that place
  pub record IsTop (here : Reached) (list : Listing) (ls : List LevelValue) (inside path : List ℕ) : Type 0 where
    pub first : ℕ
    pub top : List ℕ
    pub is : path ≡ first ∷ (top ++ inside)
    pub shorter : (f g : List ℕ) → inside ≡ f ++ g → Leads docs ops here list ls f (first ∷ (top ++ f))

  top_of : {here : Reached} {list : Listing} {ls : List LevelValue} {inside path : List ℕ} → Leads docs ops here list ls inside path → IsTop here list ls inside path
  top_of (to_tree {there = there} {j = j} {piece = piece} {p = p} pick ends) =
      record { first = j; top = []; is = refl; shorter = λ f g e. to_tree pick (ends_front there.row piece f g (subst (Ends docs ops there.row piece) e ends)) }
  top_of (to_element {j = j} pick e i more) =
      let x = top_of more in
      record { first = j; top = x.first ∷ x.top; is = ap (λ (w : List ℕ). j ∷ w) x.is; shorter = λ f g z. to_element pick e i (x.shorter f g z) }
  top_of {here = here} {inside = inside} (to_pieces {pieces = pieces} {l = l} {i = i} {q = q} get t lo more) =
      let x = top_of more in
      let parts : (i ≡ x.first) × (q ≡ x.top ++ inside) = heads i x.first q (x.top ++ inside) x.is in
      record {
        first = before_piece docs pieces here.row l.piece + x.first;
        top = x.top;
        is = ap (λ (k : ℕ). (before_piece docs pieces here.row l.piece + k) ∷ q) parts.0 ∙ ap (λ (w : List ℕ). (before_piece docs pieces here.row l.piece + x.first) ∷ w) parts.1;
        shorter = λ f g z. to_pieces get t lo (x.shorter f g z);
      }

  -- levels and a place below name a top with that place below, and with a front of the place the node there
  pub record IsTopNamed (ls : List LevelValue) (inside path : List ℕ) : Type 0 where
    pub top : List ℕ
    pub is : path ≡ top ++ inside
    pub shorter : (f g : List ℕ) → inside ≡ f ++ g → NamesBy docs ops ls f (top ++ f)

  pub named_top : (ls : List LevelValue) (inside path : List ℕ) → NamesBy docs ops ls inside path → IsTopNamed ls inside path
  named_top [] inside path h = record { top = []; is = h.1 ∙ sym h.0; shorter = λ f g e. (let z = none_before f g (sym e ∙ h.0) in (z, z)) }
  named_top (l ∷ ls) inside path h =
      let x = top_of h.leads in
      record { top = x.first ∷ x.top; is = x.is; shorter = λ f g e. record { here = h.here; inner = h.inner; is_outer = h.is_outer; leads = x.shorter f g e } }
