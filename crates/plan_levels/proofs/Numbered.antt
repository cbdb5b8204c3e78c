-- Levels that go through the same numbers lead into the same list, and there to the same index.
use Rattle.std.proofs.Common.{◌≡◌, ℕ, zero, suc, ◌+◌, Some, List, [], ◌∷◌, ◌++◌, refl, sym, ap, subst, ◌∙◌, arith, append_assoc}
use Rattle.std.specs.Prelude.{slice_get}
use Rattle.mix_base.proofs.Choices.{some_is}
use Rattle.mix_tree.specs.Nodes.{Documents}
use Rattle.mix_tree.specs.declared.var.Key.{Key}
use Rattle.node_text.specs.Node.{LevelValue}
use Rattle.plan_core.specs.declared.plan.Piece.{Piece}
use Rattle.plan_core.specs.declared.plan.Piece.TheVariants.{Var as var_piece}
use Rattle.plan_core.specs.Plans.{Operator}
use Rattle.plan_core.specs.TolledRows.{TolledRow}
use Rattle.plan_evidence.specs.Named.{Listing, of_pieces, of_group, list_of, IsSingle, before_piece, Reached, IsMember, Picks, of_member, of_piece, of_list_member}
use Rattle.plan_evidence.specs.Opened.{Enters, by_one, by_pieces}
use Rattle.plan_evidence.specs.Remains.{Remains, nothing_left, pieces_left, members_left, numbers_in, levels_through, IsAround, whole, a_piece}
use Rattle.plan_levels.specs.Entered.{numbers_of, member_numbers}
use Rattle.plan_levels.proofs.Entering.{not_both, group_same, no_list, one_listing}

-- levels through numbers have these
through_numbers : (ns : List ℕ) (n : ℕ) → numbers_of (levels_through [] (ns ++ n ∷ [])) ≡ ns ++ n ∷ []
through_numbers [] n = refl
through_numbers (a ∷ []) n = refl
through_numbers (a ∷ b ∷ ns) n = ap (λ (ms : List ℕ). a ∷ ms) (through_numbers (b ∷ ns) n)

module _ (docs : Documents) (ops : List Operator) (row : TolledRow) where
  -- how many trees stand before a list, by what is left around it
  abbrev pub base : Remains → ℕ
  base nothing_left = 0
  base (pieces_left pieces r zero around) = base around
  base (pieces_left pieces r (suc n) around) = base around + before_piece docs pieces row n
  base (members_left input keys piece ahead around) = base around

  -- levels that go through the numbers around a list of pieces lead on in it
  pub record IntoPieces (other also : Reached) (y : Piece) (r : Remains) (pieces : List Piece) (rest : List ℕ) (j : ℕ) : Type 0 where
    pub levels : List LevelValue
    pub index : ℕ
    pub enters : Enters docs ops other (of_pieces pieces) levels index also y
    pub numbers : numbers_of levels ≡ rest
    pub counts : j ≡ base r + index

  -- levels that go through the numbers around a group lead to a member of it
  pub record IntoGroup (other also : Reached) (r : Remains) (input : ℕ) (keys : List Key) (j : ℕ) : Type 0 where
    pub places : List (List ℕ)
    pub index : ℕ
    pub member : IsMember docs ops input keys other places index also
    pub counts : j ≡ base r + index

  -- the first member of a list, and the others
  head_is : (a b : ℕ) (xs ys : List ℕ) → a ∷ xs ≡ b ∷ ys → (a ≡ b) × (xs ≡ ys)
  head_is a b xs ys e = (let h : a ≡ b = cc in h, let t : xs ≡ ys = cc in t)

  module _ (outer : List Piece) (n v : ℕ) (get : slice_get outer n ≡ Some (var_piece v)) where
    -- so many trees are before a piece over the one binding and over the other
    before_same : (other : Reached) → other.row ≡ row → (l i k : ℕ) → l ≡ n → k ≡ before_piece docs outer other.row l + i → k ≡ before_piece docs outer row n + i
    before_same other f l i k e z = z ∙ ap (λ r. before_piece docs outer r l + i) f ∙ ap (λ m. before_piece docs outer row m + i) e

    -- levels that go through the number of a piece that is a list of pieces lead on in that
    into_inner : {other also : Reached} {y : Piece} → other.row ≡ row → (around : Remains) (r : TolledRow) (inner : List Piece) (rest : List ℕ) (ls : List LevelValue) (j k : ℕ) → list_of ops v ≡ Some (of_pieces inner) → Enters docs ops other (of_pieces outer) ls k also y
        → numbers_of ls ≡ n ∷ rest → j ≡ base around + k → IntoPieces other also y (pieces_left outer r (suc n) around) inner rest j
    into_inner f around r inner rest ls j k lo (by_one (of_piece {l = l} {piece = q} get' t s)) h z =
        absurd (no_list ops outer l.piece n v q (of_pieces inner) get' s get lo (head_is l.piece n [] rest h).0)
    into_inner f around r inner rest ls j k lo (by_one (of_list_member {v = w} {n = c} {keys = keys} {piece = x} {l = l} get' lo' m)) h z =
        absurd (not_both inner c keys x (one_listing ops outer n l.piece v w (of_pieces inner) (of_group c keys x) get get' lo lo' (sym (head_is l.piece n [] rest h).0)))
    into_inner {other = other} {also = also} {y = y} f around r inner rest ls j k lo (by_pieces {inner = inner'} {l = l} {ls = ms} {v = w} {i = i} get' t lo' more) h z =
        let p = head_is l.piece n (numbers_of ms) rest h in
        let same : of_pieces inner' ≡ of_pieces inner = one_listing ops outer l.piece n w v (of_pieces inner') (of_pieces inner) get' get lo' lo p.0 in
        let b = before_same other f l.piece i (before_piece docs outer other.row l.piece + i) p.0 refl in
        record {
          levels = ms;
          index = i;
          enters = subst (λ o. Enters docs ops other o ms i also y) same more;
          numbers = p.1;
          counts = omega (arith, z, b);
        }

    -- levels that go through the number of a piece that is a group lead to a member of it
    into_member : {other also : Reached} {y : Piece} → other.row ≡ row → (around : Remains) (r : TolledRow) (input : ℕ) (keys : List Key) (piece : Piece) (ls : List LevelValue) (j k : ℕ) → list_of ops v ≡ Some (of_group input keys piece)
        → Enters docs ops other (of_pieces outer) ls k also y → numbers_of ls ≡ n ∷ [] → j ≡ base around + k → IntoGroup other also (pieces_left outer r (suc n) around) input keys j
    into_member f around r input keys piece ls j k lo (by_one (of_piece {l = l} {piece = q} get' t s)) h z =
        absurd (no_list ops outer l.piece n v q (of_group input keys piece) get' s get lo (head_is l.piece n [] [] h).0)
    into_member {other = other} {also = also} f around r input keys piece ls j k lo (by_one (of_list_member {v = w} {n = c} {j = i} {keys = own} {piece = x} {l = l} get' lo' m)) h z =
        let p = (head_is l.piece n [] [] h).0 in
        let same = group_same c input own keys x piece (one_listing ops outer l.piece n w v (of_group c own x) (of_group input keys piece) get' get lo' lo p) in
        let b = before_same other f l.piece i (before_piece docs outer other.row l.piece + i) p refl in
        record {
          places = l.tuple;
          index = i;
          member = subst (λ (ks : List Key). IsMember docs ops input ks other l.tuple i also) same.1 (subst (λ d. IsMember docs ops d own other l.tuple i also) same.0 m);
          counts = omega (arith, z, b);
        }
    into_member f around r input keys piece ls j k lo (by_pieces {inner = inner} {l = l} {ls = ms} {v = w} get' t lo' more) h z =
        absurd (not_both inner input keys piece (one_listing ops outer l.piece n w v (of_pieces inner) (of_group input keys piece) get' get lo' lo (head_is l.piece n (numbers_of ms) [] h).0))

  -- levels that go through the numbers around a list of pieces lead on in it
  pub into_pieces : {other also : Reached} {y : Piece} {list : Listing} {r : Remains} {pieces : List Piece} → other.row ≡ row → IsAround docs ops row list r (of_pieces pieces) → (ms : List LevelValue) (j : ℕ) → Enters docs ops other list ms j also y → (rest : List ℕ)
      → numbers_of ms ≡ numbers_in r ++ rest → IntoPieces other also y r pieces rest j
  into_pieces f whole ms j e rest h = record { levels = ms; index = j; enters = e; numbers = h; counts = omega arith }
  into_pieces {pieces = pieces} f (a_piece {around = around} {pieces = outer} {row = r} {n = n} {v = v} up same get lo) ms j e rest h =
      let o = into_pieces f up ms j e (n ∷ rest) (h ∙ append_assoc (numbers_in around) (n ∷ []) rest) in
      into_inner outer n v get f around r pieces rest o.levels j o.index lo o.enters o.numbers o.counts

  -- levels with the numbers of a group's members lead to one of them
  pub into_group : {other also : Reached} {y : Piece} {list : Listing} {r : Remains} {input : ℕ} {keys : List Key} {piece : Piece} → other.row ≡ row → IsAround docs ops row list r (of_group input keys piece) → (ms : List LevelValue) (j : ℕ) → Enters docs ops other list ms j also y
      → numbers_of ms ≡ member_numbers r → IntoGroup other also r input keys j
  into_group f whole ms j (by_one (of_member {l = l} z x)) h = record { places = l.tuple; index = j; member = x; counts = omega arith }
  into_group {input = input} {keys = keys} {piece = piece} f (a_piece {around = around} {pieces = outer} {row = r} {n = n} {v = v} up same get lo) ms j e h =
      let o = into_pieces f up ms j e (n ∷ []) (h ∙ through_numbers (numbers_in around) n) in
      into_member outer n v get f around r input keys piece o.levels j o.index lo o.enters o.numbers o.counts
