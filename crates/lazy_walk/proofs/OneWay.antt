-- Levels of which one's numbers go on as the other's do lead through the same pieces of a list, and what evidence stands at the last of them.
use Rattle.std.proofs.Common.{◌≡◌, ◌∙◌, ℕ, suc, ◌+◌, ◌-◌, List, [], ◌∷◌, ◌++◌, Option, Some, None, refl, sym, ap, subst, arith, length, append_assoc, length-append}
use Rattle.std.specs.Prelude.{slice_get, MatchOption}
use Rattle.mix_tree.specs.Nodes.{Documents}
use Rattle.mix_tree.specs.declared.var.Key.{Key}
use Rattle.node_text.specs.Node.{LevelValue}
use Rattle.plan_core.specs.declared.plan.Piece.{Piece}
use Rattle.plan_core.specs.declared.plan.Piece.TheVariants.{Var as var_piece}
use Rattle.plan_core.specs.Plans.{Operator}
use Rattle.plan_core.specs.TolledRows.{TolledRow}
use Rattle.plan_evidence.specs.Named.{Listing, of_pieces, of_group, list_of, Reached, IsMember, of_member, of_piece, of_list_member}
use Rattle.plan_evidence.specs.Opened.{Enters, by_one, by_pieces}
use Rattle.plan_evidence.specs.Remains.{Remains, pieces_left, numbers_in, levels_through, IsAround, whole, a_piece}
use Rattle.plan_levels.specs.Entered.{numbers_of}
use Rattle.plan_levels.proofs.Entering.{not_both, group_same, no_list, one_listing}
use Rattle.lazy_follow.specs.declared.evidence.Evidence.{Evidence}
use Rattle.lazy_follow.specs.Following.{Choice, a_member, a_list_among, piece_choice, value_choice}
use Rattle.lazy_walk.specs.Leading.{own_numbers, IsOfChosen, list_behind, number_choice, AreOfChosen}

-- NUMBERS

-- the first of two lists that are the same, and the others
heads : (a b : ℕ) (xs ys : List ℕ) → a ∷ xs ≡ b ∷ ys → (a ≡ b) × (xs ≡ ys)
heads a b xs ys e = (let h : a ≡ b = cc in h, let t : xs ≡ ys = cc in t)

-- the numbers of levels through pieces are those of the pieces, whatever places the last one has
pub through_numbers : (tuple : List (List ℕ)) (ns : List ℕ) → numbers_of (levels_through tuple ns) ≡ numbers_of (levels_through [] ns)
through_numbers tuple [] = refl
through_numbers tuple (n ∷ []) = refl
through_numbers tuple (n ∷ m ∷ ns) = ap (λ (ks : List ℕ). n ∷ ks) (through_numbers tuple (m ∷ ns))

-- levels through pieces of which one is the last have their numbers
pub numbers_last : (ns : List ℕ) (n : ℕ) → numbers_of (levels_through [] (ns ++ n ∷ [])) ≡ ns ++ n ∷ []
numbers_last [] n = refl
numbers_last (a ∷ []) n = refl
numbers_last (a ∷ b ∷ ns) n = ap (λ (ms : List ℕ). a ∷ ms) (numbers_last (b ∷ ns) n)

module _ (docs : Documents) (ops : List Operator) where
  -- where levels into a list have the numbers of others and more, or these have theirs and more, both have the same
  pub one_way : {here other there also : Reached} {list : Listing} {ls ms : List LevelValue} {i j : ℕ} {x y : Piece} → Enters docs ops here list ls i there x → Enters docs ops other list ms j also y
      → (a b : List ℕ) → numbers_of ls ++ a ≡ numbers_of ms ++ b → numbers_of ls ≡ numbers_of ms
  one_way (by_one (of_member {l = l} o u)) (by_one (of_member {l = l'} o' u')) a b e = ap (λ (k : ℕ). k ∷ []) (o ∙ sym o')
  one_way (by_one (of_piece {l = l} get t s)) (by_one (of_piece {l = l'} get' t' s')) a b e = ap (λ (k : ℕ). k ∷ []) (heads l.piece l'.piece a b e).0
  one_way (by_one (of_piece {l = l} get t s)) (by_one (of_list_member {l = l'} get' lo' u')) a b e = ap (λ (k : ℕ). k ∷ []) (heads l.piece l'.piece a b e).0
  one_way (by_one (of_list_member {l = l} get lo u)) (by_one (of_piece {l = l'} get' t' s')) a b e = ap (λ (k : ℕ). k ∷ []) (heads l.piece l'.piece a b e).0
  one_way (by_one (of_list_member {l = l} get lo u)) (by_one (of_list_member {l = l'} get' lo' u')) a b e = ap (λ (k : ℕ). k ∷ []) (heads l.piece l'.piece a b e).0
  one_way (by_one (of_piece {pieces = pieces} {l = l} {piece = q} get t s)) (by_pieces {inner = inner} {l = l'} {ls = ms} {v = w} get' t' lo' more) a b e =
      absurd (no_list ops pieces l.piece l'.piece w q (of_pieces inner) get s get' lo' (heads l.piece l'.piece a (numbers_of ms ++ b) e).0)
  one_way (by_one (of_list_member {pieces = pieces} {v = v} {n = n} {keys = keys} {piece = x} {l = l} get lo u)) (by_pieces {inner = inner} {l = l'} {ls = ms} {v = w} get' t' lo' more) a b e =
      absurd (not_both inner n keys x (sym (one_listing ops pieces l.piece l'.piece v w (of_group n keys x) (of_pieces inner) get get' lo lo' (heads l.piece l'.piece a (numbers_of ms ++ b) e).0)))
  one_way (by_pieces {pieces = pieces} {inner = inner} {l = l} {ls = ls} {v = v} get t lo more) (by_one (of_piece {l = l'} {piece = q} get' t' s')) a b e =
      absurd (no_list ops pieces l'.piece l.piece v q (of_pieces inner) get' s' get lo (sym (heads l.piece l'.piece (numbers_of ls ++ a) b e).0))
  one_way (by_pieces {pieces = pieces} {inner = inner} {l = l} {ls = ls} {v = v} get t lo more) (by_one (of_list_member {v = w} {n = n} {keys = keys} {piece = x} {l = l'} get' lo' u')) a b e =
      absurd (not_both inner n keys x (one_listing ops pieces l.piece l'.piece v w (of_pieces inner) (of_group n keys x) get get' lo lo' (heads l.piece l'.piece (numbers_of ls ++ a) b e).0))
  one_way {other = other} {also = also} {y = y} (by_pieces {pieces = pieces} {inner = inner} {l = l} {ls = ls} {v = v} get t lo more) (by_pieces {inner = inner'} {l = l'} {ls = ms} {v = w} {i = k} get' t' lo' more') a b e =
      let h = heads l.piece l'.piece (numbers_of ls ++ a) (numbers_of ms ++ b) e in
      let same = one_listing ops pieces l.piece l'.piece v w (of_pieces inner) (of_pieces inner') get get' lo lo' h.0 in
      let r = one_way more (subst (λ o. Enters docs ops other o ms k also y) (sym same) more') a b h.1 in
      ap (λ (ks : List ℕ). l.piece ∷ ks) r ∙ ap (λ (k : ℕ). k ∷ numbers_of ms) h.0

-- WHAT A NUMBER CHOOSES

module _ (ops : List Operator) where
  -- a piece that is a list of pieces is chosen as one
  pub chooses_list : (pieces inner : List Piece) (n v : ℕ) → slice_get pieces n ≡ Some (var_piece v) → list_of ops v ≡ Some (of_pieces inner) → number_choice ops (of_pieces pieces) n ≡ a_list_among inner
  chooses_list pieces inner n v get lo = ap (piece_choice ops []) get ∙ ap (value_choice v []) lo

  -- a piece that is a group is chosen as one
  pub chooses_group : (pieces : List Piece) (n v input : ℕ) (keys : List Key) (piece : Piece) → slice_get pieces n ≡ Some (var_piece v) → list_of ops v ≡ Some (of_group input keys piece)
      → number_choice ops (of_pieces pieces) n ≡ a_member input keys piece
  chooses_group pieces n v input keys piece get lo = ap (piece_choice ops []) get ∙ ap (value_choice v []) lo

  -- a group by itself is chosen as piece 0
  pub chooses_whole : (input : ℕ) (keys : List Key) (piece : Piece) (n : ℕ) → n ≡ 0 → number_choice ops (of_group input keys piece) n ≡ a_member input keys piece
  chooses_whole input keys piece n e = ap (λ (k : ℕ). number_choice ops (of_group input keys piece) k) e

  -- of the evidence from a list the first is of what the first number chooses, and the others go on in what that leads to
  pub record IsSplit (list : Listing) (c : Choice) (ls : List LevelValue) (ms : List (Option Evidence)) : Type 0 where
    pub first : Option Evidence
    pub others : List (Option Evidence)
    pub is : ms ≡ first ∷ others
    pub of : IsOfChosen c first
    pub go_on : AreOfChosen ops (list_behind ops c) ls others

  pub split : (list : Listing) (c : Choice) (l : LevelValue) (ls : List LevelValue) (ms : List (Option Evidence)) → number_choice ops list l.piece ≡ c → AreOfChosen ops (Some list) (l ∷ ls) ms → IsSplit list c ls ms
  split list c l ls [] e h = absurd h
  split list c l ls (m ∷ ms) e h = record {
    first = m;
    others = ms;
    is = refl;
    of = subst (λ d. IsOfChosen d m) e h.0;
    go_on = subst (λ d. AreOfChosen ops (list_behind ops d) ls ms) e h.1;
  }

-- EVIDENCE

-- evidence of a member that was chosen is there
some_evidence : (n : ℕ) (m : Option Evidence) → MatchOption m ⊥ (λ e. e.op ≡ n) → (e : Evidence) × (m ≡ Some e) × (e.op ≡ n)
some_evidence n None h = absurd h
some_evidence n (Some e) h = (e, refl, h)

module _ (docs : Documents) (ops : List Operator) (row : TolledRow) (behind : List LevelValue) where
  -- levels that go through the numbers around a list of pieces lead on in it, and so does their evidence
  pub record InPieces (other also : Reached) (y : Piece) (r : Remains) (pieces : List Piece) (rest : List ℕ) (ls : List LevelValue) (ms : List (Option Evidence)) : Type 0 where
    pub levels : List LevelValue
    pub members : List (Option Evidence)
    pub index : ℕ
    pub enters : Enters docs ops other (of_pieces pieces) levels index also y
    pub numbers : numbers_of levels ≡ rest
    pub chosen : AreOfChosen ops (Some (of_pieces pieces)) (levels ++ behind) members
    pub levels_at : (k : ℕ) → slice_get ls (length (numbers_in r) + k) ≡ slice_get levels k
    pub members_at : (k : ℕ) → slice_get ms (length (numbers_in r) + k) ≡ slice_get members k

  -- the last of levels with the numbers of a group's members leads to a member of the group, and its evidence is of the group's input
  pub record AtMember (other also : Reached) (r : Remains) (input : ℕ) (keys : List Key) (ls : List LevelValue) (ms : List (Option Evidence)) : Type 0 where
    pub last : LevelValue
    pub is_last : slice_get ls (length (own_numbers r) - 1) ≡ Some last
    pub index : ℕ
    pub member : IsMember docs ops input keys other last.tuple index also
    pub evidence : Evidence
    pub is_evidence : slice_get ms (length (own_numbers r) - 1) ≡ Some (Some evidence)
    pub op : evidence.op ≡ input

  module _ (outer : List Piece) (n v : ℕ) (get : slice_get outer n ≡ Some (var_piece v)) where
    -- so it is in a list of pieces among the pieces
    in_inner : {other also : Reached} {y : Piece} (around : Remains) (r : TolledRow) (inner : List Piece) (rest : List ℕ) (ls full : List LevelValue) (ms all : List (Option Evidence)) (k : ℕ) → list_of ops v ≡ Some (of_pieces inner)
        → Enters docs ops other (of_pieces outer) ls k also y → numbers_of ls ≡ n ∷ rest → AreOfChosen ops (Some (of_pieces outer)) (ls ++ behind) ms
        → ((k : ℕ) → slice_get full (length (numbers_in around) + k) ≡ slice_get ls k) → ((k : ℕ) → slice_get all (length (numbers_in around) + k) ≡ slice_get ms k)
        → InPieces other also y (pieces_left outer r (suc n) around) inner rest full all
    in_inner around r inner rest ls full ms all k lo (by_one (of_piece {l = l} {piece = q} get' t s)) h c f g =
        absurd (no_list ops outer l.piece n v q (of_pieces inner) get' s get lo (heads l.piece n [] rest h).0)
    in_inner around r inner rest ls full ms all k lo (by_one (of_list_member {v = w} {n = input} {keys = keys} {piece = x} {l = l} get' lo' m)) h c f g =
        absurd (not_both inner input keys x (one_listing ops outer n l.piece v w (of_pieces inner) (of_group input keys x) get get' lo lo' (sym (heads l.piece n [] rest h).0)))
    in_inner {other = other} {also = also} {y = y} around r inner rest ls full ms all k lo (by_pieces {inner = inner'} {l = l} {ls = ls'} {v = w} {i = i} get' t lo' more) h c f g =
        let p = heads l.piece n (numbers_of ls') rest h in
        let same : of_pieces inner' ≡ of_pieces inner = one_listing ops outer l.piece n w v (of_pieces inner') (of_pieces inner) get' get lo' lo p.0 in
        let x = split ops (of_pieces outer) (a_list_among inner') l (ls' ++ behind) ms (chooses_list ops outer inner' l.piece w get' lo') c in
        let z : (k : ℕ) → length (numbers_in around ++ n ∷ []) + k ≡ length (numbers_in around) + suc k = λ k. simp length-append (omega arith) in
        record {
          levels = ls';
          members = x.others;
          index = i;
          enters = subst (λ o. Enters docs ops other o ls' i also y) same more;
          numbers = p.1;
          chosen = subst (λ o. AreOfChosen ops (Some o) (ls' ++ behind) x.others) same x.go_on;
          levels_at = λ k. ap (slice_get full) (z k) ∙ f (suc k);
          members_at = λ k. ap (slice_get all) (z k) ∙ g (suc k) ∙ ap (λ (es : List (Option Evidence)). slice_get es (suc k)) x.is;
        }

    -- the number of a piece that is a group leads to a member of it
    in_member : {other also : Reached} {y : Piece} (around : Remains) (r : TolledRow) (input : ℕ) (keys : List Key) (piece : Piece) (ls full : List LevelValue) (ms all : List (Option Evidence)) (k : ℕ) → list_of ops v ≡ Some (of_group input keys piece)
        → Enters docs ops other (of_pieces outer) ls k also y → numbers_of ls ≡ n ∷ [] → AreOfChosen ops (Some (of_pieces outer)) (ls ++ behind) ms
        → ((k : ℕ) → slice_get full (length (numbers_in around) + k) ≡ slice_get ls k) → ((k : ℕ) → slice_get all (length (numbers_in around) + k) ≡ slice_get ms k)
        → AtMember other also (pieces_left outer r (suc n) around) input keys full all
    in_member around r input keys piece ls full ms all k lo (by_one (of_piece {l = l} {piece = q} get' t s)) h c f g =
        absurd (no_list ops outer l.piece n v q (of_group input keys piece) get' s get lo (heads l.piece n [] [] h).0)
    in_member {other = other} {also = also} around r input keys piece ls full ms all k lo (by_one (of_list_member {v = w} {n = input'} {j = i} {keys = own} {piece = x} {l = l} get' lo' m)) h c f g =
        let p = (heads l.piece n [] [] h).0 in
        let same = group_same input' input own keys x piece (one_listing ops outer l.piece n w v (of_group input' own x) (of_group input keys piece) get' get lo' lo p) in
        let s = split ops (of_pieces outer) (a_member input' own x) l behind ms (chooses_group ops outer l.piece w input' own x get' lo') c in
        let e = some_evidence input' s.first s.of in
        let z : length (own_numbers (pieces_left outer r (suc n) around)) - 1 ≡ length (numbers_in around) + 0 = ap (λ (ks : List ℕ). length ks - 1) (numbers_last (numbers_in around) n) ∙ simp length-append (omega arith) in
        record {
          last = l;
          is_last = ap (slice_get full) z ∙ f 0;
          index = i;
          member = subst (λ (ks : List Key). IsMember docs ops input ks other l.tuple i also) same.1 (subst (λ d. IsMember docs ops d own other l.tuple i also) same.0 m);
          evidence = e.0;
          is_evidence = ap (slice_get all) z ∙ g 0 ∙ ap (λ (es : List (Option Evidence)). slice_get es 0) s.is ∙ ap Some e.1;
          op = e.2 ∙ same.0;
        }
    in_member around r input keys piece ls full ms all k lo (by_pieces {inner = inner} {l = l} {ls = ls'} {v = w} get' t lo' more) h c f g =
        absurd (not_both inner input keys piece (one_listing ops outer l.piece n w v (of_pieces inner) (of_group input keys piece) get' get lo' lo (heads l.piece n (numbers_of ls') [] h).0))

  -- levels that go through the numbers around a list of pieces lead on in it, and so does their evidence
  pub in_pieces : {other also : Reached} {y : Piece} {list : Listing} {r : Remains} {pieces : List Piece} → IsAround docs ops row list r (of_pieces pieces) → (ls : List LevelValue) (ms : List (Option Evidence)) (j : ℕ) → Enters docs ops other list ls j also y → (rest : List ℕ)
      → numbers_of ls ≡ numbers_in r ++ rest → AreOfChosen ops (Some list) (ls ++ behind) ms → InPieces other also y r pieces rest ls ms
  in_pieces whole ls ms j e rest h c =
      let z : (k : ℕ) → 0 + k ≡ k = λ k. omega arith in
      record { levels = ls; members = ms; index = j; enters = e; numbers = h; chosen = c; levels_at = λ k. ap (slice_get ls) (z k); members_at = λ k. ap (slice_get ms) (z k) }
  in_pieces {pieces = pieces} (a_piece {around = around} {pieces = outer} {row = r} {n = n} {v = v} up same get lo) ls ms j e rest h c =
      let o = in_pieces up ls ms j e (n ∷ rest) (h ∙ append_assoc (numbers_in around) (n ∷ []) rest) c in
      in_inner outer n v get around r pieces rest o.levels ls o.members ms o.index lo o.enters o.numbers o.chosen o.levels_at o.members_at

  -- levels with the numbers of a group's members lead to one of them, and their evidence is of the group's input
  pub in_group : {other also : Reached} {y : Piece} {list : Listing} {r : Remains} {input : ℕ} {keys : List Key} {piece : Piece} → IsAround docs ops row list r (of_group input keys piece) → (ls : List LevelValue) (ms : List (Option Evidence)) (j : ℕ) → Enters docs ops other list ls j also y
      → numbers_of ls ≡ own_numbers r → AreOfChosen ops (Some list) (ls ++ behind) ms → AtMember other also r input keys ls ms
  in_group {input = input} {keys = keys} {piece = piece} whole ls ms j (by_one (of_member {j = i} {l = l} o m)) h c =
      let s = split ops (of_group input keys piece) (a_member input keys piece) l behind ms (chooses_whole ops input keys piece l.piece o) c in
      let e = some_evidence input s.first s.of in
      record {
        last = l;
        is_last = refl;
        index = i;
        member = m;
        evidence = e.0;
        is_evidence = ap (λ (es : List (Option Evidence)). slice_get es 0) s.is ∙ ap Some e.1;
        op = e.2;
      }
  in_group {input = input} {keys = keys} {piece = piece} (a_piece {around = around} {pieces = outer} {row = r} {n = n} {v = v} up same get lo) ls ms j e h c =
      let o = in_pieces up ls ms j e (n ∷ []) (h ∙ numbers_last (numbers_in around) n) c in
      in_member outer n v get around r input keys piece o.levels ls o.members ms o.index lo o.enters o.numbers o.chosen o.levels_at o.members_at
