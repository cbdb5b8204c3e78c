-- After a run over a list the set tells whether the path describes some longer list.
use Rattle.std.proofs.Common.{◌≡◌, ◌⊎◌, inl, inr, ℕ, ◌+◌, ◌^◌, cond, Bool, true, false, ◌&&◌, IsTrue, List, [], ◌∷◌, ◌++◌, Option, Some, None, refl}
use Rattle.std.specs.Str.{IsUtf8}
use Rattle.std.specs.Int.{bit_at}
use Rattle.std.specs.Int.RustNames.{bit_or}
use Rattle.std.proofs.lemmas.Str.{IsUtf8-nil}
use Rattle.mix_base.proofs.Lists.{append_nil}
use Rattle.mix_base.proofs.Choices.{and_parts, and_both}
use Rattle.path_expr.specs.Form.{Head, name, any, seq, alt, star, plus, opt, Paths, none, path}
use Rattle.path_expr.specs.Description.{Labels, How, in_turn, one_of, DescribesBy, DescribesAs}
use Rattle.path_expr.specs.Labels.{HeadUtf8, AreUtf8}
use Rattle.path_auto.specs.Positions.{Position, passes, TestUtf8, listed_by, listed}
use Rattle.path_auto.specs.Sets.{some_by, some, lives_by, lives, set_of}
use Rattle.path_auto.specs.Automaton.{AreTexts}
use Rattle.path_auto.proofs.FirstPositions.{same_label, or_left, or_right, or_parts}
use Rattle.path_auto.proofs.Entries.{single_is, union_parts, union_left, union_right, is_single, empty_leads}
use Rattle.path_auto.proofs.Steps.{OnAny}

-- the labels of two lists together are UTF-8, where those of each are
texts_append : (x y : Labels) → AreTexts x → AreTexts y → AreTexts (x ++ y)
texts_append [] y h k = k
texts_append (l ∷ x) y h k = (h.0, texts_append x y h.1 k)

-- some list of UTF-8 labels
abbrev pub Exists : (Labels → Type 0) → Type 0
Exists P = (x : Labels) × AreTexts x × P x

-- what is UTF-8 of the path's labels is so under a premise, so that it may be left out
module _ (Texts : Type 0) where
  -- whether there is any list; where there is one, there is one of UTF-8 labels
  abbrev pub Tells : Bool → (Labels → Type 0) → Type 0
  Tells o P = (Texts → IsTrue o → Exists P) × ((x : Labels) → P x → IsTrue o)

  -- whether paths describe any list
  abbrev Somes : Paths → Type 0
  Somes m = (Texts → AreUtf8 m) → (w : How) → Tells (some m w) (DescribesAs m w)

  -- whether a head describes any list is said rightly
  somes_by : (h : Head) (m : Paths) → (Texts → HeadUtf8 h) → (Texts → AreUtf8 m) → Somes m → Tells (some_by h (some m)) (DescribesBy h (DescribesAs m))
  somes_by (name l) m u v ih = ((λ t h. (l ∷ [], (u t, tt), refl)), (λ x h. refl))
  somes_by any m u v ih = ((λ t h. ([] ∷ [], (IsUtf8-nil, tt), ([], refl))), (λ x h. refl))
  somes_by seq m u v ih = ih v in_turn
  somes_by alt m u v ih = ih v one_of
  somes_by star m u v ih = ((λ t h. ([], tt, (0, refl))), (λ x h. refl))
  somes_by plus m u v ih =
      ((λ t h. let r = (ih v one_of).0 t h in (r.0, r.1, (r.0, [], append_nil r.0, r.2, (0, refl)))), (λ x h. (ih v one_of).1 h.0 h.3))
  somes_by opt m u v ih = ((λ t h. ([], tt, inl refl)), (λ x h. refl))

  -- whether paths describe any list is said rightly
  somes : (m : Paths) → Somes m
  somes none u in_turn = ((λ t h. ([], tt, refl)), (λ x h. refl))
  somes none u one_of = ((λ t h. let f : false ≡ true = h in cc), (λ x h. absurd h))
  somes (path h m after) u in_turn =
      let a = somes_by h m (λ t. (u t).0) (λ t. (u t).1) (somes m) in
      let c = somes after (λ t. (u t).2) in_turn in (
        (λ t g. let q = and_parts (some_by h (some m)) (some after in_turn) g in
            let y = a.0 t q.0 in let z = c.0 t q.1 in (y.0 ++ z.0, texts_append y.0 z.0 y.1 z.1, (y.0, z.0, refl, y.2, z.2))),
        (λ x g. and_both (some_by h (some m)) (some after in_turn) (a.1 g.0 g.3) (c.1 g.1 g.4)),
      )
  somes (path h m after) u one_of =
      let a = somes_by h m (λ t. (u t).0) (λ t. (u t).1) (somes m) in
      let c = somes after (λ t. (u t).2) one_of in (
        (λ t g. elim (or_parts (some_by h (some m)) (some after one_of) g) [
          | inl y ↦ (let r = a.0 t y in (r.0, r.1, inl r.2))
          | inr y ↦ (let r = c.0 t y in (r.0, r.1, inr r.2))
        ]),
        (λ x g. elim g [ inl y ↦ or_left (some_by h (some m)) (some after one_of) (a.1 x y) | inr y ↦ or_right (some_by h (some m)) (some after one_of) (c.1 x y) ]),
      )

  -- whether any list leads to the end by what is to come
  abbrev pub Goes : Bool → Paths → Type 0
  Goes o k = Tells o (DescribesAs k in_turn)

  -- of each position it is said rightly whether any list leads on, and its label is UTF-8 under the premise
  abbrev pub Lives : List Bool → List Position → Type 0
  Lives [] [] = Unit {0}
  Lives [] (s ∷ ss) = ⊥
  Lives (o ∷ os) [] = ⊥
  Lives (o ∷ os) (s ∷ ss) = Goes o s.rest × (Texts → TestUtf8 s.test) × Lives os ss

  -- what is said rightly of some positions and of others is said rightly of both, one after the other
  lives_append : (r : List Bool) (s : List Position) (u : List Bool) (v : List Position) → Lives r s → Lives u v → Lives (r ++ u) (s ++ v)
  lives_append [] [] u v h k = k
  lives_append [] (a ∷ s) u v h k = absurd h
  lives_append (a ∷ r) [] u v h k = absurd h
  lives_append (a ∷ r) (c ∷ s) u v h k = (h.0, h.1, lives_append r s u v h.2 k)

  -- a star before what is to come changes nothing
  star_goes : (m k : Paths) (o : Bool) → Goes o k → Goes o (path star m k)
  star_goes m k o g = ((λ t h. let r = g.0 t h in (r.0, r.1, ([], r.0, refl, (0, refl), r.2))), (λ x h. g.1 h.1 h.4))

  -- whether any list leads on by a sequence before what is to come is said rightly, where it is of both
  turn_goes : (after k : Paths) (o : Bool) → (Texts → AreUtf8 after) → Goes o k → Goes (some after in_turn && o) (path seq after k)
  turn_goes after k o u g =
      let a = somes after u in_turn in (
        (λ t h. let q = and_parts (some after in_turn) o h in let y = a.0 t q.0 in let z = g.0 t q.1 in
            (y.0 ++ z.0, texts_append y.0 z.0 y.1 z.1, (y.0, z.0, refl, y.2, z.2))),
        (λ x h. and_both (some after in_turn) o (a.1 h.0 h.3) (g.1 h.1 h.4)),
      )

  -- the list of a table is right for the positions of paths
  abbrev pub AllLive : Paths → Type 0
  AllLive m = (Texts → AreUtf8 m) → (w : How) (k : Paths) (o : Bool) → Goes o k → Lives (lives m w o) (listed m w k)

  -- the list of a table is right for the positions of a path, by its head
  pub live_by : (h : Head) (m : Paths) → (Texts → HeadUtf8 h) → (Texts → AreUtf8 m) → AllLive m → (k : Paths) (o : Bool) → Goes o k
      → Lives (lives_by h (lives m) o) (listed_by h m (listed m) k)
  live_by (name l) m u v ih k o g = (g, u, tt)
  live_by any m u v ih k o g = (g, (λ t. tt), tt)
  live_by seq m u v ih k o g = ih v in_turn k o g
  live_by alt m u v ih k o g = ih v one_of k o g
  live_by star m u v ih k o g = ih v one_of (path star m k) o (star_goes m k o g)
  live_by plus m u v ih k o g = ih v one_of (path star m k) o (star_goes m k o g)
  live_by opt m u v ih k o g = ih v one_of k o g

  -- the list of a table is right for the positions of all paths
  pub all_live : (m : Paths) → AllLive m
  all_live none u w k o g = tt
  all_live (path h m after) u in_turn k o g =
      lives_append (lives_by h (lives m) (some after in_turn && o)) (listed_by h m (listed m) (path seq after k)) (lives after in_turn o) (listed after in_turn k)
      (live_by h m (λ t. (u t).0) (λ t. (u t).1) (all_live m) (path seq after k) (some after in_turn && o) (turn_goes after k o (λ t. (u t).2) g))
      (all_live after (λ t. (u t).2) in_turn k o g)
  all_live (path h m after) u one_of k o g =
      lives_append (lives_by h (lives m) o) (listed_by h m (listed m) k) (lives after one_of o) (listed after one_of k)
      (live_by h m (λ t. (u t).0) (λ t. (u t).1) (all_live m) k o g) (all_live after (λ t. (u t).2) one_of k o g)

-- at each position some UTF-8 label may stand
some_label : (t : Option (List ℕ)) → TestUtf8 t → (c : List ℕ) × IsUtf8 c × IsTrue (passes t c)
some_label None u = ([], IsUtf8-nil, refl)
some_label (Some l) u = (l, u, same_label l)

-- some list after at least one label, all UTF-8
abbrev pub Longer : (Labels → Type 0) → Type 0
Longer P = (l : List ℕ) × (y : Labels) × IsUtf8 l × AreTexts y × P (l ∷ y)

-- two sets have a member in common
abbrev pub Meet : ℕ → ℕ → Type 0
Meet n m = (i : ℕ) × (bit_at n i ≡ 1) × (bit_at m i ≡ 1)

-- a list of labels leads on from the one member of a set
abbrev Is : ℕ → ℕ → Labels → Type 0
Is n i x = bit_at n i ≡ 1

-- a member of both a set and a union is one of it and of a part
meet_parts : (n a b : ℕ) → Meet n (bit_or a b) → Meet n a ⊎ Meet n b
meet_parts n a b (i, h, k) = elim (union_parts (Is n) a b [] (i, k, h)) [ inl (j, q, r) ↦ inl (j, r, q) | inr (j, q, r) ↦ inr (j, r, q) ]

-- a member of both a set and a part is one of it and of the union
meet_left : (n a b : ℕ) → Meet n a → Meet n (bit_or a b)
meet_left n a b (i, h, k) = let r = union_left (Is n) a b [] (i, k, h) in (r.0, r.2, r.1)

-- a set that meets the second part of a union meets the union
meet_right : (n a b : ℕ) → Meet n b → Meet n (bit_or a b)
meet_right n a b (i, h, k) = let r = union_right (Is n) a b [] (i, k, h) in (r.0, r.2, r.1)

-- where a set meets a set of at most one number, there is that number, and the set has it
here_meets : (o : Bool) (n b : ℕ) → Meet n (cond o (2 ^ b) 0) → IsTrue o × (bit_at n b ≡ 1)
here_meets true n b (i, h, k) = (refl, single_is (Is n) b [] (i, k, h))
here_meets false n b (i, h, k) = empty_leads (Is n) [] (i, k, h)

-- a set that has a number meets the set of that number
meets_here : (o : Bool) (n b : ℕ) → IsTrue o → bit_at n b ≡ 1 → Meet n (cond o (2 ^ b) 0)
meets_here true n b t h = let r = is_single (Is n) b [] h in (r.0, r.2, r.1)
meets_here false n b t h = let f : false ≡ true = t in cc

-- the set meets that of the positions that live, so some list leads on
pub meet_leads : (Texts : Type 0) (os : List Bool) (ss : List Position) (b n : ℕ) → Texts → Lives Texts os ss → Meet n (set_of os b) → Longer (OnAny n b ss)
meet_leads Texts [] [] b n u h t = empty_leads (Is n) [] (t.0, t.2, t.1)
meet_leads Texts [] (s ∷ ss) b n u h t = absurd h
meet_leads Texts (o ∷ os) [] b n u h t = absurd h
meet_leads Texts (o ∷ os) (s ∷ ss) b n u h t = elim (meet_parts n (cond o (2 ^ b) 0) (set_of os (b + 1)) t) [
  | inl g ↦ (let q = here_meets o n b g in
      let l = some_label s.test (h.1 u) in
      let v = h.0.0 u q.0 in
      (l.0, v.0, l.1, v.1, inl (q.1, (l.0, v.0, refl, l.2, v.2))))
  | inr g ↦ (let r = meet_leads Texts os ss (b + 1) n u h.2 g in (r.0, r.1, r.2, r.3, inr r.4))
]

-- where some list leads on, the set meets that of the positions that live
pub leads_meet : (Texts : Type 0) (os : List Bool) (ss : List Position) (b n : ℕ) → Lives Texts os ss → (x : Labels) → OnAny n b ss x → Meet n (set_of os b)
leads_meet Texts [] [] b n h x t = absurd t
leads_meet Texts [] (s ∷ ss) b n h x t = absurd h
leads_meet Texts (o ∷ os) [] b n h x t = absurd h
leads_meet Texts (o ∷ os) (s ∷ ss) b n h x (inl g) = meet_left n (cond o (2 ^ b) 0) (set_of os (b + 1)) (meets_here o n b (h.0.1 g.1.1 g.1.4) g.0)
leads_meet Texts (o ∷ os) (s ∷ ss) b n h x (inr g) = meet_right n (cond o (2 ^ b) 0) (set_of os (b + 1)) (leads_meet Texts os ss (b + 1) n h.2 x g)
