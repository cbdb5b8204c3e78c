-- What a path describes is what its first positions take.
use Rattle.std.proofs.Common.{◌≡◌, ◌∙◌, ◌⊎◌, inl, inr, ℕ, zero, suc, Bool, true, false, ◌&&◌, ◌||◌, IsTrue, List, [], ◌∷◌, ◌++◌, Some, refl, sym, ap, subst, append_assoc}
use Rattle.std.proofs.lemmas.Slice.Eq.{bytes_eq-Decides}
use Rattle.mix_base.proofs.Choices.{and_parts, and_both}
use Rattle.path_expr.specs.Form.{Head, name, any, seq, alt, star, plus, opt, Paths, none, path}
use Rattle.path_expr.specs.Description.{Labels, How, in_turn, one_of, Then, Times, Many, DescribesBy, DescribesAs}
use Rattle.path_auto.specs.Positions.{Position, passes, Begins, nullable_by, nullable, starts_by, positions_if, starts}

-- a label may stand at its own position
pub same_label : (l : List ℕ) → IsTrue (passes (Some l) l)
same_label l = (bytes_eq-Decides l l).1 refl

-- what begins at one of some positions begins at one of more
pub begins_left : (s t : List Position) (x : Labels) → Begins s x → Begins (s ++ t) x
begins_left [] t x h = absurd h
begins_left (a ∷ s) t x (inl h) = inl h
begins_left (a ∷ s) t x (inr h) = inr (begins_left s t x h)

-- what begins at one of some positions begins at one of these and more before them
pub begins_right : (s t : List Position) (x : Labels) → Begins t x → Begins (s ++ t) x
begins_right [] t x h = h
begins_right (a ∷ s) t x h = inr (begins_right s t x h)

-- what begins at one of two lists of positions begins at one of either
pub begins_parts : (s t : List Position) (x : Labels) → Begins (s ++ t) x → Begins s x ⊎ Begins t x
begins_parts [] t x h = inr h
begins_parts (a ∷ s) t x (inl h) = inl (inl h)
begins_parts (a ∷ s) t x (inr h) = elim (begins_parts s t x h) [ inl l ↦ inl (inr l) | inr r ↦ inr r ]

-- the list is empty, and may be
abbrev pub Empty : Bool → Labels → Type 0
Empty n y = IsTrue n × (y ≡ [])

-- the list is empty, and may be, or it begins at one of the positions
abbrev pub Enters : Bool → List Position → Labels → Labels → Type 0
Enters n s y z = Empty n y ⊎ Begins s (y ++ z)

-- what paths describe, with what comes after them, begins at one of their first positions
abbrev pub Complete : Paths → Type 0
-- what paths describe, with what comes after them, begins at one of their first positions
Complete m = (w : How) (k : Paths) (y z : Labels) → DescribesAs m w y → DescribesAs k in_turn z → Enters (nullable m w) (starts m w k) y z

-- what repetitions of paths describe is empty, or begins at one of the paths' first positions
times_enter : (m : Paths) → Complete m → (k : Paths) (n : ℕ) (y z : Labels) → Times (DescribesAs m one_of) n y → DescribesAs k in_turn z
    → (y ≡ []) ⊎ Begins (starts m one_of (path star m k)) (y ++ z)
times_enter m ih k zero y z e f = inl e
times_enter m ih k (suc n) y z (u, v, e, p, t) f =
    elim (ih one_of (path star m k) u (v ++ z) p (v, z, refl, (n, t), f)) [
      | inl d ↦ (let r : v ≡ y = ap (λ q. q ++ v) (sym d.1) ∙ e in
          subst (λ q. (q ≡ []) ⊎ Begins (starts m one_of (path star m k)) (q ++ z)) r (times_enter m ih k n v z t f))
      | inr b ↦ inr (subst (Begins (starts m one_of (path star m k))) (sym (append_assoc u v z) ∙ ap (λ q. q ++ z) e) b)
    ]

-- what at least one repetition of paths describes is empty, where they may be, or begins at one of their first positions
plus_enter : (m : Paths) → Complete m → (k : Paths) (y z : Labels) → Then (DescribesAs m one_of) (Many (DescribesAs m one_of)) y → DescribesAs k in_turn z
    → Enters (nullable m one_of) (starts m one_of (path star m k)) y z
plus_enter m ih k y z (u, v, e, p, (n, t)) f =
    elim (ih one_of (path star m k) u (v ++ z) p (v, z, refl, (n, t), f)) [
      | inl d ↦ (let r : v ≡ y = ap (λ q. q ++ v) (sym d.1) ∙ e in
          subst (λ q. Enters (nullable m one_of) (starts m one_of (path star m k)) q z) r
          (elim (times_enter m ih k n v z t f) [ inl g ↦ inl (d.0, g) | inr b ↦ inr b ]))
      | inr b ↦ inr (subst (Begins (starts m one_of (path star m k))) (sym (append_assoc u v z) ∙ ap (λ q. q ++ z) e) b)
    ]

-- what a path describes, with what comes after it, begins at one of its first positions, by its head
pub enter_by : (h : Head) (m : Paths) → Complete m → (k : Paths) (y z : Labels) → DescribesBy h (DescribesAs m) y → DescribesAs k in_turn z → Enters (nullable_by h (nullable m)) (starts_by h m (starts m) k) y z
enter_by (name l) m ih k y z e f = inr (inl (l, z, ap (λ q. q ++ z) (sym e), same_label l, f))
enter_by any m ih k y z (l, e) f = inr (inl (l, z, ap (λ q. q ++ z) (sym e), refl, f))
enter_by seq m ih k y z d f = ih in_turn k y z d f
enter_by alt m ih k y z d f = ih one_of k y z d f
enter_by star m ih k y z (n, t) f = elim (times_enter m ih k n y z t f) [ inl e ↦ inl (refl, e) | inr b ↦ inr b ]
enter_by plus m ih k y z d f = plus_enter m ih k y z d f
enter_by opt m ih k y z (inl e) f = inl (refl, e)
enter_by opt m ih k y z (inr d) f = elim (ih one_of k y z d f) [ inl e ↦ inl (refl, e.1) | inr b ↦ inr b ]

-- a disjunction holds by its left side
pub or_left : (a b : Bool) → IsTrue a → IsTrue (a || b)
or_left true b h = refl
or_left false b h = cc

-- a disjunction holds by its right side
pub or_right : (a b : Bool) → IsTrue b → IsTrue (a || b)
or_right true b h = refl
or_right false b h = h

-- what begins at positions that are taken by a test that holds begins at the positions taken
pub so_begins : (n : Bool) (s : List Position) (x : Labels) → IsTrue n → Begins s x → Begins (positions_if n s) x
so_begins true s x h b = b
so_begins false s x h b = cc

-- where labels begin at positions that are taken by a test, the test holds and they begin at the positions
pub begins_so : (n : Bool) (s : List Position) (x : Labels) → Begins (positions_if n s) x → IsTrue n × Begins s x
begins_so true s x b = (refl, b)
begins_so false s x b = absurd b

-- what any paths describe, with what comes after them, begins at one of their first positions
pub complete : (m : Paths) → Complete m
complete none in_turn k y z e f = inl (refl, e)
complete none one_of k y z e f = absurd e
complete (path h m after) in_turn k y z (u, v, e, d, a) f =
    let n : Bool = nullable_by h (nullable m) in
    let first : List Position = starts_by h m (starts m) (path seq after k) in
    let more : List Position = starts after in_turn k in
    elim (enter_by h m (complete m) (path seq after k) u (v ++ z) d (v, z, refl, a, f)) [
      | inl g ↦ (let r : v ≡ y = ap (λ q. q ++ v) (sym g.1) ∙ e in
          subst (λ q. Enters (n && nullable after in_turn) (first ++ positions_if n more) q z) r
          (elim (complete after in_turn k v z a f) [
            | inl i ↦ inl (and_both n (nullable after in_turn) g.0 i.0, i.1)
            | inr b ↦ inr (begins_right first (positions_if n more) (v ++ z) (so_begins n more (v ++ z) g.0 b))
          ]))
      | inr b ↦ inr (begins_left first (positions_if n more) (y ++ z) (subst (Begins first) (sym (append_assoc u v z) ∙ ap (λ q. q ++ z) e) b))
    ]
complete (path h m after) one_of k y z (inl d) f =
    elim (enter_by h m (complete m) k y z d f) [
      | inl g ↦ inl (or_left (nullable_by h (nullable m)) (nullable after one_of) g.0, g.1)
      | inr b ↦ inr (begins_left (starts_by h m (starts m) k) (starts after one_of k) (y ++ z) b)
    ]
complete (path h m after) one_of k y z (inr d) f =
    elim (complete after one_of k y z d f) [
      | inl g ↦ inl (or_right (nullable_by h (nullable m)) (nullable after one_of) g.0, g.1)
      | inr b ↦ inr (begins_right (starts_by h m (starts m) k) (starts after one_of k) (y ++ z) b)
    ]

-- paths that may be empty describe the empty list
abbrev pub Nulls : Paths → Type 0
Nulls m = (w : How) → IsTrue (nullable m w) → DescribesAs m w []

-- a path that may be empty describes the empty list, by its head
pub nullable_by_describes : (h : Head) (m : Paths) → Nulls m → IsTrue (nullable_by h (nullable m)) → DescribesBy h (DescribesAs m) []
nullable_by_describes (name l) m ih h = cc
nullable_by_describes any m ih h = cc
nullable_by_describes seq m ih h = ih in_turn h
nullable_by_describes alt m ih h = ih one_of h
nullable_by_describes star m ih h = (0, refl)
nullable_by_describes plus m ih h = ([], [], refl, ih one_of h, (0, refl))
nullable_by_describes opt m ih h = inl refl

-- a side of a disjunction holds
pub or_parts : (a b : Bool) → IsTrue (a || b) → IsTrue a ⊎ IsTrue b
or_parts true b h = inl refl
or_parts false b h = inr h

-- all paths that may be empty describe the empty list
pub nullable_describes : (m : Paths) → Nulls m
nullable_describes none in_turn h = refl
nullable_describes none one_of h = cc
nullable_describes (path h m after) in_turn n =
    let p = and_parts (nullable_by h (nullable m)) (nullable after in_turn) n in
    ([], [], refl, nullable_by_describes h m (nullable_describes m) p.0, nullable_describes after in_turn p.1)
nullable_describes (path h m after) one_of n =
    elim (or_parts (nullable_by h (nullable m)) (nullable after one_of) n) [ inl p ↦ inl (nullable_by_describes h m (nullable_describes m) p) | inr q ↦ inr (nullable_describes after one_of q) ]

-- what the first positions take is described
abbrev pub Sound : Paths → Type 0
Sound m = (w : How) (k : Paths) (x : Labels) → Begins (starts m w k) x → Then (DescribesAs m w) (DescribesAs k in_turn) x

-- one list that paths describe before repetitions of them, and then what follows, is repetitions and then what follows
again : (m k : Paths) (x : Labels) → Then (DescribesAs m one_of) (DescribesAs (path star m k) in_turn) x → Then (Then (DescribesAs m one_of) (Many (DescribesAs m one_of))) (DescribesAs k in_turn) x
again m k x (y, z, e, p, (u, v, d, t, f)) = (y ++ u, v, append_assoc y u v ∙ ap (λ q. y ++ q) d ∙ e, (y, u, refl, p, t), f)

-- a label that may stand at a named position is its label
label_is : (l c : List ℕ) → IsTrue (passes (Some l) c) → l ≡ c
label_is l c h = (bytes_eq-Decides l c).0 h

-- at least one repetition is any number of repetitions
to_many : (m : Paths) (x : Labels) → Then (DescribesAs m one_of) (Many (DescribesAs m one_of)) x → Many (DescribesAs m one_of) x
to_many m x (y, z, e, p, (n, t)) = (suc n, (y, z, e, p, t))

-- what the first positions of a path take is what the path describes, with what comes after it, by its head
pub sound_by : (h : Head) (m : Paths) → Sound m → (k : Paths) (x : Labels) → Begins (starts_by h m (starts m) k) x → Then (DescribesBy h (DescribesAs m)) (DescribesAs k in_turn) x
sound_by (name l) m ih k x (inl (c, y, e, p, f)) = (l ∷ [], y, ap (λ q. q ∷ y) (label_is l c p) ∙ e, refl, f)
sound_by (name l) m ih k x (inr b) = absurd b
sound_by any m ih k x (inl (c, y, e, p, f)) = (c ∷ [], y, e, (c, refl), f)
sound_by any m ih k x (inr b) = absurd b
sound_by seq m ih k x b = ih in_turn k x b
sound_by alt m ih k x b = ih one_of k x b
sound_by star m ih k x b = let r = again m k x (ih one_of (path star m k) x b) in (r.0, r.1, r.2, to_many m r.0 r.3, r.4)
sound_by plus m ih k x b = again m k x (ih one_of (path star m k) x b)
sound_by opt m ih k x b = let r = ih one_of k x b in (r.0, r.1, r.2, inr r.3, r.4)

-- what a head describes, then a path and what follows it in turn, is the head and the path, and then what follows
sound_turn : (h : Head) (after m k : Paths) (x : Labels) → Then (DescribesBy h (DescribesAs m)) (DescribesAs (path seq after k) in_turn) x → Then (Then (DescribesBy h (DescribesAs m)) (DescribesAs after in_turn)) (DescribesAs k in_turn) x
sound_turn h after m k x (y, z, e, p, (u, v, d, t, f)) = (y ++ u, v, append_assoc y u v ∙ ap (λ q. y ++ q) d ∙ e, (y, u, refl, p, t), f)

-- what the first positions of any paths take is what the paths describe, with what comes after them
pub sound : (m : Paths) → Sound m
sound none in_turn k x b = absurd b
sound none one_of k x b = absurd b
sound (path h m after) in_turn k x b =
    elim (begins_parts (starts_by h m (starts m) (path seq after k)) (positions_if (nullable_by h (nullable m)) (starts after in_turn k)) x b) [
      | inl l ↦ (sound_turn h after m k x (sound_by h m (sound m) (path seq after k) x l))
      | inr r ↦ (let s = begins_so (nullable_by h (nullable m)) (starts after in_turn k) x r in
          let t = sound after in_turn k x s.1 in
          (t.0, t.1, t.2, ([], t.0, refl, nullable_by_describes h m (nullable_describes m) s.0, t.3), t.4))
    ]
sound (path h m after) one_of k x b =
    elim (begins_parts (starts_by h m (starts m) k) (starts after one_of k) x b) [
      | inl l ↦ (let t = sound_by h m (sound m) k x l in (t.0, t.1, t.2, inl t.3, t.4))
      | inr r ↦ (let t = sound after one_of k x r in (t.0, t.1, t.2, inr t.3, t.4))
    ]
