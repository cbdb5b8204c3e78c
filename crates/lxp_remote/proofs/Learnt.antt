-- Learning holes, one after another.
use Rattle.std.proofs.Common.{◌≡◌, ◌⊎◌, inl, inr, ℕ, zero, suc, ◌+◌, ◌<◌, ◌≤◌, Bool, true, false, List, [], ◌∷◌, ◌++◌, length, get_or, take, drop, drop-cons, refl, ap, subst, sym, ◌∙◌, append_assoc, arith}
use Rattle.std.specs.Prelude.{Contains, Some, None, Option, Result, Err, if◌then◌else◌}
use Rattle.lxp_remote.specs.declared.learning.Unlearned.{Unlearned}
use Rattle.std.specs.Str.{bytes_eq}
use Rattle.std.proofs.lemmas.Slice.Eq.{bytes_eq-Decides}
use Rattle.std.proofs.lemmas.List.{length-take, take-take}
use Rattle.mix_base.proofs.Lists.{append_nil, take_whole}
use Rattle.mix_tree.proofs.SameKeys.{bytes_eq-refl}
use Rattle.lxp_core.specs.declared.open_tree.HoleId.{HoleId}
use Rattle.wire_text.specs.declared.reply.Hole.{Hole}
use Rattle.wire_text.specs.declared.reply.WireTree.{WireTree}
use Rattle.wire_text.specs.Wired.{Wired, nil, node, hole, holes_of, wired_followed}
use Rattle.wire_text.specs.Plain.{put, plain}
use Rattle.wire_text.proofs.Trees.{put-followed}
use Rattle.lxp_remote.specs.Known.{weight_in, IsChanged}
use Rattle.lxp_remote.specs.Learned.{Learns, weights}

-- a member of two lists
pub first_in : {X : Type 0} (a b : List X) (x : X) → Contains a x → Contains (a ++ b) x
first_in [] b x (k, h, e) = absurd (omega arith)
first_in (y ∷ a) b x (zero, h, e) = (0, omega arith, e)
first_in (y ∷ a) b x (suc k, h, e) = let c = first_in a b x (k, omega arith, e) in (suc c.0, omega (arith, c.1), c.2)

pub second_in : {X : Type 0} (a b : List X) (x : X) → Contains b x → Contains (a ++ b) x
second_in [] b x c = c
second_in (y ∷ a) b x c = let d = second_in a b x c in (suc d.0, omega (arith, d.1), d.2)

either_in : {X : Type 0} (a b : List X) (x : X) → Contains (a ++ b) x → Contains a x ⊎ Contains b x
either_in [] b x c = inr c
either_in (y ∷ a) b x (zero, h, e) = inl (0, omega arith, e)
either_in (y ∷ a) b x (suc k, h, e) = elim (either_in a b x (k, omega arith, e)) [
  | inl c ↦ inl (suc c.0, omega (arith, c.1), c.2)
  | inr c ↦ inr c
]

abbrev IsIn : List (HoleId × ℕ) → HoleId × ℕ → Type 0
IsIn xs x = Contains xs x

abbrev IsAt : List (HoleId × ℕ) → ℕ → HoleId × ℕ → Type 0
IsAt xs i x = get_or xs i x ≡ x

-- nothing learned
pub learns_nothing : (k : HoleId → Option ℕ) → Learns k k []
learns_nothing k = record { kept = λ h n e. e; learned = λ h n c. absurd (omega (arith, c.1)); only = λ h n e. inl e }

-- learned twice
pub learns_both : (a b c : HoleId → Option ℕ) (x y : List (HoleId × ℕ)) → Learns a b x → Learns b c y → Learns a c (x ++ y)
learns_both a b c x y p q = record {
  kept = λ h n e. q.kept h n (p.kept h n e);
  learned = λ h n m. elim (either_in x y (h, n) m) [ inl i ↦ q.kept h n (p.learned h n i) | inr i ↦ q.learned h n i ];
  only = λ h n e. elim (q.only h n e) [
    | inl f ↦ elim (p.only h n f) [ inl g ↦ inl g | inr g ↦ inr (first_in x y (h, n) g) ]
    | inr f ↦ inr (second_in x y (h, n) f)
  ];
}

-- what changed in the first list changed in both
pub changed_first : (k : HoleId → Option ℕ) (x y : List (HoleId × ℕ)) → IsChanged k x → IsChanged k (x ++ y)
changed_first k x y (before, after, id, weight, other, parts, differs, cause) =
    (before, after ++ y, id, weight, other, ap (λ z. z ++ y) parts ∙ append_assoc before ((id, weight) ∷ after) y, differs, cause)

-- what changed in the second, by what was known then, changed in both
pub changed_second : (a b : HoleId → Option ℕ) (x y : List (HoleId × ℕ)) → Learns a b x → IsChanged b y → IsChanged a (x ++ y)
changed_second a b x y p (before, after, id, weight, other, parts, differs, cause) = (
  x ++ before,
  after,
  id,
  weight,
  other,
  ap (λ z. x ++ z) parts ∙ sym (append_assoc x before ((id, weight) ∷ after)),
  differs,
  elim cause [
    | inl k ↦ elim (p.only id other k) [ inl g ↦ inl g | inr g ↦ inr (first_in x before (id, other) g) ]
    | inr m ↦ inr (second_in x before (id, other) m)
  ],
)

-- a hole that is known by its weight teaches nothing
pub learns_known : (k : HoleId → Option ℕ) (id : HoleId) (n : ℕ) → k id ≡ Some n → Learns k k ((id, n) ∷ [])
learns_known k id n e = record {
  kept = λ h m f. f;
  learned = λ h m c. one h m c.0 c.1 c.2;
  only = λ h m f. inl f;
}
  where
    one : (h : HoleId) (m i : ℕ) → i < 1 → IsAt ((id, n) ∷ []) i (h, m) → k h ≡ Some m
    one h m zero lt f = ap k (sym (ap (λ p. p.0) f)) ∙ e ∙ ap (λ p. Some p.1) f
    one h m (suc i) lt f = absurd (omega arith)

-- a hole that is known with another weight changed
pub changed_one : (k : HoleId → Option ℕ) (id : HoleId) (n other : ℕ) → k id ≡ Some other → (other ≡ n → ⊥) → IsChanged k ((id, n) ∷ [])
changed_one k id n other e no' = ([], [], id, n, other, refl, λ q. no' (sym q), inl e)

abbrev some : ℕ → Option ℕ
some n = Some n

-- the first of two weights
abbrev or_else : Option ℕ → Option ℕ → Option ℕ
or_else (Some n) o = Some n
or_else None o = o

-- holes of the same words are one
pub same_words : (a b : HoleId) → bytes_eq a.words b.words ≡ true → a ≡ b
same_words a b e = let make : List ℕ → HoleId = λ w. record { words = w } in ap make ((bytes_eq-Decides a.words b.words).0 e)

lookup_push : (es : List (List ℕ × ℕ)) (h : HoleId) (w : List ℕ) (n : ℕ) → weight_in (es ++ (w, n) ∷ []) h ≡ or_else (weight_in es h) (if bytes_eq h.words w then Some n else None)
lookup_push [] h w n = refl
lookup_push (e ∷ es) h w n = go (bytes_eq h.words e.0) (lookup_push es h w n)
  where
    go : (b : Bool) → weight_in (es ++ (w, n) ∷ []) h ≡ or_else (weight_in es h) (if bytes_eq h.words w then Some n else None)
        → (if b then Some e.1 else weight_in (es ++ (w, n) ∷ []) h) ≡ or_else (if b then Some e.1 else weight_in es h) (if bytes_eq h.words w then Some n else None)
    go true f = refl
    go false f = f

same_pair : (i h : HoleId) (n m : ℕ) → i ≡ h → n ≡ m → IsAt ((i, n) ∷ []) 0 (h, m)
same_pair i h n m p q = ap (λ j. (j, n)) p ∙ ap (λ k. (h, k)) q

some_same : (x y : ℕ) → some x ≡ some y → x ≡ y
some_same x y e = cc

-- a hole put after those that are known
pub learns_new : (root : Hole) (es : List (List ℕ × ℕ)) (id : HoleId) (n : ℕ) → weights root es id ≡ None → Learns (weights root es) (weights root (es ++ (id.words, n) ∷ [])) ((id, n) ∷ [])
learns_new root es id n none = record {
  kept = λ h m e. keep h m (bytes_eq h.words root.id.words) e;
  learned = λ h m c. one h m c.0 c.1 c.2;
  only = λ h m e. back h m (bytes_eq h.words root.id.words) refl e;
}
  where
    keep : (h : HoleId) (m : ℕ) (b : Bool) → (if b then Some root.weight else weight_in es h) ≡ Some m → (if b then Some root.weight else weight_in (es ++ (id.words, n) ∷ []) h) ≡ Some m
    keep h m true e = e
    keep h m false e = lookup_push es h id.words n ∙ ap (λ o. or_else o (if bytes_eq h.words id.words then Some n else None)) e

    mine : (b : Bool) → (if b then Some root.weight else weight_in es id) ≡ None → (if b then Some root.weight else weight_in (es ++ (id.words, n) ∷ []) id) ≡ Some n
    mine true e = absurd cc
    mine false e = lookup_push es id id.words n ∙ ap (λ o. or_else o (if bytes_eq id.words id.words then Some n else None)) e ∙ ap (λ b. if b then Some n else None) (bytes_eq-refl id.words)

    one : (h : HoleId) (m i : ℕ) → i < 1 → IsAt ((id, n) ∷ []) i (h, m) → weights root (es ++ (id.words, n) ∷ []) h ≡ Some m
    one h m zero lt f = ap (weights root (es ++ (id.words, n) ∷ [])) (sym (ap (λ p. p.0) f)) ∙ mine (bytes_eq id.words root.id.words) none ∙ ap (λ p. Some p.1) f
    one h m (suc i) lt f = absurd (omega arith)

    split : (h : HoleId) (m : ℕ) (o : Option ℕ) (b : Bool) → (b ≡ true → h ≡ id) → or_else o (if b then Some n else None) ≡ Some m → (o ≡ Some m) ⊎ IsIn ((id, n) ∷ []) (h, m)
    split h m (Some x) b s e = inl e
    split h m None true s e = inr (0, omega arith, same_pair id h n m (sym (s refl)) (some_same n m e))
    split h m None false s e = absurd cc

    back : (h : HoleId) (m : ℕ) (b : Bool) → bytes_eq h.words root.id.words ≡ b → (if b then Some root.weight else weight_in (es ++ (id.words, n) ∷ []) h) ≡ Some m
        → ((if b then Some root.weight else weight_in es h) ≡ Some m) ⊎ IsIn ((id, n) ∷ []) (h, m)
    back h m true r e = inl e
    back h m false r e = split h m (weight_in es h) (bytes_eq h.words id.words) (same_words h id) (sym (lookup_push es h id.words n) ∙ e)

-- holes learned so far of a list
pub record Learning (root : Hole) (old now : List (List ℕ × ℕ)) (all rest : List (HoleId × ℕ)) : Type 0 where
  pub done : List (HoleId × ℕ)
  pub parts : all ≡ done ++ rest
  pub learns : Learns (weights root old) (weights root now) done
  pub prefix : take (length old) now ≡ old

-- none is learned yet
pub learning_starts : (root : Hole) (old : List (List ℕ × ℕ)) (all : List (HoleId × ℕ)) → Learning root old old all all
learning_starts root old all = record { done = []; parts = refl; learns = learns_nothing (weights root old); prefix = ap (take (length old)) (sym (append_nil old)) ∙ take_whole old [] (length old) refl }

-- a list that begins with one which begins with a third begins with that third
prefix_twice : (old now new : List (List ℕ × ℕ)) → take (length old) now ≡ old → take (length now) new ≡ now → take (length old) new ≡ old
prefix_twice old now new p q =
    let short : length old ≤ length now = omega (arith, ap length p, length-take (length old) now) in
    sym (take-take (length old) (length now) new short) ∙ ap (take (length old)) q ∙ p

-- further ones are learned
pub learning_more : (root : Hole) (old now new : List (List ℕ × ℕ)) (all x rest : List (HoleId × ℕ)) → Learning root old now all (x ++ rest) → Learns (weights root now) (weights root new) x → take (length now) new ≡ now
    → Learning root old new all rest
learning_more root old now new all x rest l p f = record {
  done = l.done ++ x;
  parts = l.parts ∙ sym (append_assoc l.done x rest);
  learns = learns_both (weights root old) (weights root now) (weights root new) l.done x l.learns p;
  prefix = prefix_twice old now new l.prefix f;
}

-- what changed among the next ones changed in the list
pub learning_changed : (root : Hole) (old now : List (List ℕ × ℕ)) (all x rest : List (HoleId × ℕ)) → Learning root old now all (x ++ rest) → IsChanged (weights root now) x → IsChanged (weights root old) all
learning_changed root old now all x rest l c =
    subst (IsChanged (weights root old)) (sym l.parts) (changed_second (weights root old) (weights root now) l.done (x ++ rest) l.learns (changed_first (weights root now) x rest c))

-- all are learned
pub learned_all : (root : Hole) (old now : List (List ℕ × ℕ)) (all : List (HoleId × ℕ)) → Learning root old now all [] → Learns (weights root old) (weights root now) all
learned_all root old now all l = subst (Learns (weights root old) (weights root now)) (sym (l.parts ∙ append_nil l.done)) l.learns

-- the holes of two lists
holes_of-followed : (a b : Wired) → holes_of (wired_followed a b) ≡ holes_of a ++ holes_of b
holes_of-followed nil b = refl
holes_of-followed (node l k r) b = ap (λ z. holes_of k ++ z) (holes_of-followed r b) ∙ sym (append_assoc (holes_of k) (holes_of r) (holes_of b))
holes_of-followed (hole i w r) b = ap (λ z. (i, w) ∷ z) (holes_of-followed r b)

-- the holes of the trees from an index on
pub holes-step : (ts : List WireTree) (i : ℕ) (t : WireTree) → i < length ts → t ≡ get_or ts i t → holes_of (plain (drop i ts)) ≡ holes_of (put t nil) ++ holes_of (plain (drop (i + 1) ts))
holes-step ts i t h e =
    ap (λ us. holes_of (plain us)) (drop-cons ts i t h ∙ ap (λ n. get_or ts i t ∷ drop n ts) (let k : suc i ≡ i + 1 = omega arith in k))
    ∙ ap (λ u. holes_of (put u (plain (drop (i + 1) ts)))) (sym e) ∙ ap holes_of (put-followed t (plain (drop (i + 1) ts))) ∙ holes_of-followed (put t nil) (plain (drop (i + 1) ts))

abbrev pub is_err_of : Result (Unit {0}) Unlearned → Unlearned → Type 0
is_err_of r e = r ≡ Err e

-- an error that is handed on is the same
pub err_same : (r : Result (Unit {0}) Unlearned) (y x e : Unlearned) → is_err_of r y → y ≡ x → is_err_of r e → is_err_of (Err x) e
err_same r y x e p q f = subst (λ z. is_err_of (Err z) e) q (sym p ∙ f)
