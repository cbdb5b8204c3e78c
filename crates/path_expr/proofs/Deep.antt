-- A scan passes 100 open parentheses first where the written path says.
use Rattle.std.proofs.Common.{◌≡◌, ◌<◌, ◌≤◌, ◌+◌, ◌∙◌, ◌==◌, ℕ, suc, Bool, true, false, cond, IsTrue, List, [], ◌∷◌, ◌++◌, Option, Some, None, refl, sym, ap, arith, length, append_assoc, length-append, nat_lt, drop, slice_index}
use Rattle.std.proofs.lemmas.Bool.Decides.{nat_tests}
use Rattle.std.proofs.lemmas.List.{drop_more}
use Rattle.std.specs.List.{list_all}
use Rattle.mix_base.proofs.Choices.{and_parts, none_some}
use Rattle.mix_base.proofs.Lists.{append_nil}
use Rattle.mix_tree.specs.LabelGrammar.{Piece, plain, escape, is_plain, is_escape, is_piece, ArePieces, inside_quotes}
use Rattle.mix_tree.specs.Names.{is_name_byte}
use Rattle.path_expr.specs.Grammar.{Spelled, word, quote, group, marked, dot, bar, Kind, a_path, a_sequence, a_repeat, an_atom, is_mark, Is, text_of, Writes}
use Rattle.path_expr.specs.Depth.{nesting, first_of, deep_here, deep_from, deep_at}
use Rattle.path_expr.specs.Scanned.{shape, shape_close, shape_in, shape_step, may_end}
use Rattle.path_expr.specs.declared.scan.Scan.{Scan}
use Rattle.path_expr.specs.declared.scan.Stage.{Stage}
use Rattle.path_expr.specs.declared.scan.Stage.TheVariants.{Start, Naming, Quoting, Escaping, PastAtom, PastRepeat}

-- the place at hand where the scan that goes on passes 100 open parentheses, else the first one after it
abbrev after_scan : ℕ → (Scan → Option ℕ) → Option Scan → Option ℕ
after_scan i later None = None
after_scan i later (Some s) = first_of (deep_here s.depth i) (later s)

-- the first place at which a scan passes 100 open parentheses, in a text that stands at i
abbrev pub scan_deep : List ℕ → ℕ → Scan → Option ℕ
scan_deep [] i s = None
scan_deep (b ∷ x) i s = after_scan i (scan_deep x (i + 1)) (shape_step s b)

-- no place is at hand where no more than 100 are open
not_deep : (n i : ℕ) → n ≤ 100 → deep_here n i ≡ None
not_deep n i h = let e : nat_lt 100 n ≡ false = grind (arith, nat_tests) in ap (λ c. cond c (Some i) None) e

-- a scan goes past a byte that opens and closes no parenthesis, and finds what it finds from the next byte on
flat : (b : ℕ) (x : List ℕ) (i n : ℕ) (s t : Stage) → n ≤ 100 → shape_in n s b ≡ Some (shape n t) → scan_deep (b ∷ x) i (shape n s) ≡ scan_deep x (i + 1) (shape n t)
flat b x i n s t h e = ap (after_scan i (scan_deep x (i + 1))) e ∙ ap (λ d. first_of d (scan_deep x (i + 1) (shape n t))) (not_deep n i h)

-- a name that goes on opens nothing
name_deep : (l y : List ℕ) (i n : ℕ) → n ≤ 100 → IsTrue (list_all is_name_byte l) → scan_deep (l ++ y) i (shape n Naming) ≡ scan_deep y (i + length l) (shape n Naming)
name_deep [] y i n m h = let e : i ≡ i + 0 = omega arith in ap (λ k. scan_deep y k (shape n Naming)) e
name_deep (b ∷ l) y i n m h =
    let parts = and_parts (is_name_byte b) (list_all is_name_byte l) h in
    let e : i + 1 + length l ≡ i + length (b ∷ l) = omega arith in
    flat b (l ++ y) i n Naming Naming m (rw parts.0 refl) ∙ name_deep l y (i + 1) n m parts.1 ∙ ap (λ k. scan_deep y k (shape n Naming)) e

-- a scan inside quotes goes past a byte that stands for itself, and is still inside quotes
plain_step : (b n : ℕ) → IsTrue (is_plain b) → shape_in n Quoting b ≡ Some (shape n Quoting)
plain_step b n h = by_cases (b == 34) (b == 92) h
  where
    by_cases : (c d : Bool) → IsTrue (cond c false (cond d false true))
        → cond c (Some (shape n PastAtom)) (cond d (Some (shape n Escaping)) (Some (shape n Quoting))) ≡ Some (shape n Quoting)
    by_cases true d h = cc
    by_cases false true h = cc
    by_cases false false h = refl

-- the pieces of a quoted label open no parenthesis
inside_deep : (ps : List Piece) (y : List ℕ) (i n : ℕ) → n ≤ 100 → ArePieces ps → scan_deep (inside_quotes ps ++ y) i (shape n Quoting) ≡ scan_deep y (i + length (inside_quotes ps)) (shape n Quoting)
inside_deep [] y i n m h = let e : i ≡ i + 0 = omega arith in ap (λ k. scan_deep y k (shape n Quoting)) e
inside_deep (plain b ∷ ps) y i n m h =
    let parts = and_parts (is_plain b) (list_all is_piece ps) h in
    let e : i + 1 + length (inside_quotes ps) ≡ i + length (b ∷ inside_quotes ps) = omega arith in
    flat b (inside_quotes ps ++ y) i n Quoting Quoting m (plain_step b n parts.0) ∙ inside_deep ps y (i + 1) n m parts.1 ∙ ap (λ k. scan_deep y k (shape n Quoting)) e
inside_deep (escape b ∷ ps) y i n m h =
    let parts = and_parts (is_escape b) (list_all is_piece ps) h in
    let e : i + 1 + 1 + length (inside_quotes ps) ≡ i + length (92 ∷ b ∷ inside_quotes ps) = omega arith in
    flat 92 (b ∷ inside_quotes ps ++ y) i n Quoting Escaping m refl ∙ flat b (inside_quotes ps ++ y) (i + 1) n Escaping Quoting m (rw parts.0 refl)
    ∙ inside_deep ps y (i + 1 + 1) n m parts.1 ∙ ap (λ k. scan_deep y k (shape n Quoting)) e

-- the stage after what is written
abbrev end_of : Spelled → Stage
end_of (word l) = Naming
end_of (quote ps) = PastAtom
end_of (group p) = PastAtom
end_of (marked p m) = PastRepeat
end_of (dot p q) = end_of q
end_of (bar p q) = end_of q

-- after what is written a member may end
ends : (p : Spelled) → may_end (end_of p) ≡ true
ends (word l) = refl
ends (quote ps) = refl
ends (group p) = refl
ends (marked p m) = refl
ends (dot p q) = ends q
ends (bar p q) = ends q

-- where a member may end, a closing parenthesis closes one
closes : (n : ℕ) (s : Stage) → may_end s ≡ true → shape_in (n + 1) s 41 ≡ Some (shape n PastAtom)
closes n Start h = cc
closes n Naming h = let e : n + 1 ≡ suc n = omega arith in ap shape_close e
closes n Quoting h = cc
closes n Escaping h = cc
closes n PastAtom h = let e : n + 1 ≡ suc n = omega arith in ap shape_close e
closes n PastRepeat h = let e : n + 1 ≡ suc n = omega arith in ap shape_close e

-- the next member begins after a dot
dots : (n : ℕ) (s : Stage) → may_end s ≡ true → shape_in n s 46 ≡ Some (shape n Start)
dots n Start h = cc
dots n Naming h = refl
dots n Quoting h = cc
dots n Escaping h = cc
dots n PastAtom h = refl
dots n PastRepeat h = refl

-- the next member begins after a bar
bars : (n : ℕ) (s : Stage) → may_end s ≡ true → shape_in n s 124 ≡ Some (shape n Start)
bars n Start h = cc
bars n Naming h = refl
bars n Quoting h = cc
bars n Escaping h = cc
bars n PastAtom h = refl
bars n PastRepeat h = refl

-- an atom takes a mark
marks : (n m : ℕ) (p : Spelled) → Is p an_atom → IsTrue (is_mark m) → shape_in n (end_of p) m ≡ Some (shape n PastRepeat)
marks n m (word l) h k = let e : is_name_byte m ≡ false = grind (arith, nat_tests) in rw (e, k) refl
marks n m (quote ps) h k = rw k refl
marks n m (group p) h k = rw k refl
marks n m (marked p o) h k = absurd h
marks n m (dot p q) h k = absurd h
marks n m (bar p q) h k = absurd h

-- what a scan finds in what is written, and after it
abbrev Finds : Spelled → Type 0
Finds p = (y : List ℕ) (i n : ℕ) → n ≤ 100
    → scan_deep (text_of p ++ y) i (shape n Start) ≡ first_of (deep_from n i p) (scan_deep y (i + length (text_of p)) (shape n (end_of p)))

-- a scan of a name finds what the name says
word_deep : (l : List ℕ) → Is (word l) an_atom → Finds (word l)
word_deep [] h y i n m = absurd (omega (arith, h.1))
word_deep (b ∷ l) h y i n m =
    let parts = and_parts (is_name_byte b) (list_all is_name_byte l) h.0 in
    let e : i + 1 + length l ≡ i + length (b ∷ l) = omega arith in
    flat b (l ++ y) i n Start Naming m (rw parts.0 refl) ∙ name_deep l y (i + 1) n m parts.1 ∙ ap (λ k. scan_deep y k (shape n Naming)) e

-- a scan of a quoted label finds what the label says
quote_deep : (ps : List Piece) → ArePieces ps → Finds (quote ps)
quote_deep ps h y i n m =
    let x = inside_quotes ps in
    let e : i + 1 + length x + 1 ≡ i + length (34 ∷ x ++ 34 ∷ []) = omega (arith, length-append x (34 ∷ [])) in
    flat 34 ((x ++ 34 ∷ []) ++ y) i n Start Quoting m refl ∙ ap (λ r. scan_deep r (i + 1) (shape n Quoting)) (append_assoc x (34 ∷ []) y)
    ∙ inside_deep ps (34 ∷ y) (i + 1) n m h ∙ flat 34 y (i + 1 + length x) n Quoting PastAtom m refl ∙ ap (λ k. scan_deep y k (shape n PastAtom)) e

-- a scan of a path in parentheses finds what that path says
group_deep : (p : Spelled) → Finds p → Finds (group p)
group_deep p h y i n m = by_case (nat_lt n 100) refl
  where
    x : List ℕ
    x = text_of p

    inner : n + 1 ≤ 100 → scan_deep ((x ++ 41 ∷ []) ++ y) (i + 1) (shape (n + 1) Start)
        ≡ first_of (deep_from (n + 1) (i + 1) p) (scan_deep y (i + length (40 ∷ x ++ 41 ∷ [])) (shape n PastAtom))
    inner few =
        let e : i + 1 + length x + 1 ≡ i + length (40 ∷ x ++ 41 ∷ []) = omega (arith, length-append x (41 ∷ [])) in
        let closed : scan_deep (41 ∷ y) (i + 1 + length x) (shape (n + 1) (end_of p)) ≡ scan_deep y (i + 1 + length x + 1) (shape n PastAtom) =
        ap (after_scan (i + 1 + length x) (scan_deep y (i + 1 + length x + 1))) (closes n (end_of p) (ends p))
        ∙ ap (λ d. first_of d (scan_deep y (i + 1 + length x + 1) (shape n PastAtom))) (not_deep n (i + 1 + length x) m) in
        ap (λ r. scan_deep r (i + 1) (shape (n + 1) Start)) (append_assoc x (41 ∷ []) y) ∙ h (41 ∷ y) (i + 1) (n + 1) few
        ∙ ap (first_of (deep_from (n + 1) (i + 1) p)) (closed ∙ ap (λ k. scan_deep y k (shape n PastAtom)) e)

    by_case : (c : Bool) → nat_lt n 100 ≡ c
        → first_of (deep_here (n + 1) i) (scan_deep ((x ++ 41 ∷ []) ++ y) (i + 1) (shape (n + 1) Start))
        ≡ first_of (cond c (deep_from (n + 1) (i + 1) p) (Some i)) (scan_deep y (i + length (40 ∷ x ++ 41 ∷ [])) (shape n PastAtom))
    by_case true k =
        let few : n + 1 ≤ 100 = grind (arith, nat_tests) in
        ap (λ d. first_of d (scan_deep ((x ++ 41 ∷ []) ++ y) (i + 1) (shape (n + 1) Start))) (not_deep (n + 1) i few) ∙ inner few
    by_case false k =
        let many : nat_lt 100 (n + 1) ≡ true = grind (arith, nat_tests) in
        ap (λ c. first_of (cond c (Some i) None) (scan_deep ((x ++ 41 ∷ []) ++ y) (i + 1) (shape (n + 1) Start))) many

-- a scan of an atom with its mark finds what the atom says
marked_deep : (p : Spelled) (m : ℕ) → Is p an_atom → IsTrue (is_mark m) → Finds p → Finds (marked p m)
marked_deep p m a k h y i n few =
    let x = text_of p in
    let e : i + length x + 1 ≡ i + length (x ++ m ∷ []) = omega (arith, length-append x (m ∷ [])) in
    ap (λ r. scan_deep r i (shape n Start)) (append_assoc x (m ∷ []) y) ∙ h (m ∷ y) i n few
    ∙ ap (first_of (deep_from n i p)) (flat m y (i + length x) n (end_of p) PastRepeat few (marks n m p a k) ∙ ap (λ j. scan_deep y j (shape n PastRepeat)) e)

-- the first of three places
pub first_assoc : (a b c : Option ℕ) → first_of a (first_of b c) ≡ first_of (first_of a b) c
first_assoc None b c = refl
first_assoc (Some a) b c = refl

-- a scan of two parts with a dot or a bar between them finds what the parts say
two_deep : (p q : Spelled) (b : ℕ) → ((n : ℕ) → shape_in n (end_of p) b ≡ Some (shape n Start)) → Finds p → Finds q → (y : List ℕ) (i n : ℕ) → n ≤ 100
    → scan_deep ((text_of p ++ b ∷ text_of q) ++ y) i (shape n Start)
    ≡ first_of (first_of (deep_from n i p) (deep_from n (i + length (text_of p) + 1) q)) (scan_deep y (i + length (text_of p ++ b ∷ text_of q)) (shape n (end_of q)))
two_deep p q b f h k y i n few =
    let x = text_of p in
    let z = text_of q in
    let e : i + length x + 1 + length z ≡ i + length (x ++ b ∷ z) = omega (arith, length-append x (b ∷ z)) in
    ap (λ r. scan_deep r i (shape n Start)) (append_assoc x (b ∷ z) y) ∙ h (b ∷ (z ++ y)) i n few
    ∙ ap (first_of (deep_from n i p)) (flat b (z ++ y) (i + length x) n (end_of p) Start few (f n) ∙ k y (i + length x + 1) n few
    ∙ ap (λ j. first_of (deep_from n (i + length x + 1) q) (scan_deep y j (shape n (end_of q)))) e)
    ∙ first_assoc (deep_from n i p) (deep_from n (i + length x + 1) q) (scan_deep y (i + length (x ++ b ∷ z)) (shape n (end_of q)))

-- a scan of all that is written finds what the written path says
finds : (p : Spelled) (k : Kind) → Is p k → Finds p
finds (word l) k h y i n m = word_deep l h y i n m
finds (quote ps) k h y i n m = quote_deep ps h y i n m
finds (group p) k h y i n m = group_deep p (finds p a_path h) y i n m
finds (marked p o) an_atom h y i n m = absurd h
finds (marked p o) a_repeat h y i n m = marked_deep p o h.0 h.1 (finds p an_atom h.0) y i n m
finds (marked p o) a_sequence h y i n m = marked_deep p o h.0 h.1 (finds p an_atom h.0) y i n m
finds (marked p o) a_path h y i n m = marked_deep p o h.0 h.1 (finds p an_atom h.0) y i n m
finds (dot p q) an_atom h y i n m = absurd h
finds (dot p q) a_repeat h y i n m = absurd h
finds (dot p q) a_sequence h y i n m = two_deep p q 46 (λ j. dots j (end_of p) (ends p)) (finds p a_sequence h.0) (finds q a_repeat h.1) y i n m
finds (dot p q) a_path h y i n m = two_deep p q 46 (λ j. dots j (end_of p) (ends p)) (finds p a_sequence h.0) (finds q a_repeat h.1) y i n m
finds (bar p q) an_atom h y i n m = absurd h
finds (bar p q) a_repeat h y i n m = absurd h
finds (bar p q) a_sequence h y i n m = absurd h
finds (bar p q) a_path h y i n m = two_deep p q 124 (λ j. bars j (end_of p) (ends p)) (finds p a_path h.0) (finds q a_sequence h.1) y i n m

-- the first of a place and none is that place
pub first_none : (a : Option ℕ) → first_of a None ≡ a
first_none None = refl
first_none (Some a) = refl

-- a scan of a whole text finds what the path says
pub whole_deep : (x : List ℕ) (p : Spelled) → Writes x p → scan_deep x 0 (shape 0 Start) ≡ deep_at p
whole_deep x p h =
    ap (λ r. scan_deep r 0 (shape 0 Start)) (sym h.1 ∙ sym (append_nil (text_of p))) ∙ finds p a_path h.0 [] 0 0 (omega arith) ∙ first_none (deep_at p)

-- the first place up to and with a byte, and then after it, is the first one of a scan that stood before the byte
pub deep_next : (x : List ℕ) (at : ℕ) (s t : Scan) (deep : Option ℕ) → at < length x → shape_step s (slice_index x at) ≡ Some t
    → first_of (first_of deep (deep_here t.depth at)) (scan_deep (drop (at + 1) x) (at + 1) t) ≡ first_of deep (scan_deep (drop at x) at s)
deep_next x at s t deep within e =
    sym (first_assoc deep (deep_here t.depth at) (scan_deep (drop (at + 1) x) (at + 1) t))
    ∙ ap (first_of deep) (sym (ap (λ r. scan_deep r at s) (drop_more x at 0 within) ∙ ap (after_scan at (scan_deep (drop (at + 1) x) (at + 1))) e))

-- where the first of two places is none, both are
both_none : (a b : Option ℕ) → first_of a b ≡ None → (a ≡ None) × (b ≡ None)
both_none None b e = (refl, e)
both_none (Some a) b e = none_some a (sym e)

-- where no parenthesis of a written path is open inside 100 others, no more than 100 are open at once
pub none_nests : (p : Spelled) (n i : ℕ) → n ≤ 100 → deep_from n i p ≡ None → n + nesting p ≤ 100
none_nests (word l) n i h e = omega (arith, h)
none_nests (quote ps) n i h e = omega (arith, h)
none_nests (group p) n i h e = by_case (nat_lt n 100) refl e (none_nests p (n + 1) (i + 1))
  where
    by_case : (c : Bool) → nat_lt n 100 ≡ c → cond c (deep_from (n + 1) (i + 1) p) (Some i) ≡ None
        → (n + 1 ≤ 100 → deep_from (n + 1) (i + 1) p ≡ None → n + 1 + nesting p ≤ 100)
        → n + (1 + nesting p) ≤ 100
    by_case true k e f = let low : n < 100 = grind (arith, nat_tests) in omega (arith, f (omega (arith, low)) e)
    by_case false k e f = none_some i (sym e)
none_nests (marked p m) n i h e = none_nests p n i h e
none_nests (dot p q) n i h e =
    let both = both_none (deep_from n i p) (deep_from n (i + length (text_of p) + 1) q) e in
    omega (arith, none_nests p n i h both.0, none_nests q n (i + length (text_of p) + 1) h both.1)
none_nests (bar p q) n i h e =
    let both = both_none (deep_from n i p) (deep_from n (i + length (text_of p) + 1) q) e in
    omega (arith, none_nests p n i h both.0, none_nests q n (i + length (text_of p) + 1) h both.1)

-- where no more than 100 parentheses of a written path are open at once, none is open inside 100 others
pub nests_none : (p : Spelled) (n i : ℕ) → n + nesting p ≤ 100 → deep_from n i p ≡ None
nests_none (word l) n i h = refl
nests_none (quote ps) n i h = refl
nests_none (group p) n i h = by_case (nat_lt n 100) refl (nests_none p (n + 1) (i + 1) (omega (arith, h)))
  where
    by_case : (c : Bool) → nat_lt n 100 ≡ c → deep_from (n + 1) (i + 1) p ≡ None → cond c (deep_from (n + 1) (i + 1) p) (Some i) ≡ None
    by_case true k f = f
    by_case false k f = let high : 100 ≤ n = grind (arith, nat_tests) in absurd (omega (arith, h, high))
nests_none (marked p m) n i h = nests_none p n i h
nests_none (dot p q) n i h = rw (nests_none p n i (omega (arith, h)), nests_none q n (i + length (text_of p) + 1) (omega (arith, h))) refl
nests_none (bar p q) n i h = rw (nests_none p n i (omega (arith, h)), nests_none q n (i + length (text_of p) + 1) (omega (arith, h))) refl
