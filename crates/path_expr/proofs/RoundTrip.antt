-- A path that was read from a text is spelled within the limits by its canonical text.
use Rattle.std.proofs.Common.{◌≡◌, ◌<◌, ◌≤◌, ◌+◌, ◌==◌, max, ℕ, Bool, true, false, cond, IsTrue, List, [], ◌∷◌, ◌++◌, refl, sym, subst, arith, length}
use Rattle.std.proofs.lemmas.Bool.Decides.{nat_tests}
use Rattle.std.specs.Str.{IsUtf8, bytes_eq}
use Rattle.mix_base.proofs.Utf8.{utf8_split}
use Rattle.mix_tree.specs.LabelGrammar.{Piece, ArePieces, inside_quotes, meaning}
use Rattle.path_expr.specs.Grammar.{Spelled, word, quote, group, marked, dot, bar, Kind, a_path, a_sequence, a_repeat, an_atom, is_mark, Is, text_of}
use Rattle.path_expr.specs.Depth.{nesting}
use Rattle.path_expr.specs.Form as form
use Rattle.path_expr.specs.Values as valued
use Rattle.path_expr.specs.Results.{SpellsWithin}
use Rattle.path_expr.specs.Canonical.{is_plain_name, wraps_in_seq, wraps_in_alt, wraps_in_mark, canon, AreFormed, IsFormed}
use Rattle.path_expr.proofs.Utf8.{label_utf8}
use Rattle.path_expr.proofs.Sound.{sequence_of_repeat, repeat_of_atom}
use Rattle.path_expr.proofs.Again.{Part, wrapped, dots_from, bars_from, parts_of, spelled_as, canon_writes}
use Rattle.path_expr.proofs.Images.{dots_of_repeat, bars_of_sequence}
use Rattle.path_expr.specs.Labels.{HeadUtf8, AreUtf8}
use Rattle.path_expr.proofs.CanonUtf8.{canon_utf8}

-- a path as a part of the canonical text, and how deep its parentheses go there
abbrev part_of : form.Form → Part
part_of f = record { head = f.head; spelled = spelled_as f }

-- how deep its parentheses go as a member
abbrev inner : (form.Head → Bool) → form.Form → ℕ
inner wraps f = nesting (wrapped wraps (part_of f))

-- no head stands in parentheses: as of a path by itself
abbrev never : form.Head → Bool
never h = false

-- a path that a text can spell, in UTF-8, whose canonical text goes no deeper than n where such heads stand in parentheses
record Fits (wraps : form.Head → Bool) (n : ℕ) (f : form.Form) : Type 0 where
  formed : IsFormed f
  head : HeadUtf8 f.head
  members : AreUtf8 f.members
  nests : inner wraps f ≤ n

-- each path of a list fits where such heads stand in parentheses
abbrev AllFit : (form.Head → Bool) → ℕ → List form.Form → Type 0
AllFit wraps n [] = Unit {0}
AllFit wraps n (f ∷ fs) = Fits wraps n f × AllFit wraps n fs

-- a path that fits still does where the parentheses may go deeper
deeper : (wraps : form.Head → Bool) (n m : ℕ) (f : form.Form) → n ≤ m → Fits wraps n f → Fits wraps m f
deeper wraps n m f h k = record { formed = k.formed; head = k.head; members = k.members; nests = omega (arith, h, k.nests) }

-- paths that fit still do where the parentheses may go deeper
all_deeper : (wraps : form.Head → Bool) (n m : ℕ) (fs : List form.Form) → n ≤ m → AllFit wraps n fs → AllFit wraps m fs
all_deeper wraps n m [] h k = tt
all_deeper wraps n m (f ∷ fs) h k = (deeper wraps n m f h k.0, all_deeper wraps n m fs h k.1)

-- paths that fit, with one more that does, all fit
all_push : (wraps : form.Head → Bool) (n : ℕ) (fs : List form.Form) (f : form.Form) → AllFit wraps n fs → Fits wraps n f → AllFit wraps n (fs ++ f ∷ [])
all_push wraps n [] f h k = (k, tt)
all_push wraps n (g ∷ fs) f h k = (h.0, all_push wraps n fs f h.1 k)

-- a path that fits still fits where fewer heads stand in parentheses
fewer : (wraps less : form.Head → Bool) (n : ℕ) (f : form.Form) → (IsTrue (less f.head) → IsTrue (wraps f.head)) → Fits wraps n f → Fits less n f
fewer wraps less n f e h = record { formed = h.formed; head = h.head; members = h.members; nests = by_cases (wraps f.head) (less f.head) e h.nests }
  where
    by_cases : (c d : Bool) → (IsTrue d → IsTrue c) → nesting (cond c (group (spelled_as f)) (spelled_as f)) ≤ n → nesting (cond d (group (spelled_as f)) (spelled_as f)) ≤ n
    by_cases true true e h = h
    by_cases true false e h = omega (arith, h)
    by_cases false true e h = let no : false ≡ true = e refl in cc
    by_cases false false e h = h

-- what stands in parentheses in a sequence does under a mark
seq_under_mark : (h : form.Head) → IsTrue (wraps_in_seq h) → IsTrue (wraps_in_mark h)
seq_under_mark (form.name l) e = e
seq_under_mark form.any e = e
seq_under_mark form.seq e = e
seq_under_mark form.alt e = e
seq_under_mark form.star e = refl
seq_under_mark form.plus e = refl
seq_under_mark form.opt e = refl

-- what stands in parentheses in a choice does in a sequence
alt_under_seq : (h : form.Head) → IsTrue (wraps_in_alt h) → IsTrue (wraps_in_seq h)
alt_under_seq (form.name l) e = e
alt_under_seq form.any e = e
alt_under_seq form.seq e = refl
alt_under_seq form.alt e = e
alt_under_seq form.star e = e
alt_under_seq form.plus e = e
alt_under_seq form.opt e = e

-- from a head that stands in parentheses where none does, anything follows
never_holds : (h : form.Head) (b : Bool) → IsTrue (never h) → IsTrue b
never_holds h b e = cc

-- a path that fits by itself up to a depth fits in parentheses, one deeper
one_pair : (wraps : form.Head → Bool) (n : ℕ) (f : form.Form) → Fits never n f → Fits wraps (1 + n) f
one_pair wraps n f h = record { formed = h.formed; head = h.head; members = h.members; nests = by_case (wraps f.head) h.nests }
  where
    by_case : (c : Bool) → nesting (spelled_as f) ≤ n → nesting (cond c (group (spelled_as f)) (spelled_as f)) ≤ 1 + n
    by_case true h = omega (arith, h)
    by_case false h = omega (arith, h)

-- the depth bound holds for a sequence that goes on with members that fit in it
dots_nest : (p : Spelled) (fs : List form.Form) (n : ℕ) → nesting p ≤ n → AllFit wraps_in_seq n fs → nesting (dots_from p (parts_of (form.paths_of fs))) ≤ n
dots_nest p [] n h k = h
dots_nest p (f ∷ fs) n h k = dots_nest (dot p (wrapped wraps_in_seq (part_of f))) fs n (omega (arith, h, k.0.nests)) k.1

-- the depth bound holds for a choice that goes on with members that fit in it
bars_nest : (p : Spelled) (fs : List form.Form) (n : ℕ) → nesting p ≤ n → AllFit wraps_in_alt n fs → nesting (bars_from p (parts_of (form.paths_of fs))) ≤ n
bars_nest p [] n h k = h
bars_nest p (f ∷ fs) n h k = bars_nest (bar p (wrapped wraps_in_alt (part_of f))) fs n (omega (arith, h, k.0.nests)) k.1

-- the paths of a list are formed
all_formed : (wraps : form.Head → Bool) (n : ℕ) (fs : List form.Form) → AllFit wraps n fs → AreFormed (form.paths_of fs)
all_formed wraps n [] h = tt
all_formed wraps n (f ∷ fs) h = (h.0.formed.0, h.0.formed.1, all_formed wraps n fs h.1)

-- the labels of paths that fit are UTF-8
all_utf8 : (wraps : form.Head → Bool) (n : ℕ) (fs : List form.Form) → AllFit wraps n fs → AreUtf8 (form.paths_of fs)
all_utf8 wraps n [] h = tt
all_utf8 wraps n (f ∷ fs) h = (h.0.head, h.0.members, all_utf8 wraps n fs h.1)

-- a sequence of two members or more that fit in it fits in a choice
two_seq : (n : ℕ) (f g : form.Form) (fs : List form.Form) → AllFit wraps_in_seq n (f ∷ g ∷ fs) → Fits wraps_in_alt n (form.joined form.seq (f ∷ g ∷ fs))
two_seq n f g fs h = record {
  formed = (tt, all_formed wraps_in_seq n (f ∷ g ∷ fs) h);
  head = tt;
  members = all_utf8 wraps_in_seq n (f ∷ g ∷ fs) h;
  nests = dots_nest (wrapped wraps_in_seq (part_of f)) (g ∷ fs) n h.0.nests h.1;
}

-- a choice of two members or more that fit fits alone
two_alt : (n : ℕ) (f g : form.Form) (fs : List form.Form) → AllFit wraps_in_alt n (f ∷ g ∷ fs) → Fits never n (form.joined form.alt (f ∷ g ∷ fs))
two_alt n f g fs h = record {
  formed = (tt, all_formed wraps_in_alt n (f ∷ g ∷ fs) h);
  head = tt;
  members = all_utf8 wraps_in_alt n (f ∷ g ∷ fs) h;
  nests = bars_nest (wrapped wraps_in_alt (part_of f)) (g ∷ fs) n h.0.nests h.1;
}

-- a sequence that is not empty, with one member more, fits in a choice, where all members fit in the sequence
seq_fits : (n : ℕ) (fs : List form.Form) (f : form.Form) → 0 < length fs → AllFit wraps_in_seq n (fs ++ f ∷ []) → Fits wraps_in_alt n (form.joined form.seq (fs ++ f ∷ []))
seq_fits n [] f h k = absurd (omega arith)
seq_fits n (g ∷ []) f h k = two_seq n g f [] k
seq_fits n (g ∷ i ∷ fs) f h k = two_seq n g i (fs ++ f ∷ []) k

-- a choice that is not empty, with one member more, fits by itself, where all members fit in the choice
alt_fits : (n : ℕ) (fs : List form.Form) (f : form.Form) → 0 < length fs → AllFit wraps_in_alt n (fs ++ f ∷ []) → Fits never n (form.joined form.alt (fs ++ f ∷ []))
alt_fits n [] f h k = absurd (omega arith)
alt_fits n (g ∷ []) f h k = two_alt n g f [] k
alt_fits n (g ∷ i ∷ fs) f h k = two_alt n g i (fs ++ f ∷ []) k

-- what the written path means fits where one of its kind stands
record SeqFits (p : Spelled) : Type 0 where
  dots : AllFit wraps_in_seq (nesting p) (valued.read p).dots
  some : 0 < length (valued.read p).dots
  value : Fits wraps_in_alt (nesting p) (valued.value_of p)

-- what a written path means fits alone, and the members of its choice fit in a choice
record PathFits (p : Spelled) : Type 0 where
  bars : AllFit wraps_in_alt (nesting p) (valued.read p).bars
  some : 0 < length (valued.read p).bars
  value : Fits never (nesting p) (valued.value_of p)

-- what is written fits where its kind stands
abbrev KindFits : Kind → Spelled → Type 0
KindFits a_path p = PathFits p
KindFits a_sequence p = SeqFits p
KindFits a_repeat p = Fits wraps_in_seq (nesting p) (valued.value_of p)
KindFits an_atom p = Fits wraps_in_mark (nesting p) (valued.value_of p)

-- an atom that fits under a mark fits in a sequence
repeat_fits : (p : Spelled) → Fits wraps_in_mark (nesting p) (valued.value_of p) → Fits wraps_in_seq (nesting p) (valued.value_of p)
repeat_fits p h = fewer wraps_in_mark wraps_in_seq (nesting p) (valued.value_of p) (seq_under_mark (valued.value_of p).head) h

-- a repeat that fits in a sequence does so as a sequence of itself alone
seq_of : (p : Spelled) → Is p a_repeat → Fits wraps_in_seq (nesting p) (valued.value_of p) → SeqFits p
seq_of p i h =
    let one = sym (dots_of_repeat p i) in record {
      dots = subst (AllFit wraps_in_seq (nesting p)) one (h, tt);
      some = subst (λ fs. 0 < length fs) one (omega arith);
      value = fewer wraps_in_seq wraps_in_alt (nesting p) (valued.value_of p) (alt_under_seq (valued.value_of p).head) h;
    }

-- a sequence that fits in a choice does so as a path
path_of : (p : Spelled) → Is p a_sequence → SeqFits p → PathFits p
path_of p i h =
    let one = sym (bars_of_sequence p i) in record {
      bars = subst (AllFit wraps_in_alt (nesting p)) one (h.value, tt);
      some = subst (λ fs. 0 < length fs) one (omega arith);
      value = fewer wraps_in_alt never (nesting p) (valued.value_of p) (never_holds (valued.value_of p).head (wraps_in_alt (valued.value_of p).head)) h.value;
    }

-- a repeat that fits in a sequence fits as each kind but an atom
from_repeat : (k : Kind) (p : Spelled) → Is p a_repeat → (k ≡ an_atom → ⊥) → Fits wraps_in_seq (nesting p) (valued.value_of p) → KindFits k p
from_repeat a_path p i n h = path_of p (sequence_of_repeat p i) (seq_of p i h)
from_repeat a_sequence p i n h = seq_of p i h
from_repeat a_repeat p i n h = h
from_repeat an_atom p i n h = absurd (n refl)

-- an atom that fits under a mark fits as each kind
from_atom : (k : Kind) (p : Spelled) → Is p an_atom → Fits wraps_in_mark (nesting p) (valued.value_of p) → KindFits k p
from_atom a_path p i h = path_of p (sequence_of_repeat p (repeat_of_atom p i)) (seq_of p (repeat_of_atom p i) (repeat_fits p h))
from_atom a_sequence p i h = seq_of p (repeat_of_atom p i) (repeat_fits p h)
from_atom a_repeat p i h = repeat_fits p h
from_atom an_atom p i h = h

-- a UTF-8 label fits under a mark
named_fits : (l : List ℕ) → IsUtf8 l → Fits wraps_in_mark 0 (valued.named l)
named_fits l u = record { formed = (refl, tt); head = u; members = tt; nests = by_case (is_plain_name l) _ }
  where
    by_case : (c : Bool) (ps : List Piece) → nesting (cond c (word l) (quote ps)) ≤ 0
    by_case true ps = omega arith
    by_case false ps = omega arith

-- a UTF-8 name, or _, fits under a mark
word_fits : (l : List ℕ) → IsUtf8 l → Fits wraps_in_mark 0 (valued.word_form l)
word_fits l u = by_case (bytes_eq l (95 ∷ []))
  where
    by_case : (c : Bool) → Fits wraps_in_mark 0 (cond c (record { head = form.any; members = form.none }) (valued.named l))
    by_case true = record { formed = (refl, tt); head = tt; members = tt; nests = omega arith }
    by_case false = named_fits l u

-- the label of a UTF-8 text between quotes fits under a mark
quote_fits : (ps : List Piece) → ArePieces ps → IsUtf8 (34 ∷ inside_quotes ps ++ 34 ∷ []) → Fits wraps_in_mark 0 (valued.named (meaning ps))
quote_fits ps h u =
    let after = utf8_split [] (inside_quotes ps ++ 34 ∷ []) 34 (omega arith) u in
    named_fits (meaning ps) (label_utf8 [] ps h (utf8_split (inside_quotes ps) [] 34 (omega arith) after.1).0)

-- an atom with its mark fits in a sequence, where the atom fits under the mark
marked_fits : (n m : ℕ) (f : form.Form) → Fits wraps_in_mark n f → Fits wraps_in_seq n (form.repeated (valued.mark_head m) f)
marked_fits n m f h = by_cases (m == 42) (m == 43)
  where
    by_cases : (c d : Bool) → Fits wraps_in_seq n (form.repeated (cond c form.star (cond d form.plus form.opt)) f)
    by_cases true d = record { formed = (refl, (h.formed.0, h.formed.1, tt)); head = tt; members = (h.head, h.members, tt); nests = h.nests }
    by_cases false true = record { formed = (refl, (h.formed.0, h.formed.1, tt)); head = tt; members = (h.head, h.members, tt); nests = h.nests }
    by_cases false false = record { formed = (refl, (h.formed.0, h.formed.1, tt)); head = tt; members = (h.head, h.members, tt); nests = h.nests }

-- marks are ASCII
mark_low : (b : ℕ) → IsTrue (is_mark b) → b < 128
mark_low b h = grind (arith, nat_tests)

-- a list with a member more is not empty
longer : (fs : List form.Form) (f : form.Form) → 0 < length (fs ++ f ∷ [])
longer [] f = omega arith
longer (g ∷ fs) f = omega arith

-- a sequence fits, where its first members and its last one fit
dot_fits : (p q : Spelled) → SeqFits p → Fits wraps_in_seq (nesting q) (valued.value_of q) → SeqFits (dot p q)
dot_fits p q h k =
    let n = max (nesting p) (nesting q) in
    let ds = (valued.read p).dots in
    let left : nesting p ≤ n = omega arith in
    let right : nesting q ≤ n = omega arith in
    let all = all_push wraps_in_seq n ds (valued.value_of q) (all_deeper wraps_in_seq (nesting p) n ds left h.dots) (deeper wraps_in_seq (nesting q) n (valued.value_of q) right k) in
    record { dots = all; some = longer ds (valued.value_of q); value = seq_fits n ds (valued.value_of q) h.some all }

-- a choice fits, where its first choices and its last one fit
bar_fits : (p q : Spelled) → PathFits p → Fits wraps_in_alt (nesting q) (valued.value_of q) → PathFits (bar p q)
bar_fits p q h k =
    let n = max (nesting p) (nesting q) in
    let bs = (valued.read p).bars in
    let left : nesting p ≤ n = omega arith in
    let right : nesting q ≤ n = omega arith in
    let all = all_push wraps_in_alt n bs (valued.value_of q) (all_deeper wraps_in_alt (nesting p) n bs left h.bars) (deeper wraps_in_alt (nesting q) n (valued.value_of q) right k) in
    record { bars = all; some = longer bs (valued.value_of q); value = alt_fits n bs (valued.value_of q) h.some all }

-- all that is written in UTF-8 fits where its kind stands
fits : (p : Spelled) (k : Kind) → Is p k → IsUtf8 (text_of p) → KindFits k p
fits (word l) k h u = from_atom k (word l) h (word_fits l u)
fits (quote ps) k h u = from_atom k (quote ps) h (quote_fits ps h u)
fits (group p) k h u =
    let after = utf8_split [] (text_of p ++ 41 ∷ []) 40 (omega arith) u in
    let inside = utf8_split (text_of p) [] 41 (omega arith) after.1 in
    from_atom k (group p) h (one_pair wraps_in_mark (nesting p) (valued.value_of p) (fits p a_path h inside.0).value)
fits (marked p m) an_atom h u = absurd h
fits (marked p m) a_repeat h u = marked_fits (nesting p) m (valued.value_of p) (fits p an_atom h.0 (utf8_split (text_of p) [] m (mark_low m h.1) u).0)
fits (marked p m) a_sequence h u = seq_of (marked p m) h (marked_fits (nesting p) m (valued.value_of p) (fits p an_atom h.0 (utf8_split (text_of p) [] m (mark_low m h.1) u).0))
fits (marked p m) a_path h u =
    path_of (marked p m) h (seq_of (marked p m) h (marked_fits (nesting p) m (valued.value_of p) (fits p an_atom h.0 (utf8_split (text_of p) [] m (mark_low m h.1) u).0)))
fits (dot p q) an_atom h u = absurd h
fits (dot p q) a_repeat h u = absurd h
fits (dot p q) a_sequence h u = let parts = utf8_split (text_of p) (text_of q) 46 (omega arith) u in dot_fits p q (fits p a_sequence h.0 parts.0) (fits q a_repeat h.1 parts.1)
fits (dot p q) a_path h u =
    let parts = utf8_split (text_of p) (text_of q) 46 (omega arith) u in
    path_of (dot p q) h (dot_fits p q (fits p a_sequence h.0 parts.0) (fits q a_repeat h.1 parts.1))
fits (bar p q) an_atom h u = absurd h
fits (bar p q) a_repeat h u = absurd h
fits (bar p q) a_sequence h u = absurd h
fits (bar p q) a_path h u =
    let parts = utf8_split (text_of p) (text_of q) 124 (omega arith) u in
    bar_fits p q (fits p a_path h.0 parts.0) (fits q a_sequence h.1 parts.1).value

-- a path that was read is spelled within the limits by its canonical text, which is UTF-8
pub canon_within : (x : List ℕ) (f : form.Form) → IsUtf8 x → SpellsWithin x f → IsUtf8 (canon f) × SpellsWithin (canon f) f
canon_within x f u h =
    let all : Fits never (nesting h.spelled) f =
    subst (Fits never (nesting h.spelled)) h.value (fits h.spelled a_path h.writes.0 (subst IsUtf8 (sym h.writes.1) u)).value in
    let w = canon_writes f all.formed in (
      canon_utf8 f all.head all.members,
      record { spelled = spelled_as f; writes = w.0; value = w.1; nesting = omega (arith, all.nests, h.nesting); positions = h.positions },
    )
