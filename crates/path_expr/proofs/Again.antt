-- The canonical text of a path spells that path.
use Rattle.std.proofs.Common.{◌≡◌, inl, inr, ◌∙◌, ℕ, Bool, true, false, cond, IsTrue, List, [], ◌∷◌, ◌++◌, refl, sym, ap, subst, append_assoc, arith}
use Rattle.std.specs.Str.{bytes_eq}
use Rattle.std.specs.List.{list_all}
use Rattle.mix_base.proofs.Lists.{append_nil}
use Rattle.mix_tree.specs.Spelling.{quoted}
use Rattle.mix_tree.specs.LabelGrammar.{Piece, SpellsQuoted, SpellsLabel}
use Rattle.mix_tree.proofs.LabelCanonical.{quoted_spells}
use Rattle.mix_tree.specs.Names.{is_name_byte, IsName}
use Rattle.path_expr.specs.Grammar.{Spelled, word, quote, group, marked, dot, bar, Kind, a_path, a_sequence, a_repeat, an_atom, is_mark, Is, text_of, Writes}
use Rattle.path_expr.specs.Form as form
use Rattle.path_expr.specs.Values as valued
use Rattle.path_expr.specs.Results.{Spells}
use Rattle.path_expr.specs.Canonical.{is_plain_name, canon_label, Member, wraps_in_seq, wraps_in_alt, wraps_in_mark, canon_member, canon_rest, canon_between, canon_only, canon_by, members_of, canon, HasMembers, AreFormed, IsFormed}
use Rattle.path_expr.proofs.Sound.{sequence_of_repeat, path_of_sequence, repeat_of_atom}
use Rattle.path_expr.proofs.Images.{dots_of_repeat, bars_of_sequence}

-- a label between quotes, as pieces
pub quoted_pieces : (l : List ℕ) → SpellsQuoted (quoted l) l
quoted_pieces l = by_case (quoted_spells l)
  where
    by_case : SpellsLabel (quoted l) l → SpellsQuoted (quoted l) l
    by_case (inl (bare, same)) = cc
    by_case (inr q) = q

-- the pieces of a label between quotes
abbrev pub pieces_of : List ℕ → List Piece
pieces_of l = (quoted_pieces l).0

-- a label as the canonical text writes it
abbrev pub label_spelled : List ℕ → Spelled
label_spelled l = cond (is_plain_name l) (word l) (quote (pieces_of l))

-- a member as it is written, and its head
pub record Part : Type 0 where
  pub head : form.Head
  pub spelled : Spelled

-- a member, in parentheses where its head stands in them
abbrev pub wrapped : (form.Head → Bool) → Part → Spelled
wrapped wraps m = cond (wraps m.head) (group m.spelled) m.spelled

-- what has been spelled, with more members after it, each after a dot
abbrev pub dots_from : Spelled → List Part → Spelled
dots_from p [] = p
dots_from p (m ∷ ms) = dots_from (dot p (wrapped wraps_in_seq m)) ms

-- what has been spelled, with more members after it, each after a bar
abbrev pub bars_from : Spelled → List Part → Spelled
bars_from p [] = p
bars_from p (m ∷ ms) = bars_from (bar p (wrapped wraps_in_alt m)) ms

-- members with dots between them
abbrev pub dots : List Part → Spelled
dots [] = word []
dots (m ∷ ms) = dots_from (wrapped wraps_in_seq m) ms

-- members with bars between them
abbrev pub bars : List Part → Spelled
bars [] = word []
bars (m ∷ ms) = bars_from (wrapped wraps_in_alt m) ms

-- the one member under a mark
abbrev pub only : List Part → Spelled
only [] = word []
only (m ∷ ms) = wrapped wraps_in_mark m

-- what the canonical text writes, by the head, over the members
abbrev pub spelled_by : form.Head → List Part → Spelled
spelled_by (form.name l) ms = label_spelled l
spelled_by form.any ms = word (95 ∷ [])
spelled_by form.seq ms = dots ms
spelled_by form.alt ms = bars ms
spelled_by form.star ms = marked (only ms) 42
spelled_by form.plus ms = marked (only ms) 43
spelled_by form.opt ms = marked (only ms) 63

-- paths as the canonical text writes them
abbrev pub parts_of : form.Paths → List Part
parts_of form.none = []
parts_of (form.path head members after) = record { head = head; spelled = spelled_by head (parts_of members) } ∷ parts_of after

-- a path as the canonical text writes it
abbrev pub spelled_as : form.Form → Spelled
spelled_as f = spelled_by f.head (parts_of f.members)

-- a label's spelling in the canonical text has the label's canonical text
label_text : (l : List ℕ) → text_of (label_spelled l) ≡ canon_label l
label_text l = by_case (is_plain_name l)
  where
    by_case : (c : Bool) → text_of (cond c (word l) (quote (pieces_of l))) ≡ cond c l (quoted l)
    by_case true = refl
    by_case false = let q = quoted_pieces l in sym q.2

-- a part as a member: its head and its text
abbrev written : Part → Member
written m = record { head = m.head; text = text_of m.spelled }

-- parts as members: their heads and texts
abbrev all_written : List Part → List Member
all_written [] = []
all_written (m ∷ ms) = written m ∷ all_written ms

-- a member's spelling has the member's canonical text
wrapped_text : (wraps : form.Head → Bool) (m : Part) → text_of (wrapped wraps m) ≡ canon_member wraps (written m)
wrapped_text wraps m = by_case (wraps m.head)
  where
    by_case : (c : Bool) → text_of (cond c (group m.spelled) m.spelled) ≡ Rattle.path_expr.specs.Canonical.parenthesized c (text_of m.spelled)
    by_case true = refl
    by_case false = refl

-- the text of members after a dot each
dots_text : (p : Spelled) (ms : List Part) → text_of (dots_from p ms) ≡ text_of p ++ canon_rest wraps_in_seq 46 (all_written ms)
dots_text p [] = sym (append_nil (text_of p))
dots_text p (m ∷ ms) =
    dots_text (dot p (wrapped wraps_in_seq m)) ms ∙ append_assoc (text_of p) (46 ∷ text_of (wrapped wraps_in_seq m)) (canon_rest wraps_in_seq 46 (all_written ms))
    ∙ ap (λ r. text_of p ++ 46 ∷ (r ++ canon_rest wraps_in_seq 46 (all_written ms))) (wrapped_text wraps_in_seq m)

-- the text of members after a bar each
bars_text : (p : Spelled) (ms : List Part) → text_of (bars_from p ms) ≡ text_of p ++ canon_rest wraps_in_alt 124 (all_written ms)
bars_text p [] = sym (append_nil (text_of p))
bars_text p (m ∷ ms) =
    bars_text (bar p (wrapped wraps_in_alt m)) ms ∙ append_assoc (text_of p) (124 ∷ text_of (wrapped wraps_in_alt m)) (canon_rest wraps_in_alt 124 (all_written ms))
    ∙ ap (λ r. text_of p ++ 124 ∷ (r ++ canon_rest wraps_in_alt 124 (all_written ms))) (wrapped_text wraps_in_alt m)

-- the text by the head, over the members
by_text : (h : form.Head) (m : form.Paths) → HasMembers h m → text_of (spelled_by h (parts_of m)) ≡ canon_by h (all_written (parts_of m))
by_text (form.name l) m n = label_text l
by_text form.any m n = refl
by_text form.seq form.none n = absurd n
by_text form.seq (form.path h m after) n =
    let first : Part = record { head = h; spelled = spelled_by h (parts_of m) } in
    dots_text (wrapped wraps_in_seq first) (parts_of after) ∙ ap (λ r. r ++ canon_rest wraps_in_seq 46 (all_written (parts_of after))) (wrapped_text wraps_in_seq first)
by_text form.alt form.none n = absurd n
by_text form.alt (form.path h m after) n =
    let first : Part = record { head = h; spelled = spelled_by h (parts_of m) } in
    bars_text (wrapped wraps_in_alt first) (parts_of after) ∙ ap (λ r. r ++ canon_rest wraps_in_alt 124 (all_written (parts_of after))) (wrapped_text wraps_in_alt first)
by_text form.star form.none n = absurd n
by_text form.star (form.path h m after) n = ap (λ r. r ++ 42 ∷ []) (wrapped_text wraps_in_mark (record { head = h; spelled = spelled_by h (parts_of m) }))
by_text form.plus form.none n = absurd n
by_text form.plus (form.path h m after) n = ap (λ r. r ++ 43 ∷ []) (wrapped_text wraps_in_mark (record { head = h; spelled = spelled_by h (parts_of m) }))
by_text form.opt form.none n = absurd n
by_text form.opt (form.path h m after) n = ap (λ r. r ++ 63 ∷ []) (wrapped_text wraps_in_mark (record { head = h; spelled = spelled_by h (parts_of m) }))

-- the spellings of the paths of a list have their canonical texts
parts_text : (m : form.Paths) → AreFormed m → all_written (parts_of m) ≡ members_of m
parts_text form.none h = refl
parts_text (form.path head m after) h =
    ap (λ t. record { head = head; text = t } ∷ all_written (parts_of after)) (by_text head m h.0 ∙ ap (canon_by head) (parts_text m h.1))
    ∙ ap (λ r. record { head = head; text = canon_by head (members_of m) } ∷ r) (parts_text after h.2)

-- the text of what the canonical text writes
pub as_text : (f : form.Form) → IsFormed f → text_of (spelled_as f) ≡ canon f
as_text f h = by_text f.head f.members h.0 ∙ ap (canon_by f.head) (parts_text f.members h.1)

-- a name other than _ is read as that name
plain_name : (b : ℕ) (l : List ℕ) → IsTrue (is_plain_name (b ∷ l)) → IsName (b ∷ l) × (valued.word_form (b ∷ l) ≡ valued.named (b ∷ l))
plain_name b l h = by_case (bytes_eq (b ∷ l) (95 ∷ [])) h
  where
    by_case : (c : Bool) → IsTrue (cond c false (list_all is_name_byte (b ∷ l)))
        → IsName (b ∷ l) × (cond c (record { head = form.any; members = form.none }) (valued.named (b ∷ l)) ≡ valued.named (b ∷ l))
    by_case true h = cc
    by_case false h = ((h, omega arith), refl)

-- the kind of a path by its head
abbrev kind_by : form.Head → Kind
kind_by (form.name l) = an_atom
kind_by form.any = an_atom
kind_by form.seq = a_sequence
kind_by form.alt = a_path
kind_by form.star = a_repeat
kind_by form.plus = a_repeat
kind_by form.opt = a_repeat

-- what is written is of its head's kind, and means the path
record Good (m : Part) (f : form.Form) : Type 0 where
  value : valued.value_of m.spelled ≡ f
  is : Is m.spelled (kind_by m.head)

-- a label as the canonical text writes it is an atom that means it
label_good : (l : List ℕ) (c : Bool) → is_plain_name l ≡ c → (valued.value_of (cond c (word l) (quote (pieces_of l))) ≡ valued.named l) × Is (cond c (word l) (quote (pieces_of l))) an_atom
label_good [] true e = cc
label_good (b ∷ l) true e = let k = plain_name b l e in (k.1, k.0)
label_good l false e = let q = quoted_pieces l in (ap valued.named q.3, q.1)

-- each part means its path
abbrev AllGood : List Part → List form.Form → Type 0
AllGood [] [] = Unit {0}
AllGood [] (f ∷ fs) = ⊥
AllGood (m ∷ ms) [] = ⊥
AllGood (m ∷ ms) (f ∷ fs) = Good m f × AllGood ms fs

-- the paths of a list, one by one
abbrev forms_of : form.Paths → List form.Form
forms_of form.none = []
forms_of (form.path h m after) = record { head = h; members = m } ∷ forms_of after

-- members under a head, taken one by one, make up the same members again
paths_again : (ps : form.Paths) → form.paths_of (forms_of ps) ≡ ps
paths_again form.none = refl
paths_again (form.path h m after) = ap (form.path h m) (paths_again after)

-- a path in parentheses means what it means without them
wrapped_value : (c : Bool) (p : Spelled) → valued.value_of (cond c (group p) p) ≡ valued.value_of p
wrapped_value true p = refl
wrapped_value false p = refl

-- a member of a sequence is a repeat
seq_part : (h : form.Head) (p : Spelled) → Is p (kind_by h) → Is (cond (wraps_in_seq h) (group p) p) a_repeat
seq_part (form.name l) p i = repeat_of_atom p i
seq_part form.any p i = repeat_of_atom p i
seq_part form.seq p i = path_of_sequence p i
seq_part form.alt p i = i
seq_part form.star p i = i
seq_part form.plus p i = i
seq_part form.opt p i = i

-- a member of a choice is a sequence
alt_part : (h : form.Head) (p : Spelled) → Is p (kind_by h) → Is (cond (wraps_in_alt h) (group p) p) a_sequence
alt_part (form.name l) p i = sequence_of_repeat p (repeat_of_atom p i)
alt_part form.any p i = sequence_of_repeat p (repeat_of_atom p i)
alt_part form.seq p i = i
alt_part form.alt p i = i
alt_part form.star p i = sequence_of_repeat p i
alt_part form.plus p i = sequence_of_repeat p i
alt_part form.opt p i = sequence_of_repeat p i

-- a member under a mark is an atom
mark_part : (h : form.Head) (p : Spelled) → Is p (kind_by h) → Is (cond (wraps_in_mark h) (group p) p) an_atom
mark_part (form.name l) p i = i
mark_part form.any p i = i
mark_part form.seq p i = path_of_sequence p i
mark_part form.alt p i = i
mark_part form.star p i = path_of_sequence p (sequence_of_repeat p i)
mark_part form.plus p i = path_of_sequence p (sequence_of_repeat p i)
mark_part form.opt p i = path_of_sequence p (sequence_of_repeat p i)

-- what is written is a sequence of these members
record Dots (p : Spelled) (fs : List form.Form) : Type 0 where
  is : Is p a_sequence
  dots : (valued.read p).dots ≡ fs
  value : valued.value_of p ≡ form.joined form.seq fs

-- members with a dot before each, after a sequence, make up the longer sequence
dots_good : (ms : List Part) (fs gs : List form.Form) (p : Spelled) → AllGood ms fs → Dots p gs → Dots (dots_from p ms) (gs ++ fs)
dots_good [] [] gs p a h = subst (Dots p) (sym (append_nil gs)) h
dots_good [] (f ∷ fs) gs p a h = absurd a
dots_good (m ∷ ms) [] gs p a h = absurd a
dots_good (m ∷ ms) (f ∷ fs) gs p a h =
    let w : Spelled = wrapped wraps_in_seq m in
    let value : valued.value_of w ≡ f = wrapped_value (wraps_in_seq m.head) m.spelled ∙ a.0.value in
    let all : (valued.read p).dots ++ valued.value_of w ∷ [] ≡ gs ++ f ∷ [] = ap (λ ds. ds ++ valued.value_of w ∷ []) h.dots ∙ ap (λ x. gs ++ x ∷ []) value in
    let one : Dots (dot p w) (gs ++ f ∷ []) = record { is = (h.is, seq_part m.head m.spelled a.0.is); dots = all; value = ap (form.joined form.seq) all } in
    subst (Dots (dots_from (dot p w) ms)) (append_assoc gs (f ∷ []) fs) (dots_good ms fs (gs ++ f ∷ []) (dot p w) a.1 one)

-- members that mean paths, with dots between them, are a sequence of those paths
dots_all : (m : Part) (ms : List Part) (f : form.Form) (fs : List form.Form) → AllGood (m ∷ ms) (f ∷ fs) → Dots (dots (m ∷ ms)) (f ∷ fs)
dots_all m ms f fs a =
    let w : Spelled = wrapped wraps_in_seq m in
    let value : valued.value_of w ≡ f = wrapped_value (wraps_in_seq m.head) m.spelled ∙ a.0.value in
    let is : Is w a_repeat = seq_part m.head m.spelled a.0.is in
    dots_good ms fs (f ∷ []) w a.1 (record { is = sequence_of_repeat w is; dots = dots_of_repeat w is ∙ ap (λ x. x ∷ []) value; value = value })

-- what is written is a choice of these members
record Bars (p : Spelled) (fs : List form.Form) : Type 0 where
  is : Is p a_path
  bars : (valued.read p).bars ≡ fs
  value : valued.value_of p ≡ form.joined form.alt fs

-- members with a bar before each, after a choice, make up the longer choice
bars_good : (ms : List Part) (fs gs : List form.Form) (p : Spelled) → AllGood ms fs → Bars p gs → Bars (bars_from p ms) (gs ++ fs)
bars_good [] [] gs p a h = subst (Bars p) (sym (append_nil gs)) h
bars_good [] (f ∷ fs) gs p a h = absurd a
bars_good (m ∷ ms) [] gs p a h = absurd a
bars_good (m ∷ ms) (f ∷ fs) gs p a h =
    let w : Spelled = wrapped wraps_in_alt m in
    let value : valued.value_of w ≡ f = wrapped_value (wraps_in_alt m.head) m.spelled ∙ a.0.value in
    let all : (valued.read p).bars ++ valued.value_of w ∷ [] ≡ gs ++ f ∷ [] = ap (λ ds. ds ++ valued.value_of w ∷ []) h.bars ∙ ap (λ x. gs ++ x ∷ []) value in
    let one : Bars (bar p w) (gs ++ f ∷ []) = record { is = (h.is, alt_part m.head m.spelled a.0.is); bars = all; value = ap (form.joined form.alt) all } in
    subst (Bars (bars_from (bar p w) ms)) (append_assoc gs (f ∷ []) fs) (bars_good ms fs (gs ++ f ∷ []) (bar p w) a.1 one)

-- members that mean paths, with bars between them, are a choice of those paths
bars_all : (m : Part) (ms : List Part) (f : form.Form) (fs : List form.Form) → AllGood (m ∷ ms) (f ∷ fs) → Bars (bars (m ∷ ms)) (f ∷ fs)
bars_all m ms f fs a =
    let w : Spelled = wrapped wraps_in_alt m in
    let value : valued.value_of w ≡ f = wrapped_value (wraps_in_alt m.head) m.spelled ∙ a.0.value in
    let is : Is w a_sequence = alt_part m.head m.spelled a.0.is in
    bars_good ms fs (f ∷ []) w a.1 (record { is = path_of_sequence w is; bars = bars_of_sequence w is ∙ ap (λ x. x ∷ []) value; value = value })

-- what the canonical text writes by a head means the path
abbrev SpellsForm : form.Head → form.Paths → Type 0
SpellsForm h m = Good (record { head = h; spelled = spelled_by h (parts_of m) }) (record { head = h; members = m })

-- a member with a mark after it means the path under that mark
mark_good : (h i : form.Head) (n after : form.Paths) (b : ℕ) (q : Spelled) → valued.mark_head b ≡ h → IsTrue (is_mark b) → Is q (kind_by i) → valued.value_of q ≡ record { head = i; members = n } → after ≡ form.none
    → (valued.value_of (marked (cond (wraps_in_mark i) (group q) q) b) ≡ record { head = h; members = form.path i n after }) × Is (marked (cond (wraps_in_mark i) (group q) q) b) a_repeat
mark_good h i n after b q e k is value none = (
  ap (form.repeated (valued.mark_head b)) (wrapped_value (wraps_in_mark i) q ∙ value) ∙ ap (λ x. form.repeated x (record { head = i; members = n })) e
      ∙ ap (λ a. record { head = h; members = form.path i n a }) (sym none),
  (mark_part i q is, k),
)

-- what the canonical text writes by each head means the path, where the members mean theirs
good_form : (h : form.Head) (m : form.Paths) → HasMembers h m → AllGood (parts_of m) (forms_of m) → SpellsForm h m
good_form (form.name l) m n a = let k = label_good l (is_plain_name l) refl in record { value = k.0 ∙ ap (λ x. record { head = form.name l; members = x }) (sym n); is = k.1 }
good_form form.any m n a = record { value = ap (λ x. record { head = form.any; members = x }) (sym n); is = (refl, omega arith) }
good_form form.seq form.none n a = absurd n
good_form form.seq (form.path h m form.none) n a = absurd n
good_form form.seq (form.path h m (form.path i k after)) n a =
    let d = dots_all (record { head = h; spelled = spelled_by h (parts_of m) }) (parts_of (form.path i k after)) (record { head = h; members = m }) (forms_of (form.path i k after)) a in
    record { value = d.value ∙ ap (λ x. record { head = form.seq; members = x }) (paths_again (form.path h m (form.path i k after))); is = d.is }
good_form form.alt form.none n a = absurd n
good_form form.alt (form.path h m form.none) n a = absurd n
good_form form.alt (form.path h m (form.path i k after)) n a =
    let d = bars_all (record { head = h; spelled = spelled_by h (parts_of m) }) (parts_of (form.path i k after)) (record { head = h; members = m }) (forms_of (form.path i k after)) a in
    record { value = d.value ∙ ap (λ x. record { head = form.alt; members = x }) (paths_again (form.path h m (form.path i k after))); is = d.is }
good_form form.star form.none n a = absurd n
good_form form.star (form.path i k after) n a = let g = mark_good form.star i k after 42 (spelled_by i (parts_of k)) refl refl a.0.is a.0.value n in record { value = g.0; is = g.1 }
good_form form.plus form.none n a = absurd n
good_form form.plus (form.path i k after) n a = let g = mark_good form.plus i k after 43 (spelled_by i (parts_of k)) refl refl a.0.is a.0.value n in record { value = g.0; is = g.1 }
good_form form.opt form.none n a = absurd n
good_form form.opt (form.path i k after) n a = let g = mark_good form.opt i k after 63 (spelled_by i (parts_of k)) refl refl a.0.is a.0.value n in record { value = g.0; is = g.1 }

-- what the canonical text writes for each path of a list means that path
all_good : (ps : form.Paths) → AreFormed ps → AllGood (parts_of ps) (forms_of ps)
all_good form.none h = tt
all_good (form.path i m after) h = (good_form i m h.0 (all_good m h.1), all_good after h.2)

-- what is written of each head's kind is a path
any_path : (h : form.Head) (p : Spelled) → Is p (kind_by h) → Is p a_path
any_path (form.name l) p i = path_of_sequence p (sequence_of_repeat p (repeat_of_atom p i))
any_path form.any p i = path_of_sequence p (sequence_of_repeat p (repeat_of_atom p i))
any_path form.seq p i = path_of_sequence p i
any_path form.alt p i = i
any_path form.star p i = path_of_sequence p (sequence_of_repeat p i)
any_path form.plus p i = path_of_sequence p (sequence_of_repeat p i)
any_path form.opt p i = path_of_sequence p (sequence_of_repeat p i)

-- the canonical text is written so, and means the path
pub canon_writes : (f : form.Form) → IsFormed f → Writes (canon f) (spelled_as f) × (valued.value_of (spelled_as f) ≡ f)
canon_writes f h =
    let g = good_form f.head f.members h.0 (all_good f.members h.1) in
    ((any_path f.head (spelled_as f) g.is, as_text f h), g.value)

-- the canonical text spells the path
pub canon_spells : (f : form.Form) → IsFormed f → Spells (canon f) f
canon_spells f h = let w = canon_writes f h in (spelled_as f, w.0, w.1)
