-- What the reader's calls do to what it holds.
use Rattle.std.proofs.Common.{◌≡◌, ◌∙◌, ◌==◌, ◌||◌, ◌&&◌, nat_le, drop, slice_index, IsUtf8, IfOk, ◌<◌, ◌≤◌, ◌+◌, ℕ, Bool, true, false, cond, IsTrue, List, [], ◌∷◌, ◌++◌, length, length-append, Some, None, Result, Ok, Err, refl, sym, ap, subst, arith}
use Rattle.std.proofs.lemmas.List.{same_from_push, drop_more}
use Rattle.std.proofs.lemmas.Bool.Decides.{nat_tests}
use Rattle.mix_tree.specs.Forest.{Forest, LabelledTree, forest_of, alone}
use Rattle.document_store.specs.Laid.{LaidNode, bare_node, laid, Closes, IsDocument}
use Rattle.document_store.specs.Shallow.{IsShallow}
use Rattle.document_store.proofs.Laying.{length-laid, closes_tree, laid_more}
use Rattle.mix_tree.specs.Spelling.{is_bare}
use Rattle.mix_tree.specs.LabelMachine as spelled
use Rattle.mix_tree.proofs.LabelTaken.{seen_byte}
use Rattle.bracket_text.specs.Grammar.{is_blank, SpellsShallow}
use Rattle.bracket_text.specs.Machine as machine
use Rattle.bracket_text.specs.Machine.{Frame, leaf, after_tree, after_tree_in, after_label, close_empty, step_in}
use Rattle.bracket_text.proofs.Runs.{MayBegin}
use Rattle.bracket_text.proofs.Taken.{label_at, tree_refuses, label_refuses}
use Rattle.bracket_text.proofs.Verdicts as trees
use Rattle.bracket_text.specs.declared.fault.BracketFault.{BracketFault}
use Rattle.bracket_text.specs.declared.fault.BracketFault.TheVariants.{NotUtf8, Unexpected, TooDeep, Ends, OutOfMemory}
use Rattle.bracket_text.specs.Results.{AnswersDocument, IsDocumentOf}
use Rattle.bracket_text.specs.ReaderState as reader
use Rattle.bracket_text.specs.declared.reader.Reader.{Reader}
use Rattle.bracket_text.specs.declared.reader.Mode.TheVariants.{Start, First, Named, Closed}
use Rattle.bracket_text.specs.ReaderState.{open_nodes, places, Lies, Shuts, hand_nodes, SameMode, Holds, Gives, GivesFault, GivesDocument, IsSeenFault, Pushes}

-- a list with a last member is not empty
pub some_last : {X : Type 0} {Q : Type 0} (xs : List X) (x : X) → [] ≡ xs ++ x ∷ [] → Q
some_last [] x e = cc
some_last (a ∷ xs) x e = cc

-- a bracket that is closed leaves the tree at hand
pub shut_holds : (r : Reader) (nodes : List LaidNode) (opened : List ℕ) (place : ℕ) (label : List ℕ) (kids : Forest) (o : List Frame)
    → Shuts nodes opened label kids o → opened ≡ r.«open».items ++ place ∷ [] → Closes nodes place r.store → r.mode ≡ Closed → Holds r o (machine.closed (record { label = label; kids = kids }))
shut_holds r nodes opened place label kids o s e c m =
    let last = same_from_push (places o) r.«open».items (length (open_nodes o)) place (sym s.places_are ∙ e) in
    record {
      lies = record {
        nodes_are = closes_tree nodes r.store (open_nodes o) place label kids c s.nodes_are (sym last.1);
        places_are = sym last.0;
      };
      same = m;
    }

-- a comma after a tree puts it among its siblings
pub comma_lies : (nodes : List LaidNode) (opened : List ℕ) (f : Frame) (o : List Frame) (t : LabelledTree) → Lies nodes opened (laid (alone t)) (f ∷ o)
    → Lies nodes opened [] (record { label = f.label; kids = f.kids ++ t ∷ [] } ∷ o)
comma_lies nodes opened f o t l = record {
  nodes_are = l.nodes_are ∙ laid_more f.kids t (bare_node f.label ∷ open_nodes o);
  places_are = l.places_are;
}

-- a closing bracket after a whole tree closes the tree round it
pub tree_shuts : (nodes : List LaidNode) (opened : List ℕ) (f : Frame) (o : List Frame) (t : LabelledTree) → Lies nodes opened (laid (alone t)) (f ∷ o)
    → Shuts nodes opened f.label (forest_of (f.kids ++ t ∷ [])) o
tree_shuts nodes opened f o t l = let c = comma_lies nodes opened f o t l in record { nodes_are = c.nodes_are; places_are = c.places_are }

-- empty brackets close the tree whose label is before them
pub empty_shuts : (nodes : List LaidNode) (opened : List ℕ) (f : Frame) (o : List Frame) → Lies nodes opened [] (f ∷ o) → Shuts nodes opened f.label (forest_of f.kids) o
empty_shuts nodes opened f o l = record { nodes_are = l.nodes_are; places_are = l.places_are }

-- a label after which a bracket opens is the innermost open tree, with no children yet
pub open_lies : (nodes : List LaidNode) (opened more : List ℕ) (place : ℕ) (o : List Frame) (l : List ℕ) → Lies nodes opened (laid (alone (leaf l))) o → more ≡ opened ++ place ∷ []
    → place + 1 ≡ length nodes → Lies nodes more [] (record { label = l; kids = [] } ∷ o)
open_lies nodes opened more place o l h e p =
    let count : place ≡ length (open_nodes o) = omega (arith, p, ap length h.nodes_are) in
    record { nodes_are = h.nodes_are; places_are = e ∙ ap (λ q. q ++ place ∷ []) h.places_are ∙ ap (λ q. places o ++ q ∷ []) count }

-- where no bracket is open, the machine has none open
pub none_open : {Q : Type 0} (o : List Frame) (f : Frame) (opened : List ℕ) → opened ≡ places (f ∷ o) → opened ≡ [] → Q
none_open o f opened e n = some_last (places o) (length (open_nodes o)) (sym n ∙ e)

-- there are as many places of open trees as open trees
pub open_count : (o : List Frame) → length (places o) ≡ length o
open_count [] = refl
open_count (f ∷ o) = omega (arith, length-append (places o) (length (open_nodes o) ∷ []), open_count o)

-- a list that has members is not empty
pub not_none : (xs : List ℕ) (n : ℕ) (b : Bool) → b ≡ (n == 0) → b ≡ false → n ≡ length xs → xs ≡ [] → ⊥
not_none xs n b e f l h = by_count n (omega (arith, l, ap length h)) (sym e ∙ f)
  where
    by_count : (k : ℕ) → k ≡ 0 → (k == 0) ≡ false → ⊥
    by_count k p q = grind (arith, nat_tests)

-- a blank after a tree leaves the reader as it was, and the machine too
pub tree_blank : (r : Reader) (at : ℕ) (o : List Frame) (t : LabelledTree) (b : ℕ) → Lies r.store r.«open».items (laid (alone t)) o → r.mode ≡ Closed → IsTrue (is_blank b) → Gives (Ok tt) at r (after_tree o t b)
tree_blank r at o t b l m h = (machine.at o (machine.closed t), rw h refl, record { lies = l; same = m })

-- a comma after a tree leaves the reader where a tree must come, as the machine is
pub tree_comma : (r : Reader) (at : ℕ) (o : List Frame) (t : LabelledTree) (b : ℕ) → Lies r.store r.«open».items (laid (alone t)) o → r.mode ≡ Start → is_blank b ≡ false → b ≡ 44 → (r.«open».items ≡ [] → ⊥)
    → Gives (Ok tt) at r (after_tree o t b)
tree_comma r at [] t b l m n e some = absurd (some l.places_are)
tree_comma r at (f ∷ o) t b l m n e some =
    (machine.at (record { label = f.label; kids = f.kids ++ t ∷ [] } ∷ o) machine.start, rw n (ap (after_tree_in (f ∷ o) t) e), record { lies = comma_lies r.store r.«open».items f o t l; same = m })

-- closing the innermost open tree leaves it at hand
abbrev pub ClosesTree : Reader → List LaidNode → List ℕ → Type 0
ClosesTree r nodes opened = (t : LabelledTree) (o : List Frame) → Shuts nodes opened t.label t.kids o → Holds r o (machine.closed t)

-- a closing bracket after a tree leaves the reader with the tree round it at hand, as the machine is
pub tree_close : (r : Reader) (at : ℕ) (nodes : List LaidNode) (opened : List ℕ) (o : List Frame) (t : LabelledTree) (b : ℕ) → Lies nodes opened (laid (alone t)) o → is_blank b ≡ false → b ≡ 93 → (opened ≡ [] → ⊥)
    → ClosesTree r nodes opened → Gives (Ok tt) at r (after_tree o t b)
tree_close r at nodes opened [] t b l n e some k = absurd (some l.places_are)
tree_close r at nodes opened (f ∷ o) t b l n e some k =
    (machine.at o (machine.closed (record { label = f.label; kids = forest_of (f.kids ++ t ∷ []) })), rw n (ap (after_tree_in (f ∷ o) t) e), k (record { label = f.label; kids = forest_of (f.kids ++ t ∷ []) }) o (tree_shuts nodes opened f o t l))

-- where no bracket is open, nothing else goes on
pub tree_alone : (opened : List ℕ) (o : List Frame) (t : LabelledTree) (b : ℕ) → opened ≡ places o → is_blank b ≡ false → opened ≡ [] → after_tree o t b ≡ None
tree_alone opened [] t b l n e = rw n refl
tree_alone opened (f ∷ o) t b l n e = none_open o f opened l e

-- after a tree, no byte goes on but a blank, a comma and a closing bracket
pub tree_stops : (o : List Frame) (t : LabelledTree) (b : ℕ) → is_blank b ≡ false → (b == 44) ≡ false → (b == 93) ≡ false → after_tree o t b ≡ None
tree_stops [] t b n c d = rw n refl
tree_stops (f ∷ o) t b n c d = rw (n, c, d) refl

-- a closing bracket right after an opening one leaves the reader with that leaf at hand, as the machine is
pub empty_close : (r : Reader) (at : ℕ) (nodes : List LaidNode) (opened : List ℕ) (o : List Frame) (b : ℕ) → Lies nodes opened [] o → b ≡ 93 → (opened ≡ [] → ⊥)
    → ClosesTree r nodes opened → Gives (Ok tt) at r (cond (b == 93) (close_empty o) None)
empty_close r at nodes opened [] b l e some k = absurd (some l.places_are)
empty_close r at nodes opened (f ∷ o) b l e some k =
    (machine.at o (machine.closed (record { label = f.label; kids = forest_of f.kids })), ap (λ c. cond (c == 93) (close_empty (f ∷ o)) None) e, k (record { label = f.label; kids = forest_of f.kids }) o (empty_shuts nodes opened f o l))

-- where no bracket is open, no closing bracket goes on
pub empty_alone : (opened : List ℕ) (o : List Frame) (b : ℕ) → opened ≡ places o → opened ≡ [] → cond (b == 93) (close_empty o) None ≡ None
empty_alone opened [] b l e = same (b == 93)
  where
    same : (c : Bool) → cond c (close_empty []) None ≡ None
    same true = refl
    same false = refl
empty_alone opened (f ∷ o) b l e = none_open o f opened l e

-- a blank after a label leaves the reader as it was, and the machine too
pub label_blank : (r : Reader) (at : ℕ) (o : List Frame) (l : List ℕ) (b : ℕ) → Lies r.store r.«open».items (laid (alone (leaf l))) o → r.mode ≡ Named → IsTrue (is_blank b) → Gives (Ok tt) at r (after_label o l b)
label_blank r at o l b h m k = (machine.at o (machine.named l), rw k refl, record { lies = h; same = m })

-- an opening bracket after a label leaves the reader with that tree open, as the machine is
pub label_opens : (r : Reader) (at place : ℕ) (nodes : List LaidNode) (opened : List ℕ) (o : List Frame) (l : List ℕ) (b : ℕ) → Lies nodes opened (laid (alone (leaf l))) o → r.store ≡ nodes → r.«open».items ≡ opened ++ place ∷ []
    → place + 1 ≡ length nodes → r.mode ≡ First → is_blank b ≡ false → b ≡ 91 → Gives (Ok tt) at r (after_label o l b)
label_opens r at place nodes opened o l b h s p n m k e = (
  machine.at (record { label = l; kids = [] } ∷ o) machine.first,
  ap (λ c. cond c (Some (machine.at o (machine.named l))) (cond (b == 91) (Some (machine.at (record { label = l; kids = [] } ∷ o) machine.first)) (after_tree o (leaf l) b))) k
      ∙ ap (λ c. cond (c == 91) (Some (machine.at (record { label = l; kids = [] } ∷ o) machine.first)) (after_tree o (leaf l) b)) e,
  record { lies = subst (λ ns. Lies ns r.«open».items [] (record { label = l; kids = [] } ∷ o)) (sym s) (open_lies nodes opened r.«open».items place o l h p n); same = m },
)

-- a byte after a label that is no blank and no opening bracket stands as after a leaf
pub label_tree : (o : List Frame) (l : List ℕ) (b : ℕ) → is_blank b ≡ false → (b == 91) ≡ false → after_tree o (leaf l) b ≡ after_label o l b
label_tree o l b n c =
    sym (ap (λ k. cond k (Some (machine.at o (machine.named l))) (cond (b == 91) (Some (machine.at (record { label = l; kids = [] } ∷ o) machine.first)) (after_tree o (leaf l) b))) n
    ∙ ap (λ k. cond k (Some (machine.at (record { label = l; kids = [] } ∷ o) machine.first)) (after_tree o (leaf l) b)) c)

-- where no bracket is open, closing the document node gives the document of the tree at hand
pub whole_holds : (r : Reader) (o : List Frame) (m : machine.Mode) (d : List LaidNode) → Holds r o m → r.«open».items ≡ [] → Closes r.store 0 d → (t : LabelledTree) → machine.tree_in m ≡ Some t → hand_nodes m ≡ laid (alone t)
    → (t : LabelledTree) × (machine.at_end (machine.whole_in o m) ≡ machine.reads t) × IsDocument d t
whole_holds r [] m d h n c t e k = (
  t,
  ap machine.at_end e,
  c (hand_nodes m) [] (bare_node []) h.lies.nodes_are refl ∙ ap (λ ns. ns ++ record { label = []; below = length ns } ∷ []) k
      ∙ ap (λ b. laid (alone t) ++ record { label = []; below = b } ∷ []) (length-laid (alone t)),
)
whole_holds r (f ∷ o) m d h n c t e k = none_open o f r.«open».items h.lies.places_are n

-- what is seen from an opening quote on is what is seen between quotes from the next byte on
pub quote_begins : (x : List ℕ) (i : ℕ) → i < length x → slice_index x i ≡ 34 → spelled.seen_from spelled.start i (drop i x) ≡ spelled.seen_from (spelled.in_quotes []) (i + 1) (drop (i + 1) x)
quote_begins x i inside e =
    ap (spelled.seen_from spelled.start i) (drop_more x i 0 inside)
    ∙ seen_byte spelled.start (spelled.in_quotes []) i (slice_index x i) (drop (i + 1) x) (ap (spelled.step spelled.start) e)

-- a label that was put in as it is seen from a place on is so from an earlier one, from which the same is seen
pub pushes_before : (text : List ℕ) (at from : ℕ) (s z : spelled.Seen) (r : Result ℕ BracketFault) (old new : List LaidNode) → at ≤ from → s ≡ z → Pushes text from z r old new → Pushes text at s r old new
pushes_before text at from s z (Ok end) old new h e p =
    record { label = p.label; nodes = p.nodes; next = omega (arith, h, p.next); inside = p.inside; boundary = p.boundary; seen_is = e ∙ p.seen_is }
pushes_before text at from s z (Err f) old new h e p = subst (IsSeenFault f) (sym e) p

-- where the reader is at its start, so is the machine
pub is_start : (r : Reader) (o : List Frame) (m : machine.Mode) → Holds r o m → r.mode ≡ Start → m ≡ machine.start
is_start r o machine.start h e = refl
is_start r o machine.first h e = let k = h.same in cc
is_start r o (machine.spelling s) h e = absurd h.same
is_start r o (machine.named l) h e = let k = h.same in cc
is_start r o (machine.closed t) h e = let k = h.same in cc

-- where the reader is right after an opening bracket, so is the machine
pub is_first : (r : Reader) (o : List Frame) (m : machine.Mode) → Holds r o m → r.mode ≡ First → m ≡ machine.first
is_first r o machine.start h e = let k = h.same in cc
is_first r o machine.first h e = refl
is_first r o (machine.spelling s) h e = absurd h.same
is_first r o (machine.named l) h e = let k = h.same in cc
is_first r o (machine.closed t) h e = let k = h.same in cc

-- where the reader has a label that has ended, so has the machine
pub is_named : (r : Reader) (o : List Frame) (m : machine.Mode) → Holds r o m → r.mode ≡ Named → (l : List ℕ) × (m ≡ machine.named l)
is_named r o machine.start h e = let k = h.same in cc
is_named r o machine.first h e = let k = h.same in cc
is_named r o (machine.spelling s) h e = absurd h.same
is_named r o (machine.named l) h e = (l, refl)
is_named r o (machine.closed t) h e = let k = h.same in cc

-- where the reader has a tree that has ended, so has the machine
pub is_closed : (r : Reader) (o : List Frame) (m : machine.Mode) → Holds r o m → r.mode ≡ Closed → (t : LabelledTree) × (m ≡ machine.closed t)
is_closed r o machine.start h e = let k = h.same in cc
is_closed r o machine.first h e = let k = h.same in cc
is_closed r o (machine.spelling s) h e = absurd h.same
is_closed r o (machine.named l) h e = let k = h.same in cc
is_closed r o (machine.closed t) h e = (t, refl)

-- a blank where a tree must come leaves the reader as it was, and the machine too
pub start_blank : (r : Reader) (at : ℕ) (o : List Frame) (m : machine.Mode) (b : ℕ) → Holds r o m → r.mode ≡ Start → IsTrue (is_blank b) → Gives (Ok tt) at r (step_in o m b)
start_blank r at o m b h e k =
    let is = is_start r o m h e in
    subst (λ n. Gives (Ok tt) at r (step_in o n b)) (sym is) (machine.at o machine.start, rw k refl, subst (Holds r o) is h)

-- a blank right after an opening bracket changes nothing
pub first_blank : (r : Reader) (at : ℕ) (o : List Frame) (m : machine.Mode) (b : ℕ) → Holds r o m → r.mode ≡ First → IsTrue (is_blank b) → Gives (Ok tt) at r (step_in o m b)
first_blank r at o m b h e k =
    let is = is_first r o m h e in
    subst (λ n. Gives (Ok tt) at r (step_in o n b)) (sym is) (machine.at o machine.first, rw k refl, subst (Holds r o) is h)

-- with a byte that begins no label, no tree begins
no_begin : (o : List Frame) (b : ℕ) → machine.begins b ≡ false → machine.begin o b ≡ None
no_begin o b n = by_tests (is_bare b) (b == 34) n
  where
    by_tests : (c d : Bool) → (c || d) ≡ false → machine.or_other o None (cond c (Some (spelled.in_bare (b ∷ []))) (cond d (Some (spelled.in_quotes [])) None)) ≡ None
    by_tests true d e = cc
    by_tests false true e = cc
    by_tests false false e = refl

-- where a tree must come, no byte goes on but a blank and one that begins a label
pub start_stops : (r : Reader) (o : List Frame) (m : machine.Mode) (b : ℕ) → Holds r o m → r.mode ≡ Start → is_blank b ≡ false → machine.begins b ≡ false → step_in o m b ≡ None
start_stops r o m b h e k n = ap (λ q. step_in o q b) (is_start r o m h e) ∙ rw k (no_begin o b n)

-- a byte right after an opening bracket that begins no label leaves the reader as the machine is, or stops both
pub first_gives : (r w : Reader) (res : Result Unit BracketFault) (at : ℕ) (o : List Frame) (m : machine.Mode) (b : ℕ) → Holds r o m → r.mode ≡ First → is_blank b ≡ false → machine.begins b ≡ false
    → ((p : List Frame) → Lies r.store r.«open».items [] p → Gives res at w (cond (b == 93) (close_empty p) None)) → Gives res at w (step_in o m b)
first_gives r w res at o m b h e k n g =
    let is = is_first r o m h e in
    let held = subst (Holds r o) is h in
    let same : step_in o m b ≡ cond (b == 93) (close_empty o) None =
    ap (λ q. step_in o q b) is ∙ ap (λ c. cond c (Some (machine.at o machine.first)) (cond (b == 93) (close_empty o) (machine.begin o b))) k ∙ ap (cond (b == 93) (close_empty o)) (no_begin o b n) in
    subst (Gives res at w) (sym same) (g o held.lies)

-- a byte after a label leaves the reader as the machine is, or stops both
pub named_gives : (r w : Reader) (res : Result Unit BracketFault) (at : ℕ) (o : List Frame) (m : machine.Mode) (b : ℕ) → Holds r o m → r.mode ≡ Named
    → ((p : List Frame) (l : List ℕ) → Lies r.store r.«open».items (laid (alone (leaf l))) p → Gives res at w (after_label p l b)) → Gives res at w (step_in o m b)
named_gives r w res at o m b h e g =
    let is = is_named r o m h e in
    let held = subst (Holds r o) is.1 h in
    subst (λ n. Gives res at w (step_in o n b)) (sym is.1) (g o is.0 held.lies)

-- a byte after a tree leaves the reader as the machine is, or stops both
pub closed_gives : (r w : Reader) (res : Result Unit BracketFault) (at : ℕ) (o : List Frame) (m : machine.Mode) (b : ℕ) → Holds r o m → r.mode ≡ Closed
    → ((p : List Frame) (t : LabelledTree) → Lies r.store r.«open».items (laid (alone t)) p → Gives res at w (after_tree p t b)) → Gives res at w (step_in o m b)
closed_gives r w res at o m b h e g =
    let is = is_closed r o m h e in
    let held = subst (Holds r o) is.1 h in
    subst (λ n. Gives res at w (step_in o n b)) (sym is.1) (g o is.0 held.lies)

-- where the reader's label may begin, the machine's may
pub may : (r : Reader) (o : List Frame) (m : machine.Mode) → Holds r o m → reader.MayBegin r.mode → MayBegin m
may r o machine.start h k = tt
may r o machine.first h k = tt
may r o (machine.spelling s) h k = absurd h.same
may r o (machine.named l) h k = absurd (subst reader.MayBegin h.same k)
may r o (machine.closed t) h k = absurd (subst reader.MayBegin h.same k)

-- where the reader's label may not begin, the machine's may not
pub may_not : (r : Reader) (o : List Frame) (m : machine.Mode) → Holds r o m → ¬ reader.MayBegin r.mode → (b : ℕ) → IsTrue (machine.begins b) → (machine.is_deep_in o m b ≡ false) × (step_in o m b ≡ None)
may_not r o machine.start h k b n = absurd (k (subst reader.MayBegin (sym h.same) tt))
may_not r o machine.first h k b n = absurd (k (subst reader.MayBegin (sym h.same) tt))
may_not r o (machine.spelling s) h k b n = absurd h.same
may_not r o (machine.named l) h k b n = (refl, label_refuses o l b n)
may_not r o (machine.closed t) h k b n = (refl, tree_refuses o t b n)

-- where a label may begin, no node is at hand
hand_none : (m : machine.Mode) → MayBegin m → hand_nodes m ≡ []
hand_none machine.start h = refl
hand_none machine.first h = refl
hand_none (machine.spelling s) h = absurd h
hand_none (machine.named l) h = absurd h
hand_none (machine.closed t) h = absurd h

-- a label that is put in lies after the nodes of the open trees
pub label_lies : (r : Reader) (o : List Frame) (m : machine.Mode) (nodes : List LaidNode) (l : List ℕ) → Holds r o m → MayBegin m → nodes ≡ bare_node l ∷ r.store → Lies nodes r.«open».items (laid (alone (leaf l))) o
label_lies r o m nodes l h k e = record {
  nodes_are = e ∙ ap (λ ns. bare_node l ∷ ns) (h.lies.nodes_are ∙ ap (λ ns. ns ++ open_nodes o) (hand_none m k));
  places_are = h.lies.places_are;
}

-- the reader has as many open brackets as the machine
pub few_open : (r : Reader) (o : List Frame) (m : machine.Mode) → Holds r o m → length o ≡ length r.«open».items
few_open r o m h = sym (open_count o) ∙ ap length (sym h.lies.places_are)

-- a label that begins inside 200 or more open trees is answered as too deep
pub deep_at : (o : List Frame) (m : machine.Mode) (text : List ℕ) (i : ℕ) → MayBegin m → 200 ≤ length o → i < length text → IsTrue (machine.begins (slice_index text i)) → machine.verdict (machine.at o m) i (drop i text) ≡ machine.too_deep i
deep_at o m text i h many inside k =
    ap (machine.verdict (machine.at o m) i) (drop_more text i 0 inside)
    ∙ ap (λ c. cond c (machine.too_deep i) (machine.or_stop (λ t. machine.verdict t (i + 1) (drop (i + 1) text)) (machine.unexpected i) (step_in o m (slice_index text i)))) (deep m h)
  where
    both : (c : Bool) → IsTrue c → (c && nat_le 200 (length o)) ≡ true
    both true e = grind (arith, nat_tests)
    both false e = cc

    deep : (n : machine.Mode) → MayBegin n → machine.is_deep_in o n (slice_index text i) ≡ true
    deep machine.start p = both (machine.begins (slice_index text i)) k
    deep machine.first p = both (machine.begins (slice_index text i)) k
    deep (machine.spelling s) p = absurd p
    deep (machine.named l) p = absurd p
    deep (machine.closed t) p = absurd p

-- a fault in a label is what the machine says
pub seen_fault : (o : List Frame) (m : machine.Mode) (text : List ℕ) (i : ℕ) (e : BracketFault) → MayBegin m → length o < 200 → i < length text → IsTrue (machine.begins (slice_index text i))
    → IsSeenFault e (spelled.seen_from spelled.start i (drop i text)) → GivesFault e (machine.verdict (machine.at o m) i (drop i text))
seen_fault o m text i (NotUtf8 j) h few inside k s = absurd s
seen_fault o m text i (Unexpected j) h few inside k s = label_at o m text i (spelled.unexpected j) h few inside k s
seen_fault o m text i (TooDeep j) h few inside k s = absurd s
seen_fault o m text i Ends h few inside k s = label_at o m text i spelled.ends h few inside k s
seen_fault o m text i OutOfMemory h few inside k s = tt

-- the document of what the machine says is that of the text
pub answers : (x : List ℕ) (r : Result (List LaidNode) BracketFault) → IsUtf8 x → GivesDocument r (machine.verdict machine.empty 0 x) → AnswersDocument x r
answers x (Ok d) u (t, s, k) = let a = trees.answers x (Ok t) u s in (t, k, a.0, a.1)
answers x (Err e) u g = trees.answers x (Err e) u g

-- the document of what the machine says has at most 200 levels
pub shallow : (x : List ℕ) (r : Result (List LaidNode) BracketFault) → IsUtf8 x → GivesDocument r (machine.verdict machine.empty 0 x) → IfOk r IsShallow
shallow x (Ok d) u g = let a = answers x (Ok d) u g in (a.0, a.1, a.3.1)
shallow x (Err e) u g = tt

-- the document is that of the one tree that the text spells
pub only_tree : (x : List ℕ) (r : Result (List LaidNode) BracketFault) (t : LabelledTree) → IsUtf8 x → GivesDocument r (machine.verdict machine.empty 0 x) → SpellsShallow x t → IsDocumentOf r t
only_tree x (Ok d) t u (w, s, k) h = subst (IsDocument d) (trees.only_tree x (Ok w) t (trees.answers x (Ok w) u s) u h) k
only_tree x (Err e) t u g h = trees.only_tree x (Err e) t (trees.answers x (Err e) u g) u h

-- the document is whole after a label
pub named_whole : (r : Reader) (o : List Frame) (m : machine.Mode) (d : List LaidNode) → Holds r o m → r.mode ≡ Named → r.«open».items ≡ [] → Closes r.store 0 d → GivesDocument (Ok d) (machine.at_end (machine.whole_in o m))
named_whole r o m d h e n c =
    let is = is_named r o m h e in
    whole_holds r o m d h n c (leaf is.0) (ap machine.tree_in is.1) (ap hand_nodes is.1)

-- the document is whole after a tree where no bracket is open
pub closed_whole : (r : Reader) (o : List Frame) (m : machine.Mode) (d : List LaidNode) → Holds r o m → r.mode ≡ Closed → r.«open».items ≡ [] → Closes r.store 0 d → GivesDocument (Ok d) (machine.at_end (machine.whole_in o m))
closed_whole r o m d h e n c =
    let is = is_closed r o m h e in
    whole_holds r o m d h n c is.0 (ap machine.tree_in is.1) (ap hand_nodes is.1)

-- a list that is counted to have no members is empty
pub no_members : (xs : List ℕ) (n : ℕ) → (n == 0) ≡ true → n ≡ length xs → xs ≡ []
no_members [] n e l = refl
no_members (x ∷ xs) n e l = absurd (by_count n e (omega (arith, l)))
  where
    by_count : (k : ℕ) → (k == 0) ≡ true → 0 < k → ⊥
    by_count k p q = grind (arith, nat_tests)
