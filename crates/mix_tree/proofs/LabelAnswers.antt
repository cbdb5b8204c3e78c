-- What is seen at a place of a text, in terms of the grammar.
use Rattle.std.proofs.Common.{◌≡◌, inl, inr, ◌<◌, ◌≤◌, ◌+◌, ◌-◌, ◌∙◌, ◌==◌, ℕ, zero, suc, Bool, true, false, cond, List, [], ◌∷◌, ◌++◌, Option, Some, None, refl, sym, ap, subst, arith, length, append_assoc, option_and_then, take, drop, slice_range, slice_index, length-append, length-drop, Result, Ok, Err, IfOk}
use Rattle.std.proofs.lemmas.List.{drop_more}
use Rattle.std.proofs.lemmas.Str.{IsUtf8-nil, IsUtf8-drop, IsUtf8-append, IsUtf8-between, IsCharBoundary-start, IsCharBoundary-from_drop}
use Rattle.std.specs.Str.{IsUtf8, IsCharBoundary}
use Rattle.mix_base.proofs.Runs.{run_then, run_byte}
use Rattle.mix_base.specs.Reading.{IsPrefix}
use Rattle.mix_base.proofs.Lists.{append_nil, take_whole, take_append, prefix_cases, prefix_is, prefix_with}
use Rattle.mix_base.proofs.Choices.{some_is, none_some, Gives}
use Rattle.mix_base.proofs.Utf8.{one_utf8, utf8_from, utf8_after}
use Rattle.mix_tree.specs.Spelling.{is_bare}
use Rattle.mix_tree.specs.LabelGrammar.{SpellsLabel, inside_quotes}
use Rattle.mix_tree.specs.LabelMachine.{Spot, start, in_bare, in_quotes, in_escape, after_quote, step, run, label_in, seen_from}
use Rattle.mix_tree.specs.LabelReads.{SpellsNowhere, IsLongest, IsNoLabel, IsCutLabel, ReadsLabel, seen_of}
use Rattle.mix_tree.specs.declared.label_read.LabelRead.{LabelRead}
use Rattle.mix_tree.specs.declared.label_read.LabelRead.TheVariants.{Got, Unexpected, Ends}
use Rattle.mix_tree.proofs.LabelSound.{Writes, run_writes, label_spelled}
use Rattle.mix_tree.proofs.LabelComplete.{spelled_reads, run_may_end}
use Rattle.mix_tree.proofs.LabelTaken.{not_bare_ascii}
use Rattle.mix_tree.proofs.LabelSeen.{Stops, SawLabel, SawStop, SawEnd, Saw, saw}

-- ASCII bytes lead from a spot to the end of a label
pub record GoesOn (s : Spot) : Type 0 where
  pub bytes : List ℕ
  pub utf8 : IsUtf8 bytes
  pub spot : Spot
  pub label : List ℕ
  pub runs : run s bytes ≡ Some spot
  pub ends : label_in spot ≡ Some label

-- a spot goes on to a label's end where the spot after an ASCII byte does
byte_on : (s t : Spot) (b : ℕ) → b < 128 → step s b ≡ Some t → GoesOn t → GoesOn s
byte_on s t b low e h = record {
  bytes = b ∷ h.bytes;
  utf8 = IsUtf8-append (b ∷ []) h.bytes (one_utf8 b low) h.utf8;
  spot = h.spot;
  label = h.label;
  runs = run_byte step b h.bytes s t e ∙ h.runs;
  ends = h.ends;
}

-- a label that has ended goes on by nothing
ended : (s : Spot) (l : List ℕ) → label_in s ≡ Some l → GoesOn s
ended s l e = record { bytes = []; utf8 = IsUtf8-nil; spot = s; label = l; runs = refl; ends = e }

-- between quotes, the closing one ends the label
quotes_on : (l : List ℕ) → GoesOn (in_quotes l)
quotes_on l = byte_on (in_quotes l) (after_quote l) 34 (omega arith) refl (ended (after_quote l) l refl)

-- each spot goes on to the end of some label
pub goes_on : (s : Spot) → GoesOn s
goes_on start = byte_on start (in_bare (97 ∷ [])) 97 (omega arith) refl (ended (in_bare (97 ∷ [])) (97 ∷ []) refl)
goes_on (in_bare l) = ended (in_bare l) l refl
goes_on (in_quotes l) = quotes_on l
goes_on (in_escape l) = byte_on (in_escape l) (in_quotes (l ++ 10 ∷ [])) 110 (omega arith) refl (quotes_on (l ++ 10 ∷ []))
goes_on (after_quote l) = ended (after_quote l) l refl

-- a text that a run goes over is what its last spot has read
pub run_writes_some : (w : List ℕ) (t : Spot) → run start w ≡ Some t → Writes w t
run_writes_some w t e = by_case (run start w) e (run_writes w [] start refl)
  where
    by_case : (o : Option Spot) → o ≡ Some t → Gives (Writes w) o → Writes w t
    by_case None f g = none_some t f
    by_case (Some u) f g = subst (Writes w) (some_is u t f) g

-- what a run has read goes on to a label
prefix_of : (w : List ℕ) (s : Spot) → IsUtf8 w → run start w ≡ Some s → IsPrefix SpellsLabel w
prefix_of w s u r =
    let h = goes_on s in
    let whole : run start (w ++ h.bytes) ≡ Some h.spot = run_then step w h.bytes start s r ∙ h.runs in
    (h.bytes, h.label, IsUtf8-append w h.bytes u h.utf8, label_spelled (w ++ h.bytes) h.spot h.label (run_writes_some (w ++ h.bytes) h.spot whole) h.ends)

-- a text on which the run stops spells no label
stopped : (x l : List ℕ) → run start x ≡ None → SpellsLabel x l → ⊥
stopped x l e s = let r = spelled_reads x l s in none_some r.0 (sym e ∙ r.1)

-- a run stops at a byte that does not go on
stops_run : (w y : List ℕ) (b : ℕ) (t : Spot) → run start w ≡ Some t → step t b ≡ None → run start (w ++ b ∷ y) ≡ None
stops_run w y b t r e = run_then step w (b ∷ y) start t r ∙ ap (option_and_then (λ u. run u y)) e

-- what leads to no label's end spells none
unlabelled : (w l : List ℕ) (t : Spot) → run start w ≡ Some t → label_in t ≡ None → SpellsLabel w l → ⊥
unlabelled w l t r n s =
    let k = spelled_reads w l s in
    let same : k.0 ≡ t = some_is k.0 t (sym k.1 ∙ r) in
    none_some l (sym n ∙ ap label_in (sym same) ∙ k.2)

-- no prefix of a text that leads to no label's end spells a label
within : (w z v l : List ℕ) (t : Spot) → run start w ≡ Some t → label_in t ≡ None → w ≡ z ++ v → SpellsLabel z l → ⊥
within w z v l t r n e s =
    let k = spelled_reads z l s in
    let more : run k.0 v ≡ Some t = sym (run_then step z v start k.0 k.1) ∙ ap (run start) (sym e) ∙ r in
    let m = run_may_end v k.0 t (l, k.2) more in
    none_some m.0 (sym n ∙ m.1)

-- where a run stops after a text that leads to no label's end, no longer text spells a label
beyond : (w y l : List ℕ) (t : Spot) (m : ℕ) → run start w ≡ Some t → label_in t ≡ None → Stops t y → SpellsLabel (w ++ take m y) l → ⊥
beyond w [] l t zero r n h s = unlabelled w l t r n (subst (λ z. SpellsLabel z l) (append_nil w) s)
beyond w [] l t (suc m) r n h s = unlabelled w l t r n (subst (λ z. SpellsLabel z l) (append_nil w) s)
beyond w (b ∷ y) l t zero r n h s = unlabelled w l t r n (subst (λ z. SpellsLabel z l) (append_nil w) s)
beyond w (b ∷ y) l t (suc m) r n h s = stopped (w ++ b ∷ take m y) l (stops_run w (take m y) b t r h) s

-- where a run stops before a label has ended, no label is spelled
nowhere : (x w y : List ℕ) (t : Spot) → x ≡ w ++ y → run start w ≡ Some t → label_in t ≡ None → Stops t y → SpellsNowhere x
nowhere x w y t e r n h = subst SpellsNowhere (sym e) (λ k l u s. elim (prefix_cases k w y) [
  | inl (v, f) ↦ within w (take k (w ++ y)) v l t r n f s
  | inr (m, f) ↦ beyond w y l t m r n h (subst (λ z. SpellsLabel z l) f s)
])

-- a label that has ended does not go on
no_longer : (w y l : List ℕ) (t : Spot) (m : ℕ) → 0 < m → 0 < length y → run start w ≡ Some t → Stops t y → SpellsLabel (w ++ take m y) l → ⊥
no_longer w [] l t m p q r h s = absurd (omega arith)
no_longer w (b ∷ y) l t zero p q r h s = absurd (omega arith)
no_longer w (b ∷ y) l t (suc m) p q r h s = stopped (w ++ b ∷ take m y) l (stops_run w (take m y) b t r h) s

-- after a label a character begins
after_utf8 : (w y l : List ℕ) (t : Spot) → IsUtf8 (w ++ y) → Writes w t → label_in t ≡ Some l → Stops t y → IsUtf8 y
after_utf8 w y l start u h e s = none_some l e
after_utf8 w y l (in_quotes k) u h e s = none_some l e
after_utf8 w y l (in_escape k) u h e s = none_some l e
after_utf8 w [] l (in_bare k) u h e s = IsUtf8-nil
after_utf8 w (b ∷ y) l (in_bare k) u h e s = utf8_from w y b (not_bare_ascii b (by_case (is_bare b) _ s)) u
  where
    by_case : (c : Bool) (t : Spot) → cond c (Some t) None ≡ None → c ≡ false
    by_case true t f = none_some t (sym f)
    by_case false t f = refl
after_utf8 w y l (after_quote k) u (ps, are, e, m) f s =
    (utf8_after (34 ∷ inside_quotes ps) y 34 (omega arith) (subst (λ r. IsUtf8 (r ++ y)) e u)).1

-- up to a byte that does not fit there are whole characters
before_utf8 : (w y : List ℕ) (b : ℕ) (t : Spot) → IsUtf8 (w ++ b ∷ y) → Writes w t → label_in t ≡ None → step t b ≡ None → IsUtf8 w
before_utf8 w y b start u h e s = subst IsUtf8 (sym h) IsUtf8-nil
before_utf8 w y b (in_bare k) u h e s = none_some k (sym e)
before_utf8 w y b (in_quotes k) u h e s = goes (b == 34) (b == 92) _ _ _ s
  where
    goes : {Q : Type 0} (c d : Bool) (p q r : Spot) → cond c (Some p) (cond d (Some q) (Some r)) ≡ None → Q
    goes true d p q r f = none_some p (sym f)
    goes false true p q r f = none_some q (sym f)
    goes false false p q r f = none_some r (sym f)
before_utf8 w y b (in_escape k) u (ps, are, e, m) f s =
    subst IsUtf8 (sym e) (utf8_after (34 ∷ inside_quotes ps) (b ∷ y) 92 (omega arith) (subst (λ r. IsUtf8 (r ++ b ∷ y)) e u)).0
before_utf8 w y b (after_quote k) u h e s = none_some k (sym e)

-- a label that has ended has bytes
not_empty : (w l : List ℕ) (t : Spot) → run start w ≡ Some t → label_in t ≡ Some l → 0 < length w
not_empty [] l t r e = none_some l (ap label_in (some_is start t r) ∙ e)
not_empty (b ∷ w) l t r e = omega arith

-- what follows a place is as long as the rest
rest_length : (x w y : List ℕ) (from : ℕ) → from ≤ length x → drop from x ≡ w ++ y → length w + length y ≡ length x - from
rest_length x w y from h e = sym (length-append w y) ∙ ap length (sym e) ∙ length-drop from x

-- a label that was seen is the longest
longest : (x l : List ℕ) (from end : ℕ) → IsUtf8 x → from ≤ length x → IsCharBoundary x from → SawLabel start from (drop from x) l end (drop end x) → IsLongest x from l end
longest x l from end u inside boundary h =
    let w = h.spelled in
    let y = drop end x in
    let both = rest_length x w y from inside h.parts in
    let some : 0 < length w = not_empty w l h.spot h.runs h.label in
    let order : from < end = omega (arith, h.place) in
    let within : end ≤ length x = omega (arith, h.place, both) in
    let writes = run_writes_some w h.spot h.runs in
    let rest : IsUtf8 (w ++ y) = subst IsUtf8 h.parts (IsUtf8-drop x from u boundary) in
    let next : IsCharBoundary x end = IsCharBoundary-from_drop x end within (after_utf8 w y l h.spot rest writes h.label h.stops) in
    let slice : slice_range x from end ≡ w = ap (take (end - from)) h.parts ∙ take_whole w y (end - from) (omega (arith, h.place)) in
    record {
      order = order;
      inside = within;
      boundary = next;
      utf8 = IsUtf8-between x from end u (omega arith) boundary next;
      spells = subst (λ z. SpellsLabel z l) (sym slice) (label_spelled w h.spot l writes h.label);
      longest = λ n other k i s.
          let more : n - from ≡ length w + (n - end) = omega (arith, h.place) in
          let longer : slice_range x from n ≡ w ++ take (n - end) y = ap (take (n - from)) h.parts ∙ ap (λ m. take m (w ++ y)) more ∙ take_append w y (n - end) in
          no_longer w y other h.spot (n - end) (omega arith) (omega (arith, h.place, both)) h.runs h.stops (subst (λ z. SpellsLabel z other) longer s);
    }

-- where no label has ended, a byte that does not fit is the first with which no spelling goes on
no_label : (x : List ℕ) (from at : ℕ) → IsUtf8 x → from ≤ length x → IsCharBoundary x from → SawStop start from (drop from x) at → IsNoLabel x from at
no_label x from at u inside boundary h =
    let w = h.prefix in
    let writes = run_writes_some w h.spot h.runs in
    let place : at - from ≡ length w = omega (arith, h.place) in
    let rest : IsUtf8 (w ++ h.byte ∷ h.rest) = subst IsUtf8 h.parts (IsUtf8-drop x from u boundary) in
    let low : IsUtf8 w = before_utf8 w h.rest h.byte h.spot rest writes h.label h.stops in
    record {
      order = omega (arith, h.place);
      unexpected = record {
        inside = omega (arith, place, ap length h.parts, length-append w (h.byte ∷ h.rest));
        prefix = subst (IsPrefix SpellsLabel) (sym (ap (take (at - from)) h.parts ∙ prefix_is w h.rest h.byte (at - from) place)) (prefix_of w h.spot low h.runs);
        wrong = λ f.
            let g = subst (IsPrefix SpellsLabel) (ap (take (at - from + 1)) h.parts ∙ prefix_with w h.rest h.byte (at - from) place) f in
            stopped ((w ++ h.byte ∷ []) ++ g.0) g.1 (ap (run start) (append_assoc w (h.byte ∷ []) g.0) ∙ stops_run w g.0 h.byte h.spot h.runs h.stops) g.3;
      };
      nowhere = nowhere (drop from x) w (h.byte ∷ h.rest) h.spot h.parts h.runs h.label h.stops;
    }

-- where the text ends within a spelling, no label is spelled there, and a spelling goes on from the end
cut_label : (x : List ℕ) (from : ℕ) → IsUtf8 x → IsCharBoundary x from → SawEnd start (drop from x) → IsCutLabel x from
cut_label x from u boundary (t, r, e) = record {
  prefix = prefix_of (drop from x) t (IsUtf8-drop x from u boundary) r;
  nowhere = nowhere (drop from x) (drop from x) [] t (sym (append_nil (drop from x))) r e tt;
}

-- where a character begins, the answer is what is seen there
pub reads_at_boundary : (x : List ℕ) (from : ℕ) (read : LabelRead) → IsUtf8 x → from ≤ length x → IsCharBoundary x from → seen_from start from (drop from x) ≡ seen_of x read → ReadsLabel x from read
reads_at_boundary x from (Got label end) u h b e = longest x label from end u h b (subst (Saw start from (drop from x)) e (saw (drop from x) start from))
reads_at_boundary x from (Unexpected at) u h b e = no_label x from at u h b (subst (Saw start from (drop from x)) e (saw (drop from x) start from))
reads_at_boundary x from Ends u h b e = cut_label x from u b (subst (Saw start from (drop from x)) e (saw (drop from x) start from))

-- inside a character no text begins
no_text : (x : List ℕ) (from : ℕ) → from < length x → (IsCharBoundary x from → ⊥) → (y : List ℕ) → IsUtf8 (take 1 (drop from x) ++ y) → ⊥
no_text x from inside bad y u =
    let one : drop from x ≡ slice_index x from ∷ drop (from + 1) x = drop_more x from 0 inside in
    let begins : IsUtf8 (slice_index x from ∷ y) = subst (λ r. IsUtf8 (take 1 r ++ y)) one u in
    bad (omega arith, λ i high. (IsCharBoundary-start (slice_index x from ∷ y) begins).1 (omega arith) high)

-- where no character begins, no label does
pub reads_inside : (x : List ℕ) (from : ℕ) → from < length x → (IsCharBoundary x from → ⊥) → ReadsLabel x from (Unexpected from)
reads_inside x from inside bad =
    let none : from - from ≡ 0 = omega arith in
    record {
      order = omega arith;
      unexpected = record {
        inside = omega (arith, length-drop from x);
        prefix = subst (λ n. IsPrefix SpellsLabel (take n (drop from x))) (sym none) (prefix_of [] start IsUtf8-nil refl);
        wrong = λ f.
            let g = subst (λ n. IsPrefix SpellsLabel (take (n + 1) (drop from x))) none f in
            no_text x from inside bad g.0 g.2;
      };
      nowhere = λ n l u s. by_length n l u s;
    }
  where
    by_length : (n : ℕ) (l : List ℕ) → IsUtf8 (take n (drop from x)) → SpellsLabel (take n (drop from x)) l → ⊥
    by_length zero l u s = unlabelled [] l start refl refl s
    by_length (suc n) l u s =
        let one : drop from x ≡ slice_index x from ∷ drop (from + 1) x = drop_more x from 0 inside in
        let parts : take (suc n) (drop from x) ≡ take 1 (drop from x) ++ take n (drop (from + 1) x) = ap (take (suc n)) one ∙ ap (λ r. take 1 r ++ take n (drop (from + 1) x)) (sym one) in
        no_text x from inside bad (take n (drop (from + 1) x)) (subst IsUtf8 parts u)

-- where a call answers what is seen at a place where a character begins, its answer is that of the grammar
pub call_reads : {E : Type 0} (x : List ℕ) (from : ℕ) (r : Result LabelRead E) → IsUtf8 x → from ≤ length x → IsCharBoundary x from → IfOk r (λ read. seen_from start from (drop from x) ≡ seen_of x read)
    → IfOk r (λ read. ReadsLabel x from read)
call_reads x from (Ok read) u h b e = reads_at_boundary x from read u h b e
call_reads x from (Err e) u h b s = tt
