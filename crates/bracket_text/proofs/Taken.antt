-- What a reader does with a label at once, and with other bytes.
use Rattle.std.proofs.Common.{◌≡◌, ◌<◌, ◌+◌, ◌∙◌, ◌==◌, ◌&&◌, ℕ, Bool, true, false, cond, IsTrue, List, [], ◌∷◌, Option, Some, None, refl, sym, ap, arith, length, drop, slice_index, option_map, nat_le}
use Rattle.std.proofs.lemmas.Bool.Decides.{nat_tests}
use Rattle.std.proofs.lemmas.List.{drop_more}
use Rattle.mix_base.proofs.Choices.{number_is, none_some, Gives, either}
use Rattle.mix_tree.specs.Forest.{LabelledTree}
use Rattle.mix_tree.specs.LabelMachine as spelled
use Rattle.bracket_text.specs.Grammar.{is_blank}
use Rattle.bracket_text.specs.Machine.{Frame, Mode, start, first, spelling, named, closed, State, at, leaf, after_tree, after_tree_in, after_label, or_other, after, begins, is_deep_in, is_deep, step, whole_in, Verdict, unexpected, too_deep, ends, at_end, or_stop, verdict}
use Rattle.bracket_text.specs.ReaderState.{GivesStop, GivesFault}
use Rattle.bracket_text.specs.declared.fault.BracketFault.{BracketFault}
use Rattle.bracket_text.specs.declared.fault.BracketFault.TheVariants.{NotUtf8, Unexpected, TooDeep, Ends, OutOfMemory}
use Rattle.bracket_text.proofs.Runs.{MayBegin, begin_step, begins_not_blank}

-- what the machine says after a label that was seen
abbrev pub past_label : List Frame → spelled.Seen → Verdict
past_label o (spelled.got l j y) = verdict (at o (named l)) j y
past_label o (spelled.unexpected j) = unexpected j
past_label o spelled.ends = ends

-- at the end of the text, a label is read as it is seen
end_same : (o : List Frame) (s : spelled.Spot) (i : ℕ) (l : Option (List ℕ)) → spelled.label_in s ≡ l → at_end (whole_in o (spelling s)) ≡ past_label o (spelled.seen_at_end i l)
end_same [] s i None e = ap (λ k. at_end (option_map leaf k)) e
end_same [] s i (Some l) e = ap (λ k. at_end (option_map leaf k)) e
end_same (f ∷ o) s i None e = refl
end_same (f ∷ o) s i (Some l) e = refl

-- at a byte, a label is read as it is seen, if it is after that byte
byte_same : (o : List Frame) (i b : ℕ) (x : List ℕ) (r : Option spelled.Spot) (l : Option (List ℕ)) → ((t : spelled.Spot) → verdict (at o (spelling t)) (i + 1) x ≡ past_label o (spelled.seen_from t (i + 1) x))
    → or_stop (λ t. verdict t (i + 1) x) (unexpected i) (or_other o (after o l b) r)
    ≡ past_label o (spelled.or_stop (λ t. spelled.seen_from t (i + 1) x) (spelled.seen_at i (b ∷ x) l) r)
byte_same o i b x None None k = refl
byte_same o i b x None (Some l) k = refl
byte_same o i b x (Some t) l k = k t

-- a label is read as it is seen
label_verdict : (x : List ℕ) (o : List Frame) (s : spelled.Spot) (i : ℕ) → verdict (at o (spelling s)) i x ≡ past_label o (spelled.seen_from s i x)
label_verdict [] o s i = end_same o s i (spelled.label_in s) refl
label_verdict (b ∷ x) o s i = byte_same o i b x (spelled.step s b) (spelled.label_in s) (λ t. label_verdict x o t (i + 1))

-- at a byte where no label lies too deep, the verdict is that of the machine's next step
not_too_deep : (s : State) (i b : ℕ) (x : List ℕ) → is_deep s b ≡ false → verdict s i (b ∷ x) ≡ or_stop (λ t. verdict t (i + 1) x) (unexpected i) (step s b)
not_too_deep s i b x n = ap (λ c. cond c (too_deep i) (or_stop (λ t. verdict t (i + 1) x) (unexpected i) (step s b))) n

-- where a label may begin, a byte that begins one lies too deep exactly inside 200 or more open trees
deep_test : (o : List Frame) (m : Mode) (b : ℕ) → MayBegin m → is_deep_in o m b ≡ (begins b && nat_le 200 (length o))
deep_test o start b h = refl
deep_test o first b h = refl
deep_test o (spelling s) b h = absurd h
deep_test o (named l) b h = absurd h
deep_test o (closed t) b h = absurd h

-- below fewer than 200 open trees no label is too deep
few_not_deep : (o : List Frame) (c : Bool) → length o < 200 → (c && nat_le 200 (length o)) ≡ false
few_not_deep o false h = refl
few_not_deep o true h = grind (arith, nat_tests)

-- a label that begins is read as it is seen
begin_verdict : (o : List Frame) (m : Mode) (i b : ℕ) (x : List ℕ) → MayBegin m → length o < 200 → IsTrue (begins b) → verdict (at o m) i (b ∷ x) ≡ past_label o (spelled.seen_from spelled.start i (b ∷ x))
begin_verdict o m i b x h few k =
    not_too_deep (at o m) i b x (deep_test o m b h ∙ few_not_deep o (begins b) few)
    ∙ ap (or_stop (λ t. verdict t (i + 1) x) (unexpected i)) (begin_step o m b h k)
    ∙ byte_same o i b x (spelled.step spelled.start b) None (λ t. label_verdict x o t (i + 1))

-- a label of a text is read as it is seen
pub label_at : (o : List Frame) (m : Mode) (text : List ℕ) (i : ℕ) (z : spelled.Seen) → MayBegin m → length o < 200 → i < length text → IsTrue (begins (slice_index text i))
    → spelled.seen_from spelled.start i (drop i text) ≡ z → verdict (at o m) i (drop i text) ≡ past_label o z
label_at o m text i z h few inside k e =
    let here = drop_more text i 0 inside in
    ap (verdict (at o m) i) here ∙ begin_verdict o m i (slice_index text i) (drop (i + 1) text) h few k
    ∙ ap (λ r. past_label o (spelled.seen_from spelled.start i r)) (sym here) ∙ ap (past_label o) e

-- a byte of a text is taken
pub step_goes : (s t : State) (text : List ℕ) (i : ℕ) → i < length text → is_deep s (slice_index text i) ≡ false → step s (slice_index text i) ≡ Some t → verdict s i (drop i text) ≡ verdict t (i + 1) (drop (i + 1) text)
step_goes s t text i inside n e =
    ap (verdict s i) (drop_more text i 0 inside) ∙ not_too_deep s i (slice_index text i) (drop (i + 1) text) n
    ∙ ap (or_stop (λ u. verdict u (i + 1) (drop (i + 1) text)) (unexpected i)) e

-- a byte of a text does not fit
pub step_stops : (s : State) (text : List ℕ) (i : ℕ) → i < length text → is_deep s (slice_index text i) ≡ false → step s (slice_index text i) ≡ None → verdict s i (drop i text) ≡ unexpected i
step_stops s text i inside n e =
    ap (verdict s i) (drop_more text i 0 inside) ∙ not_too_deep s i (slice_index text i) (drop (i + 1) text) n
    ∙ ap (or_stop (λ u. verdict u (i + 1) (drop (i + 1) text)) (unexpected i)) e

-- a fault at a byte is what the machine says
pub fault_stops : (s : State) (text : List ℕ) (i : ℕ) (e : BracketFault) (v : Verdict) → v ≡ verdict s i (drop i text) → i < length text → is_deep s (slice_index text i) ≡ false
    → GivesStop e i (step s (slice_index text i)) → GivesFault e v
fault_stops s text i (NotUtf8 j) v same inside n h = h
fault_stops s text i (Unexpected j) v same inside n h = same ∙ step_stops s text i inside n h.1 ∙ ap unexpected (sym h.0)
fault_stops s text i (TooDeep j) v same inside n h = absurd h
fault_stops s text i Ends v same inside n h = absurd h
fault_stops s text i OutOfMemory v same inside n h = tt

-- where no label begins, none lies too deep
pub other_not_deep : (o : List Frame) (m : Mode) (b : ℕ) → begins b ≡ false → is_deep_in o m b ≡ false
other_not_deep o start b h = rw h refl
other_not_deep o first b h = rw h refl
other_not_deep o (spelling s) b h = refl
other_not_deep o (named l) b h = refl
other_not_deep o (closed t) b h = refl

-- no label stands after a tree in brackets
tree_in_refuses : (o : List Frame) (t : LabelledTree) (b : ℕ) → IsTrue (begins b) → after_tree_in o t b ≡ None
tree_in_refuses [] t b h = refl
tree_in_refuses (f ∷ o) t b h =
    let c : (b == 44) ≡ false = grind (arith, nat_tests) in
    let d : (b == 93) ≡ false = grind (arith, nat_tests) in
    rw (c, d) refl

-- no label stands after a tree
pub tree_refuses : (o : List Frame) (t : LabelledTree) (b : ℕ) → IsTrue (begins b) → after_tree o t b ≡ None
tree_refuses o t b h = rw (begins_not_blank b h) (tree_in_refuses o t b h)

-- no label stands right after a label
pub label_refuses : (o : List Frame) (l : List ℕ) (b : ℕ) → IsTrue (begins b) → after_label o l b ≡ None
label_refuses o l b h =
    let c : (b == 91) ≡ false = grind (arith, nat_tests) in
    rw (begins_not_blank b h, c) (tree_in_refuses o (leaf l) b h)

-- a byte that is no bare character and no quote is ASCII
pub other_ascii : (b : ℕ) → begins b ≡ false → b < 128
other_ascii b h = grind (arith, nat_tests)

-- a blank is ASCII
blank_ascii : (b : ℕ) → IsTrue (is_blank b) → b < 128
blank_ascii b h = grind (arith, nat_tests)

-- a byte equal to an ASCII byte is ASCII
same_ascii : (b c : ℕ) → c < 128 → (b == c) ≡ true → b < 128
same_ascii b c low e = omega (arith, number_is b c e)

-- what fits after a tree in brackets is ASCII
tree_in_ascii : (o : List Frame) (t : LabelledTree) (b : ℕ) → Gives (λ s. b < 128) (after_tree_in o t b)
tree_in_ascii [] t b = tt
tree_in_ascii (f ∷ o) t b = either _ (b == 44) _ _ (λ e. same_ascii b 44 (omega arith) e) (λ n. either _ (b == 93) _ _ (λ e. same_ascii b 93 (omega arith) e) (λ k. tt))

-- what fits after a label is ASCII
label_ascii : (o : List Frame) (l : List ℕ) (b : ℕ) → Gives (λ s. b < 128) (after_label o l b)
label_ascii o l b =
    either _ (is_blank b) _ _ (λ h. blank_ascii b h)
    (λ n. either _ (b == 91) _ _ (λ e. same_ascii b 91 (omega arith) e) (λ k. either _ (is_blank b) _ _ (λ h. blank_ascii b h) (λ m. tree_in_ascii o (leaf l) b)))

-- what fits after a label is ASCII
pub ascii_after : (o : List Frame) (l : List ℕ) (b : ℕ) (t : State) → after_label o l b ≡ Some t → b < 128
ascii_after o l b t e = by_step (after_label o l b) e (label_ascii o l b)
  where
    by_step : (r : Option State) → r ≡ Some t → Gives (λ s. b < 128) r → b < 128
    by_step None f h = none_some t f
    by_step (Some u) f h = h
