-- Columns that are seen are those that are spelled.
use Rattle.std.proofs.lemmas.Bool.Decides.{nat_tests}
use Rattle.std.proofs.Common.{◌≡◌, ◌∙◌, ◌≤◌, ℕ, zero, suc, IsTrue, length, length-append, append_assoc, arith, ◌+◌, Bool, true, false, cond, List, [], ◌∷◌, ◌++◌, Some, refl, sym, ap, drop}
use Rattle.mix_base.proofs.Choices.{some_is, none_some, number_is}
use Rattle.mix_base.proofs.Lists.{append_nil}
use Rattle.mix_tree.specs.LabelGrammar.{SpellsLabel}
use Rattle.mix_tree.specs.LabelMachine.{start, got, unexpected, ends, seen_from}
use Rattle.mix_tree.specs.LabelMachine as label
use Rattle.mix_tree.proofs.LabelSeen.{Saw, saw}
use Rattle.mix_tree.proofs.LabelSound.{label_spelled}
use Rattle.mix_tree.proofs.LabelAnswers.{run_writes_some}
use Rattle.mix_words.specs.Words.{ends_word}
use Rattle.mix_catalog.specs.Columns.{Seen, SpellsColumns, SpellsEach, SpellsOthers, ended, with_last, columns_from, has_comma}
use Rattle.mix_catalog.proofs.ColumnsSeen.{column_seen, no_column_seen}
use Rattle.mix_catalog.proofs.Seens.{Begins, spelling_begins, spelling_seen, word_end_stops}

-- no comma stands where a word ends
no_comma : (y : List ℕ) → IsTrue (ends_word y) → has_comma y ≡ false
no_comma [] h = refl
no_comma (b ∷ y) h = grind (arith, nat_tests)

-- a text that begins with a comma is that comma and the rest
comma_first : (y : List ℕ) → has_comma y ≡ true → y ≡ 44 ∷ drop 1 y
comma_first [] h = cc h
comma_first (b ∷ y) h = ap (λ c. c ∷ y) (sym (number_is b 44 h))

-- columns begin with a byte that is no blank
pub columns_begin : (ls : List (List ℕ)) (x : List ℕ) → SpellsColumns ls x → Begins x
columns_begin [] x h = absurd h
columns_begin (l ∷ ls) x (spelled, others, s, rest, parts) =
    let first = spelling_begins spelled l s in
    record { byte = first.byte; rest = first.rest ++ others; parts = parts ∙ ap (λ t. t ++ others) first.parts; other = first.other }

-- columns that are spelled are seen, after others
pub spelled_seen : (ls : List (List ℕ)) (x y : List ℕ) (done : List (List ℕ)) (i : ℕ) → SpellsColumns ls x → IsTrue (ends_word y)
    → columns_from done start i (x ++ y) ≡ Some (ended (done ++ ls) (i + length x) y)
spelled_seen [] x y done i h last = absurd h
spelled_seen (l ∷ []) x y done i (spelled, others, s, none, parts) last =
    let whole : x ≡ spelled = parts ∙ ap (λ o. spelled ++ o) none ∙ append_nil spelled in
    let seen : seen_from start i (x ++ y) ≡ got l (i + length x) y = rw whole (spelling_seen spelled y l i s (word_end_stops y last)) in
    column_seen (x ++ y) done start i l (i + length x) y seen
    ∙ ap (λ b. cond b (columns_from (with_last done l) start (i + length x + 1) (drop 1 y)) (Some (ended (with_last done l) (i + length x) y))) (no_comma y last)
spelled_seen (l ∷ k ∷ ls) x y done i (spelled, others, s, (more, rest, comma), parts) last =
    let cut : x ++ y ≡ spelled ++ (44 ∷ (more ++ y)) = ap (λ t. t ++ y) (parts ∙ ap (λ o. spelled ++ o) comma) ∙ append_assoc spelled (44 ∷ more) y in
    let seen : seen_from start i (x ++ y) ≡ got l (i + length spelled) (44 ∷ (more ++ y)) = ap (seen_from start i) cut ∙ spelling_seen spelled (44 ∷ (more ++ y)) l i s refl in
    let next = spelled_seen (k ∷ ls) more y (with_last done l) (i + length spelled + 1) rest last in
    let long : length x ≡ length spelled + suc (length more) = ap length (parts ∙ ap (λ o. spelled ++ o) comma) ∙ length-append spelled (44 ∷ more) in
    let end : i + length spelled + 1 + length more ≡ i + length x = omega (arith, long) in
    column_seen (x ++ y) done start i l (i + length spelled) (44 ∷ (more ++ y)) seen ∙ next
    ∙ ap (λ labels. Some (ended labels (i + length spelled + 1 + length more) y)) (append_assoc done (l ∷ []) (k ∷ ls))
    ∙ ap (λ j. Some (ended (done ++ l ∷ k ∷ ls) j y)) end

-- columns that were seen before a text, after others
pub record Found (x : List ℕ) (done : List (List ℕ)) (seen : Seen) : Type 0 where
  pub labels : List (List ℕ)
  pub spelling : List ℕ
  pub are : seen.labels ≡ done ++ labels
  pub spells : SpellsColumns labels spelling
  pub parts : x ≡ spelling ++ seen.after

-- a comma and columns stand after another column
pub others_of : {C : Type 0} (S : List ℕ → C → Type 0) (cs : List C) (x : List ℕ) → SpellsEach S cs x → SpellsOthers cs (SpellsEach S cs) (44 ∷ x)
others_of S [] x h = absurd h
others_of S (c ∷ cs) x h = (x, h, refl)

-- where no comma follows a column, it is the last one that was seen
found_last : (x spelled y l : List ℕ) (done : List (List ℕ)) (j : ℕ) (seen : Seen) → SpellsLabel spelled l → x ≡ spelled ++ y → ended (with_last done l) j y ≡ seen → Found x done seen
found_last x spelled y l done j seen s parts e = record {
  labels = l ∷ [];
  spelling = spelled;
  are = ap (λ (z : Seen). z.labels) (sym e);
  spells = (spelled, [], s, refl, sym (append_nil spelled));
  parts = parts ∙ ap (λ (z : Seen). spelled ++ z.after) e;
}

-- where a comma follows a column, other columns that were seen follow it
found_more : (x spelled y l : List ℕ) (done : List (List ℕ)) (seen : Seen) → SpellsLabel spelled l → x ≡ spelled ++ y → has_comma y ≡ true → Found (drop 1 y) (with_last done l) seen → Found x done seen
found_more x spelled y l done seen s parts comma h = record {
  labels = l ∷ h.labels;
  spelling = spelled ++ (44 ∷ h.spelling);
  are = h.are ∙ append_assoc done (l ∷ []) h.labels;
  spells = (spelled, 44 ∷ h.spelling, s, others_of SpellsLabel h.labels h.spelling h.spells, refl);
  parts = parts ∙ ap (λ r. spelled ++ r) (comma_first y comma ∙ ap (λ r. 44 ∷ r) h.parts) ∙ sym (append_assoc spelled (44 ∷ h.spelling) seen.after);
}

-- columns that are seen are spelled, in a text that is no longer than n
found_in : (n : ℕ) (x : List ℕ) (done : List (List ℕ)) (i : ℕ) (seen : Seen) → length x ≤ n → columns_from done start i x ≡ Some seen → Found x done seen
found_in zero [] done i seen short e = none_some seen e
found_in zero (b ∷ x) done i seen short e = absurd (omega arith)
found_in (suc n) x done i seen short e = by_label (seen_from start i x) refl (saw x start i) (λ y l j less h. found_in n y (with_last done l) j seen less h)
  where
    by_label : (z : label.Seen) → seen_from start i x ≡ z → Saw start i x z
        → ((y l : List ℕ) (j : ℕ) → length y ≤ n → columns_from (with_last done l) start j y ≡ Some seen → Found y (with_last done l) seen) → Found x done seen
    by_label (unexpected j) k s more = none_some seen (sym (no_column_seen x done start i (λ l m y h. cc (sym k ∙ h))) ∙ e)
    by_label ends k s more = none_some seen (sym (no_column_seen x done start i (λ l m y h. cc (sym k ∙ h))) ∙ e)
    by_label (got l j y) k s more = by_comma (has_comma y) refl (sym (column_seen x done start i l j y k) ∙ e)
      where
        spelled : SpellsLabel s.spelled l
        spelled = label_spelled s.spelled s.spot l (run_writes_some s.spelled s.spot s.runs) s.label

        by_comma : (t : Bool) → has_comma y ≡ t → cond t (columns_from (with_last done l) start (j + 1) (drop 1 y)) (Some (ended (with_last done l) j y)) ≡ Some seen → Found x done seen
        by_comma false c h = found_last x s.spelled y l done j seen spelled s.parts (some_is _ seen h)
        by_comma true c h =
            let whole : length x ≡ length s.spelled + length y = ap length s.parts ∙ length-append s.spelled y in
            let long : length y ≡ suc (length (drop 1 y)) = ap length (comma_first y c) in
            found_more x s.spelled y l done seen spelled s.parts c (more (drop 1 y) l (j + 1) (omega (arith, whole, long, short)) h)

-- columns that are seen at a place are spelled there
pub seen_spelled : (x : List ℕ) (i : ℕ) (seen : Seen) → columns_from [] start i x ≡ Some seen → Found x [] seen
seen_spelled x i seen e = found_in (length x) x [] i seen (omega arith) e
