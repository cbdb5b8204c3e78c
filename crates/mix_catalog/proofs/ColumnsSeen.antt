-- What is seen of columns, label by label.
use Rattle.std.proofs.lemmas.Bool.Decides.{nat_tests}
use Rattle.std.proofs.Common.{◌≡◌, ◌∙◌, ℕ, zero, suc, ◌<◌, IsTrue, get_or, length, arith, ◌+◌, ◌==◌, true, cond, List, [], ◌∷◌, Option, Some, None, refl, sym, option_map, drop}
use Rattle.mix_tree.specs.LabelMachine.{Spot, start, step, label_in, got, unexpected, ends, seen_at, seen_from}
use Rattle.mix_tree.specs.LabelMachine as label
use Rattle.mix_tree.specs.LabelReads.{seen_of}
use Rattle.mix_tree.specs.declared.label_read.LabelRead.{LabelRead}
use Rattle.mix_tree.specs.declared.label_read.LabelRead.TheVariants.{Got, Unexpected, Ends}
use Rattle.mix_catalog.specs.Columns.{Seen, ended, with_last, or_stop, after_label, columns_from, has_comma}

-- what is seen after a column that ends at a place
abbrev pub after_column : List (List ℕ) → List ℕ → ℕ → List ℕ → Option Seen
after_column done l j y = cond (has_comma y) (columns_from (with_last done l) start (j + 1) (drop 1 y)) (Some (ended (with_last done l) j y))

-- a label that is seen is the next column
pub column_seen : (x : List ℕ) (done : List (List ℕ)) (s : Spot) (i : ℕ) (l : List ℕ) (j : ℕ) (y : List ℕ) → seen_from s i x ≡ got l j y → columns_from done s i x ≡ after_column done l j y
column_seen [] done s i l j y e = at_end (label_in s) e
  where
    at_end : (o : Option (List ℕ)) → label.seen_at_end i o ≡ got l j y → option_map (λ k. ended (with_last done k) i []) o ≡ after_column done l j y
    at_end None h = cc h
    at_end (Some k) h =
        let p : k ≡ l = cc h in
        let q : i ≡ j = cc h in
        let r : [] ≡ y = cc h in
        rw (← r, ← p, ← q) refl
column_seen (b ∷ x) done s i l j y e = by_step (step s b) (label_in s) e (λ t h. column_seen x done t (i + 1) l j y h)
  where
    by_step : (o : Option Spot) (k : Option (List ℕ)) → label.or_stop (λ t. seen_from t (i + 1) x) (seen_at i (b ∷ x) k) o ≡ got l j y
        → ((t : Spot) → seen_from t (i + 1) x ≡ got l j y → columns_from done t (i + 1) x ≡ after_column done l j y)
        → or_stop (λ t. columns_from done t (i + 1) x) (after_label done (λ next. columns_from next start (i + 1) x) i b x k) o ≡ after_column done l j y
    by_step (Some t) k h more = more t h
    by_step None None h more = cc h
    by_step None (Some k) h more =
        let p : k ≡ l = cc h in
        let q : i ≡ j = cc h in
        let r : b ∷ x ≡ y = cc h in
        rw (← r, ← p, ← q) refl

-- where no label is seen there are no columns
pub no_column_seen : (x : List ℕ) (done : List (List ℕ)) (s : Spot) (i : ℕ) → ((l : List ℕ) (j : ℕ) (y : List ℕ) → seen_from s i x ≡ got l j y → ⊥) → columns_from done s i x ≡ None
no_column_seen [] done s i never = at_end (label_in s) never
  where
    at_end : (o : Option (List ℕ)) → ((l : List ℕ) (j : ℕ) (y : List ℕ) → label.seen_at_end i o ≡ got l j y → ⊥) → option_map (λ k. ended (with_last done k) i []) o ≡ None
    at_end None h = refl
    at_end (Some k) h = absurd (h k i [] refl)
no_column_seen (b ∷ x) done s i never = by_step (step s b) (label_in s) never (λ t h. no_column_seen x done t (i + 1) h)
  where
    by_step : (o : Option Spot) (k : Option (List ℕ)) → ((l : List ℕ) (j : ℕ) (y : List ℕ) → label.or_stop (λ t. seen_from t (i + 1) x) (seen_at i (b ∷ x) k) o ≡ got l j y → ⊥)
        → ((t : Spot) → ((l : List ℕ) (j : ℕ) (y : List ℕ) → seen_from t (i + 1) x ≡ got l j y → ⊥) → columns_from done t (i + 1) x ≡ None)
        → or_stop (λ t. columns_from done t (i + 1) x) (after_label done (λ next. columns_from next start (i + 1) x) i b x k) o ≡ None
    by_step (Some t) k h more = more t h
    by_step None None h more = refl
    by_step None (Some k) h more = absurd (h k i (b ∷ x) refl)

-- nothing that is read is no label that is seen
pub unread : (line : List ℕ) (seen : label.Seen) (read : LabelRead) → seen ≡ seen_of line read → ((l : List ℕ) (end : ℕ) → read ≡ Got l end → ⊥)
    → (l : List ℕ) (j : ℕ) (y : List ℕ) → seen ≡ got l j y → ⊥
unread line seen (Got l end) e never m j y h = never l end refl
unread line seen (Unexpected at) e never m j y h = cc (sym e ∙ h)
unread line seen Ends e never m j y h = cc (sym e ∙ h)

-- a text whose first byte is a comma begins with a comma
pub comma_first : (x : List ℕ) → IsTrue (get_or x 0 0 == 44) → has_comma x ≡ true
comma_first [] h = cc h
comma_first (b ∷ x) h = h

-- a comma at a place is a byte of the text, below 128
pub comma_inside : (x : List ℕ) (at : ℕ) → has_comma (drop at x) ≡ true → (at < length x) × (get_or x at 0 < 128)
comma_inside [] zero h = cc h
comma_inside [] (suc at) h = cc h
comma_inside (b ∷ x) zero h = (omega arith, grind (arith, nat_tests))
comma_inside (b ∷ x) (suc at) h = let more = comma_inside x at h in (omega (arith, more.0), more.1)
