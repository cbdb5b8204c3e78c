-- The fields of a record, one after the other.
use Rattle.std.proofs.Common.{◌≡◌, ◌≢◌, ◌≤◌, ◌<◌, ◌+◌, ◌∙◌, ℕ, zero, suc, List, [], ◌∷◌, ◌++◌, take, length, get_or, Some, None, refl, sym, ap, arith, add-one}
use Rattle.std.specs.Prelude.{slice_get, IsUtf8}
use Rattle.std.specs.Prelude.{Bool, true, false, not}
use Rattle.std.specs.List.{All}
use Rattle.std.specs.Str.{bytes_eq}
use Rattle.std.proofs.lemmas.Slice.Eq.{bytes_eq-Decides}
use Rattle.std.proofs.lemmas.List.{take_all}
use Rattle.std.proofs.lemmas.Option.{slice_get-get_or, slice_get_past, slice_get_read}
use Rattle.csv.specs.Records.{AllText, field_at}

-- the field of a record at an index is what stands there in the list of its fields
pub field_get : (xs : List (List ℕ)) (i : ℕ) → field_at xs i ≡ slice_get xs i
unfolding field_at
field_get [] i = refl
field_get (x ∷ xs) zero = refl
field_get (x ∷ xs) (suc i) = field_get xs i

-- the fields up to and with one are those before it and that one
pub take_field : (xs : List (List ℕ)) (i : ℕ) (f : List ℕ) → field_at xs i ≡ Some f → take (suc i) xs ≡ take i xs ++ f ∷ []
unfolding field_at
take_field [] i f h = cc h
take_field (x ∷ xs) zero f h = cc h
take_field (x ∷ xs) (suc i) f h = ap (λ (t : List (List ℕ)). x ∷ t) (take_field xs i f h)

-- fields that are text, with one more that is, are text
pub text_more : (xs : List (List ℕ)) (f : List ℕ) → AllText xs → IsUtf8 f → AllText (xs ++ f ∷ [])
unfolding AllText
text_more [] f h u = (u, tt)
text_more (x ∷ xs) f h u = (h.0, text_more xs f h.1 u)

-- a field at an index is text where all fields are
pub text_at : (xs : List (List ℕ)) (i : ℕ) (f : List ℕ) → field_at xs i ≡ Some f → AllText xs → IsUtf8 f
unfolding field_at AllText
text_at [] i f h t = cc h
text_at (x ∷ xs) zero f h t =
    let e : x ≡ f = cc h in
    rw e at t.0
text_at (x ∷ xs) (suc i) f h t = text_at xs i f h t.1

-- where a record has no field at an index, it has no more fields than that
pub no_field : (xs : List (List ℕ)) (i : ℕ) → field_at xs i ≡ None → length xs ≤ i
unfolding field_at
no_field [] i h = omega arith
no_field (x ∷ xs) zero h = cc h
no_field (x ∷ xs) (suc i) h = let more = no_field xs i h in omega arith

-- where a record has ended at an index and columns haven't, they differ there
pub differs_past : (xs ys : List (List ℕ)) (i : ℕ) → field_at xs i ≡ None → i < length ys → slice_get xs i ≢ slice_get ys i
differs_past xs ys i h l = λ e.
    let a : slice_get xs i ≡ None = sym (field_get xs i) ∙ h in
    let b = slice_get-get_or ys i [] l in
    cc

-- where a field and a column at an index are not the same, the record and the columns differ there
pub differs_at : (xs ys : List (List ℕ)) (i : ℕ) (f g : List ℕ) → Some f ≡ field_at xs i → slice_get ys i ≡ Some g → f ≢ g → slice_get xs i ≢ slice_get ys i
differs_at xs ys i f g h k n = λ e.
    let a : slice_get xs i ≡ Some f = sym (field_get xs i) ∙ sym h in
    let b : f ≡ g = cc in
    n b

-- where columns have ended at an index and a record hasn't, they differ there
pub differs_end : (xs ys : List (List ℕ)) (i : ℕ) → length ys ≤ i → i < length xs → slice_get xs i ≢ slice_get ys i
differs_end xs ys i l m = λ e.
    let a = slice_get_past ys i l in
    let b = slice_get-get_or xs i [] m in
    cc

-- a column that was read at an index is the column there
pub column_at : (xs : List (List ℕ)) (i : ℕ) (s : List ℕ) → i < length xs → s ≡ get_or xs i s → slice_get xs i ≡ Some s
column_at xs i s l e = slice_get_read xs (length xs) i s refl l e

-- a record and columns that are the same before an index, and at it, are the same up to the next one
pub same_more : (xs ys : List (List ℕ)) (i : ℕ) (f g : List ℕ) → take i xs ≡ take i ys → Some f ≡ field_at xs i → slice_get ys i ≡ Some g → f ≡ g → take (i + 1) xs ≡ take (i + 1) ys
same_more xs ys i f g s h k e =
    let a : field_at ys i ≡ Some f = field_get ys i ∙ k ∙ ap Some (sym e) in
    rw (add-one, take_field xs i f (sym h), take_field ys i f a, s) refl

-- lists of one length are the same where their prefixes of that length are
pub same_whole : (xs ys : List (List ℕ)) (n : ℕ) → take n xs ≡ take n ys → length xs ≡ n → length ys ≡ n → xs ≡ ys
same_whole xs ys n s a b =
    let p = take_all n xs (omega arith) in
    let q = take_all n ys (omega arith) in
    cc

-- bytes that the test finds different are not the same
pub unequal : (f g : List ℕ) (r : Bool) → r ≡ not (bytes_eq f g) → r ≡ true → f ≢ g
unequal f g r e t = λ h.
    let d = (bytes_eq-Decides f g).1 h in
    let n : not (bytes_eq f g) ≡ true = sym e ∙ t in
    let m : not true ≡ true = rw d at n in
    cc

-- bytes that the test doesn't find different are the same
pub equal : (f g : List ℕ) (r : Bool) → r ≡ not (bytes_eq f g) → r ≡ false → f ≡ g
equal f g r e t = (bytes_eq-Decides f g).0 (yes (bytes_eq f g) (sym e ∙ t))
  where
    yes : (b : Bool) → not b ≡ false → b ≡ true
    yes true h = refl
    yes false h = cc h

-- where a record has a field at an index, it has more fields than that
pub field_within : (xs : List (List ℕ)) (i : ℕ) (f : List ℕ) → Some f ≡ field_at xs i → i + 1 ≤ length xs
unfolding field_at
field_within [] i f h = cc h
field_within (x ∷ xs) zero f h = omega arith
field_within (x ∷ xs) (suc i) f h = let more = field_within xs i f h in omega arith

-- what holds of one thing holds of all of the list of it alone
pub one : {X : Type 0} (P : X → Type 0) (x : X) → P x → All P (x ∷ [])
one P x h zero d l = h
one P x h (suc k) d l = absurd (omega arith)
