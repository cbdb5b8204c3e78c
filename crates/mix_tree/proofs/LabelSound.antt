-- What is read as a label is spelled so.
use Rattle.std.proofs.Common.{◌≡◌, inl, inr, ◌∙◌, ◌==◌, ℕ, true, false, IsTrue, List, [], ◌∷◌, ◌++◌, Option, Some, None, refl, sym, ap, subst, append_assoc, option_and_then}
use Rattle.mix_base.proofs.Lists.{append_nil}
use Rattle.mix_base.proofs.Choices.{and_both, list_all-push, number_is, some_is, none_some, Gives, either}
use Rattle.mix_tree.specs.Spelling.{is_bare, is_bare_label}
use Rattle.mix_tree.specs.LabelGrammar.{Piece, plain, escape, is_plain, is_escape, is_piece, ArePieces, inside_quotes, escaped_byte, meaning, SpellsLabel}
use Rattle.mix_tree.specs.LabelMachine.{Spot, start, in_bare, in_quotes, in_escape, after_quote, step, run, label_in}

-- the text of pieces that mean a label, after the opening quote, with more after them
abbrev pub WritesPieces : List ℕ → List ℕ → List ℕ → Type 0
WritesPieces x l y = (ps : List Piece) × ArePieces ps × (x ≡ 34 ∷ inside_quotes ps ++ y) × (meaning ps ≡ l)

-- the text is what a spot has read of a spelling
abbrev pub Writes : List ℕ → Spot → Type 0
Writes x start = x ≡ []
Writes x (in_bare l) = IsTrue (is_bare_label l) × (x ≡ l)
Writes x (in_quotes l) = WritesPieces x l []
Writes x (in_escape l) = WritesPieces x l (92 ∷ [])
Writes x (after_quote l) = WritesPieces x l (34 ∷ [])

-- pieces with one more are written as they were, with that one's text after them
pub inside-push : (ps : List Piece) (q : Piece) → inside_quotes (ps ++ q ∷ []) ≡ inside_quotes ps ++ inside_quotes (q ∷ [])
inside-push [] q = refl
inside-push (plain b ∷ ps) q = ap (λ r. b ∷ r) (inside-push ps q)
inside-push (escape b ∷ ps) q = ap (λ r. 92 ∷ b ∷ r) (inside-push ps q)

-- pieces with one more mean what they mean, with the meaning of that one after it
pub meaning-push : (ps : List Piece) (q : Piece) → meaning (ps ++ q ∷ []) ≡ meaning ps ++ meaning (q ∷ [])
meaning-push [] q = refl
meaning-push (plain b ∷ ps) q = ap (λ r. b ∷ r) (meaning-push ps q)
meaning-push (escape b ∷ ps) q = ap (λ r. escaped_byte b ∷ r) (meaning-push ps q)

-- a byte that is no quote and no backslash stands for itself
plain_of : (b : ℕ) → (b == 34) ≡ false → (b == 92) ≡ false → is_plain b ≡ true
plain_of b h k = rw (h, k) refl

-- a bare label with one bare character more is a bare label
bare-push : (l : List ℕ) (b : ℕ) → IsTrue (is_bare_label l) → IsTrue (is_bare b) → IsTrue (is_bare_label (l ++ b ∷ []))
bare-push [] b h k = cc
bare-push (c ∷ l) b h k = list_all-push is_bare (c ∷ l) b h k

-- a text of a quote and pieces, with one byte more, is the quote, the pieces and that byte
text_more : (x : List ℕ) (ps : List Piece) (b c : ℕ) → c ≡ b → x ≡ 34 ∷ inside_quotes ps ++ [] → x ++ b ∷ [] ≡ 34 ∷ inside_quotes ps ++ c ∷ []
text_more x ps b c same e = ap (λ r. r ++ b ∷ []) e ∙ ap (λ r. 34 ∷ r ++ b ∷ []) (append_nil (inside_quotes ps)) ∙ ap (λ d. 34 ∷ inside_quotes ps ++ d ∷ []) (sym same)

-- a byte that stands for itself, after pieces, makes one piece more, which means that byte
plain_more : (x l : List ℕ) (b : ℕ) → IsTrue (is_plain b) → WritesPieces x l [] → WritesPieces (x ++ b ∷ []) (l ++ b ∷ []) []
plain_more x l b h (ps, are, e, m) = (
  ps ++ plain b ∷ [],
  list_all-push is_piece ps (plain b) are h,
  text_more x ps b b refl e ∙ ap (λ r. 34 ∷ r) (sym (inside-push ps (plain b)) ∙ sym (append_nil _)),
  meaning-push ps (plain b) ∙ ap (λ r. r ++ b ∷ []) m,
)

-- the second byte of an escape after pieces makes one piece more, which means the escaped byte
escape_more : (x l : List ℕ) (b : ℕ) → IsTrue (is_escape b) → WritesPieces x l (92 ∷ []) → WritesPieces (x ++ b ∷ []) (l ++ escaped_byte b ∷ []) []
escape_more x l b h (ps, are, e, m) = (
  ps ++ escape b ∷ [],
  list_all-push is_piece ps (escape b) are h,
  ap (λ r. r ++ b ∷ []) e ∙ ap (λ r. 34 ∷ r) (append_assoc (inside_quotes ps) (92 ∷ []) (b ∷ []) ∙ sym (inside-push ps (escape b)) ∙ sym (append_nil _)),
  meaning-push ps (escape b) ∙ ap (λ r. r ++ escaped_byte b ∷ []) m,
)

-- a byte after pieces that makes no piece yet, as a quote or a backslash, is what is written after them
byte_more : (x l : List ℕ) (b c : ℕ) → c ≡ b → WritesPieces x l [] → WritesPieces (x ++ b ∷ []) l (c ∷ [])
byte_more x l b c same (ps, are, e, m) = (ps, are, text_more x ps b c same e, m)

-- the first byte is the text that its spot has read
begin_writes : (x : List ℕ) (b : ℕ) → x ≡ [] → Gives (Writes (x ++ b ∷ [])) (step start b)
begin_writes x b e =
    either _ (is_bare b) _ _ (λ h. (and_both (is_bare b) true h refl, ap (λ r. r ++ b ∷ []) e))
    (λ n. either _ (b == 34) _ _ (λ h. ([], refl, ap (λ r. r ++ b ∷ []) e ∙ ap (λ c. c ∷ []) (sym (number_is b 34 h)), refl)) (λ k. tt))

-- a text with one byte more is what the spot after that byte has read
pub step_writes : (x : List ℕ) (s : Spot) (b : ℕ) → Writes x s → Gives (Writes (x ++ b ∷ [])) (step s b)
step_writes x start b h = begin_writes x b h
step_writes x (in_bare l) b h = either _ (is_bare b) _ _ (λ k. (bare-push l b h.0 k, ap (λ r. r ++ b ∷ []) h.1)) (λ n. tt)
step_writes x (in_quotes l) b h =
    either _ (b == 34) _ _ (λ e. byte_more x l b 34 (number_is b 34 e) h)
    (λ n. either _ (b == 92) _ _ (λ e. byte_more x l b 92 (number_is b 92 e) h) (λ k. plain_more x l b (plain_of b n k) h))
step_writes x (in_escape l) b h = either _ (is_escape b) _ _ (λ k. escape_more x l b k h) (λ n. tt)
step_writes x (after_quote l) b h = tt

-- the text of a run after a first byte
after_step : (x y : List ℕ) (b : ℕ) (s : Option Spot) → Gives (Writes (x ++ b ∷ [])) s → ((t : Spot) → Writes (x ++ b ∷ []) t → Gives (Writes ((x ++ b ∷ []) ++ y)) (run t y))
    → Gives (Writes (x ++ b ∷ y)) (option_and_then (λ t. run t y) s)
after_step x y b None h k = tt
after_step x y b (Some t) h k = subst (λ z. Gives (Writes z) (run t y)) (append_assoc x (b ∷ []) y) (k t h)

-- a text with more after it is what the last spot of the run over it has read
pub run_writes : (y x : List ℕ) (s : Spot) → Writes x s → Gives (Writes (x ++ y)) (run s y)
run_writes [] x s h = subst (λ z. Writes z s) (sym (append_nil x)) h
run_writes (b ∷ y) x s h = after_step x y b (step s b) (step_writes x s b h) (λ t k. run_writes y (x ++ b ∷ []) t k)

-- a label that has ended is spelled
pub label_spelled : (x : List ℕ) (s : Spot) (l : List ℕ) → Writes x s → label_in s ≡ Some l → SpellsLabel x l
label_spelled x start l h e = none_some l e
label_spelled x (in_bare k) l h e = inl (subst (λ r. IsTrue (is_bare_label r)) (sym h.1) h.0, h.1 ∙ some_is k l e)
label_spelled x (in_quotes k) l h e = none_some l e
label_spelled x (in_escape k) l h e = none_some l e
label_spelled x (after_quote k) l (ps, are, e, m) i = inr (ps, are, e, m ∙ some_is k l i)
