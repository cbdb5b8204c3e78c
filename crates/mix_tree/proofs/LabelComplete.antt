-- What spells a label is read as that label.
use Rattle.std.proofs.Common.{◌≡◌, inl, inr, ◌∙◌, ◌==◌, ℕ, Bool, true, false, cond, IsTrue, List, [], ◌∷◌, ◌++◌, Option, Some, None, refl, sym, ap, subst, append_assoc, option_and_then}
use Rattle.std.specs.List.{list_all}
use Rattle.mix_base.proofs.Runs.{run_then, run_byte}
use Rattle.mix_base.proofs.Lists.{append_nil}
use Rattle.mix_base.proofs.Choices.{and_parts, some_is, none_some}
use Rattle.mix_tree.specs.Spelling.{is_bare, is_bare_label}
use Rattle.mix_tree.specs.LabelGrammar.{Piece, plain, escape, is_plain, is_escape, is_piece, ArePieces, inside_quotes, escaped_byte, meaning, SpellsLabel}
use Rattle.mix_tree.specs.LabelMachine.{Spot, start, in_bare, in_quotes, in_escape, after_quote, step, run, label_in}

-- a run inside a bare label goes on over bare characters and keeps them
pub bare_goes_on : (l x : List ℕ) → IsTrue (list_all is_bare x) → run (in_bare l) x ≡ Some (in_bare (l ++ x))
bare_goes_on l [] h = ap (λ r. Some (in_bare r)) (sym (append_nil l))
bare_goes_on l (b ∷ x) h =
    let parts = and_parts (is_bare b) (list_all is_bare x) h in
    rw parts.0 (bare_goes_on (l ++ b ∷ []) x parts.1 ∙ ap (λ r. Some (in_bare r)) (append_assoc l (b ∷ []) x))

-- a bare label is read as itself
reads_bare : (l : List ℕ) → IsTrue (is_bare_label l) → run start l ≡ Some (in_bare l)
reads_bare [] h = cc
reads_bare (b ∷ l) h =
    let parts = and_parts (is_bare b) (list_all is_bare l) h in
    rw parts.0 (bare_goes_on (b ∷ []) l parts.1)

-- a byte that stands for itself between quotes is read as itself
pub plain_step : (b : ℕ) (l : List ℕ) → IsTrue (is_plain b) → step (in_quotes l) b ≡ Some (in_quotes (l ++ b ∷ []))
plain_step b l h = by_cases (b == 34) (b == 92) _ _ _ h
  where
    by_cases : (c d : Bool) (x y z : Option Spot) → IsTrue (cond c false (cond d false true)) → cond c x (cond d y z) ≡ z
    by_cases true d x y z h = cc
    by_cases false true x y z h = cc
    by_cases false false x y z h = refl

-- an escape's second byte is read as the byte that the escape means
pub escape_step : (b : ℕ) (l : List ℕ) → IsTrue (is_escape b) → step (in_escape l) b ≡ Some (in_quotes (l ++ escaped_byte b ∷ []))
escape_step b l h = rw h refl

-- pieces between quotes are read as what they mean
quotes_go_on : (l : List ℕ) (ps : List Piece) → ArePieces ps → run (in_quotes l) (inside_quotes ps) ≡ Some (in_quotes (l ++ meaning ps))
quotes_go_on l [] h = ap (λ r. Some (in_quotes r)) (sym (append_nil l))
quotes_go_on l (plain b ∷ ps) h =
    let parts = and_parts (is_plain b) (list_all is_piece ps) h in
    run_byte step b (inside_quotes ps) (in_quotes l) (in_quotes (l ++ b ∷ [])) (plain_step b l parts.0)
    ∙ quotes_go_on (l ++ b ∷ []) ps parts.1 ∙ ap (λ r. Some (in_quotes r)) (append_assoc l (b ∷ []) (meaning ps))
quotes_go_on l (escape b ∷ ps) h =
    let parts = and_parts (is_escape b) (list_all is_piece ps) h in
    run_byte step b (inside_quotes ps) (in_escape l) (in_quotes (l ++ escaped_byte b ∷ [])) (escape_step b l parts.0)
    ∙ quotes_go_on (l ++ escaped_byte b ∷ []) ps parts.1 ∙ ap (λ r. Some (in_quotes r)) (append_assoc l (escaped_byte b ∷ []) (meaning ps))

-- the spot that a spelling leads to
abbrev pub ReadsAs : List ℕ → List ℕ → Type 0
ReadsAs x l = (s : Spot) × (run start x ≡ Some s) × (label_in s ≡ Some l)

-- each spelling is read as the label that it spells
pub spelled_reads : (x l : List ℕ) → SpellsLabel x l → ReadsAs x l
spelled_reads x l (inl (h, e)) = (in_bare x, reads_bare x h, ap Some e)
spelled_reads x l (inr (ps, are, e, m)) = (
  after_quote (meaning ps),
  ap (run start) e ∙ run_then step (inside_quotes ps) (34 ∷ []) (in_quotes []) (in_quotes (meaning ps)) (quotes_go_on [] ps are),
  ap Some m,
)

-- a spot at which a label may end
abbrev pub MayEnd : Spot → Type 0
MayEnd s = (l : List ℕ) × (label_in s ≡ Some l)

-- what may end stays so while it goes on
step_may_end : (s t : Spot) (b : ℕ) (l : List ℕ) → label_in s ≡ Some l → step s b ≡ Some t → MayEnd t
step_may_end start t b l e h = none_some l e
step_may_end (in_bare k) t b l e h = by_case (is_bare b) h
  where
    by_case : (c : Bool) → cond c (Some (in_bare (k ++ b ∷ []))) None ≡ Some t → MayEnd t
    by_case true f = (k ++ b ∷ [], ap label_in (sym (some_is _ _ f)))
    by_case false f = none_some t f
step_may_end (in_quotes k) t b l e h = none_some l e
step_may_end (in_escape k) t b l e h = none_some l e
step_may_end (after_quote k) t b l e h = none_some t h

-- what may end stays so after a first byte
more_may_end : (x : List ℕ) (t : Spot) (o : Option Spot) → ((u : Spot) → o ≡ Some u → MayEnd u) → ((u : Spot) → MayEnd u → run u x ≡ Some t → MayEnd t)
    → option_and_then (λ u. run u x) o ≡ Some t → MayEnd t
more_may_end x t None h k e = none_some t e
more_may_end x t (Some u) h k e = k u (h u refl) e

-- what may end stays so over a text
pub run_may_end : (x : List ℕ) (s t : Spot) → MayEnd s → run s x ≡ Some t → MayEnd t
run_may_end [] s t h e = subst MayEnd (some_is s t e) h
run_may_end (b ∷ x) s t (l, f) e = more_may_end x t (step s b) (λ u h. step_may_end s u b l f h) (λ u h k. run_may_end x u t h k) e
