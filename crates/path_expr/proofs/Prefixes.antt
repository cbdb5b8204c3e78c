-- What a run has read goes on to a text of the grammar; where it stops, no text goes on.
use Rattle.std.proofs.Common.{◌≡◌, ◌<◌, ◌∙◌, ℕ, List, [], ◌∷◌, ◌++◌, Some, None, refl, sym, ap, arith, option_and_then}
use Rattle.std.specs.Str.{IsUtf8}
use Rattle.std.proofs.lemmas.Str.{IsUtf8-nil, IsUtf8-append}
use Rattle.mix_base.proofs.Runs.{run_append, run_then}
use Rattle.mix_base.specs.Reading.{IsPrefix}
use Rattle.mix_base.proofs.Utf8.{one_utf8}
use Rattle.mix_base.proofs.Choices.{none_some}
use Rattle.mix_tree.specs.LabelGrammar.{Piece, escape}
use Rattle.path_expr.specs.Grammar.{Spelled, word, quote, group, Writes}
use Rattle.path_expr.specs.Results.{Spells}
use Rattle.path_expr.specs.Values.{value_of}
use Rattle.path_expr.specs.Machine.{Frame, Mode, start, naming, quoting, escaping, past_atom, past_repeat, State, at, path_in, step, run, repeat_in, whole, first}
use Rattle.path_expr.proofs.Sound.{read_writes}
use Rattle.path_expr.proofs.Complete.{ends_by, whole_at, writes_read}

-- ASCII bytes lead from the state to a whole path
pub record GoesOn (s : State) : Type 0 where
  pub bytes : List ℕ
  pub utf8 : IsUtf8 bytes
  pub spelled : Spelled
  pub read : option_and_then whole (run s bytes) ≡ Some spelled

-- a state goes on where the next one does
byte_on : (b : ℕ) (s t : State) → b < 128 → step s b ≡ Some t → GoesOn t → GoesOn s
byte_on b s t low e h = record {
  bytes = b ∷ h.bytes;
  utf8 = IsUtf8-append (b ∷ []) h.bytes (one_utf8 b low) h.utf8;
  spelled = h.spelled;
  read = ap (λ u. option_and_then whole (option_and_then (λ v. run v h.bytes) u)) e ∙ h.read;
}

-- the open parentheses are closed one by one
member_on : (f : Frame) (o : List Frame) (m : Mode) (p : Spelled) → repeat_in m ≡ Some p → GoesOn (at f o m)
member_on f [] m p e = record { bytes = []; utf8 = IsUtf8-nil; spelled = path_in f p; read = whole_at f m p e }
member_on f (g ∷ o) m p e =
    let q : Spelled = group (path_in f p) in
    byte_on 41 (at f (g ∷ o) m) (at g o (past_atom q)) (omega arith) (ends_by 41 f (g ∷ o) m p refl refl e) (member_on g o (past_atom q) q refl)

-- a quoted label goes on with a quote
quoting_on : (f : Frame) (o : List Frame) (ps : List Piece) → GoesOn (at f o (quoting ps))
quoting_on f o ps = byte_on 34 (at f o (quoting ps)) (at f o (past_atom (quote ps))) (omega arith) refl (member_on f o (past_atom (quote ps)) (quote ps) refl)

-- from each state some bytes lead to a whole path
pub mode_on : (f : Frame) (o : List Frame) (m : Mode) → GoesOn (at f o m)
mode_on f o start = byte_on 97 (at f o start) (at f o (naming (97 ∷ []))) (omega arith) refl (member_on f o (naming (97 ∷ [])) (word (97 ∷ [])) refl)
mode_on f o (naming l) = member_on f o (naming l) (word l) refl
mode_on f o (quoting ps) = quoting_on f o ps
mode_on f o (escaping ps) = byte_on 110 (at f o (escaping ps)) (at f o (quoting (ps ++ escape 110 ∷ []))) (omega arith) refl (quoting_on f o (ps ++ escape 110 ∷ []))
mode_on f o (past_atom p) = member_on f o (past_atom p) p refl
mode_on f o (past_repeat p) = member_on f o (past_repeat p) p refl

-- what a run has read is a prefix
pub run_prefix : (x : List ℕ) (s : State) → IsUtf8 x → run first x ≡ Some s → IsPrefix Spells x
run_prefix x s u e =
    let on = mode_on s.here s.outer s.mode in
    let writes = read_writes (x ++ on.bytes) on.spelled (ap (option_and_then whole) (run_then step x on.bytes first s e) ∙ on.read) in
    (on.bytes, value_of on.spelled, IsUtf8-append x on.bytes u on.utf8, (on.spelled, writes, refl))

-- where a run has stopped, no text goes on
pub stopped_writes : (x y : List ℕ) (p : Spelled) → run first x ≡ None → Writes (x ++ y) p → ⊥
stopped_writes x y p e h = none_some p (sym (ap (option_and_then whole) (run_append step x y first ∙ ap (option_and_then (λ u. run u y)) e)) ∙ writes_read (x ++ y) p h)

-- a text where a run has stopped is no prefix of a path's text
pub stopped_prefix : (x : List ℕ) → run first x ≡ None → IsPrefix Spells x → ⊥
stopped_prefix x e (y, v, u, (p, h, k)) = stopped_writes x y p e h
