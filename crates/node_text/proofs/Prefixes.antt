-- What a run has read goes on to a text of the grammar; where it stops, no text goes on.
use Rattle.std.proofs.Common.{◌≡◌, ◌∙◌, ◌<◌, ◌+◌, ℕ, List, [], ◌∷◌, ◌++◌, Option, Some, None, option_and_then, refl, sym, ap, subst, length, take, slice_index}
use Rattle.std.specs.Str.{IsUtf8}
use Rattle.mix_base.specs.Reading.{IsPrefix, IsUnexpected, IsCut}
use Rattle.mix_base.proofs.Runs.{run_append, run_then, run_one, take_next}
use Rattle.mix_base.proofs.Choices.{Gives, none_some}
use Rattle.node_text.specs.Node.{NodeValue, node}
use Rattle.node_text.specs.Grammar.{Spells}
use Rattle.node_text.specs.Machine.{Part, piece, tuple, inside, State, root, closed, at, with_level, with_step, with_place, step, run, whole, first, read_of}
use Rattle.node_text.proofs.Sound.{read_spells, Ran, run_has}
use Rattle.node_text.proofs.Complete.{spells_read}

-- bytes lead from the state to a whole identifier
pub record GoesOn (s : State) : Type 0 where
  pub bytes : List ℕ
  pub value : NodeValue
  pub read : option_and_then whole (run s bytes) ≡ Some value

-- after a number a text of the grammar can end or be ended
number_on : (part : Part) (n : ℕ) → GoesOn (at part (Some n))
number_on (piece ls) n = record { bytes = []; value = node (with_level ls n []) []; read = refl }
number_on (tuple ls k ps steps) n = record { bytes = 41 ∷ []; value = node (with_level ls k (with_place ps (with_step steps n))) []; read = refl }
number_on (inside ls steps) n = record { bytes = []; value = node ls (with_step steps n); read = refl }

-- each state goes on
pub state_on : (s : State) → GoesOn s
state_on root = record { bytes = []; value = node [] []; read = refl }
state_on (closed ls n ps) = record { bytes = []; value = node (with_level ls n ps) []; read = refl }
state_on (at part (Some n)) = number_on part n
state_on (at part None) = let on = number_on part 0 in record { bytes = 48 ∷ on.bytes; value = on.value; read = on.read }

-- what is read is spelled
read_is : (x : List ℕ) (n : NodeValue) → read_of x ≡ Some n → Spells x n
read_is x n e = subst (Gives (Spells x)) e (read_spells x)

-- what is read is UTF-8
ran_utf8 : (x : List ℕ) (o : Option State) (n : NodeValue) → Gives (Ran first x) o → option_and_then whole o ≡ Some n → IsUtf8 x
ran_utf8 x None n h e = none_some n e
ran_utf8 x (Some s) n h e = h.utf8

-- what a run has read is a prefix of a text of the grammar
pub run_prefix : (x : List ℕ) (s : State) → run first x ≡ Some s → IsPrefix Spells x
run_prefix x s e =
    let on = state_on s in
    let read : read_of (x ++ on.bytes) ≡ Some on.value = ap (option_and_then whole) (run_then step x on.bytes first s e) ∙ on.read in
    (on.bytes, on.value, ran_utf8 (x ++ on.bytes) (run first (x ++ on.bytes)) on.value (run_has (x ++ on.bytes) first (tt, tt)) read, read_is (x ++ on.bytes) on.value read)

-- where a run has stopped, no text goes on
pub stopped_prefix : (x : List ℕ) → run first x ≡ None → IsPrefix Spells x → ⊥
stopped_prefix x e (y, n, u, h) = none_some n (sym (ap (option_and_then whole) (run_append step x y first ∙ ap (option_and_then (λ s. run s y)) e)) ∙ spells_read (x ++ y) n h)

-- a run over one byte more
pub run_more : (x : List ℕ) (i : ℕ) (s : State) (o : Option State) → i < length x → run first (take i x) ≡ Some s → step s (slice_index x i) ≡ o → run first (take (i + 1) x) ≡ o
run_more x i s o h e f = ap (run first) (take_next x i h) ∙ run_then step (take i x) (slice_index x i ∷ []) first s e ∙ run_one step (step s (slice_index x i)) ∙ f

-- where the machine stops, the byte is unexpected
pub stops_at : (x : List ℕ) (i : ℕ) (s : State) → i < length x → run first (take i x) ≡ Some s → step s (slice_index x i) ≡ None → IsUnexpected Spells x i
stops_at x i s h e f = record { inside = h; prefix = run_prefix (take i x) s e; wrong = stopped_prefix (take (i + 1) x) (run_more x i s None h e f) }

-- where it may not end, the text is cut
pub cut_at : (x : List ℕ) (s : State) → run first x ≡ Some s → whole s ≡ None → IsCut Spells x
cut_at x s e f = record { prefix = run_prefix x s e; none = λ n h. none_some n (sym (ap (option_and_then whole) e ∙ f) ∙ spells_read x n h) }

-- where it may end, the text is spelled
pub whole_at : (x : List ℕ) (s : State) (n : NodeValue) → run first x ≡ Some s → whole s ≡ Some n → Spells x n
whole_at x s n e f = read_is x n (ap (option_and_then whole) e ∙ f)

-- what is spelled is UTF-8
pub spelled_utf8 : (x : List ℕ) (n : NodeValue) → Spells x n → IsUtf8 x
spelled_utf8 x n h = ran_utf8 x (run first x) n (run_has x first (tt, tt)) (spells_read x n h)
