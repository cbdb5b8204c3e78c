-- A scan goes as the machine does.
use Rattle.std.proofs.Common.{◌≡◌, ◌<◌, ◌≤◌, ◌+◌, ◌∙◌, ◌==◌, ◌&&◌, ℕ, zero, suc, Bool, true, false, cond, List, [], ◌∷◌, ◌++◌, Option, Some, None, refl, sym, ap, length, option_and_then, option_map, is_some, arith, take, drop, slice_index, nat_lt, subst}
use Rattle.std.proofs.lemmas.Bool.Decides.{nat_tests}
use Rattle.std.proofs.lemmas.List.{take-append-drop}
use Rattle.std.proofs.lemmas.Str.{IsUtf8-nil}
use Rattle.mix_base.proofs.Utf8.{utf8_after}
use Rattle.mix_base.proofs.Choices.{Gives, none_some, some_is}
use Rattle.path_expr.proofs.Sound.{read_writes}
use Rattle.path_expr.proofs.Complete.{writes_read}
use Rattle.path_expr.proofs.Prefixes.{run_prefix, stopped_prefix}
use Rattle.mix_tree.specs.LabelGrammar.{is_escape}
use Rattle.mix_tree.specs.Names.{is_name_byte}
use Rattle.path_expr.specs.Grammar.{Spelled, word, is_mark, Writes}
use Rattle.path_expr.specs.Results.{Spells}
use Rattle.mix_base.specs.Runs.{LeadsTo}
use Rattle.mix_base.specs.Reading.{IsPrefix, IsUnexpected, IsCut}
use Rattle.std.specs.Str.{IsUtf8}
use Rattle.mix_base.proofs.Runs.{run_append, take_next, kept_none, scan_after, scan_prefix as scan_prefix_by}
use Rattle.path_expr.specs.Machine.{Frame, Mode, start, naming, quoting, escaping, past_atom, past_repeat, State, at, path_in, close, after_repeat, after_atom, step_in, step, run, whole, first, read_of}
use Rattle.path_expr.specs.Scanned.{shape, stage_of, shape_of, shape_close, shape_after, shape_atom, shape_in, shape_step, may_end, is_whole}
use Rattle.path_expr.specs.declared.scan.Scan.{Scan}
use Rattle.path_expr.specs.declared.scan.Stage.{Stage}
use Rattle.path_expr.specs.declared.scan.Stage.TheVariants.{Start, Naming, Quoting, Escaping, PastAtom, PastRepeat}

-- two choices by one boolean are scanned alike where their sides are
either : (b : Bool) (x y : Option State) (v w : Option Scan) → option_map shape_of x ≡ v → option_map shape_of y ≡ w → option_map shape_of (cond b x y) ≡ cond b v w
either true x y v w h k = h
either false x y v w h k = k

-- what a scan keeps after a closing parenthesis
close_shape : (o : List Frame) (p : Spelled) → option_map shape_of (close o p) ≡ shape_close (length o)
close_shape [] p = refl
close_shape (f ∷ o) p = refl

-- a scan inside the successor of n parentheses is inside n + 1 of them
one_more : (n : ℕ) → Some (shape (suc n) Start) ≡ Some (shape (n + 1) Start)
one_more n = let e : suc n ≡ n + 1 = omega arith in ap (λ m. Some (shape m Start)) e

-- what a scan keeps after a byte that ends a member
repeat_shape : (f : Frame) (o : List Frame) (p : Spelled) (b : ℕ) → option_map shape_of (after_repeat f o p b) ≡ shape_after (length o) b
repeat_shape f o p b = either (b == 46) _ _ _ _ refl (either (b == 124) _ _ _ _ refl (either (b == 41) _ _ _ _ (close_shape o (path_in f p)) refl))

-- what a scan keeps after a byte that marks an atom or ends it
atom_shape : (f : Frame) (o : List Frame) (p : Spelled) (b : ℕ) → option_map shape_of (after_atom f o p b) ≡ shape_atom (length o) b
atom_shape f o p b = either (is_mark b) _ _ _ _ refl (repeat_shape f o p b)

-- what a scan keeps after a step of the machine
pub step_shape : (f : Frame) (o : List Frame) (m : Mode) (b : ℕ) → option_map shape_of (step_in f o m b) ≡ shape_in (length o) (stage_of m) b
step_shape f o start b = either (is_name_byte b) _ _ _ _ refl (either (b == 34) _ _ _ _ refl (either (b == 40) _ _ _ _ (one_more (length o)) refl))
step_shape f o (naming l) b = either (is_name_byte b) _ _ _ _ refl (atom_shape f o (word l) b)
step_shape f o (quoting ps) b = either (b == 34) _ _ _ _ refl (either (b == 92) _ _ _ _ refl refl)
step_shape f o (escaping ps) b = either (is_escape b) _ _ _ _ refl refl
step_shape f o (past_atom p) b = atom_shape f o p b
step_shape f o (past_repeat p) b = repeat_shape f o p b

-- a scan that stands where the machine stands
abbrev pub ScansTo : List ℕ → Scan → Type 0
ScansTo = LeadsTo step shape_of first

-- a scan goes on as the machine does
alike : (s : State) (b : ℕ) → option_map shape_of (step s b) ≡ shape_step (shape_of s) b
alike s b = step_shape s.here s.outer s.mode b

-- what a scan keeps after one more byte of a text
pub scan_more : (x : List ℕ) (i : ℕ) (s : Scan) → i < length x → ScansTo (take i x) s → option_map shape_of (run first (take (i + 1) x)) ≡ shape_step s (slice_index x i)
scan_more x i s h e = scan_prefix_by step shape_of shape_step first x i s (λ t b r. alike t b) h e

-- a scan that goes on with the next byte of a text still stands where the machine does
pub scan_next : (x : List ℕ) (i : ℕ) (s t : Scan) → i < length x → ScansTo (take i x) s → shape_step s (slice_index x i) ≡ Some t → ScansTo (take (i + 1) x) t
scan_next x i s t h e n = scan_more x i s h e ∙ n

-- what a scan has passed is a prefix, from an option
scan_prefix_at : (x : List ℕ) (s : Scan) (o : Option State) → IsUtf8 x → run first x ≡ o → option_map shape_of o ≡ Some s → IsPrefix Spells x
scan_prefix_at x s None u r e = none_some s e
scan_prefix_at x s (Some t) u r e = run_prefix x t u r

-- what a scan has passed is a prefix
pub scan_prefix : (x : List ℕ) (s : Scan) → IsUtf8 x → ScansTo x s → IsPrefix Spells x
scan_prefix x s u e = scan_prefix_at x s (run first x) u refl e

-- a byte is none of the ASCII bytes of a path's text: of names, quotes, backslashes, parentheses, dots, bars, marks, escapes
pub record IsHigh (b : ℕ) : Type 0 where
  pub name : is_name_byte b ≡ false
  pub quote : (b == 34) ≡ false
  pub slash : (b == 92) ≡ false
  pub group : (b == 40) ≡ false
  pub close : (b == 41) ≡ false
  pub dot : (b == 46) ≡ false
  pub bar : (b == 124) ≡ false
  pub mark : is_mark b ≡ false
  pub escape : is_escape b ≡ false

-- a byte from 128 on is none of the ASCII bytes of a path's text
pub is_high : (b : ℕ) → 128 ≤ b → IsHigh b
is_high b h = record {
  name = grind (arith, nat_tests);
  quote = grind (arith, nat_tests);
  slash = grind (arith, nat_tests);
  group = grind (arith, nat_tests);
  close = grind (arith, nat_tests);
  dot = grind (arith, nat_tests);
  bar = grind (arith, nat_tests);
  mark = grind (arith, nat_tests);
  escape = grind (arith, nat_tests);
}

-- a byte that is not ASCII leads a scan inside quotes or nowhere
pub high_stage : (n b : ℕ) (p : Stage) → IsHigh b → Gives (λ t. t.stage ≡ Quoting) (shape_in n p b)
high_stage n b Start h = rw (h.name, h.quote, h.group) tt
high_stage n b Naming h = rw (h.name, h.mark, h.dot, h.bar, h.close) tt
high_stage n b Quoting h = rw (h.quote, h.slash) refl
high_stage n b Escaping h = rw h.escape tt
high_stage n b PastAtom h = rw (h.mark, h.dot, h.bar, h.close) tt
high_stage n b PastRepeat h = rw (h.dot, h.bar, h.close) tt

-- inside quotes each byte goes on
pub quoting_goes_on : (n b : ℕ) → shape_in n Quoting b ≡ None → ⊥
quoting_goes_on n b e = by_cases (b == 34) (b == 92) e
  where
    by_cases : (c d : Bool) → cond c (Some (shape n PastAtom)) (cond d (Some (shape n Escaping)) (Some (shape n Quoting))) ≡ None → ⊥
    by_cases true d e = cc
    by_cases false true e = cc
    by_cases false false e = cc

-- what stands after such a byte
stage_after : (o : Option State) (b : ℕ) (s : Scan) → IsHigh b → option_map shape_of (option_and_then (λ t. run t (b ∷ [])) o) ≡ Some s → s.stage ≡ Quoting
stage_after None b s h e = none_some s e
stage_after (Some t) b s h e = subst (Gives (λ u. u.stage ≡ Quoting)) (sym (scan_after step shape_of shape_step (Some t) (shape_of t) b (λ u r. alike u b) refl) ∙ e) (high_stage (length t.outer) b (stage_of t.mode) h)

-- a scan stops where a character begins
cut_after : (x y : List ℕ) (b : ℕ) (s : Scan) (c : ℕ) → IsUtf8 ((x ++ b ∷ []) ++ y) → ScansTo (x ++ b ∷ []) s → shape_step s c ≡ None → IsUtf8 (x ++ b ∷ [])
cut_after x y b s c u e n = by_case (nat_lt b 128) refl
  where
    by_case : (low : Bool) → nat_lt b 128 ≡ low → IsUtf8 (x ++ b ∷ [])
    by_case true k = (utf8_after x y b (grind (arith, nat_tests)) u).0
    by_case false k =
        let high : 128 ≤ b = grind (arith, nat_tests) in
        let stage = stage_after (run first x) b s (is_high b high) (ap (option_map shape_of) (sym (run_append step x (b ∷ []) first)) ∙ e) in
        absurd (quoting_goes_on s.depth c (ap (λ p. shape_in s.depth p c) (sym stage) ∙ n))

-- what a scan has passed where it stops is UTF-8
cut_utf8 : (x : List ℕ) (i : ℕ) (s : Scan) → IsUtf8 x → i < length x → ScansTo (take i x) s → shape_step s (slice_index x i) ≡ None → IsUtf8 (take i x)
cut_utf8 x zero s u h e n = IsUtf8-nil
cut_utf8 x (suc j) s u h e n =
    let more : suc j ≡ j + 1 = omega arith in
    let parts : take (suc j) x ≡ take j x ++ slice_index x j ∷ [] = ap (λ k. take k x) more ∙ take_next x j (omega arith) in
    let whole : (take j x ++ slice_index x j ∷ []) ++ drop (suc j) x ≡ x = ap (λ r. r ++ drop (suc j) x) (sym parts) ∙ take-append-drop (suc j) x in
    subst IsUtf8 (sym parts)
    (cut_after (take j x) (drop (suc j) x) (slice_index x j) s (slice_index x (suc j)) (subst IsUtf8 (sym whole) u) (subst (λ y. ScansTo y s) parts e) n)

-- where a scan stops, the byte is unexpected
pub scan_unexpected : (x : List ℕ) (i : ℕ) (s : Scan) → IsUtf8 x → i < length x → ScansTo (take i x) s → shape_step s (slice_index x i) ≡ None → IsUnexpected Spells x i
scan_unexpected x i s u h e n = record {
  inside = h;
  prefix = scan_prefix (take i x) s (cut_utf8 x i s u h e n) e;
  wrong =
      stopped_prefix (take (i + 1) x) (kept_none shape_of (run first (take (i + 1) x)) (scan_more x i s h e ∙ n));
}

-- a state ends where its scan may
pub whole_shape : (f : Frame) (o : List Frame) (m : Mode) → is_whole (shape_of (at f o m)) ≡ is_some (whole (at f o m))
whole_shape f [] start = refl
whole_shape f [] (naming l) = refl
whole_shape f [] (quoting ps) = refl
whole_shape f [] (escaping ps) = refl
whole_shape f [] (past_atom p) = refl
whole_shape f [] (past_repeat p) = refl
whole_shape f (g ∷ o) m = never (may_end (stage_of m)) (length o)
  where
    never : (b : Bool) (n : ℕ) → (b && suc n == 0) ≡ false
    never b n = grind (arith, nat_tests)

-- the text is written as what it is read as
found : (x : List ℕ) (o : Option Spelled) → read_of x ≡ o → is_some o ≡ true → (p : Spelled) × Writes x p
found x None r e = cc
found x (Some p) r e = (p, read_writes x p r)

-- a text that is not read is written as nothing
not_found : (x : List ℕ) (o : Option Spelled) → read_of x ≡ o → is_some o ≡ false → (p : Spelled) → Writes x p → ⊥
not_found x None r e p h = none_some p (sym r ∙ writes_read x p h)
not_found x (Some q) r e p h = cc

-- a text is read where its scan may end
is_whole_at : (x : List ℕ) (s : Scan) (o : Option State) → run first x ≡ o → option_map shape_of o ≡ Some s → is_some (read_of x) ≡ is_whole s
is_whole_at x s None r e = none_some s e
is_whole_at x s (Some t) r e = ap (λ u. is_some (option_and_then whole u)) r ∙ sym (whole_shape t.here t.outer t.mode) ∙ ap is_whole (some_is _ _ e)

-- where a scan may end, the text is written as a path
pub scan_whole : (x : List ℕ) (s : Scan) → ScansTo x s → is_whole s ≡ true → (p : Spelled) × Writes x p
scan_whole x s e w = found x (read_of x) refl (is_whole_at x s (run first x) refl e ∙ w)

-- where a scan may not end after a text, the text is a proper prefix of a path's text
pub scan_cut : (x : List ℕ) (s : Scan) → IsUtf8 x → ScansTo x s → is_whole s ≡ false → IsCut Spells x
scan_cut x s u e w = record { prefix = scan_prefix x s u e; none = λ v (p, h, k). not_found x (read_of x) refl (is_whole_at x s (run first x) refl e ∙ w) p h }
