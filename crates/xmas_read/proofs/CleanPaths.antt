-- The paths of a rule's text in its canonical form, and the UTF-8 of its parts.
use Rattle.std.proofs.Common.{◌≡◌, ◌∙◌, ◌<◌, ◌≤◌, ◌+◌, ℕ, Bool, true, false, cond, IsTrue, nat_lt, List, [], ◌∷◌, ◌++◌, Option, Some, None, Result, Ok, Err, refl, ap, sym, subst, arith, append_assoc}
use Rattle.std.proofs.lemmas.Bool.Decides.{nat_tests}
use Rattle.std.specs.Str.{IsUtf8}
use Rattle.std.specs.List.{list_all, AllByRecursion}
use Rattle.mix_base.proofs.Choices.{and_parts}
use Rattle.mix_base.proofs.Lists.{append_nil}
use Rattle.mix_base.proofs.Utf8.{utf8_split}
use Rattle.path_expr.specs.Grammar.{Spelled, a_path, Is, text_of}
use Rattle.path_expr.specs.Depth.{nesting}
use Rattle.path_expr.specs.Form.{Form, positions_in}
use Rattle.path_expr.specs.Values.{value_of}
use Rattle.path_expr.specs.Canonical.{canon}
use Rattle.path_expr.specs.Results.{SpellsWithin}
use Rattle.path_expr.proofs.Complete.{writes_read}
use Rattle.path_expr.proofs.RoundTrip.{canon_within}
use Rattle.xmas_tokens.specs.Lexical.{is_blank, IsBlanks, IsGap}
use Rattle.xmas_text.specs.Grammar.{Cond, source, walk, compare, Conds, one, also, Order, unordered, ordered, descending, Rule, IsRule, IsCond, AreConds, IsOrder, cond_text, conds_text, order_text, items_text, rule_text}
use Rattle.xmas_text.specs.Parsed.{cond_at, conds_at}
use Rattle.xmas_tokens.specs.Lexemes.{path_form}
use Rattle.xmas_tokens.specs.declared.lexeme.PathLimit.{PathLimit}
use Rattle.xmas_tokens.specs.declared.lexeme.PathLimit.TheVariants.{Nesting, Positions}
use Rattle.xmas_text.specs.declared.cond.CondText.{CondText}
use Rattle.xmas_read.specs.Refusals.{is_nested, has_many, has_path}
use Rattle.xmas_read.proofs.CleanForm.{or_else, clean_path}

-- a written path of the canonical form: of the grammar, UTF-8, within the limits, and of the same value
pub record PathKept (p : Spelled) : Type 0 where
  pub is : Is (clean_path p) a_path
  pub text : text_of (clean_path p) ≡ canon (value_of p)
  pub form : path_form (clean_path p) ≡ path_form p
  pub value : path_form p ≡ Ok (value_of p)
  pub utf8 : IsUtf8 (canon (value_of p))

-- the value of a path that passes no limit
abbrev within : Form → Result Form PathLimit
within f = Ok f

-- a path within the limits is its value
form_in : (p : Spelled) → nesting p ≤ 100 → positions_in (value_of p) ≤ 120 → path_form p ≡ Ok (value_of p)
form_in p h k =
    let a : nat_lt 100 (nesting p) ≡ false = grind (arith, nat_tests) in
    let b : nat_lt 120 (positions_in (value_of p)) ≡ false = grind (arith, nat_tests) in
    rw (a, b) refl

-- a path within the limits is kept
path_kept : (p : Spelled) → Is p a_path → IsUtf8 (text_of p) → nesting p ≤ 100 → positions_in (value_of p) ≤ 120 → PathKept p
path_kept p h u n k =
    let given : SpellsWithin (text_of p) (value_of p) = record { spelled = p; writes = (h, refl); value = refl; nesting = n; positions = k } in
    let w = canon_within (text_of p) (value_of p) u given in
    let e : clean_path p ≡ w.1.spelled = ap (λ o. or_else o p) (writes_read (canon (value_of p)) w.1.spelled w.1.writes) in
    let few : positions_in (value_of w.1.spelled) ≤ 120 = subst (λ f. positions_in f ≤ 120) (sym w.1.value) w.1.positions in
    record {
      is = subst (λ q. Is q a_path) (sym e) w.1.writes.0;
      text = ap text_of e ∙ w.1.writes.1;
      form = ap path_form e ∙ form_in w.1.spelled w.1.nesting few ∙ ap within w.1.value ∙ sym (form_in p n k);
      value = form_in p n k;
      utf8 = w.0;
    }

-- a path that isn't refused is within the limits
limits : (p : Spelled) → is_nested (path_form p) ≡ false → has_many (path_form p) ≡ false → (nesting p ≤ 100) × (positions_in (value_of p) ≤ 120)
limits p h k = by (nat_lt 100 (nesting p)) (nat_lt 120 (positions_in (value_of p))) refl refl h k
  where
    by : (a b : Bool) → nat_lt 100 (nesting p) ≡ a → nat_lt 120 (positions_in (value_of p)) ≡ b → is_nested (cond a (Err Nesting) (cond b (Err Positions) (Ok (value_of p)))) ≡ false
        → has_many (cond a (Err Nesting) (cond b (Err Positions) (Ok (value_of p)))) ≡ false
        → (nesting p ≤ 100) × (positions_in (value_of p) ≤ 120)
    by true b e f h k = cc
    by false true e f h k = cc
    by false false e f h k = (grind (arith, nat_tests), grind (arith, nat_tests))

-- blanks are ASCII
pub blank_low : (b : ℕ) → is_blank b ≡ true → b < 128
blank_low b h = grind (arith, nat_tests)

-- what stands after blanks in a UTF-8 text is UTF-8
pub after_blanks : (g y : List ℕ) → IsBlanks g → IsUtf8 (g ++ y) → IsUtf8 y
after_blanks [] y h u = u
after_blanks (b ∷ g) y h u = let p = and_parts (is_blank b) (list_all is_blank g) h in after_blanks g y p.1 (utf8_split [] (g ++ y) b (blank_low b p.0) u).1

-- a gap is of blanks
pub gap_blanks : (g : List ℕ) → IsGap g → IsBlanks g
gap_blanks [] h = absurd h
gap_blanks (b ∷ g) h = h

-- what stands on both sides of a gap in a UTF-8 text is UTF-8
pub around_gap : (x g y : List ℕ) → IsGap g → IsUtf8 (x ++ (g ++ y)) → IsUtf8 x × IsUtf8 y
around_gap x [] y h u = absurd h
around_gap x (b ∷ g) y h u =
    let p = and_parts (is_blank b) (list_all is_blank g) h in
    let q = utf8_split x (g ++ y) b (blank_low b p.0) u in (q.0, after_blanks g y p.1 q.1)

-- what stands before blanks in a UTF-8 text is UTF-8
before_blanks : (x g : List ℕ) → IsBlanks g → IsUtf8 (x ++ g) → IsUtf8 x
before_blanks x [] h u = subst IsUtf8 (append_nil x) u
before_blanks x (b ∷ g) h u = let p = and_parts (is_blank b) (list_all is_blank g) h in (utf8_split x g b (blank_low b p.0) u).0

-- what stands before an order and blanks in a UTF-8 text is UTF-8
before_order : (x g : List ℕ) (o : Order) → IsBlanks g → IsOrder o → IsUtf8 (x ++ (order_text o ++ g)) → IsUtf8 x
before_order x g unordered h k u = before_blanks x g h u
before_order x g (ordered [] b c v) h k u = absurd k.0
before_order x g (ordered (a ∷ l) b c v) h k u = let p = and_parts (is_blank a) (list_all is_blank l) k.0 in (utf8_split x _ a (blank_low a p.0) u).0
before_order x g (descending [] b c v j) h k u = absurd k.0
before_order x g (descending (a ∷ l) b c v j) h k u = let p = and_parts (is_blank a) (list_all is_blank l) k.0 in (utf8_split x _ a (blank_low a p.0) u).0

-- the items and the conditions of a rule in UTF-8 are UTF-8
pub rule_parts : (r : Rule) → IsRule r → IsUtf8 (rule_text r) → IsUtf8 (items_text r.template) × IsUtf8 (conds_text r.conds)
rule_parts r w u =
    let rest = conds_text r.conds ++ (order_text r.order ++ r.tail) in
    let lead = after_blanks r.lead _ w.lead u in
    let first = utf8_split (67 ∷ 79 ∷ 78 ∷ 83 ∷ 84 ∷ 82 ∷ 85 ∷ 67 ∷ []) _ 84 (omega arith) lead in
    let gap = around_gap (items_text r.template) r.gap (87 ∷ 72 ∷ 69 ∷ 82 ∷ 69 ∷ rest) w.gap first.1 in
    let where' = utf8_split (87 ∷ 72 ∷ 69 ∷ 82 ∷ []) rest 69 (omega arith) gap.1 in
    (gap.0, before_order (conds_text r.conds) r.tail r.order w.tail w.order where'.1)

-- the path of a condition is kept
abbrev pub KeptCond : Cond → Type 0
KeptCond (source name g p h v) = PathKept p
KeptCond (walk start g p h v) = PathKept p
KeptCond (compare v g o h a) = Unit {0}

-- the paths of conditions are kept
abbrev pub KeptConds : Conds → Type 0
KeptConds (one g c) = KeptCond c
KeptConds (also cs g h c) = KeptConds cs × KeptCond c

-- a condition's path isn't refused
abbrev pub IsShort : CondText → Type 0
IsShort c = (has_path is_nested c ≡ false) × (has_path has_many c ≡ false)

-- what holds of all members of a list with one more holds of all of the list, and of that one
pub all_parts : {X : Type 0} (P : X → Type 0) (xs : List X) (x : X) → AllByRecursion P (xs ++ x ∷ []) → AllByRecursion P xs × P x
all_parts P [] x h = (tt, h.0)
all_parts P (y ∷ xs) x h = let p = all_parts P xs x h.1 in ((h.0, p.0), p.1)

-- the path of a condition of a UTF-8 text that isn't refused is kept
cond_kept : (n : ℕ) (c : Cond) → IsCond c → IsUtf8 (cond_text c) → IsShort (cond_at n c) → KeptCond c
cond_kept n (source name g p h v) w u s =
    let a = around_gap name g _ w.1 u in
    let b = around_gap (text_of p) h (36 ∷ v) w.3 a.1 in
    let l = limits p s.0 s.1 in path_kept p w.2 b.0 l.0 l.1
cond_kept n (walk start g p h v) w u s =
    let a = around_gap start g _ w.1 (utf8_split [] _ 36 (omega arith) u).1 in
    let b = around_gap (text_of p) h (36 ∷ v) w.3 a.1 in
    let l = limits p s.0 s.1 in path_kept p w.2 b.0 l.0 l.1
cond_kept n (compare v g o h a) w u s = tt

-- the paths of conditions of a UTF-8 text that aren't refused are kept
pub conds_kept : (n : ℕ) (cs : Conds) → AreConds cs → IsUtf8 (conds_text cs) → AllByRecursion IsShort (conds_at n cs) → KeptConds cs
conds_kept n (one g c) w u s = cond_kept _ c w.1 (after_blanks g (cond_text c) (gap_blanks g w.0) u) s.0
conds_kept n (also cs g h c) w u s =
    let a = around_gap (conds_text cs) g (65 ∷ 78 ∷ 68 ∷ (h ++ cond_text c)) w.1 u in
    let b = after_blanks h (cond_text c) (gap_blanks h w.2) (utf8_split (65 ∷ 78 ∷ []) (h ++ cond_text c) 68 (omega arith) a.1).1 in
    let p = all_parts IsShort (conds_at n cs) _ s in
    (conds_kept n cs w.0 a.0 p.0, cond_kept _ c w.3 b p.1)
