-- What is kept of a token goes as the token does.
use Rattle.std.proofs.Common.{◌≡◌, ◌∙◌, ◌==◌, ◌+◌, ◌<◌, ◌&&◌, ◌||◌, ℕ, Bool, true, false, cond, List, [], ◌∷◌, ◌++◌, Option, Some, None, option_map, refl, sym, ap, arith, length, nat_lt, slice_index, length-append, is_some}
use Rattle.std.proofs.Math.Seq.{get_or-append_seam}
use Rattle.std.proofs.lemmas.Bool.Decides.{nat_tests}
use Rattle.mix_base.proofs.Lists.{append_nil}
use Rattle.mix_tree.specs.LabelGrammar.{is_escape}
use Rattle.mix_tree.specs.Names.{is_name_byte}
use Rattle.path_expr.specs.Grammar as paths
use Rattle.path_expr.specs.Machine as pathing_
use Rattle.path_expr.specs.Scanned as scanned
use Rattle.path_expr.proofs.Shapes as path_shapes
use Rattle.xmas_tokens.specs.declared.token.Mark.{Mark}
use Rattle.xmas_tokens.specs.declared.token.Mark.TheVariants as mark
use Rattle.xmas_tokens.specs.declared.token.Sign.{Sign}
use Rattle.xmas_tokens.specs.declared.token.Sign.TheVariants as sign
use Rattle.xmas_tokens.specs.declared.token.Kind.{Kind}
use Rattle.xmas_tokens.specs.declared.token.Kind.TheVariants as kind
use Rattle.xmas_tokens.specs.declared.lexer.Part.{Part}
use Rattle.xmas_tokens.specs.declared.lexer.Part.TheVariants as part
use Rattle.xmas_tokens.specs.Lexical.{is_letter, is_word_byte}
use Rattle.xmas_tokens.specs.Tokens.{kind_of, mark_first, mark_text, by_sign}
use Rattle.xmas_tokens.specs.Lexer.{Lex, between, marking, angle, opening, slash, closing, naming, dollar, varying, quoting, escaping, pathing, ready, comparing, on_mark, map_path, lex_step, as_path, as_mark, token_in, begin_mark, begin_word, begin}
use Rattle.xmas_tokens.specs.Parts.{part_of, mark_step, part_step, kind_by_sign, kind_in, or_else, first_mark, first_item, first_path, first_word, first_part}
use Rattle.xmas_tokens.proofs.Texts.{IsLex}

-- two choices by one boolean are kept alike where their sides are
either : (b : Bool) (x y : Option Lex) (v w : Option Part) → option_map part_of x ≡ v → option_map part_of y ≡ w → option_map part_of (cond b x y) ≡ cond b v w
either true x y v w h k = h
either false x y v w h k = k

-- where bytes of a token that is always the same are to come, fewer have been read than it has
marking_inside : (m : Mark) (done : List ℕ) (c : ℕ) (rest : List ℕ) → done ++ c ∷ rest ≡ mark_text m → nat_lt (length done) (length (mark_text m)) ≡ true
marking_inside m done c rest h =
    let e : length done < length (mark_text m) = omega (arith, length-append done (c ∷ rest), ap length h) in
    grind (arith, nat_tests)

-- the byte that comes next of a token that is always the same is the first of those to come
marking_next : (m : Mark) (done : List ℕ) (c : ℕ) (rest : List ℕ) → done ++ c ∷ rest ≡ mark_text m → slice_index (mark_text m) (length done) ≡ c
marking_next m done c rest h = ap (λ x. slice_index x (length done)) (sym h) ∙ get_or-append_seam done c rest 0

-- a byte of a token that is always the same leads what is kept of it as it leads the token
mark_part : (m : Mark) (done rest : List ℕ) (b : ℕ) → done ++ rest ≡ mark_text m → option_map part_of (on_mark m done rest b) ≡ mark_step m (length done) b
mark_part m done [] b h =
    let e : length done ≡ length (mark_text m) = ap length (sym (append_nil done) ∙ h) in
    let n : nat_lt (length done) (length (mark_text m)) ≡ false = grind (arith, nat_tests) in
    rw n refl
mark_part m done (c ∷ rest) b h =
    let e : length (done ++ c ∷ []) ≡ length done + 1 = omega (arith, length-append done (c ∷ [])) in
    let k : Some (part.Marking m (length (done ++ c ∷ []))) ≡ Some (part.Marking m (length done + 1)) = ap (λ n. Some (part.Marking m n)) e in
    either (b == c) _ _ _ _ k refl
    ∙ ap (λ d. cond (b == d) (Some (part.Marking m (length done + 1))) None) (sym (marking_next m done c rest h))
    ∙ ap (λ i. cond (i && b == slice_index (mark_text m) (length done)) (Some (part.Marking m (length done + 1))) None) (sym (marking_inside m done c rest h))

-- what is kept of a path that is being read is the scan of the path
path_part : (o : Option pathing_.State) → option_map part_of (map_path o) ≡ option_map part.Pathing (option_map scanned.shape_of o)
path_part None = refl
path_part (Some s) = refl

-- one byte more leads what is kept of a token as it leads the token
pub step_part : (l : Lex) (b : ℕ) → IsLex l → option_map part_of (lex_step l b) ≡ part_step (part_of l) b
step_part between b h = refl
step_part (marking m done rest) b h = mark_part m done rest b h
step_part (angle p q) b h = either (q && b == 47) _ _ _ _ refl (either (p && is_name_byte b) _ _ _ _ refl refl)
step_part (opening l) b h = either (is_name_byte b) _ _ _ _ refl (either (b == 62) _ _ _ _ refl refl)
step_part slash b h = either (is_name_byte b) _ _ _ _ refl refl
step_part (closing l) b h = either (is_name_byte b) _ _ _ _ refl (either (b == 62) _ _ _ _ refl refl)
step_part (naming l) b h = either (is_name_byte b) _ _ _ _ refl refl
step_part dollar b h = either (is_letter b) _ _ _ _ refl refl
step_part (varying l) b h = either (is_word_byte b) _ _ _ _ refl refl
step_part (quoting ps) b h = either (b == 34) _ _ _ _ refl (either (b == 92) _ _ _ _ refl refl)
step_part (escaping ps) b h = either (is_escape b) _ _ _ _ refl refl
step_part (pathing s) b h = path_part (pathing_.step s b) ∙ ap (option_map part.Pathing) (path_shapes.step_shape s.here s.outer s.mode b)
step_part (ready t) b h = refl
step_part (comparing k) b h = either (b == 61) _ _ _ _ refl refl

-- the kind of a token that is always the same
mark_kind : (m : Mark) (done rest : List ℕ) → done ++ rest ≡ mark_text m → option_map kind_of (as_mark m rest) ≡ cond (length done == length (mark_text m)) (Some (kind.Fixed m)) None
mark_kind m done [] h =
    let e : length done ≡ length (mark_text m) = ap length (sym (append_nil done) ∙ h) in
    let n : (length done == length (mark_text m)) ≡ true = grind (arith, nat_tests) in
    rw n refl
mark_kind m done (c ∷ rest) h =
    let e : length done < length (mark_text m) = omega (arith, length-append done (c ∷ rest), ap length h) in
    let n : (length done == length (mark_text m)) ≡ false = grind (arith, nat_tests) in
    rw n refl

-- the kind of a path that has been read is that of paths
path_kind : (o : Option paths.Spelled) → option_map kind_of (as_path o) ≡ cond (is_some o) (Some kind.Path) None
path_kind None = refl
path_kind (Some p) = refl

-- the kind of an operator of one sign is told by the sign
sign_kind : (k : Sign) → option_map kind_of (by_sign k) ≡ kind_by_sign k
sign_kind sign.Bang = refl
sign_kind sign.Less = refl
sign_kind sign.Greater = refl

-- a token may end where the scan's part has a kind, and is of that kind
pub kind_part : (l : Lex) → IsLex l → option_map kind_of (token_in l) ≡ kind_in (part_of l)
kind_part between h = refl
kind_part (marking m done rest) h = mark_kind m done rest h
kind_part (angle p q) h = refl
kind_part (opening l) h = refl
kind_part slash h = refl
kind_part (closing l) h = refl
kind_part (naming l) h = refl
kind_part dollar h = refl
kind_part (varying l) h = refl
kind_part (quoting ps) h = refl
kind_part (escaping ps) h = refl
kind_part (pathing s) h = path_kind (pathing_.whole s) ∙ ap (λ w. cond w (Some kind.Path) None) (sym (path_shapes.whole_shape s.here s.outer s.mode))
kind_part (ready t) h = refl
kind_part (comparing k) h = sign_kind k

-- a choice before others is kept as the first of what is kept of either
before_others : (b : Bool) (l : Lex) (p : Part) (other : Option Lex) (x y : Option Part) → part_of l ≡ p → option_map part_of other ≡ or_else x y → option_map part_of (cond b (Some l) other) ≡ or_else (cond b (Some p) x) y
before_others true l p other x y h k = ap Some h
before_others false l p other x y h k = k

-- where others are kept rightly, the first byte of a token that is always the same is kept rightly before them
mark_before : (m : Mark) (may : Kind → Bool) (b : ℕ) (other : Option Lex) (x y : Option Part) → option_map part_of other ≡ or_else x y → option_map part_of (begin_mark m may b other) ≡ or_else (first_mark m may b x) y
mark_before m may b other x y k = before_others (b == mark_first m && may (kind.Fixed m)) _ _ other x y refl k

-- what is kept after the first byte of a path is the scan after that byte
path_begun : (q : Bool) (b : ℕ) → option_map part_of (cond q (map_path (pathing_.step pathing_.first b)) None) ≡ first_path q b
path_begun q b = either q _ _ _ _ (path_part (pathing_.step pathing_.first b) ∙ ap (option_map part.Pathing) (path_shapes.step_shape pathing_.empty [] pathing_.start b)) refl

-- what is kept after the first byte of an operator, a name or a path is what the scan begins with
word_begun : (may : Kind → Bool) (b : ℕ) → option_map part_of (begin_word may b) ≡ first_word may b
word_begun may b =
    either (b == 61 && may kind.Operator) _ _ _ _ refl
    (either (b == 33 && may kind.Operator) _ _ _ _ refl
    (either (b == 60 && may kind.Operator) _ _ _ _ refl
    (either (b == 62 && may kind.Operator) _ _ _ _ refl
    (either (is_name_byte b && may kind.Name) _ _ _ _ refl (path_begun (may kind.Path) b)))))

-- what is kept after the first byte of a tag, an item or a group label's part, or of a word, is what the scan begins with
item_begun : (may : Kind → Bool) (b : ℕ) →
    option_map part_of (begin_mark mark.LabelWord may b (begin_mark mark.OpenBrace may b (begin_mark mark.CloseBrace may b (begin_mark mark.Comma may b
    (cond (b == 60 && (may kind.OpenTag || may kind.CloseTag)) (Some (angle (may kind.OpenTag) (may kind.CloseTag)))
    (cond (b == 36 && may kind.Var) (Some dollar) (cond (b == 34 && may kind.Quoted) (Some (quoting [])) (begin_word may b))))))))
    ≡ or_else (first_item may b) (first_word may b)
item_begun may b =
    mark_before mark.LabelWord may b _ _ _
    (mark_before mark.OpenBrace may b _ _ _
    (mark_before mark.CloseBrace may b _ _ _
    (mark_before mark.Comma may b _ _ _
    (before_others (b == 60 && (may kind.OpenTag || may kind.CloseTag)) _ _ _ _ _ refl
    (before_others (b == 36 && may kind.Var) _ _ _ _ _ refl (before_others (b == 34 && may kind.Quoted) _ _ _ None _ refl (word_begun may b)))))))

-- what is kept after the first byte of any token is what the scan begins with
pub begin_part : (may : Kind → Bool) (b : ℕ) → option_map part_of (begin may b) ≡ first_part may b
begin_part may b =
    mark_before mark.Construct may b _ _ _
    (mark_before mark.Where may b _ _ _
    (mark_before mark.And may b _ _ _
    (mark_before mark.Order may b _ _ _ (mark_before mark.By may b _ _ _ (mark_before mark.Desc may b _ None _ (item_begun may b))))))
