-- Which bytes end names, variables and paths; and that no token begins with a blank.
use Rattle.std.proofs.Common.{◌≡◌, ◌∙◌, ◌==◌, ℕ, Bool, true, false, ◌||◌, IsTrue, List, [], ◌∷◌, Some, None, refl, sym, arith, Option}
use Rattle.std.proofs.lemmas.Bool.Decides.{nat_tests}
use Rattle.mix_base.proofs.Choices.{none_some}
use Rattle.xmas_tokens.specs.Lexer.{naming, varying, lex_step}
use Rattle.xmas_tokens.specs.Lexical.{is_blank, is_word_byte}
use Rattle.xmas_tokens.specs.Tokens.{mark_first}
use Rattle.mix_tree.specs.Names.{is_name_byte}
use Rattle.xmas_tokens.specs.declared.token.Mark.{Mark}
use Rattle.xmas_tokens.specs.declared.token.Mark.TheVariants as mark
use Rattle.path_expr.specs.Grammar as paths
use Rattle.path_expr.specs.Machine as pathing_
use Rattle.path_expr.proofs.Complete as path_complete

-- a byte that ends a name, a variable and a path
abbrev pub is_apart : ℕ → Bool
is_apart b = is_blank b || b == 123 || b == 125 || b == 36 || b == 34 || b == 44 || b == 60 || b == 61 || b == 33 || b == 62

-- an apart byte goes on with no variable
apart_not_word : (b : ℕ) → IsTrue (is_apart b) → is_word_byte b ≡ false
apart_not_word b h = grind (arith, nat_tests)

-- an apart byte goes on with no name
pub apart_not_name : (b : ℕ) → IsTrue (is_apart b) → is_name_byte b ≡ false
apart_not_name b h = grind (arith, nat_tests)

-- an apart byte ends a variable
pub varying_quiet : (v : List ℕ) (b : ℕ) → IsTrue (is_apart b) → lex_step (varying v) b ≡ None
varying_quiet v b h = rw (apart_not_word b h) refl

-- an apart byte ends a name
pub naming_quiet : (l : List ℕ) (b : ℕ) → IsTrue (is_apart b) → lex_step (naming l) b ≡ None
naming_quiet l b h = rw (apart_not_name b h) refl

-- an apart byte is no mark of a path
pub apart_marks : (b : ℕ) → IsTrue (is_apart b) → paths.is_mark b ≡ false
apart_marks b h = grind (arith, nat_tests)

-- an apart byte is no dot
apart_dot : (b : ℕ) → IsTrue (is_apart b) → (b == 46) ≡ false
apart_dot b h = grind (arith, nat_tests)

-- an apart byte is no bar
apart_bar : (b : ℕ) → IsTrue (is_apart b) → (b == 124) ≡ false
apart_bar b h = grind (arith, nat_tests)

-- an apart byte is no closing parenthesis
apart_close : (b : ℕ) → IsTrue (is_apart b) → (b == 41) ≡ false
apart_close b h = grind (arith, nat_tests)

-- an apart byte ends a path after its last member
pub repeat_quiet : (g : pathing_.Frame) (q : paths.Spelled) (b : ℕ) → IsTrue (is_apart b) → pathing_.after_repeat g [] q b ≡ None
repeat_quiet g q b h = rw (apart_dot b h, apart_bar b h, apart_close b h) refl

-- after a path that has been read whole, no apart byte goes on
pub whole_quiet : (f : pathing_.Frame) (o : List pathing_.Frame) (m : pathing_.Mode) (r : Option paths.Spelled) (q : paths.Spelled) (b : ℕ) → pathing_.repeat_in m ≡ r → pathing_.whole_in f o r ≡ Some q → IsTrue (is_apart b)
    → pathing_.step_in f o m b ≡ None
whole_quiet f [] m None q b e w h = none_some q w
whole_quiet f [] m (Some p) q b e w h = path_complete.ends_by b f [] m p (apart_not_name b h) (apart_marks b h) e ∙ repeat_quiet f p b h
whole_quiet f (g ∷ o) m r q b e w h = none_some q w

-- no token that is always the same begins with a blank
pub mark_solid : (m : Mark) → is_blank (mark_first m) ≡ false
mark_solid mark.Construct = refl
mark_solid mark.Where = refl
mark_solid mark.And = refl
mark_solid mark.LabelWord = refl
mark_solid mark.OpenBrace = refl
mark_solid mark.CloseBrace = refl
mark_solid mark.Comma = refl
mark_solid mark.Order = refl
mark_solid mark.By = refl
mark_solid mark.Desc = refl

-- no name begins with a blank
pub name_solid : (b : ℕ) → IsTrue (is_name_byte b) → is_blank b ≡ false
name_solid b h = grind (arith, nat_tests)

-- no path begins with a blank
blank_begins : (b : ℕ) → IsTrue (is_blank b) → pathing_.step pathing_.first b ≡ None
blank_begins b h =
    let n : is_name_byte b ≡ false = grind (arith, nat_tests) in
    let q : (b == 34) ≡ false = grind (arith, nat_tests) in
    let p : (b == 40) ≡ false = grind (arith, nat_tests) in
    rw (n, q, p) refl

-- the first byte of a path is no blank
pub path_solid : (b : ℕ) (q : Bool) (u : pathing_.State) → is_blank b ≡ q → pathing_.step pathing_.first b ≡ Some u → is_blank b ≡ false
path_solid b true u e h = none_some u (sym (blank_begins b e) ∙ h)
path_solid b false u e h = e
