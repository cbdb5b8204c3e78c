-- What is kept of a token that is being read.
use Rattle.std.specs.Prelude.{◌+◌, ℕ, Bool, cond, ◌||◌, ◌&&◌, ◌==◌, nat_lt, length, slice_index, Option, Some, None, option_map}
use Rattle.mix_tree.specs.LabelGrammar.{is_escape}
use Rattle.mix_tree.specs.Names.{is_name_byte}
use Rattle.path_expr.specs.Machine as paths
use Rattle.path_expr.specs.Scanned as scanned
use Rattle.xmas_tokens.specs.declared.token.Mark.{Mark}
use Rattle.xmas_tokens.specs.declared.token.Mark.TheVariants as mark
use Rattle.xmas_tokens.specs.declared.token.Sign.{Sign}
use Rattle.xmas_tokens.specs.declared.token.Sign.TheVariants as sign
use Rattle.xmas_tokens.specs.declared.token.Kind.{Kind}
use Rattle.xmas_tokens.specs.declared.token.Kind.TheVariants as kind
use Rattle.xmas_tokens.specs.declared.lexer.Part.{Part}
use Rattle.xmas_tokens.specs.declared.lexer.Part.TheVariants as part
use Rattle.xmas_tokens.specs.Lexical.{is_letter, is_word_byte}
use Rattle.xmas_tokens.specs.Tokens.{kind_of, mark_first, mark_text}
use Rattle.xmas_tokens.specs.Lexer.{Lex, between, marking, angle, opening, slash, closing, naming, dollar, varying, quoting, escaping, pathing, ready, comparing}

-- what a scan keeps of a token that is being read
abbrev pub part_of : Lex → Part
part_of between = part.Between
part_of (marking m done rest) = part.Marking m (length done)
part_of (angle may_open may_close) = part.Angle may_open may_close
part_of (opening l) = part.Opening
part_of slash = part.Slash
part_of (closing l) = part.Closing
part_of (naming l) = part.Naming
part_of dollar = part.Dollar
part_of (varying l) = part.Varying
part_of (quoting ps) = part.Quoting
part_of (escaping ps) = part.Escaping
part_of (pathing s) = part.Pathing (scanned.shape_of s)
part_of (ready t) = part.Ready (kind_of t)
part_of (comparing k) = part.Comparing k

-- one byte more of a token that is always the same, of which so many bytes have been read
abbrev pub mark_step : Mark → ℕ → ℕ → Option Part
mark_step m i b = cond (nat_lt i (length (mark_text m)) && b == slice_index (mark_text m) i) (Some (part.Marking m (i + 1))) None

-- what is kept of a token after one byte more, where it goes on with that
abbrev pub part_step : Part → ℕ → Option Part
part_step part.Between b = None
part_step (part.Marking m i) b = mark_step m i b
part_step (part.Angle may_open may_close) b = cond (may_close && b == 47) (Some part.Slash) (cond (may_open && is_name_byte b) (Some part.Opening) None)
part_step part.Opening b = cond (is_name_byte b) (Some part.Opening) (cond (b == 62) (Some (part.Ready kind.OpenTag)) None)
part_step part.Slash b = cond (is_name_byte b) (Some part.Closing) None
part_step part.Closing b = cond (is_name_byte b) (Some part.Closing) (cond (b == 62) (Some (part.Ready kind.CloseTag)) None)
part_step part.Naming b = cond (is_name_byte b) (Some part.Naming) None
part_step part.Dollar b = cond (is_letter b) (Some part.Varying) None
part_step part.Varying b = cond (is_word_byte b) (Some part.Varying) None
part_step part.Quoting b = cond (b == 34) (Some (part.Ready kind.Quoted)) (cond (b == 92) (Some part.Escaping) (Some part.Quoting))
part_step part.Escaping b = cond (is_escape b) (Some part.Quoting) None
part_step (part.Pathing s) b = option_map part.Pathing (scanned.shape_step s b)
part_step (part.Ready k) b = None
part_step (part.Comparing k) b = cond (b == 61) (Some (part.Ready kind.Operator)) None

-- the kind of an operator of one byte
abbrev pub kind_by_sign : Sign → Option Kind
kind_by_sign sign.Bang = None
kind_by_sign sign.Less = Some kind.Operator
kind_by_sign sign.Greater = Some kind.Operator

-- the kind of the token, where it may end
abbrev pub kind_in : Part → Option Kind
kind_in part.Between = None
kind_in (part.Marking m i) = cond (i == length (mark_text m)) (Some (kind.Fixed m)) None
kind_in (part.Angle may_open may_close) = None
kind_in part.Opening = None
kind_in part.Slash = None
kind_in part.Closing = None
kind_in part.Naming = Some kind.Name
kind_in part.Dollar = None
kind_in part.Varying = Some kind.Var
kind_in part.Quoting = None
kind_in part.Escaping = None
kind_in (part.Pathing s) = cond (scanned.is_whole s) (Some kind.Path) None
kind_in (part.Ready k) = Some k
kind_in (part.Comparing k) = kind_by_sign k

-- how many parentheses are open in a path
abbrev pub part_depth : Part → ℕ
part_depth part.Between = 0
part_depth (part.Marking m i) = 0
part_depth (part.Angle may_open may_close) = 0
part_depth part.Opening = 0
part_depth part.Slash = 0
part_depth part.Closing = 0
part_depth part.Naming = 0
part_depth part.Dollar = 0
part_depth part.Varying = 0
part_depth part.Quoting = 0
part_depth part.Escaping = 0
part_depth (part.Pathing s) = s.depth
part_depth (part.Ready k) = 0
part_depth (part.Comparing k) = 0

-- the first of two options, or else the second where the first is None
abbrev pub or_else : Option Part → Option Part → Option Part
or_else (Some p) other = Some p
or_else None other = other

-- the first byte of a token that is always the same, where it may come; else another one
abbrev pub first_mark : Mark → (Kind → Bool) → ℕ → Option Part → Option Part
first_mark m may b other = cond (b == mark_first m && may (kind.Fixed m)) (Some (part.Marking m 1)) other

-- the first byte of a keyword, of those that may come
abbrev pub first_keyword : (Kind → Bool) → ℕ → Option Part
first_keyword may b =
    first_mark mark.Construct may b
    (first_mark mark.Where may b
    (first_mark mark.And may b (first_mark mark.Order may b (first_mark mark.By may b (first_mark mark.Desc may b None)))))

-- the first byte of a tag, of an item or of a part of a group label, of those that may come
abbrev pub first_item : (Kind → Bool) → ℕ → Option Part
first_item may b =
    first_mark mark.LabelWord may b
    (first_mark mark.OpenBrace may b
    (first_mark mark.CloseBrace may b
    (first_mark mark.Comma may b
    (cond (b == 60 && (may kind.OpenTag || may kind.CloseTag)) (Some (part.Angle (may kind.OpenTag) (may kind.CloseTag)))
    (cond (b == 36 && may kind.Var) (Some part.Dollar) (cond (b == 34 && may kind.Quoted) (Some part.Quoting) None))))))

-- the first byte of a path, where one may come
abbrev pub first_path : Bool → ℕ → Option Part
first_path may b = cond may (option_map part.Pathing (scanned.shape_step (scanned.shape_of paths.first) b)) None

-- the first byte of an operator, a name or a path, of those that may come
abbrev pub first_word : (Kind → Bool) → ℕ → Option Part
first_word may b =
    cond (b == 61 && may kind.Operator) (Some (part.Ready kind.Operator))
    (cond (b == 33 && may kind.Operator) (Some (part.Comparing sign.Bang))
    (cond (b == 60 && may kind.Operator) (Some (part.Comparing sign.Less))
    (cond (b == 62 && may kind.Operator) (Some (part.Comparing sign.Greater))
    (cond (is_name_byte b && may kind.Name) (Some part.Naming) (first_path (may kind.Path) b)))))

-- the first byte of any token, of those that may come
abbrev pub first_part : (Kind → Bool) → ℕ → Option Part
first_part may b = or_else (first_keyword may b) (or_else (first_item may b) (first_word may b))
