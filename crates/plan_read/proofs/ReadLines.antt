-- What a line spells is what it is read as.
use Rattle.std.proofs.Common.{◌≡◌, ◌∙◌, ℕ, Bool, true, false, cond, List, [], ◌∷◌, ◌++◌, Some, None, refl, sym, ap, subst, option_and_then, option_map, codes, length, arith}
use Rattle.std.specs.List.{flat_map}
use Rattle.std.specs.Str.{bytes_eq}
use Rattle.mix_base.proofs.Lists.{append_nil}
use Rattle.mix_tree.specs.LabelGrammar.{SpellsQuoted}
use Rattle.mix_tree.specs.Signs.{op_sign}
use Rattle.mix_tree.specs.declared.comparing.Operand.{Operand}
use Rattle.mix_tree.specs.declared.comparing.Operand.TheVariants.{Var as var_operand, Text as text_operand}
use Rattle.mix_tree.specs.declared.comparing.Test.{Test}
use Rattle.mix_catalog.specs.declared.source.SourceSpec.{SourceSpec}
use Rattle.plan_core.specs.declared.plan.Piece.{Piece}
use Rattle.plan_core.specs.declared.plan.Piece.TheVariants.{Var as var_piece, LabelOf as label_piece, Text as text_piece}
use Rattle.plan_core.specs.PlanText.{direction_text}
use Rattle.plan_core.specs.Unary.{select, order_by, project, group_by, concatenate, create_element}
use Rattle.plan_core.specs.Plans.{Operator, source, get_descendants, join, over, tuple_destroy}
use Rattle.plan_read.specs.Grammar.{Part, keyword, operand_part, test_parts, tests_parts, piece_parts, out_parts, op_parts, line_parts, SpellsVar, SpellsPart, SpellParts, SpelledLinesAreRead}
use Rattle.plan_read.specs.Numbers.{op_number}
use Rattle.plan_read.specs.Reading.{begins, source_number, quoted_read, path_read, sign_read, operand_read, test_of, test_read, with_test, more_tests, tests_read, out_read, piece_read, Pieces, no_pieces, with_piece, pieces_read, direction_read, ends_read, group_of, keyword_read, numbered, words_read}
use Rattle.plan_read.specs.Variables.{var_read, keys_read}
use Rattle.plan_read.specs.Words.{words}
use Rattle.plan_read.proofs.ReadWords.{number_reads, var_reads, name_reads, sign_reads, quoted_reads, keys_reads}
use Rattle.plan_read.proofs.WordReads.{path_reads}

-- a variable begins with $
var_first : (names : List (List ℕ)) (v : ℕ) (word : List ℕ) → SpellsVar names v word → begins 36 word ≡ true
var_first names v word (x, e, t) = ap (begins 36) e

-- a quoted label doesn't begin with a dollar sign
quoted_first : (word l : List ℕ) → SpellsQuoted word l → begins 36 word ≡ false
quoted_first word l (ps, are, e, m) = ap (begins 36) e

-- the word label is no quoted label
var_no_label : (names : List (List ℕ)) (v : ℕ) (word : List ℕ) → SpellsVar names v word → bytes_eq word (codes "label") ≡ false
var_no_label names v word (x, e, t) = ap (λ w. bytes_eq w (codes "label")) e

-- a quoted label is another word than label
quoted_no_label : (word l : List ℕ) → SpellsQuoted word l → bytes_eq word (codes "label") ≡ false
quoted_no_label word l (ps, are, e, m) = ap (λ w. bytes_eq w (codes "label")) e

-- a word that spells the right side of a comparison is read as that
operand_reads : (names : List (List ℕ)) (sources : List SourceSpec) (o : Operand) (word : List ℕ) → SpellsPart names sources (operand_part o) word → operand_read names word ≡ Some o
operand_reads names sources (var_operand v) word h =
    ap (λ b. cond b (option_map var_operand (var_read names word)) (option_map text_operand (quoted_read word))) (var_first names v word h) ∙ ap (option_map var_operand) (var_reads names v word h)
operand_reads names sources (text_operand l) word h =
    ap (λ b. cond b (option_map var_operand (var_read names word)) (option_map text_operand (quoted_read word))) (quoted_first word l h.1) ∙ ap (option_map text_operand) (quoted_reads word l h.0 h.1)

-- the words of a comparison are read as that comparison
test_reads : (names : List (List ℕ)) (sources : List SourceSpec) (t : Test) (l s r : List ℕ) → SpellsVar names t.left l → s ≡ op_sign t.op → SpellsPart names sources (operand_part t.right) r → test_read names l s r ≡ Some t
test_reads names sources t l s r a b d =
    ap (option_and_then (λ v. option_and_then (λ op. option_map (test_of v op) (operand_read names r)) (sign_read s))) (var_reads names t.left l a)
    ∙ ap (option_and_then (λ op. option_map (test_of t.left op) (operand_read names r))) (ap sign_read b ∙ sign_reads t.op)
    ∙ ap (option_map (test_of t.left t.op)) (operand_reads names sources t.right r d)

-- the parts of comparisons, each after AND
abbrev more_parts : List Test → List Part
more_parts tests = flat_map (λ t. keyword (codes "AND") ∷ test_parts t) tests

-- the words of comparisons, each after AND, are read as those comparisons
more_reads : (names : List (List ℕ)) (sources : List SourceSpec) (ts : List Test) (ws : List (List ℕ)) → SpellParts names sources (more_parts ts) ws → more_tests names ws ≡ Some ts
more_reads names sources [] [] h = refl
more_reads names sources [] (w ∷ ws) h = absurd h
more_reads names sources (t ∷ ts) [] h = absurd h
more_reads names sources (t ∷ ts) (a ∷ []) h = absurd h.1
more_reads names sources (t ∷ ts) (a ∷ l ∷ []) h = absurd h.1.1
more_reads names sources (t ∷ ts) (a ∷ l ∷ s ∷ []) h = absurd h.1.1.1
more_reads names sources (t ∷ ts) (a ∷ l ∷ s ∷ r ∷ ws) h =
    ap (λ k. more_tests names (k ∷ l ∷ s ∷ r ∷ ws)) h.0
    ∙ ap (λ o. with_test o (more_tests names ws)) (test_reads names sources t l s r h.1.0 h.1.1.0 h.1.1.1.0)
    ∙ ap (with_test (Some t)) (more_reads names sources ts ws h.1.1.1.1)

-- the words of comparisons are read as those comparisons
tests_reads : (names : List (List ℕ)) (sources : List SourceSpec) (ts : List Test) (ws : List (List ℕ)) → SpellParts names sources (tests_parts ts) ws → tests_read names ws ≡ Some ts
tests_reads names sources [] [] h = refl
tests_reads names sources [] (w ∷ ws) h = absurd h
tests_reads names sources (t ∷ ts) [] h = absurd h
tests_reads names sources (t ∷ ts) (l ∷ []) h = absurd h.1
tests_reads names sources (t ∷ ts) (l ∷ s ∷ []) h = absurd h.1.1
tests_reads names sources (t ∷ ts) (l ∷ s ∷ r ∷ ws) h =
    ap (λ o. with_test o (more_tests names ws)) (test_reads names sources t l s r h.0 h.1.0 h.1.1.0)
    ∙ ap (with_test (Some t)) (more_reads names sources ts ws h.1.1.1)

-- an arrow and a word that spells a variable are read as the variable that is bound
out_reads : (names : List (List ℕ)) (v : ℕ) (arrow out : List ℕ) → arrow ≡ codes "->" → SpellsVar names v out → out_read names arrow out ≡ Some v
out_reads names v arrow out a h = ap (λ w. out_read names w out) a ∙ var_reads names v out h

-- pieces and the variable after them
abbrev pieces_with : List Piece → ℕ → List Part
pieces_with ps out = flat_map piece_parts ps ++ out_parts out

-- pieces as they are read, with the variable after them
abbrev made : List Piece → ℕ → Pieces
made ps out = record { pieces = ps; out = out }

-- a list of words has two at least
record HasTwo (ws : List (List ℕ)) : Type 0 where
  pub first : List ℕ
  pub second : List ℕ
  pub rest : List (List ℕ)
  pub parts : ws ≡ first ∷ second ∷ rest

-- words of parts and of a bound variable are two at least
two_words : (names : List (List ℕ)) (sources : List SourceSpec) (ps : List Part) (out : ℕ) (ws : List (List ℕ)) → SpellParts names sources (ps ++ out_parts out) ws → HasTwo ws
two_words names sources [] out [] h = absurd h
two_words names sources [] out (a ∷ []) h = absurd h.1
two_words names sources [] out (a ∷ b ∷ ws) h = record { first = a; second = b; rest = ws; parts = refl }
two_words names sources (p ∷ ps) out [] h = absurd h
two_words names sources (p ∷ ps) out (a ∷ ws) h = let t = two_words names sources ps out ws h.1 in record { first = a; second = t.first; rest = t.second ∷ t.rest; parts = ap (λ r. a ∷ r) t.parts }

-- a piece of one word before others is read as that piece and those of the other words
one_word : (names : List (List ℕ)) (w : List ℕ) (p : Piece) (ps : List Piece) (out : ℕ) (ws : List (List ℕ)) → HasTwo ws → bytes_eq w (codes "label") ≡ false → piece_read names w ≡ Some p
    → pieces_read names ws ≡ Some (made ps out) → pieces_read names (w ∷ ws) ≡ Some (made (p ∷ ps) out)
one_word names w p ps out ws two other here rest =
    ap (λ r. pieces_read names (w ∷ r)) two.parts
    ∙ ap (λ b. cond b (with_piece (option_map label_piece (var_read names two.first)) (pieces_read names (two.second ∷ two.rest))) (with_piece (piece_read names w) (pieces_read names (two.first ∷ two.second ∷ two.rest)))) other
    ∙ ap (λ o. with_piece o (pieces_read names (two.first ∷ two.second ∷ two.rest))) here
    ∙ ap (with_piece (Some p)) (ap (pieces_read names) (sym two.parts) ∙ rest)

-- the label of a variable before other pieces is read as that piece and those of the other words
two_more : (names : List (List ℕ)) (v : List ℕ) (n : ℕ) (ps : List Piece) (out : ℕ) (ws : List (List ℕ)) → HasTwo ws → var_read names v ≡ Some n
    → pieces_read names ws ≡ Some (made ps out) → pieces_read names (codes "label" ∷ v ∷ ws) ≡ Some (made (label_piece n ∷ ps) out)
two_more names v n ps out ws two here rest =
    ap (λ r. pieces_read names (codes "label" ∷ v ∷ r)) two.parts
    ∙ ap (λ o. with_piece (option_map label_piece o) (pieces_read names (two.first ∷ two.second ∷ two.rest))) here
    ∙ ap (with_piece (Some (label_piece n))) (ap (pieces_read names) (sym two.parts) ∙ rest)

-- the words of pieces and of a bound variable are read as those
pieces_reads : (names : List (List ℕ)) (sources : List SourceSpec) (ps : List Piece) (out : ℕ) (ws : List (List ℕ)) → SpellParts names sources (pieces_with ps out) ws → pieces_read names ws ≡ Some (made ps out)
pieces_reads names sources [] out [] h = absurd h
pieces_reads names sources [] out (w ∷ []) h = absurd h.1
pieces_reads names sources [] out (w ∷ v ∷ []) h = ap (option_map no_pieces) (out_reads names out w v h.0 h.1.0)
pieces_reads names sources [] out (w ∷ v ∷ x ∷ ws) h = absurd h.1.1
pieces_reads names sources (var_piece v ∷ ps) out [] h = absurd h
pieces_reads names sources (var_piece v ∷ ps) out (w ∷ ws) h =
    one_word names w (var_piece v) ps out ws (two_words names sources (flat_map piece_parts ps) out ws h.1) (var_no_label names v w h.0)
    (ap (λ b. cond b (option_map var_piece (var_read names w)) (option_map text_piece (quoted_read w))) (var_first names v w h.0) ∙ ap (option_map var_piece) (var_reads names v w h.0))
    (pieces_reads names sources ps out ws h.1)
pieces_reads names sources (text_piece l ∷ ps) out [] h = absurd h
pieces_reads names sources (text_piece l ∷ ps) out (w ∷ ws) h =
    one_word names w (text_piece l) ps out ws (two_words names sources (flat_map piece_parts ps) out ws h.1) (quoted_no_label w l h.0.1)
    (ap (λ b. cond b (option_map var_piece (var_read names w)) (option_map text_piece (quoted_read w))) (quoted_first w l h.0.1) ∙ ap (option_map text_piece) (quoted_reads w l h.0.0 h.0.1))
    (pieces_reads names sources ps out ws h.1)
pieces_reads names sources (label_piece v ∷ ps) out [] h = absurd h
pieces_reads names sources (label_piece v ∷ ps) out (w ∷ []) h = absurd h.1
pieces_reads names sources (label_piece v ∷ ps) out (w ∷ x ∷ ws) h =
    ap (λ k. pieces_read names (k ∷ x ∷ ws)) h.0
    ∙ two_more names x v ps out ws (two_words names sources (flat_map piece_parts ps) out ws h.1.1) (var_reads names v x h.1.0) (pieces_reads names sources ps out ws h.1.1)

-- the parts of a group's piece and of its variable are those of that piece alone before the variable
group_parts : (p : Piece) (out : ℕ) → piece_parts p ++ out_parts out ≡ pieces_with (p ∷ []) out
group_parts p out = ap (λ ps. ps ++ out_parts out) (sym (append_nil (piece_parts p)))

-- the text of a direction is read as that direction
direction_reads : (desc : Bool) → direction_read (direction_text desc) ≡ Some desc
direction_reads true = refl
direction_reads false = refl

-- where an operator's number, a variable and a bound variable are each read, their words together are read as the three
ends_reads : (names : List (List ℕ)) (i v o : ℕ) (input var arrow out : List ℕ) → op_number input ≡ Some i → var_read names var ≡ Some v → out_read names arrow out ≡ Some o → ends_read names input var arrow out ≡ Some (i, v, o)
ends_reads names i v o input var arrow out a b d =
    ap (option_and_then (λ i. option_and_then (λ v. option_map (λ (o : ℕ). (i, v, o)) (out_read names arrow out)) (var_read names var))) a
    ∙ ap (option_and_then (λ v. option_map (λ (o : ℕ). (i, v, o)) (out_read names arrow out))) b ∙ ap (option_map (λ (o : ℕ). (i, v, o))) d

-- parts are spelled by as many words as they are
same_length : (names : List (List ℕ)) (sources : List SourceSpec) (ps : List Part) (ws : List (List ℕ)) → SpellParts names sources ps ws → length ps ≡ length ws
same_length names sources [] [] h = refl
same_length names sources [] (w ∷ ws) h = absurd h
same_length names sources (p ∷ ps) [] h = absurd h
same_length names sources (p ∷ ps) (w ∷ ws) h = omega (arith, same_length names sources ps ws h.1)

-- the words of an operator, its keyword first, are read as that operator
op_reads : (names : List (List ℕ)) (sources : List SourceSpec) (op : Operator) (kw : List ℕ) (ws : List (List ℕ)) → SpellParts names sources (op_parts op) (kw ∷ ws) → keyword_read names sources kw ws ≡ Some op
op_reads names sources (source s out) kw (name ∷ arrow ∷ v ∷ []) h =
    ap (λ k. keyword_read names sources k (name ∷ arrow ∷ v ∷ [])) h.0
    ∙ ap (λ b. cond b (option_map (source (source_number sources name)) (out_read names arrow v)) None) (name_reads name h.1.0.0)
    ∙ ap (option_map (source (source_number sources name))) (out_reads names out arrow v h.1.1.0 h.1.1.1.0) ∙ ap (λ n. Some (source n out)) h.1.0.1
op_reads names sources (get_descendants i start p out) kw (input ∷ from ∷ way ∷ arrow ∷ v ∷ []) h =
    ap (λ k. keyword_read names sources k (input ∷ from ∷ way ∷ arrow ∷ v ∷ [])) h.0
    ∙ ap (option_and_then (λ (t : ℕ × ℕ × ℕ). option_map (λ p. get_descendants t.0 t.1 p t.2) (path_read way)))
    (ends_reads names i start out input from arrow v (number_reads input i h.1.0.0 h.1.0.1) (var_reads names start from h.1.1.0) (out_reads names out arrow v h.1.1.1.1.0 h.1.1.1.1.1.0))
    ∙ ap (option_map (λ p. get_descendants i start p out)) (path_reads way p h.1.1.1.0.0 h.1.1.1.0.1)
op_reads names sources (join l r tests) kw (left ∷ right ∷ ws) h =
    ap (λ k. keyword_read names sources k (left ∷ right ∷ ws)) h.0
    ∙ ap (option_and_then (λ l. option_and_then (λ r. option_map (join l r) (tests_read names ws)) (op_number right))) (number_reads left l h.1.0.0 h.1.0.1)
    ∙ ap (option_and_then (λ r. option_map (join l r) (tests_read names ws))) (number_reads right r h.1.1.0.0 h.1.1.0.1)
    ∙ ap (option_map (join l r)) (tests_reads names sources tests ws h.1.1.1)
op_reads names sources (over i (select t)) kw (input ∷ l ∷ s ∷ r ∷ []) h =
    ap (λ k. keyword_read names sources k (input ∷ l ∷ s ∷ r ∷ [])) h.0
    ∙ ap (option_and_then (λ i. option_map (λ t. over i (select t)) (test_read names l s r))) (number_reads input i h.1.0.0 h.1.0.1)
    ∙ ap (option_map (λ t. over i (select t))) (test_reads names sources t l s r h.1.1.0 h.1.1.1.0 h.1.1.1.1.0)
op_reads names sources (over i (order_by v d)) kw (input ∷ var ∷ direction ∷ []) h =
    ap (λ k. keyword_read names sources k (input ∷ var ∷ direction ∷ [])) h.0
    ∙ ap (option_and_then (λ i. option_and_then (λ v. option_map (λ d. over i (order_by v d)) (direction_read direction)) (var_read names var))) (number_reads input i h.1.0.0 h.1.0.1)
    ∙ ap (option_and_then (λ v. option_map (λ d. over i (order_by v d)) (direction_read direction))) (var_reads names v var h.1.1.0)
    ∙ ap (option_map (λ d. over i (order_by v d))) (ap direction_read h.1.1.1.0 ∙ direction_reads d)
op_reads names sources (over i (project ks)) kw (input ∷ word ∷ []) h =
    ap (λ k. keyword_read names sources k (input ∷ word ∷ [])) h.0
    ∙ ap (option_and_then (λ i. option_map (λ q. over i (project q)) (keys_read names word))) (number_reads input i h.1.0.0 h.1.0.1)
    ∙ ap (option_map (λ q. over i (project q))) (keys_reads names ks word h.1.1.0)
op_reads names sources (over i (group_by ks p out)) kw (input ∷ word ∷ rest) h =
    ap (λ k. keyword_read names sources k (input ∷ word ∷ rest)) h.0
    ∙ ap (option_and_then (λ i. option_and_then (λ q. option_and_then (group_of i q) (pieces_read names rest)) (keys_read names word))) (number_reads input i h.1.0.0 h.1.0.1)
    ∙ ap (option_and_then (λ q. option_and_then (group_of i q) (pieces_read names rest))) (keys_reads names ks word h.1.1.0)
    ∙ ap (option_and_then (group_of i ks)) (pieces_reads names sources (p ∷ []) out rest (subst (λ ps. SpellParts names sources ps rest) (group_parts p out) h.1.1.1))
op_reads names sources (over i (concatenate ps out)) kw (input ∷ rest) h =
    ap (λ k. keyword_read names sources k (input ∷ rest)) h.0
    ∙ ap (option_and_then (λ i. option_map (λ (r : Pieces). over i (concatenate r.pieces r.out)) (pieces_read names rest))) (number_reads input i h.1.0.0 h.1.0.1)
    ∙ ap (option_map (λ (r : Pieces). over i (concatenate r.pieces r.out))) (pieces_reads names sources ps out rest h.1.1)
op_reads names sources (over i (create_element label list out)) kw (input ∷ name ∷ var ∷ arrow ∷ v ∷ []) h =
    ap (λ k. keyword_read names sources k (input ∷ name ∷ var ∷ arrow ∷ v ∷ [])) h.0
    ∙ ap (λ b. cond b (option_map (λ (t : ℕ × ℕ × ℕ). over t.0 (create_element name t.1 t.2)) (ends_read names input var arrow v)) None) (name_reads name h.1.1.0.0)
    ∙ ap (option_map (λ (t : ℕ × ℕ × ℕ). over t.0 (create_element name t.1 t.2)))
    (ends_reads names i list out input var arrow v (number_reads input i h.1.0.0 h.1.0.1) (var_reads names list var h.1.1.1.0) (out_reads names out arrow v h.1.1.1.1.0 h.1.1.1.1.1.0))
    ∙ ap (λ l. Some (over i (create_element l list out))) h.1.1.0.1
op_reads names sources (tuple_destroy i element) kw (input ∷ var ∷ []) h =
    ap (λ k. keyword_read names sources k (input ∷ var ∷ [])) h.0
    ∙ ap (option_and_then (λ i. option_map (tuple_destroy i) (var_read names var))) (number_reads input i h.1.0.0 h.1.0.1) ∙ ap (option_map (tuple_destroy i)) (var_reads names element var h.1.1.0)
op_reads names sources op kw ws h = absurd (omega (arith, same_length names sources (op_parts op) (kw ∷ ws) h))

-- a line that spells a numbered operator is read as that one
pub spelled_reads : SpelledLinesAreRead
spelled_reads names sources line n h = by_words (words line) h
  where
    by_words : (ws : List (List ℕ)) → SpellParts names sources (line_parts n) ws → words_read names sources ws ≡ Some n
    by_words [] h = absurd h
    by_words (w ∷ []) h = no_parts n.op h.1
      where
        no_parts : (op : Operator) → SpellParts names sources (op_parts op) [] → words_read names sources (w ∷ []) ≡ Some n
        no_parts (source s out) h = absurd h
        no_parts (get_descendants i start p out) h = absurd h
        no_parts (join l r tests) h = absurd h
        no_parts (over i (select t)) h = absurd h
        no_parts (over i (order_by v d)) h = absurd h
        no_parts (over i (project ks)) h = absurd h
        no_parts (over i (group_by ks p out)) h = absurd h
        no_parts (over i (concatenate ps out)) h = absurd h
        no_parts (over i (create_element label list out)) h = absurd h
        no_parts (tuple_destroy i element) h = absurd h
    by_words (w ∷ kw ∷ ws) h =
        ap (option_and_then (λ i. option_map (numbered i) (keyword_read names sources kw ws))) (number_reads w n.number h.0.0 h.0.1)
        ∙ ap (option_map (numbered n.number)) (op_reads names sources n.op kw ws h.1)
