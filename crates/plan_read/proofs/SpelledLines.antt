-- What a line is read as is what it spells.
use Rattle.std.proofs.Common.{◌≡◌, ◌∙◌, ℕ, Bool, true, false, cond, List, [], ◌∷◌, ◌++◌, Option, Some, None, refl, sym, ap, subst, option_and_then, option_map, append_assoc, codes}
use Rattle.std.specs.List.{flat_map}
use Rattle.std.specs.Str.{bytes_eq}
use Rattle.mix_base.proofs.Choices.{some_is, none_some}
use Rattle.mix_base.proofs.Lists.{append_nil}
use Rattle.mix_tree.specs.declared.var.Key.{Key}
use Rattle.mix_tree.specs.declared.comparing.Operand.{Operand}
use Rattle.mix_tree.specs.declared.comparing.Operand.TheVariants.{Var as var_operand, Text as text_operand}
use Rattle.mix_tree.specs.declared.comparing.Test.{Test}
use Rattle.mix_catalog.specs.Forms.{is_source_name}
use Rattle.mix_catalog.specs.declared.source.SourceSpec.{SourceSpec}
use Rattle.plan_core.specs.declared.plan.Piece.{Piece}
use Rattle.plan_core.specs.declared.plan.Piece.TheVariants.{Var as var_piece, LabelOf as label_piece, Text as text_piece}
use Rattle.plan_core.specs.PlanText.{direction_text}
use Rattle.plan_core.specs.Unary.{select, order_by, project, group_by, concatenate, create_element}
use Rattle.plan_core.specs.Plans.{Operator, source, get_descendants, join, over, tuple_destroy}
use Rattle.plan_read.specs.Grammar.{Part, keyword, number, keys, operand_part, test_parts, tests_parts, piece_parts, out_parts, op_parts, line_parts, SpellsPart, SpellParts, SpellsLine}
use Rattle.plan_read.specs.Numbers.{op_number}
use Rattle.plan_read.specs.Reading.{begins, source_number, quoted_read, path_read, sign_read, operand_read, test_of, test_read, with_test, more_tests, tests_read, out_read, piece_read, Pieces, no_pieces, with_piece, pieces_read, direction_read, ends_read, source_form, descent_form, select_form, join_form, project_form, one_piece, group_of, group_form, order_form, concat_form, element_form, destroy_form, keyword_read, Numbered, numbered, words_read, line_read}
use Rattle.plan_read.specs.Variables.{var_read, keys_read}
use Rattle.plan_read.specs.Words.{words}
use Rattle.plan_read.proofs.Spelled.{cond_some, then_some, number_spelled, var_spelled, name_spelled, path_spelled, quoted_spelled}
use Rattle.plan_read.proofs.SpelledKeys.{map_some, word_is, sign_spelled, keys_spelled}

-- words that spell parts, and words that spell others, together spell both
spell-append : (names : List (List ℕ)) (sources : List SourceSpec) (ps qs : List Part) (xs ys : List (List ℕ)) → SpellParts names sources ps xs → SpellParts names sources qs ys → SpellParts names sources (ps ++ qs) (xs ++ ys)
spell-append names sources [] qs [] ys h k = k
spell-append names sources [] qs (x ∷ xs) ys h k = absurd h
spell-append names sources (p ∷ ps) qs [] ys h k = absurd h
spell-append names sources (p ∷ ps) qs (x ∷ xs) ys h k = (h.0, spell-append names sources ps qs xs ys h.1 k)

-- a word that is read as the right side of a comparison spells it
operand_spelled : (names : List (List ℕ)) (sources : List SourceSpec) (word : List ℕ) (o : Operand) → operand_read names word ≡ Some o → SpellsPart names sources (operand_part o) word
operand_spelled names sources word o e = by_first (begins 36 word) e
  where
    by_first : (b : Bool) → cond b (option_map var_operand (var_read names word)) (option_map text_operand (quoted_read word)) ≡ Some o → SpellsPart names sources (operand_part o) word
    by_first true f =
        let m = map_some var_operand (var_read names word) o f in
        subst (λ q. SpellsPart names sources (operand_part q) word) m.2 (var_spelled names m.0 word m.1)
    by_first false f =
        let m = map_some text_operand (quoted_read word) o f in
        subst (λ q. SpellsPart names sources (operand_part q) word) m.2 (quoted_spelled word m.0 m.1)

-- words that are read as a comparison spell that comparison
test_spelled : (names : List (List ℕ)) (sources : List SourceSpec) (l s r : List ℕ) (t : Test) → test_read names l s r ≡ Some t → SpellParts names sources (test_parts t) (l ∷ s ∷ r ∷ [])
test_spelled names sources l s r t e =
    let left = then_some (λ v. option_and_then (λ op. option_map (test_of v op) (operand_read names r)) (sign_read s)) (var_read names l) t e in
    let sign = then_some (λ op. option_map (test_of left.0 op) (operand_read names r)) (sign_read s) t left.2 in
    let right = map_some (test_of left.0 sign.0) (operand_read names r) t sign.2 in
    subst (λ q. SpellParts names sources (test_parts q) (l ∷ s ∷ r ∷ [])) right.2
    (var_spelled names left.0 l left.1, (sign_spelled s sign.0 sign.1, (operand_spelled names sources r right.0 right.1, tt)))

-- comparisons that are read of a first one and of others are that one and the others
with_test_some : (t : Option Test) (rest : Option (List Test)) (ts : List Test) → with_test t rest ≡ Some ts → (a : Test) × (more : List Test) × (t ≡ Some a) × (rest ≡ Some more) × (a ∷ more ≡ ts)
with_test_some t rest ts e =
    let h = then_some (λ a. option_map (λ more. a ∷ more) rest) t ts e in
    let m = map_some (λ more. h.0 ∷ more) rest ts h.2 in
    (h.0, m.0, h.1, m.1, m.2)

-- the parts of comparisons, each after AND
abbrev more_parts : List Test → List Part
more_parts tests = flat_map (λ t. keyword (codes "AND") ∷ test_parts t) tests

-- words that are read as comparisons, each after AND, spell those comparisons
more_spelled : (names : List (List ℕ)) (sources : List SourceSpec) (ws : List (List ℕ)) (ts : List Test) → more_tests names ws ≡ Some ts → SpellParts names sources (more_parts ts) ws
more_spelled names sources [] ts e = subst (λ q. SpellParts names sources (more_parts q) []) (some_is [] ts e) tt
more_spelled names sources (a ∷ []) ts e = none_some ts e
more_spelled names sources (a ∷ l ∷ []) ts e = none_some ts e
more_spelled names sources (a ∷ l ∷ s ∷ []) ts e = none_some ts e
more_spelled names sources (a ∷ l ∷ s ∷ r ∷ ws) ts e = by_and (bytes_eq a (codes "AND")) refl e (more_spelled names sources ws)
  where
    by_and : (b : Bool) → bytes_eq a (codes "AND") ≡ b → cond b (with_test (test_read names l s r) (more_tests names ws)) None ≡ Some ts
        → ((us : List Test) → more_tests names ws ≡ Some us → SpellParts names sources (more_parts us) ws) → SpellParts names sources (more_parts ts) (a ∷ l ∷ s ∷ r ∷ ws)
    by_and false h f more = none_some ts f
    by_and true h f more =
        let w = with_test_some (test_read names l s r) (more_tests names ws) ts f in
        subst (λ q. SpellParts names sources (more_parts q) (a ∷ l ∷ s ∷ r ∷ ws)) w.4
        (word_is a (codes "AND") h, spell-append names sources (test_parts w.0) (more_parts w.1) (l ∷ s ∷ r ∷ []) ws (test_spelled names sources l s r w.0 w.2) (more w.1 w.3))

-- words that are read as comparisons spell those comparisons
tests_spelled : (names : List (List ℕ)) (sources : List SourceSpec) (ws : List (List ℕ)) (ts : List Test) → tests_read names ws ≡ Some ts → SpellParts names sources (tests_parts ts) ws
tests_spelled names sources [] ts e = subst (λ q. SpellParts names sources (tests_parts q) []) (some_is [] ts e) tt
tests_spelled names sources (l ∷ []) ts e = none_some ts e
tests_spelled names sources (l ∷ s ∷ []) ts e = none_some ts e
tests_spelled names sources (l ∷ s ∷ r ∷ ws) ts e =
    let w = with_test_some (test_read names l s r) (more_tests names ws) ts e in
    subst (λ q. SpellParts names sources (tests_parts q) (l ∷ s ∷ r ∷ ws)) w.4
    (spell-append names sources (test_parts w.0) (more_parts w.1) (l ∷ s ∷ r ∷ []) ws (test_spelled names sources l s r w.0 w.2) (more_spelled names sources ws w.1 w.3))

-- words that are read as a bound variable spell an arrow and that variable
out_spelled : (names : List (List ℕ)) (sources : List SourceSpec) (arrow out : List ℕ) (v : ℕ) → out_read names arrow out ≡ Some v → SpellParts names sources (out_parts v) (arrow ∷ out ∷ [])
out_spelled names sources arrow out v e =
    let h = cond_some (bytes_eq arrow (codes "->")) (var_read names out) v e in
    (word_is arrow (codes "->") h.0, (var_spelled names v out h.1, tt))

-- a word that is read as a piece spells that piece
piece_spelled : (names : List (List ℕ)) (sources : List SourceSpec) (word : List ℕ) (p : Piece) → piece_read names word ≡ Some p → SpellParts names sources (piece_parts p) (word ∷ [])
piece_spelled names sources word p e = by_first (begins 36 word) e
  where
    by_first : (b : Bool) → cond b (option_map var_piece (var_read names word)) (option_map text_piece (quoted_read word)) ≡ Some p → SpellParts names sources (piece_parts p) (word ∷ [])
    by_first true f =
        let m = map_some var_piece (var_read names word) p f in
        subst (λ q. SpellParts names sources (piece_parts q) (word ∷ [])) m.2 (var_spelled names m.0 word m.1, tt)
    by_first false f =
        let m = map_some text_piece (quoted_read word) p f in
        subst (λ q. SpellParts names sources (piece_parts q) (word ∷ [])) m.2 (quoted_spelled word m.0 m.1, tt)

-- the parts of pieces and of the variable after them
abbrev pieces_parts : Pieces → List Part
pieces_parts r = flat_map piece_parts r.pieces ++ out_parts r.out

-- pieces that are read of a first one and of others are that one and the others
with_piece_some : (p : Option Piece) (rest : Option Pieces) (r : Pieces) → with_piece p rest ≡ Some r
    → (a : Piece) × (more : Pieces) × (p ≡ Some a) × (rest ≡ Some more) × (◌≡◌ {A = Pieces} (record { pieces = a ∷ more.pieces; out = more.out }) r)
with_piece_some p rest r e =
    let h = then_some (λ (a : Piece). option_map (λ (m : Pieces). record { pieces = a ∷ m.pieces; out = m.out }) rest) p r e in
    let m = map_some (λ (m : Pieces). record { pieces = h.0 ∷ m.pieces; out = m.out }) rest r h.2 in
    (h.0, m.0, h.1, m.1, m.2)

-- words that are read as pieces and a variable after them spell those
pieces_spelled : (names : List (List ℕ)) (sources : List SourceSpec) (ws : List (List ℕ)) (r : Pieces) → pieces_read names ws ≡ Some r → SpellParts names sources (pieces_parts r) ws
pieces_spelled names sources [] r e = none_some r e
pieces_spelled names sources (w ∷ []) r e = none_some r e
pieces_spelled names sources (w ∷ v ∷ []) r e =
    let m = map_some no_pieces (out_read names w v) r e in
    subst (λ q. SpellParts names sources (pieces_parts q) (w ∷ v ∷ [])) m.2 (out_spelled names sources w v m.0 m.1)
pieces_spelled names sources (w ∷ v ∷ x ∷ ws) r e =
    by_label (bytes_eq w (codes "label")) refl e (pieces_spelled names sources (x ∷ ws)) (pieces_spelled names sources (v ∷ x ∷ ws))
  where
    by_label : (b : Bool) → bytes_eq w (codes "label") ≡ b
        → cond b (with_piece (option_map label_piece (var_read names v)) (pieces_read names (x ∷ ws))) (with_piece (piece_read names w) (pieces_read names (v ∷ x ∷ ws))) ≡ Some r
        → ((q : Pieces) → pieces_read names (x ∷ ws) ≡ Some q → SpellParts names sources (pieces_parts q) (x ∷ ws))
        → ((q : Pieces) → pieces_read names (v ∷ x ∷ ws) ≡ Some q → SpellParts names sources (pieces_parts q) (v ∷ x ∷ ws)) → SpellParts names sources (pieces_parts r) (w ∷ v ∷ x ∷ ws)
    by_label true h f two one =
        let s = with_piece_some (option_map label_piece (var_read names v)) (pieces_read names (x ∷ ws)) r f in
        let m = map_some label_piece (var_read names v) s.0 s.2 in
        let made : SpellParts names sources (pieces_parts (record { pieces = label_piece m.0 ∷ s.1.pieces; out = s.1.out })) (w ∷ v ∷ x ∷ ws) = (word_is w (codes "label") h, (var_spelled names m.0 v m.1, two s.1 s.3)) in
        subst (λ q. SpellParts names sources (pieces_parts q) (w ∷ v ∷ x ∷ ws)) s.4
        (subst (λ p. SpellParts names sources (pieces_parts (record { pieces = p ∷ s.1.pieces; out = s.1.out })) (w ∷ v ∷ x ∷ ws)) m.2 made)
    by_label false h f two one =
        let s = with_piece_some (piece_read names w) (pieces_read names (v ∷ x ∷ ws)) r f in
        let made = spell-append names sources (piece_parts s.0) (pieces_parts s.1) (w ∷ []) (v ∷ x ∷ ws) (piece_spelled names sources w s.0 s.2) (one s.1 s.3) in
        subst (λ q. SpellParts names sources (pieces_parts q) (w ∷ v ∷ x ∷ ws)) s.4
        (subst (λ ps. SpellParts names sources ps (w ∷ v ∷ x ∷ ws)) (sym (append_assoc (piece_parts s.0) (flat_map piece_parts s.1.pieces) (out_parts s.1.out))) made)

-- the words of an operator
abbrev Spelt : List (List ℕ) → List SourceSpec → List ℕ → List (List ℕ) → Operator → Type 0
Spelt names sources kw ws op = SpellParts names sources (op_parts op) (kw ∷ ws)

-- words that are read as a source spell that source
source_spelled : (names : List (List ℕ)) (sources : List SourceSpec) (ws : List (List ℕ)) (op : Operator) → source_form names sources ws ≡ Some op → Spelt names sources (codes "source") ws op
source_spelled names sources (name ∷ arrow ∷ out ∷ []) op e =
    let h = cond_some (is_source_name name) (option_map (source (source_number sources name)) (out_read names arrow out)) op e in
    let m = map_some (source (source_number sources name)) (out_read names arrow out) op h.1 in
    subst (Spelt names sources (codes "source") (name ∷ arrow ∷ out ∷ [])) m.2 (refl, ((name_spelled name h.0, refl), out_spelled names sources arrow out m.0 m.1))
source_spelled names sources ws op e = none_some op e

-- where the words IN VAR and -> VAR are read as three numbers, they are those of the input, the variable and the bound variable
ends_spelled : (names : List (List ℕ)) (input var arrow out : List ℕ) (t : ℕ × ℕ × ℕ) → ends_read names input var arrow out ≡ Some t → (op_number input ≡ Some t.0) × (var_read names var ≡ Some t.1) × (out_read names arrow out ≡ Some t.2)
ends_spelled names input var arrow out t e =
    let i = then_some (λ i. option_and_then (λ v. option_map (λ (o : ℕ). (i, v, o)) (out_read names arrow out)) (var_read names var)) (op_number input) t e in
    let v = then_some (λ v. option_map (λ (o : ℕ). (i.0, v, o)) (out_read names arrow out)) (var_read names var) t i.2 in
    let o = map_some (λ (o : ℕ). (i.0, v.0, o)) (out_read names arrow out) t v.2 in
    (i.1 ∙ ap (λ (q : ℕ × ℕ × ℕ). Some q.0) o.2, v.1 ∙ ap (λ (q : ℕ × ℕ × ℕ). Some q.1) o.2, o.1 ∙ ap (λ (q : ℕ × ℕ × ℕ). Some q.2) o.2)

-- words that are read as a getDescendants spell that operator
descent_spelled : (names : List (List ℕ)) (sources : List SourceSpec) (ws : List (List ℕ)) (op : Operator) → descent_form names ws ≡ Some op → Spelt names sources (codes "getDescendants") ws op
descent_spelled names sources (input ∷ from ∷ way ∷ arrow ∷ out ∷ []) op e =
    let h = then_some (λ (t : ℕ × ℕ × ℕ). option_map (λ p. get_descendants t.0 t.1 p t.2) (path_read way)) (ends_read names input from arrow out) op e in
    let m = map_some (λ p. get_descendants h.0.0 h.0.1 p h.0.2) (path_read way) op h.2 in
    let k = ends_spelled names input from arrow out h.0 h.1 in
    subst (Spelt names sources (codes "getDescendants") (input ∷ from ∷ way ∷ arrow ∷ out ∷ [])) m.2
    (refl, (number_spelled input h.0.0 k.0, (var_spelled names h.0.1 from k.1, (path_spelled way m.0 m.1, out_spelled names sources arrow out h.0.2 k.2))))
descent_spelled names sources ws op e = none_some op e

-- words that are read as a selection spell that operator
select_spelled : (names : List (List ℕ)) (sources : List SourceSpec) (ws : List (List ℕ)) (op : Operator) → select_form names ws ≡ Some op → Spelt names sources (codes "select") ws op
select_spelled names sources (input ∷ l ∷ s ∷ r ∷ []) op e =
    let h = then_some (λ i. option_map (λ t. over i (select t)) (test_read names l s r)) (op_number input) op e in
    let m = map_some (λ t. over h.0 (select t)) (test_read names l s r) op h.2 in
    subst (Spelt names sources (codes "select") (input ∷ l ∷ s ∷ r ∷ [])) m.2 (refl, (number_spelled input h.0 h.1, test_spelled names sources l s r m.0 m.1))
select_spelled names sources ws op e = none_some op e

-- words that are read as a join spell that operator
join_spelled : (names : List (List ℕ)) (sources : List SourceSpec) (ws : List (List ℕ)) (op : Operator) → join_form names ws ≡ Some op → Spelt names sources (codes "join") ws op
join_spelled names sources (left ∷ right ∷ tests) op e =
    let h = then_some (λ l. option_and_then (λ r. option_map (join l r) (tests_read names tests)) (op_number right)) (op_number left) op e in
    let k = then_some (λ r. option_map (join h.0 r) (tests_read names tests)) (op_number right) op h.2 in
    let m = map_some (join h.0 k.0) (tests_read names tests) op k.2 in
    subst (Spelt names sources (codes "join") (left ∷ right ∷ tests)) m.2
    (refl, (number_spelled left h.0 h.1, (number_spelled right k.0 k.1, tests_spelled names sources tests m.0 m.1)))
join_spelled names sources ws op e = none_some op e

-- words that are read as a projection spell that operator
project_spelled : (names : List (List ℕ)) (sources : List SourceSpec) (ws : List (List ℕ)) (op : Operator) → project_form names ws ≡ Some op → Spelt names sources (codes "project") ws op
project_spelled names sources (input ∷ ks ∷ []) op e =
    let h = then_some (λ i. option_map (λ q. over i (project q)) (keys_read names ks)) (op_number input) op e in
    let m = map_some (λ q. over h.0 (project q)) (keys_read names ks) op h.2 in
    subst (Spelt names sources (codes "project") (input ∷ ks ∷ [])) m.2 (refl, (number_spelled input h.0 h.1, (keys_spelled names ks m.0 m.1, tt)))
project_spelled names sources ws op e = none_some op e

-- words that are read as an order spell that operator
order_spelled : (names : List (List ℕ)) (sources : List SourceSpec) (ws : List (List ℕ)) (op : Operator) → order_form names ws ≡ Some op → Spelt names sources (codes "orderBy") ws op
order_spelled names sources (input ∷ var ∷ direction ∷ []) op e =
    let h = then_some (λ i. option_and_then (λ v. option_map (λ d. over i (order_by v d)) (direction_read direction)) (var_read names var)) (op_number input) op e in
    let k = then_some (λ v. option_map (λ d. over h.0 (order_by v d)) (direction_read direction)) (var_read names var) op h.2 in
    let m = map_some (λ d. over h.0 (order_by k.0 d)) (direction_read direction) op k.2 in
    subst (Spelt names sources (codes "orderBy") (input ∷ var ∷ direction ∷ [])) m.2
    (refl, (number_spelled input h.0 h.1, (var_spelled names k.0 var k.1, (direction_spelled direction m.0 m.1, tt))))
  where
    direction_spelled : (word : List ℕ) (d : Bool) → direction_read word ≡ Some d → word ≡ direction_text d
    direction_spelled word d f = by_desc (bytes_eq word (codes "desc")) refl (bytes_eq word (codes "asc")) refl f
      where
        by_desc : (b : Bool) → bytes_eq word (codes "desc") ≡ b → (c : Bool) → bytes_eq word (codes "asc") ≡ c → cond b (Some true) (cond c (Some false) None) ≡ Some d → word ≡ direction_text d
        by_desc true h c k g = word_is word (codes "desc") h ∙ ap direction_text (some_is true d g)
        by_desc false h true k g = word_is word (codes "asc") k ∙ ap direction_text (some_is false d g)
        by_desc false h false k g = none_some d g
order_spelled names sources ws op e = none_some op e

-- words that are read as a concatenate spell that operator
concat_spelled : (names : List (List ℕ)) (sources : List SourceSpec) (ws : List (List ℕ)) (op : Operator) → concat_form names ws ≡ Some op → Spelt names sources (codes "concatenate") ws op
concat_spelled names sources (input ∷ rest) op e =
    let h = then_some (λ i. option_map (λ (r : Pieces). over i (concatenate r.pieces r.out)) (pieces_read names rest)) (op_number input) op e in
    let m = map_some (λ (r : Pieces). over h.0 (concatenate r.pieces r.out)) (pieces_read names rest) op h.2 in
    subst (Spelt names sources (codes "concatenate") (input ∷ rest)) m.2 (refl, (number_spelled input h.0 h.1, pieces_spelled names sources rest m.0 m.1))
concat_spelled names sources ws op e = none_some op e

-- words that are read as a createElement spell that operator
element_spelled : (names : List (List ℕ)) (sources : List SourceSpec) (ws : List (List ℕ)) (op : Operator) → element_form names ws ≡ Some op → Spelt names sources (codes "createElement") ws op
element_spelled names sources (input ∷ name ∷ list ∷ arrow ∷ out ∷ []) op e =
    let h = cond_some (is_source_name name) (option_map (λ (t : ℕ × ℕ × ℕ). over t.0 (create_element name t.1 t.2)) (ends_read names input list arrow out)) op e in
    let m = map_some (λ (t : ℕ × ℕ × ℕ). over t.0 (create_element name t.1 t.2)) (ends_read names input list arrow out) op h.1 in
    let k = ends_spelled names input list arrow out m.0 m.1 in
    subst (Spelt names sources (codes "createElement") (input ∷ name ∷ list ∷ arrow ∷ out ∷ [])) m.2
    (refl, (number_spelled input m.0.0 k.0, ((name_spelled name h.0, refl), (var_spelled names m.0.1 list k.1, out_spelled names sources arrow out m.0.2 k.2))))
element_spelled names sources ws op e = none_some op e

-- words that are read as a tupleDestroy spell that operator
destroy_spelled : (names : List (List ℕ)) (sources : List SourceSpec) (ws : List (List ℕ)) (op : Operator) → destroy_form names ws ≡ Some op → Spelt names sources (codes "tupleDestroy") ws op
destroy_spelled names sources (input ∷ element ∷ []) op e =
    let h = then_some (λ i. option_map (tuple_destroy i) (var_read names element)) (op_number input) op e in
    let m = map_some (tuple_destroy h.0) (var_read names element) op h.2 in
    subst (Spelt names sources (codes "tupleDestroy") (input ∷ element ∷ [])) m.2 (refl, (number_spelled input h.0 h.1, (var_spelled names m.0 element m.1, tt)))
destroy_spelled names sources ws op e = none_some op e

-- a list that has an only piece is that piece alone
one_is : (ps : List Piece) (p : Piece) → one_piece ps ≡ Some p → ps ≡ p ∷ []
one_is [] p e = none_some p e
one_is (q ∷ []) p e = ap (λ r. r ∷ []) (some_is q p e)
one_is (q ∷ r ∷ ps) p e = none_some p e

-- words that are read as a groupBy spell that operator
group_spelled : (names : List (List ℕ)) (sources : List SourceSpec) (ws : List (List ℕ)) (op : Operator) → group_form names ws ≡ Some op → Spelt names sources (codes "groupBy") ws op
group_spelled names sources (input ∷ ks ∷ rest) op e =
    let h = then_some (λ i. option_and_then (λ q. option_and_then (group_of i q) (pieces_read names rest)) (keys_read names ks)) (op_number input) op e in
    let k = then_some (λ q. option_and_then (group_of h.0 q) (pieces_read names rest)) (keys_read names ks) op h.2 in
    let r = then_some (group_of h.0 k.0) (pieces_read names rest) op k.2 in
    by_pieces r.0 h.0 k.0 (number_spelled input h.0 h.1) (keys_spelled names ks k.0 k.1) (pieces_spelled names sources rest r.0 r.1) r.2
  where
    by_pieces : (r : Pieces) (i : ℕ) (q : List Key) → SpellsPart names sources (number i) input → SpellsPart names sources (keys q) ks → SpellParts names sources (pieces_parts r) rest
        → group_of i q r ≡ Some op → Spelt names sources (codes "groupBy") (input ∷ ks ∷ rest) op
    by_pieces r i q a b d f =
        let m = map_some (λ p. over i (group_by q p r.out)) (one_piece r.pieces) op f in
        let only : flat_map piece_parts r.pieces ≡ piece_parts m.0 = ap (flat_map piece_parts) (one_is r.pieces m.0 m.1) ∙ append_nil (piece_parts m.0) in
        subst (Spelt names sources (codes "groupBy") (input ∷ ks ∷ rest)) m.2 (refl, (a, (b, subst (λ ps. SpellParts names sources (ps ++ out_parts r.out) rest) only d)))
group_spelled names sources ws op e = none_some op e

-- words that are read as an operator, its keyword first, spell that operator
keyword_spelled : (names : List (List ℕ)) (sources : List SourceSpec) (kw : List ℕ) (ws : List (List ℕ)) (op : Operator) → keyword_read names sources kw ws ≡ Some op → Spelt names sources kw ws op
keyword_spelled names sources kw ws op e =
    first (codes "source") _ _ e (source_spelled names sources ws op) (λ e.
    first (codes "getDescendants") _ _ e (descent_spelled names sources ws op) (λ e.
    first (codes "select") _ _ e (select_spelled names sources ws op) (λ e.
    first (codes "join") _ _ e (join_spelled names sources ws op) (λ e.
    first (codes "project") _ _ e (project_spelled names sources ws op) (λ e.
    first (codes "groupBy") _ _ e (group_spelled names sources ws op) (λ e.
    first (codes "orderBy") _ _ e (order_spelled names sources ws op) (λ e.
    first (codes "concatenate") _ _ e (concat_spelled names sources ws op) (λ e.
    first (codes "createElement") _ _ e (element_spelled names sources ws op) (λ e.
    first (codes "tupleDestroy") _ None e (destroy_spelled names sources ws op) (λ e. none_some op e))))))))))
  where
    first : (fixed : List ℕ) (form rest : Option Operator) → cond (bytes_eq kw fixed) form rest ≡ Some op → (form ≡ Some op → Spelt names sources fixed ws op)
        → (rest ≡ Some op → Spelt names sources kw ws op) → Spelt names sources kw ws op
    first fixed form rest e here more = by_test (bytes_eq kw fixed) refl e
      where
        by_test : (b : Bool) → bytes_eq kw fixed ≡ b → cond b form rest ≡ Some op → Spelt names sources kw ws op
        by_test true h k = subst (λ w. Spelt names sources w ws op) (sym (word_is kw fixed h)) (here k)
        by_test false h k = more k

-- a line that is read as a numbered operator spells that one
pub line_spelled : (names : List (List ℕ)) (sources : List SourceSpec) (line : List ℕ) (n : Numbered) → line_read names sources line ≡ Some n → SpellsLine names sources line n
line_spelled names sources line n e = by_words (words line) e
  where
    by_words : (ws : List (List ℕ)) → words_read names sources ws ≡ Some n → SpellParts names sources (line_parts n) ws
    by_words [] f = none_some n f
    by_words (w ∷ []) f = none_some n f
    by_words (w ∷ kw ∷ ws) f =
        let h = then_some (λ i. option_map (numbered i) (keyword_read names sources kw ws)) (op_number w) n f in
        let m = map_some (numbered h.0) (keyword_read names sources kw ws) n h.2 in
        subst (λ q. SpellParts names sources (line_parts q) (w ∷ kw ∷ ws)) m.2 (number_spelled w h.0 h.1, keyword_spelled names sources kw ws m.0 m.1)
