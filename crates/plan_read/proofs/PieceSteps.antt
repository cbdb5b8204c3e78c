-- Pieces, comparisons and keys as they are read one after another.
use Rattle.std.proofs.Common.{◌≡◌, ◌<◌, ◌≤◌, ◌+◌, ◌∙◌, ◌++◌, ◌∷◌, [], ℕ, zero, suc, Bool, true, false, cond, List, Option, Some, None, refl, sym, ap, arith, length, drop, map, option_map, option_and_then, append_assoc, codes, take, get_or, ◌-◌, length-drop, get_or-drop, Bor}
use Rattle.std.specs.Str.{bytes_eq}
use Rattle.mix_base.proofs.Choices.{some_is, none_some}
use Rattle.mix_tree.specs.declared.comparing.Test.{Test}
use Rattle.plan_core.specs.declared.plan.Piece.{Piece}
use Rattle.plan_core.specs.declared.plan.Piece.TheVariants.{LabelOf as label_piece}
use Rattle.plan_read.specs.Variables.{var_read, all_read}
use Rattle.plan_read.specs.Reading.{Pieces, with_piece, piece_read, next_piece, pieces_read, with_test, test_read, next_test, more_tests, tests_read}

-- pieces with these before them
abbrev pub after_pieces : List Piece → Pieces → Pieces
after_pieces prefix r = record { pieces = prefix ++ r.pieces; out = r.out }

-- pieces with none before them stay
pub after_none : (rest : Option Pieces) → option_map (after_pieces []) rest ≡ rest
after_none None = refl
after_none (Some r) = refl

-- pieces so far with one more, before those to come, are the pieces so far before that one and those to come
pub piece_after : (prefix : List Piece) (p : Piece) (rest : Option Pieces) → option_map (after_pieces (prefix ++ p ∷ [])) rest ≡ option_map (after_pieces prefix) (with_piece (Some p) rest)
piece_after prefix p None = refl
piece_after prefix p (Some r) = ap (λ ps. Some (record { pieces = ps; out = r.out })) (append_assoc prefix (p ∷ []) r.pieces)

-- words that begin with a piece, after which two more stand, are read as that piece and those of the words after it
pub piece_step : (names : List (List ℕ)) (w v x : List ℕ) (ws : List (List ℕ)) (p : Piece) (n : ℕ) → next_piece names w v ≡ Some (p, n)
    → pieces_read names (w ∷ v ∷ x ∷ ws) ≡ with_piece (Some p) (pieces_read names (drop n (w ∷ v ∷ x ∷ ws)))
piece_step names w v x ws p n e = by_label (bytes_eq w (codes "label")) (var_read names v) (piece_read names w) e
  where
    same : (q : Piece) (m : ℕ) → ◌≡◌ {A = Option (Piece × ℕ)} (Some (q, m)) (Some (p, n)) → with_piece (Some q) (pieces_read names (drop m (w ∷ v ∷ x ∷ ws))) ≡ with_piece (Some p) (pieces_read names (drop n (w ∷ v ∷ x ∷ ws)))
    same q m e = ap (λ (pn : Piece × ℕ). with_piece (Some pn.0) (pieces_read names (drop pn.1 (w ∷ v ∷ x ∷ ws)))) (some_is (q, m) (p, n) e)

    by_label : (b : Bool) (o : Option ℕ) (q : Option Piece) → cond b (option_map {U = Piece × ℕ} (λ (y : ℕ). (label_piece y, 2)) o) (option_map {U = Piece × ℕ} (λ (p : Piece). (p, 1)) q) ≡ Some (p, n)
        → cond b (with_piece (option_map label_piece o) (pieces_read names (x ∷ ws))) (with_piece q (pieces_read names (v ∷ x ∷ ws))) ≡ with_piece (Some p) (pieces_read names (drop n (w ∷ v ∷ x ∷ ws)))
    by_label true None q e = none_some (p, n) e
    by_label true (Some y) q e = same (label_piece y) 2 e
    by_label false o None e = none_some (p, n) e
    by_label false o (Some r) e = same r 1 e

-- pieces that don't begin with one are not read
pub no_piece_step : (names : List (List ℕ)) (w v x : List ℕ) (ws : List (List ℕ)) → next_piece names w v ≡ None → pieces_read names (w ∷ v ∷ x ∷ ws) ≡ None
no_piece_step names w v x ws e = by_label (bytes_eq w (codes "label")) (var_read names v) (piece_read names w) e
  where
    by_label : (b : Bool) (o : Option ℕ) (q : Option Piece) → cond b (option_map {U = Piece × ℕ} (λ (y : ℕ). (label_piece y, 2)) o) (option_map {U = Piece × ℕ} (λ (p : Piece). (p, 1)) q) ≡ None
        → cond b (with_piece (option_map label_piece o) (pieces_read names (x ∷ ws))) (with_piece q (pieces_read names (v ∷ x ∷ ws))) ≡ None
    by_label true None q e = refl
    by_label true (Some y) q e = none_some {A = Piece × ℕ} (label_piece y, 2) (sym e)
    by_label false o None e = refl
    by_label false o (Some r) e = none_some {A = Piece × ℕ} (r, 1) (sym e)

-- comparisons so far with one more, before those to come, are those so far before that one and those to come
pub test_after : (prefix : List Test) (t : Test) (rest : Option (List Test)) → option_map (λ more. (prefix ++ t ∷ []) ++ more) rest ≡ option_map (λ more. prefix ++ more) (with_test (Some t) rest)
test_after prefix t None = refl
test_after prefix t (Some ts) = ap Some (append_assoc prefix (t ∷ []) ts)

-- words that begin with AND and a comparison are read as that comparison and those of the words after it
pub test_step : (names : List (List ℕ)) (ws : List (List ℕ)) (t : Test) → next_test names ws ≡ Some t → more_tests names ws ≡ with_test (Some t) (more_tests names (drop 4 ws))
test_step names [] t e = none_some t e
test_step names (a ∷ []) t e = none_some t e
test_step names (a ∷ l ∷ []) t e = none_some t e
test_step names (a ∷ l ∷ s ∷ []) t e = none_some t e
test_step names (a ∷ l ∷ s ∷ r ∷ ws) t e = by_and (bytes_eq a (codes "AND")) e
  where
    by_and : (b : Bool) → cond b (test_read names l s r) None ≡ Some t → cond b (with_test (test_read names l s r) (more_tests names ws)) None ≡ with_test (Some t) (more_tests names ws)
    by_and true e = ap (λ o. with_test o (more_tests names ws)) e
    by_and false e = none_some t e

-- comparisons that don't begin with one are not read
pub no_test_step : (names : List (List ℕ)) (ws : List (List ℕ)) → 0 < length ws → next_test names ws ≡ None → more_tests names ws ≡ None
no_test_step names [] h e = absurd (omega arith)
no_test_step names (a ∷ []) h e = refl
no_test_step names (a ∷ l ∷ []) h e = refl
no_test_step names (a ∷ l ∷ s ∷ []) h e = refl
no_test_step names (a ∷ l ∷ s ∷ r ∷ ws) h e = by_and (bytes_eq a (codes "AND")) e
  where
    by_and : (b : Bool) → cond b (test_read names l s r) None ≡ None → cond b (with_test (test_read names l s r) (more_tests names ws)) None ≡ None
    by_and true e = ap (λ o. with_test o (more_tests names ws)) e
    by_and false e = refl

-- what one more text reads as, after what those before it do, and before the rest, is what all together do
pub read_after : {A : Type 0} (f : List ℕ → Option A) (prefix : List A) (a : A) (x : List ℕ) (xs : List (List ℕ)) → f x ≡ Some a
    → option_map (λ more. (prefix ++ a ∷ []) ++ more) (all_read f xs) ≡ option_map (λ more. prefix ++ more) (all_read f (x ∷ xs))
read_after f prefix a x xs e = by_rest (all_read f xs) ∙ sym (ap (λ o. option_map (λ more. prefix ++ more) (option_and_then (λ b. option_map (λ rest. b ∷ rest) (all_read f xs)) o)) e)
  where
    by_rest : (o : Option (List _)) → option_map (λ more. (prefix ++ a ∷ []) ++ more) o ≡ option_map (λ more. prefix ++ more) (option_map (λ rest. a ∷ rest) o)
    by_rest None = refl
    by_rest (Some more) = ap Some (append_assoc prefix (a ∷ []) more)

-- where one text reads as nothing, all together do
pub read_none : {A : Type 0} (f : List ℕ → Option A) (x : List ℕ) (xs : List (List ℕ)) → f x ≡ None → all_read f (x ∷ xs) ≡ None
read_none f x xs e = ap (option_and_then (λ b. option_map (λ rest. b ∷ rest) (all_read f xs))) e

-- a prefix as long as the list, or longer, is the list
take_long : {X : Type 0} (n : ℕ) (xs : List X) → length xs ≤ n → take n xs ≡ xs
take_long zero [] h = refl
take_long zero (x ∷ xs) h = absurd (omega arith)
take_long (suc n) [] h = refl
take_long (suc n) (x ∷ xs) h = ap (λ r. x ∷ r) (take_long n xs (omega arith))

-- all members from a place on are what is left there
pub rest_all : {X : Type 0} (xs : List X) (from : ℕ) → take (length xs - from) (drop from xs) ≡ drop from xs
rest_all xs from = take_long (length xs - from) (drop from xs) (omega (arith, length-drop from xs))

-- words that don't begin with AND begin with no further comparison
pub next_not_and : (names : List (List ℕ)) (ws : List (Bor (List ℕ))) (d : Bor (List ℕ)) → bytes_eq (get_or ws 0 d).now (codes "AND") ≡ false → next_test names (map (λ w. w.now) ws) ≡ None
next_not_and names [] d e = refl
next_not_and names (a ∷ []) d e = refl
next_not_and names (a ∷ l ∷ []) d e = refl
next_not_and names (a ∷ l ∷ s ∷ []) d e = refl
next_not_and names (a ∷ l ∷ s ∷ r ∷ ws) d e = ap (λ b. cond b (test_read names l.now s.now r.now) None) e

-- comparisons of three words or more are the one of the first three, and those after it
pub tests_by_first : (names : List (List ℕ)) (ws : List (Bor (List ℕ))) (d : Bor (List ℕ)) → 3 ≤ length ws
    → tests_read names (map (λ w. w.now) ws) ≡ with_test (test_read names (get_or ws 0 d).now (get_or ws 1 d).now (get_or ws 2 d).now) (more_tests names (map (λ w. w.now) (drop 3 ws)))
tests_by_first names [] d h = absurd (omega arith)
tests_by_first names (a ∷ []) d h = absurd (omega arith)
tests_by_first names (a ∷ l ∷ []) d h = absurd (omega arith)
tests_by_first names (a ∷ l ∷ s ∷ ws) d h = refl

-- of no members none is left after any place
drop_nil : {X : Type 0} (n : ℕ) → drop {A = X} n [] ≡ []
drop_nil zero = refl
drop_nil (suc n) = refl

-- what stands after a place of the rest stands after both places together of the list
drop_after : {X : Type 0} (n m : ℕ) (xs : List X) → drop n (drop m xs) ≡ drop (m + n) xs
drop_after n zero xs = let e : n ≡ 0 + n = omega arith in ap (λ k. drop k xs) e
drop_after n (suc m) [] = drop_nil n ∙ sym (drop_nil (suc m + n))
drop_after n (suc m) (x ∷ xs) = let e : suc (m + n) ≡ suc m + n = omega arith in drop_after n m xs ∙ ap (λ k. drop k (x ∷ xs)) e

-- what stands after a place of a list's images are the images of what stands there
drop_map : (n : ℕ) (ws : List (Bor (List ℕ))) → drop n (map (λ w. w.now) ws) ≡ map (λ w. w.now) (drop n ws)
drop_map zero ws = refl
drop_map (suc n) [] = refl
drop_map (suc n) (w ∷ ws) = drop_map n ws

-- where a piece is read from the first two of three words or more, pieces are that one and those after it
pieces_here : (names : List (List ℕ)) (ws : List (Bor (List ℕ))) (d : Bor (List ℕ)) (p : Piece) (n : ℕ) → 2 < length ws → next_piece names (get_or ws 0 d).now (get_or ws 1 d).now ≡ Some (p, n)
    → pieces_read names (map (λ w. w.now) ws) ≡ with_piece (Some p) (pieces_read names (map (λ w. w.now) (drop n ws)))
pieces_here names [] d p n h e = absurd (omega arith)
pieces_here names (w ∷ []) d p n h e = absurd (omega arith)
pieces_here names (w ∷ v ∷ []) d p n h e = absurd (omega arith)
pieces_here names (w ∷ v ∷ x ∷ ws) d p n h e =
    piece_step names w.now v.now x.now (map (λ w. w.now) ws) p n e ∙ ap (λ r. with_piece (Some p) (pieces_read names r)) (drop_map n (w ∷ v ∷ x ∷ ws))

-- where no piece is read from the first two of three words or more, no pieces are read
none_here : (names : List (List ℕ)) (ws : List (Bor (List ℕ))) (d : Bor (List ℕ)) → 2 < length ws → next_piece names (get_or ws 0 d).now (get_or ws 1 d).now ≡ None → pieces_read names (map (λ w. w.now) ws) ≡ None
none_here names [] d h e = absurd (omega arith)
none_here names (w ∷ []) d h e = absurd (omega arith)
none_here names (w ∷ v ∷ []) d h e = absurd (omega arith)
none_here names (w ∷ v ∷ x ∷ ws) d h e = no_piece_step names w.now v.now x.now (map (λ w. w.now) ws) e

-- comparisons after a place, by the one there and those after it
pub tests_at : (names : List (List ℕ)) (ws : List (Bor (List ℕ))) (at : ℕ) (prefix : List Test) (t : Test) → next_test names (map (λ w. w.now) (drop at ws)) ≡ Some t
    → option_map (λ more. (prefix ++ t ∷ []) ++ more) (more_tests names (map (λ w. w.now) (drop (at + 4) ws))) ≡ option_map (λ more. prefix ++ more) (more_tests names (map (λ w. w.now) (drop at ws)))
tests_at names ws at prefix t e =
    ap (λ r. option_map (λ more. (prefix ++ t ∷ []) ++ more) (more_tests names r)) (ap (map (λ w. w.now)) (sym (drop_after 4 at ws)) ∙ sym (drop_map 4 (drop at ws)))
    ∙ test_after prefix t (more_tests names (drop 4 (map (λ w. w.now) (drop at ws))))
    ∙ sym (ap (option_map (λ more. prefix ++ more)) (test_step names (map (λ w. w.now) (drop at ws)) t e))

-- pieces after a place, by the one there and those after it
pub pieces_at : (names : List (List ℕ)) (ws : List (Bor (List ℕ))) (at : ℕ) (d : Bor (List ℕ)) (p : Piece) (n : ℕ) → at + 2 < length ws → next_piece names (get_or ws at d).now (get_or ws (at + 1) d).now ≡ Some (p, n)
    → pieces_read names (map (λ w. w.now) (drop at ws)) ≡ with_piece (Some p) (pieces_read names (map (λ w. w.now) (drop (at + n) ws)))
pieces_at names ws at d p n h e =
    pieces_here names (drop at ws) d p n (omega (arith, length-drop at ws)) (ap (λ (b : Bor (List ℕ)). next_piece names b.now (get_or (drop at ws) 1 d).now) (get_or-drop at ws 0 d ∙ ap (λ m. get_or ws m d) (omega arith))
    ∙ ap (λ (b : Bor (List ℕ)). next_piece names (get_or ws at d).now b.now) (get_or-drop at ws 1 d) ∙ e)
    ∙ ap (λ r. with_piece (Some p) (pieces_read names (map (λ w. w.now) r))) (drop_after n at ws)

-- where no piece is read before the last two words, no pieces are read from there
pub no_pieces_at : (names : List (List ℕ)) (ws : List (Bor (List ℕ))) (at : ℕ) (d : Bor (List ℕ)) → at + 2 < length ws → next_piece names (get_or ws at d).now (get_or ws (at + 1) d).now ≡ None
    → pieces_read names (map (λ w. w.now) (drop at ws)) ≡ None
no_pieces_at names ws at d h e =
    none_here names (drop at ws) d (omega (arith, length-drop at ws)) (ap (λ (b : Bor (List ℕ)). next_piece names b.now (get_or (drop at ws) 1 d).now) (get_or-drop at ws 0 d ∙ ap (λ m. get_or ws m d) (omega arith))
    ∙ ap (λ (b : Bor (List ℕ)). next_piece names (get_or ws at d).now b.now) (get_or-drop at ws 1 d) ∙ e)

-- fewer than two words are no pieces
pub few_pieces : (names ws : List (List ℕ)) → length ws < 2 → pieces_read names ws ≡ None
few_pieces names [] h = refl
few_pieces names (a ∷ []) h = refl
few_pieces names (a ∷ b ∷ ws) h = absurd (omega arith)

-- the first comparison alone, before those to come, is that one and those to come
pub first_test : (prefix : List Test) (t : Test) (rest : Option (List Test)) → prefix ≡ t ∷ [] → option_map (λ more. prefix ++ more) rest ≡ with_test (Some t) rest
first_test prefix t rest e = ap (λ f. option_map (λ more. f ++ more) rest) e
