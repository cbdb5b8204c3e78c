-- How long the text before a token is.
use Rattle.std.proofs.Common.{◌≡◌, ◌+◌, ℕ, List, [], ◌∷◌, refl, arith, length, length-append}
use Rattle.path_expr.specs.Grammar as paths
use Rattle.xmas_text.specs.Grammar.{Keys, none, first, more, Items, items_text, keys_text, conds_text, construct_text}
use Rattle.xmas_tokens.specs.Tokens.{op_text}
use Rattle.xmas_text.specs.Spots.{Frame, Place, at_first, at_more, Before, first_cond, also_cond, Start, by_name, by_var, Spot, beginning, items, labelled, keys, key_comma, key_label, cond_start, cond_from, cond_path, cond_done, compared, ordering, ordering_by, sorted}
use Rattle.xmas_text.specs.Drafted.{level_place, brace_place, head_place, before_place}
use Rattle.xmas_text.proofs.Texts.{outer_text, base, before_text, start_text, spot_text, IsPlace, IsSpot}

-- where a key's variable begins after `label`, in a group label with these keys
abbrev key_label_end : ℕ → Keys → Place → List ℕ → ℕ
key_label_end at ks at_first f = at + length f + 5
key_label_end at ks (at_more h) f = at + length (keys_text ks) + length h + 1 + length f + 5

-- where the first word of a condition ends that begins at a place
abbrev pub start_end : ℕ → Start → ℕ
start_end at (by_name n) = at + length n
start_end at (by_var v) = at + 1 + length v

-- where the text of a spot ends
abbrev pub spot_end : Spot → ℕ
spot_end beginning = 0
spot_end (items lead o xs) = level_place lead o + length (items_text xs)
spot_end (labelled lead o xs g) = brace_place lead o xs g + 5
spot_end (keys lead o xs g ks) = brace_place lead o xs g + 1 + length (keys_text ks)
spot_end (key_comma lead o xs g ks h) = brace_place lead o xs g + 1 + length (keys_text ks) + length h + 1
spot_end (key_label lead o xs g ks p f) = key_label_end (brace_place lead o xs g + 1) ks p f
spot_end (cond_start r b) = before_place (head_place r) b
spot_end (cond_from r b g s) = start_end (before_place (head_place r) b + length g) s
spot_end (cond_path r b g s h p) = start_end (before_place (head_place r) b + length g) s + length h + length (paths.text_of p)
spot_end (cond_done r cs) = head_place r + length (conds_text cs)
spot_end (compared r b g v h o) = before_place (head_place r) b + length g + 1 + length v + length h + length (op_text o)
spot_end (ordering r cs g) = head_place r + length (conds_text cs) + length g + 5
spot_end (ordering_by r cs g h) = head_place r + length (conds_text cs) + length g + 5 + length h + 2
spot_end (sorted r cs o) = length (spot_text (sorted r cs o))

-- the text up to the items of the innermost open element is as long as their place says
outer_length : (lead : List ℕ) (o : List Frame) → length lead + (length construct_text + length (outer_text o)) ≡ level_place lead o
outer_length lead [] = omega arith
outer_length lead (f ∷ o) =
    let here = outer_length lead o in
    simp length-append (omega (arith, here))

-- the text up to the end of the items that have been read is as long as their place and their own text
base_length : (lead : List ℕ) (o : List Frame) (xs : Items) → length (base lead o xs) ≡ level_place lead o + length (items_text xs)
base_length lead o xs =
    let here = outer_length lead o in
    simp length-append (omega (arith, here))

-- the text of the conditions before the one at hand is as long as the place of that one says
before_length : (n : ℕ) (b : Before) → n + length (before_text b) ≡ before_place n b
before_length n first_cond = omega arith
before_length n (also_cond cs g) = simp length-append (omega arith)

-- the first word of a condition ends where its place says
start_length : (n : ℕ) (s : Start) → n + length (start_text s) ≡ start_end n s
start_length n (by_name l) = refl
start_length n (by_var v) = omega arith

-- the text up to `label` as a key is as long as the places say
key_label_length : (lead : List ℕ) (o : List Frame) (xs : Items) (g : List ℕ) (ks : Keys) (p : Place) (f : List ℕ) → IsPlace ks p
    → length (spot_text (key_label lead o xs g ks p f)) ≡ key_label_end (brace_place lead o xs g + 1) ks p f
key_label_length lead o xs g none at_first f h = let here = outer_length lead o in simp length-append (omega (arith, here))
key_label_length lead o xs g (first e k) at_first f h = absurd h
key_label_length lead o xs g (more ks e i k) at_first f h = absurd h
key_label_length lead o xs g ks (at_more i) f h = let here = outer_length lead o in simp length-append (omega (arith, here))

-- the text of each spot ends where the spot's place says
pub spot_length : (s : Spot) → IsSpot s → length (spot_text s) ≡ spot_end s
spot_length beginning h = refl
spot_length (items lead o xs) h = base_length lead o xs
spot_length (labelled lead o xs g) h = let here = outer_length lead o in simp length-append (omega (arith, here))
spot_length (keys lead o xs g ks) h = let here = outer_length lead o in simp length-append (omega (arith, here))
spot_length (key_comma lead o xs g ks i) h = let here = outer_length lead o in simp length-append (omega (arith, here))
spot_length (key_label lead o xs g ks p f) h = key_label_length lead o xs g ks p f h.5
spot_length (cond_start r b) h =
    let there = before_length (head_place r) b in
    simp length-append (omega (arith, there))
spot_length (cond_from r b g s) h =
    let there = before_length (head_place r) b in
    let word = start_length (before_place (head_place r) b + length g) s in
    simp length-append (omega (arith, there, word))
spot_length (cond_path r b g s i p) h =
    let there = before_length (head_place r) b in
    let word = start_length (before_place (head_place r) b + length g) s in
    simp length-append (omega (arith, there, word))
spot_length (cond_done r cs) h = simp length-append (omega arith)
spot_length (compared r b g v i o) h =
    let there = before_length (head_place r) b in
    simp length-append (omega (arith, there))
spot_length (ordering r cs g) h = simp length-append (omega arith)
spot_length (ordering_by r cs g i) h = simp length-append (omega arith)
spot_length (sorted r cs o) h = refl
