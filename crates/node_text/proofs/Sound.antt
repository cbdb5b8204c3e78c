-- What the machine has read is what its state writes.
use Rattle.std.proofs.Common.{◌≡◌, ◌∙◌, ◌<◌, ◌==◌, ◌&&◌, ℕ, cond, IsTrue, List, [], ◌∷◌, ◌++◌, Option, Some, None, option_and_then, refl, sym, ap, subst, arith, length, append_assoc}
use Rattle.std.specs.List.{AllByRecursion}
use Rattle.std.specs.Str.{IsUtf8}
use Rattle.std.specs.Fmt.{decimal}
use Rattle.std.proofs.lemmas.Str.{IsUtf8-nil, IsUtf8-append}
use Rattle.mix_base.proofs.Utf8.{one_utf8}
use Rattle.mix_base.proofs.Choices.{Gives, either, number_is, and_parts}
use Rattle.mix_base.proofs.Lists.{append_nil}
use Rattle.node_text.specs.Node.{LevelValue, level, node, IsWord, AreWords, ArePlaces, IsLevelSmall}
use Rattle.node_text.specs.Grammar.{place_text, level_text, levels_text, inside_text, text_of, Spells}
use Rattle.node_text.specs.Machine.{Part, piece, tuple, inside, State, root, closed, at, with_level, with_step, with_place, with_digit, is_start, begin, after_level, after_number, after, or_else, step, run, whole_number, whole, first, read_of}
use Rattle.node_text.proofs.Numbers.{number_text, IsLonger, with_digit_is}
use Rattle.node_text.proofs.States.{IsPlace, IsLevel, AreLevels, IsPart, IsState, part_text, state_text}
use Rattle.node_text.proofs.Texts.{each, each_more, between_last, tuple_last, all_more, all_map, some_more}

-- a state is one that is read, and has read this text, the last byte of which is ASCII
pub record Has (x : List ℕ) (b : ℕ) (t : State) : Type 0 where
  pub state : IsState t
  pub text : state_text t ≡ x ++ b ∷ []
  pub ascii : b < 128

-- levels with one more at the end
levels_more : (ls : List LevelValue) (n : ℕ) (ps : List (List ℕ)) → each 47 level_text (with_level ls n ps) ≡ (each 47 level_text ls ++ level_text (level n ps)) ++ 47 ∷ []
levels_more ls n ps = each_more 47 level_text ls (level n ps)

-- the state after a byte that ends a level has the text with that byte
level_step : (ls : List LevelValue) (n : ℕ) (ps : List (List ℕ)) (b : ℕ) → AreLevels ls → IsWord n → AllByRecursion IsPlace ps → Gives (Has (each 47 level_text ls ++ level_text (level n ps)) b) (after_level ls n ps b)
level_step ls n ps b h k p =
    let one : IsLevel (level n ps) = record { piece = k; tuple = p } in
    let all = all_more IsLevel ls (level n ps) h one in
    let x : List ℕ = each 47 level_text ls ++ level_text (level n ps) in
    either (Has x b) (b == 47) (Some (at (piece (with_level ls n ps)) None)) (cond (b == 58) (Some (at (inside (with_level ls n ps) []) None)) None)
    (λ e. let is = number_is b 47 e in record {
      state = (all, tt);
      text = append_nil (each 47 level_text (with_level ls n ps)) ∙ levels_more ls n ps ∙ ap (λ c. x ++ c ∷ []) is;
      ascii = omega (arith, is);
    })
    (λ e. either (Has x b) (b == 58) (Some (at (inside (with_level ls n ps) []) None)) None
    (λ f. let is = number_is b 58 f in record {
      state = ((all, tt, some_more ls (level n ps)), tt);
      text = append_nil (levels_text (with_level ls n ps) ++ 58 ∷ []) ∙ ap (λ r. r ++ 58 ∷ []) (between_last 47 level_text ls (level n ps)) ∙ ap (λ c. x ++ c ∷ []) is;
      ascii = omega (arith, is);
    })
    (λ f. tt))

-- the state after a byte that ends the number of a piece has the text with that byte
piece_step : (ls : List LevelValue) (n b : ℕ) → AreLevels ls → IsWord n → Gives (Has (each 47 level_text ls ++ decimal n) b) (after_number (piece ls) n b)
piece_step ls n b h k =
    let x : List ℕ = each 47 level_text ls ++ decimal n in
    either (Has x b) (b == 40) (Some (at (tuple ls n [] []) None)) (after_level ls n [] b)
    (λ e. let is = number_is b 40 e in record {
      state = ((h, k, tt, tt), tt);
      text = append_nil (each 47 level_text ls ++ (decimal n ++ 40 ∷ [])) ∙ sym (append_assoc (each 47 level_text ls) (decimal n) (40 ∷ [])) ∙ ap (λ c. x ++ c ∷ []) is;
      ascii = omega (arith, is);
    })
    (λ e. subst (λ y. Gives (Has (each 47 level_text ls ++ y) b) (after_level ls n [] b)) (append_nil (decimal n)) (level_step ls n [] b h k tt))

-- the text of a level up to a number of a place
tuple_prefix : List LevelValue → ℕ → List (List ℕ) → List ℕ → List ℕ
tuple_prefix ls n ps y = each 47 level_text ls ++ (decimal n ++ 40 ∷ (each 44 place_text ps ++ y))

-- the text up to a number of a place, with the number and a byte
tuple_parts : (ls : List LevelValue) (k : ℕ) (ps : List (List ℕ)) (y z : List ℕ) → tuple_prefix ls k ps (y ++ z) ≡ tuple_prefix ls k ps y ++ z
unfolding tuple_prefix
tuple_parts ls k ps y z =
    ap (λ r. each 47 level_text ls ++ (decimal k ++ 40 ∷ r)) (sym (append_assoc (each 44 place_text ps) y z))
    ∙ ap (λ r. each 47 level_text ls ++ r) (sym (append_assoc (decimal k) (40 ∷ (each 44 place_text ps ++ y)) z))
    ∙ sym (append_assoc (each 47 level_text ls) (decimal k ++ 40 ∷ (each 44 place_text ps ++ y)) z)

-- the text up to a place that ends with a comma
tuple_place : (ls : List LevelValue) (k : ℕ) (ps : List (List ℕ)) (p : List ℕ) → tuple_prefix ls k (with_place ps p) [] ≡ tuple_prefix ls k ps (place_text p) ++ 44 ∷ []
unfolding tuple_prefix
tuple_place ls k ps p =
    ap (λ r. each 47 level_text ls ++ (decimal k ++ 40 ∷ r)) (append_nil (each 44 place_text (with_place ps p)) ∙ each_more 44 place_text ps p ∙ append_assoc (each 44 place_text ps) (place_text p) (44 ∷ []))
    ∙ tuple_parts ls k ps (place_text p) (44 ∷ [])

-- the text up to a place that ends with the closing parenthesis
tuple_end : (ls : List LevelValue) (k : ℕ) (ps : List (List ℕ)) (p : List ℕ)
    → each 47 level_text ls ++ level_text (level k (with_place ps p)) ≡ tuple_prefix ls k ps (place_text p) ++ 41 ∷ []
unfolding tuple_prefix
tuple_end ls k ps p =
    ap (λ r. each 47 level_text ls ++ (decimal k ++ r)) (tuple_last ps p)
    ∙ ap (λ r. each 47 level_text ls ++ (decimal k ++ 40 ∷ r)) (append_assoc (each 44 place_text ps) (place_text p) (41 ∷ []))
    ∙ tuple_parts ls k ps (place_text p) (41 ∷ [])

-- the text before a number and the number
tuple_number : (ls : List LevelValue) (k : ℕ) (ps : List (List ℕ)) (steps : List ℕ) (n : ℕ)
    → part_text (tuple ls k ps steps) ++ decimal n ≡ tuple_prefix ls k ps (place_text (with_step steps n))
unfolding tuple_prefix
tuple_number ls k ps steps n = sym (tuple_parts ls k ps (each 46 decimal steps) (decimal n)) ∙ ap (tuple_prefix ls k ps) (sym (between_last 46 decimal steps n))

-- the state after a byte that ends a number in parentheses has the text with that byte
tuple_step : (ls : List LevelValue) (k : ℕ) (ps : List (List ℕ)) (steps : List ℕ) (n b : ℕ) → IsPart (tuple ls k ps steps) → IsWord n
    → Gives (Has (part_text (tuple ls k ps steps) ++ decimal n) b) (after_number (tuple ls k ps steps) n b)
unfolding tuple_prefix
tuple_step ls k ps steps n b (h, small, hp, hs) w =
    let q : List ℕ = with_step steps n in
    let x : List ℕ = part_text (tuple ls k ps steps) ++ decimal n in
    let here = tuple_number ls k ps steps n in
    let words : AreWords q = all_more IsWord steps n hs w in
    let places : AllByRecursion IsPlace (with_place ps q) = all_more IsPlace ps q hp (words, some_more steps n) in
    either (Has x b) (b == 46) (Some (at (tuple ls k ps q) None)) (cond (b == 44) (Some (at (tuple ls k (with_place ps q) []) None)) (cond (b == 41) (Some (closed ls k (with_place ps q))) None))
    (λ e. let is = number_is b 46 e in record {
      state = ((h, small, hp, words), tt);
      text = append_nil (part_text (tuple ls k ps q)) ∙ ap (tuple_prefix ls k ps) (each_more 46 decimal steps n)
          ∙ tuple_parts ls k ps (each 46 decimal steps ++ decimal n) (46 ∷ []) ∙ ap (λ r. r ++ 46 ∷ []) (tuple_parts ls k ps (each 46 decimal steps) (decimal n)) ∙ ap (λ c. x ++ c ∷ []) is;
      ascii = omega (arith, is);
    })
    (λ e. either (Has x b) (b == 44) (Some (at (tuple ls k (with_place ps q) []) None)) (cond (b == 41) (Some (closed ls k (with_place ps q))) None)
    (λ f. let is = number_is b 44 f in record {
      state = ((h, small, places, tt), tt);
      text = append_nil (part_text (tuple ls k (with_place ps q) [])) ∙ tuple_place ls k ps q ∙ ap (λ r. r ++ 44 ∷ []) (sym here) ∙ ap (λ c. x ++ c ∷ []) is;
      ascii = omega (arith, is);
    })
    (λ f. either (Has x b) (b == 41) (Some (closed ls k (with_place ps q))) None
    (λ g. let is = number_is b 41 g in record {
      state = (h, small, places);
      text = tuple_end ls k ps q ∙ ap (λ r. r ++ 41 ∷ []) (sym here) ∙ ap (λ c. x ++ c ∷ []) is;
      ascii = omega (arith, is);
    })
    (λ g. tt)))

-- the state after a byte that ends a number of the place below has the text with that byte
inside_step : (ls : List LevelValue) (steps : List ℕ) (n b : ℕ) → IsPart (inside ls steps) → IsWord n
    → Gives (Has (part_text (inside ls steps) ++ decimal n) b) (after_number (inside ls steps) n b)
inside_step ls steps n b (h, hs, some) w =
    let x : List ℕ = part_text (inside ls steps) ++ decimal n in
    either (Has x b) (b == 46) (Some (at (inside ls (with_step steps n)) None)) None
    (λ e. let is = number_is b 46 e in record {
      state = ((h, all_more IsWord steps n hs w, some), tt);
      text = append_nil (part_text (inside ls (with_step steps n))) ∙ ap (λ r. levels_text ls ++ 58 ∷ r) (each_more 46 decimal steps n)
          ∙ sym (append_assoc (levels_text ls) (58 ∷ (each 46 decimal steps ++ decimal n)) (46 ∷ []))
          ∙ ap (λ r. r ++ 46 ∷ []) (sym (append_assoc (levels_text ls) (58 ∷ each 46 decimal steps) (decimal n))) ∙ ap (λ c. x ++ c ∷ []) is;
      ascii = omega (arith, is);
    })
    (λ e. tt)

-- the state after a byte that ends a number has the text with that byte
number_step : (part : Part) (n b : ℕ) → IsPart part → IsWord n → Gives (Has (part_text part ++ decimal n) b) (after_number part n b)
number_step (piece ls) n b h w = piece_step ls n b h w
number_step (tuple ls k ps steps) n b h w = tuple_step ls k ps steps n b h w
number_step (inside ls steps) n b h w = inside_step ls steps n b h w

-- before anything was read the text is empty
start_text : (part : Part) → IsTrue (is_start part) → part_text part ≡ []
start_text (piece []) h = refl
start_text (piece (l ∷ ls)) h = cc
start_text (tuple ls k ps steps) h = cc
start_text (inside ls steps) h = cc

-- the state after a byte that stands where a number must begin and is no digit has the text with that byte
begin_step : (part : Part) (b : ℕ) → Gives (Has (part_text part ++ []) b) (begin part b)
begin_step part b =
    either (Has (part_text part ++ []) b) (is_start part && b == 45) (Some root) None
    (λ e. let parts = and_parts (is_start part) (b == 45) e in
    let is = number_is b 45 parts.1 in
    record { state = tt; text = ap (λ y. y ++ 45 ∷ []) (sym (append_nil (part_text part) ∙ start_text part parts.0)) ∙ ap (λ c. (part_text part ++ []) ++ c ∷ []) is; ascii = omega (arith, is) })
    (λ e. tt)

-- the state after a byte that is no digit, whether a number stands before it or not, has the text with that byte
after_step : (part : Part) (number : Option ℕ) (b : ℕ) → IsState (at part number) → Gives (Has (state_text (at part number)) b) (after part number b)
after_step part None b h = begin_step part b
after_step part (Some n) b h = number_step part n b h.0 h.1

-- the state at a longer number, or else another one, has the text with that byte
longer_step : (part : Part) (number longer : Option ℕ) (b : ℕ) (other : Option State) → IsPart part → Gives (IsLonger number b) longer
    → Gives (Has (state_text (at part number)) b) other → Gives (Has (state_text (at part number)) b) (or_else part longer other)
longer_step part number None b other h l k = k
longer_step part number (Some n) b other h l k = record {
  state = (h, l.small);
  text = ap (λ r. part_text part ++ r) (sym l.text) ∙ sym (append_assoc (part_text part) (number_text number) (b ∷ []));
  ascii = l.ascii;
}

-- the state after a byte has the text with that byte
pub step_has : (s : State) (b : ℕ) → IsState s → Gives (Has (state_text s) b) (step s b)
step_has root b h = tt
step_has (closed ls n ps) b h = level_step ls n ps b h.0 h.1 h.2
step_has (at part number) b h = longer_step part number (with_digit number b) b (after part number b) h.0 (with_digit_is number b) (after_step part number b h)

-- a state has read what another one had, and a text after it, which is UTF-8
pub record Ran (s : State) (x : List ℕ) (t : State) : Type 0 where
  pub state : IsState t
  pub text : state_text t ≡ state_text s ++ x
  pub utf8 : IsUtf8 x

-- a run that begins with a byte has read that byte and what follows
after_byte : (s : State) (b : ℕ) (x : List ℕ) (o : Option State) → ((t : State) → IsState t → Gives (Ran t x) (run t x)) → Gives (Has (state_text s) b) o
    → Gives (Ran s (b ∷ x)) (option_and_then (λ t. run t x) o)
after_byte s b x None f h = tt
after_byte s b x (Some t) f h = on (run t x) (f t h.state)
  where
    on : (o : Option State) → Gives (Ran t x) o → Gives (Ran s (b ∷ x)) o
    on None k = tt
    on (Some u) k = record {
      state = k.state;
      text = k.text ∙ ap (λ y. y ++ x) h.text ∙ append_assoc (state_text s) (b ∷ []) x;
      utf8 = IsUtf8-append (b ∷ []) x (one_utf8 b h.ascii) k.utf8;
    }

-- a run has read its text
pub run_has : (x : List ℕ) (s : State) → IsState s → Gives (Ran s x) (run s x)
run_has [] s h = record { state = h; text = sym (append_nil (state_text s)); utf8 = IsUtf8-nil }
run_has (b ∷ x) s h = after_byte s b x (step s b) (λ t. run_has x t) (step_has s b h)

-- a place of a level is not empty, and its numbers have 64 bits
places_of : (ps : List (List ℕ)) → AllByRecursion IsPlace ps → ArePlaces ps × AllByRecursion AreWords ps
places_of ps h = (all_map IsPlace (λ p. 0 < length p) (λ p k. k.1) ps h, all_map IsPlace AreWords (λ p k. k.0) ps h)

-- levels that are read are formed and small
levels_of : (ls : List LevelValue) → AreLevels ls → AllByRecursion (λ l. ArePlaces l.tuple) ls × AllByRecursion IsLevelSmall ls
levels_of ls h = (
  all_map IsLevel (λ l. ArePlaces l.tuple) (λ l k. (places_of l.tuple k.tuple).0) ls h,
  all_map IsLevel IsLevelSmall (λ l k. record { piece = k.piece; tuple = (places_of l.tuple k.tuple).1 }) ls h,
)

-- levels and a place below are spelled by their text
spelled : (x : List ℕ) (ls : List LevelValue) (p : List ℕ) → AreLevels ls → AreWords p → 0 < length ls → text_of ls p ≡ x → Spells x (node ls p)
spelled x ls p h w some e = record {
  formed = record { root = λ none. absurd (omega (arith, some, ap length none)); places = (levels_of ls h).0 };
  small = record { levels = (levels_of ls h).1; inside = w };
  text = e;
}

-- levels and one more after them, with no place below, are written one by one with the last at the end
alone_text : (ls : List LevelValue) (l : LevelValue) → text_of (ls ++ l ∷ []) [] ≡ each 47 level_text ls ++ level_text l
alone_text [] l = append_nil (levels_text (l ∷ [])) ∙ append_nil (level_text l)
alone_text (m ∷ ls) l = append_nil (levels_text (m ∷ ls ++ l ∷ [])) ∙ between_last 47 level_text (m ∷ ls) l

-- levels and a place below are written with the last number at the end
inside_number : (ls : List LevelValue) (steps : List ℕ) (n : ℕ) → 0 < length ls → text_of ls (with_step steps n) ≡ levels_text ls ++ 58 ∷ (each 46 decimal steps ++ decimal n)
inside_number [] steps n some = absurd (omega arith)
inside_number (l ∷ ls) steps n some = ap (λ r. levels_text (l ∷ ls) ++ r) (by_steps steps)
  where
    by_steps : (q : List ℕ) → inside_text (with_step q n) ≡ 58 ∷ (each 46 decimal q ++ decimal n)
    by_steps [] = ap (λ r. 58 ∷ r) (between_last 46 decimal [] n)
    by_steps (m ∷ q) = ap (λ r. 58 ∷ r) (between_last 46 decimal (m ∷ q) n)

-- what may end after a number is spelled
number_spells : (x : List ℕ) (part : Part) (n : ℕ) → IsPart part → IsWord n → part_text part ++ decimal n ≡ x → Gives (Spells x) (whole_number part n)
number_spells x (piece ls) n h w e =
    let l : LevelValue = level n [] in
    spelled x (with_level ls n []) [] (all_more IsLevel ls l h (record { piece = w; tuple = tt })) tt (some_more ls l) (alone_text ls l ∙ ap (λ r. each 47 level_text ls ++ r) (append_nil (decimal n)) ∙ e)
number_spells x (tuple ls k ps steps) n h w e = tt
number_spells x (inside ls steps) n h w e =
    spelled x ls (with_step steps n) h.0 (all_more IsWord steps n h.1 w) h.2
    (inside_number ls steps n h.2 ∙ sym (append_assoc (levels_text ls) (58 ∷ each 46 decimal steps) (decimal n)) ∙ e)

-- a state that may end is spelled by the text that it has read
pub whole_spells : (x : List ℕ) (s : State) → IsState s → state_text s ≡ x → Gives (Spells x) (whole s)
whole_spells x root h e = record { formed = record { root = λ z. refl; places = tt }; small = record { levels = tt; inside = tt }; text = e }
whole_spells x (closed ls n ps) h e =
    let l : LevelValue = level n ps in
    spelled x (with_level ls n ps) [] (all_more IsLevel ls l h.0 (record { piece = h.1; tuple = h.2 })) tt (some_more ls l) (alone_text ls l ∙ e)
whole_spells x (at part None) h e = tt
whole_spells x (at part (Some n)) h e = number_spells x part n h.0 h.1 e

-- a run that may end is spelled by its text
ran_spells : (x : List ℕ) (o : Option State) → Gives (Ran first x) o → Gives (Spells x) (option_and_then whole o)
ran_spells x None h = tt
ran_spells x (Some s) h = whole_spells x s h.state h.text

-- what is read is spelled
pub read_spells : (x : List ℕ) → Gives (Spells x) (read_of x)
read_spells x = ran_spells x (run first x) (run_has x first (tt, tt))
