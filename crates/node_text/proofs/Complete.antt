-- What is spelled is read.
use Rattle.std.proofs.Common.{◌≡◌, ◌∙◌, ◌<◌, ◌≤◌, ◌+◌, ◌*◌, ◌/◌, ◌%◌, ℕ, List, [], ◌∷◌, ◌++◌, Option, Some, None, option_and_then, refl, sym, ap, subst, arith, length, append_assoc}
use Rattle.std.specs.List.{AllByRecursion}
use Rattle.std.specs.Fmt.{decimal}
use Rattle.std.proofs.lemmas.Fmt.{decimal_by_steps}
use Rattle.mix_base.proofs.Runs.{run_then}
use Rattle.mix_base.proofs.Lists.{append_nil}
use Rattle.node_text.specs.Node.{LevelValue, level, NodeValue, node, IsWord, AreWords, ArePlaces, IsLevelSmall}
use Rattle.node_text.specs.Grammar.{between, place_text, tuple_text, level_text, levels_text, text_of, Spells}
use Rattle.node_text.specs.Machine.{Part, piece, tuple, inside, State, closed, at, with_level, with_step, with_place, after_number, after, or_else, step, run, whole, first, read_of}
use Rattle.node_text.proofs.Numbers.{digit_first, digit_more}
use Rattle.node_text.proofs.States.{IsPlace, IsLevel, AreLevels}
use Rattle.node_text.proofs.Texts.{all_both}

-- a run over two texts, by the state after the first
then : (x y : List ℕ) (s t : State) (o : Option State) → run s x ≡ Some t → run t y ≡ o → run s (x ++ y) ≡ o
then x y s t o e f = run_then step x y s t e ∙ f

-- a run that begins with a byte
by_byte : (b : ℕ) (y : List ℕ) (s t : State) (o : Option State) → step s b ≡ Some t → run t y ≡ o → run s (b ∷ y) ≡ o
by_byte b y s t o e f = ap (option_and_then (λ u. run u y)) e ∙ f

-- a number is read where one must begin
IsNumberRead : ℕ → List ℕ → Type 0
IsNumberRead n x = IsWord n → (part : Part) → run (at part None) x ≡ Some (at part (Some n))

-- a digit is read
digit_read : (n : ℕ) → n < 10 → IsNumberRead n ((48 + n) ∷ [])
unfolding IsNumberRead
digit_read n low w part = by_byte (48 + n) [] (at part None) (at part (Some n)) (Some (at part (Some n))) (ap (λ m. or_else part m (after part None (48 + n))) (digit_first n low)) refl

-- a number is read where the number without its last digit is
longer_read : (n : ℕ) (ds : List ℕ) → 10 ≤ n → IsNumberRead (n / 10) ds → IsNumberRead n (ds ++ (48 + n % 10) ∷ [])
unfolding IsNumberRead
longer_read n ds ten h w part =
    let m : ℕ = n / 10 in
    let d : ℕ = n % 10 in
    let parts : m * 10 + d ≡ n = omega arith in
    let word : IsWord (m * 10 + d) = omega (arith, parts, w) in
    let digit = digit_more m d (omega arith) (omega arith) word in
    then ds ((48 + d) ∷ []) (at part None) (at part (Some m)) (Some (at part (Some n))) (h (omega (arith, parts, w)) part)
    (by_byte (48 + d) [] (at part (Some m)) (at part (Some n)) (Some (at part (Some n)))
    (ap (λ k. or_else part k (after part (Some m) (48 + d))) (digit ∙ ap (λ k. Some k) parts)) refl)

-- a number is read
number_read : (n : ℕ) → IsWord n → (part : Part) → run (at part None) (decimal n) ≡ Some (at part (Some n))
unfolding IsNumberRead
number_read n h part = decimal_by_steps IsNumberRead digit_read longer_read n h h part

-- a state at the last number of a place
pub record Ends (at_steps : List ℕ → Part) (p : List ℕ) (o : Option State) : Type 0 where
  pub before : List ℕ
  pub last : ℕ
  pub place : with_step before last ≡ p
  pub state : o ≡ Some (at (at_steps before) (Some last))

-- a number and a dot lead to the next number
IsDotted : (List ℕ → Part) → Type 0
IsDotted at_steps = (steps : List ℕ) (n : ℕ) → after_number (at_steps steps) n 46 ≡ Some (at (at_steps (with_step steps n)) None)

-- a place is read up to its last number
place_read : (at_steps : List ℕ → Part) → IsDotted at_steps → (n : ℕ) (p steps : List ℕ) → AreWords (n ∷ p) → Ends at_steps (steps ++ n ∷ p) (run (at (at_steps steps) None) (place_text (n ∷ p)))
unfolding IsDotted
place_read at_steps dots n [] steps (w, ws) = record {
  before = steps;
  last = n;
  place = refl;
  state = ap (run (at (at_steps steps) None)) (append_nil (decimal n)) ∙ number_read n w (at_steps steps);
}
place_read at_steps dots n (m ∷ p) steps (w, ws) =
    let rest = place_read at_steps dots m p (with_step steps n) ws in
    record {
      before = rest.before;
      last = rest.last;
      place = rest.place ∙ append_assoc steps (n ∷ []) (m ∷ p);
      state = then (decimal n) (46 ∷ place_text (m ∷ p)) (at (at_steps steps) None) (at (at_steps steps) (Some n)) (Some (at (at_steps rest.before) (Some rest.last))) (number_read n w (at_steps steps))
          (by_byte 46 (place_text (m ∷ p)) (at (at_steps steps) (Some n)) (at (at_steps (with_step steps n)) None) (Some (at (at_steps rest.before) (Some rest.last))) (dots steps n) rest.state);
    }

-- a place of a level is read up to its last number
tuple_place_read : (ls : List LevelValue) (k : ℕ) (ps : List (List ℕ)) (p : List ℕ) → IsPlace p → Ends (tuple ls k ps) p (run (at (tuple ls k ps []) None) (place_text p))
unfolding IsDotted
tuple_place_read ls k ps [] h = absurd (omega (arith, h.1))
tuple_place_read ls k ps (n ∷ p) h = place_read (tuple ls k ps) (λ steps m. refl) n p [] h.0

-- places of a level are read up to their end
places_read : (ls : List LevelValue) (k : ℕ) (before : List (List ℕ)) (p : List ℕ) (ps : List (List ℕ)) → AllByRecursion IsPlace (p ∷ ps)
    → run (at (tuple ls k before []) None) (between 44 place_text (p ∷ ps) ++ 41 ∷ []) ≡ Some (closed ls k (before ++ p ∷ ps))
places_read ls k before p [] h =
    let e = tuple_place_read ls k before p h.0 in
    ap (λ y. run (at (tuple ls k before []) None) (y ++ 41 ∷ [])) (append_nil (place_text p))
    ∙ then (place_text p) (41 ∷ []) (at (tuple ls k before []) None) (at (tuple ls k before e.before) (Some e.last)) (Some (closed ls k (before ++ p ∷ []))) e.state
    (ap (λ q. Some (closed ls k (before ++ q ∷ []))) e.place)
places_read ls k before p (q ∷ ps) h =
    let e = tuple_place_read ls k before p h.0 in
    let rest = places_read ls k (with_place before p) q ps h.1 in
    ap (run (at (tuple ls k before []) None)) (append_assoc (place_text p) (44 ∷ between 44 place_text (q ∷ ps)) (41 ∷ []))
    ∙ then (place_text p) (44 ∷ (between 44 place_text (q ∷ ps) ++ 41 ∷ [])) (at (tuple ls k before []) None) (at (tuple ls k before e.before) (Some e.last))
    (Some (closed ls k (before ++ p ∷ q ∷ ps))) e.state
    (by_byte 44 (between 44 place_text (q ∷ ps) ++ 41 ∷ []) (at (tuple ls k before e.before) (Some e.last)) (at (tuple ls k (with_place before p) []) None)
    (Some (closed ls k (before ++ p ∷ q ∷ ps))) (ap (λ r. Some (at (tuple ls k (with_place before r) []) None)) e.place)
    (rest ∙ ap (λ r. Some (closed ls k r)) (append_assoc before (p ∷ []) (q ∷ ps))))

-- a state at the end of some levels
pub record EndsLevels (ls : List LevelValue) (o : Option State) : Type 0 where
  pub state : State
  pub is : o ≡ Some state
  pub slash : step state 47 ≡ Some (at (piece ls) None)
  pub colon : step state 58 ≡ Some (at (inside ls []) None)
  pub ended : whole state ≡ Some (node ls [])

-- a level is read
level_read : (ls : List LevelValue) (n : ℕ) (ps : List (List ℕ)) → IsLevel (level n ps) → EndsLevels (with_level ls n ps) (run (at (piece ls) None) (level_text (level n ps)))
level_read ls n [] h = record {
  state = at (piece ls) (Some n);
  is = ap (run (at (piece ls) None)) (append_nil (decimal n)) ∙ number_read n h.piece (piece ls);
  slash = refl;
  colon = refl;
  ended = refl;
}
level_read ls n (p ∷ ps) h = record {
  state = closed ls n (p ∷ ps);
  is = then (decimal n) (tuple_text (p ∷ ps)) (at (piece ls) None) (at (piece ls) (Some n)) (Some (closed ls n (p ∷ ps))) (number_read n h.piece (piece ls))
      (places_read ls n [] p ps h.tuple);
  slash = refl;
  colon = refl;
  ended = refl;
}

-- levels are read
levels_read : (before : List LevelValue) (l : LevelValue) (ls : List LevelValue) → AreLevels (l ∷ ls) → EndsLevels (before ++ l ∷ ls) (run (at (piece before) None) (levels_text (l ∷ ls)))
levels_read before l [] h =
    subst (λ y. EndsLevels (before ++ l ∷ []) (run (at (piece before) None) y)) (sym (append_nil (level_text l))) (level_read before l.piece l.tuple h.0)
levels_read before l (m ∷ ls) h =
    let one = level_read before l.piece l.tuple h.0 in
    let rest = levels_read (before ++ l ∷ []) m ls h.1 in
    let same : (before ++ l ∷ []) ++ m ∷ ls ≡ before ++ l ∷ m ∷ ls = append_assoc before (l ∷ []) (m ∷ ls) in
    subst (λ all. EndsLevels all (run (at (piece before) None) (levels_text (l ∷ m ∷ ls)))) same (record {
      state = rest.state;
      is = then (level_text l) (47 ∷ levels_text (m ∷ ls)) (at (piece before) None) one.state (Some rest.state) one.is
          (by_byte 47 (levels_text (m ∷ ls)) one.state (at (piece (before ++ l ∷ [])) None) (Some rest.state) one.slash rest.is);
      slash = rest.slash;
      colon = rest.colon;
      ended = rest.ended;
    })

-- a number of the place below and a dot lead to the next number of it
inside_dotted : (ls : List LevelValue) → IsDotted (inside ls)
unfolding IsDotted
inside_dotted ls steps n = refl

-- levels and a place below are read
text_read : (ls : List LevelValue) (p : List ℕ) → AreLevels ls → AreWords p → (ls ≡ [] → p ≡ []) → read_of (text_of ls p) ≡ Some (node ls p)
text_read [] p h w none = ap (λ q. Some (node [] q)) (sym (none refl))
text_read (l ∷ ls) [] h w some =
    let e = levels_read [] l ls h in
    ap (λ y. option_and_then whole (run first y)) (append_nil (levels_text (l ∷ ls))) ∙ ap (option_and_then whole) e.is ∙ e.ended
text_read (l ∷ ls) (n ∷ p) h w some =
    let e = levels_read [] l ls h in
    let i = place_read (inside (l ∷ ls)) (inside_dotted (l ∷ ls)) n p [] w in
    ap (option_and_then whole)
    (then (levels_text (l ∷ ls)) (58 ∷ place_text (n ∷ p)) first e.state (Some (at (inside (l ∷ ls) i.before) (Some i.last))) e.is
    (by_byte 58 (place_text (n ∷ p)) e.state (at (inside (l ∷ ls) []) None) (Some (at (inside (l ∷ ls) i.before) (Some i.last))) e.colon i.state))
    ∙ ap (λ q. Some (node (l ∷ ls) q)) i.place

-- formed and small levels are as they are read
levels_both : (ls : List LevelValue) → AllByRecursion (λ l. ArePlaces l.tuple) ls → AllByRecursion IsLevelSmall ls → AreLevels ls
levels_both [] h k = tt
levels_both (l ∷ ls) h k =
    (record { piece = k.0.piece; tuple = all_both AreWords (λ p. 0 < length p) l.tuple k.0.tuple h.0 }, levels_both ls h.1 k.1)

-- what is spelled is read
pub spells_read : (x : List ℕ) (n : NodeValue) → Spells x n → read_of x ≡ Some n
spells_read x n h =
    ap read_of (sym h.text) ∙ text_read n.levels n.inside (levels_both n.levels h.formed.places h.small.levels) h.small.inside h.formed.root
