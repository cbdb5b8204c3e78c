-- A line asks for the select of a label where it spells that label after its words, and there alone.
use Rattle.std.proofs.Common.{◌≡◌, ◌⊎◌, ◌+◌, ◌∙◌, ℕ, Bool, true, false, cond, ◌&&◌, ◌==◌, List, [], ◌∷◌, ◌++◌, Option, Some, None, option_and_then, refl, sym, ap, subst, arith, length, take, drop, inl, inr}
use Rattle.std.specs.Prelude.{IsTrue, codes}
use Rattle.std.specs.Str.{bytes_eq}
use Rattle.std.proofs.lemmas.Bool.Decides.{nat_tests}
use Rattle.std.proofs.lemmas.List.{take-append-drop}
use Rattle.std.proofs.lemmas.Slice.Eq.{bytes_eq-Decides}
use Rattle.std.proofs.Math.Seq.{take-append_seam, drop-append_seam}
use Rattle.mix_base.proofs.Choices.{and_parts, some_is, none_some, Gives}
use Rattle.mix_tree.specs.LabelGrammar.{SpellsLabel}
use Rattle.mix_tree.specs.LabelMachine.{Spot, start, in_bare, in_quotes, in_escape, after_quote, step, run, label_in, Seen, got, unexpected, ends, seen_from}
use Rattle.mix_tree.proofs.LabelAnswers.{run_writes_some}
use Rattle.mix_tree.proofs.LabelComplete.{spelled_reads}
use Rattle.mix_tree.proofs.LabelSeen.{Saw, Stops, saw}
use Rattle.mix_tree.proofs.LabelSound.{label_spelled}
use Rattle.mix_tree.proofs.LabelTaken.{seen_byte}
use Rattle.mix_words.specs.Places.{ends_blank, place_of_word}
use Rattle.mix_words.specs.Words.{is_blank, is_name, words_of, with_first, ends_word}
use Rattle.mix_words.proofs.WordPlaces.{place_apart, place_found}
use Rattle.mix_script.specs.Forms.{act_of, id_act_of, act_by, is_select_form, select_of}
use Rattle.mix_script.specs.Lines.{no_words, label_alone, act_from, act_in}
use Rattle.mix_script.specs.Selects.{IsSelectOf, SelectsAreSpelled}
use Rattle.mix_script.specs.declared.step.Act.TheVariants.{Select}
use Rattle.mix_script.specs.declared.step.Forms.{Forms}
use Rattle.mix_script.specs.declared.step.Forms.TheVariants.{Plain, WithIds}
use Rattle.mix_script.proofs.ActForms.{NoSelect, no_select_of, no_select_id, either_gives}

-- OTHER FORMS

-- words before no label ask for no select
no_select : {Q : Type 0} (forms : Forms) (words : List (List ℕ)) (x y label : List ℕ) → act_by forms words ≡ Some (Select x y label) → Q
no_select Plain words x y label e = absurd (subst (Gives NoSelect) e (no_select_of words))
no_select WithIds words x y label e = absurd (subst (Gives NoSelect) e (either_gives NoSelect (act_of words) (id_act_of words) (no_select_of words) (no_select_id words)))

-- THE WORDS IN FRONT

-- the words of a select, and what it asks for
record SelectWords (words : List (List ℕ)) (x y label given : List ℕ) : Type 0 where
  are : words ≡ x ∷ codes "=" ∷ codes "select" ∷ y ∷ []
  names : IsTrue (is_name x) × IsTrue (is_name y)
  label_is : given ≡ label

-- words that ask for the select of a label are X = select Y
select_words : (words : List (List ℕ)) (x y label given : List ℕ) → select_of words given ≡ Some (Select x y label) → SelectWords words x y label given
select_words [] x y label given e = none_some _ e
select_words (a ∷ []) x y label given e = none_some _ e
select_words (a ∷ b ∷ []) x y label given e = none_some _ e
select_words (a ∷ b ∷ c ∷ []) x y label given e = none_some _ e
select_words (a ∷ is ∷ command ∷ b ∷ []) x y label given e = formed (is_select_form a is command b) refl e
  where
    formed : (t : Bool) → is_select_form a is command b ≡ t → cond t (Some (Select a b given)) None ≡ Some (Select x y label)
        → SelectWords (a ∷ is ∷ command ∷ b ∷ []) x y label given
    formed false f h = none_some _ h
    formed true f h =
        let same = some_is (Select a b given) (Select x y label) h in
        let last = and_parts (is_name a && bytes_eq is (codes "=") && bytes_eq command (codes "select")) (is_name b) f in
        let third = and_parts (is_name a && bytes_eq is (codes "=")) (bytes_eq command (codes "select")) last.0 in
        let second = and_parts (is_name a) (bytes_eq is (codes "=")) third.0 in
        let one : is ≡ codes "=" = (bytes_eq-Decides is (codes "=")).0 second.1 in
        let two : command ≡ codes "select" = (bytes_eq-Decides command (codes "select")).0 third.1 in
        let left : a ≡ x = cc in
        let right : b ≡ y = cc in
        record {
          are = ap (λ w. w ∷ is ∷ command ∷ b ∷ []) left ∙ ap (λ w. x ∷ w ∷ command ∷ b ∷ []) one ∙ ap (λ w. x ∷ codes "=" ∷ w ∷ b ∷ []) two ∙ ap (λ w. x ∷ codes "=" ∷ codes "select" ∷ w ∷ []) right;
          names = (subst (λ w. IsTrue (is_name w)) left second.0, subst (λ w. IsTrue (is_name w)) right last.1);
          label_is = cc;
        }
select_words (a ∷ b ∷ c ∷ d ∷ f ∷ words) x y label given e = none_some _ e

-- the words X = select Y ask for the select of the label after them
words_select : (x y label : List ℕ) → IsTrue (is_name x) → IsTrue (is_name y) → select_of (x ∷ codes "=" ∷ codes "select" ∷ y ∷ []) label ≡ Some (Select x y label)
words_select x y label h k = rw (h, k) refl

-- THE LABEL AFTER THEM

-- what is seen after words with which a line asks for a select
seen_select : (line : List ℕ) (at : ℕ) (x y label : List ℕ) (seen : Seen) → IsTrue (ends_blank true (take at line)) → Saw start at (drop at line) seen
    → option_and_then (select_of (words_of (take at line))) (label_alone seen) ≡ Some (Select x y label) → IsSelectOf line x y label
seen_select line at x y label (unexpected j) apart saw e = none_some _ e
seen_select line at x y label ends apart saw e = none_some _ e
seen_select line at x y label (got given j after) apart saw e = wordless (words_of after) refl e
  where
    wordless : (ws : List (List ℕ)) → words_of after ≡ ws → option_and_then (select_of (words_of (take at line))) (cond (no_words ws) (Some given) None) ≡ Some (Select x y label) → IsSelectOf line x y label
    wordless (w ∷ ws) none h = none_some _ h
    wordless [] none h =
        let s = select_words (words_of (take at line)) x y label given h in
        record {
          prefix = take at line;
          spelled = saw.spelled;
          after = after;
          parts = sym (take-append-drop at line) ∙ ap (λ z. take at line ++ z) saw.parts;
          words = s.are;
          names = s.names;
          apart = apart;
          spells = subst (SpellsLabel saw.spelled) s.label_is (label_spelled saw.spelled saw.spot given (run_writes_some saw.spelled saw.spot saw.runs) saw.label);
          alone = none;
        }

-- a line that asks for a select is of its form
asked_is_spelled : (forms : Forms) (line x y label : List ℕ) (place : Option ℕ) → place_of_word 4 line ≡ place → act_from forms line place ≡ Some (Select x y label) → IsSelectOf line x y label
asked_is_spelled forms line x y label None p e = no_select forms (words_of line) x y label e
asked_is_spelled forms line x y label (Some at) p e =
    seen_select line at x y label (seen_from start at (drop at line)) (place_apart line 4 at p) (saw (drop at line) start at) e

-- THE SPELLING AND WHAT IS SEEN

-- a blank is a space or a tab
blank_cases : (b : ℕ) → is_blank b ≡ true → (b ≡ 32) ⊎ (b ≡ 9)
blank_cases b h = (elim (b == 32) as (λ t. (b == 32) ≡ t → (b ≡ 32) ⊎ (b ≡ 9)) [
  | true ↦ λ e. inl (grind (arith, nat_tests, e))
  | false ↦ λ e. inr (grind (arith, nat_tests, e, h))
]) refl

-- no spelling begins with a blank
blank_begins_none : (b : ℕ) → (b ≡ 32) ⊎ (b ≡ 9) → step start b ≡ None
blank_begins_none b (inl e) = rw e refl
blank_begins_none b (inr e) = rw e refl

-- no spelling that may end goes on with a blank
blank_stops : (t : Spot) (l : List ℕ) (b : ℕ) → label_in t ≡ Some l → (b ≡ 32) ⊎ (b ≡ 9) → step t b ≡ None
blank_stops start l b e h = none_some l e
blank_stops (in_bare k) l b e (inl h) = rw h refl
blank_stops (in_bare k) l b e (inr h) = rw h refl
blank_stops (in_quotes k) l b e h = none_some l e
blank_stops (in_escape k) l b e h = none_some l e
blank_stops (after_quote k) l b e h = refl

-- a byte that is no blank begins a word
word_begins : {Q : Type 0} (b : ℕ) (bs : List ℕ) → is_blank b ≡ false → words_of (b ∷ bs) ≡ [] → Q
word_begins {Q} b bs e h = begun (words_of bs) (ends_word bs) (sym (ap (λ t. cond t (words_of bs) (cond (ends_word bs) ((b ∷ []) ∷ words_of bs) (with_first b (words_of bs)))) e) ∙ h)
  where
    begun : (ws : List (List ℕ)) (t : Bool) → cond t ((b ∷ []) ∷ ws) (with_first b ws) ≡ [] → Q
    begun ws true k = cc
    begun [] false k = cc
    begun (w ∷ ws) false k = cc

-- a text without words stops a spelling that may end
wordless_stops : (t : Spot) (l y : List ℕ) → label_in t ≡ Some l → words_of y ≡ [] → Stops t y
wordless_stops t l [] e h = tt
wordless_stops t l (b ∷ bs) e h = (elim (is_blank b) as (λ s. is_blank b ≡ s → step t b ≡ None) [
  | true ↦ λ k. blank_stops t l b e (blank_cases b k)
  | false ↦ λ k. word_begins b bs k h
]) refl

-- a label is seen after its spelling, where that stops
seen_spelled : (w : List ℕ) (s t : Spot) (i : ℕ) (l y : List ℕ) → run s w ≡ Some t → label_in t ≡ Some l → Stops t y → seen_from s i (w ++ y) ≡ got l (i + length w) y
seen_spelled [] s t i l [] r e h =
    let same : s ≡ t = some_is s t r in
    let is : label_in s ≡ Some l = ap label_in same ∙ e in
    let place : i ≡ i + 0 = omega arith in rw is (ap (λ j. got l j []) place)
seen_spelled [] s t i l (b ∷ y) r e h =
    let same : s ≡ t = some_is s t r in
    let is : label_in s ≡ Some l = ap label_in same ∙ e in
    let stop : step s b ≡ None = ap (λ z. step z b) same ∙ h in
    let place : i ≡ i + 0 = omega arith in rw (stop, is) (ap (λ j. got l j (b ∷ y)) place)
seen_spelled (b ∷ w) s t i l y r e h = next (step s b) refl r (λ u k. seen_spelled w u t (i + 1) l y k e h)
  where
    next : (o : Option Spot) → step s b ≡ o → option_and_then (λ u. run u w) o ≡ Some t
        → ((u : Spot) → run u w ≡ Some t → seen_from u (i + 1) (w ++ y) ≡ got l (i + 1 + length w) y) → seen_from s i (b ∷ (w ++ y)) ≡ got l (i + length (b ∷ w)) y
    next None f k more = none_some t k
    next (Some u) f k more =
        let place : i + 1 + length w ≡ i + length (b ∷ w) = omega arith in
        seen_byte s u i b (w ++ y) f ∙ more u k ∙ ap (λ j. got l j y) place

-- THE LAW

-- a line of the form asks for the select
spelled_is_asked : (forms : Forms) (line x y label : List ℕ) → IsSelectOf line x y label → act_in forms line ≡ Some (Select x y label)
spelled_is_asked forms line x y label h = spelled h.spelled refl
  where
    spelled : (w : List ℕ) → h.spelled ≡ w → act_in forms line ≡ Some (Select x y label)
    spelled [] none =
        let reads = spelled_reads [] label (subst (λ z. SpellsLabel z label) none h.spells) in
        let stands : start ≡ reads.0 = some_is start reads.0 reads.1 in
        none_some label (ap label_in stands ∙ reads.2)
    spelled (c ∷ w) is =
        let reads = spelled_reads (c ∷ w) label (subst (λ z. SpellsLabel z label) is h.spells) in
        let parts : line ≡ h.prefix ++ (c ∷ (w ++ h.after)) = h.parts ∙ ap (λ z. h.prefix ++ (z ++ h.after)) is in
        let many : length (words_of h.prefix) ≡ 4 = ap length h.words in
        let place : place_of_word 4 line ≡ Some (length h.prefix) = ap (place_of_word 4) parts ∙ place_found h.prefix 4 c (w ++ h.after) many h.apart (no_blank reads.0 reads.1) in
        let before : take (length h.prefix) line ≡ h.prefix = ap (take (length h.prefix)) parts ∙ take-append_seam h.prefix (c ∷ (w ++ h.after)) in
        let rest : drop (length h.prefix) line ≡ c ∷ (w ++ h.after) = ap (drop (length h.prefix)) parts ∙ drop-append_seam h.prefix (c ∷ (w ++ h.after)) in
        let seen : seen_from start (length h.prefix) (drop (length h.prefix) line) ≡ got label (length h.prefix + length (c ∷ w)) h.after =
        ap (seen_from start (length h.prefix)) rest
        ∙ seen_spelled (c ∷ w) start reads.0 (length h.prefix) label h.after reads.1 reads.2 (wordless_stops reads.0 label h.after reads.2 h.alone) in
        ap (act_from forms line) place ∙ ap (λ z. option_and_then (select_of (words_of z)) (label_alone (seen_from start (length h.prefix) (drop (length h.prefix) line)))) before
        ∙ ap (λ z. option_and_then (select_of (words_of h.prefix)) (label_alone z)) seen
        ∙ ap (λ z. option_and_then (select_of (words_of h.prefix)) (cond (no_words z) (Some label) None)) h.alone
        ∙ ap (λ z. select_of z label) h.words ∙ words_select x y label h.names.0 h.names.1
      where
        no_blank : (t : Spot) → run start (c ∷ w) ≡ Some t → is_blank c ≡ false
        no_blank t r = (elim (is_blank c) as (λ s. is_blank c ≡ s → is_blank c ≡ false) [
          | true ↦ λ k. none_some t (ap (option_and_then (λ u. run u w)) (sym (blank_begins_none c (blank_cases c k))) ∙ r)
          | false ↦ λ k. k
        ]) refl

-- a line asks for the select of a label exactly where it is of the form X = select Y LABEL
pub selects_spelled : SelectsAreSpelled
selects_spelled forms line x y label = (asked_is_spelled forms line x y label (place_of_word 4 line) refl, spelled_is_asked forms line x y label)
