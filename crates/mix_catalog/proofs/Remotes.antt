-- What a remote source has after the file of its replies, as it is found and as it is spelled.
use Rattle.std.proofs.Common.{◌≡◌, ◌∙◌, ◌+◌, ℕ, zero, suc, Bool, true, false, cond, not, IsTrue, List, [], ◌∷◌, ◌++◌, Option, Some, None, option_map, option_and_then, refl, sym, ap, subst, arith, length, take, drop}
use Rattle.std.proofs.lemmas.List.{take-append-drop}
use Rattle.mix_base.proofs.Choices.{some_is, none_some}
use Rattle.mix_tree.specs.LabelGrammar.{SpellsLabel}
use Rattle.mix_tree.specs.LabelMachine.{Seen, got, unexpected, ends, start, seen_from}
use Rattle.mix_tree.specs.LabelReads.{seen_of}
use Rattle.mix_tree.specs.declared.label_read.LabelRead.{LabelRead}
use Rattle.mix_tree.specs.declared.label_read.LabelRead.TheVariants.{Got, Unexpected, Ends}
use Rattle.mix_tree.proofs.LabelSeen.{Saw, saw}
use Rattle.mix_tree.proofs.LabelSound.{label_spelled}
use Rattle.mix_tree.proofs.LabelAnswers.{run_writes_some}
use Rattle.mix_words.specs.Places.{place_of_word, word_from}
use Rattle.mix_words.specs.Words.{words_of, ends_word, is_blank}
use Rattle.mix_words.proofs.WordPlaces.{place_apart}
use Rattle.mix_catalog.specs.declared.remote.RemoteAfter.{RemoteAfter}
use Rattle.mix_catalog.specs.Forms.{number_word}
use Rattle.mix_catalog.specs.Grammar.{IsNumber, SpellsBetween, SpellsNumber}
use Rattle.mix_catalog.specs.Remotes.{remote_with, number_after_file, remote_seen, remote_at, remote_of}
use Rattle.mix_catalog.proofs.Between.{between_placed}
use Rattle.mix_catalog.proofs.Cuttings.{mapped_some, number_of-found, number_of-given}
use Rattle.mix_catalog.proofs.Seens.{spelling_begins, spelling_seen, word_end_stops}

-- no word stands before the place at which the first word of a text is found; the text itself stands at a place
none_before : (text : List ℕ) (at place : ℕ) → word_from true zero at text ≡ Some place → (k : ℕ) × (place ≡ at + k) × (words_of (take k text) ≡ [])
none_before [] at place h = none_some place h
none_before (b ∷ bs) at place h = by_case (is_blank b) refl h (none_before bs (at + 1) place)
  where
    by_case : (t : Bool) → is_blank b ≡ t → cond (not t) (Some at) (word_from t zero (at + 1) bs) ≡ Some place
        → (word_from true zero (at + 1) bs ≡ Some place → (k : ℕ) × (place ≡ at + 1 + k) × (words_of (take k bs) ≡ []))
        → (k : ℕ) × (place ≡ at + k) × (words_of (take k (b ∷ bs)) ≡ [])
    by_case false e f more = (zero, (let here = some_is at place f in omega arith), refl)
    by_case true e f more = let next = more f in (suc next.0, (let there = next.1 in omega arith), rw e next.2)

-- no word of a text stands before its first one
pub first_word : (text : List ℕ) (at : ℕ) → place_of_word 0 text ≡ Some at → words_of (take at text) ≡ []
first_word text at h =
    let found = none_before text 0 at h in
    let same : found.0 ≡ at = (let e = found.1 in omega arith) in
    subst (λ k. words_of (take k text) ≡ []) same found.2

-- words that give a number are one word of digits that write it
word_found : (words : List (List ℕ)) (n : ℕ) → number_word words ≡ Some n → (digits : List ℕ) × (words ≡ digits ∷ []) × IsNumber digits n
word_found [] n e = none_some n e
word_found (word ∷ []) n e = (word, refl, number_of-found word n e)
word_found (a ∷ b ∷ words) n e = none_some n e

-- a text that gives a number spells it
pub number_found : (text : List ℕ) (n : ℕ) → number_after_file text ≡ Some n → IsTrue (ends_word text) × SpellsNumber n text
number_found text n e = by_case (ends_word text) refl e
  where
    by_case : (t : Bool) → ends_word text ≡ t → cond t (number_word (words_of text)) None ≡ Some n → IsTrue (ends_word text) × SpellsNumber n text
    by_case true h f = let m = word_found (words_of text) n f in (h, record { digits = m.0; words = m.1; numbered = m.2 })
    by_case false h f = none_some n f

-- a text that spells a number gives it
pub number_given : (text : List ℕ) (n : ℕ) → IsTrue (ends_word text) → SpellsNumber n text → number_after_file text ≡ Some n
number_given text n last h = ap (λ t. cond t (number_word (words_of text)) None) last ∙ ap number_word h.words ∙ number_of-given h.digits n h.numbered

-- the file of these requests and this number are spelled, with blanks around the file
abbrev pub IsRemote : List ℕ → RemoteAfter → Type 0
IsRemote text r = SpellsBetween [] (λ x. SpellsLabel x r.requests) (SpellsNumber r.number) text

-- what is found at the first word of a text is spelled
found_at : (text : List ℕ) (at : ℕ) (r : RemoteAfter) → place_of_word 0 text ≡ Some at → remote_at text at ≡ Some r → IsRemote text r
found_at text at r place e = by_seen (seen_from start at (drop at text)) (saw (drop at text) start at) e
  where
    by_seen : (seen : Seen) → Saw start at (drop at text) seen → remote_seen seen ≡ Some r → IsRemote text r
    by_seen (unexpected j) s f = none_some r f
    by_seen ends s f = none_some r f
    by_seen (got requests end after) s f =
        let m = mapped_some (remote_with requests) (number_after_file after) r f in
        let number = number_found after m.0 m.1 in
        subst (IsRemote text) m.2 (record {
          prefix = take at text;
          spelling = s.spelled;
          after = after;
          parts = sym (take-append-drop at text) ∙ ap (λ x. take at text ++ x) s.parts;
          words_are = first_word text at place;
          blank_before = place_apart text 0 at place;
          spelled = label_spelled s.spelled s.spot requests (run_writes_some s.spelled s.spot s.runs) s.label;
          blank_after = number.0;
          rest = number.1;
        })

-- what is found in a text is spelled
pub remote_found : (text : List ℕ) (r : RemoteAfter) → remote_of text ≡ Some r → IsRemote text r
remote_found text r e = at_place (place_of_word 0 text) refl e
  where
    at_place : (o : Option ℕ) → place_of_word 0 text ≡ o → option_and_then (remote_at text) o ≡ Some r → IsRemote text r
    at_place None h f = none_some r f
    at_place (Some at) h f = found_at text at r h f

-- what is spelled in a text is found
pub remote_given : (text requests : List ℕ) (number : ℕ) → SpellsBetween [] (λ x. SpellsLabel x requests) (SpellsNumber number) text → remote_of text ≡ Some (remote_with requests number)
remote_given text requests number h =
    let at = length h.prefix in
    let p = between_placed [] (λ x. SpellsLabel x requests) (SpellsNumber number) text h (spelling_begins h.spelling requests h.spelled) in
    let seen : seen_from start at (drop at text) ≡ got requests (at + length h.spelling) h.after =
    ap (seen_from start at) p.rest_is ∙ spelling_seen h.spelling h.after requests at h.spelled (word_end_stops h.after h.blank_after) in
    ap (option_and_then (remote_at text)) p.place ∙ ap remote_seen seen ∙ ap (option_map (remote_with requests)) (number_given h.after number h.blank_after h.rest)

-- nothing is found where no label is read
pub unread_is_none : (text : List ℕ) (seen : Seen) (read : LabelRead) → seen ≡ seen_of text read → ((l : List ℕ) (end : ℕ) → read ≡ Got l end → ⊥) → None ≡ remote_seen seen
unread_is_none text seen (Got l end) e never = absurd (never l end refl)
unread_is_none text seen (Unexpected at) e never = sym (ap remote_seen e)
unread_is_none text seen Ends e never = sym (ap remote_seen e)

-- the file of requests that is read, with the number that is read after it, is what is found
pub read_is_found : (text : List ℕ) (at end : ℕ) (requests : List ℕ) (read number : Option ℕ) → seen_from start at (drop at text) ≡ got requests end (drop end text) → read ≡ number_after_file (drop end text)
    → read ≡ number → option_map (remote_with requests) number ≡ remote_at text at
read_is_found text at end requests read number seen said is = sym (ap remote_seen seen ∙ ap (option_map (remote_with requests)) (sym said ∙ is))
