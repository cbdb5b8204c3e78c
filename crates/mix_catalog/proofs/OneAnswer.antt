-- A text has one answer, but for want of memory.
use Rattle.std.proofs.Common.{◌≡◌, ◌⊎◌, inl, inr, ◌<◌, ◌≤◌, ◌+◌, ◌∙◌, ℕ, zero, suc, Bool, true, false, cond, ◌&&◌, nat_le, List, [], ◌∷◌, ◌++◌, Option, None, IsSome, is_some, Result, Ok, Err, refl, sym, ap, subst, arith, length, take, get_or}
use Rattle.std.proofs.lemmas.Bool.{cases_order}
use Rattle.std.proofs.lemmas.Bool.Decides.{nat_tests}
use Rattle.std.proofs.lemmas.List.{get_or-take, length-take-le}
use Rattle.mix_words.specs.Lines.{lines_of, is_passed}
use Rattle.mix_catalog.specs.declared.source.SourceSpec.{SourceSpec}
use Rattle.mix_catalog.specs.declared.fault.CatalogFault.{CatalogFault}
use Rattle.mix_catalog.specs.declared.fault.CatalogFault.TheVariants.{Line, Chunk, Columns, ColumnTwice, NameTwice, TooMany, OutOfMemory}
use Rattle.mix_catalog.specs.Columns.{are_apart}
use Rattle.mix_catalog.specs.Grammar.{columns_of}
use Rattle.mix_catalog.specs.Sources.{source_named, FitsNone, IsChunk, IsTakenBy, Adds, Accepts, IsCatalog, RefusesSource, IsNotTaken, IsFault, IsFirstFault, Refuses, Answers, IsWantOfMemory, SameAnswer}
use Rattle.mix_catalog.proofs.Spelled.{one_source}

-- no line is passed over and not
passed_once : {P : Type 0} (line : List ℕ) → is_passed line ≡ true → is_passed line ≡ false → P
passed_once line h k = cc

-- no name is both found and not found
found_once : {P : Type 0} (o : Option ℕ) → IsSome o → o ≡ None → P
found_once o h e = let none : is_some o ≡ false = ap is_some e in let some : is_some o ≡ true = h in cc

-- a line adds to the sources before it in one way
Adds-one : (before : List SourceSpec) (line : List ℕ) (a b : List SourceSpec) → Adds before line a → Adds before line b → a ≡ b
Adds-one before line a b (inl (p, e)) (inl (q, f)) = e ∙ sym f
Adds-one before line a b (inl (p, e)) (inr (q, s, h, t, f)) = passed_once line p q
Adds-one before line a b (inr (p, s, h, t, e)) (inl (q, f)) = passed_once line q p
Adds-one before line a b (inr (p, s, h, t, e)) (inr (q, r, k, u, f)) = e ∙ ap (λ x. before ++ x ∷ []) (one_source line s r h.0 k.0) ∙ sym f

-- lines that are accepted add to the sources before them in one way
Accepts-one : (lines : List (List ℕ)) (before a b : List SourceSpec) → Accepts before lines a → Accepts before lines b → a ≡ b
Accepts-one [] before a b e f = e ∙ sym f
Accepts-one (line ∷ lines) before a b (n, h, k) (m, i, j) = Accepts-one lines m a b (subst (λ x. Accepts x lines a) (Adds-one before line n m h i) k) j

-- the sources before and after the line at a place
pub record AddsAt (before : List SourceSpec) (lines : List (List ℕ)) (i : ℕ) : Type 0 where
  pub middle : List SourceSpec
  pub next : List SourceSpec
  pub accepted : Accepts before (take i lines) middle
  pub adds : Adds middle (get_or lines i []) next

-- accepted lines have accepted prefixes
Accepts-prefix : (lines : List (List ℕ)) (before sources : List SourceSpec) (i : ℕ) → i < length lines → Accepts before lines sources → AddsAt before lines i
Accepts-prefix [] before sources i inside h = absurd (omega arith)
Accepts-prefix (line ∷ lines) before sources zero inside (next, adds, rest) = record { middle = before; next = next; accepted = refl; adds = adds }
Accepts-prefix (line ∷ lines) before sources (suc i) inside (next, adds, rest) =
    let after = Accepts-prefix lines next sources i (omega arith) rest in
    record { middle = after.middle; next = after.next; accepted = (next, adds, after.accepted); adds = after.adds }

-- a source that is taken is not refused
taken_or_refused : (before : List SourceSpec) (s : SourceSpec) (number : ℕ) (e : CatalogFault) → IsTakenBy before s → RefusesSource before s number e → IsWantOfMemory e
taken_or_refused before s number (Line n) t r = r
taken_or_refused before s number (Chunk n) t r = r.1 t.chunk
taken_or_refused before s number (Columns n) t r = let few : length (columns_of s.kind) ≤ 200 = t.columns.0 in let more : 200 < length (columns_of s.kind) = r.2 in absurd (omega arith)
taken_or_refused before s number (ColumnTwice n) t r = let apart : are_apart (columns_of s.kind) ≡ true = t.columns.1 in let twice : are_apart (columns_of s.kind) ≡ false = r.3 in cc
taken_or_refused before s number (NameTwice n) t r = found_once (source_named before s.name) r.3 t.name
taken_or_refused before s number (TooMany n) t r = let room : length before < 32 = t.room in let full : 32 ≤ length before = r.4 in absurd (omega arith)
taken_or_refused before s number OutOfMemory t r = tt

-- a line that adds spells no source that is refused
adds_or_not_taken : (before : List SourceSpec) (line : List ℕ) (number : ℕ) (e : CatalogFault) (next : List SourceSpec) → Adds before line next → IsNotTaken before line number e → IsWantOfMemory e
adds_or_not_taken before line number e next (inl (p, f)) (q, s, h, r) = passed_once line p q
adds_or_not_taken before line number e next (inr (p, t, k, taken, f)) (q, s, h, r) =
    taken_or_refused before s number e (subst (IsTakenBy before) (one_source line t s k.0 h.0) taken) r

-- a line that adds fits a form
adds_or_fits_none : {P : Type 0} (before : List SourceSpec) (line : List ℕ) (next : List SourceSpec) → Adds before line next → is_passed line ≡ false → FitsNone before line → P
adds_or_fits_none before line next (inl (p, f)) q none = passed_once line p q
adds_or_fits_none before line next (inr (p, s, h, taken, f)) q none = absurd (none s h)

-- a line that adds has no fault
adds_or_fault : (before : List SourceSpec) (line : List ℕ) (number : ℕ) (e : CatalogFault) (next : List SourceSpec) → Adds before line next → IsFault before line number e → IsWantOfMemory e
adds_or_fault before line number (Line n) next h fault = adds_or_fits_none before line next h fault.1 fault.2
adds_or_fault before line number (Chunk n) next h fault = adds_or_not_taken before line number (Chunk n) next h fault
adds_or_fault before line number (Columns n) next h fault = adds_or_not_taken before line number (Columns n) next h fault
adds_or_fault before line number (ColumnTwice n) next h fault = adds_or_not_taken before line number (ColumnTwice n) next h fault
adds_or_fault before line number (NameTwice n) next h fault = adds_or_not_taken before line number (NameTwice n) next h fault
adds_or_fault before line number (TooMany n) next h fault = adds_or_not_taken before line number (TooMany n) next h fault
adds_or_fault before line number OutOfMemory next h fault = tt

-- accepted lines have no fault
accepted_or_fault : (lines : List (List ℕ)) (sources : List SourceSpec) (e : CatalogFault) → Accepts [] lines sources → IsFirstFault lines e → IsWantOfMemory e
accepted_or_fault lines sources e h f =
    let at = Accepts-prefix lines [] sources f.place f.inside h in
    let same = Accepts-one (take f.place lines) [] at.middle f.before at.accepted f.accepted in
    adds_or_fault f.before (get_or lines f.place []) (f.place + 1) e at.next (subst (λ x. Adds x (get_or lines f.place []) at.next) same at.adds) f.fault

-- the faults are the same, or want of memory is one of them
abbrev SameFault : CatalogFault → CatalogFault → Type 0
SameFault e f = (e ≡ f) ⊎ (IsWantOfMemory e ⊎ IsWantOfMemory f)

-- whether a chunk lies in the range
abbrev is_chunk : ℕ → Bool
is_chunk n = nat_le 1 n && nat_le n 1000

-- a chunk from 1 to 1000 is tested to be in the range
chunk_in : (n : ℕ) → IsChunk n → is_chunk n ≡ true
chunk_in n (some, few) = grind (arith, nat_tests)

-- a chunk that is not from 1 to 1000 fails the test
chunk_out : (n : ℕ) → (IsChunk n → ⊥) → is_chunk n ≡ false
chunk_out n h = at (is_chunk n) refl
  where
    at : (t : Bool) → is_chunk n ≡ t → is_chunk n ≡ false
    at false e = e
    at true e = absurd (h (grind (arith, nat_tests), grind (arith, nat_tests)))

-- the cause for which a source that is not taken is refused
abbrev first_cause : List SourceSpec → SourceSpec → ℕ → CatalogFault
first_cause before s number =
    cond (is_chunk s.chunk)
    (cond (nat_le (length (columns_of s.kind)) 200)
    (cond (are_apart (columns_of s.kind)) (cond (is_some (source_named before s.name)) (NameTwice number) (TooMany number)) (ColumnTwice number)) (Columns number)) (Chunk number)

-- a source is refused for that cause alone
refused_for : (before : List SourceSpec) (s : SourceSpec) (number : ℕ) (e : CatalogFault) → RefusesSource before s number e → IsWantOfMemory e ⊎ (e ≡ first_cause before s number)
refused_for before s number (Line n) h = absurd h
refused_for before s number OutOfMemory h = inl tt
refused_for before s number (Chunk n) h = inr (rw (chunk_out s.chunk h.1) (ap Chunk h.0))
refused_for before s number (Columns n) h =
    let many : nat_le (length (columns_of s.kind)) 200 ≡ false = (let k : 200 < length (columns_of s.kind) = h.2 in grind (arith, nat_tests)) in
    inr (rw (chunk_in s.chunk h.1, many) (ap Columns h.0))
refused_for before s number (ColumnTwice n) h =
    let few : nat_le (length (columns_of s.kind)) 200 ≡ true = (let k : length (columns_of s.kind) ≤ 200 = h.2 in grind (arith, nat_tests)) in
    inr (rw (chunk_in s.chunk h.1, few, h.3) (ap ColumnTwice h.0))
refused_for before s number (NameTwice n) h =
    let few : nat_le (length (columns_of s.kind)) 200 ≡ true = (let k : length (columns_of s.kind) ≤ 200 = h.2.0 in grind (arith, nat_tests)) in
    let found : is_some (source_named before s.name) ≡ true = h.3 in
    inr (rw (chunk_in s.chunk h.1, few, h.2.1, found) (ap NameTwice h.0))
refused_for before s number (TooMany n) h =
    let few : nat_le (length (columns_of s.kind)) 200 ≡ true = (let k : length (columns_of s.kind) ≤ 200 = h.2.0 in grind (arith, nat_tests)) in
    inr (rw (chunk_in s.chunk h.1, few, h.2.1, h.3) (ap TooMany h.0))

-- two faults that are one, unless memory ran out
one_fault : (e f g : CatalogFault) → IsWantOfMemory e ⊎ (e ≡ g) → IsWantOfMemory f ⊎ (f ≡ g) → SameFault e f
one_fault e f g (inl m) k = inr (inl m)
one_fault e f g (inr h) (inl m) = inr (inr m)
one_fault e f g (inr h) (inr k) = inl (h ∙ sym k)

-- a source is refused for one cause
refused_once : (before : List SourceSpec) (s : SourceSpec) (number : ℕ) (e f : CatalogFault) → RefusesSource before s number e → RefusesSource before s number f → SameFault e f
refused_once before s number e f h k = one_fault e f (first_cause before s number) (refused_for before s number e h) (refused_for before s number f k)

-- a line's source is refused for one cause
not_taken_once : (before : List SourceSpec) (line : List ℕ) (number : ℕ) (e f : CatalogFault) → IsNotTaken before line number e → IsNotTaken before line number f → SameFault e f
not_taken_once before line number e f (p, s, h, r) (q, t, k, u) = refused_once before s number e f r (subst (λ x. RefusesSource before x number f) (one_source line t s k.0 h.0) u)

-- a line fits no form, or its source is not taken, unless memory ran out
abbrev Faults : List SourceSpec → List ℕ → ℕ → CatalogFault → Type 0
Faults before line number e = IsWantOfMemory e ⊎ (((e ≡ Line number) × FitsNone before line) ⊎ IsNotTaken before line number e)

-- a line's fault says that it fits no form or that its source is not taken, unless memory ran out
fault_says : (before : List SourceSpec) (line : List ℕ) (number : ℕ) (e : CatalogFault) → IsFault before line number e → Faults before line number e
fault_says before line number (Line n) h = inr (inl (ap Line h.0, h.2))
fault_says before line number (Chunk n) h = inr (inr h)
fault_says before line number (Columns n) h = inr (inr h)
fault_says before line number (ColumnTwice n) h = inr (inr h)
fault_says before line number (NameTwice n) h = inr (inr h)
fault_says before line number (TooMany n) h = inr (inr h)
fault_says before line number OutOfMemory h = inl tt

-- a line has one fault
fault_once : (before : List SourceSpec) (line : List ℕ) (number : ℕ) (e f : CatalogFault) → IsFault before line number e → IsFault before line number f → SameFault e f
fault_once before line number e f h k = by_cases (fault_says before line number e h) (fault_says before line number f k)
  where
    by_cases : Faults before line number e → Faults before line number f → SameFault e f
    by_cases (inl m) j = inr (inl m)
    by_cases (inr i) (inl m) = inr (inr m)
    by_cases (inr (inl i)) (inr (inl j)) = inl (i.0 ∙ sym j.0)
    by_cases (inr (inl i)) (inr (inr (q, t, k, u))) = absurd (i.1 t k)
    by_cases (inr (inr (q, t, k, u))) (inr (inl j)) = absurd (j.1 t k)
    by_cases (inr (inr i)) (inr (inr j)) = not_taken_once before line number e f i j

-- a prefix of a longer prefix of a list is a prefix of the list
take_twice : {X : Type 0} (xs : List X) (i j : ℕ) → i ≤ j → take i (take j xs) ≡ take i xs
take_twice xs zero j h = refl
take_twice [] (suc i) zero h = refl
take_twice [] (suc i) (suc j) h = refl
take_twice (x ∷ xs) (suc i) zero h = absurd (omega arith)
take_twice (x ∷ xs) (suc i) (suc j) h = ap (λ r. x ∷ r) (take_twice xs i j (omega arith))

-- a fault before another line's is none
earlier_fault : (lines : List (List ℕ)) (e f : CatalogFault) (h : IsFirstFault lines e) (k : IsFirstFault lines f) → h.place < k.place → IsWantOfMemory e
earlier_fault lines e f h k before =
    let same : get_or (take k.place lines) h.place [] ≡ get_or lines h.place [] = get_or-take k.place lines h.place [] before in
    let prefixes : take h.place (take k.place lines) ≡ take h.place lines = take_twice lines h.place k.place (omega arith) in
    let inside : h.place < length (take k.place lines) = (let n : k.place ≤ length lines = (let i : k.place < length lines = k.inside in omega arith) in omega (arith, length-take-le k.place lines n)) in
    accepted_or_fault (take k.place lines) k.before e k.accepted (record {
      place = h.place;
      before = h.before;
      inside = inside;
      accepted = subst (λ x. Accepts [] x h.before) (sym prefixes) h.accepted;
      fault = subst (λ x. IsFault h.before x (h.place + 1) e) (sym same) h.fault;
    })

-- first faults at one place are the same, unless memory ran out
same_place : (lines : List (List ℕ)) (e f : CatalogFault) (h : IsFirstFault lines e) (k : IsFirstFault lines f) → h.place ≡ k.place → SameFault e f
same_place lines e f h k at =
    let there : Accepts [] (take h.place lines) k.before = subst (λ i. Accepts [] (take i lines) k.before) (sym at) k.accepted in
    let same = Accepts-one (take h.place lines) [] k.before h.before there h.accepted in
    let fault : IsFault k.before (get_or lines h.place []) (h.place + 1) f = subst (λ i. IsFault k.before (get_or lines i []) (i + 1) f) (sym at) k.fault in
    fault_once h.before (get_or lines h.place []) (h.place + 1) e f h.fault (subst (λ x. IsFault x (get_or lines h.place []) (h.place + 1) f) same fault)

-- lines have one first fault
first_fault_once : (lines : List (List ℕ)) (e f : CatalogFault) → IsFirstFault lines e → IsFirstFault lines f → SameFault e f
first_fault_once lines e f h k = by_order (cases_order h.place k.place)
  where
    by_order : (h.place ≡ k.place) ⊎ ((h.place < k.place) ⊎ (k.place < h.place)) → SameFault e f
    by_order (inl at) = same_place lines e f h k at
    by_order (inr (inl before)) = inr (inl (earlier_fault lines e f h k before))
    by_order (inr (inr before)) = inr (inr (earlier_fault lines f e k h before))

-- a text is refused for its first fault
refused_fault : (text : List ℕ) (e : CatalogFault) → Refuses text e → IsFirstFault (lines_of text) e ⊎ IsWantOfMemory e
refused_fault text (Line n) h = inl h
refused_fault text (Chunk n) h = inl h
refused_fault text (Columns n) h = inl h
refused_fault text (ColumnTwice n) h = inl h
refused_fault text (NameTwice n) h = inl h
refused_fault text (TooMany n) h = inl h
refused_fault text OutOfMemory h = inr tt

-- a catalog is not refused
catalog_or_refused : (text : List ℕ) (sources : List SourceSpec) (e : CatalogFault) → IsCatalog text sources → Refuses text e → IsWantOfMemory e
catalog_or_refused text sources e h k = by_case (refused_fault text e k)
  where
    by_case : IsFirstFault (lines_of text) e ⊎ IsWantOfMemory e → IsWantOfMemory e
    by_case (inl f) = accepted_or_fault (lines_of text) sources e h f
    by_case (inr m) = m

-- a text is refused for one cause
refused_for_one : (text : List ℕ) (e f : CatalogFault) → Refuses text e → Refuses text f → SameFault e f
refused_for_one text e f h k = by_cases (refused_fault text e h) (refused_fault text f k)
  where
    by_cases : IsFirstFault (lines_of text) e ⊎ IsWantOfMemory e → IsFirstFault (lines_of text) f ⊎ IsWantOfMemory f → SameFault e f
    by_cases (inl i) (inl j) = first_fault_once (lines_of text) e f i j
    by_cases (inl i) (inr m) = inr (inr m)
    by_cases (inr m) j = inr (inl m)

-- a text has one answer
pub one_answer : (text : List ℕ) (r other : Result (List SourceSpec) CatalogFault) → Answers text r → Answers text other → SameAnswer r other
one_answer text (Ok sources) (Ok others) h k = Accepts-one (lines_of text) [] sources others h k
one_answer text (Ok sources) (Err f) h k = catalog_or_refused text sources f h k
one_answer text (Err e) (Ok others) h k = catalog_or_refused text others e k h
one_answer text (Err e) (Err f) h k = refused_for_one text e f h k
