-- The records that a reader reached are those of the text.
use Rattle.std.proofs.Common.{◌≡◌, ◌≤◌, ◌<◌, ◌+◌, ◌⊎◌, ◌∙◌, ℕ, zero, suc, List, [], ◌∷◌, ◌++◌, length, Some, None, refl, sym, ap, arith, inl, inr, true, false, Bool}
use Rattle.csv.specs.Machine.{Read, ends_at_end, field_after, fields_after, is_end, next_record, step}
use Rattle.std.proofs.Common.{Bor}
use Rattle.std.specs.Prelude.{MatchBool}
use Rattle.csv.proofs.ReadFacts.{rows-end, rows-more}
use Rattle.csv.specs.Reading.{ReadRecord, Reached, default_config, names_headers, reader_config, reader_headers, reader_state, reader_trim, records, records_from, source_of, took_first}
use Rattle.csv.specs.declared.reader.Reader.{Reader}
use Rattle.csv.specs.declared.reader.Trim.TheVariants as trim
use Rattle.csv.specs.declared.parser.Config.{Config}
use Rattle.csv.specs.declared.parser.State.{State}
use Rattle.csv.specs.declared.parser.State.TheVariants as st
use Rattle.csv_wrap.specs.Csv.{IsAt, file_records, without_marks}
use Rattle.std.proofs.Common.{append_assoc}

-- a record takes a byte of the text, or is the last one
pub next_shrinks : (cfg : Config) (s : State) (fields : List (List ℕ)) (field xs : List ℕ) (p : Read) → next_record cfg s fields field xs ≡ Some p
    → (length p.2 < length xs) ⊎ ((p.1 ≡ st.StartRecord) × (p.2 ≡ []))
unfolding next_record
next_shrinks cfg s fields field [] p h = at_end (ends_at_end s) refl
  where
    at_end : (b : Bool) → ends_at_end s ≡ b → (length p.2 < 0) ⊎ ((p.1 ≡ st.StartRecord) × (p.2 ≡ []))
    at_end true e = let q = rw e at h in inr (cc q, cc q)
    at_end false e = let q = rw e at h in cc q
next_shrinks cfg s fields field (c ∷ rest) p h =
    at (is_end (step cfg s c).1) refl (next_shrinks cfg (step cfg s c).0 (fields_after (step cfg s c).1 fields field) (field_after (step cfg s c).1 c field) rest p)
  where
    at : (b : Bool) → is_end (step cfg s c).1 ≡ b
        → (next_record cfg (step cfg s c).0 (fields_after (step cfg s c).1 fields field) (field_after (step cfg s c).1 c field) rest ≡ Some p → (length p.2 < length rest) ⊎ ((p.1 ≡ st.StartRecord) × (p.2 ≡ [])))
        → (length p.2 < length (c ∷ rest)) ⊎ ((p.1 ≡ st.StartRecord) × (p.2 ≡ []))
    at true e more =
        let q = rw e at h in
        let r : rest ≡ p.2 = cc q in
        let n : length rest ≡ length p.2 = ap length r in
        inl (omega arith)
    at false e more =
        elim (more (rw e at h)) [
          | inl l ↦ inl (omega arith)
          | inr r ↦ inr r
        ]

-- from the start of a record at the end of the text there is nothing
pub nothing_at_end : (cfg : Config) (rows : List (List (List ℕ))) (s2 : State) (ys : List ℕ) → Reached cfg st.StartRecord [] rows s2 ys → rows ≡ []
unfolding Reached next_record
nothing_at_end cfg [] s2 ys h = refl
nothing_at_end cfg (r ∷ rs) s2 ys h = cc h.1

-- a reader has reached at most one record more than the text has bytes
pub reached_short : (cfg : Config) (s s2 : State) (xs ys : List ℕ) (rows : List (List (List ℕ))) → Reached cfg s xs rows s2 ys → length rows ≤ length xs + 1
unfolding Reached
reached_short cfg s s2 xs ys [] h = omega arith
reached_short cfg s s2 xs ys (r ∷ rs) h =
    elim (next_shrinks cfg s [] [] xs h.0 h.1) [
      | inl l ↦ let more = reached_short cfg h.0.1 s2 h.0.2 ys rs h.3 in omega arith
      | inr e ↦
          let none : rs ≡ [] = nothing_at_end cfg rs s2 ys (rw (e.0, e.1) at h.3) in
          let n : length rs ≡ 0 = ap length none in
          omega arith
    ]

-- the records of a text begin with those that were reached
pub reached_prefix : (cfg : Config) (n : ℕ) (s s2 : State) (xs ys : List ℕ) (rows : List (List (List ℕ))) → Reached cfg s xs rows s2 ys → length rows ≤ n
    → (after : List (List (List ℕ))) × (records_from cfg n s xs ≡ rows ++ after)
unfolding Reached records_from
reached_prefix cfg n s s2 xs ys [] h l = (records_from cfg n s xs, refl)
reached_prefix cfg zero s s2 xs ys (r ∷ rs) h l = absurd (omega arith)
reached_prefix cfg (suc n) s s2 xs ys (r ∷ rs) h l =
    let more = reached_prefix cfg n h.0.1 s2 h.0.2 ys rs h.3 (omega arith) in
    (more.0, rw (h.1, h.2, more.1) refl)

-- where nothing is left of a text, its records are those that were reached
pub reached_all : (cfg : Config) (n : ℕ) (s s2 : State) (xs ys : List ℕ) (rows : List (List (List ℕ))) → Reached cfg s xs rows s2 ys → next_record cfg s2 [] [] ys ≡ None
    → length rows ≤ n → records_from cfg n s xs ≡ rows
unfolding Reached records_from
reached_all cfg zero s s2 xs ys [] h e l = refl
reached_all cfg (suc n) s s2 xs ys [] h e l = rw (h.0, h.1, e) refl
reached_all cfg zero s s2 xs ys (r ∷ rs) h e l = absurd (omega arith)
reached_all cfg (suc n) s s2 xs ys (r ∷ rs) h e l = rw (h.1, h.2, reached_all cfg n h.0.1 s2 h.0.2 ys rs h.3 e (omega arith)) refl

-- where nothing is left, the records of a text are those that were reached
pub text_all : (text : List ℕ) (rows : List (List (List ℕ))) (s2 : State) (ys : List ℕ) → Reached default_config st.StartRecord text rows s2 ys → next_record default_config s2 [] [] ys ≡ None
    → records default_config text ≡ rows
text_all text rows s2 ys h e = reached_all default_config (length text + 1) st.StartRecord s2 text ys rows h e (reached_short default_config st.StartRecord s2 text ys rows h)

-- the records of a text, from its start, begin with those that were reached
pub text_prefix : (text : List ℕ) (rows : List (List (List ℕ))) (s2 : State) (ys : List ℕ) → Reached default_config st.StartRecord text rows s2 ys
    → (after : List (List (List ℕ))) × (records default_config text ≡ rows ++ after)
text_prefix text rows s2 ys h = reached_prefix default_config (length text + 1) st.StartRecord s2 text ys rows h (reached_short default_config st.StartRecord s2 text ys rows h)

-- a file of which a header, some rows and one more record were read has that record as its next row
pub file_row : (bytes : List ℕ) (header : List (List ℕ)) (rows : List (List (List ℕ))) (f : List (List ℕ)) (s2 : State) (ys : List ℕ)
    → Reached default_config st.StartRecord (without_marks bytes) ((header ∷ rows) ++ f ∷ []) s2 ys
    → (after : List (List (List ℕ))) × (file_records bytes ≡ header ∷ (rows ++ (f ∷ after)))
unfolding file_records
file_row bytes header rows f s2 ys h =
    let prefix = text_prefix (without_marks bytes) ((header ∷ rows) ++ f ∷ []) s2 ys h in
    (prefix.0, prefix.1 ∙ ap (λ (t : List (List (List ℕ))). header ∷ t) (append_assoc rows (f ∷ []) prefix.0))

-- a file of which one record was read has that record as its first
pub file_header : (bytes : List ℕ) (f : List (List ℕ)) (s2 : State) (ys : List ℕ) → Reached default_config st.StartRecord (without_marks bytes) ([] ++ f ∷ []) s2 ys
    → (after : List (List (List ℕ))) × (file_records bytes ≡ f ∷ after)
unfolding file_records
file_header bytes f s2 ys h = text_prefix (without_marks bytes) (f ∷ []) s2 ys h

-- a reader that begins a text stands at its start
pub start_at : (text : List ℕ) (r : Reader (Bor (List ℕ))) → reader_trim r ≡ trim.None → names_headers r ≡ false → reader_headers r ≡ None → reader_config r ≡ default_config
    → reader_state r ≡ st.StartRecord → source_of (λ s. Some s.now) r ≡ Some text → IsAt text [] r
unfolding Reached
start_at text r t n h c s e = (t, inr (inr (n, h)), c, text, e, (sym s, refl))

-- a reader that reads one more record stands after it; where it reads none, the records so far are all of the text
pub step_at : (text : List ℕ) (rows : List (List (List ℕ))) (a b : Reader (Bor (List ℕ))) (f : List (List ℕ)) (more : Bool) → IsAt text rows a
    → ReadRecord (λ s. Some s.now) a b more f → took_first b ≡ true
    → MatchBool more (IsAt text (rows ++ f ∷ []) b) (records default_config text ≡ rows)
step_at text rows a b f true h r t =
    let m = rows-more (λ (s : Bor (List ℕ)). Some s.now) a b f default_config st.StartRecord text h.3 rows h.2 h.4 h.5 r in
    (r.3 ∙ h.0, inl t, r.2 ∙ h.2, m.0, m.1, m.2)
step_at text rows a b f false h r t =
    text_all text rows (reader_state a) h.3 h.5 (rows-end (λ (s : Bor (List ℕ)). Some s.now) a b f default_config h.3 h.2 h.4 r)
