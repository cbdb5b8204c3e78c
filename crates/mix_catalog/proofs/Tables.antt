-- A table as it is found in a line, and as it is spelled.
use Rattle.std.proofs.Common.{◌≡◌, ◌<◌, ◌≤◌, ◌+◌, ◌-◌, ◌∙◌, ◌==◌, ℕ, zero, suc, Bool, true, false, cond, ◌&&◌, ◌||◌, IsTrue, List, [], ◌∷◌, ◌++◌, Option, Some, None, option_map, option_and_then, refl, sym, ap, subst, arith, length, length-append, append_assoc, add-one, map, take, drop, get_or, codes, Bor}
use Rattle.std.proofs.Math.Seq.{get_or-append_seam, drop-cons}
use Rattle.std.proofs.lemmas.Bool.Decides.{nat_tests}
use Rattle.std.proofs.lemmas.List.{take_at, take_all, take_more, length-map, get_or-map}
use Rattle.std.proofs.lemmas.List.Elements.{All-nil, All-cons}
use Rattle.std.proofs.lemmas.List.Splits.{slice_split_none, slice_split_at, length-slice_split, join_with_byte-slice_split}
use Rattle.std.specs.List.{All, list_all, slice_split, join_with_byte}
use Rattle.std.specs.Str.{bytes_eq}
use Rattle.mix_base.proofs.Choices.{and_parts, and_both, some_is, none_some, number_is}
use Rattle.mix_base.proofs.Lists.{append_nil}
use Rattle.mix_words.specs.Words.{is_letter, is_script_byte, is_sql_name}
use Rattle.mix_catalog.specs.declared.column.Column.{Column}
use Rattle.mix_catalog.specs.declared.table.TableAfter.{TableAfter}
use Rattle.mix_catalog.specs.Forms.{number_of, chunk_of}
use Rattle.mix_catalog.specs.Grammar.{AreTableWords}
use Rattle.mix_catalog.specs.Tables.{mark, SpellsColumn, SpellsTableColumns, column_named, column_of, columns_after, columns_in, table_with, table_form, table_of}
use Rattle.mix_catalog.proofs.ColumnsSpelled.{others_of}
use Rattle.mix_catalog.proofs.Cuttings.{same_bytes, mapped_some, number_of-given, chunk_of-found}

-- a byte of a name is no comma
name_no_comma : (b : ℕ) → is_script_byte b ≡ true → b == 44 ≡ false
name_no_comma b h = grind (arith, nat_tests)

-- a byte of a name is not the mark
name_no_mark : (b : ℕ) → is_script_byte b ≡ true → b == 33 ≡ false
name_no_mark b h = grind (arith, nat_tests)

-- the first byte of an SQL name is a byte of a name
first_in_name : (b : ℕ) → (is_letter b || b == 95) ≡ true → is_script_byte b ≡ true
first_in_name b h = grind (arith, nat_tests)

-- all bytes of an SQL name are bytes of a name
sql_bytes : (xs : List ℕ) → IsTrue (is_sql_name xs) → IsTrue (list_all is_script_byte xs)
sql_bytes [] h = cc
sql_bytes (b ∷ bs) h =
    let parts = and_parts (is_letter b || b == 95) (list_all is_script_byte bs) h in
    and_both (is_script_byte b) (list_all is_script_byte bs) (first_in_name b parts.0) parts.1

-- no comma stands in a name, nor in what is after it
no_commas : (xs ys : List ℕ) → IsTrue (list_all is_script_byte xs) → All (λ b. b == 44 ≡ false) ys → All (λ b. b == 44 ≡ false) (xs ++ ys)
no_commas [] ys h k = k
no_commas (b ∷ bs) ys h k =
    let parts = and_parts (is_script_byte b) (list_all is_script_byte bs) h in
    All-cons (λ b. b == 44 ≡ false) b (bs ++ ys) (name_no_comma b parts.0) (no_commas bs ys parts.1 k)

-- no comma stands in the mark
mark_plain : (never_null : Bool) → All (λ b. b == 44 ≡ false) (mark never_null)
mark_plain true = All-cons (λ b. b == 44 ≡ false) 33 [] refl (All-nil (λ b. b == 44 ≡ false))
mark_plain false = All-nil (λ b. b == 44 ≡ false)

-- no comma stands in a column
column_plain : (x : List ℕ) (c : Column) → SpellsColumn x c → All (λ b. b == 44 ≡ false) x
column_plain x c (named, e) = subst (All (λ b. b == 44 ≡ false)) (sym e) (no_commas c.name (mark c.never_null) (sql_bytes c.name named) (mark_plain c.never_null))

-- no byte of a name is the mark
name_plain : (xs : List ℕ) (i : ℕ) → IsTrue (list_all is_script_byte xs) → get_or xs i 0 == 33 ≡ false
name_plain [] i h = refl
name_plain (b ∷ bs) zero h = name_no_mark b (and_parts (is_script_byte b) (list_all is_script_byte bs) h).0
name_plain (b ∷ bs) (suc i) h = name_plain bs i (and_parts (is_script_byte b) (list_all is_script_byte bs) h).1

-- the column of a name, with the mark or without it
name_given : (x name : List ℕ) (never_null : Bool) → is_sql_name name ≡ true → x ≡ name ++ mark never_null → column_of x ≡ Some (record { name = name; never_null = never_null })
name_given x name true named e =
    let long : length x - 1 ≡ length name = omega (arith, ap length e ∙ length-append name (33 ∷ [])) in
    let last : get_or x (length x - 1) 0 ≡ 33 = ap (λ n. get_or x n 0) long ∙ ap (λ y. get_or y (length name) 0) e ∙ get_or-append_seam name 33 [] 0 in
    let prefix : take (length x - 1) x ≡ name = ap (λ n. take n x) long ∙ ap (take (length name)) e ∙ take_at name (33 ∷ []) (length name) refl in
    let marked : get_or x (length x - 1) 0 == 33 ≡ true = ap (λ b. b == 33) last in
    ap (λ t. cond t (column_named (take (length x - 1) x) true) (column_named x false)) marked ∙ ap (λ y. column_named y true) prefix
    ∙ ap (λ t. cond t (Some (record { name = name; never_null = true })) None) named
name_given x name false named e =
    let same : x ≡ name = e ∙ append_nil name in
    ap column_of same ∙ ap (λ t. cond t (column_named (take (length name - 1) name) true) (column_named name false)) (name_plain name (length name - 1) (sql_bytes name named))
    ∙ ap (λ t. cond t (Some (record { name = name; never_null = false })) None) named

-- a column that is spelled is found
column_given : (x : List ℕ) (c : Column) → SpellsColumn x c → column_of x ≡ Some c
column_given x c (named, e) = name_given x c.name c.never_null named e

-- the column of a name is named so
named_found : (name : List ℕ) (never_null : Bool) (c : Column) → column_named name never_null ≡ Some c → IsTrue (is_sql_name name) × ◌≡◌ {A = Column} (record { name = name; never_null = never_null }) c
named_found name never_null c e = by_case (is_sql_name name) refl e
  where
    by_case : (t : Bool) → is_sql_name name ≡ t → cond t (Some (record { name = name; never_null = never_null })) None ≡ Some c → IsTrue (is_sql_name name) × ◌≡◌ {A = Column} (record { name = name; never_null = never_null }) c
    by_case true h f = (h, some_is _ c f)
    by_case false h f = none_some c f

-- a text whose last byte is the mark is not empty
some_bytes : (x : List ℕ) → get_or x (length x - 1) 0 == 33 ≡ true → 1 ≤ length x
some_bytes [] h = cc h
some_bytes (b ∷ x) h = omega arith

-- a piece whose last byte is the mark is the bytes before it and the mark
marked_parts : (x : List ℕ) → get_or x (length x - 1) 0 == 33 ≡ true → x ≡ take (length x - 1) x ++ 33 ∷ []
marked_parts x h =
    let some = some_bytes x h in
    let last : 33 ≡ get_or x (length x - 1) 0 = number_is (get_or x (length x - 1) 0) 33 h in
    sym (take_all (length x - 1 + 1) x (omega (arith, some))) ∙ take_more x (length x - 1) 0 (omega (arith, some)) ∙ ap (λ b. take (length x - 1) x ++ b ∷ []) (sym last)

-- a column that is found is spelled
column_found : (x : List ℕ) (c : Column) → column_of x ≡ Some c → SpellsColumn x c
column_found x c e = by_case (get_or x (length x - 1) 0 == 33) refl e
  where
    by_case : (t : Bool) → get_or x (length x - 1) 0 == 33 ≡ t → cond t (column_named (take (length x - 1) x) true) (column_named x false) ≡ Some c → SpellsColumn x c
    by_case true h f = let m = named_found (take (length x - 1) x) true c f in subst (SpellsColumn x) m.1 (m.0, marked_parts x h)
    by_case false h f = let m = named_found x false c f in subst (SpellsColumn x) m.1 (m.0, sym (append_nil x))

-- columns that are spelled are found in the pieces, after others
pieces_given : (cs : List Column) (x : List ℕ) (done : List Column) → SpellsTableColumns cs x → columns_after done (slice_split (λ b. b == 44) x) ≡ Some (done ++ cs)
pieces_given [] x done h = absurd h
pieces_given (c ∷ []) x done (spelled, others, s, none, parts) =
    let whole : x ≡ spelled = parts ∙ ap (λ o. spelled ++ o) none ∙ append_nil spelled in
    let pieces : slice_split (λ b. b == 44) x ≡ spelled ∷ [] = ap (slice_split (λ b. b == 44)) whole ∙ slice_split_none (λ b. b == 44) spelled (column_plain spelled c s) in
    ap (columns_after done) pieces ∙ ap (option_and_then (λ d. columns_after (done ++ d ∷ []) [])) (column_given spelled c s)
pieces_given (c ∷ k ∷ cs) x done (spelled, others, s, (more, rest, comma), parts) =
    let cut : x ≡ spelled ++ (44 ∷ more) = parts ∙ ap (λ o. spelled ++ o) comma in
    let pieces : slice_split (λ b. b == 44) x ≡ spelled ∷ slice_split (λ b. b == 44) more =
    ap (slice_split (λ b. b == 44)) cut ∙ slice_split_at (λ b. b == 44) spelled 44 more (column_plain spelled c s) refl in
    ap (columns_after done) pieces ∙ ap (option_and_then (λ d. columns_after (done ++ d ∷ []) (slice_split (λ b. b == 44) more))) (column_given spelled c s)
    ∙ pieces_given (k ∷ cs) more (done ++ c ∷ []) rest ∙ ap Some (append_assoc done (c ∷ []) (k ∷ cs))

-- the columns from a piece on are that piece's column and those of the pieces after it
pub next_piece : (items : List (Bor (List ℕ))) (i : ℕ) (d : Bor (List ℕ)) (done : List Column) (o : Option Column) → i < length items → o ≡ column_of (get_or items i d).now
    → columns_after done (drop i (map (λ (piece : Bor (List ℕ)). piece.now) items)) ≡ option_and_then (λ c. columns_after (done ++ c ∷ []) (drop (i + 1) (map (λ (piece : Bor (List ℕ)). piece.now) items))) o
next_piece items i d done o inside e =
    let pieces = map (λ (piece : Bor (List ℕ)). piece.now) items in
    let first : drop i pieces ≡ get_or pieces i [] ∷ drop (suc i) pieces = drop-cons pieces i [] (omega (arith, inside, length-map items (λ (piece : Bor (List ℕ)). piece.now))) in
    let same : column_of (get_or pieces i []) ≡ o = ap column_of (get_or-map (λ (piece : Bor (List ℕ)). piece.now) items i d [] inside) ∙ sym e in
    let after : drop (suc i) pieces ≡ drop (i + 1) pieces = ap (λ n. drop n pieces) (sym (add-one i)) in
    ap (columns_after done) first ∙ ap (option_and_then (λ c. columns_after (done ++ c ∷ []) (drop (suc i) pieces))) same
    ∙ ap (λ ps. option_and_then (λ c. columns_after (done ++ c ∷ []) ps) o) after

-- an option that has no value is None
pub gives_none : {X : Type 0} (o : Option X) → ((x : X) → o ≡ Some x → ⊥) → o ≡ None
gives_none None never = refl
gives_none (Some x) never = absurd (never x refl)

-- columns that were found in a text, after others
record Pieced (x : List ℕ) (done all : List Column) : Type 0 where
  pub columns : List Column
  pub are : all ≡ done ++ columns
  pub spells : SpellsTableColumns columns x

-- columns that are found in pieces are spelled by them, with commas between them
pieces_found : (p : List ℕ) (ps : List (List ℕ)) (done all : List Column) → columns_after done (p ∷ ps) ≡ Some all → Pieced (join_with_byte 44 (p ∷ ps)) done all
pieces_found p [] done all e = last (column_of p) refl e
  where
    last : (o : Option Column) → column_of p ≡ o → option_and_then (λ c. Some (done ++ c ∷ [])) o ≡ Some all → Pieced p done all
    last None h f = none_some all f
    last (Some c) h f = record { columns = c ∷ []; are = sym (some_is _ all f); spells = (p, [], column_found p c h, refl, sym (append_nil p)) }
pieces_found p (q ∷ ps) done all e = more (column_of p) refl e (pieces_found q ps)
  where
    text : List ℕ
    text = join_with_byte 44 (q ∷ ps)

    more : (o : Option Column) → column_of p ≡ o → option_and_then (λ c. columns_after (done ++ c ∷ []) (q ∷ ps)) o ≡ Some all
        → ((before after : List Column) → columns_after before (q ∷ ps) ≡ Some after → Pieced text before after) → Pieced (p ++ (44 ∷ text)) done all
    more None h f rest = none_some all f
    more (Some c) h f rest =
        let r = rest (done ++ c ∷ []) all f in
        record {
          columns = c ∷ r.columns;
          are = r.are ∙ append_assoc done (c ∷ []) r.columns;
          spells = (p, 44 ∷ text, column_found p c h, others_of SpellsColumn r.columns text r.spells, refl);
        }

-- columns that are found in a word are spelled by it
columns_found : (x : List ℕ) (cs : List Column) → columns_in x ≡ Some cs → SpellsTableColumns cs x
columns_found x cs e = by_pieces (slice_split (λ b. b == 44) x) refl e
  where
    by_pieces : (ps : List (List ℕ)) → slice_split (λ b. b == 44) x ≡ ps → columns_after [] ps ≡ Some cs → SpellsTableColumns cs x
    by_pieces [] h f = let none = ap length h in let some = length-slice_split (λ b. b == 44) x in absurd (omega (arith, none, some))
    by_pieces (p ∷ ps) h f =
        let m = pieces_found p ps [] cs f in
        let joined : join_with_byte 44 (p ∷ ps) ≡ x = ap (join_with_byte 44) (sym h) ∙ join_with_byte-slice_split 44 x in
        subst (SpellsTableColumns cs) joined (subst (λ ks. SpellsTableColumns ks (join_with_byte 44 (p ∷ ps))) (sym m.are) m.spells)

-- what says a table after its two names are its words
form_found : (table key columns : List ℕ) (words : List (List ℕ)) (t : TableAfter) → table_form table key columns words ≡ Some t
    → AreTableWords t.chunk t.table t.key t.columns (table ∷ codes "key" ∷ key ∷ codes "columns" ∷ columns ∷ words)
form_found table key columns words t e = by_names (is_sql_name table && is_sql_name key) refl e
  where
    Says : TableAfter → Type 0
    Says u = AreTableWords u.chunk u.table u.key u.columns (table ∷ codes "key" ∷ key ∷ codes "columns" ∷ columns ∷ words)

    by_columns : IsTrue (is_sql_name table) → IsTrue (is_sql_name key) → (o : Option (List Column)) → columns_in columns ≡ o → option_and_then (λ cs. option_map (table_with table key cs) (chunk_of words)) o ≡ Some t → Says t
    by_columns n k None h f = none_some t f
    by_columns n k (Some cs) h f =
        let m = mapped_some (table_with table key cs) (chunk_of words) t f in
        let chunk = chunk_of-found words m.0 m.1 in
        subst Says m.2 (record {
          spelling = columns;
          digits = chunk.0;
          are = ap (λ ws. table ∷ codes "key" ∷ key ∷ codes "columns" ∷ columns ∷ ws) chunk.1;
          table_named = n;
          key_named = k;
          spelled = columns_found columns cs h;
          numbered = chunk.2;
        })

    by_names : (t' : Bool) → (is_sql_name table && is_sql_name key) ≡ t' → cond t' (option_and_then (λ cs. option_map (table_with table key cs) (chunk_of words)) (columns_in columns)) None ≡ Some t → Says t
    by_names true h f = let parts = and_parts (is_sql_name table) (is_sql_name key) h in by_columns parts.0 parts.1 (columns_in columns) refl f
    by_names false h f = none_some t f

-- what says a table are its words
pub table_found : (words : List (List ℕ)) (t : TableAfter) → table_of words ≡ Some t → AreTableWords t.chunk t.table t.key t.columns words
table_found [] t e = none_some t e
table_found (a ∷ []) t e = none_some t e
table_found (a ∷ b ∷ []) t e = none_some t e
table_found (a ∷ b ∷ c ∷ []) t e = none_some t e
table_found (a ∷ b ∷ c ∷ d ∷ []) t e = none_some t e
table_found (table ∷ a ∷ key ∷ b ∷ columns ∷ words) t e = by_case (bytes_eq a (codes "key") && bytes_eq b (codes "columns")) refl e
  where
    by_case : (s : Bool) → (bytes_eq a (codes "key") && bytes_eq b (codes "columns")) ≡ s → cond s (table_form table key columns words) None ≡ Some t
        → AreTableWords t.chunk t.table t.key t.columns (table ∷ a ∷ key ∷ b ∷ columns ∷ words)
    by_case true h f =
        let parts = and_parts (bytes_eq a (codes "key")) (bytes_eq b (codes "columns")) h in
        let said : table ∷ a ∷ key ∷ b ∷ columns ∷ words ≡ table ∷ codes "key" ∷ key ∷ codes "columns" ∷ columns ∷ words =
        ap (λ w. table ∷ w ∷ key ∷ b ∷ columns ∷ words) (same_bytes a (codes "key") parts.0) ∙ ap (λ w. table ∷ codes "key" ∷ key ∷ w ∷ columns ∷ words) (same_bytes b (codes "columns") parts.1) in
        subst (AreTableWords t.chunk t.table t.key t.columns) (sym said) (form_found table key columns words t f)
    by_case false h f = none_some t f

-- fewer than five words give no table
pub few_words : (items : List (Bor (List ℕ))) → length items < 5 → table_of (map (λ (word : Bor (List ℕ)). word.now) items) ≡ None
few_words [] h = refl
few_words (a ∷ []) h = refl
few_words (a ∷ b ∷ []) h = refl
few_words (a ∷ b ∷ c ∷ []) h = refl
few_words (a ∷ b ∷ c ∷ d ∷ []) h = refl
few_words (a ∷ b ∷ c ∷ d ∷ e ∷ items) h = absurd (omega arith)

-- what five words and those after them say
pub five_words : (items : List (Bor (List ℕ))) (d : Bor (List ℕ)) (t : Bool) → 5 ≤ length items → (bytes_eq (get_or items 1 d).now (codes "key") && bytes_eq (get_or items 3 d).now (codes "columns")) ≡ t
    → table_of (map (λ (word : Bor (List ℕ)). word.now) items)
    ≡ cond t (table_form (get_or items 0 d).now (get_or items 2 d).now (get_or items 4 d).now (map (λ (word : Bor (List ℕ)). word.now) (take (length items - 5) (drop 5 items)))) None
five_words [] d t h k = absurd (omega arith)
five_words (a ∷ []) d t h k = absurd (omega arith)
five_words (a ∷ b ∷ []) d t h k = absurd (omega arith)
five_words (a ∷ b ∷ c ∷ []) d t h k = absurd (omega arith)
five_words (a ∷ b ∷ c ∷ e ∷ []) d t h k = absurd (omega arith)
five_words (a ∷ b ∷ c ∷ e ∷ f ∷ items) d t h k =
    ap (λ s. cond s (table_form a.now c.now f.now (map (λ (word : Bor (List ℕ)). word.now) items)) None) k
    ∙ ap (λ (ws : List (Bor (List ℕ))). cond t (table_form a.now c.now f.now (map (λ (word : Bor (List ℕ)). word.now) ws)) None)
    (sym (take_all (length (a ∷ b ∷ c ∷ e ∷ f ∷ items) - 5) items (omega arith)))

-- the words of a table give it
pub table_given : (chunk : ℕ) (table key : List ℕ) (columns : List Column) (words : List (List ℕ)) → AreTableWords chunk table key columns words → table_of words ≡ Some (table_with table key columns chunk)
table_given chunk table key columns words h =
    ap table_of h.are
    ∙ ap (λ t. cond t (option_and_then (λ cs. option_map (table_with table key cs) (number_of h.digits)) (columns_in h.spelling)) None) (and_both (is_sql_name table) (is_sql_name key) h.table_named h.key_named)
    ∙ ap (option_and_then (λ cs. option_map (table_with table key cs) (number_of h.digits))) (pieces_given columns h.spelling [] h.spelled)
    ∙ ap (option_map (table_with table key columns)) (number_of-given h.digits chunk h.numbered)
