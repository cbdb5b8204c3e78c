use Rattle.std.proofs.Common.{◌≡◌, ◌∙◌, ◌<◌, ◌+◌, ℕ, suc, List, [], ◌∷◌, ◌++◌, length, drop, get_or, Option, Some, None, option_map, refl, sym, ap, append_assoc, add-one, drop-cons}
use Rattle.std.specs.Prelude.{option_and_then}
use Rattle.mix_catalog.specs.declared.column.Column.{Column}
use Rattle.table_keep.specs.Table.{place_of, places_of}
use Rattle.table_keep.proofs.mem_table.MemTable.places.Goals as goal

-- the places of a column and of those after it
places_next : (names : List (List ℕ)) (all : List Column) (i : ℕ) (x : Column) (found : Option ℕ) (some : List ℕ) → i < length all → x ≡ get_or all i x → place_of names x ≡ found
    → option_map (λ (ps : List ℕ). some ++ ps) (option_and_then (λ (q : ℕ). option_map (λ (ps : List ℕ). q ∷ ps) (places_of names (drop (i + 1) all))) found)
    ≡ option_map (λ (ps : List ℕ). some ++ ps) (places_of names (drop i all))
places_next names all i x found some h e f =
    let next : drop i all ≡ x ∷ drop (i + 1) all = rw (add-one, drop-cons all i x) (ap (λ (u : Column). u ∷ drop (suc i) all) (sym e)) in
    ap (λ (o : Option ℕ). option_map (λ (ps : List ℕ). some ++ ps) (option_and_then (λ (q : ℕ). option_map (λ (ps : List ℕ). q ∷ ps) (places_of names (drop (i + 1) all))) o)) (sym f)
    ∙ ap (λ (cs : List Column). option_map (λ (ps : List ℕ). some ++ ps) (places_of names cs)) (sym next)

-- a place after others, before those to come
place_after : (p : ℕ) (some more : List ℕ) (rest : Option (List ℕ)) → more ≡ some ++ p ∷ []
    → option_map (λ (ps : List ℕ). more ++ ps) rest ≡ option_map (λ (ps : List ℕ). some ++ ps) (option_map (λ (ps : List ℕ). p ∷ ps) rest)
place_after p some more None m = refl
place_after p some more (Some ps) m = ap Some (ap (λ (z : List ℕ). z ++ ps) m ∙ append_assoc some (p ∷ []) ps)

pub columns-preserved : goal.columns-preserved
columns-preserved c =
    let names = c.args.self.now.columns.items in
    let all = c.args.columns.now in
    let i = c.columns.column-index in
    let x = c.column-item.result in
    place_after c.in-Some.place c.columns.places.items c.push.new.self.items (places_of names (drop (i + 1) all)) c.in_ok-push.ensures.items
    ∙ places_next names all i x (Some c.in-Some.place) c.columns.places.items c.columns-test.true c.column-item.is
    (ap (λ (ns : List (List ℕ)). place_of ns x) (sym c.deref.ensures.value) ∙ sym c.place_of.ensures ∙ c.in-Some.is)
    ∙ c.columns.invariant

pub returns-in_default : goal.returns-in_default
returns-in_default c =
    let names = c.args.self.now.columns.items in
    let x = c.column-item.result in
    places_next names c.args.columns.now c.columns.column-index x None c.columns.places.items c.columns-test.true c.column-item.is
    (ap (λ (ns : List (List ℕ)). place_of ns x) (sym c.deref.ensures.value) ∙ sym c.place_of.ensures ∙ c.in_default.is)
    ∙ c.columns.invariant
