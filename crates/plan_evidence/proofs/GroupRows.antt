-- The list of a group has the trees of its members, which are all of the input's bindings that agree with its first by the keys.
use Rattle.std.proofs.Common.{◌≡◌, ◌∙◌, ℕ, true, false, cond, List, [], ◌∷◌, ◌++◌, refl, sym, ap}
use Rattle.std.specs.Prelude.{Bool, ◌||◌}
use Rattle.std.specs.List.{AllByRecursion, filter}
use Rattle.std.proofs.lemmas.List.Folds.{list_any-append}
use Rattle.mix_base.proofs.Firsts.{each_weaker, each_snoc}
use Rattle.mix_base.specs.Events.{skip, bind, without_skips}
use Rattle.mix_tree.specs.Forest.{Forest, followed, joined}
use Rattle.mix_tree.specs.Nodes.{Documents}
use Rattle.mix_tree.specs.declared.var.Key.{Key}
use Rattle.plan_core.specs.declared.plan.Piece.{Piece}
use Rattle.plan_core.specs.Beside.{EachBinding, StandsFirst, AreBeside, AreContiguous}
use Rattle.plan_core.specs.Events.{RowEvents, only, distinct, run_of, group_after}
use Rattle.plan_core.specs.Fronts.{are_contiguous}
use Rattle.plan_core.specs.Tolled.{Tolled, ends, plain}
use Rattle.plan_core.specs.TolledRows.{TolledRow, piece_items, collected, KeyValue, key_values, same_values, is_seen}
use Rattle.plan_core.proofs.Besides.{run_whole}
use Rattle.plan_core.proofs.Bindings.{EachSuffix, suffix_all, suffix_weaker, suffix_beside}
use Rattle.plan_core.proofs.KeyValues.{all_itself}
use Rattle.plan_core.proofs.Plains.{plain_dearer, plain_piece}
use Rattle.plan_core.proofs.RowLaws.{snoc}
use Rattle.plan_evidence.proofs.Shown.{shown, shown_plain}
use Rattle.browse_class.proofs.FirstKeys.{values_same}

module _ (docs : Documents) where
  -- a piece before other trees is, without tolls, what it shows before them
  piece_before : (row : TolledRow) (q : Piece) (rest : Tolled) → plain (piece_items docs q row rest) ≡ followed (shown docs row q) (plain rest)
  piece_before row q rest = plain_piece docs q row rest ∙ ap (λ (f : Forest). followed f (plain rest)) (shown_plain docs row q)

  -- the list of a piece over events is, without tolls, what the piece shows over each binding
  pub collected_shown : (q : Piece) (es : RowEvents) → plain (collected docs q es (ends 0)) ≡ joined (λ r. shown docs r q) (without_skips es)
  collected_shown q [] = refl
  collected_shown q (skip ∷ es) = plain_dearer 1 (collected docs q es (ends 0)) ∙ collected_shown q es
  collected_shown q (bind row ∷ es) =
      plain_dearer 1 (piece_items docs q row (collected docs q es (ends 0))) ∙ piece_before row q (collected docs q es (ends 0)) ∙ ap (followed (shown docs row q)) (collected_shown q es)

  -- the bindings of events that pass a test are those of the bindings that pass it
  pub only_filter : (test : TolledRow → Bool) (es : RowEvents) → without_skips (only test es) ≡ filter test (without_skips es)
  only_filter test [] = refl
  only_filter test (skip ∷ es) = only_filter test es
  only_filter test (bind row ∷ es) =
      elim (test row) as (λ w. without_skips (cond w (bind row) skip ∷ only test es) ≡ cond w (row ∷ filter test (without_skips es)) (filter test (without_skips es))) [
        | true ↦ ap (λ (rs : List TolledRow). row ∷ rs) (only_filter test es)
        | false ↦ only_filter test es
      ]

module _ (docs : Documents) (keys : List Key) where
  -- a binding has the same values of the keys as another
  abbrev pub agrees : TolledRow → TolledRow → Bool
  agrees row r = same_values (key_values docs keys row) (key_values docs keys r)

  -- the members of a group after its first are the bindings that agree with it, also where the search ends at the first other one
  after_first : (stops : Bool) (row : TolledRow) (es : RowEvents) → (stops ≡ true → StandsFirst docs keys row es) → without_skips (group_after docs keys stops row es) ≡ filter (agrees row) (without_skips es)
  after_first stops row es first =
      (elim stops as (λ w. (w ≡ true → StandsFirst docs keys row es) → without_skips (cond w (run_of (agrees row) es) (only (agrees row) es)) ≡ without_skips (only (agrees row) es)) [
        | true ↦ λ h. run_whole docs keys row es (h refl)
        | false ↦ λ h. refl
      ]) first
      ∙ only_filter docs (agrees row) es

  -- the list of a group has, without tolls, what the piece shows over its first and over those that agree with it
  pub group_shown : (stops : Bool) (q : Piece) (row : TolledRow) (es : RowEvents) → (stops ≡ true → StandsFirst docs keys row es)
      → plain (piece_items docs q row (collected docs q (group_after docs keys stops row es) (ends 0))) ≡ joined (λ r. shown docs r q) (row ∷ filter (agrees row) (without_skips es))
  group_shown stops q row es first =
      piece_before docs row q (collected docs q (group_after docs keys stops row es) (ends 0))
      ∙ ap (followed (shown docs row q)) (collected_shown docs q (group_after docs keys stops row es) ∙ ap (joined (λ r. shown docs r q)) (after_first stops row es first))

  -- where bindings that agree by contiguous keys stand side by side, after each binding those that agree with it come first
  pub stand_first : (vars : List ℕ) (es : RowEvents) → AreContiguous docs vars es → EachSuffix (λ row rest. are_contiguous keys vars ≡ true → StandsFirst docs keys row rest) es
  stand_first vars es h =
      (elim (are_contiguous keys vars) as (λ w. (w ≡ true → AreBeside docs keys es) → EachSuffix (λ row rest. w ≡ true → StandsFirst docs keys row rest) es) [
        | true ↦ λ g. suffix_weaker (StandsFirst docs keys) (λ row rest. true ≡ true → StandsFirst docs keys row rest) (λ row rest k e. k) es (suffix_beside docs keys es (g refl))
        | false ↦ λ g. suffix_all (λ row rest. false ≡ true → StandsFirst docs keys row rest) (λ row rest e. cc) es
      ]) (h keys)

  -- a binding whose keys weren't seen differs from one whose keys were
  unseen_differs : (seen : List (List KeyValue)) (row b : TolledRow) → is_seen (key_values docs keys row) seen ≡ false → is_seen (key_values docs keys b) seen ≡ true → agrees row b ≡ false
  unseen_differs seen row b u s =
      (elim (agrees row b) as (λ w. agrees row b ≡ w → w ≡ false) [
        | true ↦ λ e. (let z : true ≡ false = sym s ∙ sym (ap (λ k. is_seen k seen) (values_same (key_values docs keys row) (key_values docs keys b) e)) ∙ u in cc)
        | false ↦ λ e. refl
      ]) refl

  -- bindings that differ from one aren't among those that agree with it
  none_agree : (row : TolledRow) (before rest : List TolledRow) → AllByRecursion (λ b. agrees row b ≡ false) before → filter (agrees row) (before ++ rest) ≡ filter (agrees row) rest
  none_agree row [] rest h = refl
  none_agree row (b ∷ before) rest h =
      ap (λ w. cond w (b ∷ filter (agrees row) (before ++ rest)) (filter (agrees row) (before ++ rest))) h.0 ∙ none_agree row before rest h.1

  -- of all bindings those that agree with the first of its group are that one and those after it
  group_is : (seen : List (List KeyValue)) (row : TolledRow) (before rest : List TolledRow) → is_seen (key_values docs keys row) seen ≡ false
      → AllByRecursion (λ b. is_seen (key_values docs keys b) seen ≡ true) before → filter (agrees row) (before ++ row ∷ rest) ≡ row ∷ filter (agrees row) rest
  group_is seen row before rest u h =
      none_agree row before (row ∷ rest) (each_weaker (λ b. is_seen (key_values docs keys b) seen ≡ true) (λ b. agrees row b ≡ false) (λ b s. unseen_differs seen row b u s) before h)
      ∙ ap (λ w. cond w (row ∷ filter (agrees row) rest) (filter (agrees row) rest)) (all_itself (key_values docs keys row))

  -- what was seen stays seen
  still_seen : (seen : List (List KeyValue)) (k x : List KeyValue) → is_seen k seen ≡ true → is_seen k (seen ++ x ∷ []) ≡ true
  still_seen seen k x h = list_any-append (λ s. same_values s k) seen (x ∷ []) ∙ ap (λ w. w || (same_values x k || false)) h

  -- keys that are added are seen
  own_seen : (seen : List (List KeyValue)) (x : List KeyValue) → is_seen x seen ≡ false → is_seen x (seen ++ x ∷ []) ≡ true
  own_seen seen x h = list_any-append (λ s. same_values s x) seen (x ∷ []) ∙ ap (λ w. w || (same_values x x || false)) h ∙ ap (λ w. w || false) (all_itself x)

  module _ (make : TolledRow → RowEvents → TolledRow) (whole : List TolledRow) (P Q : TolledRow → Type 0) (R : TolledRow → RowEvents → Type 0)
      (made : (row : TolledRow) (rest : RowEvents) → P row → R row rest → filter (agrees row) whole ≡ row ∷ filter (agrees row) (without_skips rest) → Q (make row rest)) where
    -- what is made of each first binding by the keys is as is said, where that follows of one with all that agree with it among it and those after it
    pub each_group : (seen : List (List KeyValue)) (before : List TolledRow) (es : RowEvents) → AllByRecursion (λ b. is_seen (key_values docs keys b) seen ≡ true) before
        → before ++ without_skips es ≡ whole → EachBinding P es → EachSuffix R es → EachBinding Q (distinct docs keys make seen es)
    each_group seen before [] a e b s = tt
    each_group seen before (skip ∷ es) a e b s = each_group seen before es a e b s
    each_group seen before (bind row ∷ es) a e b s =
        let x : List KeyValue = key_values docs keys row in
        let all : (before ++ row ∷ []) ++ without_skips es ≡ whole = snoc before row (without_skips es) ∙ e in
        (elim (is_seen x seen) as (λ w. is_seen x seen ≡ w → EachBinding Q (cond w (skip ∷ distinct docs keys make seen es) (bind (make row es) ∷ distinct docs keys make (seen ++ x ∷ []) es))) [
          | true ↦ λ t. each_group seen (before ++ row ∷ []) es (each_snoc (λ b. is_seen (key_values docs keys b) seen ≡ true) before row a t) all b.1 s.1
          | false ↦ λ t. (
            made row es b.0 s.0 (ap (filter (agrees row)) (sym e) ∙ group_is seen row before (without_skips es) t a),
            each_group (seen ++ x ∷ []) (before ++ row ∷ []) es
                (each_snoc (λ b. is_seen (key_values docs keys b) (seen ++ x ∷ []) ≡ true) before row
                (each_weaker (λ b. is_seen (key_values docs keys b) seen ≡ true) (λ b. is_seen (key_values docs keys b) (seen ++ x ∷ []) ≡ true) (λ b h. still_seen seen (key_values docs keys b) x h) before a)
                (own_seen seen x t))
                all b.1 s.1,
          )
        ]) refl
