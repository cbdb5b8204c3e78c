-- Levels that stand side by side, as runs of one profile.
use Rattle.std.proofs.Common.{◌≡◌, ◌∙◌, ◌<◌, ◌≤◌, ◌+◌, ◌-◌, ℕ, zero, suc, List, [], ◌∷◌, ◌++◌, arith, refl, sym, ap, length, drop, get_or, map, append_assoc, add-one, drop-cons}
use Rattle.std.specs.Prelude.{slice_index_or, slice_get, slice_set, Some}
use Rattle.std.proofs.lemmas.List.{map-append, append-nil}
use Rattle.browse_profile.specs.declared.profile.Profile.{Profile}
use Rattle.browse_profile.specs.Profiles.{unbounded}
use Rattle.plan_class.specs.LevelLists.{opens}
use Rattle.plan_class.specs.Runs.{copies, levels_of}
use Rattle.plan_class.specs.declared.runs.Run.{Run}

-- levels of which nothing is known are one run of them
pub opens_are : (n : ℕ) → copies unbounded n ≡ opens n
opens_are zero = refl
opens_are (suc n) = ap (λ (ps : List Profile). unbounded ∷ ps) (opens_are n)

-- one run of levels of which nothing is known
pub opened : (runs : List Run) (p : Profile) (n : ℕ) → p ≡ unbounded → 0 < n → runs ≡ (record { level = p; more = n - 1 }) ∷ [] → levels_of runs ≡ opens n
opened runs p n e h q =
    let whole : suc (n - 1) ≡ n = omega (arith, h) in
    ap levels_of q
    ∙ append-nil (copies p (suc (n - 1)))
    ∙ ap (λ (r : Profile). copies r (suc (n - 1))) e
    ∙ ap (copies unbounded) whole
    ∙ opens_are n

-- the levels but the first, where there are more of its run
pub after_shorter : (runs left : List Run) (r : Run) → slice_get runs 0 ≡ Some r → 0 < r.more → left ≡ slice_set runs 0 (record { level = r.level; more = r.more - 1 }) → levels_of left ≡ drop 1 (levels_of runs)
after_shorter [] left r g h e = cc
after_shorter (x ∷ runs) left r g h e =
    let same : x ≡ r = cc in
    let whole : suc (r.more - 1) ≡ r.more = omega (arith, h) in
    ap levels_of e
    ∙ ap (λ (n : ℕ). copies r.level n ++ levels_of runs) whole
    ∙ ap (λ (y : Run). copies y.level y.more ++ levels_of runs) (sym same)

-- the levels but the first, where it is a run by itself
pub after_alone : (runs left : List Run) (r : Run) → slice_get runs 0 ≡ Some r → r.more ≡ 0 → left ≡ drop 1 runs → levels_of left ≡ drop 1 (levels_of runs)
after_alone [] left r g h e = cc
after_alone (x ∷ runs) left r g h e =
    let same : x ≡ r = cc in
    ap levels_of e
    ∙ ap (λ (n : ℕ). copies r.level n ++ levels_of runs) (sym h)
    ∙ ap (λ (y : Run). copies y.level y.more ++ levels_of runs) (sym same)

-- one more run has its levels after the others
pub run_after : (runs more : List Run) → levels_of (runs ++ more) ≡ levels_of runs ++ levels_of more
run_after [] more = refl
run_after (r ∷ runs) more =
    ap (λ (ps : List Profile). copies r.level (suc r.more) ++ ps) (run_after runs more) ∙ sym (append_assoc (copies r.level (suc r.more)) (levels_of runs) (levels_of more))

-- changed levels of one profile are as many of the changed profile
copies_changed : (f : Profile → Profile) (p : Profile) (n : ℕ) → map f (copies p n) ≡ copies (f p) n
copies_changed f p zero = refl
copies_changed f p (suc n) = ap (λ (ps : List Profile). f p ∷ ps) (copies_changed f p n)

-- a level within the first run is the run's
in_run : (p : Profile) (n j : ℕ) (after : List Profile) (rest : Profile) → j < n → slice_index_or (copies p n ++ after) j rest ≡ p
in_run p zero j after rest h = absurd (omega (arith, h))
in_run p (suc n) zero after rest h = refl
in_run p (suc n) (suc j) after rest h = in_run p n j after rest (omega (arith, h))

-- a level past the first run is one of the runs after it
past_run : (p : Profile) (n j k : ℕ) (after : List Profile) (rest : Profile) → j ≡ n + k → slice_index_or (copies p n ++ after) j rest ≡ slice_index_or after k rest
past_run p zero j k after rest h = let same : j ≡ k = omega (arith, h) in ap (λ (m : ℕ). slice_index_or after m rest) same
past_run p (suc n) zero k after rest h = absurd (omega (arith, h))
past_run p (suc n) (suc j) k after rest h = past_run p n j k after rest (omega (arith, h))

module _ (runs : List Run) (i : ℕ) (none : Run) (within : i < length runs) where
  -- the run of a number
  abbrev run : Run
  run = get_or runs i none

  -- the runs after it
  abbrev after : List Run
  after = drop (i + 1) runs

  -- the runs from a number on are the run of that number and those after it
  from_here : drop i runs ≡ run ∷ after
  from_here = rw (add-one, drop-cons runs i none within) refl

  -- a level within a run is the run's
  pub level_found : (j : ℕ) (rest p : Profile) → j ≤ run.more → slice_index_or (levels_of (drop i runs)) j rest ≡ p → run.level ≡ p
  level_found j rest p h e =
      sym (in_run run.level (suc run.more) j (levels_of after) rest (omega (arith, h))) ∙ ap (λ (rs : List Run). slice_index_or (levels_of rs) j rest) (sym from_here) ∙ e

  -- a level past a run is one of the runs after it
  pub level_passed : (j : ℕ) (rest p : Profile) → run.more < j → slice_index_or (levels_of (drop i runs)) j rest ≡ p → slice_index_or (levels_of after) (j - run.more - 1) rest ≡ p
  level_passed j rest p h e =
      let whole : j ≡ suc run.more + (j - run.more - 1) = omega (arith, h) in
      sym (past_run run.level (suc run.more) j (j - run.more - 1) (levels_of after) rest whole)
      ∙ ap (λ (rs : List Run). slice_index_or (levels_of rs) j rest) (sym from_here)
      ∙ e

  -- one run more is put beside
  pub run_beside : (f : Profile → Profile) (some more : List Run) → more ≡ some ++ (record { level = f run.level; more = run.more }) ∷ []
      → levels_of more ++ map f (levels_of after) ≡ levels_of some ++ map f (levels_of (drop i runs))
  run_beside f some more m =
      let one : Run = record { level = f run.level; more = run.more } in
      let own : List Profile = copies (f run.level) (suc run.more) in
      let others : List Profile = map f (levels_of after) in
      let changed : map f (levels_of (run ∷ after)) ≡ own ++ others =
      map-append f (copies run.level (suc run.more)) (levels_of after) ∙ ap (λ (ps : List Profile). ps ++ others) (copies_changed f run.level (suc run.more))
      in
      ap (λ (rs : List Run). levels_of rs ++ others) m
      ∙ ap (λ (ps : List Profile). ps ++ others) (run_after some (one ∷ []))
      ∙ append_assoc (levels_of some) (own ++ []) others
      ∙ ap (λ (ps : List Profile). levels_of some ++ ps) (append_assoc own [] others ∙ sym changed)
      ∙ ap (λ (rs : List Run). levels_of some ++ map f (levels_of rs)) (sym from_here)
