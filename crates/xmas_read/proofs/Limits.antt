-- The sources and the paths of conditions that aren't refused.
use Rattle.std.proofs.Common.{◌≡◌, ◌≤◌, ◌+◌, ℕ, Bool, true, false, cond, nat_lt, List, [], ◌∷◌, ◌++◌, Option, Some, None, Result, Ok, Err, refl, subst, length, map, arith}
use Rattle.std.proofs.lemmas.Bool.Decides.{nat_tests}
use Rattle.std.specs.List.{AllByRecursion}
use Rattle.path_expr.specs.Grammar.{Spelled}
use Rattle.path_expr.specs.Depth.{nesting}
use Rattle.path_expr.specs.Form.{positions_in}
use Rattle.path_expr.specs.Values.{value_of}
use Rattle.xmas_text.specs.Grammar.{Cond, source, walk, compare, Conds, one, also, conds_text}
use Rattle.xmas_text.specs.Parsed.{RuleForm, cond_at, conds_at, conds_place}
use Rattle.xmas_tokens.specs.Lexemes.{path_form}
use Rattle.xmas_text.specs.Results.{SpellsWithin}
use Rattle.xmas_tokens.specs.declared.lexeme.PathLimit.TheVariants.{Nesting, Positions}
use Rattle.xmas_text.specs.declared.cond.CondText.{CondText}
use Rattle.xmas_text.specs.declared.cond.CondText.TheVariants as condition
use Rattle.xmas_rule.specs.Conditions.{binders, AreSources, HasFewPositions}
use Rattle.xmas_read.specs.Tree.{Tree, form_of_tree}
use Rattle.xmas_read.specs.Value.{path_value, cond_value}
use Rattle.xmas_read.specs.Refusals.{has_name, unless, unknown_sources}
use Rattle.xmas_read.proofs.CleanBound.{all_both}
use Rattle.xmas_read.proofs.NamePlaces.{place_small}
use Rattle.xmas_read.proofs.Templates.{both_none, unless_none}

-- conditions that name no unknown source are over the sources that there are
pub conds_sourced : (sources names : List (List ℕ)) (conds : List CondText) → unknown_sources sources conds ≡ [] → AreSources (length sources) (binders (map (cond_value sources names) conds))
conds_sourced sources names [] u = tt
conds_sourced sources names (condition.FromSource at from path var ∷ conds) u =
    let p = both_none (unless (has_name sources from) at) (unknown_sources sources conds) u in
    (place_small sources from (unless_none (has_name sources from) at p.0), conds_sourced sources names conds p.1)
conds_sourced sources names (condition.FromVar start path var ∷ conds) u = conds_sourced sources names conds u
conds_sourced sources names (condition.Compare left op right ∷ conds) u = conds_sourced sources names conds u

-- the value of a condition's path has at most 120 label positions
unfoldable IsShort : CondText → Type 0
IsShort (condition.FromSource at from path var) = positions_in (path_value path) ≤ 120
IsShort (condition.FromVar start path var) = positions_in (path_value path) ≤ 120
IsShort (condition.Compare left op right) = Unit {0}

-- the value of a written path has at most 120 label positions
path_short : (p : Spelled) → positions_in (path_value (path_form p)) ≤ 120
path_short p = by (nat_lt 100 (nesting p)) (nat_lt 120 (positions_in (value_of p))) refl
  where
    by : (a b : Bool) → nat_lt 120 (positions_in (value_of p)) ≡ b → positions_in (path_value (cond a (Err Nesting) (cond b (Err Positions) (Ok (value_of p))))) ≤ 120
    by true b e = omega arith
    by false true e = omega arith
    by false false e = grind (arith, nat_tests)

-- the path of a written condition has at most 120 label positions
cond_short : (at : ℕ) (c : Cond) → IsShort (cond_at at c)
unfolding IsShort
cond_short at (source name g p h v) = path_short p
cond_short at (walk start g p h v) = path_short p
cond_short at (compare v g o h a) = tt

-- the paths of written conditions have at most 120 label positions
conds_short : (at : ℕ) (cs : Conds) → AllByRecursion IsShort (conds_at at cs)
conds_short at (one g c) = (cond_short (at + length g) c, tt)
conds_short at (also cs g h c) =
    let here = at + length (conds_text cs) + length g + 3 + length h in
    all_both IsShort (conds_at at cs) (cond_at here c ∷ []) (conds_short at cs) (cond_short here c, tt)

-- the binders of conditions with short paths have few label positions
binders_short : (sources names : List (List ℕ)) (conds : List CondText) → AllByRecursion IsShort conds → AllByRecursion HasFewPositions (binders (map (cond_value sources names) conds))
unfolding IsShort
binders_short sources names [] h = tt
binders_short sources names (condition.FromSource at from path var ∷ conds) h = (h.0, binders_short sources names conds h.1)
binders_short sources names (condition.FromVar start path var ∷ conds) h = (h.0, binders_short sources names conds h.1)
binders_short sources names (condition.Compare left op right ∷ conds) h = binders_short sources names conds h.1

-- the paths of the tree of a text have at most 120 label positions
pub conds_few : (x : List ℕ) (sources names : List (List ℕ)) (t : Tree) → SpellsWithin x (form_of_tree t) → AllByRecursion HasFewPositions (binders (map (cond_value sources names) t.conds))
conds_few x sources names t w = binders_short sources names t.conds (subst (λ (f : RuleForm). AllByRecursion IsShort f.conds) w.tree (conds_short (conds_place w.written) w.written.conds))
