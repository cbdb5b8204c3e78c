-- Views of a stack by their places, and which sources are no views.
use Rattle.std.proofs.Common.{◌≡◌, ◌∙◌, ◌*◌, ◌<◌, ◌≤◌, ℕ, zero, suc, true, false, List, [], ◌∷◌, Option, Some, None, refl, sym, subst, arith, length, option_map, get_or}
use Rattle.std.specs.List.{list_any}
use Rattle.std.proofs.lemmas.Bool.{or_left, or_right}
use Rattle.std.proofs.Math.Nat.{mul-le-mul_left, mul_comm}
use Rattle.std.proofs.lemmas.Option.{same_Some}
use Rattle.mix_catalog.specs.declared.source.SourceKind.{SourceKind}
use Rattle.mix_catalog.specs.declared.source.SourceKind.TheVariants.{Bracket, Csv, Table, Remote, Json, View as ViewFile}
use Rattle.mix_catalog.specs.Grammar.{is_view}
use Rattle.far_keep.specs.declared.far_source.FarSource.{FarSource}
use Rattle.mix_place.specs.Documents.{far_in, is_file_of}
use Rattle.mix_place.specs.Views.{lower_at, lower_of, reads_lower, view_ops}
use Rattle.mix_place.proofs.SourceKinds.{view_is_apart}
use Rattle.table_keep.specs.Views.{Declared}
use Rattle.table_wrap.specs.Document.{declared_in}
use Rattle.plan_core.specs.declared.plan.Plan.{Plan}
use Rattle.plan_core.specs.PlanMade.{plan_value}
use Rattle.plan_core.specs.Plans.{Operator}
use Rattle.lazy_walk.specs.declared.walk.Walk.{Walk}
use Rattle.lazy_walk.specs.Walks.{plan_of}
use Rattle.view_class.specs.Reads.{reads_source}
use Rattle.view_stack.specs.Stacks.{plans_of, view_at}

-- the operators of a walk's plan, where there is a walk
abbrev pub walk_ops : Option Walk → Option (List Operator)
walk_ops view = view_ops (option_map plan_of view)

-- the operators of the plans of views, by their places
pub lower_is : (views : List (Option Walk)) (i : ℕ) → lower_at (lower_of (plans_of views)) i ≡ walk_ops (view_at views i)
lower_is [] zero = refl
lower_is [] (suc i) = refl
lower_is (view ∷ views) zero = refl
lower_is (view ∷ views) (suc i) = lower_is views i

-- a walk's plan has operators, and no other view has
pub some_ops : (view : Option Walk) (ops : List Operator) → walk_ops view ≡ Some ops → (m : Walk) × (view ≡ Some m) × ((plan_value (plan_of m)).ops ≡ ops)
some_ops None ops e = absurd (let z : None ≡ Some ops = e in cc)
some_ops (Some m) ops e = (m, refl, same_Some (plan_value (plan_of m)).ops ops e)

-- a declared table is no view
pub table_no_view : (kind : SourceKind) (d : Declared) → declared_in kind ≡ Some d → is_view kind ≡ false
table_no_view kind d e =
    (elim (is_view kind) as (λ b. is_view kind ≡ b → b ≡ false) [ false ↦ λ own. refl | true ↦ λ own. absurd (let z : None ≡ Some d = sym (view_is_apart kind own).0 ∙ e in cc) ]) refl

-- a source of another machine is no view
pub far_no_view : (kind : SourceKind) (far : FarSource) → far_in kind ≡ Some far → is_view kind ≡ false
far_no_view kind far e =
    (elim (is_view kind) as (λ b. is_view kind ≡ b → b ≡ false) [ false ↦ λ own. refl | true ↦ λ own. absurd (let z : None ≡ Some far = sym (view_is_apart kind own).1 ∙ e in cc) ]) refl

-- a file that is read whole is no view
pub file_no_view : (kind : SourceKind) → is_file_of kind ≡ true → is_view kind ≡ false
file_no_view (Bracket file deep) h = refl
file_no_view (Csv file columns) h = refl
file_no_view (Table file table key columns) h = refl
file_no_view (Remote replies requests number) h = refl
file_no_view (Json file) h = refl
file_no_view (ViewFile file) h = absurd (let z : false ≡ true = h in cc)

-- what is at most so many times a number is at most so many times any that is no less
pub asked_by : (b fills asked most : ℕ) → b ≤ most * fills → fills ≤ asked → b ≤ most * asked
asked_by b fills asked most h less = (let l = mul-le-mul_left most less in omega (arith, h, l))

-- a number is no more than a multiple of itself
pub own_multiple : (most asked : ℕ) → 1 ≤ most → asked ≤ most * asked
own_multiple most asked one = (let l = mul-le-mul_left asked one in let c = mul_comm asked most in omega (arith, l, c))

-- the plan of a view, by its place
pub plan_at : (vs : List (Option Walk)) (i : ℕ) → get_or (plans_of vs) i None ≡ option_map plan_of (view_at vs i)
plan_at [] zero = refl
plan_at [] (suc i) = refl
plan_at (v ∷ vs) zero = refl
plan_at (v ∷ vs) (suc i) = plan_at vs i

-- a plan at a place is one of the plans
pub plan_inside : (ps : List (Option Plan)) (i : ℕ) (p : Plan) → get_or ps i None ≡ Some p → i < length ps
plan_inside [] zero p e = absurd (let z : None ≡ Some p = e in cc)
plan_inside [] (suc i) p e = absurd (let z : None ≡ Some p = e in cc)
plan_inside (q ∷ ps) zero p e = omega arith
plan_inside (q ∷ ps) (suc i) p e = (let h = plan_inside ps i p e in omega (arith, h))

-- a view at a place reads a source, so one of the views does
pub any_at : (s : ℕ) (vs : List (Option (List Operator))) (i : ℕ) (o : List Operator) → lower_at vs i ≡ Some o → reads_source o s ≡ true → list_any (reads_lower s) vs ≡ true
any_at s [] zero o e read = absurd (let z : None ≡ Some o = e in cc)
any_at s [] (suc i) o e read = absurd (let z : None ≡ Some o = e in cc)
any_at s (v ∷ vs) zero o e read = or_left (reads_lower s v) (list_any (reads_lower s) vs) (subst (λ (x : Option (List Operator)). reads_lower s x ≡ true) (sym e) read)
any_at s (v ∷ vs) (suc i) o e read = or_right (reads_lower s v) (list_any (reads_lower s) vs) (any_at s vs i o e read)
