-- What the program knows of operators is what is known of them.
use Rattle.std.specs.Prelude.{◌≡◌, ◌<◌, ℕ, zero, suc, true, List, [], ◌∷◌, ◌++◌, length, Option, Some, None}
use Rattle.plan_core.specs.ByNumber.{op_at}
use Rattle.plan_core.specs.Fronts.{front}
use Rattle.plan_core.specs.Plans.{Operator}
use Rattle.plan_core.specs.Valid.{Kind, a_node, Kinds, kinds, outs_of}
use Rattle.browse_profile.specs.Profiles.{costless}
use Rattle.browse_visit.specs.declared.shape.Shape.{Shape}
use Rattle.browse_visit.specs.SortSet.{IsSet}
use Rattle.browse_visit.specs.Shapes.{shape_at, shapes_of}
use Rattle.browse_class.specs.Facts.{Facts, facts, no_facts, kind_profile}
use Rattle.plan_class.specs.Known.{Known, known_at, binds, domain_of, op_known}
use Rattle.plan_class.specs.declared.domain.Domain.{Domain}
use Rattle.plan_class.specs.LevelLists.{level_in}

-- the variable that is bound anew
abbrev pub out_of : List ℕ → Option ℕ
out_of [] = None
out_of (v ∷ vs) = Some v

-- what is known of an operator that binds these anew agrees with the facts
pub record AgreesWith (shapes : List Shape) (outs : List ℕ) (kinds : Kinds) (f : Facts) (k : Known) : Type 0 where
  pub profile : k.profile ≡ f.profile
  pub out : k.out ≡ out_of outs
  pub nodes : (v : ℕ) → binds (out_of outs) v ≡ true → kinds v ≡ Some a_node → IsSet (shape_at shapes k.domain.source) k.domain.sorts (f.layouts v)
  pub trees : (v : ℕ) (kind : Kind) → binds (out_of outs) v ≡ true → kinds v ≡ Some kind → k.domain.trees ≡ kind_profile (Some kind) (f.lists v)
  pub keys : k.keys ≡ f.keys
  pub levels : (j : ℕ) → level_in k.levels j ≡ f.levels j

-- what the program knows of operator n agrees with its facts
abbrev pub Agrees : List Shape → List Operator → ℕ → Known → Type 0
Agrees shapes ops n k = AgreesWith shapes (outs_of (op_at ops n)) (kinds ops n) (facts (shapes_of shapes) ops n) k

-- the program knows the first n operators of a plan, and what it knows of each agrees with its facts
pub record AreKnown (shapes : List Shape) (ops : List Operator) (known : List Known) (n : ℕ) : Type 0 where
  pub count : length known ≡ n
  pub each : (i : ℕ) → i < n → Agrees shapes ops i (known_at known i)

-- what the values of variables can be, as facts that have the lists of variables alone
abbrev pub lists_of : (ℕ → Domain) → Facts
lists_of domains = record { profile = costless; layouts = no_facts.layouts; lists = λ v. (domains v).trees; keys = []; levels = no_facts.levels }

-- what the program knows, as facts that have the lists of variables alone
abbrev pub lists_in : List Known → Facts
lists_in known = lists_of (domain_of known)

-- what the program knows of the first n operators
abbrev pub known_below : List Shape → List Operator → ℕ → List Known
known_below shapes ops zero = []
known_below shapes ops (suc n) = known_below shapes ops n ++ op_known shapes (front ops) (known_below shapes ops n) (op_at ops n) ∷ []
