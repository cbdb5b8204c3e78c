-- Where the nodes of variables can lie, and what operators say of those that they bind anew.
use Rattle.std.specs.Prelude.{◌≡◌, ℕ, ◌==◌, cond, List, Option, Some, None}
use Rattle.std.specs.BTreeMap.{get}
use Rattle.std.specs.Option.{option_map}
use Rattle.std.specs.Ordering.{nat_cmp}
use Rattle.path_auto.specs.Automaton.{machine_of, table_of}
use Rattle.path_expr.specs.Form.{Form}
use Rattle.plan_core.specs.Shapes.{Shape, one_source, visits_below, pairs_up, passes_on, no_events}
use Rattle.plan_core.specs.Valid.{stage_outs}
use Rattle.browse_visit.specs.declared.shape.Shape.{Shape as SourceShape}
use Rattle.browse_visit.specs.Found.{sorts_found}
use Rattle.browse_visit.specs.Samples.{sample_labels}
use Rattle.browse_visit.specs.Shapes.{shape_at, first_sort, no_sorts, only}
use Rattle.plan_class.specs.declared.domain.Domain.{Domain}
use Rattle.plan_class.specs.Agree.{out_of}
use Rattle.plan_class.specs.Known.{Known}
use Rattle.plan_class.specs.VarDomains.{found_in}
use Rattle.unsatisfiable_paths.specs.declared.domains.NodeDomain.{NodeDomain}
use Rattle.unsatisfiable_paths.specs.declared.domains.NodeDomains.{NodeDomains}

-- what is known of a variable's values, as far as it says where nodes lie
abbrev pub nodes_of : Domain → NodeDomain
nodes_of d = record { source = d.source; sorts = d.sorts }

-- no nodes
abbrev pub no_nodes : NodeDomain
no_nodes = record { source = 0; sorts = no_sorts }

-- the document node of a source
abbrev pub source_nodes : List SourceShape → ℕ → NodeDomain
source_nodes shapes s = record { source = s; sorts = only (first_sort (shape_at shapes s)) }

-- the nodes that a path leads to from such nodes
abbrev pub nodes_along : List SourceShape → Form → NodeDomain → NodeDomain
nodes_along shapes path start = record {
  source = start.source;
  sorts = sorts_found (machine_of (table_of path)) (sample_labels (table_of path).labels) (shape_at shapes start.source) start.sorts;
}

-- the variable that a shape binds anew, and where its nodes can lie: of a stage, nowhere
abbrev pub shape_bound : List SourceShape → (ℕ → NodeDomain) → Shape → Option (ℕ × NodeDomain)
shape_bound shapes nodes (one_source s out) = Some (out, source_nodes shapes s)
shape_bound shapes nodes (visits_below input start path out) = Some (out, nodes_along shapes path (nodes start))
shape_bound shapes nodes (pairs_up left right tests) = None
shape_bound shapes nodes (passes_on input stage) = option_map (λ out. (out, no_nodes)) (out_of (stage_outs stage))
shape_bound shapes nodes (no_events input made) = None

-- where the nodes of a variable lie by one that is bound anew: where that one's lie, if it is the same
abbrev pub bound_at : Option (ℕ × NodeDomain) → ℕ → Option NodeDomain
bound_at None v = None
bound_at (Some bound) v = cond (bound.0 == v) (Some bound.1) None

-- the nodes that were found, or none
abbrev pub found_or_none : Option NodeDomain → NodeDomain
found_or_none None = no_nodes
found_or_none (Some nodes) = nodes

-- where the nodes of a variable lie, by the map
abbrev pub nodes_in : NodeDomains → ℕ → NodeDomain
nodes_in ds v = found_or_none (get nat_cmp ds.vars v)

-- the map says of each variable where its nodes lie by what is known of operators
abbrev pub AreNodeDomains : NodeDomains → List Known → Type 0
AreNodeDomains ds known = (v : ℕ) → get nat_cmp ds.vars v ≡ option_map nodes_of (found_in known v)
