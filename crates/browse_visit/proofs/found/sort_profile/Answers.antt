use Rattle.std.proofs.Common.{◌≡◌, ◌∙◌, ℕ, List, ap, sym}
use Rattle.path_auto.specs.Automaton.{Machine, machine_of}
use Rattle.browse_profile.specs.declared.profile.Profile.{Profile}
use Rattle.browse_visit.specs.declared.shape.Shape.{Shape}
use Rattle.browse_visit.specs.declared.shape.Sort.{Sort}
use Rattle.browse_visit.specs.declared.shape.Sort.TheVariants.{Document, Root, Row, Value, MaybeValue, Leaf, Anything}
use Rattle.browse_visit.specs.Shapes.{sort_layout}
use Rattle.browse_visit.specs.Visits.{visit_profile}
use Rattle.browse_visit.specs.Found.{sort_profile}
use Rattle.browse_visit.proofs.found.sort_profile.Goals as goal

-- the visit from the first states below a node that is of a sort
at_sort : (m : Machine) (labels : List (List ℕ)) (shape : Shape) (s t : Sort) (q : ℕ) (p : Profile) → s ≡ t → q ≡ m.start → p ≡ visit_profile m labels q (sort_layout shape t)
    → p ≡ sort_profile m labels shape s
at_sort m labels shape s t q p e f g = g ∙ ap (λ (z : ℕ). visit_profile m labels z (sort_layout shape t)) f ∙ ap (sort_profile m labels shape) (sym e)

pub returns-in-Document : goal.returns-in-Document
returns-in-Document c = at_sort (machine_of c.args.automaton.now) c.args.labels.now c.args.shape.now c.args.sort Document c.start-start.result c.document_profile.result c.in-Document.is c.start-start.ensures c.document_profile.ensures

pub returns-in-Root : goal.returns-in-Root
returns-in-Root c = at_sort (machine_of c.args.automaton.now) c.args.labels.now c.args.shape.now c.args.sort Root c.start-start.result c.root_profile.result c.in-Root.is c.start-start.ensures c.root_profile.ensures

pub returns-in-Row : goal.returns-in-Row
returns-in-Row c = at_sort (machine_of c.args.automaton.now) c.args.labels.now c.args.shape.now c.args.sort Row c.start-start.result c.columns_profile.result c.in-Row.is c.start-start.ensures c.columns_profile.ensures

pub returns-in-Value : goal.returns-in-Value
returns-in-Value c = at_sort (machine_of c.args.automaton.now) c.args.labels.now c.args.shape.now c.args.sort Value c.start-start.result c.value_profile.result c.in-Value.is c.start-start.ensures c.value_profile.ensures

pub returns-in-MaybeValue : goal.returns-in-MaybeValue
returns-in-MaybeValue c = at_sort (machine_of c.args.automaton.now) c.args.labels.now c.args.shape.now c.args.sort MaybeValue c.start-start.result c.value_profile-in-MaybeValue.result c.in-MaybeValue.is c.start-start.ensures c.value_profile-in-MaybeValue.ensures

pub returns-in-Leaf : goal.returns-in-Leaf
returns-in-Leaf c = at_sort (machine_of c.args.automaton.now) c.args.labels.now c.args.shape.now c.args.sort Leaf c.start-start.result c.one_skip.result c.in-Leaf.is c.start-start.ensures c.one_skip.ensures

pub returns-in-Anything : goal.returns-in-Anything
returns-in-Anything c = at_sort (machine_of c.args.automaton.now) c.args.labels.now c.args.shape.now c.args.sort Anything c.start-start.result c.unbounded.result c.in-Anything.is c.start-start.ensures c.unbounded.ensures
