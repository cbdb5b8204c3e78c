-- Which tree of a list levels enter is told by their numbers, and by their evidence among the members of a group.
use Rattle.std.proofs.Common.{◌≡◌, ℕ, suc, ◌+◌, Some, List, [], ◌∷◌, refl, sym, ap, subst, ◌∙◌, arith}
use Rattle.std.specs.Prelude.{slice_get}
use Rattle.mix_base.proofs.Choices.{some_is}
use Rattle.mix_tree.specs.Nodes.{Documents}
use Rattle.node_text.specs.Node.{LevelValue}
use Rattle.plan_core.specs.declared.plan.Piece.{Piece}
use Rattle.plan_core.specs.Plans.{Operator}
use Rattle.plan_core.specs.TolledRows.{TolledRow, key_values}
use Rattle.plan_core.proofs.Typed.{valid_is_typed}
use Rattle.browse_class.proofs.FirstKeys.{values_same}
use Rattle.plan_evidence.specs.Held.{held, node_values, AreOf}
use Rattle.plan_evidence.specs.Named.{of_pieces, of_group, list_of, IsSingle, before_piece, members, Reached, of_piece, of_list_member}
use Rattle.plan_evidence.specs.Opened.{Enters, by_one, by_pieces}
use Rattle.plan_evidence.proofs.Aparts.{one_index, members_apart}
use Rattle.plan_evidence.proofs.HeldApart.{held_apart}
use Rattle.plan_evidence.proofs.Makers.{number_of}
use Rattle.plan_levels.specs.Entered.{numbers_of, MembersAreTold, SinglesAreTold}
use Rattle.plan_levels.proofs.Entering.{no_list, around_listed, sound_row, list_listed}
use Rattle.plan_levels.proofs.Numbered.{base, into_pieces, into_group}

-- levels with the number of a piece that is a single tree lead to it
single_at : (docs : Documents) (ops : List Operator) (row : TolledRow) {other also : Reached} {y : Piece} (f : other.row ≡ row) (pieces : List Piece) (n : ℕ) (q : Piece) → slice_get pieces n ≡ Some q → IsSingle ops q
    → (ls : List LevelValue) (k : ℕ) → Enters docs ops other (of_pieces pieces) ls k also y → numbers_of ls ≡ n ∷ [] → k ≡ before_piece docs pieces row n
single_at docs ops row {other = other} f pieces n q get s ls k (by_one (of_piece {l = l} get' t s')) h =
    (let p : l.piece ≡ n = cc in ap (λ r. before_piece docs pieces r l.piece) f ∙ ap (before_piece docs pieces row) p)
single_at docs ops row f pieces n q get s ls k (by_one (of_list_member {v = w} {n = c} {keys = keys} {piece = x} {l = l} get' lo m)) h =
    (let p : n ≡ l.piece = cc in absurd (no_list ops pieces n l.piece w q (of_group c keys x) get s get' lo p))
single_at docs ops row f pieces n q get s ls k (by_pieces {inner = inner} {l = l} {v = w} get' t lo more) h =
    (let p : n ≡ l.piece = cc in absurd (no_list ops pieces n l.piece w q (of_pieces inner) get s get' lo p))

-- levels with the number of a piece that is a single tree lead to one index
pub singles_told : SinglesAreTold
singles_told p valid docs here other v list in_row e around pieces n q up get s ls ms i j there also x y a b h k =
    let u = into_pieces docs p.ops here.row refl up ls i a (n ∷ []) h in
    let w = into_pieces docs p.ops here.row e up ms j b (n ∷ []) k in
    let c = single_at docs p.ops here.row refl pieces n q get s u.levels u.index u.enters u.numbers in
    let d = single_at docs p.ops here.row e pieces n q get s w.levels w.index w.enters w.numbers in
    let z = u.counts in
    let t = w.counts in
    omega (arith, z, t, c, d)

-- levels with the numbers of a group's members lead to that member of whose binding their evidence is
pub members_told : MembersAreTold
members_told p valid docs here other v list in_row e around input keys piece up ls ms i j there also x y a b h k of =
    let typed = valid_is_typed p valid in
    let row = here.row in
    let u = into_group docs p.ops row refl up ls i a h in
    let w = into_group docs p.ops row e up ms j b k in
    let g = around_listed p valid typed docs in_row.op row (sound_row p valid docs here v list in_row) (number_of p.ops v) (list_listed p valid docs here v list in_row) up in
    let within = g.1.within in
    let apart = members_apart docs (held p.ops input) p.ops input keys row (held_apart p valid docs input within) in
    let agree : key_values docs (held p.ops input) there.row ≡ key_values docs (held p.ops input) also.row =
    sym (values_same (node_values docs (held p.ops input) also.nodes) (key_values docs (held p.ops input) there.row) of)
    ∙ values_same (node_values docs (held p.ops input) also.nodes) (key_values docs (held p.ops input) also.row) w.member.of in
    let there_at : slice_get (members docs p.ops input keys row) w.index ≡ Some also.row = subst (λ r. slice_get (members docs p.ops input keys r) w.index ≡ Some also.row) e w.member.at in
    let one = one_index docs (held p.ops input) (members docs p.ops input keys row) apart u.index w.index there.row also.row u.member.at there_at agree in
    let z = u.counts in
    let t = w.counts in
    omega (arith, z, t, one)
