use Rattle.std.proofs.Common.{◌∙◌, ◌∷◌, [], ◌++◌, sym, ap, List, Vec, Global}
use Rattle.std.specs.declared.rc.Rc.{Rc}
use Rattle.lazy_binding.specs.declared.position.Position.{Position}
use Rattle.lazy_binding.proofs.GroupLists.{set_length, set_others, set_here, set_same, value_at}
use Rattle.lazy_binding.proofs.gathered.join_group.Goals as goal
use Rattle.lazy_binding.proofs.gathered.join_group.Goals.{in-Ok, in-Err}

-- the members of a group
abbrev members : Vec (Rc Position Global) Global → List (Rc Position Global)
members g = g.items

pub returns-clause-ok : goal.returns-clause-ok
returns-clause-ok c =
    elim c.match-push.branch [
      | in-Ok w ↦ rw w.result-is (record {
        lists = set_length members [] c.args.groups.now.items c.args.number c.push.new.self;
        others = λ j h. set_others members [] c.args.groups.now.items c.args.number j c.push.new.self h;
        here = set_here members [] c.args.groups.now.items c.args.number c.push.new.self c.requires
            ∙ (rw w.in-Ok.is at c.push.ensures.items)
            ∙ ap (λ (ms : List (Rc Position Global)). ms ++ c.args.member ∷ [])
            (sym (value_at members [] c.args.groups.now.items c.args.number c.index_mut-members.result.now c.requires c.index_mut-members.ensures.value));
      })
      | in-Err w ↦ rw w.result-is tt
    ]

pub returns-clause-err : goal.returns-clause-err
returns-clause-err c =
    elim c.match-push.branch [
      | in-Ok w ↦ rw w.result-is tt
      | in-Err w ↦ rw w.result-is (set_same members [] c.args.groups.now.items c.args.number c.push.new.self
          ((rw w.in-Err.is at c.push.ensures.items)
          ∙ sym (value_at members [] c.args.groups.now.items c.args.number c.index_mut-members.result.now c.requires c.index_mut-members.ensures.value)))
    ]
