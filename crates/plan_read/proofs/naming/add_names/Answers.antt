use Rattle.std.proofs.Common.{◌<◌, ◌∙◌, ◌∷◌, [], ℕ, List, Bor, map, sym, ap, arith, length}
use Rattle.std.proofs.lemmas.List.{length-map, get_or-map}
use Rattle.mix_words.specs.Words.{is_name}
use Rattle.plan_read.specs.Variables.{with_new}
use Rattle.plan_read.proofs.NameSteps.{name_step, other_step}
use Rattle.plan_read.proofs.naming.add_names.Goals as goal
use Rattle.plan_read.proofs.naming.add_names.Goals.{then-is_script_name+in_ok-add_name, else-is_script_name}

pub vars-preserved : goal.vars-preserved
vars-preserved c =
    let items = c.deref-var-items.result.now in
    let vars = map (λ (x : Bor (List ℕ)). x.now) items in
    let i = c.vars.var-index in
    let inside : i < length vars = omega (arith, length-map items (λ (x : Bor (List ℕ)). x.now), c.vars-test.true) in
    let same = get_or-map (λ (x : Bor (List ℕ)). x.now) items i (record { ref_ptr = (0, 0); now = [] }) [] c.vars-test.true in
    elim c.if-is_script_name.branch [
      | then-is_script_name+in_ok-add_name w ↦
          rw w.names-is (record {
            few = w.in_ok-add_name.ensures.few;
            all = name_step vars c.vars.names w.add_name.new.names _ i inside (ap is_name same ∙ sym c.is_script_name.ensures ∙ w.if-is_script_name.true)
                (w.in_ok-add_name.ensures.all ∙ ap (λ x. with_new c.vars.names (x ∷ [])) (sym same)) c.vars.invariant.all;
          })
      | else-is_script_name w ↦
          rw w.names-is (record {
            few = c.vars.invariant.few;
            all = other_step vars c.vars.names _ i inside (ap is_name same ∙ sym c.is_script_name.ensures ∙ w.if-is_script_name.false) c.vars.invariant.all;
          })
    ]
