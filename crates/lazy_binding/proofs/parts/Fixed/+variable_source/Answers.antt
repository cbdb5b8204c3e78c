use Rattle.std.proofs.Common.{inl, inr, ◌∙◌, ℕ, Bool, cond, List, Option, Some, None, sym, ap}
use Rattle.mix_tree.specs.Keys.{has_var}
use Rattle.mix_tree.specs.declared.var.Key.{Key}
use Rattle.plan_core.specs.PlanMade.{op_of}
use Rattle.lazy_binding.specs.Parts.{operators}
use Rattle.lazy_binding.specs.Unders.{or_other, source_var}
use Rattle.lazy_binding.proofs.VariableSources.{source_var-of, group_source}
use Rattle.lazy_binding.proofs.parts.Fixed.+variable_source.Goals.{then-eq-2, else-eq-2}
use Rattle.lazy_binding.proofs.parts.Fixed.+variable_source.Goals as goal

pub returns-then-eq : goal.returns-then-eq
returns-then-eq t c =
    sym (source_var-of (operators c.args.self.now) c.requires.fixed.typed c.args.n c.requires.op _ c.args.v (ap op_of (sym c.in-Source.is) ∙ c.operator.ensures) ∙ ap (λ (b : Bool). cond b (Some c.in-Source.source) None) (sym c.eq.ensures ∙ c.if-eq.true))

pub returns-else-eq : goal.returns-else-eq
returns-else-eq t c =
    sym (source_var-of (operators c.args.self.now) c.requires.fixed.typed c.args.n c.requires.op _ c.args.v (ap op_of (sym c.in-Source.is) ∙ c.operator.ensures) ∙ ap (λ (b : Bool). cond b (Some c.in-Source.source) None) (sym c.eq.ensures ∙ c.if-eq.false))

pub returns-after-eq-2 : goal.returns-after-eq-2
returns-after-eq-2 t c =
    c.variable_source.ensures ∙ elim c.if-eq-2.branch [
      | then-eq-2 w ↦ ap (source_var (operators c.args.self.now) c.in-GetDescendants.input) w.of-is ∙ sym (source_var-of (operators c.args.self.now) c.requires.fixed.typed c.args.n c.requires.op _ c.args.v (ap op_of (sym c.in-GetDescendants.is) ∙ c.operator.ensures) ∙ ap (λ (b : Bool). cond b (source_var (operators c.args.self.now) c.in-GetDescendants.input c.in-GetDescendants.start) (source_var (operators c.args.self.now) c.in-GetDescendants.input c.args.v)) (sym c.eq-in-GetDescendants.ensures ∙ w.if-eq-2.true))
      | else-eq-2 w ↦ ap (source_var (operators c.args.self.now) c.in-GetDescendants.input) w.of-is ∙ sym (source_var-of (operators c.args.self.now) c.requires.fixed.typed c.args.n c.requires.op _ c.args.v (ap op_of (sym c.in-GetDescendants.is) ∙ c.operator.ensures) ∙ ap (λ (b : Bool). cond b (source_var (operators c.args.self.now) c.in-GetDescendants.input c.in-GetDescendants.start) (source_var (operators c.args.self.now) c.in-GetDescendants.input c.args.v)) (sym c.eq-in-GetDescendants.ensures ∙ w.if-eq-2.false))
    ]

pub returns-in-Some : goal.returns-in-Some
returns-in-Some t c =
    sym (source_var-of (operators c.args.self.now) c.requires.fixed.typed c.args.n c.requires.op _ c.args.v (ap op_of (sym c.in-Join.is) ∙ c.operator.ensures) ∙ ap (λ (z : Option ℕ). or_other z (source_var (operators c.args.self.now) c.in-Join.right c.args.v)) (sym c.variable_source-in-Join.ensures ∙ c.in-Some.is))

pub returns-in-None : goal.returns-in-None
returns-in-None t c =
    c.variable_source-in-None.ensures ∙ sym (source_var-of (operators c.args.self.now) c.requires.fixed.typed c.args.n c.requires.op _ c.args.v (ap op_of (sym c.in-Join.is) ∙ c.operator.ensures) ∙ ap (λ (z : Option ℕ). or_other z (source_var (operators c.args.self.now) c.in-Join.right c.args.v)) (sym c.variable_source-in-Join.ensures ∙ c.in-None.is))

pub returns-in-TupleDestroy : goal.returns-in-TupleDestroy
returns-in-TupleDestroy t c =
    sym (source_var-of (operators c.args.self.now) c.requires.fixed.typed c.args.n c.requires.op _ c.args.v (ap op_of (sym c.in-TupleDestroy.is) ∙ c.operator.ensures))

pub returns-in-Select : goal.returns-in-Select
returns-in-Select t c =
    c.variable_source-in-Select.ensures ∙ elim c.in-Select.is [
      | inl x ↦ sym (source_var-of (operators c.args.self.now) c.requires.fixed.typed c.args.n c.requires.op _ c.args.v (ap op_of (sym x.1) ∙ c.operator.ensures))
      | inr y ↦ elim y [
        | inl x ↦ sym (source_var-of (operators c.args.self.now) c.requires.fixed.typed c.args.n c.requires.op _ c.args.v (ap op_of (sym x.2) ∙ c.operator.ensures))
        | inr z ↦ elim z [ inl x ↦ sym (source_var-of (operators c.args.self.now) c.requires.fixed.typed c.args.n c.requires.op _ c.args.v (ap op_of (sym x.2) ∙ c.operator.ensures)) | inr x ↦ sym (source_var-of (operators c.args.self.now) c.requires.fixed.typed c.args.n c.requires.op _ c.args.v (ap op_of (sym x.3) ∙ c.operator.ensures)) ]
      ]
    ]

pub returns-then-names_var : goal.returns-then-names_var
returns-then-names_var t c =
    c.variable_source-then-names_var.ensures ∙ elim c.in-Project.is [
      | inl x ↦ sym (source_var-of (operators c.args.self.now) c.requires.fixed.typed c.args.n c.requires.op _ c.args.v (ap op_of (sym x) ∙ c.operator.ensures) ∙ ap (λ (b : Bool). cond b (source_var (operators c.args.self.now) c.in-Project.input c.args.v) None) (ap (λ (ks : List Key). has_var ks c.args.v) (sym c.deref.ensures.value) ∙ sym c.names_var.ensures ∙ c.if-names_var.true))
      | inr x ↦ sym (source_var-of (operators c.args.self.now) c.requires.fixed.typed c.args.n c.requires.op _ c.args.v (ap op_of (sym x.2) ∙ c.operator.ensures) ∙ group_source c.in-Project.keys.items x.0 x.1 (source_var (operators c.args.self.now) c.in-Project.input) c.args.v ∙ ap (λ (b : Bool). cond b (source_var (operators c.args.self.now) c.in-Project.input c.args.v) None) (ap (λ (ks : List Key). has_var ks c.args.v) (sym c.deref.ensures.value) ∙ sym c.names_var.ensures ∙ c.if-names_var.true))
    ]

pub returns-else-names_var : goal.returns-else-names_var
returns-else-names_var t c =
    elim c.in-Project.is [
      | inl x ↦ sym (source_var-of (operators c.args.self.now) c.requires.fixed.typed c.args.n c.requires.op _ c.args.v (ap op_of (sym x) ∙ c.operator.ensures) ∙ ap (λ (b : Bool). cond b (source_var (operators c.args.self.now) c.in-Project.input c.args.v) None) (ap (λ (ks : List Key). has_var ks c.args.v) (sym c.deref.ensures.value) ∙ sym c.names_var.ensures ∙ c.if-names_var.false))
      | inr x ↦ sym (source_var-of (operators c.args.self.now) c.requires.fixed.typed c.args.n c.requires.op _ c.args.v (ap op_of (sym x.2) ∙ c.operator.ensures) ∙ group_source c.in-Project.keys.items x.0 x.1 (source_var (operators c.args.self.now) c.in-Project.input) c.args.v ∙ ap (λ (b : Bool). cond b (source_var (operators c.args.self.now) c.in-Project.input c.args.v) None) (ap (λ (ks : List Key). has_var ks c.args.v) (sym c.deref.ensures.value) ∙ sym c.names_var.ensures ∙ c.if-names_var.false))
    ]
