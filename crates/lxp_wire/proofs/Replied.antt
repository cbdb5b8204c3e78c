-- What sources answer to one request.
use Rattle.std.proofs.Common.{◌≡◌, ℕ, ◌+◌, ◌<◌, ◌≤◌, Bool, true, false, List, [], ◌∷◌, ◌++◌, refl, ap, subst, sym, ◌∙◌, append_assoc, arith}
use Rattle.lxp_core.specs.declared.open_tree.HoleId.{HoleId}
use Rattle.lxp_core.specs.declared.open_tree.OpenTree.{OpenTree}
use Rattle.lxp_core.specs.Fill.{Answers as AnswersHole, source_of}
use Rattle.lxp_core.specs.Plain.{plain}
use Rattle.lxp_core.specs.Small.{IsSmall, tops_of}
use Rattle.lxp_core.specs.View.{View, Keeps}
use Rattle.wire_text.specs.declared.request.Request.TheVariants.{Fill}
use Rattle.wire_text.specs.Wired.{with_weights, without_weights}
use Rattle.wire_text.specs.Bytes.{list_bytes, AreTrees}
use Rattle.wire_text.specs.Reply.{list}
use Rattle.lxp_wire.specs.Answer.{HasAnswered}
use Rattle.lxp_wire.proofs.Served.{without-with}

-- a list that sources answered, with its weights
pub list_answered : (old new : View) (s : ℕ) (h : HoleId) (ts : List OpenTree) (before after : List ℕ) → Keeps old new → new.fills ≤ old.fills + 1 → s < old.count → old.knows s h ≡ true
    → AnswersHole (source_of old s) (source_of new s) h (plain ts) → IsSmall (plain ts) → AreTrees (with_weights (new.weight s) (plain ts))
    → after ≡ (before ++ 0x82 ∷ []) ++ list_bytes (with_weights (new.weight s) (plain ts)) → HasAnswered old new (Fill s h) before after
list_answered old new s h ts before after keeps fills inside known answers small are text =
    let o = with_weights (new.weight s) (plain ts) in
    let same : without_weights o ≡ plain ts = without-with (new.weight s) (plain ts) in (
      list o,
      text ∙ append_assoc before (0x82 ∷ []) (list_bytes o),
      record {
        keeps = keeps;
        fills = fills;
        answers = (
          inside,
          known,
          record {
            weighed = ap (with_weights (new.weight s)) (sym same);
            answers = subst (AnswersHole (source_of old s) (source_of new s) h) (sym same) answers;
            small = subst IsSmall (sym same) small;
          },
        );
        reply = (omega (arith, small.0, ap tops_of same), are);
      },
    )

-- what is not unknown is known
pub known_of : (b : Bool) → (b ≡ false → ⊥) → b ≡ true
known_of true h = refl
known_of false h = absurd (h refl)
