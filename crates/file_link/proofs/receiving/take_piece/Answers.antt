use Rattle.std.proofs.Common.{◌≡◌, ◌+◌, sym, ap, subst, ◌∙◌}
use Rattle.std.proofs.lemmas.List.{take_all}
use Rattle.wire_frame.specs.declared.frame.End.{End}
use Rattle.wire_frame.specs.Standing.{after, standing_after}
use Rattle.wire_frame.specs.Frames.{GoesOn, Frames, standing_of}
use Rattle.file_link.proofs.Received.{together, lost_all, behind_lost}
use Rattle.file_link.proofs.receiving.take_piece.Goals as goal

pub returns-in-Lost : goal.returns-in-Lost
returns-in-Lost c =
    let s = standing_of c.args.frame.now in
    let piece = c.args.piece.now in
    let n = c.take-taken.result.count in
    let f = subst (λ (e : End). Frames s piece (standing_of c.take-taken.new.self) n e) c.in-Lost.is c.take-taken.ensures in
    sym (together c.args.bytes.now.items piece s c.requires.stands) ∙ lost_all s (n + 1) piece f.2

pub returns-in-Whole : goal.returns-in-Whole
returns-in-Whole c =
    let s = standing_of c.args.frame.now in
    let piece = c.args.piece.now in
    let n = c.take-taken.result.count in
    let f = subst (λ (e : End). Frames s piece (standing_of c.take-taken.new.self) n e) c.in-Whole.is c.take-taken.ensures in
    sym (together c.args.bytes.now.items piece s c.requires.stands) ∙ behind_lost s n piece c.if-taken-piece.true (sym f.1 ∙ f.2)

pub returns-in_ok-keep-in-Whole-2 : goal.returns-in_ok-keep-in-Whole-2
returns-in_ok-keep-in-Whole-2 c =
    let s = standing_of c.args.frame.now in
    let new = standing_of c.take-taken.new.self in
    let piece = c.args.piece.now in
    let n = c.take-taken.result.count in
    let f = subst (λ (e : End). Frames s piece new n e) c.in-Whole-2.is c.take-taken.ensures in
    let kept = c.in_ok-keep-in-Whole-2.ensures in
    let stands : new ≡ standing_after c.keep.new.bytes.items =
    f.1 ∙ ap (after s) (take_all n piece c.if-taken-piece.false) ∙ together c.args.bytes.now.items piece s c.requires.stands ∙ ap standing_after (sym kept.0) in
    (kept.0, stands, (sym stands ∙ f.2, kept.1))

pub returns-in_ok-keep-in-Open : goal.returns-in_ok-keep-in-Open
returns-in_ok-keep-in-Open c =
    let s = standing_of c.args.frame.now in
    let new = standing_of c.take-taken.new.self in
    let piece = c.args.piece.now in
    let f = subst (λ (e : End). Frames s piece new c.take-taken.result.count e) c.in-Open.is c.take-taken.ensures in
    let kept = c.in_ok-keep-in-Open.ensures in
    let stands : new ≡ standing_after c.keep-in-Open.new.bytes.items =
    f.1 ∙ together c.args.bytes.now.items piece s c.requires.stands ∙ ap standing_after (sym kept.0) in
    (kept.0, stands, (subst GoesOn stands f.2, kept.1))
