use Rattle.std.proofs.Common.{rules, ◌≡◌, subst, sym}
use Rattle.std.specs.Str.{IsUtf8}
use Rattle.path_expr.specs.Canonical.{canon}
use Rattle.path_expr.specs.Results.{Spells, SpellsWithin}
use Rattle.path_expr.proofs.Again.{canon_spells}
use Rattle.path_expr.proofs.RoundTrip.{canon_within}
use Rattle.path_expr.proofs.writing.write_path.Goals as goal

pub returns-clause-spells : goal.returns-clause-spells
returns-clause-spells c = λ formed.
    let written : c.push_path.new.out.items ≡ canon c.args.path.now = search rules in
    subst (λ x. Spells x c.args.path.now) (sym written) (canon_spells c.args.path.now formed)

pub returns-clause-again : goal.returns-clause-again
returns-clause-again c = λ x u h.
    let written : c.push_path.new.out.items ≡ canon c.args.path.now = search rules in
    subst (λ y. IsUtf8 y × SpellsWithin y c.args.path.now) (sym written) (canon_within x c.args.path.now u h)
