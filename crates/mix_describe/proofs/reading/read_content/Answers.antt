use Rattle.std.proofs.Common.{rules, ◌≡◌, ◌≤◌, ◌+◌, ◌∙◌, ◌++◌, ℕ, List, true, false, arith, length, take, vec_len, IfSome, refl, subst, sym, ap}
use Rattle.std.proofs.lemmas.Grind.{common_steps}
use Rattle.mix_base.proofs.Lists.{take_whole}
use Rattle.mix_io.specs.Contents.{GivesFrom}
use Rattle.mix_io.proofs.Keeps.{keeps_files_twice}
use Rattle.mix_describe.specs.Kinds.{begins_as_database}
use Rattle.mix_describe.proofs.Beginnings.{IsPrefix, begins, prefix_more}
use Rattle.mix_describe.proofs.reading.read_content.Goals as goal

pub reads-preserved : goal.reads-preserved
reads-preserved g c =
    let held = c.reads.invariant in
    let len = vec_len c.reads.bytes in
    let count = c.in_ok-count.count in
    let room = c.read_at.new.room in
    let more = c.extend_from_slice.new.self in
    let told = (g.F.Files.view c.args.files.now).told c.args.path.now in
    let same = held.keeps.told c.args.path.now in
    let given : IfSome told (λ contents. GivesFrom contents len count room) =
    subst (λ t. IfSome t (λ contents. GivesFrom contents len count room)) same (grind (arith, common_steps)) in
    let whole : length room ≡ c.reads.room.len = omega arith in
    let grown : more.items ≡ c.reads.bytes.items ++ take count room =
    c.in_ok-extend_from_slice.ensures.items
    ∙ ap (λ r. c.reads.bytes.items ++ take count r) (c.deref-in-reads.ensures.value ∙ take_whole _ _ _ whole) in
    let longer : vec_len more ≡ len + count = search rules in
    record {
      keeps = keeps_files_twice _ _ _ held.keeps c.read_at.ensures.keeps;
      others = λ other apart. c.read_at.ensures.others other apart ∙ held.others other apart;
      steady = λ p. c.in_ok-count.ensures.steady p ∙ held.steady p;
      prefix = subst (λ n. IfSome told (IsPrefix more.items n)) (sym longer) (prefix_more told _ _ _ _ _ held.prefix given grown);
      short = search rules;
      room = search rules;
    }

pub returns-then-begins_as_database-clause-ok : goal.returns-then-begins_as_database-clause-ok
returns-then-begins_as_database-clause-ok g c =
    let is = c.if-begins_as_database.ensures in
    let told = (g.F.Files.view c.args.files.now).told c.args.path.now in
    let long = subst (λ (text : List ℕ). 16 ≤ length text) c.deref.ensures.value (is.bound refl) in
    begins told c.reads.bytes.items (vec_len c.reads.bytes) true long c.reads.invariant.prefix
    (subst (λ (text : List ℕ). begins_as_database text ≡ true) c.deref.ensures.value (sym is.value))

pub returns-then-count-len-clause-none : goal.returns-then-count-len-clause-none
returns-then-count-len-clause-none g c = λ _.
    let is = c.if-begins_as_database.ensures in
    let told = (g.F.Files.view c.args.files.now).told c.args.path.now in
    let long : 16 ≤ length c.reads.bytes.items = search arith in
    begins told c.reads.bytes.items (vec_len c.reads.bytes) false long c.reads.invariant.prefix
    (subst (λ (text : List ℕ). begins_as_database text ≡ false) c.deref.ensures.value (sym is.value))
