use Rattle.std.proofs.Common.{◌≡◌, None, Some, sym}
use Rattle.lxp_core.specs.View.{Keeps}
use Rattle.mix_script.specs.Names.{held}
use Rattle.mix_session.proofs.Acts.{root_taken, move_taken, select_taken, printed}
use Rattle.mix_session.proofs.Followed.{follow_taken}
use Rattle.mix_session.proofs.Unasked.{no_move, no_select, no_fetch, no_print, no_id, spelled_taken}
use Rattle.mix_session.proofs.Walking.{stays_same}
use Rattle.mix_session.proofs.session.Session.step.Goals as goal

pub returns-in_ok-found-in-Root-clause-stepped : goal.returns-in_ok-found-in-Root-clause-stepped
returns-in_ok-found-in-Root-clause-stepped g c =
    let view = g.S.Sources.view in
    let means = g.W.Walker.means in
    let ran = c.seek_root.ensures in
    let keeps : Keeps (view c.args.s.now) (view c.seek_root.new.s) = g.met.S.Sources.keeps _ _ ran.came in
    let taken = c.take_found.ensures in
    rw c.in-Root.is (root_taken (means (view c.args.s.now) c.args.self.now.walker) (means (view c.seek_root.new.s) c.seek_root.new.self) (view c.args.s.now) (view c.seek_root.new.s) keeps.faults ran.stays
    (held c.args.self.now.names) c.requires.session c.args.step.now.client c.in-Root.name ran.toll c.in_ok-found-in-Root.found c.in_ok-found-in-Root.ensures.found (held c.take_found.new.names) c.take_found.result
    taken.answer taken.names taken.still)

pub returns-in_ok-found-in-Move-clause-stepped : goal.returns-in_ok-found-in-Move-clause-stepped
returns-in_ok-found-in-Move-clause-stepped g c =
    let view = g.S.Sources.view in
    let means = g.W.Walker.means in
    let ran = c.seek.ensures in
    let keeps : Keeps (view c.args.s.now) (view c.seek.new.s) = g.met.S.Sources.keeps _ _ ran.came in
    let taken = c.take_found-in-Move.ensures in
    let here : held c.args.self.now.names c.args.step.now.client c.in-Move.from ≡ Some c.in-Some.node.now = sym (rw c.in-Some.is at c.get.ensures) in
    rw c.in-Move.is (move_taken (means (view c.args.s.now) c.args.self.now.walker) (means (view c.seek.new.s) c.seek.new.self) (view c.args.s.now) (view c.seek.new.s) keeps.faults ran.stays
    (held c.args.self.now.names) c.requires.session c.args.step.now.client c.in-Move.from c.in-Some.node.now here c.in-Move.name c.in-Move.way ran.toll ran.cost c.in_ok-found-in-Move.found c.in_ok-found-in-Move.ensures.found
    (held c.take_found-in-Move.new.names) c.take_found-in-Move.result taken.answer taken.names taken.still)

pub returns-in_ok-found-in-Select-clause-stepped : goal.returns-in_ok-found-in-Select-clause-stepped
returns-in_ok-found-in-Select-clause-stepped g c =
    let view = g.S.Sources.view in
    let means = g.W.Walker.means in
    let ran = c.select.ensures in
    let keeps : Keeps (view c.args.s.now) (view c.select.new.s) = g.met.S.Sources.keeps _ _ ran.came in
    let taken = c.take_found-in-Select.ensures in
    let here : held c.args.self.now.names c.args.step.now.client c.in-Select.from ≡ Some c.in-Some-get.node.now = sym (rw c.in-Some-get.is at c.get-in-Select.ensures) in
    rw c.in-Select.is (select_taken (means (view c.args.s.now) c.args.self.now.walker) (means (view c.select.new.s) c.select.new.walker) (view c.args.s.now) (view c.select.new.s) keeps.faults ran.stays
    (held c.args.self.now.names) c.requires.session c.args.step.now.client c.in-Select.from c.in-Some-get.node.now here c.in-Select.name c.in-Select.label ran.cost c.in_ok-found-in-Select.found c.in_ok-found-in-Select.ensures.found
    (held c.take_found-in-Select.new.names) c.take_found-in-Select.result taken.answer taken.names taken.still)

pub returns-in-Some-get-3-clause-stepped : goal.returns-in-Some-get-3-clause-stepped
returns-in-Some-get-3-clause-stepped g c =
    let view = g.S.Sources.view in
    let means = g.W.Walker.means in
    let ran = c.print.ensures in
    let keeps : Keeps (view c.args.s.now) (view c.print.new.s) = g.met.S.Sources.keeps _ _ ran.came in
    let here : held c.args.self.now.names c.args.step.now.client c.in-Print.from ≡ Some c.in-Some-get-3.node.now = sym (rw c.in-Some-get-3.is at c.get-in-Print.ensures) in
    rw c.in-Print.is (printed (means (view c.args.s.now) c.args.self.now.walker) (means (view c.print.new.s) c.print.new.walker) (view c.args.s.now) (view c.print.new.s) keeps.faults ran.stays
    (held c.args.self.now.names) c.requires.session c.args.step.now.client c.in-Print.from c.in-Some-get-3.node.now here ran.cost c.print.result ran.printed ran.paid)

pub returns-in_default-clause-stepped : goal.returns-in_default-clause-stepped
returns-in_default-clause-stepped g c =
    let v = g.S.Sources.view c.args.s.now in
    let m = g.W.Walker.means v c.args.self.now.walker in
    let none : held c.args.self.now.names c.args.step.now.client c.in-Move.from ≡ None = sym (rw c.in_default.is at c.get.ensures) in
    rw c.in-Move.is (no_move m v (stays_same m c.requires.session.ready) (held c.args.self.now.names) c.requires.session c.args.step.now.client c.in-Move.from none c.in-Move.way c.in-Move.name)

pub returns-in_default-get-clause-stepped : goal.returns-in_default-get-clause-stepped
returns-in_default-get-clause-stepped g c =
    let v = g.S.Sources.view c.args.s.now in
    let m = g.W.Walker.means v c.args.self.now.walker in
    let none : held c.args.self.now.names c.args.step.now.client c.in-Select.from ≡ None = sym (rw c.in_default-get.is at c.get-in-Select.ensures) in
    rw c.in-Select.is (no_select m v (stays_same m c.requires.session.ready) (held c.args.self.now.names) c.requires.session c.args.step.now.client c.in-Select.from none c.in-Select.name c.in-Select.label)

pub returns-in_default-get-2-clause-stepped : goal.returns-in_default-get-2-clause-stepped
returns-in_default-get-2-clause-stepped g c =
    let v = g.S.Sources.view c.args.s.now in
    let m = g.W.Walker.means v c.args.self.now.walker in
    let none : held c.args.self.now.names c.args.step.now.client c.in-Fetch.from ≡ None = sym (rw c.in_default-get-2.is at c.get-in-Fetch.ensures) in
    rw c.in-Fetch.is (no_fetch m v (stays_same m c.requires.session.ready) (held c.args.self.now.names) c.requires.session c.args.step.now.client c.in-Fetch.from none)

pub returns-in_default-get-3-clause-stepped : goal.returns-in_default-get-3-clause-stepped
returns-in_default-get-3-clause-stepped g c =
    let v = g.S.Sources.view c.args.s.now in
    let m = g.W.Walker.means v c.args.self.now.walker in
    let none : held c.args.self.now.names c.args.step.now.client c.in-Print.from ≡ None = sym (rw c.in_default-get-3.is at c.get-in-Print.ensures) in
    rw c.in-Print.is (no_print m v (stays_same m c.requires.session.ready) (held c.args.self.now.names) c.requires.session c.args.step.now.client c.in-Print.from none)

pub returns-in_default-get-4-clause-stepped : goal.returns-in_default-get-4-clause-stepped
returns-in_default-get-4-clause-stepped g c =
    let v = g.S.Sources.view c.args.s.now in
    let m = g.W.Walker.means v c.args.self.now.walker in
    let none : held c.args.self.now.names c.args.step.now.client c.in-Id.from ≡ None = sym (rw c.in_default-get-4.is at c.get-in-Id.ensures) in
    rw c.in-Id.is (no_id m v (stays_same m c.requires.session.ready) (held c.args.self.now.names) c.requires.session c.args.step.now.client c.in-Id.from none)

pub returns-in-Some-get-4-clause-stepped : goal.returns-in-Some-get-4-clause-stepped
returns-in-Some-get-4-clause-stepped g c =
    let v = g.S.Sources.view c.args.s.now in
    let m = g.W.Walker.means v c.args.self.now.walker in
    let here : held c.args.self.now.names c.args.step.now.client c.in-Id.from ≡ Some c.in-Some-get-4.node.now = sym (rw c.in-Some-get-4.is at c.get-in-Id.ensures) in
    let tells : m.course.Tells = rw c.in-Id.is at c.requires.lets in
    rw c.in-Id.is (spelled_taken m v (stays_same m c.requires.session.ready) (held c.args.self.now.names) c.requires.session c.args.step.now.client c.in-Id.from c.in-Some-get-4.node.now here c.spell.result
    (c.spell.ensures v c.requires.session.ready tells))

pub returns-in_ok-found-in-At-clause-stepped : goal.returns-in_ok-found-in-At-clause-stepped
returns-in_ok-found-in-At-clause-stepped g c =
    let view = g.S.Sources.view in
    let means = g.W.Walker.means in
    let ran = c.seek_named.ensures in
    let keeps : Keeps (view c.args.s.now) (view c.seek_named.new.s) = g.met.S.Sources.keeps _ _ ran.came in
    let taken = c.take_followed.ensures in
    rw c.in-At.is (follow_taken (means (view c.args.s.now) c.args.self.now.walker) (means (view c.seek_named.new.s) c.seek_named.new.self) (view c.args.s.now) (view c.seek_named.new.s) keeps.faults ran.stays
    (held c.args.self.now.names) c.requires.session c.args.step.now.client c.in-At.name c.in-At.node ran.reach c.in_ok-found-in-At.found c.in_ok-found-in-At.ensures.found (held c.take_followed.new.names) c.take_followed.result
    taken.answer taken.names taken.still)
