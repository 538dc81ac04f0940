use Rattle.std.proofs.Common.{◌∙◌, ◌+◌, ap, refl}
use Rattle.locators.specs.Locator.{between_digits}
use Rattle.remote_edit.specs.Walk.{last_id, new_fragment}
use Rattle.remote_edit.specs.Steps.{before, after}
use Rattle.remote_edit.proofs.Gathers.{over_new, grown}
use Rattle.remote_edit.proofs.Entering.{new_room, enter_new}
use Rattle.remote_edit.proofs.gather.Gather.put_new.Goals as goal

pub enter-requires : goal.enter-requires
enter-requires c =
    let e = c.args.edit.now in
    let s = c.args.self.now in
    let xs = c.args.tree.now.items in
    new_room e.stamp s.number c.args.n (before xs s.from s.made.items) (after xs s.at s.back) c.in_ok-made.made (between_digits c.in_ok-low.low c.in_ok-high.high) s.index c.in_ok-made.ensures c.if-n-gt0.true c.requires.numbers c.requires.fit c.requires.room c.requires.indexed

pub returns-in_ok-push-clause-gathered : goal.returns-in_ok-push-clause-gathered
returns-in_ok-push-clause-gathered c =
    let e = c.args.edit.now in
    let s = c.args.self.now in
    let xs = c.args.tree.now.items in
    over_new e.version e.stamp (before xs s.from s.made.items) (after xs s.at s.back) (before xs s.from c.push.new.self.items) c.in_ok-made.made s.number c.args.n s.place c.if-n-gt0.true c.requires.unseen c.requires.place c.requires.fit c.requires.room c.requires.numbers
    (c.in_ok-made.ensures ∙ ap (λ z. new_fragment e.stamp s.number c.args.n (between_digits z c.in_ok-high.high)) c.in_ok-low.ensures ∙ ap (λ z. new_fragment e.stamp s.number c.args.n (between_digits (last_id (before xs s.from s.made.items)) z)) c.in_ok-high.ensures)
    (grown xs s.made.items c.push.new.self.items s.from s.from c.in_ok-made.made refl c.in_ok-push.ensures.items)

pub returns-in_ok-push-clause-indexed : goal.returns-in_ok-push-clause-indexed
returns-in_ok-push-clause-indexed c =
    let e = c.args.edit.now in
    let s = c.args.self.now in
    let xs = c.args.tree.now.items in
    enter_new e.stamp s.number c.args.n (before xs s.from s.made.items) (after xs s.at s.back) c.in_ok-made.made (between_digits c.in_ok-low.low c.in_ok-high.high) s.index c.in_ok-made.ensures c.if-n-gt0.true c.requires.numbers c.requires.fit c.requires.room c.requires.indexed
    (s.number + c.args.n) c.enter.new.index (before xs s.from c.push.new.self.items) (grown xs s.made.items c.push.new.self.items s.from s.from c.in_ok-made.made refl c.in_ok-push.ensures.items) refl c.in_ok-enter.ensures
