use Rattle.std.proofs.Common.{◌+◌, ◌∙◌, refl, sym, ap, arith, inl, inr}
use Rattle.tree_cursor.specs.Counting.{number_passes}
use Rattle.tree_cursor.specs.declared.traits.Bias.TheVariants.{Left}
use Rattle.fragments.specs.Summaries.{summary_of}
use Rattle.remote_edit.specs.declared.passed.Passed.{Passed}
use Rattle.remote_edit.specs.Passed.{move_passed}
use Rattle.remote_edit.proofs.PassedPlaces.{passed_fits}
use Rattle.remote_edit.proofs.Ends.{cursor_end, seek_within}
use Rattle.remote_edit.proofs.Seeking.{cursor_stop}
use Rattle.remote_edit.proofs.Stops.{plain_after, plain_index, plain_low, plain_place}
use Rattle.remote_edit.proofs.walk.plain_stop.Goals as goal

pub new-requires : goal.new-requires
new-requires c κs = (omega arith, ((refl, tt), passed_fits c.args.tree.now.items c.requires.room))

pub overflow_add-last : goal.overflow_add-last
overflow_add-last c =
    let e = c.in_ok-cursor.ensures in
    let s = cursor_end move_passed summary_of (λ p. number_passes c.args.target.now.bytes (p.0 + p.1) Left) (λ (d : Passed). (d.visible, d.hidden)) c.args.tree.now.items _ c.in_ok-cursor.cursor c.seek.new.self c.index-at.result (c.end-end.result.visible, c.end-end.result.hidden)
    e.items e.index e.from c.in_ok-seek.ensures.moved c.index-at.ensures c.end-end.ensures in
    let l = plain_low c.end-end.result (c.index-at.result + 1) c.args.tree.now.items (plain_after c.end-end.result (c.index-at.result + 1) c.args.tree.now.items s.1) in
    omega (arith, l, c.requires.room)

pub overflow_add-next : goal.overflow_add-next
overflow_add-next c =
    let e = c.in_ok-cursor.ensures in
    let s = cursor_end move_passed summary_of (λ p. number_passes c.args.target.now.bytes (p.0 + p.1) Left) (λ (d : Passed). (d.visible, d.hidden)) c.args.tree.now.items _ c.in_ok-cursor.cursor c.seek.new.self c.index-at.result (c.end-end.result.visible, c.end-end.result.hidden)
    e.items e.index e.from c.in_ok-seek.ensures.moved c.index-at.ensures c.end-end.ensures in
    let l = seek_within move_passed summary_of (λ p. number_passes c.args.target.now.bytes (p.0 + p.1) Left) (0, 0) c.args.tree.now.items in
    omega (arith, l, s.0, c.known.ensures.short)

pub returns-then-last-target-clause-index : goal.returns-then-last-target-clause-index
returns-then-last-target-clause-index c = λ v h.
    let e = c.in_ok-cursor.ensures in
    let s = cursor_end move_passed summary_of (λ p. number_passes c.args.target.now.bytes (p.0 + p.1) Left) (λ (d : Passed). (d.visible, d.hidden)) c.args.tree.now.items _ c.in_ok-cursor.cursor c.seek.new.self c.index-at.result (c.end-end.result.visible, c.end-end.result.hidden)
    e.items e.index e.from c.in_ok-seek.ensures.moved c.index-at.ensures c.end-end.ensures in
    let a = plain_after c.end-end.result (c.index-at.result + 1) c.args.tree.now.items s.1 in
    inr (
      ap (λ n. n + 1) (plain_index v c.args.target.now.bytes c.index-at.result c.args.tree.now.items h s.0),
      sym (plain_place v c.end-end.result (c.index-at.result + 1) c.args.tree.now.items h a) ∙ c.if-last-target.true,
    )

pub returns-then-last-target-clause-place : goal.returns-then-last-target-clause-place
returns-then-last-target-clause-place c = λ v h.
    let e = c.in_ok-cursor.ensures in
    let s = cursor_end move_passed summary_of (λ p. number_passes c.args.target.now.bytes (p.0 + p.1) Left) (λ (d : Passed). (d.visible, d.hidden)) c.args.tree.now.items _ c.in_ok-cursor.cursor c.seek.new.self c.index-at.result (c.end-end.result.visible, c.end-end.result.hidden)
    e.items e.index e.from c.in_ok-seek.ensures.moved c.index-at.ensures c.end-end.ensures in
    plain_place v c.end-end.result (c.index-at.result + 1) c.args.tree.now.items h (plain_after c.end-end.result (c.index-at.result + 1) c.args.tree.now.items s.1)

pub returns-then-last-target-clause-passed : goal.returns-then-last-target-clause-passed
returns-then-last-target-clause-passed c =
    let e = c.in_ok-cursor.ensures in
    let s = cursor_end move_passed summary_of (λ p. number_passes c.args.target.now.bytes (p.0 + p.1) Left) (λ (d : Passed). (d.visible, d.hidden)) c.args.tree.now.items _ c.in_ok-cursor.cursor c.seek.new.self c.index-at.result (c.end-end.result.visible, c.end-end.result.hidden)
    e.items e.index e.from c.in_ok-seek.ensures.moved c.index-at.ensures c.end-end.ensures in
    plain_after c.end-end.result (c.index-at.result + 1) c.args.tree.now.items s.1

pub overflow_add-place : goal.overflow_add-place
overflow_add-place c =
    let e = c.in_ok-cursor.ensures in
    let s = cursor_stop move_passed summary_of (λ p. number_passes c.args.target.now.bytes (p.0 + p.1) Left) (λ (d : Passed). (d.visible, d.hidden)) c.args.tree.now.items _ c.in_ok-cursor.cursor c.seek.new.self c.index-at.result (c.start-passed.result.visible, c.start-passed.result.hidden)
    e.items e.index e.from c.in_ok-seek.ensures.moved c.index-at.ensures c.start-passed.ensures in
    let l = plain_low c.start-passed.result c.index-at.result c.args.tree.now.items (plain_after c.start-passed.result c.index-at.result c.args.tree.now.items s.1) in
    omega (arith, l, c.requires.room)

pub returns-clause-index : goal.returns-clause-index
returns-clause-index c = λ v h.
    let e = c.in_ok-cursor.ensures in
    let s = cursor_stop move_passed summary_of (λ p. number_passes c.args.target.now.bytes (p.0 + p.1) Left) (λ (d : Passed). (d.visible, d.hidden)) c.args.tree.now.items _ c.in_ok-cursor.cursor c.seek.new.self c.index-at.result (c.start-passed.result.visible, c.start-passed.result.hidden)
    e.items e.index e.from c.in_ok-seek.ensures.moved c.index-at.ensures c.start-passed.ensures in
    inl (plain_index v c.args.target.now.bytes c.index-at.result c.args.tree.now.items h s.0)

pub returns-clause-place : goal.returns-clause-place
returns-clause-place c = λ v h.
    let e = c.in_ok-cursor.ensures in
    let s = cursor_stop move_passed summary_of (λ p. number_passes c.args.target.now.bytes (p.0 + p.1) Left) (λ (d : Passed). (d.visible, d.hidden)) c.args.tree.now.items _ c.in_ok-cursor.cursor c.seek.new.self c.index-at.result (c.start-passed.result.visible, c.start-passed.result.hidden)
    e.items e.index e.from c.in_ok-seek.ensures.moved c.index-at.ensures c.start-passed.ensures in
    plain_place v c.start-passed.result c.index-at.result c.args.tree.now.items h (plain_after c.start-passed.result c.index-at.result c.args.tree.now.items s.1)

pub returns-clause-passed : goal.returns-clause-passed
returns-clause-passed c =
    let e = c.in_ok-cursor.ensures in
    let s = cursor_stop move_passed summary_of (λ p. number_passes c.args.target.now.bytes (p.0 + p.1) Left) (λ (d : Passed). (d.visible, d.hidden)) c.args.tree.now.items _ c.in_ok-cursor.cursor c.seek.new.self c.index-at.result (c.start-passed.result.visible, c.start-passed.result.hidden)
    e.items e.index e.from c.in_ok-seek.ensures.moved c.index-at.ensures c.start-passed.ensures in
    plain_after c.start-passed.result c.index-at.result c.args.tree.now.items s.1
