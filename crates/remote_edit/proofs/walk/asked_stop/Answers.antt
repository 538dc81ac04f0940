use Rattle.std.proofs.Common.{◌+◌, ◌∙◌, refl, sym, ap, arith, inl, inr}
use Rattle.tree_cursor.specs.Counting.{number_passes}
use Rattle.tree_cursor.specs.declared.traits.Bias.TheVariants.{Left}
use Rattle.fragments.specs.Summaries.{summary_of}
use Rattle.remote_edit.specs.declared.passed.SeenPassed.{SeenPassed}
use Rattle.remote_edit.specs.Passed.{move_seen}
use Rattle.remote_edit.proofs.PassedPlaces.{seen_fits}
use Rattle.remote_edit.proofs.Ends.{cursor_end, seek_within}
use Rattle.remote_edit.proofs.Seeking.{cursor_stop}
use Rattle.remote_edit.proofs.Stops.{asked_index, asked_place}
use Rattle.remote_edit.proofs.walk.asked_stop.Goals as goal

pub new-requires : goal.new-requires
new-requires c κs = (omega arith, ((refl, tt), seen_fits c.args.version.now c.args.tree.now.items c.requires.room))

pub overflow_add-next : goal.overflow_add-next
overflow_add-next c =
    let e = c.in_ok-cursor.ensures in
    let b = c.end-end.result in
    let s = cursor_end move_seen summary_of (λ p. number_passes c.args.target.now.bytes p.0.0.1 Left) (λ (d : SeenPassed). (((d.version.now, d.bytes), d.visible), d.hidden)) c.args.tree.now.items _ c.in_ok-cursor.cursor c.seek.new.self c.index-at.result (((b.version.now, b.bytes), b.visible), b.hidden)
    e.items e.index e.from c.in_ok-seek.ensures.moved c.index-at.ensures c.end-end.ensures in
    let l = seek_within move_seen summary_of (λ p. number_passes c.args.target.now.bytes p.0.0.1 Left) (((c.args.version.now, 0), 0), 0) c.args.tree.now.items in
    omega (arith, l, s.0, c.known.ensures.short)

pub returns-then-end-target-clause-index : goal.returns-then-end-target-clause-index
returns-then-end-target-clause-index c =
    let e = c.in_ok-cursor.ensures in
    let b = c.end-end.result in
    let s = cursor_end move_seen summary_of (λ p. number_passes c.args.target.now.bytes p.0.0.1 Left) (λ (d : SeenPassed). (((d.version.now, d.bytes), d.visible), d.hidden)) c.args.tree.now.items _ c.in_ok-cursor.cursor c.seek.new.self c.index-at.result (((b.version.now, b.bytes), b.visible), b.hidden)
    e.items e.index e.from c.in_ok-seek.ensures.moved c.index-at.ensures c.end-end.ensures in
    let a = asked_place c.args.version.now b.version.now b.bytes b.visible b.hidden (c.index-at.result + 1) c.args.tree.now.items s.1 in
    inr (ap (λ n. n + 1) (asked_index c.args.version.now c.args.target.now.bytes c.index-at.result c.args.tree.now.items s.0), sym a.0 ∙ c.if-end-target.true)

pub returns-then-end-target-clause-place : goal.returns-then-end-target-clause-place
returns-then-end-target-clause-place c =
    let e = c.in_ok-cursor.ensures in
    let b = c.end-end.result in
    let s = cursor_end move_seen summary_of (λ p. number_passes c.args.target.now.bytes p.0.0.1 Left) (λ (d : SeenPassed). (((d.version.now, d.bytes), d.visible), d.hidden)) c.args.tree.now.items _ c.in_ok-cursor.cursor c.seek.new.self c.index-at.result (((b.version.now, b.bytes), b.visible), b.hidden)
    e.items e.index e.from c.in_ok-seek.ensures.moved c.index-at.ensures c.end-end.ensures in
    (asked_place c.args.version.now b.version.now b.bytes b.visible b.hidden (c.index-at.result + 1) c.args.tree.now.items s.1).0

pub returns-then-end-target-clause-passed : goal.returns-then-end-target-clause-passed
returns-then-end-target-clause-passed c =
    let e = c.in_ok-cursor.ensures in
    let b = c.end-end.result in
    let s = cursor_end move_seen summary_of (λ p. number_passes c.args.target.now.bytes p.0.0.1 Left) (λ (d : SeenPassed). (((d.version.now, d.bytes), d.visible), d.hidden)) c.args.tree.now.items _ c.in_ok-cursor.cursor c.seek.new.self c.index-at.result (((b.version.now, b.bytes), b.visible), b.hidden)
    e.items e.index e.from c.in_ok-seek.ensures.moved c.index-at.ensures c.end-end.ensures in
    (asked_place c.args.version.now b.version.now b.bytes b.visible b.hidden (c.index-at.result + 1) c.args.tree.now.items s.1).1

pub returns-clause-index : goal.returns-clause-index
returns-clause-index c =
    let e = c.in_ok-cursor.ensures in
    let b = c.start-before.result in
    let s = cursor_stop move_seen summary_of (λ p. number_passes c.args.target.now.bytes p.0.0.1 Left) (λ (d : SeenPassed). (((d.version.now, d.bytes), d.visible), d.hidden)) c.args.tree.now.items _ c.in_ok-cursor.cursor c.seek.new.self c.index-at.result (((b.version.now, b.bytes), b.visible), b.hidden)
    e.items e.index e.from c.in_ok-seek.ensures.moved c.index-at.ensures c.start-before.ensures in
    inl (asked_index c.args.version.now c.args.target.now.bytes c.index-at.result c.args.tree.now.items s.0)

pub returns-clause-place : goal.returns-clause-place
returns-clause-place c =
    let e = c.in_ok-cursor.ensures in
    let b = c.start-before.result in
    let s = cursor_stop move_seen summary_of (λ p. number_passes c.args.target.now.bytes p.0.0.1 Left) (λ (d : SeenPassed). (((d.version.now, d.bytes), d.visible), d.hidden)) c.args.tree.now.items _ c.in_ok-cursor.cursor c.seek.new.self c.index-at.result (((b.version.now, b.bytes), b.visible), b.hidden)
    e.items e.index e.from c.in_ok-seek.ensures.moved c.index-at.ensures c.start-before.ensures in
    (asked_place c.args.version.now b.version.now b.bytes b.visible b.hidden c.index-at.result c.args.tree.now.items s.1).0

pub returns-clause-passed : goal.returns-clause-passed
returns-clause-passed c =
    let e = c.in_ok-cursor.ensures in
    let b = c.start-before.result in
    let s = cursor_stop move_seen summary_of (λ p. number_passes c.args.target.now.bytes p.0.0.1 Left) (λ (d : SeenPassed). (((d.version.now, d.bytes), d.visible), d.hidden)) c.args.tree.now.items _ c.in_ok-cursor.cursor c.seek.new.self c.index-at.result (((b.version.now, b.bytes), b.visible), b.hidden)
    e.items e.index e.from c.in_ok-seek.ensures.moved c.index-at.ensures c.start-before.ensures in
    (asked_place c.args.version.now b.version.now b.bytes b.visible b.hidden c.index-at.result c.args.tree.now.items s.1).1
