use Rattle.std.proofs.Common.{◌∙◌, ◌++◌, sym, arith, List}
use Rattle.fragments.specs.declared.fragment.Fragment.{Fragment}
use Rattle.remote_edit.specs.Steps.{before, after}
use Rattle.remote_edit.proofs.Gathers.{over_later}
use Rattle.remote_edit.proofs.Intake.{none_later}
use Rattle.remote_edit.proofs.Entering.{all_kept, same_indexed}
use Rattle.remote_edit.proofs.gather.Gather.skip_later.Goals as goal

pub loop-alloc-preserved : goal.loop-alloc-preserved
loop-alloc-preserved c =
    let e = c.args.edit.now in
    let s = c.loop-alloc.self in
    let n = c.keep.new.self in
    let i = c.loop-alloc.invariant in
    let xs : List Fragment = c.args.tree.now.items in
    let g = c.in_ok-keep.ensures in
    let k = over_later e.stamp e.version (before xs s.from s.made.items) (after xs s.at s.back) (before xs n.from n.made.items) (after xs n.at n.back) s.place (sym c.is_later.ensures ∙ c.loop-alloc-test.true) i.place i.fit g.before g.after in
    record { order = omega (arith, i.order, g.order); from = g.from ∙ i.from; place = g.place ∙ k.place; goes = k.goes ∙ i.goes; none = λ a. absurd (none_later e.stamp e.version xs c.args.self.now.at s.at c.args.self.now.back s.back a (i.none a) (sym c.is_later.ensures ∙ c.loop-alloc-test.true)); fit = k.fit; same = k.same ∙ i.same; number = g.number ∙ i.number; indexed = same_indexed e.stamp s.number n.number (before xs s.from s.made.items ++ after xs s.at s.back) (before xs n.from n.made.items ++ after xs n.at n.back) s.index n.index g.number (all_kept (before xs s.from s.made.items) (after xs s.at s.back) (before xs n.from n.made.items) (after xs n.at n.back) g.before g.after) g.index i.indexed }
