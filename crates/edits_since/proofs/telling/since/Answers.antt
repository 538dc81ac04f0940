use Rattle.std.proofs.Common.{Bool, ◌∙◌, sym, ap, refl, arith, ◌≡◌}
use Rattle.std.specs.Option.{option_copied}
use Rattle.std.proofs.lemmas.Result.{IfOk-weaker}
use Rattle.fragments.specs.declared.fragment.FragmentSummary.{FragmentSummary}
use Rattle.edits_since.specs.declared.differ.MayDiffer.{MayDiffer}
use Rattle.edits_since.specs.Differs.{may_differ}
use Rattle.edits_since.specs.Opened.{all_edits}
use Rattle.edits_since.specs.Telling.{AreSince}
use Rattle.edits_since.proofs.Walking.{begin, step, end}
use Rattle.edits_since.proofs.Standing.{since_is}
use Rattle.edits_since.proofs.telling.since.Goals as goal

abbrev keeps : MayDiffer → FragmentSummary → Bool
keeps k = may_differ k.version.now

pub loop-run-init : goal.loop-run-init
loop-run-init c = begin keeps c.args.undos.now c.args.version.now c.args.tree.now.items _ c.new-run.result c.in_ok-found.found refl c.new-run.ensures c.in_ok-found.ensures.made

pub overflow_sub-kept : goal.overflow_sub-kept
overflow_sub-kept c =
    (step keeps c.args.undos.now c.args.version.now c.args.tree.now.items c.known.ensures.fits c.loop-run.run c.loop-run.found c.next.new.self c.loop-run.at c.start.result c.loop-run.invariant
    c.in_ok-fragment.ensures.moved c.start.ensures c.in-Some.fragment.now (sym c.in_ok-fragment.ensures.item ∙ ap option_copied c.in-Some.is)).low

pub go_over-requires-clause-old : goal.go_over-requires-clause-old
go_over-requires-clause-old c =
    (step keeps c.args.undos.now c.args.version.now c.args.tree.now.items c.known.ensures.fits c.loop-run.run c.loop-run.found c.next.new.self c.loop-run.at c.start.result c.loop-run.invariant
    c.in_ok-fragment.ensures.moved c.start.ensures c.in-Some.fragment.now (sym c.in_ok-fragment.ensures.item ∙ ap option_copied c.in-Some.is)).old_room

pub go_over-requires-clause-new : goal.go_over-requires-clause-new
go_over-requires-clause-new c =
    (step keeps c.args.undos.now c.args.version.now c.args.tree.now.items c.known.ensures.fits c.loop-run.run c.loop-run.found c.next.new.self c.loop-run.at c.start.result c.loop-run.invariant
    c.in_ok-fragment.ensures.moved c.start.ensures c.in-Some.fragment.now (sym c.in_ok-fragment.ensures.item ∙ ap option_copied c.in-Some.is)).new_room

pub loop-run-smaller : goal.loop-run-smaller
loop-run-smaller c =
    (step keeps c.args.undos.now c.args.version.now c.args.tree.now.items c.known.ensures.fits c.loop-run.run c.loop-run.found c.next.new.self c.loop-run.at c.start.result c.loop-run.invariant
    c.in_ok-fragment.ensures.moved c.start.ensures c.in-Some.fragment.now (sym c.in_ok-fragment.ensures.item ∙ ap option_copied c.in-Some.is)).smaller

pub loop-run-preserved : goal.loop-run-preserved
loop-run-preserved c =
    (step keeps c.args.undos.now c.args.version.now c.args.tree.now.items c.known.ensures.fits c.loop-run.run c.loop-run.found c.next.new.self c.loop-run.at c.start.result c.loop-run.invariant
    c.in_ok-fragment.ensures.moved c.start.ensures c.in-Some.fragment.now (sym c.in_ok-fragment.ensures.item ∙ ap option_copied c.in-Some.is)).on
    c.go_over.new.run c.end-at.result c.in_ok-go_over.ensures c.end-at.ensures

pub overflow_sub-start : goal.overflow_sub-start
overflow_sub-start c =
    (end keeps c.args.undos.now c.args.version.now c.args.tree.now.items c.known.ensures.fits c.loop-run.run c.loop-run.found c.next.new.self c.loop-run.at c.start-2.result c.loop-run.invariant
    c.in_ok-fragment.ensures.moved c.start-2.ensures (sym c.in_ok-fragment.ensures.item ∙ ap option_copied c.in_default.is)).low

pub keep-requires-clause-old : goal.keep-requires-clause-old
keep-requires-clause-old c =
    (end keeps c.args.undos.now c.args.version.now c.args.tree.now.items c.known.ensures.fits c.loop-run.run c.loop-run.found c.next.new.self c.loop-run.at c.start-2.result c.loop-run.invariant
    c.in_ok-fragment.ensures.moved c.start-2.ensures (sym c.in_ok-fragment.ensures.item ∙ ap option_copied c.in_default.is)).old_room

pub finish-requires-clause-old : goal.finish-requires-clause-old
finish-requires-clause-old c =
    let a = (end keeps c.args.undos.now c.args.version.now c.args.tree.now.items c.known.ensures.fits c.loop-run.run c.loop-run.found c.next.new.self c.loop-run.at c.start-2.result c.loop-run.invariant
    c.in_ok-fragment.ensures.moved c.start-2.ensures (sym c.in_ok-fragment.ensures.item ∙ ap option_copied c.in_default.is)).old_room in
    let b = c.in_ok-keep.ensures.old in
    omega (arith, a, b)

pub returns : goal.returns
returns c =
    let t = (end keeps c.args.undos.now c.args.version.now c.args.tree.now.items c.known.ensures.fits c.loop-run.run c.loop-run.found c.next.new.self c.loop-run.at c.start-2.result c.loop-run.invariant
    c.in_ok-fragment.ensures.moved c.start-2.ensures (sym c.in_ok-fragment.ensures.item ∙ ap option_copied c.in_default.is)) in
    IfOk-weaker c.finish.result (λ es. es ≡ all_edits c.keep.new.self) (AreSince c.args.tree.now.items c.args.undos.now c.args.version.now)
    (λ es e. since_is c.args.tree.now.items c.args.undos.now c.args.version.now es (λ z. e ∙ t.edits c.keep.new.self c.in_ok-keep.ensures.kept z)) c.finish.ensures
