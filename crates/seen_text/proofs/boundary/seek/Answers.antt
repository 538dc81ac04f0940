use Rattle.std.proofs.Common.{◌≡◌, ◌+◌, sym, ap, ◌∙◌, subst, refl, arith}
use Rattle.std.specs.Option.{option_copied}
use Rattle.fragments.specs.declared.fragment.Fragment.{Fragment}
use Rattle.fragments.specs.declared.fragment.FragmentSummary.{FragmentSummary}
use Rattle.fragments.specs.Spans.{sees_all}
use Rattle.fragments.specs.Summaries.{no_fragments}
use Rattle.remote_edit.proofs.Unasked.{all_of_sum}
use Rattle.seen_text.proofs.Begins.{found_asked, found_unasked, passed_room}
use Rattle.seen_text.proofs.boundary.seek.Goals as goal

pub overflow_add-before : goal.overflow_add-before
overflow_add-before c =
    let b = c.look_up.result.1 in
    let l = passed_room c.args.version.now c.args.fragments.now.items c.args.place c.known.ensures.fits b.visible b.hidden c.look_up.ensures.place in
    omega (arith, l)

pub returns-in-All : goal.returns-in-All
returns-in-All c =
    let b = c.look_up.result.1 in
    let v = c.args.version.now in
    let fs = c.args.fragments.now.items in
    found_unasked v fs c.args.place (all_of_sum v no_fragments fs (ap (λ (s : FragmentSummary). sees_all v s.span) (sym c.summary.ensures) ∙ c.sight.ensures.all c.in-All.is)).1
    (option_copied c.look_up.result.0) b.visible b.hidden c.look_up.ensures.item c.look_up.ensures.place

pub returns-in-Nothing : goal.returns-in-Nothing
returns-in-Nothing c =
    let b = c.look_up-in-Nothing.result.1 in
    found_asked c.args.version.now c.args.fragments.now.items c.args.place (option_copied c.look_up-in-Nothing.result.0) b.version.now b.bytes b.visible b.hidden c.look_up-in-Nothing.ensures.item c.look_up-in-Nothing.ensures.place
