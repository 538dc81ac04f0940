use Rattle.std.proofs.Common.{◌≡◌, sym, ap, ◌∙◌}
use Rattle.fragments.specs.declared.fragment.FragmentSummary.{FragmentSummary}
use Rattle.fragments.specs.Spans.{sees_all}
use Rattle.fragments.specs.Summaries.{no_fragments}
use Rattle.remote_edit.proofs.Unasked.{all_of_sum}
use Rattle.remote_edit.proofs.walk.seen_stop.Goals as goal

pub returns-in-All-clause-index : goal.returns-in-All-clause-index
returns-in-All-clause-index c =
    c.plain_stop.ensures.index c.args.version.now (all_of_sum c.args.version.now no_fragments c.args.tree.now.items
    (ap (λ (s : FragmentSummary). sees_all c.args.version.now s.span) (sym c.summary.ensures) ∙ c.sight.ensures.all c.in-All.is)).1

pub returns-in-All-clause-place : goal.returns-in-All-clause-place
returns-in-All-clause-place c =
    c.plain_stop.ensures.place c.args.version.now (all_of_sum c.args.version.now no_fragments c.args.tree.now.items
    (ap (λ (s : FragmentSummary). sees_all c.args.version.now s.span) (sym c.summary.ensures) ∙ c.sight.ensures.all c.in-All.is)).1
