use Rattle.std.proofs.Common.{sym, ap, ◌∙◌}
use Rattle.lamport_clock.specs.Versions.{Entries, raise}
use Rattle.fragments.specs.Summaries.{with_stamps}
use Rattle.lamport_clock.proofs.Associative.{in_order}
use Rattle.fragments.proofs.fragment.greatest_of.Goals as goal

pub loop-stamp-init : goal.loop-stamp-init
loop-stamp-init c =
    let f = c.args.fragment.now in
    let o = in_order f.max_undos c.as_slice-kept.ensures.kept in
    record {
      seen = ap (λ d. with_stamps d c.observe.new.self) c.as_slice-stamp-items.ensures
          ∙ ap (with_stamps f.deletions) (c.in_ok-observe.ensures.ok ∙ ap (λ (v : Entries). raise v f.stamp) (c.in_ok-version.ensures ∙ sym o));
    }
