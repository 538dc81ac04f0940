use Rattle.std.proofs.Common.{◌≡◌, ap, ◌∙◌}
use Rattle.lamport_clock.specs.Versions.{Entries, join_versions}
use Rattle.fragments.specs.declared.fragment.FragmentSummary.{FragmentSummary}
use Rattle.fragments.specs.Summaries.{greater_id}
use Rattle.fragments.proofs.Exchanging.{exchanged}
use Rattle.fragments.proofs.fragment.FragmentSummaryExchange.exchange.Goals as goal

pub returns : goal.returns
returns c =
    let w = c.args.self.now in
    let x = c.args.out.now in
    let y = c.args.put.now in
    let id : c.in_ok-copy_id.field-0 ≡ greater_id w.last_id y.last_id = rw (← c.as_ref.ensures.value, ← c.as_ref-2.ensures.value) (c.in_ok-copy_id.ensures ∙ c.greater_id-last_id.ensures) in
    let greatest : c.join.new.self ≡ join_versions w.greatest y.greatest = c.in_ok-join.ensures.ok ∙ ap (λ (v : Entries). join_versions v y.greatest) c.in_ok-greatest.ensures in
    let s : FragmentSummary = record { visible = c.in-Some.visible; hidden = c.in-Some-exchanged.hidden; last_id = c.in_ok-copy_id.field-0; span = c.in_ok-joined.field-0; greatest = c.join.new.self } in
    exchanged w x y s (c.absorbs.ensures c.if-not-absorbs.false) c.in-Some.ensures c.in-Some-exchanged.ensures id c.in_ok-joined.ensures greatest
