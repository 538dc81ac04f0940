use Rattle.std.proofs.Common.{arith, ◌∙◌}
use Rattle.queries.proofs.publishing.publish_all.Goals as goal
use Rattle.text_buffer.proofs.Fronts.{published_more}
use Rattle.op_model.proofs.Elements.{all_from_places}

pub loop-i-preserved : goal.loop-i-preserved
loop-i-preserved g c =
    let was = c.loop-i.invariant in
    let now = published_more c.loop-i.publisher.published c.publish.new.self.published c.loop-i.i _ c.args.snapshot.now c.in_ok-publish.ensures.published (omega arith) was.count was.grows was.published in record {
      pairs = c.publish.ensures.pairs ∙ was.pairs;
      count = now.0;
      grows = now.1;
      published = now.2;
    }

pub returns-clause-published : goal.returns-clause-published
returns-clause-published g c = all_from_places c.loop-i.publisher.published c.args.snapshot.now (λ j lt. c.loop-i.invariant.published j (omega arith))
