use Rattle.std.proofs.Common.{ap}
use Rattle.text_buffer.proofs.Contents.{content_shared}
use Rattle.text_buffer.proofs.content.Content.share.Goals as goal

pub returns : goal.returns
returns c = λ h k.
    content_shared c.args.self.now _ h (ap (λ t. t.items) c.in_ok-fragments.ensures.fragments) c.in_ok-fragments.ensures.index c.in_ok-undos.ensures c.in_ok-texts.ensures.shown c.in_ok-texts.ensures.hidden k
