use Rattle.text_buffer.proofs.Contents.{base_content}
use Rattle.text_buffer.proofs.content.Content.over.Goals as goal

pub returns : goal.returns
returns c = base_content _ c.args.text.now c.in_ok-fragments.ensures.fragments c.in_ok-fragments.ensures.stand c.in_ok-fragments.ensures.whole c.in_ok-undos.ensures c.in_ok-texts.ensures.shown c.in_ok-texts.ensures.hidden
