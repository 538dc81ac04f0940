use Rattle.std.proofs.Common.{refl}
use Rattle.text_buffer.proofs.content.Content.share_fragments.Goals as goal

pub same-result : goal.same-result
same-result c = refl
