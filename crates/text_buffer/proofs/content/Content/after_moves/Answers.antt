use Rattle.std.proofs.Common.{refl}
use Rattle.text_buffer.proofs.content.Content.after_moves.Goals as goal

pub same-fragments : goal.same-fragments
same-fragments c = refl

pub same-index : goal.same-index
same-index c = refl

pub same-undos : goal.same-undos
same-undos c = refl
