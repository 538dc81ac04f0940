use Rattle.rope_edits.proofs.Sides.{front_at}
use Rattle.rope_edits.proofs.moving.cut.Goals as goal

pub split_at-requires : goal.split_at-requires
split_at-requires c = front_at c.args.text.now c.args.bytes c.min-len.result c.utf8.text c.requires c.min-len.ensures
