use Rattle.std.proofs.Common.{refl}
use Rattle.fragments.proofs.recent.RecentEntries.move_into.Goals as goal

pub same-whole : goal.same-whole
same-whole c = refl
