-- What is shown is visible by the counts.
use Rattle.std.proofs.Common.{◌≡◌, refl}
use Rattle.op_model.specs.Histories.{History, newest_first}
use Rattle.op_model.specs.Shown.{deleters, shows, shows_where, visible_by}
use Rattle.op_model.specs.Cells.{Cell}
use Rattle.op_model.proofs.shown.Deleters.{kept_all}
use Rattle.op_model.proofs.shown.OnePass.{undone_newest, all_newest}

-- ---- what is known of a cell, by the counts

pub shown_seen : (h : History) (c : Cell) → shows h c ≡ visible_by h c.stamp (deleters h c)
unfolding shows shows_where
shown_seen h c = rw (kept_all (newest_first h), undone_newest h c.stamp, all_newest h (deleters h c)) refl
