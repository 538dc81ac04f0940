use Rattle.std.proofs.Common.{sym, ◌∙◌}
use Rattle.multi_buffer.proofs.Versions.{within_both}
use Rattle.multi_buffer.proofs.syncing.is_same.Goals as goal

pub returns-then-sees_all : goal.returns-then-sees_all
returns-then-sees_all c = λ e. within_both c.args.a.now c.args.b.now c.known.ensures c.known-2.ensures (sym c.sees_all-then-sees_all.ensures ∙ e) (sym c.sees_all.ensures ∙ c.if-sees_all.true)
