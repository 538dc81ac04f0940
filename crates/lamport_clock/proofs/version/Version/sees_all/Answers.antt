use Rattle.std.proofs.Common.{◌≡◌, ap, sym, ◌∙◌, not, refl, Option, Some, None}
use Rattle.std.proofs.Math.Bool.{not-not}
use Rattle.std.specs.Option.{is_none, is_some}
use Rattle.lamport_clock.proofs.Joined.{none_unseen}
use Rattle.lamport_clock.proofs.version.Version.sees_all.Goals as goal

not-is_some : {A : Type 0} (o : Option A) → not (is_some o) ≡ is_none o
not-is_some None = refl
not-is_some (Some x) = refl

pub returns : goal.returns
returns c = sym (not-not _) ∙ ap not (sym c.is_none.ensures) ∙ not-is_some _ ∙ ap is_none c.first_missing.ensures ∙ none_unseen c.args.self.now c.args.o.now
