use Rattle.std.proofs.Common.{◌≡◌, drop}
use Rattle.std.specs.Prelude.{◌&&◌, ◌||◌, true}
use Rattle.fragments.specs.Spans.{sees_all, sees_none}
use Rattle.fragments.proofs.spans.Spans.sight.Given as goal

abbrev pub invariant-loop-span : goal.invariant-loop-span
invariant-loop-span l = record {
  all : sees_all l.version l.self ≡ l.all && sees_all l.version (drop l.span-index l.span-items);
  none : sees_none l.version l.self ≡ l.none && sees_none l.version (drop l.span-index l.span-items);
  either : l.all || l.none ≡ true;
}
