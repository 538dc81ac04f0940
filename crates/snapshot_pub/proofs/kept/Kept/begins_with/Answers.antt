use Rattle.std.proofs.Common.{◌≡◌, List, ap, length, subst}
use mathlib.Core.List.{IsPrefix}
use Rattle.snapshot_pub.specs.declared.entry.Entry.{Entry}
use Rattle.snapshot_pub.specs.Logs.{root_of}
use Rattle.snapshot_pub.proofs.Fronts.{leb_cases, longer_begins}
use Rattle.snapshot_pub.proofs.kept.Kept.begins_with.Goals as goal

pub returns-clause-front : goal.returns-clause-front
returns-clause-front c =
    let log = c.learn.new.self.log in
    let this : IsPrefix c.args.self.now.reached.log log = subst (λ (l : List Entry). IsPrefix l log) (ap (λ s. s.log) c.again-both.ensures) c.learn.ensures.2 in
    let same : root_of c.args.other.now.reached.log ≡ root_of c.args.self.now.reached.log = ap (λ w. w.key) c.requires in
    rw (c.len.ensures, c.len-2.ensures, c.applied.ensures, c.applied-2.ensures)
    (longer_begins c.args.self.now.reached.log c.args.other.now.reached.log log c.args.self.now.snapshot c.args.other.now.snapshot same this c.learn.ensures.3 c.args.self.now.whole c.args.other.now.whole)

pub returns-clause-length : goal.returns-clause-length
returns-clause-length c = rw (c.len.ensures, c.len-2.ensures, c.applied.ensures, c.applied-2.ensures) (leb_cases (length c.args.other.now.snapshot) (length c.args.self.now.snapshot))
