use Rattle.std.proofs.Common.{◌≡◌, None, Some, sym, ap, ◌∙◌}
use Rattle.std.specs.Option.{option_copied}
use Rattle.session_work.specs.Names.{under}
use Rattle.session_work.specs.Work.{history_at, since_reports}
use Rattle.session_work.specs.Working.{state_of}
use Rattle.session_work.proofs.Since.{reports-kept, reports-nowhere, reports-unkept}
use Rattle.session_work.proofs.replay.Progress.since_of.Goals as goal

pub returns-in_default : goal.returns-in_default
returns-in_default c =
    let s = state_of c.args.self.now in
    let none : None ≡ under c.args.name s.marks = c.in_default.ensures in
    reports-unkept c.args.name c.args.id (under c.args.name s.marks) (history_at c.args.id s) none

pub returns-in_default-2 : goal.returns-in_default-2
returns-in_default-2 c =
    let s = state_of c.args.self.now in
    let e : None ≡ history_at c.args.id s = cc (c.in_default-2.is, c.in_ok-snapshot.ensures) in
    reports-nowhere (since_reports c.args.name c.args.id (under c.args.name s.marks)) (history_at c.args.id s) e

pub returns : goal.returns
returns c =
    let s = state_of c.args.self.now in
    let h = c.in-Some-2.snapshot in
    let v = c.in-Some.version.now in
    let e : Some h ≡ history_at c.args.id s = cc (c.in-Some-2.is, c.in_ok-snapshot.ensures) in
    let some : Some v ≡ under c.args.name s.marks = ap option_copied (sym c.in-Some.is) ∙ c.find.ensures in
    reports-kept c.args.name c.args.id v h (under c.args.name s.marks) (history_at c.args.id s) c.in_ok-answer.answer c.in_ok-answer.ensures some e
