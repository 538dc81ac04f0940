use Rattle.std.proofs.Common.{◌≡◌, Some}
use Rattle.std.specs.Option.{option_map}
use Rattle.session_work.specs.declared.queries.Question.TheVariants.{OffsetOf}
use Rattle.session_work.specs.Work.{buffer_of}
use Rattle.session_work.proofs.QueryLines.{asked, history}
use Rattle.session_work.proofs.replay.Progress.answer_offset.Goals as goal

pub returns-in-Some : goal.returns-in-Some
returns-in-Some c =
    let there : Some c.in-Some.snapshot ≡ option_map history (buffer_of c.args.id c.args.self.now.exchange.buffers) = cc (c.in-Some.is, c.in_ok-snapshot.ensures) in
    asked c.args.number c.args.id (OffsetOf c.args.point) _ _ _ there c.offset_line.ensures
