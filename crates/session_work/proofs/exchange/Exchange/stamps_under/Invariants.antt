use Rattle.std.proofs.Common.{◌≡◌, ◌++◌, drop}
use Rattle.session_work.specs.Work.{stamps_under}
use Rattle.session_work.proofs.exchange.Exchange.stamps_under.Given as goal

abbrev pub invariant-loop-number : goal.invariant-loop-number
invariant-loop-number l = l.stamps.items ++ stamps_under l.self.operations (drop l.number-index l.numbers) ≡ stamps_under l.self.operations l.numbers
