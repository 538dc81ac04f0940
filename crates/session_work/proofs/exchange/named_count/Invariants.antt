use Rattle.std.proofs.Common.{◌≡◌, take}
use Rattle.std.specs.List.{count_by}
use Rattle.session_work.specs.Exchange.{is_named}
use Rattle.session_work.proofs.exchange.named_count.Given as goal

abbrev pub invariant-loop-named : goal.invariant-loop-named
invariant-loop-named l = l.count ≡ count_by is_named (take l.named-index l.list)
