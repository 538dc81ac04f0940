use Rattle.std.proofs.Common.{◌≡◌, List, ◌++◌, reverse}
use Rattle.std.specs.Prelude.{vec_len}
use Rattle.std.specs.List.{AllZip}
use Rattle.queries.specs.declared.query.Answer.{Answer}
use Rattle.queries.specs.Final.{ComesTo}
use Rattle.queries.proofs.renewing.renew_each.Given as goal

abbrev pub invariant-loop-answer : goal.invariant-loop-answer
invariant-loop-answer g l =
    (taken : List (Answer g.row.Q.Denot g.row.A.Denot)) × (l.fn.answers.items ≡ l.answers.items ++ taken) × AllZip (ComesTo g.Q.Query.plain l.bounds l.lasts) (reverse l.renewed.items) taken

abbrev pub decreases-loop-answer : goal.decreases-loop-answer
decreases-loop-answer g l = vec_len l.answers
