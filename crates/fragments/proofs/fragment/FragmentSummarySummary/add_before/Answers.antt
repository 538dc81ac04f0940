use Rattle.std.proofs.Common.{rules}
use Rattle.fragments.proofs.Replacing.{giving_way}
use Rattle.fragments.proofs.fragment.FragmentSummarySummary.add_before.Goals as goal

pub returns-clause-ok : goal.returns-clause-ok
returns-clause-ok c =
    let id = giving_way c.args.self.now.last_id c.args.other.now.last_id c.args.next.now.last_id in
    search rules
