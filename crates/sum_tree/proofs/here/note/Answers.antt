use Rattle.sum_tree.proofs.Placeds.{noted_done, noted_split}
use Rattle.sum_tree.proofs.here.note.Goals as goal

pub returns-in-Some : goal.returns-in-Some
returns-in-Some g c =
    noted_done c.args.count c.args.len.now c.args.sum.now c.args.placing c.in-Done.sums c.pop.new.self c.in-Some.last c.in-Done.is c.in-Some.ensures.items

pub returns-in-Split : goal.returns-in-Split
returns-in-Split g c =
    noted_split c.args.count c.args.len.now c.args.sum.now c.args.placing c.in-Split.front c.in-Split.back c.in-Split.sums c.pop-last.new.self c.in-Split.sums.len c.in-Split.is c.in-Split.sums.ok.0 c.pop-last.ensures.rest
