use Rattle.std.proofs.lemmas.Result.{IfOk-weaker}
use Rattle.edits_since.proofs.Moving.{carried_back}
use Rattle.edits_since.proofs.Back.{moves_are_back, characters_are_whole}
use Rattle.edits_since.proofs.way_back.moves_back.Goals as goal

pub returns-clause-text : goal.returns-clause-text
returns-clause-text c =
    let fs = c.args.tree.now.items in let u = c.args.undos.now in let v = c.args.version.now in
    IfOk-weaker c.moves_among.result _ _ (λ ms e. moves_are_back fs u v ms (carried_back u v fs ms e)) c.moves_among.ensures

pub returns-clause-characters : goal.returns-clause-characters
returns-clause-characters c =
    let fs = c.args.tree.now.items in let u = c.args.undos.now in let v = c.args.version.now in
    IfOk-weaker c.moves_among.result _ _ (λ ms e. characters_are_whole fs u v ms (carried_back u v fs ms e)) c.moves_among.ensures
