use Rattle.std.proofs.Common.{refl, ap, ◌∙◌}
use Rattle.session_maker.specs.Turns.{turn_of}
use Rattle.session_work.proofs.Rounds.{turn_worked}
use Rattle.session_work.proofs.making.Making.take_turn.Goals as goal

pub returns : goal.returns
returns c =
    turn_worked c.args.self.now _ c.work.new.self c.args.replicas c.args.number c.author-replica.result c.text_len-length.result c.in_ok-line.line refl refl
    c.author-replica.ensures.author c.text_len-length.ensures.len
    (c.in_ok-line.ensures ∙ ap (turn_of c.args.number c.author-replica.result c.text_len-length.result) c.author-replica.ensures.state) c.in_ok-work.ensures
