use Rattle.std.proofs.Common.{List, ◌∷◌, ap, ◌∙◌}
use Rattle.op_model.specs.declared.operation.Operation.{Operation}
use Rattle.text_buffer.proofs.Fronts.{front_trans}
use Rattle.queries.proofs.renewing.look_again.Goals as goal

pub returns : goal.returns
returns c =
    let learn = c.learn.ensures in
    let known = c.learn.new.self.longest in
    let longest = c.latest.new.self.longest in record {
      pair = c.latest.ensures.pair ∙ learn.pair;
      learned = front_trans c.args.told.list known longest learn.learned c.latest.ensures.begins;
      begins = front_trans c.args.reader.now.longest known longest learn.begins c.latest.ensures.begins;
      entered = λ e. c.in_ok-latest.ensures.entered e ∙ ap (λ (ls : List (List Operation)). longest ∷ ls) learn.stays.0;
      unentered = λ e. (c.in_ok-latest.ensures.unentered e).1 ∙ learn.stays.0;
    }
