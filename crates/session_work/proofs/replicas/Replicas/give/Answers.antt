use Rattle.std.proofs.Common.{Some, ap, ◌∙◌}
use Rattle.std.specs.Option.{option_map}
use Rattle.text_buffer.specs.Buffer.{BufferState}
use Rattle.session_work.specs.Work.{after_give, give_answer}
use Rattle.session_work.proofs.Finding.{nowhere, put, there, unchanged}
use Rattle.session_work.proofs.Growth.{all_themselves, set_grows}
use Rattle.session_work.proofs.replicas.Replicas.give.Goals as goal

pub returns-in_default-clause-answer : goal.returns-in_default-clause-answer
returns-in_default-clause-answer c = ap (option_map (give_answer c.args.operation)) (nowhere c.args.id c.args.self.now c.in_default.ensures)

pub returns-in_default-clause-after : goal.returns-in_default-clause-after
returns-in_default-clause-after c = unchanged c.args.id c.args.self.now c.in_default.ensures (after_give c.args.operation)

pub returns-clause-answer : goal.returns-clause-answer
returns-clause-answer c =
    ap Some c.in_ok-give.ensures.answer
    ∙ ap (option_map (give_answer c.args.operation)) (there c.args.id (λ (b : BufferState). b) c.args.self.now c.self.inside.list.items c.self.view_is c.in-Some.index c.index_mut.result.now c.in-Some.ensures c.index_mut.ensures.value)

pub returns-clause-after : goal.returns-clause-after
returns-clause-after c =
    put c.args.id (after_give c.args.operation) c.args.self.now c.self.inside.list.items c.self.view_is c.in-Some.index c.index_mut.result.now c.in-Some.ensures c.index_mut.ensures.value
    c.give.new.self c.in_ok-give.ensures.after

pub returns-in_default-clause-grows : goal.returns-in_default-clause-grows
returns-in_default-clause-grows c = all_themselves c.args.self.now

pub returns-clause-grows : goal.returns-clause-grows
returns-clause-grows c =
    set_grows c.args.self.now c.self.inside.list.items c.in-Some.index c.index_mut.result.now _ c.self.view_is c.index_mut.ensures.value c.give.ensures.id c.give.ensures.grows

pub returns-in_err-give-clause-grows : goal.returns-in_err-give-clause-grows
returns-in_err-give-clause-grows c =
    set_grows c.args.self.now c.self.inside.list.items c.in-Some.index c.index_mut.result.now _ c.self.view_is c.index_mut.ensures.value c.give.ensures.id c.give.ensures.grows
