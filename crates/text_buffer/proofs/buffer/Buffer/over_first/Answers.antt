use Rattle.std.proofs.Common.{◌∙◌, ◌≡◌, [], ◌∷◌, None, map, ap, arith, subst}
use Rattle.op_model.specs.declared.operation.Operation.{Operation}
use Rattle.op_model.specs.Operations.{pieces_of}
use Rattle.op_model.specs.Rules.{rule_fault}
use Rattle.text_buffer.specs.Bases.{first_text}
use Rattle.text_buffer.specs.Document.{IsBufferHistory}
use Rattle.text_buffer.specs.Outcomes.{pair_of}
use Rattle.text_buffer.proofs.Opened.{IsBuffer-opened, base_utf8}
use Rattle.text_buffer.proofs.buffer.Buffer.over_first.Goals as goal

pub over_base-requires-clause-room : goal.over_base-requires-clause-room
over_base-requires-clause-room c = omega (arith, c.requires.room, c.requires.bytes)

pub invariant_of-result : goal.invariant_of-result
invariant_of-result c =
    let t = first_text (pieces_of c.args.first) in
    let is = c.in_ok-document.ensures ∙ ap (λ (o : Operation). o ∷ []) c.requires.base in
    IsBuffer-opened _ _ _ _ _ _ t (base_utf8 t (subst IsBufferHistory is c.known.ensures)) (subst (λ (o : Operation). rule_fault c.args.endings o ≡ None) c.requires.base c.requires.rule, tt) c.requires.least c.requires.greatest c.requires.bytes c.requires.entries c.requires.room
    is c.in_ok-waiting.ensures.empty (ap (map pair_of) c.new-2.ensures.items)
