use Rattle.std.proofs.Common.{[], ◌∷◌, map, ap, sym, subst}
use Rattle.op_model.specs.Histories.{base}
use Rattle.op_model.specs.Rules.{KeepsRule}
use Rattle.text_buffer.specs.Outcomes.{pair_of}
use Rattle.text_buffer.proofs.Opened.{IsBuffer-opened}
use Rattle.text_buffer.proofs.buffer.Buffer.begin.Goals as goal

pub invariant_of-result : goal.invariant_of-result
invariant_of-result c = IsBuffer-opened _ _ _ _ _ _ c.args.base.now.text c.known.ensures.utf8 (subst (λ e. KeepsRule e (base c.args.base.now.text ∷ [])) (sym c.endings.ensures) c.known.ensures.rule) c.requires.least c.requires.greatest c.requires.bytes c.requires.entries c.requires.room
    c.in_ok-document.ensures c.in_ok-waiting.ensures.empty (ap (map pair_of) c.new-2.ensures.items)
