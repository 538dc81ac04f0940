use Rattle.std.proofs.Common.{◌≡◌, ◌∙◌, ◌+◌, sym, subst, [], ◌∷◌}
use Rattle.std.specs.Prelude.{OnOk}
use Rattle.sum_tree.specs.Laws.{fold}
use Rattle.sum_tree.specs.Spliced.{splice_list}
use Rattle.sum_tree.proofs.Lists.{spliced_self}
use Rattle.fragments.specs.declared.fragment.Fragment.{Fragment}
use Rattle.fragments.specs.Summaries.{no_fragments, summaries, summary_of, SummaryFits}
use Rattle.remote_edit.proofs.Anew.{concerned, unconcerned}
use Rattle.remote_edit.proofs.undo.put_anew.Goals as goal

pub returns-then-not-is_concerned-clause-items : goal.returns-then-not-is_concerned-clause-items
returns-then-not-is_concerned-clause-items g c =
    let n = sym c.is_concerned.ensures ∙ c.if-not-is_concerned.true in
    spliced_self c.args.i c.args.fragments.now.items c.args.fragment.now _ (c.requires.stands n) (unconcerned c.args.undos.now c.args.by c.args.edits.now c.args.fragment.now n)

pub replace-requires-clause-fits : goal.replace-requires-clause-fits
replace-requires-clause-fits g c = subst (λ (f : Fragment). SummaryFits (fold no_fragments summaries summary_of (splice_list c.args.i (c.args.i + 1) (f ∷ []) c.args.fragments.now.items))) (concerned c.args.undos.now c.args.by c.args.edits.now c.args.fragment.now (sym c.is_concerned.ensures ∙ c.if-not-is_concerned.false) ∙ sym c.in_ok-one.ensures) c.requires.fits

pub returns-clause-items : goal.returns-clause-items
returns-clause-items g c = subst (λ (f : Fragment). OnOk c.replace.result (c.replace.new.fragments.items ≡ splice_list c.args.i (c.args.i + 1) (f ∷ []) c.args.fragments.now.items))
    (c.in_ok-one.ensures ∙ sym (concerned c.args.undos.now c.args.by c.args.edits.now c.args.fragment.now (sym c.is_concerned.ensures ∙ c.if-not-is_concerned.false))) c.replace.ensures.items
