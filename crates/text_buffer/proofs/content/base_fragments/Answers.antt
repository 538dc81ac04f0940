use Rattle.std.proofs.Common.{◌∙◌, ◌==◌, ℕ, List, [], ◌∷◌, length, refl, sym, ap}
use Rattle.std.proofs.lemmas.Bool.{eqb-true, false≢true}
use Rattle.fragments.specs.declared.fragment.Fragment.{Fragment}
use Rattle.fragments.specs.Laws.{whole_base, index_of_one}
use Rattle.fragments.proofs.Bases.{empty_base, one_base}
use Rattle.remote_edit.proofs.Fragments.{fragment_of_base, fragments_of_base}
use Rattle.text_buffer.proofs.Contents.{whole_one}
use Rattle.text_buffer.proofs.content.base_fragments.Goals as goal

pub returns-then-is_empty-clause-stand : goal.returns-then-is_empty-clause-stand
returns-then-is_empty-clause-stand c = empty_base _ _ c.args.text.now (eqb-true (length c.args.text.now) 0 (sym c.is_empty.ensures ∙ c.if-is_empty.true)) c.in_ok-new.ensures.items c.in_ok-new-2.ensures

pub returns-clause-stand : goal.returns-clause-stand
returns-clause-stand c =
    let f = c.in_ok-whole.whole in
    let is = c.in_ok-whole.ensures.fragment c.args.text.now refl in
    one_base _ _ f c.args.text.now (λ e. false≢true (sym c.if-is_empty.false ∙ c.is_empty.ensures ∙ ap (λ n. n == 0) e)) c.requires
    is c.in_ok-whole.ensures.above c.in_ok-whole.ensures.below c.in_ok-whole.ensures.ends
    c.in_ok-plant_one.ensures (c.in_ok-index.ensures ∙ ap index_of_one is)

pub returns-then-is_empty-clause-fragments : goal.returns-then-is_empty-clause-fragments
returns-then-is_empty-clause-fragments c =
    c.in_ok-new.ensures.items ∙ sym (fragments_of_base c.args.text.now (eqb-true (length c.args.text.now) 0 (sym c.is_empty.ensures ∙ c.if-is_empty.true)))

pub returns-clause-fragments : goal.returns-clause-fragments
returns-clause-fragments c =
    let f = c.in_ok-whole.whole in
    let t = c.args.text.now in
    c.in_ok-plant_one.ensures
    ∙ ap (λ (g : Fragment). g ∷ []) (c.in_ok-whole.ensures.fragment t refl ∙ ap (λ (i : List ℕ). whole_base i t) c.in_ok-whole.ensures.id)
    ∙ sym (fragment_of_base t (λ e. false≢true (sym c.if-is_empty.false ∙ c.is_empty.ensures ∙ ap (λ n. n == 0) e)))

pub returns-clause-whole : goal.returns-clause-whole
returns-clause-whole c = whole_one _ c.in_ok-whole.whole c.args.text.now c.utf8.text (c.in_ok-whole.ensures.fragment c.args.text.now refl) c.in_ok-plant_one.ensures

pub same-result : goal.same-result
same-result c = refl
