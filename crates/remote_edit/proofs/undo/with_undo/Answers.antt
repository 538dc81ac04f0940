use Rattle.std.proofs.Common.{◌≡◌, ◌∙◌, ◌+◌, ℕ, List, [], ◌∷◌, ◌++◌, get_or, slice_get, length, take, sym, ap, subst, refl, arith}
use Rattle.std.proofs.lemmas.List.{take_more}
use Rattle.std.proofs.lemmas.Option.{slice_get_within}
use Rattle.sum_tree.specs.Laws.{fold}
use Rattle.sum_tree.specs.Spliced.{splice_list}
use Rattle.fragments.specs.declared.fragment.Fragment.{Fragment}
use Rattle.fragments.specs.Summaries.{no_fragments, summaries, summary_of, SummaryFits}
use Rattle.remote_edit.specs.Anew.{anew, changed_at}
use Rattle.remote_edit.specs.Finds.{is_place}
use Rattle.remote_edit.specs.Concern.{sees_edit}
use Rattle.remote_edit.specs.Looks.{seen_count}
use Rattle.remote_edit.proofs.Kept.{spliced_kept}
use Rattle.remote_edit.proofs.Anew.{unconcerned, same_len}
use Rattle.remote_edit.proofs.ChangedAt.{changed_long, stays_at, none_changed, changed_fits, put_place, past_last}
use Rattle.remote_edit.proofs.undo.with_undo.Goals.{in-Some+in_ok-put_anew, in_default}
use Rattle.remote_edit.proofs.undo.with_undo.Goals as goal

pub loop-place-init : goal.loop-place-init
loop-place-init g c = record {
  done = ap (λ t. t.items) c.in_ok-fragments.ensures ∙ none_changed (anew c.args.undos.now c.args.by c.args.edits.now) c.args.tree.now.items;
  seen = (let e = ap (λ t. seen_count c.args.by t.items) c.in_ok-fragments.ensures in omega (arith, e));
  cost = omega arith;
}

pub put_anew-requires-clause-within : goal.put_anew-requires-clause-within
put_anew-requires-clause-within g c =
    let m = anew c.args.undos.now c.args.by c.args.edits.now in
    let ps = take c.loop-place.place-index c.args.places.now in
    let i = get_or c.args.places.now c.loop-place.place-index 0 in
    let l = slice_get_within c.args.tree.now.items i c.in-Some.fragment.now (sym c.in-Some.ensures) in
    let k = changed_long m (is_place ps) c.args.tree.now.items in
    let e = ap length c.loop-place.invariant.done in
    omega (arith, l, k, e)

pub put_anew-requires-clause-stands : goal.put_anew-requires-clause-stands
put_anew-requires-clause-stands g c = λ n.
    let m = anew c.args.undos.now c.args.by c.args.edits.now in
    let ps = take c.loop-place.place-index c.args.places.now in
    let i = get_or c.args.places.now c.loop-place.place-index 0 in
    ap (λ (z : List Fragment). slice_get z i) c.loop-place.invariant.done
    ∙ stays_at m (is_place ps) i c.args.tree.now.items c.in-Some.fragment.now (sym c.in-Some.ensures) (unconcerned c.args.undos.now c.args.by c.args.edits.now c.in-Some.fragment.now n)

pub put_anew-requires-clause-fits : goal.put_anew-requires-clause-fits
put_anew-requires-clause-fits g c =
    let m = anew c.args.undos.now c.args.by c.args.edits.now in
    let ps = take c.loop-place.place-index c.args.places.now in
    let i = get_or c.args.places.now c.loop-place.place-index 0 in
    let put : splice_list i (i + 1) (m c.in-Some.fragment.now ∷ []) c.loop-place.fragments.items ≡ changed_at m (is_place (ps ++ i ∷ [])) c.args.tree.now.items =
    ap (splice_list i (i + 1) (m c.in-Some.fragment.now ∷ [])) c.loop-place.invariant.done ∙ put_place m ps i c.args.tree.now.items c.in-Some.fragment.now (sym c.in-Some.ensures) in
    subst (λ (z : List Fragment). SummaryFits (fold no_fragments summaries summary_of z)) (sym put) (changed_fits m (same_len c.args.undos.now c.args.by c.args.edits.now) (is_place (ps ++ i ∷ [])) c.args.tree.now.items c.known.ensures.fits)

pub loop-place-preserved : goal.loop-place-preserved
loop-place-preserved g c =
    let m = anew c.args.undos.now c.args.by c.args.edits.now in
    let fs = c.args.tree.now.items in
    let ps = take c.loop-place.place-index c.args.places.now in
    let i = get_or c.args.places.now c.loop-place.place-index 0 in
    let more : changed_at m (is_place (ps ++ i ∷ [])) fs ≡ changed_at m (is_place (take (c.loop-place.place-index + 1) c.args.places.now)) fs =
    ap (λ (z : List ℕ). changed_at m (is_place z) fs) (sym (take_more c.args.places.now c.loop-place.place-index 0 c.loop-place-test.true)) in
    record {
      done = elim c.match-get.branch [
        | in-Some+in_ok-put_anew v ↦ ap (λ t. t.items) v.fragments-is ∙ v.in_ok-put_anew.ensures.items ∙ ap (splice_list i (i + 1) (m v.in-Some.fragment.now ∷ [])) c.loop-place.invariant.done
            ∙ put_place m ps i fs v.in-Some.fragment.now (sym v.in-Some.ensures) ∙ more
        | in_default v ↦ ap (λ t. t.items) v.fragments-is ∙ c.loop-place.invariant.done ∙ past_last m ps i fs (sym v.in_default.ensures) ∙ more
      ];
      seen = elim c.match-get.branch [
        | in-Some+in_ok-put_anew v ↦ (let k = spliced_kept (sees_edit c.args.by) summary_of i (m v.in-Some.fragment.now) c.loop-place.fragments.items in
            let e = ap (λ (z : List Fragment). seen_count c.args.by z) (ap (λ t. t.items) v.fragments-is ∙ v.in_ok-put_anew.ensures.items) in
            let s = c.loop-place.invariant.seen in
            omega (arith, k, e, s))
        | in_default v ↦ (let e = ap (λ t. seen_count c.args.by t.items) v.fragments-is in let s = c.loop-place.invariant.seen in omega (arith, e, s))
      ];
      cost = elim c.match-get.branch [
        | in-Some+in_ok-put_anew v ↦ (let k = v.put_anew.ensures.cost in let t = c.tick.ensures in let i = c.loop-place.invariant.cost in omega (arith, k, t, i, v.steps-is))
        | in_default v ↦ (let t = c.tick.ensures in let i = c.loop-place.invariant.cost in omega (arith, t, i, v.steps-is))
      ];
    }

pub same-fragments : goal.same-fragments
same-fragments g c = refl
