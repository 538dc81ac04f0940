use Rattle.std.proofs.Common.{◌≡◌, List, map, sym, subst, ap, ap₂, ◌∙◌}
use Rattle.session_excerpts.specs.State.{AllGoOn, Multis}
use Rattle.session_folds.specs.State.{ReplicaFolds, opening_folds}
use Rattle.session_more.specs.Decoding.{headed}
use Rattle.session_selections.specs.State.{SelectionWork, opening_selections}
use Rattle.text_buffer.specs.Buffer.{base_under}
use Rattle.session_work.specs.Behind.{AreBehind}
use Rattle.session_work.specs.MoreWork.{MoreState}
use Rattle.session_work.specs.Work.{State, base_of, first_buffer, histories, opening}
use Rattle.session_work.specs.Working.{state_of}
use Rattle.session_work.proofs.Behind.{behind_opening}
use Rattle.session_work.proofs.Opened.{opened_state}
use Rattle.session_work.proofs.Read.{few_at_first}
use Rattle.session_work.proofs.more.MoreProgress.new.Goals as goal

pub returns-clause-state : goal.returns-clause-state
returns-clause-state c =
    let s = headed c.args.session.now in
    let p = c.in_ok-plain.ensures in
    let start = p.buffers ∙ ap (λ base. map (first_buffer (base_under c.endings.result base)) c.as_slice.result.now) c.as_str.ensures
    ∙ ap (λ e. map (first_buffer (base_under e s.base)) c.as_slice.result.now) c.endings.ensures ∙ ap (map (first_buffer (base_of s))) c.as_slice.ensures in
    let begins : state_of c.in_ok-plain.plain ≡ opening s = opened_state s c.in_ok-plain.plain start p.operations p.anchors p.marks in
    let of_parts : State → SelectionWork → List ReplicaFolds → Multis → MoreState = λ u w fs es. record { plain = u; selections = w; folds = fs; excerpts = es } in
    let chosen = c.in_ok-selections.ensures ∙ ap opening_selections c.as_slice-2.ensures in
    let folded = c.in_ok-folds.ensures ∙ ap opening_folds c.as_slice-3.ensures in
    ap₂ (λ u w. of_parts u w c.in_ok-folds.folds c.new-4.result) begins chosen
    ∙ ap₂ (of_parts (opening s) (opening_selections s.replicas)) folded c.new-4.ensures

pub invariant_of-result : goal.invariant_of-result
invariant_of-result c =
    let p = c.in_ok-plain.ensures in
    let bs = c.in_ok-plain.plain.exchange.buffers in
    record {
      few = few_at_first c.args.session.now _ c.as_slice.result.now bs c.requires p.buffers c.as_slice.ensures;
      folds = subst (AreBehind bs) (sym c.in_ok-folds.ensures) (behind_opening bs c.as_slice-3.result.now);
      excerpts = subst (AllGoOn (histories bs)) (sym c.new-4.ensures) tt;
    }
