-- The laws of histories, from the lemmas.
use Rattle.op_model.proofs.Elements.{each_map}
use Rattle.std.proofs.Common.{ℕ, suc, List, [], ◌∷◌, ◌∙◌, ◌⊎◌, true, ◌≡◌, refl, sym, ap, subst, inl, inr}
use Rattle.op_model.specs.declared.operation.Operation.{Operation}
use Rattle.op_model.specs.declared.endings.Endings.TheVariants.{AsIs, Lf}
use Rattle.op_model.specs.Sorted.{Member}
use Rattle.op_model.specs.Histories.{History, In, base, newest_first}
use Rattle.op_model.specs.Cells.{Cell, PathCell, everything, seq, cells}
use Rattle.op_model.specs.Shown.{IsCell, new_bytes, byte, shows_where, shows, text, full_where, full}
use Rattle.op_model.specs.Laws.{SameSetsAgree, PartsAreFiltered, GoodIsLaidIn, ReplayedByStamps, LeftNeighbours, EachCellOnce, DeletersDelete, EditChanges, NewCellsShown, UndoChanges, OneWalk, TextsAreUtf8, BoundariesAreStd, EqualOperationsAreSame, EditsAreGood, UndosAreGood, SettlingEnds, SettlingKeepsLawful, RunsStayLawful, TextsAreShownCells, SameSetsAnswerAlike, AnchorsStandWhereMade, AnchorsStandInOrder, RightAnchorsAreKnown, TwoPassesAreEnough, SetIsNeverRefused, SetIsAppliedWhole, HonestSetsAreApplied, SettlingAppends, RunsAppend, FrontsAreLawful, FrontsAreSeen, ClosedParts, SameSetsRefuseAlike, AnchorsKeepTheirOrder, UndoIsTold, WalksLeaveCells, EditsSinceTellTheChange, HiddenTextsAreUtf8, FactsChangeAtBoundaries, WalksKeepRunsWhole, AnchorsResolve, HonestSetsAreAppliedWhole, EditsSinceAreAtBoundaries, LawfulIsHistory, TextsAtClosedVersions, StopsLeaveFronts, GoodKeepsTheRule, EnteredTextsHaveNoReturn, TextsWithoutReturnStay, NoReturnIsHeld, OpensWhatIsApplied, RunsOpenAgain, OpenedSetsAreApplied, OpenedSetsAreAppliedWhole, PlacesAreBoundaries, PlacesByFates, MadeAnchorsStandInOrder, ShownAnchorsAreMadeAgain, PartsBeginHistories, SameVersionsSameSets, LocalEditsReplaceCells, SettlingGoesOn}
use Rattle.op_model.proofs.order.SameSets.{newest_of_set, seq_seen}
use Rattle.op_model.proofs.shown.Parts.{shown_seen}
use Rattle.op_model.proofs.shown.Bytes.{text_seen, full_seen}
use Rattle.op_model.proofs.answers.Good.{lawful_same, lawful_ready, good_more}
use Rattle.op_model.proofs.order.Replayed.{lawful_replay}
use Rattle.op_model.proofs.order.Literal.{lawful_places, lawful_deleters}
use Rattle.op_model.proofs.order.CellsOnce.{seq_ascends, once, all_cells}
use Rattle.op_model.proofs.answers.Counted.{lawful_counted}
use Rattle.op_model.proofs.shown.Changes.{edit_deleters, edit_shown, new_cells, undo_deleters, undo_shown, told_anew}
use Rattle.op_model.proofs.shown.OnePass.{walk_seen}
use Rattle.op_model.proofs.histories.MoreLawful.{lawful_more}
use Rattle.op_model.proofs.histories.Proper.{utf8, edit_good, undo_good, same_is, is_same}
use Rattle.op_model.proofs.texts.WholeTexts.{boundary_of, of_boundary}
use Rattle.op_model.specs.declared.anchor.TextEdit.{TextEdit}
use Rattle.op_model.specs.Edits.{is_boundary}
use Rattle.op_model.specs.Since.{is_shown_at, since, text_at}
use Rattle.op_model.specs.Answers.{same_op}
use Rattle.op_model.specs.Steps.{new_state, run}
use Rattle.op_model.specs.Brought.{operations_of_calls}
use Rattle.op_model.specs.Opened.{state_of}
use Rattle.op_model.proofs.answers.Under.{under_good, under_clean}
use Rattle.op_model.proofs.texts.Entering.{lf_clean, lf_same, lf_utf8}
use Rattle.op_model.proofs.anchors.PlaceBoundaries.{place_bounded}
use Rattle.op_model.proofs.anchors.FatePlaces.{fate_places, ends_in_order, made_again}
use Rattle.op_model.proofs.histories.BegunHistories.{part_begins, versions_tell}
use Rattle.op_model.proofs.texts.ReplacedCells.{cells_replaced}
use Rattle.op_model.proofs.settling.GoingOn.{goes_on}
use Rattle.op_model.proofs.settling.Stops.{fronts_left}
use Rattle.op_model.proofs.settling.Opening.{opens_applied, bare_full}
use Rattle.op_model.proofs.settling.OpenedRuns.{run_may}
use Rattle.op_model.proofs.settling.Settling.{settled_fixed, settled_misses, settled_lawful, run_holds, opened_holds}
use Rattle.op_model.proofs.answers.SameAnswers.{text_is, full_is, left_same, right_same, place_same, compare_same, known_same, since_same, text_at_same}
use Rattle.std.specs.Prelude.{map, IsCharBoundary}
use Rattle.std.specs.List.{AllByRecursion, filter}
use Rattle.op_model.proofs.anchors.AnchorPlaces.{left_place, right_place}
use Rattle.op_model.proofs.anchors.AnchorOrder.{in_order}
use Rattle.op_model.proofs.anchors.KnownAnchors.{right_known}
use Rattle.op_model.proofs.settling.TwoPasses.{two_passes}
use Rattle.op_model.proofs.answers.NeverRefused.{never_refused}
use Rattle.op_model.proofs.settling.AllApplied.{all_applied}
use Rattle.op_model.proofs.settling.HonestSets.{honest_applied, honest_whole}
use Rattle.op_model.proofs.histories.MoreLawful.{lawful_parts}
use Rattle.op_model.proofs.settling.Appending.{settled_longer, run_grows}
use Rattle.op_model.proofs.histories.ClosedVersions.{fronts_seen, seen_or_empty, seq_closed, deleters_closed, shown_closed}
use Rattle.op_model.proofs.anchors.KeptOrder.{order_kept}
use Rattle.op_model.proofs.since.Followed.{text_then, since_told}
use Rattle.op_model.proofs.since.SinceBoundaries.{since_bounded}
use Rattle.op_model.proofs.texts.WholeTexts.{lawful_whole}
use Rattle.op_model.proofs.texts.WholeRuns.{hidden_utf8, byte_new, told_apart, told_first, told_last}
use Rattle.op_model.proofs.texts.WholeWalks.{texts_of, walk_cut}
use Rattle.op_model.proofs.anchors.LeftAnchors.{both_resolve}
use Rattle.op_model.proofs.shown.Walking.{walk_some}
use Rattle.op_model.proofs.histories.SameVersions.{version_same, since_fault_same, place_fault_same, resolved_same, compared_same}

pub same_sets_agree : SameSetsAgree
unfolding shows full
same_sets_agree h g l m s =
    let a = (lawful_ready h l).0 in
    let b = (lawful_ready g m).0 in
    let r = lawful_same h g l m s in
    let n : newest_first h ≡ newest_first g = newest_of_set h g a.distinct b.distinct s in
    (r.0, (λ c. ap (λ (x : History). shows_where everything x c) n), r.1, ap (full_where everything) n)

pub parts_are_filtered : PartsAreFiltered
parts_are_filtered h v = (seq_seen h v, (λ c. shown_seen h v c), text_seen h v, full_seen h v)

pub good_is_laid_in : GoodIsLaidIn
good_is_laid_in h op l e = (lawful_more h op l e, (good_more h op (lawful_ready h l) e).1)

pub replayed_by_stamps : ReplayedByStamps
replayed_by_stamps h l = lawful_replay h l

pub left_neighbours : LeftNeighbours
left_neighbours h l op i = lawful_places h l op i

pub each_cell_once : EachCellOnce
each_cell_once h l = let d = (lawful_ready h l).0.distinct in (seq_ascends h, once h d, all_cells h d)

pub deleters_delete : DeletersDelete
deleters_delete h l c = lawful_deleters h l c

pub edit_changes : EditChanges
edit_changes h op l g e c = let r = lawful_ready h l in let k = lawful_counted h l in (edit_deleters h op r k g e c, edit_shown h op r k g e c)

pub new_cells_shown : NewCellsShown
new_cells_shown h op l g e n = new_cells h op (lawful_ready h l) (lawful_counted h l) g e n

pub undo_changes : UndoChanges
undo_changes h op l g e c = let r = lawful_ready h l in let k = lawful_counted h l in (undo_deleters h op r k g e c, undo_shown h op r k g e c)

pub one_walk : OneWalk
one_walk h op rs l g e s t = walk_seen h op rs (lawful_ready h l) (lawful_counted h l) g e s t

pub texts_are_utf8 : TextsAreUtf8
texts_are_utf8 h l e = utf8 h l e

pub boundaries_are_std : BoundariesAreStd
boundaries_are_std bs i = (boundary_of bs i, of_boundary bs i)

pub equal_operations_are_same : EqualOperationsAreSame
equal_operations_are_same a b = (same_is a b, λ e. subst (λ (x : Operation). same_op a x ≡ true) e (is_same a))

pub edits_are_good : EditsAreGood
edits_are_good l h r ps w e i f = edit_good l h r ps w e i f

pub undos_are_good : UndosAreGood
undos_are_good l h r ts w e i f = undo_good l h r ts w e i f

pub settling_ends : SettlingEnds
settling_ends l h w = (settled_fixed l h w, settled_misses l h w)

pub settling_keeps_lawful : SettlingKeepsLawful
settling_keeps_lawful l h w p = settled_lawful l h w p

pub runs_stay_lawful : RunsStayLawful
runs_stay_lawful l r t cs i u p = (run_holds l r cs (new_state t) i p (opened_holds t u)).0

pub texts_are_shown_cells : TextsAreShownCells
texts_are_shown_cells h l =
    let d = (lawful_ready h l).0.distinct in
    let r = lawful_replay h l in
    (text_is h d, full_is h d, text_is h d ∙ ap (λ (s : List PathCell). map (byte h) (filter (shows h) (cells s))) r, full_is h d ∙ ap (λ (s : List PathCell). map (byte h) (cells s)) r)

pub same_sets_answer_alike : SameSetsAnswerAlike
same_sets_answer_alike h g l m s = (
  (λ o. (left_same h g l m s o, right_same h g l m s o)),
  (λ a. (known_same h g l m s a, place_same h g l m s a)),
  (λ a b. compare_same h g l m s a b),
  (λ v. (since_same h g l m s v, text_at_same h g l m s v)),
)

pub anchors_stand_where_made : AnchorsStandWhereMade
anchors_stand_where_made h l o a = let d = (lawful_ready h l).0.distinct in ((λ e. left_place h d o a e), (λ e. right_place h d o a e))

pub anchors_stand_in_order : AnchorsStandInOrder
anchors_stand_in_order h a b = in_order h a b

pub right_anchors_are_known : RightAnchorsAreKnown
right_anchors_are_known h l o a b e = right_known h (lawful_ready h l).0.distinct o a b e

pub two_passes_are_enough : TwoPassesAreEnough
two_passes_are_enough l h w u = two_passes l h w u

pub set_is_never_refused : SetIsNeverRefused
set_is_never_refused g h w op lg lh part pw i = never_refused g h w op lg lh part pw i

pub set_is_applied_whole : SetIsAppliedWhole
set_is_applied_whole g h w l f m o i = all_applied g h w l f m o i

pub opened_sets_are_applied_whole : OpenedSetsAreAppliedWhole
opened_sets_are_applied_whole l r g cs ops ir lg pg p nf0 ho ko nf part inside all = honest_applied l r g cs ops ir lg pg p nf0 ho ko part inside all nf

pub opened_sets_are_applied : OpenedSetsAreApplied
opened_sets_are_applied l r g cs ops ir lg pg p nf0 ho ko bytes entries part inside all = honest_whole l r g cs ops ir lg pg p nf0 ho ko part inside all bytes entries

-- the list of a new buffer is its base
base_in : (t : List ℕ) (ops : List Operation) → In ops (base t) → (o : Operation) → In (base t ∷ []) o → In ops o
base_in t ops b o i = elim i [ inl e ↦ subst (In ops) (sym e) b | inr n ↦ absurd n ]

base_all : (t : List ℕ) (ops made : List Operation) → ((o : Operation) → In ops o → (o ≡ base t) ⊎ Member o made) → (o : Operation) → In ops o → In (base t ∷ []) o ⊎ Member o made
base_all t ops made all o i = elim (all o i) [ inl e ↦ inl (inl e) | inr m ↦ inr m ]

pub honest_sets_are_applied : HonestSetsAreApplied
honest_sets_are_applied l r t cs ops ir u p nf0 ho ko b bytes entries inside all = opened_sets_are_applied l r (base t ∷ []) cs ops ir ((t, refl), tt) (opened_holds t u).1 p nf0 ho ko bytes entries (base_in t ops b) inside (base_all t ops (operations_of_calls l r cs (new_state t)) all)

pub settling_appends : SettlingAppends
settling_appends l h w = settled_longer l h w

pub runs_append : RunsAppend
runs_append l r cs s = run_grows l r cs s

pub fronts_are_lawful : FrontsAreLawful
fronts_are_lawful op h g l = (l.0, (lawful_parts (op ∷ []) h g l.1).0)

pub fronts_are_seen : FrontsAreSeen
fronts_are_seen h g l m = fronts_seen h g l m

pub closed_parts : ClosedParts
closed_parts h v l c = ((λ i. seen_or_empty h l v c i), seq_closed h l v c, (λ d. deleters_closed h l v c d))

pub same_sets_refuse_alike : SameSetsRefuseAlike
same_sets_refuse_alike h g l m s = (
  version_same h g l m s,
  (λ v. since_fault_same h g l m s v),
  (λ o. place_fault_same h g l m s o),
  (λ a b. (resolved_same h g l m s a, compared_same h g l m s a b)),
)

pub anchors_keep_their_order : AnchorsKeepTheirOrder
anchors_keep_their_order h g l m a b i j = order_kept h g l m a b i j

pub undo_is_told : UndoIsTold
undo_is_told h op l g e = told_anew h op (lawful_ready h l) (lawful_counted h l) g e

pub walks_leave_cells : WalksLeaveCells
walks_leave_cells m keep t at k ps rs e = walk_some m keep t at k ps rs e

pub edits_since_tell_the_change : EditsSinceTellTheChange
edits_since_tell_the_change h v l c = since_told h v l c

pub hidden_texts_are_utf8 : HiddenTextsAreUtf8
hidden_texts_are_utf8 h l e = hidden_utf8 h (lawful_ready h l).0.distinct (lawful_whole h l (texts_of h e))

pub facts_change_at_boundaries : FactsChangeAtBoundaries
facts_change_at_boundaries h l e =
    let d = (lawful_ready h l).0.distinct in
    let u = texts_of h e in
    let w = lawful_whole h l u in (
      (λ xs ys p q i n. let k = told_apart h d u w xs ys p q i n in (of_boundary (new_bytes h p.cell.stamp) (suc p.cell.k) k.0, of_boundary (new_bytes h q.cell.stamp) q.cell.k k.1)),
      (λ ys q i. of_boundary (new_bytes h q.cell.stamp) q.cell.k (told_first h d u w ys q i)),
      (λ xs p i. of_boundary (new_bytes h p.cell.stamp) (suc p.cell.k) (told_last h d u w xs p i)),
    )

pub walks_keep_runs_whole : WalksKeepRunsWhole
walks_keep_runs_whole h op rs l e f g i s t w = walk_cut h op rs l e f g i s t w

pub anchors_resolve : AnchorsResolve
anchors_resolve h l e o n = both_resolve h l e o n

pub honest_sets_are_applied_whole : HonestSetsAreAppliedWhole
honest_sets_are_applied_whole l r t cs ops ir u p nf0 ho ko b nf inside all = opened_sets_are_applied_whole l r (base t ∷ []) cs ops ir ((t, refl), tt) (opened_holds t u).1 p nf0 ho ko nf (base_in t ops b) inside (base_all t ops (operations_of_calls l r cs (new_state t)) all)

pub edits_since_are_at_boundaries : EditsSinceAreAtBoundaries
edits_since_are_at_boundaries h v l e c = each_map
    (λ (x : TextEdit). (IsCharBoundary (text_at h v) x.old.0 × IsCharBoundary (text_at h v) x.old.1) × (IsCharBoundary (text h) x.new.0 × IsCharBoundary (text h) x.new.1))
    (λ (x : TextEdit). (is_boundary (text_at h v) x.old.0 ≡ true) × (is_boundary (text_at h v) x.old.1 ≡ true) × (is_boundary (text h) x.new.0 ≡ true) × (is_boundary (text h) x.new.1 ≡ true))
    (λ x b. (of_boundary (text_at h v) x.old.0 b.0.0, of_boundary (text_at h v) x.old.1 b.0.1, of_boundary (text h) x.new.0 b.1.0, of_boundary (text h) x.new.1 b.1.1)) (since h v) (since_bounded h l e v c)

pub lawful_is_history : LawfulIsHistory
lawful_is_history [] l = absurd l
lawful_is_history (op ∷ ops) l = (l.0, (lawful_ready (op ∷ ops) l).0.distinct)

pub texts_at_closed_versions : TextsAtClosedVersions
texts_at_closed_versions h v l c = (
  (λ d. shown_closed h l v c d),
  text_then h l v c ∙ ap (λ (f : Cell → ℕ). map f (filter (is_shown_at h v) (cells (seq h)))) (λ i d. byte_new h (lawful_ready h l).0.distinct d.stamp d.k i),
)

pub settling_goes_on : SettlingGoesOn
settling_goes_on l ks s u = goes_on l ks s u

pub stops_leave_fronts : StopsLeaveFronts
stops_leave_fronts l ks s u = fronts_left l ks s u

pub good_keeps_the_rule : GoodKeepsTheRule
good_keeps_the_rule e h w op = (
  (λ g. let u = under_good e h w op g in (u.1, u.0)),
  (λ p. under_clean e h w op p.0 ∙ p.1),
)

pub entered_texts_have_no_return : EnteredTextsHaveNoReturn
entered_texts_have_no_return t = (lf_clean t, lf_utf8 t)

pub texts_without_return_stay : TextsWithoutReturnStay
texts_without_return_stay AsIs t n = refl
texts_without_return_stay Lf t n = lf_same t n

pub no_return_is_held : NoReturnIsHeld
no_return_is_held h p k = bare_full h k (each (cells (seq h)) (λ c i. ((each_cell_once h p).2 c).0 i)) (texts_are_shown_cells h p).1
  where
    each : (s : List Cell) → ((c : Cell) → Member c s → IsCell h c) → AllByRecursion (IsCell h) s
    each [] f = tt
    each (c ∷ s) f = (f c (inl refl), each s (λ d i. f d (inr i)))

pub opens_what_is_applied : OpensWhatIsApplied
opens_what_is_applied l ops = opens_applied l ops

pub runs_open_again : RunsOpenAgain
runs_open_again l r g cs i q p e =
    let m = (opens_applied l g).0 e in
    (opens_applied l (run l r cs (state_of g)).history).1 (run_may l r cs (state_of g) i p (m.lawful, q, tt) m)

pub places_are_boundaries : PlacesAreBoundaries
places_are_boundaries h l e a p k = place_bounded h l e a p k

pub places_by_fates : PlacesByFates
places_by_fates h g l m = fate_places h g l m

pub parts_begin_histories : PartsBeginHistories
parts_begin_histories h g l m f = part_begins h g l m f

pub same_versions_same_sets : SameVersionsSameSets
same_versions_same_sets h g l m f e = versions_tell h g l m f e

pub local_edits_replace_cells : LocalEditsReplaceCells
local_edits_replace_cells l h r ps w e i f = cells_replaced l h r ps w e i f

pub made_anchors_stand_in_order : MadeAnchorsStandInOrder
made_anchors_stand_in_order h l s e a b = ends_in_order h l s e a b

pub shown_anchors_are_made_again : ShownAnchorsAreMadeAgain
shown_anchors_are_made_again h l o c e = made_again h l o c e
