-- What an edit makes whose fragments are those of its walk, and whose moves carry the bytes along; and an edit of one piece.
use Rattle.std.proofs.Common.{◌≡◌, ℕ, zero, suc, ◌+◌, ◌-◌, ◌*◌, ◌≤◌, ◌^◌, max, min, true, List, [], ◌∷◌, ◌++◌, length, take, drop, Option, refl, sym, ap, subst, ◌∙◌, arith, append_assoc, inl, inr, leb, length-append}
use Rattle.std.specs.Prelude.{option_to_list}
use Rattle.std.specs.List.{AllByRecursion}
use Rattle.std.proofs.lemmas.Bool.{cases_Bool, leb-true, leb-false}
use Rattle.lamport_clock.specs.declared.stamp.Lamport.{Lamport}
use Rattle.lamport_clock.specs.Versions.{Entries, sees}
use Rattle.locators.specs.Locator.{least_digits}
use Rattle.op_model.specs.declared.operation.EditOp.{EditOp}
use Rattle.op_model.specs.declared.operation.Operation.TheVariants.{Edit}
use Rattle.op_model.specs.declared.operation.Piece.{Piece}
use Rattle.op_model.specs.Operations.{text_total}
use Rattle.op_model.specs.Shown.{texts}
use Rattle.op_model.specs.Domains.{IsProper}
use Rattle.op_model.specs.Histories.{History}
use Rattle.op_model.specs.Lawful.{Lawful}
use Rattle.op_model.specs.Answers.{answer}
use Rattle.op_model.specs.Answers.Answer.{Good}
use Rattle.op_model.specs.Walked.{IsWhole, Ordered}
use Rattle.op_model.proofs.Elements.{each_append}
use Rattle.op_model.proofs.texts.WholeWalks.{texts_of as proper_texts}
use Rattle.op_model.proofs.histories.MoreLawful.{lawful_more}
use Rattle.op_model.proofs.texts.Utf8Runs.{Utf8}
use Rattle.op_model.proofs.texts.WholeTexts.{byte_of}
use Rattle.undo_map.specs.declared.entry.UndoEntry.{UndoEntry}
use Rattle.undo_map.proofs.Entries.{entries_edit}
use Rattle.fragments.specs.declared.fragment.Fragment.{Fragment}
use Rattle.fragments.specs.DeletedRuns.{IndexState}
use Rattle.fragments.specs.Stand.{runs, IsFilled, Tell, Rise, SeesUndos, Stand}
use Rattle.fragments.specs.Laws.{cells_len}
use Rattle.fragments.proofs.Cells.{whole_fragments, utf8_more}
use Rattle.sum_tree.specs.Spliced.{splice_list}
use Rattle.remote_edit.specs.declared.moves.Move.{Move}
use Rattle.remote_edit.specs.declared.tree_change.TreeChange.{TreeChange}
use Rattle.remote_edit.specs.declared.tree_change.TreeChange.TheVariants.{Range, Whole}
use Rattle.remote_edit.specs.Changes.{ChangeFew}
use Rattle.remote_edit.specs.Placing.{MayPlace, ArePlaced, MoveWithEdit, KeepCharactersWithEdit}
use Rattle.remote_edit.specs.Walk.{Fit, Zip, zip, one_piece, changes, walk}
use Rattle.remote_edit.specs.Indexes.{IsIndexed}
use Rattle.remote_edit.specs.Carried.{CarryOn}
use Rattle.remote_edit.specs.BeforeEdit.{before_edit}
use Rattle.remote_edit.specs.Costs.{touch_count_behind}
use Rattle.remote_edit.specs.Starts.{AllSeen, starts}
use Rattle.remote_edit.proofs.Budget.{IsOnBudget, budget_near, budget_end, budget_touched}
use Rattle.remote_edit.proofs.PieceStarts.{piece_starts}
use Rattle.remote_edit.proofs.Pieces.{walk_one}
use Rattle.remote_edit.proofs.Rises.{walk_rises}
use Rattle.remote_edit.proofs.Runs.{walk_tells}
use Rattle.remote_edit.proofs.Undos.{walk_undos}
use Rattle.remote_edit.proofs.RangeMoves.{none_left}
use Rattle.remote_edit.proofs.EditTexts.{told_before}
use Rattle.remote_edit.proofs.Texts.{carried_texts, carried_characters}
use Rattle.remote_edit.proofs.WholeFragments.{texts_are, placed_utf8}

module _ (fs : List Fragment) (i : IndexState) (u : List UndoEntry) (e : EditOp) (gs : List Fragment) (walked : gs ≡ walk u e.stamp e.version 0 0 e.pieces [] fs) where
  -- the cells of the walk are those of the history with the edit
  tells : (h : History) → Stand fs i u h → Lawful h → answer h [] (Edit e) ≡ Good → Tell (walk u e.stamp e.version 0 0 e.pieces [] fs) (h ++ Edit e ∷ [])
  tells h s l g = subst (λ (v : List UndoEntry). Tell (walk v e.stamp e.version 0 0 e.pieces [] fs) (h ++ Edit e ∷ [])) (sym s.counts) (walk_tells h (Edit e) fs l g refl s.filled s.cells)

  pub are_placed : (k : ℕ) (j : IndexState) → Fit gs → IsIndexed e.stamp k gs j → ArePlaced fs i u (Edit e) gs j
  are_placed k j fit indexed h s l g = record {
    cells = subst (λ (z : List Fragment). Tell z (h ++ Edit e ∷ [])) (sym walked) (tells h s l g);
    filled = fit.0;
    ids = subst (Rise least_digits) (sym walked) (walk_rises u e.stamp e.version 0 0 e.pieces [] fs s.ids);
    ascending = indexed.entered.ascending;
    index = indexed.entered.entries;
    numbered = indexed.numbered;
    deletions = indexed.deletions;
    counts = s.counts ∙ sym (entries_edit h (Edit e) refl);
    undos = subst (AllByRecursion (SeesUndos (h ++ Edit e ∷ []))) (sym walked) (walk_undos h (Edit e) u fs l g refl s.undos);
  }

  module _ (ms : List Move) (carry : CarryOn e.stamp [] [] (before_edit u e.stamp gs) 0 ms gs [] (length (texts e.pieces))) where
    on_walk : CarryOn e.stamp [] [] (before_edit u e.stamp (walk u e.stamp e.version 0 0 e.pieces [] fs)) 0 ms (walk u e.stamp e.version 0 0 e.pieces [] fs) [] (length (texts e.pieces))
    on_walk = subst (λ (z : List Fragment). CarryOn e.stamp [] [] (before_edit u e.stamp z) 0 ms z [] (length (texts e.pieces))) walked carry

    pub are_moves : MoveWithEdit fs i u (Edit e) ms
    are_moves h s l g =
        let ws : List Fragment = walk u e.stamp e.version 0 0 e.pieces [] fs in
        carried_texts h (Edit e) (before_edit u e.stamp ws) ws ms l g (told_before h (Edit e) u fs i s l g) (tells h s l g) on_walk

    pub keep_characters : Fit gs → KeepCharactersWithEdit fs i u (Edit e) gs ms
    keep_characters fit h s l p q g k =
        let ws : List Fragment = walk u e.stamp e.version 0 0 e.pieces [] fs in
        let next : History = h ++ Edit e ∷ [] in
        let old : Utf8 (byte_of next) (runs fs) = utf8_more h (Edit e) fs l (proper_texts h p) g s.cells k in
        let new : Utf8 (byte_of next) (runs ws) = placed_utf8 h (Edit e) u fs i s l g q.1 old in
        let proper : AllByRecursion IsProper next = each_append IsProper h (Edit e ∷ []) p (q, tt) in (
          subst (λ (z : List Fragment). AllByRecursion (IsWhole next) (runs z)) (sym walked)
              (whole_fragments next (lawful_more h (Edit e) l g) (proper_texts next proper) ws (subst (AllByRecursion IsFilled) walked fit.0) (tells h s l g) new),
          carried_characters h (Edit e) (before_edit u e.stamp ws) ws ms l g (told_before h (Edit e) u fs i s l g) on_walk (texts_are (byte_of next) ws new),
        )

-- ---- an edit of one piece

-- the fragments of its walk
pub one_walked : (u : List UndoEntry) (e : EditOp) (p : Piece) (fs pre rest : List Fragment) → e.pieces ≡ p ∷ [] → changes p ≡ true → zip pre rest ≡ one_piece u e.stamp e.version p.start 0 p [] fs
    → pre ++ rest ≡ walk u e.stamp e.version 0 0 e.pieces [] fs
one_walked u e p fs pre rest o c z =
    let s : p.start ≡ p.start - 0 = omega arith in
    sym (ap (λ (ps : List Piece). walk u e.stamp e.version 0 0 ps [] fs) o
    ∙ walk_one u e.stamp e.version 0 0 p [] [] fs pre rest c (z ∙ ap (λ (n : ℕ). one_piece u e.stamp e.version n 0 p [] fs) s))

pub one_room : (ps : List Piece) (p : Piece) (n : ℕ) → ps ≡ p ∷ [] → n + text_total ps ≤ 2 ^ 40 → n + length p.text ≤ 2 ^ 40
one_room ps p n o r = let t : text_total ps ≡ length p.text + 0 = ap text_total o in omega (arith, t, r)

drop_low : (xs : List Fragment) (j n k : ℕ) → n ≡ length xs → k ≡ min j n → drop k xs ≡ drop j xs
drop_low xs j n k e m = elim (cases_Bool (leb j n)) [
  | inl l ↦ (let h = leb-true j n l in let q : k ≡ j = omega (arith, m, h) in ap (λ (a : ℕ). drop a xs) q)
  | inr l ↦ (let h = leb-false j n l in none_left xs k (omega (arith, m, h, e)) ∙ sym (none_left xs j (omega (arith, h, e))))
]

-- what a gather made, in the tree
pub one_range : (xs gathered made : List Fragment) (i j k n : ℕ) (b : Option Fragment) → made ≡ gathered ++ option_to_list b → n ≡ length xs → k ≡ min j n
    → splice_list i k made xs ≡ (take i xs ++ gathered) ++ (option_to_list b ++ drop j xs)
one_range xs gathered made i j k n b e l m =
    ap (λ (z : List Fragment). (take i xs ++ z) ++ drop k xs) e
    ∙ ap (λ (z : List Fragment). (take i xs ++ (gathered ++ option_to_list b)) ++ z) (drop_low xs j n k l m)
    ∙ ap (λ (z : List Fragment). z ++ drop j xs) (sym (append_assoc (take i xs) gathered (option_to_list b)))
    ∙ append_assoc (take i xs ++ gathered) (option_to_list b) (drop j xs)

-- its steps, by the fragments that its range touches
pub one_cost : (v : Entries) (fs : List Fragment) (ps : List Piece) (p : Piece) (old new : ℕ) → ps ≡ p ∷ [] → AllByRecursion IsFilled fs → AllSeen v fs → Ordered 0 (2 ^ 40) ps
    → (p.start ≤ 2 ^ 40 → new ≤ old + 256 * (1 + starts (max 1 p.start) (p.start + (p.end - p.start)) fs)) → new ≤ old + 256 * (length ps + touch_count_behind 0 ps fs)
one_cost v fs ps p old new o f a r c =
    let b : IsOnBudget v fs ps 0 fs (p ∷ []) old old = record {
      order = subst (Ordered 0 (2 ^ 40)) o r;
      seen = a;
      few = λ x y. (let d : suc x ≡ 0 + suc x = omega arith in let g : y ≡ 0 + y = omega arith in
          let q : starts (suc x) y fs ≡ starts (0 + suc x) (0 + y) fs = ap (λ (k : ℕ). starts k y fs) d ∙ ap (λ (k : ℕ). starts (0 + suc x) k fs) g in omega (arith, q));
      cost = (let q = ap (piece_starts fs) o in omega (arith, q));
    } in
    let z : p.start ≡ p.start - 0 = omega arith in
    let near = budget_near v fs ps 0 fs p [] old old b in
    let s : new ≤ old + 256 * (1 + starts (max 1 (p.start - 0)) (p.start - 0 + (p.end - p.start)) fs) =
    subst (λ (k : ℕ). new ≤ old + 256 * (1 + starts (max 1 k) (k + (p.end - p.start)) fs)) z (c (omega (arith, near))) in
    budget_touched fs ps old new f r (budget_end v fs ps 0 fs p [] old old b new s)

-- ---- the steps of a change

-- no step is within what a change may take
pub change_none : (c : TreeChange) (n : ℕ) → ChangeFew c n n
change_none (Range i j made) n = λ c a b. omega arith
change_none (Whole tree) n = omega arith
