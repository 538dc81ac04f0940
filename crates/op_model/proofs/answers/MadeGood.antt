-- The operations that a replica makes are good against its history.
use Rattle.std.proofs.lemmas.List.{length-map, map-append as map_append}
use Rattle.std.proofs.Common.{◌≡◌, ℕ, zero, suc, ◌+◌, ◌-◌, ◌<◌, ◌≤◌, ◌⊎◌, Bool, List, [], ◌∷◌, ◌++◌, length, map, refl, sym, ◌∙◌, ap, subst, inl, inr, true, false, cond, not, eqb, ltb, arith, None, Option}
use Rattle.std.specs.Prelude.{IsCharBoundary, option_map}
use Rattle.std.specs.List.{AllByRecursion, filter, find, position}
use Rattle.std.proofs.lemmas.Bool.{cases_Bool, le-ltb, cases_lt}
use Rattle.std.proofs.lemmas.Str.{IsCharBoundary-start}
use Rattle.lamport_clock.specs.Clocks.{last_value}
use Rattle.lamport_clock.specs.declared.stamp.Lamport.{Lamport}
use Rattle.op_model.specs.declared.operation.Piece.{Piece}
use Rattle.op_model.specs.declared.operation.UndoCount.{UndoCount}
use Rattle.op_model.specs.declared.operation.Operation.{Operation}
use Rattle.op_model.specs.declared.limits.Limits.{Limits as LimitsType}
use Rattle.op_model.specs.declared.faults.EditFault.TheVariants as edit_faults
use Rattle.op_model.specs.declared.faults.UndoFault.TheVariants as undo_faults
use Rattle.op_model.specs.declared.faults.UndoFault.{UndoFault}
use Rattle.op_model.specs.declared.faults.OpFault.TheVariants.{NoSuchEdit}
use Rattle.op_model.specs.Choice.{when}
use Rattle.op_model.specs.Operations.{text_total, text_limit}
use Rattle.op_model.specs.Histories.{History, newest_first, clock, has_edit}
use Rattle.op_model.specs.Limited.{excess}
use Rattle.op_model.specs.Domains.{IsReplica}
use Rattle.op_model.specs.Edits.{is_reversed, is_past, is_inside, overlap_from}
use Rattle.op_model.specs.Cells.{Cell, everything, seq_where, seq, cells}
use Rattle.op_model.specs.Shown.{shows, shows_where, byte, text, text_where, full, count}
use Rattle.op_model.specs.Facts.{Fact, fact, alike}
use Rattle.op_model.specs.Walked.{Run, run_facts, facts_of, Ordered}
use Rattle.op_model.specs.Made.{full_offset, full_piece, local_edit, local_undo, next_count, first_twice, local_edit_fault, local_undo_fault}
use Rattle.op_model.specs.Answers.{answer, range_fault, count_fault}
use Rattle.op_model.specs.Answers.Answer.{Good}
use Rattle.op_model.specs.Lawful.{Lawful}
use Rattle.op_model.proofs.shown.Walking.{ordered_le}
use Rattle.op_model.proofs.answers.Passed.{good, well_shaped, well_ranged, first_none, map_none, when_none, position_none, find_none, none_find, none_map}
use Rattle.op_model.proofs.shown.FactCells.{cells_in, told_cells}
use Rattle.op_model.proofs.answers.Counted.{ordered_from}
use Rattle.op_model.proofs.histories.VersionLaws.{seen_all}
use Rattle.op_model.proofs.answers.OwnVersion.{Stamps, Own, own_stamp, own_base, own_fresh, none_equal, own_chained, own_caused, own_closed}
use Rattle.op_model.proofs.texts.FullOffsets.{number, offset_step, offset_mono}
use Rattle.op_model.proofs.texts.Utf8Runs.{bytes, run_bytes, all_bytes, shown_bytes, Utf8, utf8_all, facts_all, facts_shown, bytes_length, boundary_left, boundary_in, boundary_right, boundary_on}
use Rattle.op_model.proofs.texts.WholeTexts.{Whole, byte_of, full_told, text_told, of_boundary, bounds_of}
use Rattle.op_model.proofs.Elements.{less_than}

-- ---- full offsets over runs

module _ (f : Cell → Bool) where
  over_hidden : (xs ys : List Cell) (o : ℕ) → AllByRecursion (λ (c : Cell). f c ≡ false) xs → full_offset f (xs ++ ys) o ≡ length xs + full_offset f ys o
  over_hidden [] ys o e = omega arith
  over_hidden (c ∷ xs) ys zero e = let i = over_hidden xs ys zero e.1 in rw e.0 (omega arith)
  over_hidden (c ∷ xs) ys (suc o) e = let i = over_hidden xs ys (suc o) e.1 in rw e.0 (omega arith)

  in_shown : (xs ys : List Cell) (o : ℕ) → AllByRecursion (λ (c : Cell). f c ≡ true) xs → o < length xs → full_offset f (xs ++ ys) o ≡ o
  in_shown [] ys o e h = absurd (omega arith)
  in_shown (c ∷ xs) ys zero e h = rw e.0 refl
  in_shown (c ∷ xs) ys (suc o) e h = let i = in_shown xs ys o e.1 (omega arith) in rw e.0 (ap suc i)

  past_shown : (xs ys : List Cell) (o m : ℕ) → AllByRecursion (λ (c : Cell). f c ≡ true) xs → o ≡ length xs + m → full_offset f (xs ++ ys) o ≡ length xs + full_offset f ys m
  past_shown [] ys o m e h = let i : o ≡ m = omega arith in rw i (omega arith)
  past_shown (c ∷ xs) ys zero m e h = absurd (omega arith)
  past_shown (c ∷ xs) ys (suc o) m e h = let i = past_shown xs ys o m e.1 (omega arith) in rw e.0 (omega arith)

  abbrev pub Agree : List Fact → Type 0
  Agree s = AllByRecursion (λ (q : Fact). f q.cell ≡ q.visible) s

  run_cells : (t : Lamport) (k n : ℕ) (v : Bool) (d : List Lamport) → length (cells_in (alike t k n v d)) ≡ n
  run_cells t k zero v d = refl
  run_cells t k (suc n) v d = ap suc (run_cells t (suc k) n v d)

  run_agrees : (t : Lamport) (k n : ℕ) (v : Bool) (d : List Lamport) → Agree (alike t k n v d) → AllByRecursion (λ (c : Cell). f c ≡ v) (cells_in (alike t k n v d))
  run_agrees t k zero v d e = tt
  run_agrees t k (suc n) v d e = (e.0, run_agrees t (suc k) n v d e.1)

  each_left : (xs ys : List Fact) → Agree (xs ++ ys) → Agree xs
  each_left [] ys e = tt
  each_left (x ∷ xs) ys e = (e.0, each_left xs ys e.1)

  each_right : (xs ys : List Fact) → Agree (xs ++ ys) → Agree ys
  each_right [] ys e = e
  each_right (x ∷ xs) ys e = each_right xs ys e.1

  module _ (b : Cell → ℕ) where
    run_len : (r : Run) → length (run_bytes b r) ≡ r.len
    run_len r = bytes_length b r.stamp r.offset r.len r.visible r.deletions

    split_cells : (r : Run) (rs : List Run) → cells_in (facts_of (r ∷ rs)) ≡ cells_in (run_facts r) ++ cells_in (facts_of rs)
    split_cells r rs = map_append (λ (q : Fact). q.cell) (run_facts r) (facts_of rs)

    cells_len : (r : Run) → length (cells_in (run_facts r)) ≡ r.len
    cells_len r = run_cells r.stamp r.offset r.len r.visible r.deletions

    seen_as : (r : Run) (v : Bool) → r.visible ≡ v → Agree (run_facts r) → AllByRecursion (λ (c : Cell). f c ≡ v) (cells_in (run_facts r))
    seen_as r v e a = subst (λ (w : Bool). AllByRecursion (λ (c : Cell). f c ≡ w) (cells_in (run_facts r))) e (run_agrees r.stamp r.offset r.len r.visible r.deletions a)

    -- where a character of the shown bytes begins, one of all bytes begins
    pub start_boundary : (rs : List Run) (o : ℕ) → Agree (facts_of rs) → Utf8 b rs → IsCharBoundary (shown_bytes b rs) o → IsCharBoundary (all_bytes b rs) (full_offset f (cells_in (facts_of rs)) o)
    start_boundary [] o a u c = (omega arith, λ l g. absurd (omega arith))
    start_boundary (r ∷ rs) o a u c = go (cases_Bool r.visible) (λ n d. start_boundary rs n (each_right (run_facts r) (facts_of rs) a) u.1 d)
      where
        there : (n : ℕ) → full_offset f (cells_in (run_facts r) ++ cells_in (facts_of rs)) o ≡ n → IsCharBoundary (run_bytes b r ++ all_bytes b rs) n
            → IsCharBoundary (all_bytes b (r ∷ rs)) (full_offset f (cells_in (facts_of (r ∷ rs))) o)
        there n e d = subst (λ (x : List Cell). IsCharBoundary (run_bytes b r ++ all_bytes b rs) (full_offset f x o)) (sym (split_cells r rs))
            (subst (λ (x : ℕ). IsCharBoundary (run_bytes b r ++ all_bytes b rs) x) (sym e) d)

        go : (r.visible ≡ true) ⊎ (r.visible ≡ false) → ((n : ℕ) → IsCharBoundary (shown_bytes b rs) n → IsCharBoundary (all_bytes b rs) (full_offset f (cells_in (facts_of rs)) n))
            → IsCharBoundary (all_bytes b (r ∷ rs)) (full_offset f (cells_in (facts_of (r ∷ rs))) o)
        go (inl v) ih =
            let s = seen_as r true v (each_left (run_facts r) (facts_of rs) a) in
            let l = run_len r in
            let k = cells_len r in
            let d : IsCharBoundary (run_bytes b r ++ shown_bytes b rs) o = subst (λ (w : Bool). IsCharBoundary (cond w (run_bytes b r ++ shown_bytes b rs) (shown_bytes b rs)) o) v c in
            elim (cases_lt o r.len) [
              | inl h ↦ there o (in_shown (cells_in (run_facts r)) (cells_in (facts_of rs)) o s (omega arith))
                  (boundary_in (run_bytes b r) (all_bytes b rs) o (boundary_left (run_bytes b r) (shown_bytes b rs) o d (omega arith)) (omega arith))
              | inr h ↦ (let m : ℕ = o - r.len in
                  there (length (cells_in (run_facts r)) + full_offset f (cells_in (facts_of rs)) m) (past_shown (cells_in (run_facts r)) (cells_in (facts_of rs)) o m s (omega arith))
                  (boundary_on (run_bytes b r) (all_bytes b rs) (length (cells_in (run_facts r)) + full_offset f (cells_in (facts_of rs)) m) (full_offset f (cells_in (facts_of rs)) m) (omega arith)
                  (ih m (boundary_right (run_bytes b r) (shown_bytes b rs) o m (omega arith) d))))
            ]
        go (inr v) ih =
            let s = seen_as r false v (each_left (run_facts r) (facts_of rs) a) in
            let l = run_len r in
            let k = cells_len r in
            let d : IsCharBoundary (shown_bytes b rs) o = subst (λ (w : Bool). IsCharBoundary (cond w (run_bytes b r ++ shown_bytes b rs) (shown_bytes b rs)) o) v c in
            there (length (cells_in (run_facts r)) + full_offset f (cells_in (facts_of rs)) o) (over_hidden (cells_in (run_facts r)) (cells_in (facts_of rs)) o s)
            (boundary_on (run_bytes b r) (all_bytes b rs) (length (cells_in (run_facts r)) + full_offset f (cells_in (facts_of rs)) o) (full_offset f (cells_in (facts_of rs)) o) (omega arith) (ih o d))

    -- the same one past the last byte of a character
    pub end_boundary : (rs : List Run) (o : ℕ) → Agree (facts_of rs) → Utf8 b rs → IsCharBoundary (shown_bytes b rs) (suc o)
        → IsCharBoundary (all_bytes b rs) (suc (full_offset f (cells_in (facts_of rs)) o))
    end_boundary [] o a u c = absurd (let x = c.0 in omega arith)
    end_boundary (r ∷ rs) o a u c = go (cases_Bool r.visible) (λ n d. end_boundary rs n (each_right (run_facts r) (facts_of rs) a) u.1 d)
      where
        there : (n : ℕ) → full_offset f (cells_in (run_facts r) ++ cells_in (facts_of rs)) o ≡ n → IsCharBoundary (run_bytes b r ++ all_bytes b rs) (suc n)
            → IsCharBoundary (all_bytes b (r ∷ rs)) (suc (full_offset f (cells_in (facts_of (r ∷ rs))) o))
        there n e d = subst (λ (x : List Cell). IsCharBoundary (run_bytes b r ++ all_bytes b rs) (suc (full_offset f x o))) (sym (split_cells r rs))
            (subst (λ (x : ℕ). IsCharBoundary (run_bytes b r ++ all_bytes b rs) (suc x)) (sym e) d)

        go : (r.visible ≡ true) ⊎ (r.visible ≡ false) → ((n : ℕ) → IsCharBoundary (shown_bytes b rs) (suc n) → IsCharBoundary (all_bytes b rs) (suc (full_offset f (cells_in (facts_of rs)) n)))
            → IsCharBoundary (all_bytes b (r ∷ rs)) (suc (full_offset f (cells_in (facts_of (r ∷ rs))) o))
        go (inl v) ih =
            let s = seen_as r true v (each_left (run_facts r) (facts_of rs) a) in
            let l = run_len r in
            let k = cells_len r in
            let d : IsCharBoundary (run_bytes b r ++ shown_bytes b rs) (suc o) = subst (λ (w : Bool). IsCharBoundary (cond w (run_bytes b r ++ shown_bytes b rs) (shown_bytes b rs)) (suc o)) v c in
            elim (cases_lt (suc o) r.len) [
              | inl h ↦ there o (in_shown (cells_in (run_facts r)) (cells_in (facts_of rs)) o s (omega arith))
                  (boundary_in (run_bytes b r) (all_bytes b rs) (suc o) (boundary_left (run_bytes b r) (shown_bytes b rs) (suc o) d (omega arith)) (omega arith))
              | inr h ↦ elim (cases_lt o r.len) [
                | inl i ↦ there o (in_shown (cells_in (run_facts r)) (cells_in (facts_of rs)) o s (omega arith))
                    (boundary_on (run_bytes b r) (all_bytes b rs) (suc o) 0 (omega arith) (IsCharBoundary-start (all_bytes b rs) (utf8_all b rs u.1)))
                | inr i ↦ (let m : ℕ = o - r.len in
                    there (length (cells_in (run_facts r)) + full_offset f (cells_in (facts_of rs)) m) (past_shown (cells_in (run_facts r)) (cells_in (facts_of rs)) o m s (omega arith))
                    (boundary_on (run_bytes b r) (all_bytes b rs) (suc (length (cells_in (run_facts r)) + full_offset f (cells_in (facts_of rs)) m)) (suc (full_offset f (cells_in (facts_of rs)) m)) (omega arith)
                    (ih m (boundary_right (run_bytes b r) (shown_bytes b rs) (suc o) (suc m) (omega arith) d))))
              ]
            ]
        go (inr v) ih =
            let s = seen_as r false v (each_left (run_facts r) (facts_of rs) a) in
            let l = run_len r in
            let k = cells_len r in
            let d : IsCharBoundary (shown_bytes b rs) (suc o) = subst (λ (w : Bool). IsCharBoundary (cond w (run_bytes b r ++ shown_bytes b rs) (shown_bytes b rs)) (suc o)) v c in
            there (length (cells_in (run_facts r)) + full_offset f (cells_in (facts_of rs)) o) (over_hidden (cells_in (run_facts r)) (cells_in (facts_of rs)) o s)
            (boundary_on (run_bytes b r) (all_bytes b rs) (suc (length (cells_in (run_facts r)) + full_offset f (cells_in (facts_of rs)) o)) (suc (full_offset f (cells_in (facts_of rs)) o)) (omega arith) (ih o d))

-- ---- pieces taken to full offsets

pub text_number : (h : History) → length (text h) ≡ number (shows h) (cells (seq h))
unfolding text text_where shows seq
text_number h = length-map (filter (shows_where everything (newest_first h)) (cells (seq_where everything (newest_first h)))) (byte (newest_first h))

told_agree : (h : History) (s : List Cell) → Agree (shows h) (map (fact h) s)
told_agree h [] = tt
told_agree h (c ∷ s) = (refl, told_agree h s)

module _ (h : History) (w : Whole h) where
  cells_whole : cells_in (facts_of w.runs) ≡ cells (seq h)
  cells_whole = ap cells_in w.tell ∙ told_cells h (cells (seq h))

  agree_whole : Agree (shows h) (facts_of w.runs)
  agree_whole = subst (Agree (shows h)) (sym w.tell) (told_agree h (cells (seq h)))

  full_whole : full h ≡ all_bytes (byte_of h) w.runs
  full_whole = full_told h ∙ ap (bytes (byte_of h)) (sym w.tell) ∙ facts_all (byte_of h) w.runs

  text_whole : text h ≡ shown_bytes (byte_of h) w.runs
  text_whole = text_told h ∙ ap (λ (s : List Fact). bytes (byte_of h) (filter (λ (q : Fact). q.visible) s)) (sym w.tell) ∙ facts_shown (byte_of h) w.runs

  pub start_whole : (o : ℕ) → IsCharBoundary (text h) o → IsCharBoundary (full h) (full_offset (shows h) (cells (seq h)) o)
  start_whole o c = subst (λ (s : List Cell). IsCharBoundary (full h) (full_offset (shows h) s o)) cells_whole
      (subst (λ (x : List ℕ). IsCharBoundary x (full_offset (shows h) (cells_in (facts_of w.runs)) o)) (sym full_whole)
      (start_boundary (shows h) (byte_of h) w.runs o agree_whole w.utf8 (subst (λ (x : List ℕ). IsCharBoundary x o) text_whole c)))

  pub end_whole : (o : ℕ) → IsCharBoundary (text h) (suc o) → IsCharBoundary (full h) (suc (full_offset (shows h) (cells (seq h)) o))
  end_whole o c = subst (λ (s : List Cell). IsCharBoundary (full h) (suc (full_offset (shows h) s o))) cells_whole
      (subst (λ (x : List ℕ). IsCharBoundary x (suc (full_offset (shows h) (cells_in (facts_of w.runs)) o))) (sym full_whole)
      (end_boundary (shows h) (byte_of h) w.runs o agree_whole w.utf8 (subst (λ (x : List ℕ). IsCharBoundary x (suc o)) text_whole c)))

module _ (h : History) where
  abbrev pub at : ℕ → ℕ
  at o = full_offset (shows h) (cells (seq h)) o

  -- where a piece's range ends in full offsets
  abbrev pub full_end : ℕ → ℕ → ℕ
  full_end s e = cond (eqb s e) (at s) (suc (at (e - 1)))

  pub end_after : (s e : ℕ) → s ≤ e → at s ≤ full_end s e
  end_after s e a = elim (cases_Bool (eqb s e)) [
    | inl q ↦ rw q (omega arith)
    | inr q ↦ (let l = less_than s e a q in let m = offset_mono (shows h) (cells (seq h)) s (e - 1) (omega arith) in rw q (omega arith))
  ]

  pub end_before : (s e q : ℕ) → s ≤ e → e ≤ length (text h) → e ≤ q → full_end s e ≤ at q
  end_before s e q a b c = elim (cases_Bool (eqb s e)) [
    | inl x ↦ (let m = offset_mono (shows h) (cells (seq h)) s q (omega arith) in rw x m)
    | inr x ↦ (let l = less_than s e a x in let n = text_number h in let m = offset_step (shows h) (cells (seq h)) (e - 1) q (omega arith) (omega arith) in rw x m)
  ]

  pub forward_full : (so : ℕ) (ps : List Piece) → Ordered so (length (text h)) ps → AllByRecursion (λ (p : Piece). is_reversed p ≡ false) (map (full_piece h) ps)
  forward_full so [] o = tt
  forward_full so (p ∷ ps) o = (le-ltb (full_end p.start p.end) (at p.start) (end_after p.start p.end o.1), forward_full p.end ps o.2)

  pub apart_full : (so a i : ℕ) (ps : List Piece) → Ordered so (length (text h)) ps → ((q : ℕ) → so ≤ q → a ≤ at q) → overlap_from a i (map (full_piece h) ps) ≡ None
  apart_full so a i [] o f = refl
  apart_full so a i (p ∷ ps) o f =
      let n : ltb (at p.start) a ≡ false = le-ltb (at p.start) a (f p.start o.0) in
      rw n (apart_full p.end (full_end p.start p.end) (suc i) ps o.2 (λ q k. end_before p.start p.end q o.1 (ordered_le p.end (length (text h)) ps o.2) k))

  -- full pieces have the same texts
  pub total_full : (ps : List Piece) → text_total (map (full_piece h) ps) ≡ text_total ps
  total_full [] = refl
  total_full (p ∷ ps) = ap (λ (n : ℕ). length p.text + n) (total_full ps)

  pub bounded_full : Whole h → (ps : List Piece) → AllByRecursion (λ (p : Piece). p.start ≤ p.end) ps → AllByRecursion (λ (p : Piece). IsCharBoundary (text h) p.start × IsCharBoundary (text h) p.end) ps
      → AllByRecursion (λ (p : Piece). IsCharBoundary (full h) p.start × IsCharBoundary (full h) p.end) (map (full_piece h) ps)
  bounded_full w [] o b = tt
  bounded_full w (p ∷ ps) o b = ((start_whole h w p.start b.0.0, ends (cases_Bool (eqb p.start p.end))), bounded_full w ps o.1 b.1)
    where
      ends : (eqb p.start p.end ≡ true) ⊎ (eqb p.start p.end ≡ false) → IsCharBoundary (full h) (full_end p.start p.end)
      ends (inl q) = rw q (start_whole h w p.start b.0.0)
      ends (inr q) = let l = less_than p.start p.end o.0 q in let e : p.end ≡ suc (p.end - 1) = omega arith in
          rw q (end_whole h w (p.end - 1) (subst (λ (n : ℕ). IsCharBoundary (text h) n) e b.0.1))

-- ---- a local edit without fault

pub record Sound (h : History) (ps : List Piece) : Type 0 where
  pub ordered : Ordered 0 (length (text h)) ps
  pub inside : AllByRecursion (λ (p : Piece). is_inside (text h) p ≡ false) ps
  pub total : ltb text_limit (text_total ps) ≡ false
  pub open_clock : eqb (clock h) last_value ≡ false

pub sound : (l : LimitsType) (h : History) (ps : List Piece) → local_edit_fault l h ps ≡ None → Sound h ps
sound l h ps e =
    let s1 = first_none _ _ e in
    let s2 = first_none _ _ s1.1 in
    let s3 = first_none _ _ s2.1 in
    let p1 = first_none _ _ s1.0 in
    let p2 = first_none _ _ p1.1 in
    let p3 = first_none _ _ p2.1 in
    let p4 = first_none _ _ p3.1 in
    let len : ℕ = length (text h) in
    record {
      ordered = ordered_from len 0 0 ps (position_none (is_past len) ps (map_none (λ i. edit_faults.PastEnd i len) (position (is_past len) ps) p3.0))
          (position_none is_reversed ps (map_none edit_faults.Reversed (position is_reversed ps) p1.0)) (map_none edit_faults.Overlap (overlap_from 0 0 ps) p2.0) (omega arith);
      inside = position_none (is_inside (text h)) ps (map_none edit_faults.InsideChar (position (is_inside (text h)) ps) p4.0);
      total = when_none (ltb text_limit (text_total ps)) (edit_faults.TextLimit (text_total ps)) s2.0;
      open_clock = when_none (eqb (clock h) last_value) edit_faults.ClockEnd s3.0;
    }

starts_before : (so len : ℕ) (ps : List Piece) → Ordered so len ps → AllByRecursion (λ (p : Piece). p.start ≤ p.end) ps
starts_before so len [] o = tt
starts_before so len (p ∷ ps) o = (o.1, starts_before p.end len ps o.2)

within_bytes : (bs : List ℕ) (ps : List Piece) → AllByRecursion (λ (p : Piece). IsCharBoundary bs p.start × IsCharBoundary bs p.end) ps
    → AllByRecursion (λ (p : Piece). is_past (length bs) p ≡ false) ps × AllByRecursion (λ (p : Piece). is_inside bs p ≡ false) ps
within_bytes bs [] e = (tt, tt)
within_bytes bs (p ∷ ps) e =
    let r = within_bytes bs ps e.1 in
    let a = of_boundary bs p.start e.0.0 in
    let c = of_boundary bs p.end e.0.1 in
    ((le-ltb (length bs) p.end e.0.1.0, r.0), (rw (a, c) refl, r.1))

pub made_good : (h : History) (r : ℕ) (ps : List Piece) → Lawful h → Stamps h → Whole h → IsReplica r → Sound h ps → answer h [] (local_edit h r ps) ≡ Good
unfolding local_edit
made_good h r ps l st w i s =
    let op : Operation = local_edit h r ps in
    let o : Own h l st s.open_clock r op = (refl, refl) in
    let b = within_bytes (full h) (map (full_piece h) ps) (bounded_full h w ps (starts_before 0 (length (text h)) ps s.ordered) (bounds_of (text h) ps s.inside)) in
    let f = own_fresh h l st s.open_clock r op o in
    good h [] op (record {
      shape = well_shaped op (record {
        stamp = own_stamp h l st s.open_clock r op i o;
        base = own_base h l st s.open_clock r op o;
        limit = subst (λ (n : ℕ). ltb text_limit n ≡ false) (sym (total_full h ps)) s.total;
        forward = forward_full h 0 ps s.ordered;
        apart = apart_full h 0 0 0 ps s.ordered (λ q k. omega arith);
      });
      unequal = none_equal h l st s.open_clock (h ++ []) op f;
      fresh = f;
      chained = own_chained h l st s.open_clock r op o;
      caused = own_caused h l st s.open_clock;
      closed = own_closed h l st s.open_clock;
      ranges = subst (λ (x : History). range_fault (full x) (map (full_piece h) ps) ≡ None) (sym (seen_all h)) (well_ranged (full h) (map (full_piece h) ps) b.0 b.1);
      counts = refl;
    })

-- ---- a local undo without fault

counts_there : (h : History) (ts : List Lamport) → AllByRecursion (λ (t : Lamport). not (has_edit h t) ≡ false) ts → AllByRecursion (λ (c : UndoCount). not (has_edit h c.edit) ≡ false) (map (next_count h) ts)
counts_there h [] e = tt
counts_there h (t ∷ ts) e = (e.0, counts_there h ts e.1)

pub record SoundUndo (h : History) (ts : List Lamport) : Type 0 where
  pub edits : AllByRecursion (λ (t : Lamport). not (has_edit h t) ≡ false) ts
  pub open_clock : eqb (clock h) last_value ≡ false

pub sound_undo : (l : LimitsType) (h : History) (ts : List Lamport) → local_undo_fault l h ts ≡ None → SoundUndo h ts
sound_undo l h ts e =
    let a : Option UndoFault = option_map undo_faults.NoSuchEdit (find (λ t. not (has_edit h t)) ts) in
    let b : Option UndoFault = option_map undo_faults.Twice (first_twice [] ts) in
    let c : Option UndoFault = option_map undo_faults.CountEnd (find (λ t. eqb (count h t) last_value) ts) in
    let d : Option UndoFault = when (eqb (clock h) last_value) undo_faults.ClockEnd in
    let f : Option UndoFault = option_map (λ x. undo_faults.Full x.unit x.held x.adds) (excess l h 0 (1 + length ts)) in
    let s1 = first_none a (b ∷ c ∷ d ∷ f ∷ []) e in
    let s2 = first_none b (c ∷ d ∷ f ∷ []) s1.1 in
    let s3 = first_none c (d ∷ f ∷ []) s2.1 in
    let s4 = first_none d (f ∷ []) s3.1 in
    record {
      edits = find_none (λ t. not (has_edit h t)) ts (map_none undo_faults.NoSuchEdit (find (λ t. not (has_edit h t)) ts) s1.0);
      open_clock = when_none (eqb (clock h) last_value) undo_faults.ClockEnd s4.0;
    }

pub made_undo_good : (h : History) (r : ℕ) (ts : List Lamport) → Lawful h → Stamps h → IsReplica r → SoundUndo h ts → answer h [] (local_undo h r ts) ≡ Good
unfolding local_undo
made_undo_good h r ts l st i s =
    let op : Operation = local_undo h r ts in
    let o : Own h l st s.open_clock r op = (refl, refl) in
    let f = own_fresh h l st s.open_clock r op o in
    good h [] op (record {
      shape = well_shaped op (record {
        stamp = own_stamp h l st s.open_clock r op i o;
        base = own_base h l st s.open_clock r op o;
        limit = refl;
        forward = tt;
        apart = refl;
      });
      unequal = none_equal h l st s.open_clock (h ++ []) op f;
      fresh = f;
      chained = own_chained h l st s.open_clock r op o;
      caused = own_caused h l st s.open_clock;
      closed = own_closed h l st s.open_clock;
      ranges = refl;
      counts = subst (λ (x : History). count_fault x (map (next_count h) ts) ≡ None) (sym (seen_all h))
          (none_map (λ c. NoSuchEdit c.edit) (find (λ c. not (has_edit h c.edit)) (map (next_count h) ts)) (none_find (λ c. not (has_edit h c.edit)) (map (next_count h) ts) (counts_there h ts s.edits)));
    })
