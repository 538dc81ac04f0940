-- The shown cells after a local edit are the old ones with those at each range replaced.
use Rattle.std.proofs.Common.{◌≡◌, ℕ, zero, suc, ◌+◌, ◌-◌, ◌<◌, ◌≤◌, Bool, List, [], ◌∷◌, ◌++◌, length, map, take, drop, refl, sym, ◌∙◌, ap, subst, true, false, cond, arith}
use Rattle.std.proofs.lemmas.List.Elements.{filter-append}
use Rattle.std.specs.Prelude.{slice_range}
use Rattle.std.specs.List.{AllByRecursion, filter}
use Rattle.std.proofs.lemmas.List.{length-append, map-append as map_append}
use Rattle.lamport_clock.specs.declared.stamp.Lamport.{Lamport}
use Rattle.lamport_clock.specs.Stamps.{later}
use Rattle.lamport_clock.specs.Versions.{sees}
use Rattle.lamport_clock.proofs.Later.{later_irrefl, one_way, later_of}
use Rattle.op_model.specs.declared.operation.Piece.{Piece}
use Rattle.op_model.specs.declared.operation.Operation.{Operation}
use Rattle.op_model.specs.Operations.{stamp_of}
use Rattle.op_model.specs.Histories.{History, In, version, clock, kept_history, newest_first}
use Rattle.op_model.specs.Cells.{Cell, seq, cells}
use Rattle.op_model.specs.Shown.{in_pieces, shows, text}
use Rattle.op_model.specs.Facts.{Fact, fact, cell_facts, alike, Marking, edit_marking, lay_facts, mark, marks}
use Rattle.op_model.specs.Walked.{Ordered}
use Rattle.op_model.specs.Made.{full_piece, local_edit}
use Rattle.op_model.specs.Answers.{answer}
use Rattle.op_model.specs.Answers.Answer.{Good}
use Rattle.op_model.proofs.order.SameSets.{newest_desc, newest_same, each_in}
use Rattle.op_model.proofs.histories.OneMore.{Fits}
use Rattle.op_model.proofs.answers.Good.{Ready, good_more, checked_of, fits_of}
use Rattle.op_model.proofs.shown.EditTold.{edit_told}
use Rattle.op_model.proofs.answers.Counted.{Counted, uncounted_new}
use Rattle.op_model.proofs.shown.Walking.{ordered_le}
use Rattle.op_model.proofs.texts.FullOffsets.{offset_length}
use Rattle.op_model.proofs.histories.VersionLaws.{sees_own, clock_above, clock_under}
use Rattle.op_model.proofs.answers.MadeGood.{at, full_end, end_after, end_before, Sound}
use Rattle.op_model.proofs.Elements.{each_take, each_drop, take_split}
use Rattle.op_model.specs.Anchors.{shown_cells}
use Rattle.op_model.specs.Places.{cells_from, replaced_cells}
use Rattle.op_model.specs.Laws.{LocalEditsReplaceCells}
use Rattle.op_model.proofs.texts.Replacing.{plain, lays_plain, start_count, end_count, told_length, each_facts, was_shown}
use Rattle.op_model.proofs.answers.Good.{lawful_ready}
use Rattle.op_model.proofs.answers.Counted.{lawful_counted}
use Rattle.op_model.proofs.answers.MadeGood.{sound}
use Rattle.op_model.proofs.histories.Proper.{edit_good}

-- ---- what is shown of facts

abbrev visible : Fact → Bool
visible q = q.visible

abbrev seen : List Fact → List Cell
seen s = map (λ (q : Fact). q.cell) (filter visible s)

abbrev counted : List Fact → ℕ
counted s = length (filter visible s)

seen-append : (xs ys : List Fact) → seen (xs ++ ys) ≡ seen xs ++ seen ys
seen-append xs ys = ap (map (λ (q : Fact). q.cell)) (filter-append visible xs ys) ∙ map_append (λ (q : Fact). q.cell) (filter visible xs) (filter visible ys)

counted_append : (xs ys : List Fact) → counted (xs ++ ys) ≡ counted xs + counted ys
counted_append xs ys = ap length (filter-append visible xs ys) ∙ length-append (filter visible xs) (filter visible ys)

seen-take : (n : ℕ) (s : List Fact) → seen (take n s) ≡ take (counted (take n s)) (seen s)
seen-take zero s = refl
seen-take (suc n) [] = refl
seen-take (suc n) (x ∷ s) = pick x.visible (seen-take n s)
  where
    pick : (v : Bool) → seen (take n s) ≡ take (counted (take n s)) (seen s)
        → map (λ (q : Fact). q.cell) (cond v (x ∷ filter visible (take n s)) (filter visible (take n s))) ≡ take (length (cond v (x ∷ filter visible (take n s)) (filter visible (take n s)))) (map (λ (q : Fact). q.cell) (cond v (x ∷ filter visible s) (filter visible s)))
    pick true e = ap (λ z. x.cell ∷ z) e
    pick false e = e

seen-drop : (n : ℕ) (s : List Fact) → seen (drop n s) ≡ drop (counted (take n s)) (seen s)
seen-drop zero s = refl
seen-drop (suc n) [] = refl
seen-drop (suc n) (x ∷ s) = pick x.visible (seen-drop n s)
  where
    pick : (v : Bool) → seen (drop n s) ≡ drop (counted (take n s)) (seen s)
        → seen (drop n s) ≡ drop (length (cond v (x ∷ filter visible (take n s)) (filter visible (take n s)))) (map (λ (q : Fact). q.cell) (cond v (x ∷ filter visible s) (filter visible s)))
    pick true e = e
    pick false e = e

seen-slice : (s : List Fact) (x y : ℕ) → x ≤ y → seen (slice_range s x y) ≡ slice_range (seen s) (counted (take x s)) (counted (take y s))
seen-slice s x y h =
    let c : counted (take y s) ≡ counted (take x s) + counted (slice_range s x y) = ap counted (take_split s x y h) ∙ counted_append (take x s) (slice_range s x y) in
    let n : counted (slice_range s x y) ≡ counted (take y s) - counted (take x s) = omega arith in
    seen-take (y - x) (drop x s) ∙ ap (λ (k : ℕ). take k (seen (drop x s))) n ∙ ap (take (counted (take y s) - counted (take x s))) (seen-drop x s)

seen-new : (op : Operation) (k n : ℕ) → seen (alike (stamp_of op) k n true []) ≡ cells_from op k n
seen-new op k zero = refl
seen-new op k (suc n) = ap (λ z. record { stamp = stamp_of op; k = k } ∷ z) (seen-new op (suc k) n)

seen-marked : (m : Marking) (s : List Fact) → AllByRecursion (λ (q : Fact). m.visible q.cell.stamp q.visible q.deletions ≡ false) s → seen (map (mark m) s) ≡ []
seen-marked m [] e = refl
seen-marked m (q ∷ s) e = rw e.0 (seen-marked m s e.1)

-- the shown cells, by the facts of all
told_cells : (h : History) (s : List Cell) → seen (map (fact h) s) ≡ filter (shows h) s
told_cells h [] = refl
told_cells h (c ∷ s) = pick (shows h c) (told_cells h s)
  where
    pick : (v : Bool) → seen (map (fact h) s) ≡ filter (shows h) s
        → map (λ (q : Fact). q.cell) (cond v (fact h c ∷ filter visible (map (fact h) s)) (filter visible (map (fact h) s))) ≡ cond v (c ∷ filter (shows h) s) (filter (shows h) s)
    pick true e = ap (λ z. c ∷ z) e
    pick false e = e

module _ (h : History) (op : Operation) (keep : Lamport → Bool) (m : Marking) (hit : ℕ → Bool)
    (pass : AllByRecursion (λ (q : Fact). keep q.cell.stamp ≡ true) (cell_facts h)) (low : AllByRecursion (λ (q : Fact). later q.cell.stamp (stamp_of op) ≡ false) (cell_facts h)) (self : later (stamp_of op) (stamp_of op) ≡ false)
    (hides : AllByRecursion (λ (q : Fact). m.visible q.cell.stamp q.visible q.deletions ≡ false) (cell_facts h)) where
  plain_cells : (from so k : ℕ) (ps : List Piece) → counted (take from (cell_facts h)) ≡ so → Ordered so (length (text h)) ps → ((q : ℕ) → so ≤ q → from ≤ at h q)
      → seen (plain keep (stamp_of op) m hit (cell_facts h) pass low self from k (map (full_piece h) ps)) ≡ replaced_cells op so k ps (seen (cell_facts h))
  plain_cells from so k [] c o f = seen-drop from (cell_facts h) ∙ ap (λ (x : ℕ). drop x (seen (cell_facts h))) c
  plain_cells from so k (p ∷ ps) c o f =
      let s0 : List Fact = cell_facts h in
      let b : Cell → ℕ = (λ c. 0) in
      let o0 = o.0 in
      let o1 = o.1 in
      let le : p.end ≤ length (text h) = ordered_le p.end (length (text h)) ps o.2 in
      let x : ℕ = at h p.start in
      let y : ℕ = full_end h p.start p.end in
      let cx : counted (take x s0) ≡ p.start = start_count h b p.start (omega arith) in
      let cy : counted (take y s0) ≡ p.end = end_count h b p.start p.end o1 le in
      let rest : List Fact = plain keep (stamp_of op) m hit s0 pass low self y (k + length p.text) (map (full_piece h) ps) in
      let gone : List Fact = map (mark m) (slice_range s0 x y) in
      let new : List Fact = alike (stamp_of op) k (length p.text) true [] in
      let ih : seen rest ≡ replaced_cells op p.end (k + length p.text) ps (seen s0) = plain_cells y p.end (k + length p.text) ps cy o.2 (λ q l. end_before h p.start p.end q o1 le l) in
      let a1 : seen (slice_range s0 from x) ≡ slice_range (seen s0) so p.start = seen-slice s0 from x (f p.start o0) ∙ two (seen s0) (counted (take from s0)) so (counted (take x s0)) p.start c cx in
      let a2 : seen new ≡ cells_from op k (length p.text) = seen-new op k (length p.text) in
      let a3 : seen gone ≡ [] = seen-marked m (slice_range s0 x y)
      (each_take (λ (q : Fact). m.visible q.cell.stamp q.visible q.deletions ≡ false) (y - x) (drop x s0) (each_drop (λ (q : Fact). m.visible q.cell.stamp q.visible q.deletions ≡ false) x s0 hides)) in
      seen-append (slice_range s0 from x) (new ++ (gone ++ rest))
      ∙ ap (λ (z : List Cell). z ++ seen (new ++ (gone ++ rest))) a1
      ∙ ap (λ (z : List Cell). slice_range (seen s0) so p.start ++ z) (seen-append new (gone ++ rest)
      ∙ ap (λ (z : List Cell). z ++ seen (gone ++ rest)) a2
      ∙ ap (λ (z : List Cell). cells_from op k (length p.text) ++ z) (seen-append gone rest ∙ ap (λ (z : List Cell). z ++ seen rest) a3 ∙ ih))
    where
      two : (s : List Cell) (i j k l : ℕ) → i ≡ j → k ≡ l → slice_range s i k ≡ slice_range s j l
      two s i j k l e g = rw (e, g) refl

replaced_seen : (h : History) (r : ℕ) (ps : List Piece) → Ready h → Counted h → Sound h ps → answer h [] (local_edit h r ps) ≡ Good → shown_cells (h ++ local_edit h r ps ∷ []) ≡ replaced_cells (local_edit h r ps) 0 0 ps (shown_cells h)
unfolding local_edit
replaced_seen h r ps rd ct so g =
    let op : Operation = local_edit h r ps in
    let h2 : History = h ++ op ∷ [] in
    let t : Lamport = stamp_of op in
    let k = checked_of h op g in
    let f : Fits h op = fits_of h op rd.0 k.0 k.1 in
    let more = good_more h op rd g in
    let v : Lamport → Bool = sees (version h) in
    let m : Marking = edit_marking t (kept_history v (newest_first h)) (version h) in
    let ps2 : List Piece = map (full_piece h) ps in
    let all : (o : Operation) → In h o → v (stamp_of o) ≡ true = λ o i. sees_own h o i in
    let past = (clock_above 1 h (clock_under h so.open_clock)).1 in
    let pass : AllByRecursion (λ (q : Fact). v q.cell.stamp ≡ true) (cell_facts h) = each_facts h (λ (q : Fact). v q.cell.stamp ≡ true) (λ c w. subst (λ (x : Lamport). v x ≡ true) (sym w.2) (all w.0 ((newest_same h w.0).0 w.1))) in
    let low : AllByRecursion (λ (q : Fact). later q.cell.stamp t ≡ false) (cell_facts h) = each_facts h (λ (q : Fact). later q.cell.stamp t ≡ false)
    (λ c w. subst (λ (x : Lamport). later x t ≡ false) (sym w.2) (one_way t (stamp_of w.0) (later_of t (stamp_of w.0) (each_in (λ (o : Operation). (stamp_of o).value < clock h) h w.0 past ((newest_same h w.0).0 w.1))))) in
    let hides : AllByRecursion (λ (q : Fact). m.visible q.cell.stamp q.visible q.deletions ≡ false) (cell_facts h) = each_facts h (λ (q : Fact). m.visible q.cell.stamp q.visible q.deletions ≡ false)
    (λ c w. ap (λ (x : Bool). cond x false (shows h c)) (was_shown h op f all c) ∙ pick (shows h c)) in
    let self = later_irrefl t in
    let len : length (cell_facts h) ≡ length (cells (seq h)) = told_length h (cells (seq h)) in
    let o2 : Ordered 0 (length (cell_facts h)) ps2 = full_ordered 0 0 ps so.ordered (λ q l. omega arith) len in
    let told2 : cell_facts h2 ≡ lay_facts v t 0 0 ps2 (marks m v (in_pieces ps2) 0 (cell_facts h)) = edit_told h op f (newest_desc h rd.0.distinct) refl (uncounted_new h t ct k.0.new) more.1 in
    let laid = lays_plain v t m (in_pieces ps2) (cell_facts h) pass low self 0 0 ps2 o2 (λ i x. refl) in
    sym (told_cells h2 (cells (seq h2))) ∙ ap seen (told2 ∙ laid) ∙ plain_cells h op v m (in_pieces ps2) pass low self hides 0 0 0 ps refl so.ordered (λ q l. omega arith) ∙ ap (replaced_cells op 0 0 ps) (told_cells h (cells (seq h)))
  where
    pick : (x : Bool) → cond x false x ≡ false
    pick true = refl
    pick false = refl

    full_ordered : (from so : ℕ) (qs : List Piece) → Ordered so (length (text h)) qs → ((q : ℕ) → so ≤ q → from ≤ at h q) → length (cell_facts h) ≡ length (cells (seq h)) → Ordered from (length (cell_facts h)) (map (full_piece h) qs)
    full_ordered from so [] o f l = (let a = f (length (text h)) o in let c = offset_length (shows h) (cells (seq h)) (length (text h)) in omega arith)
    full_ordered from so (p ∷ qs) o f l = (f p.start o.0, end_after h p.start p.end o.1, full_ordered (full_end h p.start p.end) p.end qs o.2 (λ q k. end_before h p.start p.end q o.1 (ordered_le p.end (length (text h)) qs o.2) k) l)

pub cells_replaced : LocalEditsReplaceCells
cells_replaced l h r ps w e i f = replaced_seen h r ps (lawful_ready h w) (lawful_counted h w) (sound l h ps f) (edit_good l h r ps w e i f).0
