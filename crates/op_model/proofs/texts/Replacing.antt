-- The text after a local edit is the old one with each range replaced.
use Rattle.std.proofs.Common.{◌≡◌, ℕ, zero, suc, ◌+◌, ◌-◌, ◌<◌, ◌≤◌, Bool, List, [], ◌∷◌, ◌++◌, length, map, take, drop, get_or, refl, sym, ◌∙◌, ap, subst, inl, inr, true, false, cond, not, ◌&&◌, eqb, ltb, leb, arith, append_assoc}
use Rattle.std.proofs.lemmas.List.Elements.{filter-append}
use Rattle.std.specs.Prelude.{slice_range}
use Rattle.std.proofs.lemmas.List.Folds.{drop_split}
use Rattle.std.specs.List.{AllByRecursion, filter}
use Rattle.std.proofs.lemmas.Bool.{cases_Bool, eqb-true, or_left}
use Rattle.std.proofs.lemmas.List.{length-append, map-append as map_append, length-take-le, length-drop}
use Rattle.lamport_clock.specs.declared.stamp.Lamport.{Lamport}
use Rattle.lamport_clock.specs.Stamps.{later}
use Rattle.lamport_clock.specs.Versions.{sees}
use Rattle.lamport_clock.proofs.Later.{later_irrefl, one_way, later_of}
use Rattle.op_model.specs.declared.operation.Piece.{Piece}
use Rattle.op_model.specs.declared.operation.Operation.{Operation}
use Rattle.op_model.specs.Operations.{stamp_of, version_of, pieces_of}
use Rattle.op_model.specs.Histories.{History, In, Distinct, version, clock, kept_history, newest_first}
use Rattle.op_model.specs.Edits.{replaced_from, replace_ranges}
use Rattle.op_model.specs.Cells.{Cell, PathCell, everything, seq_where, seq, cells}
use Rattle.op_model.specs.Shown.{texts, in_pieces, is_undone, are_undone, visible_by, shows_where, shows, deleters_where, deleters, text}
use Rattle.op_model.specs.Facts.{Fact, fact, cell_facts, alike, Marking, edit_marking, was_visible, lay_facts, mark, marks}
use Rattle.op_model.specs.Walked.{Ordered}
use Rattle.op_model.specs.Made.{full_piece, local_edit}
use Rattle.op_model.specs.Answers.{answer}
use Rattle.op_model.specs.Answers.Answer.{Good}
use Rattle.op_model.proofs.order.Restricted.{Agree}
use Rattle.op_model.proofs.order.SameSets.{newest_desc, newest_same, each_in}
use Rattle.op_model.proofs.histories.Lawful.{each_of_in}
use Rattle.op_model.proofs.histories.OneMore.{Fits}
use Rattle.op_model.proofs.shown.Parts.{deleters_agree, kept_agree}
use Rattle.op_model.proofs.answers.Good.{Ready, good_more, checked_of, fits_of}
use Rattle.op_model.proofs.shown.Facts.{From, from_after, from_down, Stops, step_kept, step_piece, marks_none}
use Rattle.op_model.proofs.shown.Deletions.{deleters_restrict}
use Rattle.op_model.proofs.shown.EditTold.{edit_told}
use Rattle.op_model.proofs.answers.Counted.{Counted, uncounted_new}
use Rattle.op_model.proofs.order.CellsOnce.{From as CellFrom, all_from}
use Rattle.op_model.proofs.shown.Walking.{out_of, inside_piece, past_piece, from_ordered, ordered_le}
use Rattle.op_model.proofs.texts.FullOffsets.{number, offset_count, offset_next, offset_length}
use Rattle.op_model.proofs.texts.Utf8Runs.{bytes}
use Rattle.op_model.proofs.texts.WholeTexts.{byte_of, text_told, bytes_told, same_bytes, new_text, byte_is, in_last}
use Rattle.op_model.proofs.histories.VersionLaws.{sees_own, clock_above, clock_under}
use Rattle.op_model.proofs.answers.MadeGood.{at, full_end, end_after, end_before, text_number, Sound}
use Rattle.op_model.proofs.Elements.{each_take, each_drop, or_no, less_than, take_split}

-- ---- what is shown of facts

module _ (b : Cell → ℕ) where
  abbrev visible : Fact → Bool
  visible q = q.visible

  abbrev pub visible_text : List Fact → List ℕ
  visible_text s = bytes b (filter visible s)

  abbrev pub count : List Fact → ℕ
  count s = length (filter visible s)

  visible_text-append : (xs ys : List Fact) → visible_text (xs ++ ys) ≡ visible_text xs ++ visible_text ys
  visible_text-append xs ys = ap (bytes b) (filter-append visible xs ys) ∙ map_append (λ (q : Fact). b q.cell) (filter visible xs) (filter visible ys)

  count_append : (xs ys : List Fact) → count (xs ++ ys) ≡ count xs + count ys
  count_append xs ys = ap length (filter-append visible xs ys) ∙ length-append (filter visible xs) (filter visible ys)

  visible_text-take : (n : ℕ) (s : List Fact) → visible_text (take n s) ≡ take (count (take n s)) (visible_text s)
  visible_text-take zero s = refl
  visible_text-take (suc n) [] = refl
  visible_text-take (suc n) (x ∷ s) = pick x.visible (visible_text-take n s)
    where
      pick : (v : Bool) → visible_text (take n s) ≡ take (count (take n s)) (visible_text s)
          → bytes b (cond v (x ∷ filter visible (take n s)) (filter visible (take n s))) ≡ take (length (cond v (x ∷ filter visible (take n s)) (filter visible (take n s)))) (bytes b (cond v (x ∷ filter visible s) (filter visible s)))
      pick true e = ap (λ z. b x.cell ∷ z) e
      pick false e = e

  visible_text-drop : (n : ℕ) (s : List Fact) → visible_text (drop n s) ≡ drop (count (take n s)) (visible_text s)
  visible_text-drop zero s = refl
  visible_text-drop (suc n) [] = refl
  visible_text-drop (suc n) (x ∷ s) = pick x.visible (visible_text-drop n s)
    where
      pick : (v : Bool) → visible_text (drop n s) ≡ drop (count (take n s)) (visible_text s)
          → visible_text (drop n s) ≡ drop (length (cond v (x ∷ filter visible (take n s)) (filter visible (take n s)))) (bytes b (cond v (x ∷ filter visible s) (filter visible s)))
      pick true e = e
      pick false e = e

  visible_text-slice : (s : List Fact) (x y : ℕ) → x ≤ y → visible_text (slice_range s x y) ≡ slice_range (visible_text s) (count (take x s)) (count (take y s))
  visible_text-slice s x y h =
      let c : count (take y s) ≡ count (take x s) + count (slice_range s x y) = ap count (take_split s x y h) ∙ count_append (take x s) (slice_range s x y) in
      let n : count (slice_range s x y) ≡ count (take y s) - count (take x s) = omega arith in
      visible_text-take (y - x) (drop x s) ∙ ap (λ (k : ℕ). take k (visible_text (drop x s))) n ∙ ap (take (count (take y s) - count (take x s))) (visible_text-drop x s)

  visible_text-new : (t : Lamport) (k n : ℕ) → visible_text (alike t k n true []) ≡ bytes b (alike t k n true [])
  visible_text-new t k zero = refl
  visible_text-new t k (suc n) = ap (λ z. b (record { stamp = t; k = k }) ∷ z) (visible_text-new t (suc k) n)

  abbrev Hides : Marking → Fact → Type 0
  Hides m q = m.visible q.cell.stamp q.visible q.deletions ≡ false

  visible_text-marked : (m : Marking) (s : List Fact) → AllByRecursion (Hides m) s → visible_text (map (mark m) s) ≡ []
  visible_text-marked m [] e = refl
  visible_text-marked m (q ∷ s) e = rw e.0 (visible_text-marked m s e.1)

-- ---- laying in where all cells pass and none is later
module _ (keep : Lamport → Bool) (t : Lamport) (m : Marking) (hit : ℕ → Bool) where
  abbrev touch : Bool → Fact → Fact
  touch b q = cond b (mark m q) q

  touch_none : (s : List Fact) → map (touch false) s ≡ s
  touch_none [] = refl
  touch_none (q ∷ s) = ap (λ z. q ∷ z) (touch_none s)

  over : (b : Bool) (a r : List Fact) (from k to : ℕ) (ps : List Piece) → from + length a ≡ to → AllByRecursion (λ (q : Fact). keep q.cell.stamp ≡ true) a → From to ps
      → ((i : ℕ) → from ≤ i → i < to → hit i ≡ b)
      → lay_facts keep t from k ps (marks m keep hit from (a ++ r)) ≡ map (touch b) a ++ lay_facts keep t to k ps (marks m keep hit to r)
  over b [] r from k to ps e p f h = let g : from ≡ to = omega arith in ap (λ (x : ℕ). lay_facts keep t x k ps (marks m keep hit x r)) g
  over b (q ∷ a) r from k to ps e p f h = rw (p.0, h from (omega arith) (omega arith)) (
      step_kept keep t from k ps (touch b q) (marks m keep hit (suc from) (a ++ r)) (same b) (from_after from to ps (omega arith) f)
      ∙ ap (λ z. touch b q ∷ z) (over b a r (suc from) k to ps (omega arith) p.1 f (λ i x y. h i (omega arith) y)))
    where
      same : (c : Bool) → keep (touch c q).cell.stamp ≡ true
      same true = p.0
      same false = p.0

  stops : (from : ℕ) (s : List Fact) → AllByRecursion (λ (q : Fact). later q.cell.stamp t ≡ false) s → Stops t (marks m keep hit from s)
  stops from [] e = tt
  stops from (q ∷ s) e = elim (cases_Bool (keep q.cell.stamp)) [ inl h ↦ rw h (pick (hit from)) | inr h ↦ rw h e.0 ]
    where
      pick : (b : Bool) → later (cond b (mark m q) q).cell.stamp t ≡ false
      pick true = e.0
      pick false = e.0

  module _ (s0 : List Fact) (pass : AllByRecursion (λ (q : Fact). keep q.cell.stamp ≡ true) s0) (low : AllByRecursion (λ (q : Fact). later q.cell.stamp t ≡ false) s0) (self : later t t ≡ false) where
    abbrev pub plain : ℕ → ℕ → List Piece → List Fact
    plain from k [] = drop from s0
    plain from k (p ∷ ps) = slice_range s0 from p.start ++ (alike t k (length p.text) true [] ++ (map (mark m) (slice_range s0 p.start p.end) ++ plain p.end (k + length p.text) ps))

    slice_length : (x y : ℕ) → x ≤ y → y ≤ length s0 → x + length (slice_range s0 x y) ≡ y
    slice_length x y h l = let e = length-drop x s0 in let g = length-take-le (y - x) (drop x s0) (omega arith) in omega arith

    slice_pass : (x y : ℕ) → AllByRecursion (λ (q : Fact). keep q.cell.stamp ≡ true) (slice_range s0 x y)
    slice_pass x y = each_take (λ (q : Fact). keep q.cell.stamp ≡ true) (y - x) (drop x s0) (each_drop (λ (q : Fact). keep q.cell.stamp ≡ true) x s0 pass)

    pub lays_plain : (from k : ℕ) (ps : List Piece) → Ordered from (length s0) ps → ((i : ℕ) → from ≤ i → hit i ≡ in_pieces ps i)
        → lay_facts keep t from k ps (marks m keep hit from (drop from s0)) ≡ plain from k ps
    lays_plain from k [] o h = marks_none keep t m hit from (drop from s0) h
    lays_plain from k (p ∷ ps) o h =
        let o0 = o.0 in
        let o1 = o.1 in
        let e = ordered_le p.end (length s0) ps o.2 in
        let f : From p.end ps = from_ordered p.end (length s0) ps o.2 in
        let g : From p.start (p ∷ ps) = (omega arith, from_down p.start p.end ps o1 f) in
        let s1 = over false (slice_range s0 from p.start) (drop p.start s0) from k p.start (p ∷ ps) (slice_length from p.start o0 (omega arith)) (slice_pass from p.start) g
        (λ i x y. h i x ∙ out_of i p.start (p ∷ ps) y g) in
        let s2 = step_piece keep t p.start k p ps (marks m keep hit p.start (drop p.start s0)) refl self (stops p.start (drop p.start s0) (each_drop (λ (q : Fact). later q.cell.stamp t ≡ false) p.start s0 low)) in
        let s3 = over true (slice_range s0 p.start p.end) (drop p.end s0) p.start (k + length p.text) p.end ps (slice_length p.start p.end o1 e) (slice_pass p.start p.end) f
        (λ i x y. h i (omega arith) ∙ or_left (leb p.start i && ltb i p.end) (in_pieces ps i) (inside_piece i p.start p.end x y)) in
        let s4 = lays_plain p.end (k + length p.text) ps o.2 (λ i x. h i (omega arith) ∙ or_no (leb p.start i && ltb i p.end) (in_pieces ps i) (past_piece i p.start p.end x)) in
        ap (λ (z : List Fact). lay_facts keep t from k (p ∷ ps) (marks m keep hit from z)) (drop_split s0 from p.start o0)
        ∙ s1 ∙ ap (λ (z : List Fact). z ++ lay_facts keep t p.start k (p ∷ ps) (marks m keep hit p.start (drop p.start s0))) (touch_none (slice_range s0 from p.start))
        ∙ ap (λ (z : List Fact). slice_range s0 from p.start ++ z) (s2 ∙ ap (λ (z : List Fact). alike t k (length p.text) true [] ++ z)
        (ap (λ (z : List Fact). lay_facts keep t p.start (k + length p.text) ps (marks m keep hit p.start z)) (drop_split s0 p.start p.end o1) ∙ s3 ∙ ap (λ (z : List Fact). map (mark m) (slice_range s0 p.start p.end) ++ z) s4))

-- ---- the text after a local edit
count_cells : (h : History) (n : ℕ) (s : List Cell) → length (filter (λ (q : Fact). q.visible) (take n (map (fact h) s))) ≡ number (shows h) (take n s)
count_cells h zero s = refl
count_cells h (suc n) [] = refl
count_cells h (suc n) (c ∷ s) = pick (shows h c) (count_cells h n s)
  where
    pick : (v : Bool) → length (filter (λ (q : Fact). q.visible) (take n (map (fact h) s))) ≡ number (shows h) (take n s)
        → length (cond v (fact h c ∷ filter (λ (q : Fact). q.visible) (take n (map (fact h) s))) (filter (λ (q : Fact). q.visible) (take n (map (fact h) s))))
        ≡ length (cond v (c ∷ filter (shows h) (take n s)) (filter (shows h) (take n s)))
    pick true e = ap suc e
    pick false e = e

pub told_length : (h : History) (s : List Cell) → length (map (fact h) s) ≡ length s
told_length h [] = refl
told_length h (c ∷ s) = ap suc (told_length h s)

module _ (h : History) where
  pub start_count : (b : Cell → ℕ) (o : ℕ) → o ≤ length (text h) → count b (take (at h o) (cell_facts h)) ≡ o
  start_count b o l = let n = text_number h in count_cells h (at h o) (cells (seq h)) ∙ offset_count (shows h) (cells (seq h)) o (omega arith)

  pub end_count : (b : Cell → ℕ) (s e : ℕ) → s ≤ e → e ≤ length (text h) → count b (take (full_end h s e) (cell_facts h)) ≡ e
  end_count b s e l g = elim (cases_Bool (eqb s e)) [
    | inl q ↦ rw q (start_count b s (omega arith) ∙ eqb-true s e q)
    | inr q ↦ (let a : s < e = less_than s e l q in let n = text_number h in
        let k : suc (e - 1) ≡ e = omega arith in rw q (count_cells h (suc (at h (e - 1))) (cells (seq h)) ∙ offset_next (shows h) (cells (seq h)) (e - 1) (omega arith) ∙ k))
  ]

  -- the new texts are those of the pieces
  pub NewTexts : (Cell → ℕ) → Lamport → ℕ → List Piece → Type 0
  NewTexts b t k [] = Unit {0}
  NewTexts b t k (p ∷ ps) = (bytes b (alike t k (length p.text) true []) ≡ p.text) × NewTexts b t (k + length p.text) ps

  pub new_texts : (b : Cell → ℕ) (t : Lamport) (whole : List ℕ) → ((k : ℕ) → b (record { stamp = t; k = k }) ≡ get_or whole k 0)
      → (pre : List ℕ) (ps : List Piece) (k : ℕ) → whole ≡ pre ++ texts ps → k ≡ length pre → NewTexts b t k ps
  unfolding NewTexts
  new_texts b t whole g pre [] k e l = tt
  new_texts b t whole g pre (p ∷ ps) k e l =
      let n : length (pre ++ p.text) ≡ length pre + length p.text = length-append pre p.text in (
        new_text b t whole g pre p.text (texts ps) k e l,
        new_texts b t whole g (pre ++ p.text) ps (k + length p.text) (e ∙ sym (append_assoc pre p.text (texts ps))) (omega arith),
      )

  pub texts_full : (ps : List Piece) → texts (map (full_piece h) ps) ≡ texts ps
  texts_full [] = refl
  texts_full (p ∷ ps) = ap (λ (z : List ℕ). p.text ++ z) (texts_full ps)

  module _ (b : Cell → ℕ) (keep : Lamport → Bool) (t : Lamport) (m : Marking) (hit : ℕ → Bool)
      (pass : AllByRecursion (λ (q : Fact). keep q.cell.stamp ≡ true) (cell_facts h)) (low : AllByRecursion (λ (q : Fact). later q.cell.stamp t ≡ false) (cell_facts h)) (self : later t t ≡ false)
      (hides : AllByRecursion (λ (q : Fact). m.visible q.cell.stamp q.visible q.deletions ≡ false) (cell_facts h)) where
    pub plain_text : (from so k : ℕ) (ps : List Piece) → count b (take from (cell_facts h)) ≡ so → Ordered so (length (text h)) ps → NewTexts b t k ps → ((q : ℕ) → so ≤ q → from ≤ at h q)
        → visible_text b (plain keep t m hit (cell_facts h) pass low self from k (map (full_piece h) ps)) ≡ replaced_from so ps (visible_text b (cell_facts h))
    unfolding NewTexts
    plain_text from so k [] c o n f = visible_text-drop b from (cell_facts h) ∙ ap (λ (x : ℕ). drop x (visible_text b (cell_facts h))) c
    plain_text from so k (p ∷ ps) c o n f =
        let s0 : List Fact = cell_facts h in
        let o0 = o.0 in
        let o1 = o.1 in
        let le : p.end ≤ length (text h) = ordered_le p.end (length (text h)) ps o.2 in
        let x : ℕ = at h p.start in
        let y : ℕ = full_end h p.start p.end in
        let cx : count b (take x s0) ≡ p.start = start_count b p.start (omega arith) in
        let cy : count b (take y s0) ≡ p.end = end_count b p.start p.end o1 le in
        let rest : List Fact = plain keep t m hit s0 pass low self y (k + length p.text) (map (full_piece h) ps) in
        let gone : List Fact = map (mark m) (slice_range s0 x y) in
        let ih : visible_text b rest ≡ replaced_from p.end ps (visible_text b s0) = plain_text y p.end (k + length p.text) ps cy o.2 n.1 (λ q l. end_before h p.start p.end q o1 le l) in
        let a1 : visible_text b (slice_range s0 from x) ≡ slice_range (visible_text b s0) so p.start = visible_text-slice b s0 from x (f p.start o0) ∙ two (visible_text b s0) (count b (take from s0)) so (count b (take x s0)) p.start c cx in
        let a2 : visible_text b (alike t k (length p.text) true []) ≡ p.text = visible_text-new b t k (length p.text) ∙ n.0 in
        let a3 : visible_text b gone ≡ [] = visible_text-marked b m (slice_range s0 x y)
        (each_take (λ (q : Fact). m.visible q.cell.stamp q.visible q.deletions ≡ false) (y - x) (drop x s0) (each_drop (λ (q : Fact). m.visible q.cell.stamp q.visible q.deletions ≡ false) x s0 hides)) in
        visible_text-append b (slice_range s0 from x) (alike t k (length p.text) true [] ++ (gone ++ rest))
        ∙ ap (λ (z : List ℕ). z ++ visible_text b (alike t k (length p.text) true [] ++ (gone ++ rest))) a1
        ∙ ap (λ (z : List ℕ). slice_range (visible_text b s0) so p.start ++ z) (visible_text-append b (alike t k (length p.text) true []) (gone ++ rest)
        ∙ ap (λ (z : List ℕ). z ++ visible_text b (gone ++ rest)) a2
        ∙ ap (λ (z : List ℕ). p.text ++ z) (visible_text-append b gone rest ∙ ap (λ (z : List ℕ). z ++ visible_text b rest) a3 ∙ ih))
      where
        two : (s : List ℕ) (i j k l : ℕ) → i ≡ j → k ≡ l → slice_range s i k ≡ slice_range s j l
        two s i j k l e g = rw (e, g) refl

pub each_facts : (h : History) (P : Fact → Type 0) → ((c : Cell) → (o : Operation) × In (newest_first h) o × (c.stamp ≡ stamp_of o) × (c.k < length (texts (pieces_of o))) → P (fact h c)) → AllByRecursion P (cell_facts h)
unfolding seq
each_facts h P f = go (seq_where everything (newest_first h)) (all_from (newest_first h))
  where
    go : (s : List PathCell) → AllByRecursion (CellFrom (newest_first h)) s → AllByRecursion P (map (fact h) (cells s))
    go [] e = tt
    go (p ∷ s) e = (f p.cell e.0, go s e.1)

-- what a version that sees all of h has seen of a cell is whether it is shown
pub was_shown : (h : History) (op : Operation) → Fits h op → ((o : Operation) → In h o → sees (version_of op) (stamp_of o) ≡ true) → (c : Cell)
    → was_visible (kept_history (sees (version_of op)) (newest_first h)) (version_of op) c.stamp (deleters h c) ≡ shows h c
unfolding shows shows_where
was_shown h op f s c =
    let d : History = newest_first h in
    let v : Lamport → Bool = sees (version_of op) in
    let g : Agree v everything d = each_of_in (λ (o : Operation). v (stamp_of o) ≡ true) d (λ o i. s o ((newest_same h o).0 i)) in
    let k : kept_history v d ≡ kept_history everything d = kept_agree v everything d g in
    let e : filter v (deleters_where everything d c) ≡ deleters_where everything d c = deleters_restrict v d c f.closed ∙ deleters_agree v everything d c g in
    ap (λ (x : List Lamport). not (is_undone (kept_history v d) c.stamp) && are_undone (kept_history v d) x) e ∙ ap (λ (x : History). visible_by x c.stamp (deleters_where everything d c)) k

each_shown : (P : Fact → Type 0) (s : List Fact) → AllByRecursion P s → AllByRecursion P (filter (λ (q : Fact). q.visible) s)
each_shown P [] e = tt
each_shown P (q ∷ s) e = elim q.visible as (λ v. AllByRecursion P (cond v (q ∷ filter (λ (x : Fact). x.visible) s) (filter (λ (x : Fact). x.visible) s))) [ true ↦ (e.0, each_shown P s e.1) | false ↦ each_shown P s e.1 ]

pub replaced_text : (h : History) (r : ℕ) (ps : List Piece) → Ready h → Counted h → Sound h ps → answer h [] (local_edit h r ps) ≡ Good → text (h ++ local_edit h r ps ∷ []) ≡ replace_ranges ps (text h)
unfolding local_edit
replaced_text h r ps rd ct so g =
    let op : Operation = local_edit h r ps in
    let h2 : History = h ++ op ∷ [] in
    let b : Cell → ℕ = byte_of h2 in
    let t : Lamport = stamp_of op in
    let k = checked_of h op g in
    let f : Fits h op = fits_of h op rd.0 k.0 k.1 in
    let more = good_more h op rd g in
    let d2 : Distinct h2 = more.0.0.distinct in
    let v : Lamport → Bool = sees (version h) in
    let m : Marking = edit_marking t (kept_history v (newest_first h)) (version h) in
    let ps2 : List Piece = map (full_piece h) ps in
    let all : (o : Operation) → In h o → v (stamp_of o) ≡ true = λ o i. sees_own h o i in
    let past = (clock_above 1 h (clock_under h so.open_clock)).1 in
    let pass : AllByRecursion (λ (q : Fact). v q.cell.stamp ≡ true) (cell_facts h) = each_facts h (λ (q : Fact). v q.cell.stamp ≡ true) (λ c w. subst (λ (x : Lamport). v x ≡ true) (sym w.2) (all w.0 ((newest_same h w.0).0 w.1))) in
    let low : AllByRecursion (λ (q : Fact). later q.cell.stamp t ≡ false) (cell_facts h) = each_facts h (λ (q : Fact). later q.cell.stamp t ≡ false)
    (λ c w. subst (λ (x : Lamport). later x t ≡ false) (sym w.2) (one_way t (stamp_of w.0) (later_of t (stamp_of w.0) (each_in (λ (o : Operation). (stamp_of o).value < clock h) h w.0 past ((newest_same h w.0).0 w.1))))) in
    let hides : AllByRecursion (λ (q : Fact). m.visible q.cell.stamp q.visible q.deletions ≡ false) (cell_facts h) = each_facts h (λ (q : Fact). m.visible q.cell.stamp q.visible q.deletions ≡ false)
    (λ c w. ap (λ (x : Bool). cond x false (shows h c)) (was_shown h op f all c) ∙ pick (shows h c)) in
    let self = later_irrefl t in
    let len : length (cell_facts h) ≡ length (cells (seq h)) = told_length h (cells (seq h)) in
    let o2 : Ordered 0 (length (cell_facts h)) ps2 = full_ordered 0 0 ps so.ordered (λ q l. omega arith) len in
    let told2 : cell_facts h2 ≡ lay_facts v t 0 0 ps2 (marks m v (in_pieces ps2) 0 (cell_facts h)) = edit_told h op f (newest_desc h rd.0.distinct) refl (uncounted_new h t ct k.0.new) more.1 in
    let laid = lays_plain v t m (in_pieces ps2) (cell_facts h) pass low self 0 0 ps2 o2 (λ i x. refl) in
    let tx : NewTexts h b t 0 ps = new_texts h b t (texts ps2) (λ n. byte_is h2 d2 op (in_last h op) n) [] ps 0 (texts_full h ps) refl in
    let shown_old : visible_text b (cell_facts h) ≡ text h =
    sym (text_told h ∙ same_bytes (byte_of h) b (filter (λ (q : Fact). q.visible) (cell_facts h)) (each_shown (λ (q : Fact). byte_of h q.cell ≡ b q.cell) (cell_facts h) (bytes_told h op rd.0.distinct d2))) in
    text_told h2 ∙ ap (visible_text b) (told2 ∙ laid) ∙ plain_text h b v t m (in_pieces ps2) pass low self hides 0 0 0 ps refl so.ordered tx (λ q l. omega arith) ∙ ap (replaced_from 0 ps) shown_old
  where
    pick : (x : Bool) → cond x false x ≡ false
    pick true = refl
    pick false = refl

    full_ordered : (from so : ℕ) (qs : List Piece) → Ordered so (length (text h)) qs → ((q : ℕ) → so ≤ q → from ≤ at h q) → length (cell_facts h) ≡ length (cells (seq h)) → Ordered from (length (cell_facts h)) (map (full_piece h) qs)
    full_ordered from so [] o f l = (let a = f (length (text h)) o in let c = offset_length (shows h) (cells (seq h)) (length (text h)) in omega arith)
    full_ordered from so (p ∷ qs) o f l = (f p.start o.0, end_after h p.start p.end o.1, full_ordered (full_end h p.start p.end) p.end qs o.2 (λ q k. end_before h p.start p.end q o.1 (ordered_le p.end (length (text h)) qs o.2) k) l)
