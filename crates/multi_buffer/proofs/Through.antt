-- The text of all excerpts after edits of their buffers by the pieces of changes.
use Rattle.std.proofs.Common.{◌≡◌, ◌≢◌, ◌⊎◌, inl, inr, ℕ, suc, ◌+◌, ◌-◌, ◌≤◌, ◌<◌, Bool, true, false, cond, eqb, leb, List, [], ◌∷◌, ◌++◌, length, map, Option, Some, None, refl, sym, ap, ◌∙◌, subst, arith, append_assoc}
use Rattle.std.specs.Prelude.{slice_range}
use Rattle.std.specs.List.{AllByRecursion, filter}
use Rattle.std.proofs.lemmas.Bool.{cases_Bool, eqb-true, eq-eqb, ne_eqb}
use Rattle.op_model.specs.declared.endings.Endings.{Endings}
use Rattle.op_model.specs.declared.endings.Endings.TheVariants.{AsIs, Lf}
use Rattle.op_model.specs.declared.operation.Piece.{Piece}
use Rattle.op_model.specs.declared.limits.Limits.{Limits as LimitsType}
use Rattle.op_model.specs.Anchors.{place}
use Rattle.op_model.specs.Domains.{IsProper, IsReplica}
use Rattle.op_model.specs.Edits.{replaced_from, replace_ranges}
use Rattle.op_model.specs.Histories.{History}
use Rattle.op_model.specs.Lawful.{Lawful}
use Rattle.op_model.specs.Made.{local_edit, local_edit_fault}
use Rattle.op_model.specs.Rules.{pieces_under, text_under}
use Rattle.op_model.specs.Shown.{text}
use Rattle.op_model.proofs.MainLaws.{edits_are_good, local_edits_replace_cells}
use Rattle.op_model.proofs.anchors.Standing.{text_length}
use Rattle.op_model.proofs.answers.MadeGood.{sound}
use Rattle.op_model.proofs.histories.MoreLawful.{lawful_more}
use Rattle.text_buffer.specs.Buffer.{BufferState, after_edit}
use Rattle.op_model.specs.Walked.{Ordered as AreWithin}
use Rattle.multi_buffer.specs.declared.excerpt.Excerpt.{Excerpt}
use Rattle.multi_buffer.specs.declared.source.Source.{Source}
use Rattle.multi_buffer.specs.declared.parts.Part.{Part}
use Rattle.multi_buffer.specs.declared.parts.BufferPieces.{BufferPieces}
use Rattle.multi_buffer.specs.State.{MultiState, excerpt_text, history_in, history_of, lines, multi_text, put, size, source_of, IsExcerpt, IsSynced}
use Rattle.multi_buffer.specs.Calls.{after_sync, followed, followed_in}
use Rattle.multi_buffer.specs.Edits.{Buffers, MayEdit, after_edits, entered_change, entered_text}
use Rattle.multi_buffer.specs.Laws.{EditsReplace}
use Rattle.multi_buffer.specs.Splits.{first_sharing, part_of, piece_of, put_in, put_part, put_piece, sharing_of, split_from, split_of}
use Rattle.multi_buffer.proofs.Around.{after_apart, after_back, after_within, afters, are_before, sorted_within}
use Rattle.multi_buffer.proofs.Boundaries.{boundary_within}
use Rattle.multi_buffer.proofs.Faultless.{AreOrdered, split_passed, unless_none}
use Rattle.multi_buffer.proofs.Grouped.{GroupsAscend, IsClear, gathered_all, groups_put, is_after, is_before, is_own, pieces_for, pieces_put, three_parts}
use Rattle.multi_buffer.proofs.Kept.{goes, later-append}
use Rattle.multi_buffer.proofs.Lines.{each_here, excerpt_is}
use Rattle.multi_buffer.proofs.Owned.{AllIn, each_of, each_within, front, joined_are, own, own_is, own_within, rest, rests}
use Rattle.multi_buffer.proofs.Replacing.{each_replacement, later, lines_replace}
use Rattle.multi_buffer.proofs.Sourced.{source-put, source-put_other}

-- ---- changes with their texts as they enter

module _ (bs : Buffers) (xs : List Excerpt) where
  entered_ordered : (at : ℕ) (ps : List Piece) → AreOrdered at ps → AreOrdered at (map (entered_change bs xs) ps)
  entered_ordered at [] o = tt
  entered_ordered at (p ∷ ps) o = (o.0, o.1, entered_ordered p.end ps o.2)

  entered_in : (ps : List Piece) → AllIn 0 xs ps → AllIn 0 xs (map (entered_change bs xs) ps)
  entered_in [] i = tt
  entered_in (p ∷ ps) i = (i.0, entered_in ps i.1)

  abbrev pub IsAlone : Piece → Type 0
  IsAlone p = sharing_of xs (part_of xs p) ≡ None

  entered_alone : (ps : List Piece) → AllByRecursion IsAlone ps → AllByRecursion IsAlone (map (entered_change bs xs) ps)
  entered_alone [] a = tt
  entered_alone (p ∷ ps) a = (a.0, entered_alone ps a.1)

put_under : (e : Endings) (p : Piece) (qs : List Piece) → pieces_under e (put_piece p qs) ≡ put_piece (record { start = p.start; end = p.end; text = text_under e p.text }) (pieces_under e qs)
put_under AsIs p qs = refl
put_under Lf p [] = refl
put_under Lf p (q ∷ qs) = elim (cases_Bool (leb q.start p.start)) [
  | inl t ↦ rw t (ap (λ (rs : List Piece). record { start = q.start; end = q.end; text = text_under Lf q.text } ∷ rs) (put_under Lf p qs))
  | inr t ↦ rw t refl
]

under_none : (e : Endings) → pieces_under e [] ≡ []
under_none AsIs = refl
under_none Lf = refl

module _ (bs : Buffers) (xs : List Excerpt) where
  abbrev under : ℕ → List Piece → List Piece
  under b qs = pieces_under (bs b).endings qs

  abbrev AreUnder : List BufferPieces → List BufferPieces → Type 0
  AreUnder gs hs = GroupsAscend 0 gs × GroupsAscend 0 hs × ((b : ℕ) → pieces_for b hs ≡ under b (pieces_for b gs))

  under_part : (p : Piece) (o : Option Part) → part_of xs p ≡ o → (gs hs : List BufferPieces) → AreUnder gs hs → AreUnder (put_part o p gs) (put_part o (entered_change bs xs p) hs)
  under_part p None e gs hs a = a
  under_part p (Some q) e gs hs a = (
    groups_put 0 q.buffer (piece_of q p) gs (omega arith) a.0,
    groups_put 0 q.buffer (piece_of q (entered_change bs xs p)) hs (omega arith) a.1,
    each,
  )
    where
      same : piece_of q (entered_change bs xs p) ≡ record { start = q.start; end = q.end; text = text_under (bs q.buffer).endings p.text }
      same = ap (λ (z : Option Part). record { start = q.start; end = q.end; text = entered_text bs z p.text }) e

      pick : (b : ℕ) (t : Bool) → eqb q.buffer b ≡ t
          → cond t (put_piece (piece_of q (entered_change bs xs p)) (pieces_for b hs)) (pieces_for b hs) ≡ under b (cond t (put_piece (piece_of q p) (pieces_for b gs)) (pieces_for b gs))
      pick b true f =
          let n = eqb-true q.buffer b f in
          ap (λ (z : Piece). put_piece z (pieces_for b hs)) same
          ∙ ap (λ (k : ℕ). put_piece (record { start = q.start; end = q.end; text = text_under (bs k).endings p.text }) (pieces_for b hs)) n
          ∙ ap (put_piece (record { start = q.start; end = q.end; text = text_under (bs b).endings p.text })) (a.2 b)
          ∙ sym (put_under (bs b).endings (piece_of q p) (pieces_for b gs))
      pick b false f = a.2 b

      each : (b : ℕ) → pieces_for b (put_in q.buffer (piece_of q (entered_change bs xs p)) hs) ≡ under b (pieces_for b (put_in q.buffer (piece_of q p) gs))
      each b =
          pieces_put 0 b q.buffer (piece_of q (entered_change bs xs p)) hs a.1
          ∙ pick b (eqb q.buffer b) refl
          ∙ sym (ap (under b) (pieces_put 0 b q.buffer (piece_of q p) gs a.0))

  under_split : (ps : List Piece) (gs hs : List BufferPieces) → AreUnder gs hs → AreUnder (split_from xs ps gs) (split_from xs (map (entered_change bs xs) ps) hs)
  under_split [] gs hs a = a
  under_split (p ∷ ps) gs hs a = under_split ps (put_part (part_of xs p) p gs) (put_part (part_of xs p) (entered_change bs xs p) hs) (under_part p (part_of xs p) refl gs hs a)

  pub split_ascends : (ps : List Piece) → GroupsAscend 0 (split_from xs ps [])
  split_ascends ps = (under_split ps [] [] (tt, tt, λ b. sym (under_none (bs b).endings))).0

  -- the pieces of a buffer as they enter it are those of the changes with their texts as they enter
  pub split_under : (ps : List Piece) (b : ℕ) → pieces_for b (split_from xs (map (entered_change bs xs) ps) []) ≡ pieces_under (bs b).endings (pieces_for b (split_from xs ps []))
  split_under ps b = (under_split ps [] [] (tt, tt, λ b. sym (under_none (bs b).endings))).2 b

-- ---- one excerpt

module _ (l : LimitsType) (h : History) (r : ℕ) (lawful : Lawful h) (proper : AllByRecursion IsProper h) (replica : IsReplica r) (qs : List Piece) (faultless : local_edit_fault l h qs ≡ None) (x : Excerpt) (is : IsExcerpt h x) where
  abbrev later_history : History
  later_history = h ++ local_edit h r qs ∷ []

  edited_excerpt : (mine : List Piece) → AllByRecursion (IsClear x) qs → filter (is_own x) qs ≡ later x.start mine → AreWithin 0 (size x) mine
      → slice_range (text later_history) (place later_history x.left) (place later_history x.right) ≡ replaced_from 0 mine (slice_range (text h) x.start x.end)
  edited_excerpt mine clear own within =
      let good = edits_are_good l h r qs lawful proper replica faultless in
      let w : AreWithin 0 (length (text h)) qs = (sound l h qs faultless).ordered in
      let bound : x.end ≤ length (text h) = boundary_within (text h) x.end is.end in
      let z : 0 - x.end ≡ 0 = omega arith in
      let after : AreWithin 0 (length (text h) - x.end) (afters x is.order qs) = subst (λ (n : ℕ). AreWithin n (length (text h) - x.end) (afters x is.order qs)) z (after_within x is.order 0 (length (text h)) qs w) in
      let parts : qs ≡ filter (is_before x) qs ++ later x.start (mine ++ later (x.end - x.start) (afters x is.order qs)) =
      three_parts x 0 qs is.order (sorted_within 0 (length (text h)) qs w)
      ∙ ap (λ (zs : List Piece). filter (is_before x) qs ++ (zs ++ filter (is_after x) qs)) own
      ∙ ap (λ (zs : List Piece). filter (is_before x) qs ++ (later x.start mine ++ zs)) (sym (after_back x is.order 0 (length (text h)) qs w))
      ∙ ap (λ (zs : List Piece). filter (is_before x) qs ++ zs) (sym (later-append x.start mine (later (x.end - x.start) (afters x is.order qs)))) in
      goes h later_history (lawful_more h (local_edit h r qs) lawful good.0) (local_edit h r qs) qs (local_edits_replace_cells l h r qs lawful proper replica faultless) good.1 (text_length h lawful)
      x.start x.end x.left x.right is.left is.right is.order bound (filter (is_before x) qs) mine (afters x is.order qs) parts (are_before x is.order (length (text h)) qs w clear) within after (after_apart x is.order qs)

-- ---- the texts after edits and syncs

module _ (bs : Buffers) where
  abbrev history_after : BufferPieces → History
  history_after g = (after_edit (bs g.buffer) g.pieces).history

  abbrev text_between : History → Excerpt → List ℕ
  text_between h x = slice_range (text h) (place h x.left) (place h x.right)

  -- the text of an excerpt then
  abbrev text_after : List BufferPieces → List Source → Excerpt → List ℕ
  text_after [] ss x = excerpt_text ss x
  text_after (g ∷ gs) ss x = cond (eqb x.buffer g.buffer) (text_between (history_after g) x) (text_after gs ss x)

  abbrev synced_now : BufferPieces → Source
  synced_now g = record { buffer = g.buffer; snapshot = history_after g }

  later_buffer : (n : ℕ) (gs : List BufferPieces) (ss : List Source) (x : Excerpt) → x.buffer < n → GroupsAscend n gs → text_after gs ss x ≡ excerpt_text ss x
  later_buffer n [] ss x l a = refl
  later_buffer n (g ∷ gs) ss x l a =
      let m = a.0 in
      let t : eqb x.buffer g.buffer ≡ false = ne_eqb x.buffer g.buffer (λ e. omega (arith, e, l, m)) in
      rw t (later_buffer (suc g.buffer) gs ss x (omega arith) a.1)

  other_synced : (s : Source) (gs : List BufferPieces) (ss : List Source) (x : Excerpt) → x.buffer ≢ s.buffer → text_after gs (put s ss) x ≡ text_after gs ss x
  other_synced s [] ss x n = ap (λ (o : Option Source). slice_range (text (history_in o)) x.start x.end) (source-put_other x.buffer s ss n)
  other_synced s (g ∷ gs) ss x n = ap (λ (t : List ℕ). cond (eqb x.buffer g.buffer) (text_between (history_after g) x) t) (other_synced s gs ss x n)

  one_step : (g : BufferPieces) (gs : List BufferPieces) (ss : List Source) → GroupsAscend (suc g.buffer) gs → (x : Excerpt) → text_after gs (put (synced_now g) ss) (followed_in g.buffer (history_after g) x) ≡ text_after (g ∷ gs) ss x
  one_step g gs ss a x = elim (cases_Bool (eqb x.buffer g.buffer)) [
    | inl t ↦ (
        let e : x.buffer ≡ g.buffer = eqb-true x.buffer g.buffer t in
        let y : Excerpt = followed (history_after g) x in
        let found : source_of x.buffer (put (synced_now g) ss) ≡ Some (synced_now g) = ap (λ (b : ℕ). source_of b (put (synced_now g) ss)) e ∙ source-put (synced_now g) ss in
        rw t (later_buffer (suc g.buffer) gs (put (synced_now g) ss) y (omega (arith, e)) a ∙ ap (λ (o : Option Source). slice_range (text (history_in o)) y.start y.end) found))
    | inr t ↦ (
        let n : x.buffer ≡ g.buffer → ⊥ = λ q. (let u : eqb x.buffer g.buffer ≡ true = eq-eqb x.buffer g.buffer q in let z : ⊥ = cc in z) in
        rw t (other_synced (synced_now g) gs ss x n))
  ]

  all_step : (g : BufferPieces) (gs : List BufferPieces) (ss : List Source) → GroupsAscend (suc g.buffer) gs → (xs : List Excerpt) → map (text_after gs (put (synced_now g) ss)) (map (followed_in g.buffer (history_after g)) xs) ≡ map (text_after (g ∷ gs) ss) xs
  all_step g gs ss a [] = refl
  all_step g gs ss a (x ∷ xs) =
      ap (λ (t : List ℕ). t ∷ map (text_after gs (put (synced_now g) ss)) (map (followed_in g.buffer (history_after g)) xs)) (one_step g gs ss a x)
      ∙ ap (λ (ts : List (List ℕ)). text_after (g ∷ gs) ss x ∷ ts) (all_step g gs ss a xs)

  texts_after : (n : ℕ) (gs : List BufferPieces) (m : MultiState) → GroupsAscend n gs → map (excerpt_text (after_edits bs gs m).synced) (after_edits bs gs m).excerpts ≡ map (text_after gs m.synced) m.excerpts
  texts_after n [] m a = same_texts m.synced m.excerpts
    where
      same_texts : (ss : List Source) (xs : List Excerpt) → map (excerpt_text ss) xs ≡ map (text_after [] ss) xs
      same_texts ss [] = refl
      same_texts ss (x ∷ xs) = ap (λ (ts : List (List ℕ)). excerpt_text ss x ∷ ts) (same_texts ss xs)
  texts_after n (g ∷ gs) m a =
      texts_after (suc g.buffer) gs (after_sync g.buffer (history_after g) m) a.1 ∙ all_step g gs m.synced a.1 m.excerpts

  -- ---- by the pieces of its buffer

  -- the buffer of an excerpt is history_after by its pieces, or it has none
  record IsEdited (m : MultiState) (gs : List BufferPieces) (x : Excerpt) : Type 0 where
    group : BufferPieces
    buffer : x.buffer ≡ group.buffer
    may : MayEdit bs m group
    pieces : pieces_for x.buffer gs ≡ group.pieces
    shown : text_after gs m.synced x ≡ text_between (history_after group) x

  edited_or_not : (m : MultiState) (gs : List BufferPieces) (x : Excerpt) → AllByRecursion (MayEdit bs m) gs → IsEdited m gs x ⊎ ((pieces_for x.buffer gs ≡ []) × (text_after gs m.synced x ≡ excerpt_text m.synced x))
  edited_or_not m [] x a = inr (refl, refl)
  edited_or_not m (g ∷ gs) x a = elim (cases_Bool (eqb x.buffer g.buffer)) [
    | inl t ↦ (
        let e : x.buffer ≡ g.buffer = eqb-true x.buffer g.buffer t in
        let u : eqb g.buffer x.buffer ≡ true = eq-eqb g.buffer x.buffer (sym e) in
        inl (record { group = g; buffer = e; may = a.0; pieces = rw u refl; shown = rw t refl }))
    | inr t ↦ (
        let n : g.buffer ≡ x.buffer → ⊥ = λ q. (let u : eqb x.buffer g.buffer ≡ true = eq-eqb x.buffer g.buffer (sym q) in let z : ⊥ = cc in z) in
        let u : eqb g.buffer x.buffer ≡ false = ne_eqb g.buffer x.buffer n in
        elim (edited_or_not m gs x a.1) [
          | inl r ↦ inl (record { group = r.group; buffer = r.buffer; may = r.may; pieces = rw u r.pieces; shown = rw t r.shown })
          | inr r ↦ inr (rw u r.0, rw t r.1)
        ])
  ]

-- ---- all excerpts

front_none : (c : ℕ) (ps : List Piece) → later c ps ≡ [] → ps ≡ []
front_none c [] e = refl
front_none c (p ∷ ps) e = cc

unedited : (t : List ℕ) (ps : List Piece) → ps ≡ [] → t ≡ replaced_from 0 ps t
unedited t ps e = ap (λ (qs : List Piece). replaced_from 0 qs t) (sym e)

snoc_parts : (pre : List Excerpt) (x : Excerpt) (post : List Excerpt) → (pre ++ x ∷ []) ++ post ≡ pre ++ x ∷ post
snoc_parts pre x post = append_assoc pre (x ∷ []) post

rests-snoc : (pre : List Excerpt) (x : Excerpt) (ps : List Piece) → rests (pre ++ x ∷ []) ps ≡ rest (size x) (rests pre ps)
rests-snoc [] x ps = refl
rests-snoc (y ∷ pre) x ps = rests-snoc pre x (rest (size y) ps)

module _ (m : MultiState) (synced : AllByRecursion (IsSynced m.synced) m.excerpts) (bs : Buffers) (ps : List Piece)
    (o : AreOrdered 0 ps) (i : AllIn 0 m.excerpts ps) (n : AllByRecursion (IsAlone bs m.excerpts) ps) (may : AllByRecursion (MayEdit bs m) (split_of m ps)) where
  abbrev ts : List Piece
  ts = map (entered_change bs m.excerpts) ps

  one_text : (pre : List Excerpt) (x : Excerpt) (post : List Excerpt) → m.excerpts ≡ pre ++ x ∷ post → text_after bs (split_of m ps) m.synced x ≡ replaced_from 0 (front (size x) (rests pre ts)) (excerpt_text m.synced x)
  one_text pre x post e =
      let is : IsExcerpt (history_of x.buffer m.synced) x = excerpt_is m.synced x (each_here m.synced pre x post (subst (AllByRecursion (IsSynced m.synced)) e synced)) in
      let to : AreOrdered 0 ts = entered_ordered bs m.excerpts 0 ps o in
      let ti : AllIn 0 m.excerpts ts = entered_in bs m.excerpts ps i in
      let tin : AllIn 0 (pre ++ x ∷ post) ts = subst (λ (ys : List Excerpt). AllIn 0 ys ts) e ti in
      let g = gathered_all m.excerpts pre x post e is.order ts to (entered_alone bs m.excerpts ps n) in
      let mine : List Piece = front (size x) (rests pre ts) in
      let own_there : own 0 m.excerpts (length pre) ts ≡ later x.start mine = ap (λ (ys : List Excerpt). own 0 ys (length pre) ts) e ∙ ap (λ (k : ℕ). own 0 (pre ++ x ∷ post) k ts) index_is ∙ own_is 0 pre x post ts tin in
      let own_here : filter (is_own x) (pieces_for x.buffer (split_from m.excerpts ts [])) ≡ later x.start mine = g.own_pieces ∙ own_there in
      let w : AreWithin 0 (size x) mine = own_within 0 0 pre x post ts to tin in
      let q = split_under bs m.excerpts ps x.buffer in
      elim (edited_or_not bs m (split_of m ps) x may) [
        | inl r ↦ edited_text is mine w r q own_here g.clear
        | inr r ↦ (
            let none : pieces_for x.buffer (split_from m.excerpts ts []) ≡ [] = q ∙ ap (pieces_under (bs x.buffer).endings) r.0 ∙ under_none (bs x.buffer).endings in
            let empty : mine ≡ [] = front_none x.start mine (sym own_here ∙ ap (filter (is_own x)) none) in
            r.1 ∙ unedited (excerpt_text m.synced x) mine empty)
      ]
    where
      index_is : length pre ≡ 0 + length pre
      index_is = omega arith

      edited_text : IsExcerpt (history_of x.buffer m.synced) x → (mine : List Piece) → AreWithin 0 (size x) mine → (r : IsEdited bs m (split_of m ps) x)
          → pieces_for x.buffer (split_from m.excerpts ts []) ≡ pieces_under (bs x.buffer).endings (pieces_for x.buffer (split_of m ps))
          → filter (is_own x) (pieces_for x.buffer (split_from m.excerpts ts [])) ≡ later x.start mine
          → AllByRecursion (IsClear x) (pieces_for x.buffer (split_from m.excerpts ts []))
          → text_after bs (split_of m ps) m.synced x ≡ replaced_from 0 mine (excerpt_text m.synced x)
      edited_text is mine w r q own_here clear =
          let g : BufferPieces = r.group in
          let b : BufferState = bs g.buffer in
          let qs : List Piece = pieces_under b.endings g.pieces in
          let same : pieces_for x.buffer (split_from m.excerpts ts []) ≡ qs = q ∙ ap (λ (k : ℕ). pieces_under (bs k).endings (pieces_for x.buffer (split_of m ps))) r.buffer ∙ ap (pieces_under b.endings) r.pieces in
          let h : history_of x.buffer m.synced ≡ b.history = ap (λ (k : ℕ). history_of k m.synced) r.buffer ∙ r.may.newest in
          let ok = r.may.buffer in
          let edit = edited_excerpt b.limits b.history b.replica ok.history.lawful ok.history.proper (ok.least_replica, ok.greatest_replica) qs r.may.faultless x (subst (λ (k : History). IsExcerpt k x) h is)
          mine (subst (AllByRecursion (IsClear x)) same clear) (sym (ap (filter (is_own x)) same) ∙ own_here) w in
          r.shown ∙ edit ∙ ap (λ (k : History). replaced_from 0 mine (slice_range (text k) x.start x.end)) (sym h)

  each_text : (pre post : List Excerpt) → m.excerpts ≡ pre ++ post → map (text_after bs (split_of m ps) m.synced) post ≡ each_replacement (map (excerpt_text m.synced) post) (each_of post (rests pre ts))
  each_text pre [] e = refl
  each_text pre (x ∷ post) e =
      let later_ones = each_text (pre ++ x ∷ []) post (e ∙ sym (snoc_parts pre x post)) in
      ap (λ (t : List ℕ). t ∷ map (text_after bs (split_of m ps) m.synced) post) (one_text pre x post e)
      ∙ ap (λ (us : List (List ℕ)). replaced_from 0 (front (size x) (rests pre ts)) (excerpt_text m.synced x) ∷ us)
      (later_ones ∙ ap (λ (rs : List Piece). each_replacement (map (excerpt_text m.synced) post) (each_of post rs)) (rests-snoc pre x ts))

  pub text_replaced : multi_text (after_edits bs (split_of m ps) m) ≡ replace_ranges ts (multi_text m)
  text_replaced =
      let to : AreOrdered 0 ts = entered_ordered bs m.excerpts 0 ps o in
      let ti : AllIn 0 m.excerpts ts = entered_in bs m.excerpts ps i in
      let old : List (List ℕ) = map (excerpt_text m.synced) m.excerpts in
      ap lines (texts_after bs 0 (split_of m ps) m (split_ascends bs m.excerpts ps) ∙ each_text [] m.excerpts refl)
      ∙ sym (lines_replace old (each_of m.excerpts ts) (each_within m.synced 0 0 m.excerpts ts synced to ti))
      ∙ ap (λ (qs : List Piece). replaced_from 0 qs (lines old)) (joined_are m.synced 0 0 m.excerpts ts synced to ti)

-- ---- the law

alone_none : (bs : Buffers) (xs : List Excerpt) (k : ℕ) (ps : List Piece) → first_sharing xs k ps ≡ None → AllByRecursion (IsAlone bs xs) ps
alone_none bs xs k [] e = tt
alone_none bs xs k (p ∷ ps) e = let n = unless_none k (sharing_of xs (part_of xs p)) (first_sharing xs (suc k) ps) e in (n.0, alone_none bs xs (suc k) ps n.1)

pub edits_replace : (m : MultiState) → AllByRecursion (IsSynced m.synced) m.excerpts → EditsReplace m
edits_replace m synced bs ps e may =
    let f = split_passed m ps e in
    text_replaced m synced bs ps f.order f.within (alone_none bs m.excerpts 0 ps f.alone) may
