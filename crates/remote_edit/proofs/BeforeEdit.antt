-- Fragments after the walk of an edit have, without it, the cells that they had before.
use Rattle.std.proofs.Common.{◌≡◌, ℕ, zero, suc, ◌+◌, ◌-◌, ◌≤◌, Bool, true, false, cond, not, ◌||◌, ◌&&◌, List, [], ◌∷◌, ◌++◌, length, refl, sym, ap, ◌∙◌, arith, subst, inl, inr, leb, append_assoc, append-nil, length-append}
use Rattle.std.proofs.lemmas.Bool.{cases_Bool, leb-false, or_parts}
use Rattle.std.specs.List.{AllByRecursion, list_any, list_all}
use Rattle.lamport_clock.specs.declared.stamp.Lamport.{Lamport}
use Rattle.lamport_clock.specs.Stamps.{same_stamp, later}
use Rattle.lamport_clock.specs.Versions.{Entries, sees}
use Rattle.lamport_clock.proofs.Later.{same_stamp_refl}
use Rattle.op_model.specs.declared.operation.Piece.{Piece}
use Rattle.op_model.specs.Operations.{text_total}
use Rattle.op_model.specs.Shown.{texts}
use Rattle.op_model.specs.Facts.{Fact, Marking, stamp_first, with_deletion}
use Rattle.op_model.specs.Walked.{Run, run_facts, facts_of, Walked}
use Rattle.op_model.specs.Walked as W
use Rattle.op_model.proofs.shown.Walking.{run_add, facts_append}
use Rattle.undo_map.specs.declared.entry.UndoEntry.{UndoEntry}
use Rattle.undo_map.specs.Counts.{count_of, is_odd}
use Rattle.fragments.specs.declared.fragment.Fragment.{Fragment}
use Rattle.fragments.specs.Stand.{run_of, runs}
use Rattle.remote_edit.specs.Marks.{was_shown, is_shown, marking}
use Rattle.remote_edit.specs.Walk.{changes}
use Rattle.remote_edit.specs.BeforeEdit.{without, before_edit, runs_by, InOrder}
use Rattle.remote_edit.proofs.Changing.{changing, no_text}

-- ---- deletions

pub none_without : (t : Lamport) (d : List Lamport) → list_any (same_stamp t) d ≡ false → without t d ≡ d
none_without t [] h = refl
none_without t (x ∷ d) h = let p = or_parts (same_stamp t x) (list_any (same_stamp t) d) h in rw (p.0) (ap (λ z. x ∷ z) (none_without t d p.1))

new_without : (t : Lamport) (d : List Lamport) → list_any (same_stamp t) d ≡ false → without t (with_deletion t d) ≡ d
new_without t [] h = rw (same_stamp_refl t) refl
new_without t (x ∷ d) h = go (stamp_first x t) (new_without t d)
  where
    p : (same_stamp t x ≡ false) × (list_any (same_stamp t) d ≡ false)
    p = or_parts (same_stamp t x) (list_any (same_stamp t) d) h

    go : (b : Bool) → (list_any (same_stamp t) d ≡ false → without t (with_deletion t d) ≡ d) → without t (cond b (x ∷ with_deletion t d) (t ∷ x ∷ d)) ≡ x ∷ d
    go true f = rw (p.0) (ap (λ z. x ∷ z) (f p.1))
    go false f = rw (same_stamp_refl t) (none_without t (x ∷ d) h)

pub all_without : (p : Lamport → Bool) (t : Lamport) (d : List Lamport) → list_all (λ s. same_stamp t s || p s) d ≡ list_all p (without t d)
all_without p t [] = refl
all_without p t (x ∷ d) = elim (cases_Bool (same_stamp t x)) [
  | inl e ↦ rw e (all_without p t d)
  | inr e ↦ rw e (ap (λ (b : Bool). p x && b) (all_without p t d))
]

-- how a fragment was shown before edit t
pub was_shown_before : (w : List UndoEntry) (u t : Lamport) (d e : List Lamport) (undone others : Bool) → undone ≡ is_odd (count_of w u) → undone ≡ false → e ≡ d
    → others ≡ list_all (λ s. same_stamp t s || is_odd (count_of w s)) e → others ≡ is_shown w u (without t d)
was_shown_before w u t d e undone others a n i o = o ∙ ap (list_all (λ s. same_stamp t s || is_odd (count_of w s))) i ∙ all_without (λ s. is_odd (count_of w s)) t d
    ∙ ap (λ (b : Bool). b && list_all (λ s. is_odd (count_of w s)) (without t d)) (ap not (sym n ∙ a))

-- ---- lists of runs

brought_append : (t : Lamport) (xs ys : List Run) → runs_by t (xs ++ ys) ≡ runs_by t xs ++ runs_by t ys
brought_append t [] ys = refl
brought_append t (x ∷ xs) ys = elim (cases_Bool (same_stamp t x.stamp)) [ inl e ↦ rw e (ap (λ (z : List Run). x ∷ z) (brought_append t xs ys)) | inr e ↦ rw e (brought_append t xs ys) ]

pub text_totals : (ps : List Piece) → text_total (changing ps) ≡ length (texts ps)
text_totals [] = refl
text_totals (p ∷ ps) = elim (cases_Bool (changes p)) [
  | inl e ↦ (let ih = text_totals ps in let l = length-append p.text (texts ps) in rw e (omega (arith, ih, l)))
  | inr e ↦ (let ih = text_totals ps in let l = length-append p.text (texts ps) in let n = no_text p e in rw e (omega (arith, ih, l, n)))
]

module _ (w : List UndoEntry) (t : Lamport) where
  abbrev pub old_run : Run → Run
  old_run r = record { stamp = r.stamp; offset = r.offset; len = r.len; visible = is_shown w r.stamp (without t r.deletions); deletions = without t r.deletions }

  abbrev pub old_runs : List Run → List Run
  old_runs [] = []
  old_runs (r ∷ rs) = cond (same_stamp t r.stamp) (old_runs rs) (old_run r ∷ old_runs rs)

  pub runs_before : (fs : List Fragment) → runs (before_edit w t fs) ≡ old_runs (runs fs)
  runs_before [] = refl
  runs_before (f ∷ fs) = elim (cases_Bool (same_stamp t f.stamp)) [ inl e ↦ rw e (runs_before fs) | inr e ↦ rw e (ap (λ (z : List Run). old_run (run_of f) ∷ z) (runs_before fs)) ]

  old_append : (xs ys : List Run) → old_runs (xs ++ ys) ≡ old_runs xs ++ old_runs ys
  old_append [] ys = refl
  old_append (x ∷ xs) ys = elim (cases_Bool (same_stamp t x.stamp)) [ inl e ↦ rw e (old_append xs ys) | inr e ↦ rw e (ap (λ (z : List Run). old_run x ∷ z) (old_append xs ys)) ]

  -- a run that edit t did not insert and does not delete, shown by the counts
  pub record IsOld (r : Run) : Type 0 where
    pub other : same_stamp t r.stamp ≡ false
    pub free : list_any (same_stamp t) r.deletions ≡ false
    pub shown : r.visible ≡ is_shown w r.stamp r.deletions

  old_as : (r : Run) (d : List Lamport) → IsOld r → without t d ≡ r.deletions → record { stamp = r.stamp; offset = r.offset; len = r.len; visible = is_shown w r.stamp (without t d); deletions = without t d } ≡ r
  old_as r d o e =
      let one : List Lamport → Run = λ x. record { stamp = r.stamp; offset = r.offset; len = r.len; visible = is_shown w r.stamp x; deletions = x } in
      let two : Bool → Run = λ b. record { stamp = r.stamp; offset = r.offset; len = r.len; visible = b; deletions = r.deletions } in
      ap one e ∙ ap two (sym o.shown)

  old_same : (r : Run) → IsOld r → old_run r ≡ r
  old_same r o = old_as r r.deletions o (none_without t r.deletions o.free)

  touched_old : (v : Entries) (b : Bool) (r : Run) → IsOld r → old_run (W.mark_run (marking w t v) b r) ≡ r
  touched_old v b r o = old_as r (cond b (cond (was_shown w v r.stamp r.deletions) (with_deletion t r.deletions) r.deletions) r.deletions) o (go b (was_shown w v r.stamp r.deletions))
    where
      go : (b c : Bool) → without t (cond b (cond c (with_deletion t r.deletions) r.deletions) r.deletions) ≡ r.deletions
      go true true = new_without t r.deletions o.free
      go true false = none_without t r.deletions o.free
      go false c = none_without t r.deletions o.free

  -- of the runs rs, what is put out and what is left have the same cells without edit t, which inserts none of them
  record Kept (rs : List Run) (z : Walked) : Type 0 where
    facts : facts_of (old_runs z.out) ++ facts_of z.rest ≡ facts_of rs
    rest : AllByRecursion IsOld z.rest
    none : runs_by t z.out ≡ []

  pushed : (r x : Run) (rs : List Run) (z : Walked) → same_stamp t x.stamp ≡ false → old_run x ≡ r → Kept rs z → Kept (r ∷ rs) (W.push x z)
  pushed r x rs z n e k = record { facts = first ∙ ap (λ (s : List Fact). run_facts r ++ s) k.facts; rest = k.rest; none = rw n k.none }
    where
      first : facts_of (old_runs (x ∷ z.out)) ++ facts_of z.rest ≡ run_facts r ++ (facts_of (old_runs z.out) ++ facts_of z.rest)
      first = rw n (ap (λ (y : Run). facts_of (y ∷ old_runs z.out) ++ facts_of z.rest) e ∙ append_assoc (run_facts r) (facts_of (old_runs z.out)) (facts_of z.rest))

  two_parts : (r : Run) (rs : List Run) (n : ℕ) → n ≤ r.len → facts_of (W.front r n ∷ W.back r n ∷ rs) ≡ facts_of (r ∷ rs)
  two_parts r rs n l = sym (ap (λ (s : List Fact). s ++ facts_of rs) (run_add r.stamp r.offset n (r.len - n) r.visible r.deletions r.len (omega (arith, l)))
      ∙ append_assoc (run_facts (W.front r n)) (run_facts (W.back r n)) (facts_of rs))

  module _ (v : Entries) where
    abbrev mk : Marking
    mk = marking w t v

    cut : (b : Bool) (r : Run) (rs : List Run) (n : ℕ) → n ≤ r.len → IsOld r → AllByRecursion IsOld rs → Kept (r ∷ rs) (W.push (W.mark_run mk b (W.front r n)) (W.none_out (W.back r n ∷ rs)))
    cut b r rs n l o e =
        let f : IsOld (W.front r n) = record { other = o.other; free = o.free; shown = o.shown } in
        let g : IsOld (W.back r n) = record { other = o.other; free = o.free; shown = o.shown } in
        let k = pushed (W.front r n) (W.mark_run mk b (W.front r n)) (W.back r n ∷ rs) (W.none_out (W.back r n ∷ rs)) o.other (touched_old v b (W.front r n) f) (record { facts = refl; rest = (g, e); none = refl }) in
        record { facts = k.facts ∙ two_parts r rs n l; rest = k.rest; none = k.none }

    adv_kept : (b : Bool) (n : ℕ) (rs : List Run) → AllByRecursion IsOld rs → Kept rs (W.advance mk (sees v) b n rs)
    adv_kept b zero rs o = record { facts = refl; rest = o; none = refl }
    adv_kept b (suc n) [] o = record { facts = refl; rest = tt; none = refl }
    adv_kept b (suc n) (r ∷ rs) o = elim (cases_Bool (sees v r.stamp)) [
      | inr s ↦ rw s (pushed r r rs (W.advance mk (sees v) b (suc n) rs) o.0.other (old_same r o.0) (adv_kept b (suc n) rs o.1))
      | inl s ↦ elim (cases_Bool (leb r.len (suc n))) [
        | inl l ↦ rw (s, l) (pushed r (W.mark_run mk b r) rs (W.advance mk (sees v) b (suc n - r.len) rs) o.0.other (touched_old v b r o.0) (adv_kept b (suc n - r.len) rs o.1))
        | inr l ↦ (let m = leb-false r.len (suc n) l in rw (s, l) (cut b r rs (suc n) (omega (arith, m)) o.0 o.1))
      ]
    ]

    skip_kept : (rs : List Run) → AllByRecursion IsOld rs → Kept rs (W.skip_later t rs)
    skip_kept [] o = record { facts = refl; rest = tt; none = refl }
    skip_kept (r ∷ rs) o = elim (cases_Bool (later r.stamp t)) [
      | inl s ↦ rw s (pushed r r rs (W.skip_later t rs) o.0.other (old_same r o.0) (skip_kept rs o.1))
      | inr s ↦ rw s (record { facts = refl; rest = o; none = refl })
    ]

    placed_gone : (k n : ℕ) → old_runs (W.new_runs t k n) ≡ []
    placed_gone k zero = refl
    placed_gone k (suc n) = rw (same_stamp_refl t) refl

    placed_brought : (k n : ℕ) → runs_by t (W.new_runs t k n) ≡ W.new_runs t k n
    placed_brought k zero = refl
    placed_brought k (suc n) = rw (same_stamp_refl t) refl

    both_facts : (x y : List Run) (s : List Fact) → facts_of (old_runs (x ++ y)) ++ s ≡ facts_of (old_runs x) ++ (facts_of (old_runs y) ++ s)
    both_facts x y s = ap (λ (z : List Run). facts_of z ++ s) (old_append x y) ∙ ap (λ (z : List Fact). z ++ s) (facts_append (old_runs x) (old_runs y)) ∙ append_assoc (facts_of (old_runs x)) (facts_of (old_runs y)) s

    record KeptWith (rs : List Run) (z : Walked) (new : List Run) : Type 0 where
      facts : facts_of (old_runs z.out) ++ facts_of z.rest ≡ facts_of rs
      rest : AllByRecursion IsOld z.rest
      new_is : runs_by t z.out ≡ new

    four : (a b c d : List Run) → runs_by t a ≡ [] → runs_by t b ≡ [] → runs_by t d ≡ [] → runs_by t (a ++ (b ++ (c ++ d))) ≡ runs_by t c
    four a b c d e f g =
        brought_append t a (b ++ (c ++ d)) ∙ ap (λ (z : List Run). z ++ runs_by t (b ++ (c ++ d))) e
        ∙ brought_append t b (c ++ d) ∙ ap (λ (z : List Run). z ++ runs_by t (c ++ d)) f
        ∙ brought_append t c d ∙ ap (λ (z : List Run). runs_by t c ++ z) g ∙ append-nil (runs_by t c)

    piece_kept : (at k : ℕ) (p : Piece) (rs : List Run) → AllByRecursion IsOld rs → KeptWith rs (W.one_piece mk (sees v) t at k p rs) (W.new_runs t k (length p.text))
    piece_kept at k p rs o =
        let a : Walked = W.advance mk (sees v) false (p.start - at) rs in
        let b : Walked = W.skip_later t a.rest in
        let c : List Run = W.new_runs t k (length p.text) in
        let d : Walked = W.advance mk (sees v) true (p.end - p.start) b.rest in
        let ka = adv_kept false (p.start - at) rs o in
        let kb = skip_kept a.rest ka.rest in
        let kd = adv_kept true (p.end - p.start) b.rest kb.rest in
        let s : List Fact = facts_of d.rest in
        record {
          facts = both_facts a.out (b.out ++ (c ++ d.out)) s
              ∙ ap (λ (z : List Fact). facts_of (old_runs a.out) ++ z) (both_facts b.out (c ++ d.out) s
              ∙ ap (λ (z : List Fact). facts_of (old_runs b.out) ++ z) (both_facts c d.out s
              ∙ ap (λ (z : List Run). facts_of z ++ (facts_of (old_runs d.out) ++ s)) (placed_gone k (length p.text))
              ∙ kd.facts) ∙ kb.facts) ∙ ka.facts;
          rest = kd.rest;
          new_is = four a.out b.out c d.out ka.none kb.none kd.none ∙ placed_brought k (length p.text);
        }

    all_old : (rs : List Run) → AllByRecursion IsOld rs → (old_runs rs ≡ rs) × (runs_by t rs ≡ [])
    all_old [] o = (refl, refl)
    all_old (r ∷ rs) o = let ih = all_old rs o.1 in let n = o.0.other in (rw n (ap (λ (x : Run). x ∷ old_runs rs) (old_same r o.0) ∙ ap (λ (z : List Run). r ∷ z) ih.0), rw n (ih.1))

    placed_first : (k n m : ℕ) (rs : List Run) → InOrder (k + n) m rs → InOrder k m (W.new_runs t k n ++ rs)
    placed_first k zero m rs i = let z : k + 0 ≡ k = omega arith in subst (λ (j : ℕ). InOrder j m rs) z i
    placed_first k (suc n) m rs i = (refl, refl, i)

    pub walk_kept : (at k : ℕ) (ps : List Piece) (rs : List Run) → AllByRecursion IsOld rs
        → (facts_of (old_runs (W.walk mk (sees v) t at k ps rs)) ≡ facts_of rs) × InOrder k (k + text_total ps) (runs_by t (W.walk mk (sees v) t at k ps rs))
    walk_kept at k [] rs o =
        let a = all_old rs o in let z : k ≡ k + 0 = omega arith in
        (ap facts_of a.0, subst (InOrder k (k + 0)) (sym a.1) z)
    walk_kept at k (p ∷ ps) rs o =
        let z : Walked = W.one_piece mk (sees v) t at k p rs in
        let q = piece_kept at k p rs o in
        let n : ℕ = length p.text in
        let x : List Run = W.walk mk (sees v) t p.end (k + n) ps z.rest in
        let ih = walk_kept p.end (k + n) ps z.rest q.rest in
        let m : k + n + text_total ps ≡ k + (n + text_total ps) = omega arith in (
          ap facts_of (old_append z.out x) ∙ facts_append (old_runs z.out) (old_runs x) ∙ ap (λ (s : List Fact). facts_of (old_runs z.out) ++ s) ih.0 ∙ q.facts,
          subst (InOrder k (k + (n + text_total ps))) (sym (brought_append t z.out x ∙ ap (λ (y : List Run). y ++ runs_by t x) q.new_is))
              (placed_first k n (k + (n + text_total ps)) (runs_by t x) (subst (λ (j : ℕ). InOrder (k + n) j (runs_by t x)) m ih.1)),
        )
