-- One walk over runs lays in all pieces of an edit and marks all its ranges.
use Rattle.op_model.proofs.Elements.{each_append, or_no}
use Rattle.std.proofs.Common.{◌≡◌, ℕ, zero, suc, ◌+◌, ◌-◌, ◌<◌, ◌≤◌, ◌⊎◌, Bool, List, [], ◌∷◌, ◌++◌, length, refl, sym, ◌∙◌, ap, subst, inl, inr, true, false, cond, ◌&&◌, ltb, leb, arith, append_assoc}
use Rattle.std.proofs.lemmas.List.{append-nil}
use Rattle.std.specs.List.{AllByRecursion}
use Rattle.std.proofs.lemmas.Bool.{cases_Bool, leb-true, leb-false, le-leb, lt-leb, le-ltb, lt-ltb, or_left}
use Rattle.lamport_clock.specs.declared.stamp.Lamport.{Lamport}
use Rattle.lamport_clock.specs.Stamps.{later}
use Rattle.op_model.specs.declared.operation.Piece.{Piece}
use Rattle.op_model.specs.Shown.{in_pieces}
use Rattle.op_model.specs.Facts.{Fact, alike, Marking, lay_facts, mark, marks}
use Rattle.op_model.specs.Walked.{Run, facts_of, kept_len, Ordered, back, Walked, advance, skip_later, new_runs, walk}
use Rattle.op_model.proofs.shown.Facts.{From, from_after, from_down, Stops, run_kept, run_unkept, run_later, step_piece, marks_none}

before_piece : (i a z : ℕ) → i < a → (leb a i && ltb i z) ≡ false
before_piece i a z h = rw (lt-leb a i h) refl

pub inside_piece : (i a z : ℕ) → a ≤ i → i < z → (leb a i && ltb i z) ≡ true
inside_piece i a z h g = rw (le-leb a i h, lt-ltb i z g) refl

pub past_piece : (i a z : ℕ) → z ≤ i → (leb a i && ltb i z) ≡ false
past_piece i a z h = elim (cases_Bool (leb a i)) [ inl b ↦ rw b (le-ltb i z h) | inr b ↦ rw b refl ]

pub out_of : (i n : ℕ) (ps : List Piece) → i < n → From n ps → in_pieces ps i ≡ false
out_of i n [] h e = refl
out_of i n (p ∷ ps) h e = let g : n ≤ p.start = e.0 in or_no (leb p.start i && ltb i p.end) (in_pieces ps i) (before_piece i p.start p.end (omega arith)) ∙ out_of i n ps h e.1

-- pieces in order begin at the first one's bound or past it, and end at the last one's or before it
pub from_ordered : (at end : ℕ) (ps : List Piece) → Ordered at end ps → From at ps
from_ordered at end [] o = tt
from_ordered at end (p ∷ ps) o = (o.0, from_down at p.end ps (let a = o.0 in let b = o.1 in omega arith) (from_ordered p.end end ps o.2))

pub ordered_le : (at end : ℕ) (ps : List Piece) → Ordered at end ps → at ≤ end
ordered_le at end [] o = o
ordered_le at end (p ∷ ps) o = let a = o.0 in let b = o.1 in let c = ordered_le p.end end ps o.2 in omega arith

pub facts_append : (xs ys : List Run) → facts_of (xs ++ ys) ≡ facts_of xs ++ facts_of ys
facts_append [] ys = refl
facts_append (x ∷ xs) ys = ap (λ (z : List Fact). alike x.stamp x.offset x.len x.visible x.deletions ++ z) (facts_append xs ys)
    ∙ sym (append_assoc (alike x.stamp x.offset x.len x.visible x.deletions) (facts_of xs) (facts_of ys))

pub run_add : (u : Lamport) (o m n : ℕ) (v : Bool) (d : List Lamport) (l : ℕ) → l ≡ m + n → alike u o l v d ≡ alike u o m v d ++ alike u (o + m) n v d
run_add u o zero n v d l i = let e : l ≡ n = omega arith in let g : o + 0 ≡ o = omega arith in rw (e, g) refl
run_add u o (suc m) n v d l i = let e : l ≡ suc (m + n) = omega arith in let g : o + suc m ≡ suc o + m = omega arith in
    rw (e, g) (ap (λ (x : List Fact). record { cell = record { stamp = u; k = o }; visible = v; deletions = d } ∷ x) (run_add u (suc o) m n v d (m + n) refl))

-- ---- no run without a cell

abbrev Filled : List Run → Type 0
Filled rs = AllByRecursion (λ (r : Run). 0 < r.len) rs

advance_some : (m : Marking) (keep : Lamport → Bool) (b : Bool) (n : ℕ) (rs : List Run) → Filled rs → Filled (advance m keep b n rs).out × Filled (advance m keep b n rs).rest
advance_some m keep b zero rs e = (tt, e)
advance_some m keep b (suc n) [] e = (tt, tt)
advance_some m keep b (suc n) (r ∷ rs) e = go (cases_Bool (keep r.stamp)) (cases_Bool (leb r.len (suc n))) (λ k. advance_some m keep b k rs e.1)
  where
    go : (keep r.stamp ≡ true) ⊎ (keep r.stamp ≡ false) → (leb r.len (suc n) ≡ true) ⊎ (leb r.len (suc n) ≡ false)
        → ((k : ℕ) → Filled (advance m keep b k rs).out × Filled (advance m keep b k rs).rest)
        → Filled (advance m keep b (suc n) (r ∷ rs)).out × Filled (advance m keep b (suc n) (r ∷ rs)).rest
    go (inl k) (inl l) f = let w = f (suc n - r.len) in rw (k, l) ((e.0, w.0), w.1)
    go (inl k) (inr l) f = let g = leb-false r.len (suc n) l in rw (k, l) (((omega arith), tt), ((omega arith), e.1))
    go (inr k) l f = let w = f (suc n) in rw k ((e.0, w.0), w.1)

skip_some : (t : Lamport) (rs : List Run) → Filled rs → Filled (skip_later t rs).out × Filled (skip_later t rs).rest
skip_some t [] e = (tt, tt)
skip_some t (r ∷ rs) e = elim (cases_Bool (later r.stamp t)) [ inl l ↦ (let w = skip_some t rs e.1 in rw l ((e.0, w.0), w.1)) | inr l ↦ rw l (tt, e) ]

placed_some : (t : Lamport) (k n : ℕ) → Filled (new_runs t k n)
placed_some t k zero = tt
placed_some t k (suc n) = (omega arith, tt)

pub walk_some : (m : Marking) (keep : Lamport → Bool) (t : Lamport) (at k : ℕ) (ps : List Piece) (rs : List Run) → Filled rs → Filled (walk m keep t at k ps rs)
walk_some m keep t at k [] rs e = e
walk_some m keep t at k (p ∷ ps) rs e =
    let a : Walked = advance m keep false (p.start - at) rs in
    let s : Walked = skip_later t a.rest in
    let d : Walked = advance m keep true (p.end - p.start) s.rest in
    let x = advance_some m keep false (p.start - at) rs e in
    let y = skip_some t a.rest x.1 in
    let z = advance_some m keep true (p.end - p.start) s.rest y.1 in
    let is : Run → Type 0 = λ (r : Run). 0 < r.len in
    each_append is (a.out ++ (s.out ++ (new_runs t k (length p.text) ++ d.out))) (walk m keep t p.end (k + length p.text) ps d.rest)
    (each_append is a.out (s.out ++ (new_runs t k (length p.text) ++ d.out)) x.0
    (each_append is s.out (new_runs t k (length p.text) ++ d.out) y.0
    (each_append is (new_runs t k (length p.text)) d.out (placed_some t k (length p.text)) z.0)))
    (walk_some m keep t p.end (k + length p.text) ps d.rest z.1)

-- ---- all pieces laid in

module _ (mk : Marking) (keep : Lamport → Bool) (t : Lamport) where
  module _ (hit : ℕ → Bool) where
    abbrev pub Laid : ℕ → ℕ → List Piece → List Run → List Fact
    Laid at k ps fs = lay_facts keep t at k ps (marks mk keep hit at (facts_of fs))

    abbrev pub Advances : Bool → ℕ → ℕ → List Piece → List Run → Type 0
    Advances b to k ps fs = (m a : ℕ) → a + m ≡ to → m ≤ kept_len keep fs → ((j : ℕ) → a ≤ j → j < to → hit j ≡ b)
        → Laid a k ps fs ≡ facts_of (advance mk keep b m fs).out ++ Laid to k ps (advance mk keep b m fs).rest

    pub advance_lays : (b : Bool) (n at to k : ℕ) (ps : List Piece) (fs : List Run) → at + n ≡ to → n ≤ kept_len keep fs
        → From to ps → ((i : ℕ) → at ≤ i → i < to → hit i ≡ b)
        → Laid at k ps fs ≡ facts_of (advance mk keep b n fs).out ++ Laid to k ps (advance mk keep b n fs).rest
    advance_lays b zero at to k ps fs i h e f = let g : at ≡ to = omega arith in ap (λ x. Laid x k ps fs) g
    advance_lays b (suc n) at to k ps [] i h e f = absurd (omega arith)
    advance_lays b (suc n) at to k ps (x ∷ fs) i h e f = by_kept (cases_Bool (keep x.stamp)) (λ m a j g q. advance_lays b m a to k ps fs j g e q)
      where
        r : (l : ℕ) → List Fact
        r l = alike x.stamp x.offset l (cond b (mk.visible x.stamp x.visible x.deletions) x.visible) (cond b (mk.deletions x.stamp x.deletions) x.deletions)

        by_len : Advances b to k ps fs → keep x.stamp ≡ true → (leb x.len (suc n) ≡ true) ⊎ (leb x.len (suc n) ≡ false)
            → Laid at k ps (x ∷ fs) ≡ facts_of (advance mk keep b (suc n) (x ∷ fs)).out ++ Laid to k ps (advance mk keep b (suc n) (x ∷ fs)).rest
        by_len ih kp (inl l) =
            let w : Walked = advance mk keep b (suc n - x.len) fs in
            let m : x.len ≤ suc n = leb-true x.len (suc n) l in
            let hh : suc n ≤ x.len + kept_len keep fs = rw kp at h in
            rw (kp, l) (
            run_kept keep t mk hit b at k x.len (at + x.len) ps x.stamp x.offset x.visible x.deletions (facts_of fs) refl kp (from_down (at + x.len) to ps (omega arith) e) (λ j p q. f j p (omega arith))
            ∙ ap (λ (z : List Fact). r x.len ++ z) (ih (suc n - x.len) (at + x.len) (omega arith) (omega arith) (λ j p q. f j (omega arith) q))
            ∙ sym (append_assoc (r x.len) (facts_of w.out) (Laid to k ps w.rest)))
        by_len ih kp (inr l) =
            let m : suc n < x.len = leb-false x.len (suc n) l in
            let tail : List Fact = alike x.stamp (x.offset + suc n) (x.len - suc n) x.visible x.deletions in
            rw (kp, l) (
            ap (λ (z : List Fact). lay_facts keep t at k ps (marks mk keep hit at (z ++ facts_of fs))) (run_add x.stamp x.offset (suc n) (x.len - suc n) x.visible x.deletions x.len (omega arith))
            ∙ ap (λ (z : List Fact). lay_facts keep t at k ps (marks mk keep hit at z)) (append_assoc (alike x.stamp x.offset (suc n) x.visible x.deletions) tail (facts_of fs))
            ∙ run_kept keep t mk hit b at k (suc n) to ps x.stamp x.offset x.visible x.deletions (tail ++ facts_of fs) i kp e f
            ∙ ap (λ (z : List Fact). z ++ Laid to k ps (back x (suc n) ∷ fs)) (sym (append-nil (r (suc n)))))

        by_kept : (keep x.stamp ≡ true) ⊎ (keep x.stamp ≡ false) → Advances b to k ps fs
            → Laid at k ps (x ∷ fs) ≡ facts_of (advance mk keep b (suc n) (x ∷ fs)).out ++ Laid to k ps (advance mk keep b (suc n) (x ∷ fs)).rest
        by_kept (inl kp) ih = by_len ih kp (cases_Bool (leb x.len (suc n)))
        by_kept (inr kp) ih =
            let w : Walked = advance mk keep b (suc n) fs in
            rw kp (
            run_unkept keep t mk hit at k x.len ps x.stamp x.offset x.visible x.deletions (facts_of fs) kp (from_after at to ps (omega arith) e)
            ∙ ap (λ (z : List Fact). alike x.stamp x.offset x.len x.visible x.deletions ++ z) (ih (suc n) at i (rw kp at h) f)
            ∙ sym (append_assoc (alike x.stamp x.offset x.len x.visible x.deletions) (facts_of w.out) (Laid to k ps w.rest)))

    module _ (unkept : keep t ≡ false) (self : later t t ≡ false) (newer_unkept : (u : Lamport) → later u t ≡ true → keep u ≡ false) where
      pub skip_lays : (at k : ℕ) (ps : List Piece) (fs : List Run) → From at ps
          → Laid at k ps fs ≡ facts_of (skip_later t fs).out ++ Laid at k ps (skip_later t fs).rest
      skip_lays at k ps [] e = refl
      skip_lays at k ps (x ∷ fs) e = elim (cases_Bool (later x.stamp t)) [
        | inl l ↦ (let w : Walked = skip_later t fs in rw l (
            run_later keep t mk hit at k x.len ps x.stamp x.offset x.visible x.deletions (facts_of fs) (newer_unkept x.stamp l) l e
            ∙ ap (λ (z : List Fact). alike x.stamp x.offset x.len x.visible x.deletions ++ z) (skip_lays at k ps fs e)
            ∙ sym (append_assoc (alike x.stamp x.offset x.len x.visible x.deletions) (facts_of w.out) (Laid at k ps w.rest))))
        | inr l ↦ rw l refl
      ]

      stops_marks : (at : ℕ) (s : List Fact) → Stops t s → Stops t (marks mk keep hit at s)
      stops_marks at [] e = tt
      stops_marks at (q ∷ s) e = elim (cases_Bool (keep q.cell.stamp)) [ inl h ↦ rw h (pick (hit at)) | inr h ↦ rw h e ]
        where
          pick : (b : Bool) → later (cond b (mark mk q) q).cell.stamp t ≡ false
          pick true = e
          pick false = e

      -- each has a cell
      stops_run : (x : Run) (s : List Fact) → 0 < x.len → later x.stamp t ≡ false → Stops t (alike x.stamp x.offset x.len x.visible x.deletions ++ s)
      stops_run x s h e = one x.len h
        where
          one : (n : ℕ) → 0 < n → Stops t (alike x.stamp x.offset n x.visible x.deletions ++ s)
          one zero h = absurd (omega arith)
          one (suc n) h = e

      skip_stops : (fs : List Run) → AllByRecursion (λ (x : Run). 0 < x.len) fs → Stops t (facts_of (skip_later t fs).rest)
      skip_stops [] e = tt
      skip_stops (x ∷ fs) e = elim (cases_Bool (later x.stamp t)) [ inl l ↦ rw l (skip_stops fs e.1) | inr l ↦ rw l (stops_run x (facts_of fs) e.0 l) ]

      skip_kept : (fs : List Run) → kept_len keep (skip_later t fs).rest ≡ kept_len keep fs
      skip_kept [] = refl
      skip_kept (x ∷ fs) = elim (cases_Bool (later x.stamp t)) [ inl l ↦ (let u = newer_unkept x.stamp l in rw (l, u) (skip_kept fs)) | inr l ↦ rw l refl ]

      advance_kept : (b : Bool) (n : ℕ) (fs : List Run) → n ≤ kept_len keep fs → kept_len keep (advance mk keep b n fs).rest + n ≡ kept_len keep fs
      advance_kept b zero fs h = omega arith
      advance_kept b (suc n) [] h = absurd (omega arith)
      advance_kept b (suc n) (x ∷ fs) h = elim (cases_Bool (keep x.stamp)) [
        | inl kp ↦ long kp (rw kp at h) (cases_Bool (leb x.len (suc n))) (advance_kept b (suc n - x.len) fs)
        | inr kp ↦ rw kp (advance_kept b (suc n) fs (rw kp at h))
      ]
        where
          long : keep x.stamp ≡ true → suc n ≤ x.len + kept_len keep fs → (leb x.len (suc n) ≡ true) ⊎ (leb x.len (suc n) ≡ false)
              → (suc n - x.len ≤ kept_len keep fs → kept_len keep (advance mk keep b (suc n - x.len) fs).rest + (suc n - x.len) ≡ kept_len keep fs)
              → kept_len keep (advance mk keep b (suc n) (x ∷ fs)).rest + suc n ≡ kept_len keep (x ∷ fs)
          long kp g (inl l) ih = let m = leb-true x.len (suc n) l in let q = ih (omega arith) in rw (kp, l) (omega arith)
          long kp g (inr l) ih = let m = leb-false x.len (suc n) l in rw (kp, l, kp) (omega arith)

      placed_facts : (k n : ℕ) → facts_of (new_runs t k n) ≡ alike t k n true []
      placed_facts k zero = refl
      placed_facts k (suc n) = append-nil (alike t k (suc n) true [])

      four : (a b c d r : List Run) (n z : List Fact) → facts_of c ≡ n → facts_of r ≡ z
          → facts_of a ++ (facts_of b ++ (n ++ (facts_of d ++ z))) ≡ facts_of ((a ++ (b ++ (c ++ d))) ++ r)
      four a b c d r n z i j = rw (← i, ← j) (sym (
          facts_append (a ++ (b ++ (c ++ d))) r ∙ ap (λ (x : List Fact). x ++ facts_of r) (facts_append a (b ++ (c ++ d)) ∙ ap (λ (x : List Fact). facts_of a ++ x)
          (facts_append b (c ++ d) ∙ ap (λ (x : List Fact). facts_of b ++ x) (facts_append c d)))
          ∙ append_assoc (facts_of a) (facts_of b ++ (facts_of c ++ facts_of d)) (facts_of r)
          ∙ ap (λ (x : List Fact). facts_of a ++ x) (append_assoc (facts_of b) (facts_of c ++ facts_of d) (facts_of r)
          ∙ ap (λ (x : List Fact). facts_of b ++ x) (append_assoc (facts_of c) (facts_of d) (facts_of r)))))

      -- one walk from left to right lays in all pieces and marks all ranges
      pub walk_lays : (at k : ℕ) (ps : List Piece) (fs : List Run) → AllByRecursion (λ (x : Run). 0 < x.len) fs
          → Ordered at (at + kept_len keep fs) ps → ((i : ℕ) → at ≤ i → hit i ≡ in_pieces ps i)
          → Laid at k ps fs ≡ facts_of (walk mk keep t at k ps fs)
      walk_lays at k [] fs e o f = marks_none keep t mk hit at (facts_of fs) f
      walk_lays at k (p ∷ ps) fs e o f =
          let len : ℕ = length p.text in
          let a : Walked = advance mk keep false (p.start - at) fs in
          let b : Walked = skip_later t a.rest in
          let c : List Run = new_runs t k len in
          let d : Walked = advance mk keep true (p.end - p.start) b.rest in
          let o0 = o.0 in
          let o1 = o.1 in
          let o2 = ordered_le p.end (at + kept_len keep fs) ps o.2 in
          let ka : kept_len keep a.rest + (p.start - at) ≡ kept_len keep fs = advance_kept false (p.start - at) fs (omega arith) in
          let kb : kept_len keep b.rest ≡ kept_len keep a.rest = skip_kept a.rest in
          let kd : kept_len keep d.rest + (p.end - p.start) ≡ kept_len keep b.rest = advance_kept true (p.end - p.start) b.rest (omega arith) in
          let ea = (advance_some mk keep false (p.start - at) fs e).1 in
          let eb = (skip_some t a.rest ea).1 in
          let ed = (advance_some mk keep true (p.end - p.start) b.rest eb).1 in
          let fr : From p.end ps = from_ordered p.end (at + kept_len keep fs) ps o.2 in
          let s1 = advance_lays false (p.start - at) at p.start k (p ∷ ps) fs (omega arith) (omega arith) (omega arith, from_down p.start p.end ps (omega arith) fr)
          (λ i x y. f i x ∙ out_of i p.start (p ∷ ps) y (omega arith, from_down p.start p.end ps o1 fr)) in
          let s2 = skip_lays p.start k (p ∷ ps) a.rest (omega arith, from_down p.start p.end ps (omega arith) fr) in
          let s3 = step_piece keep t p.start k p ps (marks mk keep hit p.start (facts_of b.rest)) refl self (stops_marks p.start (facts_of b.rest) (skip_stops a.rest ea)) in
          let s4 = advance_lays true (p.end - p.start) p.start p.end (k + len) ps b.rest (omega arith) (omega arith) fr (λ i x y. f i (omega arith) ∙ or_left (leb p.start i && ltb i p.end) (in_pieces ps i) (inside_piece i p.start p.end x y)) in
          let s5 = walk_lays p.end (k + len) ps d.rest ed (subst (λ z. Ordered p.end z ps) (omega arith) o.2) (λ i x. f i (omega arith) ∙ or_no (leb p.start i && ltb i p.end) (in_pieces ps i) (past_piece i p.start p.end x)) in
          s1 ∙ ap (λ (z : List Fact). facts_of a.out ++ z) (s2 ∙ ap (λ (z : List Fact). facts_of b.out ++ z) (s3 ∙ ap (λ (z : List Fact). alike t k len true [] ++ z) s4))
          ∙ four a.out b.out c d.out (walk mk keep t p.end (k + len) ps d.rest) (alike t k len true []) (Laid p.end (k + len) ps d.rest) (placed_facts k len) (sym s5)
