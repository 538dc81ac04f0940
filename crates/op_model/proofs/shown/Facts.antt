-- One pass from left to right over cells and the facts of them.
use Rattle.std.proofs.Common.{◌≡◌, ℕ, zero, suc, ◌+◌, ◌-◌, ◌<◌, ◌≤◌, Bool, List, [], ◌∷◌, ◌++◌, length, refl, sym, ◌∙◌, ap, inl, inr, true, false, cond, arith}
use Rattle.std.proofs.lemmas.List.{append-nil}
use Rattle.std.specs.List.{AllByRecursion}
use Rattle.std.proofs.lemmas.Bool.{cases_Bool}
use Rattle.lamport_clock.specs.declared.stamp.Lamport.{Lamport}
use Rattle.lamport_clock.specs.Stamps.{later}
use Rattle.op_model.specs.declared.operation.Piece.{Piece}
use Rattle.op_model.specs.Facts.{Fact, alike, past_later, put_at, fact_index_after, lay_facts, mark, marks, Marking}

abbrev pub After : ℕ → List Piece → Type 0
After at ps = AllByRecursion (λ (p : Piece). at < p.start) ps

abbrev pub From : ℕ → List Piece → Type 0
From at ps = AllByRecursion (λ (p : Piece). at ≤ p.start) ps

pub from_after : (at n : ℕ) (ps : List Piece) → at < n → From n ps → After at ps
from_after at n [] h e = tt
from_after at n (p ∷ ps) h e = ((let g : n ≤ p.start = e.0 in omega arith), from_after at n ps h e.1)

pub from_down : (at n : ℕ) (ps : List Piece) → at ≤ n → From n ps → From at ps
from_down at n [] h e = tt
from_down at n (p ∷ ps) h e = ((let g : n ≤ p.start = e.0 in omega arith), from_down at n ps h e.1)

-- what begins with nothing that is later than t
abbrev pub Stops : Lamport → List Fact → Type 0
Stops t [] = Unit {0}
Stops t (q ∷ s) = later q.cell.stamp t ≡ false

module _ (keep : Lamport → Bool) (t : Lamport) where
  pub step_kept : (at k : ℕ) (ps : List Piece) (q : Fact) (s : List Fact) → keep q.cell.stamp ≡ true → After at ps
      → lay_facts keep t at k ps (q ∷ s) ≡ q ∷ lay_facts keep t (suc at) k ps s
  step_kept at k [] q s h e = refl
  step_kept at k (p ∷ ps) q s h e =
      let g : at < p.start = e.0 in
      rw (step_kept at (k + length p.text) ps q s h e.1)
      (one (alike t k (length p.text) true []) (lay_facts keep t (suc at) (k + length p.text) ps s) (p.start - at) (p.start - suc at) (omega arith))
    where
      one : (ns r : List Fact) (m n : ℕ) → m ≡ suc n → put_at (fact_index_after keep (q ∷ r) m) t ns (q ∷ r) ≡ q ∷ put_at (fact_index_after keep r n) t ns r
      one ns r m n i = rw (i, h) refl

  pub step_unkept : (at k : ℕ) (ps : List Piece) (q : Fact) (s : List Fact) → keep q.cell.stamp ≡ false → After at ps
      → lay_facts keep t at k ps (q ∷ s) ≡ q ∷ lay_facts keep t at k ps s
  step_unkept at k [] q s h e = refl
  step_unkept at k (p ∷ ps) q s h e =
      let g : at < p.start = e.0 in
      rw (step_unkept at (k + length p.text) ps q s h e.1)
      (one (alike t k (length p.text) true []) (lay_facts keep t at (k + length p.text) ps s) (p.start - at) (p.start - suc at) (omega arith))
    where
      one : (ns r : List Fact) (m n : ℕ) → m ≡ suc n → put_at (fact_index_after keep (q ∷ r) m) t ns (q ∷ r) ≡ q ∷ put_at (fact_index_after keep r m) t ns r
      one ns r m n i = rw (i, h) refl

  pub step_later : (at k : ℕ) (ps : List Piece) (q : Fact) (s : List Fact) → keep q.cell.stamp ≡ false → later q.cell.stamp t ≡ true → From at ps
      → lay_facts keep t at k ps (q ∷ s) ≡ q ∷ lay_facts keep t at k ps s
  step_later at k [] q s h l e = refl
  step_later at k (p ∷ ps) q s h l e =
      rw (step_later at (k + length p.text) ps q s h l e.1)
      (one (alike t k (length p.text) true []) (lay_facts keep t at (k + length p.text) ps s) (p.start - at))
    where
      one : (ns r : List Fact) (m : ℕ) → put_at (fact_index_after keep (q ∷ r) m) t ns (q ∷ r) ≡ q ∷ put_at (fact_index_after keep r m) t ns r
      one ns r zero = rw l refl
      one ns r (suc n) = rw h refl

  stops_run : (k n : ℕ) (r : List Fact) → later t t ≡ false → Stops t r → Stops t (alike t k n true [] ++ r)
  stops_run k zero r h e = e
  stops_run k (suc n) r h e = h

  stops_text : (k n : ℕ) → later t t ≡ false → Stops t (alike t k n true [])
  stops_text k zero h = tt
  stops_text k (suc n) h = h

  past_stops : (ns r : List Fact) → Stops t r → past_later t ns r ≡ ns ++ r
  past_stops ns [] e = sym (append-nil ns)
  past_stops ns (q ∷ s) e = rw e refl

  -- what is laid in does not change that nothing later is in front
  pub stops_lay : (at k : ℕ) (ps : List Piece) (s : List Fact) → later t t ≡ false → Stops t s → Stops t (lay_facts keep t at k ps s)
  stops_lay at k [] s h e = e
  stops_lay at k (p ∷ ps) s h e = one (fact_index_after keep (lay_facts keep t at (k + length p.text) ps s) (p.start - at)) (lay_facts keep t at (k + length p.text) ps s)
      (stops_lay at (k + length p.text) ps s h e)
    where
      one : (i : ℕ) (r : List Fact) → Stops t r → Stops t (put_at i t (alike t k (length p.text) true []) r)
      one zero r g = rw (past_stops (alike t k (length p.text) true []) r g) (stops_run k (length p.text) r h g)
      one (suc i) [] g = stops_text k (length p.text) h
      one (suc i) (q ∷ s) g = g

  -- a piece that begins here, where nothing later stands in front
  pub step_piece : (at k : ℕ) (p : Piece) (ps : List Piece) (s : List Fact) → p.start ≡ at → later t t ≡ false → Stops t s
      → lay_facts keep t at k (p ∷ ps) s ≡ alike t k (length p.text) true [] ++ lay_facts keep t at (k + length p.text) ps s
  step_piece at k p ps s i h e = one (p.start - at) (omega arith)
    where
      one : (m : ℕ) → m ≡ 0 → put_at (fact_index_after keep (lay_facts keep t at (k + length p.text) ps s) m) t (alike t k (length p.text) true []) (lay_facts keep t at (k + length p.text) ps s)
          ≡ alike t k (length p.text) true [] ++ lay_facts keep t at (k + length p.text) ps s
      one m j = rw j (past_stops (alike t k (length p.text) true []) (lay_facts keep t at (k + length p.text) ps s) (stops_lay at (k + length p.text) ps s h e))

  module _ (m : Marking) (hit : ℕ → Bool) where
    pub run_kept : (b : Bool) (at k n to : ℕ) (ps : List Piece) (u : Lamport) (o : ℕ) (v : Bool) (d : List Lamport) (s : List Fact)
        → at + n ≡ to → keep u ≡ true → From to ps → ((i : ℕ) → at ≤ i → i < to → hit i ≡ b)
        → lay_facts keep t at k ps (marks m keep hit at (alike u o n v d ++ s))
        ≡ alike u o n (cond b (m.visible u v d) v) (cond b (m.deletions u d) d) ++ lay_facts keep t to k ps (marks m keep hit to s)
    run_kept b at k zero to ps u o v d s i h e f = let g : at ≡ to = omega arith in ap (λ x. lay_facts keep t x k ps (marks m keep hit x s)) g
    run_kept b at k (suc n) to ps u o v d s i h e f = rw (h, f at (omega arith) (omega arith)) (
        ap (λ (x : Fact). lay_facts keep t at k ps (x ∷ marks m keep hit (suc at) (alike u (suc o) n v d ++ s))) (pick b)
        ∙ step_kept at k ps new (marks m keep hit (suc at) (alike u (suc o) n v d ++ s)) h (from_after at to ps (omega arith) e)
        ∙ ap (λ (x : List Fact). new ∷ x) (run_kept b (suc at) k n to ps u (suc o) v d s (omega arith) h e (λ j p q. f j (omega arith) q)))
      where
        old : Fact
        old = record { cell = record { stamp = u; k = o }; visible = v; deletions = d }

        new : Fact
        new = record { cell = record { stamp = u; k = o }; visible = cond b (m.visible u v d) v; deletions = cond b (m.deletions u d) d }

        pick : (c : Bool) → cond c (mark m (record { cell = record { stamp = u; k = o }; visible = v; deletions = d })) (record { cell = record { stamp = u; k = o }; visible = v; deletions = d })
            ≡ record { cell = record { stamp = u; k = o }; visible = cond c (m.visible u v d) v; deletions = cond c (m.deletions u d) d }
        pick true = refl
        pick false = refl

    pub run_unkept : (at k n : ℕ) (ps : List Piece) (u : Lamport) (o : ℕ) (v : Bool) (d : List Lamport) (s : List Fact) → keep u ≡ false → After at ps
        → lay_facts keep t at k ps (marks m keep hit at (alike u o n v d ++ s)) ≡ alike u o n v d ++ lay_facts keep t at k ps (marks m keep hit at s)
    run_unkept at k zero ps u o v d s h e = refl
    run_unkept at k (suc n) ps u o v d s h e = rw h (
        step_unkept at k ps (record { cell = record { stamp = u; k = o }; visible = v; deletions = d }) (marks m keep hit at (alike u (suc o) n v d ++ s)) h e
        ∙ ap (λ (x : List Fact). record { cell = record { stamp = u; k = o }; visible = v; deletions = d } ∷ x) (run_unkept at k n ps u (suc o) v d s h e))

    pub run_later : (at k n : ℕ) (ps : List Piece) (u : Lamport) (o : ℕ) (v : Bool) (d : List Lamport) (s : List Fact) → keep u ≡ false → later u t ≡ true → From at ps
        → lay_facts keep t at k ps (marks m keep hit at (alike u o n v d ++ s)) ≡ alike u o n v d ++ lay_facts keep t at k ps (marks m keep hit at s)
    run_later at k zero ps u o v d s h l e = refl
    run_later at k (suc n) ps u o v d s h l e = rw h (
        step_later at k ps (record { cell = record { stamp = u; k = o }; visible = v; deletions = d }) (marks m keep hit at (alike u (suc o) n v d ++ s)) h l e
        ∙ ap (λ (x : List Fact). record { cell = record { stamp = u; k = o }; visible = v; deletions = d } ∷ x) (run_later at k n ps u (suc o) v d s h l e))

    pub marks_none : (at : ℕ) (s : List Fact) → ((i : ℕ) → at ≤ i → hit i ≡ false) → marks m keep hit at s ≡ s
    marks_none at [] f = refl
    marks_none at (q ∷ s) f = elim (cases_Bool (keep q.cell.stamp)) [
      | inl h ↦ rw (h, f at (omega arith)) (ap (λ (x : List Fact). q ∷ x) (marks_none (suc at) s (λ i p. f i (omega arith))))
      | inr h ↦ rw h (ap (λ (x : List Fact). q ∷ x) (marks_none at s f))
    ]
