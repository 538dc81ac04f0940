-- Runs that begin and end where characters of their texts do, and the hidden bytes.
use Rattle.std.proofs.lemmas.List.{map-append as map_append, length-drop}
use Rattle.op_model.proofs.Elements.{each_left, each_right, same_first, same_rest, each_map}
use Rattle.std.proofs.Common.{◌≡◌, ℕ, zero, suc, ◌+◌, ◌-◌, ◌<◌, ◌≤◌, Bool, List, [], ◌∷◌, ◌++◌, length, map, take, drop, drop-cons, get_or, refl, sym, ◌∙◌, ap, subst, inl, inr, true, false, cond, not, arith}
use Rattle.std.specs.Prelude.{IsUtf8, IsCharBoundary}
use Rattle.std.specs.List.{AllByRecursion, filter}
use Rattle.std.proofs.lemmas.Bool.{cases_Bool}
use Rattle.std.proofs.lemmas.Str.{IsUtf8-nil, IsUtf8-append, IsUtf8-between, IsUtf8-drop, IsCharBoundary-start, IsCharBoundary-from_take, IsCharBoundary-from_rest}
use Rattle.lamport_clock.specs.declared.stamp.Lamport.{Lamport}
use Rattle.lamport_clock.specs.Stamps.{same_stamp}
use Rattle.op_model.specs.declared.operation.Operation.{Operation}
use Rattle.op_model.specs.declared.operation.Piece.{Piece}
use Rattle.op_model.specs.Sorted.{Member}
use Rattle.op_model.specs.Operations.{stamp_of, pieces_of}
use Rattle.op_model.specs.Histories.{History, Distinct, newest_first}
use Rattle.op_model.specs.Cells.{Cell, PathCell, seq, cells}
use Rattle.op_model.specs.Shown.{texts, new_bytes, IsCell, shows, hidden_text}
use Rattle.op_model.specs.Facts.{Fact, Continues, fact, cell_facts, alike}
use Rattle.op_model.specs.Walked.{Run, run_facts, facts_of, IsWhole}
use Rattle.op_model.proofs.order.SameSets.{newest_desc, newest_same}
use Rattle.op_model.proofs.order.CellsOnce.{all_cells}
use Rattle.op_model.proofs.texts.Utf8Runs.{bytes, run_bytes, Utf8}
use Rattle.op_model.proofs.texts.WholeTexts.{byte_of, desc_distinct, Whole, some_runs, some_facts, some_some, some_utf8, boundary_of}
use Rattle.op_model.proofs.answers.SameAnswers.{bytes_same}
use Rattle.op_model.specs.Lawful.{Lawful}
use Rattle.op_model.proofs.answers.Good.{lawful_ready}

-- the texts of all pieces are UTF-8
abbrev pub Texts : History → Type 0
Texts h = AllByRecursion (λ (o : Operation). AllByRecursion (λ (p : Piece). IsUtf8 p.text) (pieces_of o)) h

utf8_texts : (ps : List Piece) → AllByRecursion (λ (p : Piece). IsUtf8 p.text) ps → IsUtf8 (texts ps)
utf8_texts [] u = IsUtf8-nil
utf8_texts (p ∷ ps) u = IsUtf8-append p.text (texts ps) u.0 (utf8_texts ps u.1)

utf8_new : (g : History) → Texts g → (t : Lamport) → IsUtf8 (new_bytes g t)
utf8_new [] u t = IsUtf8-nil
utf8_new (o ∷ g) u t = elim (same_stamp (stamp_of o) t) as (λ b. IsUtf8 (cond b (texts (pieces_of o)) (new_bytes g t))) [ true ↦ utf8_texts (pieces_of o) u.0 | false ↦ utf8_new g u.1 t ]

-- a test that depends on the status of a run passes all its cells or none
module _ (f : Cell → ℕ) (test : Lamport → Bool → List Lamport → Bool) where
  abbrev pub passes : Fact → Bool
  passes q = test q.cell.stamp q.visible q.deletions

  all_pass : (t : Lamport) (k n : ℕ) (v : Bool) (e : List Lamport) (s : List Fact) → test t v e ≡ true → filter passes (alike t k n v e ++ s) ≡ alike t k n v e ++ filter passes s
  all_pass t k zero v e s p = refl
  all_pass t k (suc n) v e s p = rw p (ap (λ z. record { cell = record { stamp = t; k = k }; visible = v; deletions = e } ∷ z) (all_pass t (suc k) n v e s p))

  none_pass : (t : Lamport) (k n : ℕ) (v : Bool) (e : List Lamport) (s : List Fact) → test t v e ≡ false → filter passes (alike t k n v e ++ s) ≡ filter passes s
  none_pass t k zero v e s p = refl
  none_pass t k (suc n) v e s p = rw p (none_pass t (suc k) n v e s p)

  pub utf8_where : (rs : List Run) → Utf8 f rs → IsUtf8 (bytes f (filter passes (facts_of rs)))
  utf8_where [] u = IsUtf8-nil
  utf8_where (r ∷ rs) u = elim (cases_Bool (test r.stamp r.visible r.deletions)) [
    | inl e ↦ subst IsUtf8 (sym (ap (bytes f) (all_pass r.stamp r.offset r.len r.visible r.deletions (facts_of rs) e) ∙ map_append (λ (q : Fact). f q.cell) (run_facts r) (filter passes (facts_of rs))))
        (IsUtf8-append (run_bytes f r) (bytes f (filter passes (facts_of rs))) u.0 (utf8_where rs u.1))
    | inr e ↦ subst IsUtf8 (sym (ap (bytes f) (none_pass r.stamp r.offset r.len r.visible r.deletions (facts_of rs) e))) (utf8_where rs u.1)
  ]

module _ (h : History) (d : Distinct h) where
  pub byte_new : (t : Lamport) (k : ℕ) → byte_of h (record { stamp = t; k = k }) ≡ get_or (new_bytes h t) k 0
  byte_new t k = ap (λ (x : List ℕ). get_or x k 0) (bytes_same (newest_first h) h (desc_distinct (newest_first h) (newest_desc h d)) d (newest_same h) t)

  -- the bytes of the cells with a status
  pub told_where : (test : Fact → Bool) (s : List Cell) → map (byte_of h) (filter (λ (c : Cell). test (fact h c)) s) ≡ bytes (byte_of h) (filter test (map (fact h) s))
  told_where test [] = refl
  told_where test (c ∷ s) = elim (test (fact h c)) as (λ b. map (byte_of h) (cond b (c ∷ filter (λ (x : Cell). test (fact h x)) s) (filter (λ (x : Cell). test (fact h x)) s))
      ≡ bytes (byte_of h) (cond b (fact h c ∷ filter test (map (fact h) s)) (filter test (map (fact h) s))))
      [ true ↦ ap (λ z. byte_of h c ∷ z) (told_where test s) | false ↦ told_where test s ]

  pub hidden_utf8 : Whole h → IsUtf8 (hidden_text h)
  hidden_utf8 w =
      let f : Cell → ℕ = byte_of h in
      let e : hidden_text h ≡ bytes f (filter (λ (q : Fact). not q.visible) (facts_of w.runs)) =
      ap (λ (g : Cell → ℕ). map g (filter (λ (c : Cell). not (shows h c)) (cells (seq h)))) (λ i c. sym (byte_new c.stamp c.k) i)
      ∙ told_where (λ (q : Fact). not q.visible) (cells (seq h)) ∙ ap (λ (s : List Fact). bytes f (filter (λ (q : Fact). not q.visible) s)) (sym w.tell) in
      subst IsUtf8 (sym e) (utf8_where f (λ t v e. not v) w.runs w.utf8)

  -- ---- whole runs

  cells_told : (s : List PathCell) → ((c : Cell) → Member c (cells s) → IsCell h c) → AllByRecursion (λ (q : Fact). IsCell h q.cell) (map (fact h) (cells s))
  cells_told [] f = tt
  cells_told (p ∷ s) f = (f p.cell (inl refl), cells_told s (λ c m. f c (inr m)))

  pub told_cells : AllByRecursion (λ (q : Fact). IsCell h q.cell) (cell_facts h)
  told_cells = cells_told (seq h) (λ c m. (all_cells h d c).0 m)

  within : (t : Lamport) (k n : ℕ) (v : Bool) (e : List Lamport) → AllByRecursion (λ (q : Fact). IsCell h q.cell) (alike t k (suc n) v e) → k + suc n ≤ length (new_bytes h t)
  within t k zero v e c = let a = c.0 in omega arith
  within t k (suc n) v e c = let a = within t (suc k) n v e c.1 in omega arith

  slice_is : (t : Lamport) (k n : ℕ) (v : Bool) (e : List Lamport) → k + n ≤ length (new_bytes h t) → bytes (byte_of h) (alike t k n v e) ≡ take n (drop k (new_bytes h t))
  slice_is t k zero v e l = refl
  slice_is t k (suc n) v e l =
      let w : List ℕ = new_bytes h t in
      ap (λ (z : List ℕ). byte_of h (record { stamp = t; k = k }) ∷ z) (slice_is t (suc k) n v e (omega arith))
      ∙ ap (λ (b : ℕ). b ∷ take n (drop (suc k) w)) (byte_new t k)
      ∙ sym (ap (take (suc n)) (drop-cons w k 0 (omega arith)))

  -- the part of a text begins and ends on boundaries
  abbrev pub Cut : Lamport → ℕ → ℕ → Type 0
  Cut t k n = IsCharBoundary (new_bytes h t) k × IsCharBoundary (new_bytes h t) (k + n)

  abbrev pub Cuts : List Run → Type 0
  Cuts rs = AllByRecursion (λ (r : Run). Cut r.stamp r.offset r.len) rs

  module _ (u : Texts h) where
    cut_run : (t : Lamport) (k n : ℕ) (v : Bool) (e : List Lamport) → 0 < n → k + n ≤ length (new_bytes h t) → IsUtf8 (bytes (byte_of h) (alike t k n v e)) → Cut t k n
    cut_run t k zero v e p l w = absurd (omega arith)
    cut_run t k (suc n) v e p l w =
        let s : List ℕ = new_bytes h t in
        let z = (IsCharBoundary-start (bytes (byte_of h) (alike t k (suc n) v e)) w).1 in
        let b = byte_new t k in
        let a : IsCharBoundary s k = (omega arith, λ i g. subst (λ (x : ℕ). 192 ≤ x) b (z (omega arith) (subst (λ (x : ℕ). 128 ≤ x) (sym b) g))) in
        let x : IsUtf8 (take (suc n) (drop k s)) = subst IsUtf8 (slice_is t k (suc n) v e l) w in
        let y = length-drop k s in
        let c : IsCharBoundary (drop k s) (suc n) = IsCharBoundary-from_take (drop k s) (suc n) (IsUtf8-drop s k (utf8_new h u t) a) (omega arith) x in
        (a, IsCharBoundary-from_rest s k (suc n) (omega arith) c)

    pub cut_runs : (rs : List Run) → AllByRecursion (λ (r : Run). 0 < r.len) rs → AllByRecursion (λ (q : Fact). IsCell h q.cell) (facts_of rs) → Utf8 (byte_of h) rs → Cuts rs
    cut_runs [] s c w = tt
    cut_runs (r ∷ rs) s c w =
        let i : Run → Type 0 = λ (x : Run). AllByRecursion (λ (q : Fact). IsCell h q.cell) (run_facts x) in (
          cut_run r.stamp r.offset r.len r.visible r.deletions s.0 (inside r.len s.0 (each_left (λ (q : Fact). IsCell h q.cell) (run_facts r) (facts_of rs) c)) w.0,
          cut_runs rs s.1 (each_right (λ (q : Fact). IsCell h q.cell) (run_facts r) (facts_of rs) c) w.1,
        )
      where
        inside : (n : ℕ) → 0 < n → AllByRecursion (λ (q : Fact). IsCell h q.cell) (alike r.stamp r.offset n r.visible r.deletions) → r.offset + n ≤ length (new_bytes h r.stamp)
        inside zero p k = absurd (omega arith)
        inside (suc n) p k = within r.stamp r.offset n r.visible r.deletions k

    pub utf8_runs : (rs : List Run) → Cuts rs → Utf8 (byte_of h) rs
    utf8_runs [] c = tt
    utf8_runs (r ∷ rs) c =
        let s : List ℕ = new_bytes h r.stamp in
        let a = c.0.1.0 in
        let n : r.offset + r.len - r.offset ≡ r.len = omega arith in (
          subst IsUtf8 (ap (λ (k : ℕ). take k (drop r.offset s)) n ∙ sym (slice_is r.stamp r.offset r.len r.visible r.deletions a))
              (IsUtf8-between s r.offset (r.offset + r.len) (utf8_new h u r.stamp) (omega arith) c.0.0 c.0.1),
          utf8_runs rs c.1,
        )

    -- ---- where the status changes, characters end and begin

    abbrev pub Begins : Fact → Type 0
    Begins q = IsCharBoundary (new_bytes h q.cell.stamp) q.cell.k

    abbrev pub Finishes : Fact → Type 0
    Finishes p = IsCharBoundary (new_bytes h p.cell.stamp) (suc p.cell.k)

    begins : (rs : List Run) → AllByRecursion (λ (r : Run). 0 < r.len) rs → Cuts rs → (q : Fact) (ys : List Fact) → facts_of rs ≡ q ∷ ys → Begins q
    begins [] s c q ys e = cc
    begins (r ∷ rs) s c q ys e = go r.len s.0 e
      where
        go : (n : ℕ) → 0 < n → alike r.stamp r.offset n r.visible r.deletions ++ facts_of rs ≡ q ∷ ys → Begins q
        go zero p i = absurd (omega arith)
        go (suc n) p i = let j : record { cell = record { stamp = r.stamp; k = r.offset }; visible = r.visible; deletions = r.deletions } ≡ q = cc in subst Begins j c.0.0

    module _ (p q : Fact) (ys : List Fact) (apart : Continues p q → ⊥) where
      -- the runs from q on
      abbrev pub Rest : Type 0
      Rest = (rs : List Run) × AllByRecursion (λ (r : Run). 0 < r.len) rs × Cuts rs × (facts_of rs ≡ q ∷ ys)

      in_run : (t : Lamport) (k n : ℕ) (v : Bool) (e : List Lamport) (rest : List Fact) → IsCharBoundary (new_bytes h t) (k + n)
          → (rest ≡ q ∷ ys → Rest) → ((xs : List Fact) → rest ≡ xs ++ p ∷ q ∷ ys → Finishes p × Rest)
          → (xs : List Fact) → alike t k n v e ++ rest ≡ xs ++ p ∷ q ∷ ys → Finishes p × Rest
      in_run t k zero v e rest b f g xs i = g xs i
      in_run t k (suc n) v e rest b f g (x ∷ xs) i = in_run t (suc k) n v e rest (let z : k + suc n ≡ suc k + n = omega arith in subst (IsCharBoundary (new_bytes h t)) z b) f g xs (same_rest i)
      in_run t k (suc zero) v e rest b f g [] i =
          let j : record { cell = record { stamp = t; k = k }; visible = v; deletions = e } ≡ p = same_first i in
          let z : k + 1 ≡ suc k = omega arith in
          (subst Finishes j (subst (IsCharBoundary (new_bytes h t)) z b), f (same_rest i))
      in_run t k (suc (suc n)) v e rest b f g [] i = absurd (apart (next (same_first i) (same_first (same_rest i))))
        where
          next : record { cell = record { stamp = t; k = k }; visible = v; deletions = e } ≡ p → record { cell = record { stamp = t; k = suc k }; visible = v; deletions = e } ≡ q → Continues p q
          next a c = sym c ∙ ap (λ (x : Fact). record { cell = record { stamp = x.cell.stamp; k = suc x.cell.k }; visible = x.visible; deletions = x.deletions }) a

      ends : (rs : List Run) → AllByRecursion (λ (r : Run). 0 < r.len) rs → Cuts rs → (xs : List Fact) → facts_of rs ≡ xs ++ p ∷ q ∷ ys → Finishes p × Rest
      ends [] s c [] e = cc
      ends [] s c (x ∷ xs) e = cc
      ends (r ∷ rs) s c xs e = in_run r.stamp r.offset r.len r.visible r.deletions (facts_of rs) c.0.1 (λ i. (rs, s.1, c.1, i)) (ends rs s.1 c.1) xs e

    module _ (p : Fact) where
      in_last : (t : Lamport) (k n : ℕ) (v : Bool) (e : List Lamport) (rest : List Fact) → IsCharBoundary (new_bytes h t) (k + n)
          → ((xs : List Fact) → rest ≡ xs ++ p ∷ [] → Finishes p) → (xs : List Fact) → alike t k n v e ++ rest ≡ xs ++ p ∷ [] → Finishes p
      in_last t k zero v e rest b g xs i = g xs i
      in_last t k (suc n) v e rest b g (x ∷ xs) i = in_last t (suc k) n v e rest (let z : k + suc n ≡ suc k + n = omega arith in subst (IsCharBoundary (new_bytes h t)) z b) g xs (same_rest i)
      in_last t k (suc zero) v e rest b g [] i =
          let j : record { cell = record { stamp = t; k = k }; visible = v; deletions = e } ≡ p = same_first i in
          let z : k + 1 ≡ suc k = omega arith in
          subst Finishes j (subst (IsCharBoundary (new_bytes h t)) z b)
      in_last t k (suc (suc n)) v e rest b g [] i = cc

      finishes : (rs : List Run) → Cuts rs → (xs : List Fact) → facts_of rs ≡ xs ++ p ∷ [] → Finishes p
      finishes [] c [] e = cc
      finishes [] c (x ∷ xs) e = cc
      finishes (r ∷ rs) c xs e = in_last r.stamp r.offset r.len r.visible r.deletions (facts_of rs) c.0.1 (finishes rs c.1) xs e

    module _ (w : Whole h) where
      abbrev rs : List Run
      rs = some_runs w.runs

      tells : facts_of rs ≡ cell_facts h
      tells = some_facts w.runs ∙ w.tell

      cuts : Cuts rs
      cuts = cut_runs rs (some_some w.runs) (subst (λ (s : List Fact). AllByRecursion (λ (q : Fact). IsCell h q.cell) s) (sym tells) told_cells) (some_utf8 (byte_of h) w.runs w.utf8)

      pub told_apart : (xs ys : List Fact) (p q : Fact) → cell_facts h ≡ xs ++ p ∷ q ∷ ys → (Continues p q → ⊥) → Finishes p × Begins q
      told_apart xs ys p q e n = let k = ends p q ys n rs (some_some w.runs) cuts xs (tells ∙ e) in (k.0, begins k.1.0 k.1.1 k.1.2 q ys k.1.3)

      -- the facts from there on are those of runs of UTF-8
      pub told_parted : (xs ys : List Fact) (p q : Fact) → cell_facts h ≡ xs ++ p ∷ q ∷ ys → (Continues p q → ⊥) → (r : List Run) × Utf8 (byte_of h) r × (facts_of r ≡ q ∷ ys)
      told_parted xs ys p q e n = let k = (ends p q ys n rs (some_some w.runs) cuts xs (tells ∙ e)).1 in (k.0, utf8_runs k.0 k.2, k.3)

      pub told_first : (ys : List Fact) (q : Fact) → cell_facts h ≡ q ∷ ys → Begins q
      told_first ys q e = begins rs (some_some w.runs) cuts q ys (tells ∙ e)

      pub told_last : (xs : List Fact) (p : Fact) → cell_facts h ≡ xs ++ p ∷ [] → Finishes p
      told_last xs p e = finishes p rs cuts xs (tells ∙ e)

-- ---- whole fragments have bytes of UTF-8, and those alone

pub whole_runs : (h : History) → Lawful h → Texts h → (rs : List Run) → AllByRecursion (IsWhole h) rs → Utf8 (byte_of h) rs
whole_runs h l u rs w =
    let d : Distinct h = (lawful_ready h l).0.distinct in
    utf8_runs h d u rs (each_map (IsWhole h) (λ (x : Run). Cut h d x.stamp x.offset x.len)
    (λ x k. (boundary_of (new_bytes h x.stamp) x.offset k.0, boundary_of (new_bytes h x.stamp) (x.offset + x.len) k.1)) rs w)
