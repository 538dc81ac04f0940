-- Runs whose bytes are UTF-8: what a walk makes of them, and where boundaries are taken.
use Rattle.op_model.proofs.Elements.{each_append}
use Rattle.std.proofs.Common.{◌≡◌, ℕ, zero, suc, ◌+◌, ◌-◌, ◌<◌, ◌≤◌, ◌⊎◌, Bool, List, [], ◌∷◌, ◌++◌, length, map, take, drop, get_or, refl, sym, ◌∙◌, ap, subst, inl, inr, true, false, cond, leb, arith, append_assoc}
use Rattle.std.proofs.lemmas.List.Elements.{filter-append}
use Rattle.std.specs.Prelude.{IsUtf8, IsCharBoundary}
use Rattle.std.specs.List.{AllByRecursion, filter}
use Rattle.std.proofs.lemmas.Bool.{cases_Bool, leb-true, leb-false}
use Rattle.std.proofs.lemmas.List.{length-append, map-append, length-drop, get_or_append_left}
use Rattle.std.proofs.lemmas.Str.{IsUtf8-append, IsUtf8-nil, IsUtf8-take, IsUtf8-drop}
use Rattle.lamport_clock.specs.declared.stamp.Lamport.{Lamport}
use Rattle.lamport_clock.specs.Stamps.{later}
use Rattle.op_model.specs.declared.operation.Piece.{Piece}
use Rattle.op_model.specs.Cells.{Cell}
use Rattle.op_model.specs.Facts.{Fact, alike, Marking}
use Rattle.op_model.specs.Walked.{Run, run_facts, facts_of, Ordered, front, back, mark_run, Walked, advance, skip_later, new_runs, walk}
use Rattle.op_model.proofs.shown.Walking.{run_add}

-- ---- lists

pub take_front : {A : Type 0} (xs ys : List A) (n : ℕ) → n ≡ length xs → take n (xs ++ ys) ≡ xs
take_front [] ys n e = rw e refl
take_front (x ∷ xs) ys zero e = absurd (omega arith)
take_front (x ∷ xs) ys (suc n) e = ap (λ z. x ∷ z) (take_front xs ys n (omega arith))

pub drop_front : {A : Type 0} (xs ys : List A) (n : ℕ) → n ≡ length xs → drop n (xs ++ ys) ≡ ys
drop_front [] ys n e = rw e refl
drop_front (x ∷ xs) ys zero e = absurd (omega arith)
drop_front (x ∷ xs) ys (suc n) e = drop_front xs ys n (omega arith)

pub drop_past : {A : Type 0} (xs ys : List A) (n : ℕ) → length xs ≤ n → drop n (xs ++ ys) ≡ drop (n - length xs) ys
drop_past [] ys n h = let e : n ≡ n - 0 = omega arith in ap (λ (k : ℕ). drop k ys) e
drop_past (x ∷ xs) ys zero h = absurd (omega arith)
drop_past (x ∷ xs) ys (suc n) h = let e : n - length xs ≡ suc n - suc (length xs) = omega arith in drop_past xs ys n (omega arith) ∙ ap (λ (k : ℕ). drop k ys) e

pub get_right : (xs ys : List ℕ) (n m : ℕ) → n ≡ length xs + m → get_or (xs ++ ys) n 0 ≡ get_or ys m 0
get_right [] ys n m e = let i : n ≡ m = omega arith in ap (λ (k : ℕ). get_or ys k 0) i
get_right (x ∷ xs) ys zero m e = absurd (omega arith)
get_right (x ∷ xs) ys (suc n) m e = get_right xs ys n m (omega arith)

-- as many facts as cells
pub length_alike : (t : Lamport) (k n : ℕ) (v : Bool) (d : List Lamport) → length (alike t k n v d) ≡ n
length_alike t k zero v d = refl
length_alike t k (suc n) v d = ap suc (length_alike t (suc k) n v d)

get_drop : (xs : List ℕ) (a n m : ℕ) → n ≡ a + m → get_or (drop a xs) m 0 ≡ get_or xs n 0
get_drop xs zero n m e = let i : m ≡ n = omega arith in ap (λ (k : ℕ). get_or xs k 0) i
get_drop [] (suc a) n m e = refl
get_drop (x ∷ xs) (suc a) zero m e = absurd (omega arith)
get_drop (x ∷ xs) (suc a) (suc n) m e = get_drop xs a n m (omega arith)

pub drop_more : {A : Type 0} (xs : List A) (a b n : ℕ) → n ≡ a + b → drop b (drop a xs) ≡ drop n xs
drop_more xs zero b n e = let i : b ≡ n = omega arith in ap (λ (k : ℕ). drop k xs) i
drop_more [] (suc a) zero n e = let i : n ≡ suc a = omega arith in rw i refl
drop_more [] (suc a) (suc b) n e = let i : n ≡ suc (a + suc b) = omega arith in rw i refl
drop_more (x ∷ xs) (suc a) b zero e = absurd (omega arith)
drop_more (x ∷ xs) (suc a) b (suc n) e = drop_more xs a b n (omega arith)

-- ---- boundaries

pub boundary_left : (xs ys : List ℕ) (n : ℕ) → IsCharBoundary (xs ++ ys) n → n < length xs → IsCharBoundary xs n
boundary_left xs ys n b h = (omega arith, λ l g. let e = get_or_append_left xs ys 0 n h in rw (← e) (b.1 (let k = length-append xs ys in omega arith) (rw e g)))

pub boundary_in : (xs ys : List ℕ) (n : ℕ) → IsCharBoundary xs n → n < length xs → IsCharBoundary (xs ++ ys) n
boundary_in xs ys n b h = let k = length-append xs ys in (omega arith, λ l g. let e = get_or_append_left xs ys 0 n h in rw e (b.1 h (rw (← e) g)))

pub boundary_right : (xs ys : List ℕ) (n m : ℕ) → n ≡ length xs + m → IsCharBoundary (xs ++ ys) n → IsCharBoundary ys m
boundary_right xs ys n m i b = let k = length-append xs ys in let a = b.0 in let e = get_right xs ys n m i in
    (omega arith, λ l g. rw (← e) (b.1 (omega arith) (rw e g)))

pub boundary_on : (xs ys : List ℕ) (n m : ℕ) → n ≡ length xs + m → IsCharBoundary ys m → IsCharBoundary (xs ++ ys) n
boundary_on xs ys n m i b = let k = length-append xs ys in let a = b.0 in let e = get_right xs ys n m i in
    (omega arith, λ l g. rw e (b.1 (omega arith) (rw (← e) g)))

pub boundary_drop : (xs : List ℕ) (a n m : ℕ) → n ≡ a + m → IsCharBoundary xs n → IsCharBoundary (drop a xs) m
boundary_drop xs a n m i b = let k = length-drop a xs in let c = b.0 in let e = get_drop xs a n m i in
    (omega arith, λ l g. rw e (b.1 (omega arith) (rw (← e) g)))

-- ---- runs

module _ (byte_of : Cell → ℕ) where
  abbrev pub bytes : List Fact → List ℕ
  bytes s = map (λ (q : Fact). byte_of q.cell) s

  abbrev pub run_bytes : Run → List ℕ
  run_bytes r = bytes (run_facts r)

  -- all bytes, those of the runs that pass, and those of the visible runs
  abbrev pub all_bytes : List Run → List ℕ
  all_bytes [] = []
  all_bytes (r ∷ rs) = run_bytes r ++ all_bytes rs

  abbrev pub kept_bytes : (Lamport → Bool) → List Run → List ℕ
  kept_bytes keep [] = []
  kept_bytes keep (r ∷ rs) = cond (keep r.stamp) (run_bytes r ++ kept_bytes keep rs) (kept_bytes keep rs)

  abbrev pub shown_bytes : List Run → List ℕ
  shown_bytes [] = []
  shown_bytes (r ∷ rs) = cond r.visible (run_bytes r ++ shown_bytes rs) (shown_bytes rs)

  abbrev pub Utf8 : List Run → Type 0
  Utf8 rs = AllByRecursion (λ (r : Run). IsUtf8 (run_bytes r)) rs

  pub utf8_all : (rs : List Run) → Utf8 rs → IsUtf8 (all_bytes rs)
  utf8_all [] u = IsUtf8-nil
  utf8_all (r ∷ rs) u = IsUtf8-append (run_bytes r) (all_bytes rs) u.0 (utf8_all rs u.1)

  pub utf8_kept : (keep : Lamport → Bool) (rs : List Run) → Utf8 rs → IsUtf8 (kept_bytes keep rs)
  utf8_kept keep [] u = IsUtf8-nil
  utf8_kept keep (r ∷ rs) u = elim (keep r.stamp) as (λ b. IsUtf8 (cond b (run_bytes r ++ kept_bytes keep rs) (kept_bytes keep rs)))
      [ true ↦ IsUtf8-append (run_bytes r) (kept_bytes keep rs) u.0 (utf8_kept keep rs u.1) | false ↦ utf8_kept keep rs u.1 ]

  pub utf8_shown : (rs : List Run) → Utf8 rs → IsUtf8 (shown_bytes rs)
  utf8_shown [] u = IsUtf8-nil
  utf8_shown (r ∷ rs) u = elim r.visible as (λ b. IsUtf8 (cond b (run_bytes r ++ shown_bytes rs) (shown_bytes rs)))
      [ true ↦ IsUtf8-append (run_bytes r) (shown_bytes rs) u.0 (utf8_shown rs u.1) | false ↦ utf8_shown rs u.1 ]

  pub bytes_length : (t : Lamport) (k n : ℕ) (v : Bool) (d : List Lamport) → length (bytes (alike t k n v d)) ≡ n
  bytes_length t k zero v d = refl
  bytes_length t k (suc n) v d = ap suc (bytes_length t (suc k) n v d)

  -- bytes do not depend on the status
  pub bytes_alike : (t : Lamport) (k n : ℕ) (v w : Bool) (d e : List Lamport) → bytes (alike t k n v d) ≡ bytes (alike t k n w e)
  bytes_alike t k zero v w d e = refl
  bytes_alike t k (suc n) v w d e = ap (λ z. byte_of (record { stamp = t; k = k }) ∷ z) (bytes_alike t (suc k) n v w d e)

  alike_shown : (t : Lamport) (k n : ℕ) (d : List Lamport) → filter (λ (q : Fact). q.visible) (alike t k n true d) ≡ alike t k n true d
  alike_shown t k zero d = refl
  alike_shown t k (suc n) d = ap (λ z. record { cell = record { stamp = t; k = k }; visible = true; deletions = d } ∷ z) (alike_shown t (suc k) n d)

  alike_hidden : (t : Lamport) (k n : ℕ) (d : List Lamport) → filter (λ (q : Fact). q.visible) (alike t k n false d) ≡ []
  alike_hidden t k zero d = refl
  alike_hidden t k (suc n) d = alike_hidden t (suc k) n d

  alike_kept : (keep : Lamport → Bool) (t : Lamport) (k n : ℕ) (v : Bool) (d : List Lamport) → keep t ≡ true → filter (λ (q : Fact). keep q.cell.stamp) (alike t k n v d) ≡ alike t k n v d
  alike_kept keep t k zero v d e = refl
  alike_kept keep t k (suc n) v d e = rw e (ap (λ z. record { cell = record { stamp = t; k = k }; visible = v; deletions = d } ∷ z) (alike_kept keep t (suc k) n v d e))

  alike_unkept : (keep : Lamport → Bool) (t : Lamport) (k n : ℕ) (v : Bool) (d : List Lamport) → keep t ≡ false → filter (λ (q : Fact). keep q.cell.stamp) (alike t k n v d) ≡ []
  alike_unkept keep t k zero v d e = refl
  alike_unkept keep t k (suc n) v d e = rw e (alike_unkept keep t (suc k) n v d e)

  pub facts_all : (rs : List Run) → bytes (facts_of rs) ≡ all_bytes rs
  facts_all [] = refl
  facts_all (r ∷ rs) = map-append (λ (q : Fact). byte_of q.cell) (run_facts r) (facts_of rs) ∙ ap (λ z. run_bytes r ++ z) (facts_all rs)

  pub facts_shown : (rs : List Run) → bytes (filter (λ (q : Fact). q.visible) (facts_of rs)) ≡ shown_bytes rs
  facts_shown [] = refl
  facts_shown (r ∷ rs) = ap bytes (filter-append (λ (q : Fact). q.visible) (run_facts r) (facts_of rs)) ∙ go (facts_shown rs) r.visible
    where
      go : bytes (filter (λ (q : Fact). q.visible) (facts_of rs)) ≡ shown_bytes rs → (v : Bool) → bytes (filter (λ (q : Fact). q.visible) (alike r.stamp r.offset r.len v r.deletions) ++ filter (λ (q : Fact). q.visible) (facts_of rs))
          ≡ cond v (bytes (alike r.stamp r.offset r.len v r.deletions) ++ shown_bytes rs) (shown_bytes rs)
      go ih true = ap (λ z. bytes (z ++ filter (λ (q : Fact). q.visible) (facts_of rs))) (alike_shown r.stamp r.offset r.len r.deletions)
          ∙ map-append (λ (q : Fact). byte_of q.cell) (alike r.stamp r.offset r.len true r.deletions) (filter (λ (q : Fact). q.visible) (facts_of rs))
          ∙ ap (λ z. bytes (alike r.stamp r.offset r.len true r.deletions) ++ z) ih
      go ih false = ap (λ z. bytes (z ++ filter (λ (q : Fact). q.visible) (facts_of rs))) (alike_hidden r.stamp r.offset r.len r.deletions) ∙ ih

  pub facts_kept : (keep : Lamport → Bool) (rs : List Run) → bytes (filter (λ (q : Fact). keep q.cell.stamp) (facts_of rs)) ≡ kept_bytes keep rs
  facts_kept keep [] = refl
  facts_kept keep (r ∷ rs) = ap bytes (filter-append (λ (q : Fact). keep q.cell.stamp) (run_facts r) (facts_of rs)) ∙ go (facts_kept keep rs) (cases_Bool (keep r.stamp))
    where
      go : bytes (filter (λ (q : Fact). keep q.cell.stamp) (facts_of rs)) ≡ kept_bytes keep rs → (keep r.stamp ≡ true) ⊎ (keep r.stamp ≡ false) → bytes (filter (λ (q : Fact). keep q.cell.stamp) (run_facts r) ++ filter (λ (q : Fact). keep q.cell.stamp) (facts_of rs)) ≡ kept_bytes keep (r ∷ rs)
      go ih (inl e) = ap (λ z. bytes (z ++ filter (λ (q : Fact). keep q.cell.stamp) (facts_of rs))) (alike_kept keep r.stamp r.offset r.len r.visible r.deletions e)
          ∙ map-append (λ (q : Fact). byte_of q.cell) (run_facts r) (filter (λ (q : Fact). keep q.cell.stamp) (facts_of rs))
          ∙ rw e (ap (λ z. run_bytes r ++ z) ih)
      go ih (inr e) = ap (λ z. bytes (z ++ filter (λ (q : Fact). keep q.cell.stamp) (facts_of rs))) (alike_unkept keep r.stamp r.offset r.len r.visible r.deletions e)
          ∙ rw e ih

  cut : (r : Run) (n : ℕ) → n ≤ r.len → run_bytes r ≡ run_bytes (front r n) ++ run_bytes (back r n)
  cut r n h = ap bytes (run_add r.stamp r.offset n (r.len - n) r.visible r.deletions r.len (omega arith))
      ∙ map-append (λ (q : Fact). byte_of q.cell) (run_facts (front r n)) (run_facts (back r n))

  front_bytes : (r : Run) (n : ℕ) → n ≤ r.len → run_bytes (front r n) ≡ take n (run_bytes r)
  front_bytes r n h = sym (ap (take n) (cut r n h) ∙ take_front (run_bytes (front r n)) (run_bytes (back r n)) n (sym (bytes_length r.stamp r.offset n r.visible r.deletions)))

  back_bytes : (r : Run) (n : ℕ) → n ≤ r.len → run_bytes (back r n) ≡ drop n (run_bytes r)
  back_bytes r n h = sym (ap (drop n) (cut r n h) ∙ drop_front (run_bytes (front r n)) (run_bytes (back r n)) n (sym (bytes_length r.stamp r.offset n r.visible r.deletions)))

  touched_utf8 : (m : Marking) (b : Bool) (r : Run) → IsUtf8 (run_bytes r) → IsUtf8 (run_bytes (mark_run m b r))
  touched_utf8 m b r u = subst IsUtf8 (bytes_alike r.stamp r.offset r.len r.visible (mark_run m b r).visible r.deletions (mark_run m b r).deletions) u

  run_length : (r : Run) → length (run_bytes r) ≡ r.len
  run_length r = bytes_length r.stamp r.offset r.len r.visible r.deletions

  module _ (m : Marking) (keep : Lamport → Bool) where
    abbrev pub Over : Bool → ℕ → List Run → Type 0
    Over b n rs = Utf8 (advance m keep b n rs).out × Utf8 (advance m keep b n rs).rest × (kept_bytes keep (advance m keep b n rs).rest ≡ drop n (kept_bytes keep rs))

    pub advance_utf8 : (b : Bool) (n : ℕ) (rs : List Run) → IsCharBoundary (kept_bytes keep rs) n → Utf8 rs → Over b n rs
    advance_utf8 b zero rs c u = (tt, u, refl)
    advance_utf8 b (suc n) [] c u = (tt, tt, refl)
    advance_utf8 b (suc n) (r ∷ rs) c u = by_kept (cases_Bool (keep r.stamp)) (cases_Bool (leb r.len (suc n))) (λ k d. advance_utf8 b k rs d u.1)
      where
        by_kept : (keep r.stamp ≡ true) ⊎ (keep r.stamp ≡ false) → (leb r.len (suc n) ≡ true) ⊎ (leb r.len (suc n) ≡ false)
            → ((k : ℕ) → IsCharBoundary (kept_bytes keep rs) k → Over b k rs) → Over b (suc n) (r ∷ rs)
        by_kept (inl e) (inl l) ih =
            let len = run_length r in
            let h = leb-true r.len (suc n) l in
            let d : IsCharBoundary (run_bytes r ++ kept_bytes keep rs) (suc n) = rw e at c in
            let w = ih (suc n - r.len) (boundary_right (run_bytes r) (kept_bytes keep rs) (suc n) (suc n - r.len) (omega arith) d) in
            let g : drop (suc n) (run_bytes r ++ kept_bytes keep rs) ≡ drop (suc n - r.len) (kept_bytes keep rs) =
            drop_past (run_bytes r) (kept_bytes keep rs) (suc n) (omega arith) ∙ ap (λ (k : ℕ). drop (suc n - k) (kept_bytes keep rs)) len in
            rw (e, l) ((touched_utf8 m b r u.0, w.0), w.1, w.2 ∙ sym g)
        by_kept (inl e) (inr l) ih =
            let len = run_length r in
            let h = leb-false r.len (suc n) l in
            let d : IsCharBoundary (run_bytes r ++ kept_bytes keep rs) (suc n) = rw e at c in
            let i : IsCharBoundary (run_bytes r) (suc n) = boundary_left (run_bytes r) (kept_bytes keep rs) (suc n) d (omega arith) in
            let f : IsUtf8 (run_bytes (front r (suc n))) = subst IsUtf8 (sym (front_bytes r (suc n) (omega arith))) (IsUtf8-take (run_bytes r) (suc n) u.0 i) in
            let k : IsUtf8 (run_bytes (back r (suc n))) = subst IsUtf8 (sym (back_bytes r (suc n) (omega arith))) (IsUtf8-drop (run_bytes r) (suc n) u.0 i) in
            let g : run_bytes (back r (suc n)) ++ kept_bytes keep rs ≡ drop (suc n) (run_bytes r ++ kept_bytes keep rs) =
            sym (ap (λ (z : List ℕ). drop (suc n) (z ++ kept_bytes keep rs)) (cut r (suc n) (omega arith))
            ∙ ap (drop (suc n)) (append_assoc (run_bytes (front r (suc n))) (run_bytes (back r (suc n))) (kept_bytes keep rs))
            ∙ drop_front (run_bytes (front r (suc n))) (run_bytes (back r (suc n)) ++ kept_bytes keep rs) (suc n) (sym (run_length (front r (suc n))))) in
            rw (e, l) ((touched_utf8 m b (front r (suc n)) f, tt), (k, u.1), rw e g)
        by_kept (inr e) l ih = let w = ih (suc n) (rw e at c) in rw e ((u.0, w.0), w.1, w.2)

    module _ (t : Lamport) (newer_unkept : (u : Lamport) → later u t ≡ true → keep u ≡ false) where
      abbrev pub Skipped : List Run → Type 0
      Skipped rs = Utf8 (skip_later t rs).out × Utf8 (skip_later t rs).rest × (kept_bytes keep (skip_later t rs).rest ≡ kept_bytes keep rs)

      pub skip_utf8 : (rs : List Run) → Utf8 rs → Skipped rs
      skip_utf8 [] u = (tt, tt, refl)
      skip_utf8 (r ∷ rs) u = elim (cases_Bool (later r.stamp t)) [
        | inl l ↦ (let w = skip_utf8 rs u.1 in let e = newer_unkept r.stamp l in rw (l, e) ((u.0, w.0), w.1, w.2))
        | inr l ↦ rw l (tt, u, refl)
      ]

      -- the new texts are UTF-8
      abbrev pub NewUtf8 : ℕ → List Piece → Type 0
      NewUtf8 k [] = Unit {0}
      NewUtf8 k (p ∷ ps) = IsUtf8 (bytes (alike t k (length p.text) true [])) × NewUtf8 (k + length p.text) ps

      placed_utf8 : (k n : ℕ) → IsUtf8 (bytes (alike t k n true [])) → Utf8 (new_runs t k n)
      placed_utf8 k zero u = tt
      placed_utf8 k (suc n) u = (u, tt)

      -- the ranges of the pieces begin and end at boundaries
      abbrev pub Bounded : List ℕ → List Piece → Type 0
      Bounded bs ps = AllByRecursion (λ (p : Piece). IsCharBoundary bs p.start × IsCharBoundary bs p.end) ps

      pub walk_utf8 : (bs : List ℕ) (end at k : ℕ) (ps : List Piece) (rs : List Run) → kept_bytes keep rs ≡ drop at bs → Ordered at end ps
          → Bounded bs ps → NewUtf8 k ps → Utf8 rs → Utf8 (walk m keep t at k ps rs)
      walk_utf8 bs end at k [] rs e o b n u = u
      walk_utf8 bs end at k (p ∷ ps) rs e o b n u =
          let o0 = o.0 in
          let o1 = o.1 in
          let a : Walked = advance m keep false (p.start - at) rs in
          let s : Walked = skip_later t a.rest in
          let d : Walked = advance m keep true (p.end - p.start) s.rest in
          let w1 = advance_utf8 false (p.start - at) rs (subst (λ (z : List ℕ). IsCharBoundary z (p.start - at)) (sym e) (boundary_drop bs at p.start (p.start - at) (omega arith) b.0.0)) u in
          let e1 : kept_bytes keep a.rest ≡ drop p.start bs = w1.2 ∙ ap (drop (p.start - at)) e ∙ drop_more bs at (p.start - at) p.start (omega arith) in
          let w2 = skip_utf8 a.rest w1.1 in
          let e2 : kept_bytes keep s.rest ≡ drop p.start bs = w2.2 ∙ e1 in
          let w3 = advance_utf8 true (p.end - p.start) s.rest (subst (λ (z : List ℕ). IsCharBoundary z (p.end - p.start)) (sym e2) (boundary_drop bs p.start p.end (p.end - p.start) (omega arith) b.0.1)) w2.1 in
          let e3 : kept_bytes keep d.rest ≡ drop p.end bs = w3.2 ∙ ap (drop (p.end - p.start)) e2 ∙ drop_more bs p.start (p.end - p.start) p.end (omega arith) in
          let is : Run → Type 0 = λ (r : Run). IsUtf8 (run_bytes r) in
          each_append is (a.out ++ (s.out ++ (new_runs t k (length p.text) ++ d.out))) (walk m keep t p.end (k + length p.text) ps d.rest)
          (each_append is a.out (s.out ++ (new_runs t k (length p.text) ++ d.out)) w1.0
          (each_append is s.out (new_runs t k (length p.text) ++ d.out) w2.0
          (each_append is (new_runs t k (length p.text)) d.out (placed_utf8 k (length p.text) n.0) w3.0)))
          (walk_utf8 bs end p.end (k + length p.text) ps d.rest e3 o.2 b.1 n.1 w3.1)
