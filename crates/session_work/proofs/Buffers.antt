-- The buffer of a replica among those of a session, by its place.
use Rattle.std.proofs.Common.{◌≡◌, ℕ, suc, ◌+◌, ◌<◌, ◌≤◌, Bool, true, false, not, cond, ◌==◌, nat_lt, List, [], ◌∷◌, length, get_or, set, None, Some, refl, sym, ap, subst, arith}
use Rattle.std.specs.List.{position, position_or_len}
use Rattle.std.proofs.lemmas.Bool.{ltb-true, ltb-false}
use Rattle.std.proofs.lemmas.Option.{cond_some}
use Rattle.text_buffer.specs.Buffer.{BufferState}
use Rattle.session_work.specs.Work.{buffer_of, with_buffer}
use Rattle.session_lines.proofs.Cut.{at_none}

-- whether a buffer is that of replica r
abbrev pub is_own : ℕ → BufferState → Bool
is_own r b = b.replica == r

-- ---- the first of a list that passes a test

module _ (r : ℕ) (f : BufferState → BufferState) where
  abbrev place : List BufferState → ℕ
  place bs = position_or_len (is_own r) bs

  -- what a place tells of the buffers, where it lies among them
  abbrev Tells : BufferState → ℕ → List BufferState → Type 0
  Tells d n bs = (buffer_of r bs ≡ Some (get_or bs n d)) × (with_buffer r f bs ≡ set bs n (f (get_or bs n d)))

  more : (d b : BufferState) (bs : List BufferState) (m : ℕ) (t : Bool) → (m < length bs → Tells d m bs) → cond (not t) (1 + m) 0 < suc (length bs)
      → (cond t (Some b) (buffer_of r bs) ≡ Some (get_or (b ∷ bs) (cond (not t) (1 + m) 0) d))
      × (cond t (f b ∷ bs) (b ∷ with_buffer r f bs) ≡ set (b ∷ bs) (cond (not t) (1 + m) 0) (f (get_or (b ∷ bs) (cond (not t) (1 + m) 0) d)))
  more d b bs m true h l = (refl, refl)
  more d b bs m false h l =
      let e : suc m ≡ 1 + m = omega arith in
      let t = h (omega arith) in
      subst (λ (k : ℕ). (buffer_of r bs ≡ Some (get_or (b ∷ bs) k d)) × (b ∷ with_buffer r f bs ≡ set (b ∷ bs) k (f (get_or (b ∷ bs) k d)))) e (t.0, ap (λ l. b ∷ l) t.1)

  at_place : (d : BufferState) (bs : List BufferState) → place bs < length bs → Tells d (place bs) bs
  at_place d [] l = absurd (omega arith)
  at_place d (b ∷ bs) l = more d b bs (place bs) (is_own r b) (at_place d bs) l

  no_more : (b : BufferState) (bs : List BufferState) (m : ℕ) (t : Bool) → (length bs ≤ m → (buffer_of r bs ≡ None) × (with_buffer r f bs ≡ bs)) → suc (length bs) ≤ cond (not t) (1 + m) 0
      → (cond t (Some b) (buffer_of r bs) ≡ None) × (cond t (f b ∷ bs) (b ∷ with_buffer r f bs) ≡ b ∷ bs)
  no_more b bs m true h l = absurd (omega arith)
  no_more b bs m false h l = let t = h (omega arith) in (t.0, ap (λ l. b ∷ l) t.1)

  at_no_place : (bs : List BufferState) → length bs ≤ place bs → (buffer_of r bs ≡ None) × (with_buffer r f bs ≡ bs)
  at_no_place [] l = (refl, refl)
  at_no_place (b ∷ bs) l = no_more b bs (place bs) (is_own r b) (at_no_place bs) l

  pub found : (bs : List BufferState) (i : ℕ) (d : BufferState) → Some i ≡ position (is_own r) bs → Tells d i bs
  found bs i d e =
      let p = cond_some (nat_lt (place bs) (length bs)) (place bs) i (sym e) in
      subst (λ (k : ℕ). Tells d k bs) p.1 (at_place d bs (ltb-true (place bs) (length bs) p.0))

  pub not_found : (bs : List BufferState) → None ≡ position (is_own r) bs → (buffer_of r bs ≡ None) × (with_buffer r f bs ≡ bs)
  not_found bs e = at_no_place bs (ltb-false (place bs) (length bs) (at_none (nat_lt (place bs) (length bs)) (place bs) e))
