-- What Good says of an operation's pieces and counts: the pieces are in order, and undos count edits that are there.
use Rattle.op_model.proofs.Elements.{each_map, each_member}
use Rattle.std.proofs.Common.{◌≡◌, ℕ, suc, ◌≤◌, ◌⊎◌, Bool, List, [], ◌∷◌, ◌++◌, length, append_assoc, refl, sym, ap, ◌∙◌, subst, inl, inr, true, false, cond, not, ◌||◌, ◌&&◌, ltb, arith, Some, None}
use Rattle.std.proofs.lemmas.List.{append-nil}
use Rattle.std.proofs.lemmas.Bool.{cases_Bool, ltb-false, not-false, or_right}
use Rattle.lamport_clock.specs.declared.stamp.Lamport.{Lamport}
use Rattle.op_model.specs.declared.operation.Operation.{Operation}
use Rattle.op_model.specs.Histories.{History, newest_first, seen_history, has_edit, base, In}
use Rattle.lamport_clock.specs.Versions.{Entries, sees}
use Rattle.op_model.specs.declared.operation.Piece.{Piece}
use Rattle.op_model.specs.declared.operation.UndoCount.{UndoCount}
use Rattle.lamport_clock.specs.Stamps.{same_stamp}
use Rattle.lamport_clock.proofs.Later.{same_stamp_eq}
use Rattle.op_model.specs.Operations.{stamp_of, version_of, pieces_of, counts_of, is_edit}
use Rattle.op_model.specs.Cells.{seq_where}
use Rattle.op_model.specs.Shown.{greatest_given, count}
use Rattle.op_model.specs.Lawful.{Lawful, LawfulFrom}
use Rattle.std.specs.List.{AllByRecursion, find}
use Rattle.op_model.specs.declared.faults.OpFault.TheVariants.{NoSuchEdit}
use Rattle.op_model.specs.Edits.{is_past, is_reversed, overlap_from}
use Rattle.op_model.specs.Shown.{full}
use Rattle.op_model.specs.Walked.{Ordered}
use Rattle.op_model.specs.Answers.{answer}
use Rattle.op_model.specs.Answers.Answer.{Good}
use Rattle.op_model.proofs.histories.Lawful.{in_append}
use Rattle.op_model.proofs.answers.Passed.{passed, shaped, ranged, find_none, map_none}
use Rattle.op_model.proofs.answers.Good.{seen_length}
use Rattle.op_model.proofs.order.SameSets.{newest_same}
use Rattle.op_model.proofs.shown.Counts.{given_none}

overlaps_none : (at i : ℕ) (p : Piece) (ps : List Piece) → overlap_from at i (p ∷ ps) ≡ None → (ltb p.start at ≡ false) × (overlap_from p.end (suc i) ps ≡ None)
overlaps_none at i p ps e = go (ltb p.start at) refl e
  where
    go : (b : Bool) → ltb p.start at ≡ b → cond b (Some i) (overlap_from p.end (suc i) ps) ≡ None → (ltb p.start at ≡ false) × (overlap_from p.end (suc i) ps ≡ None)
    go true j e = cc
    go false j e = (j, e)

pub ordered_from : (len l at : ℕ) (ps : List Piece) → AllByRecursion (λ (p : Piece). is_past len p ≡ false) ps → AllByRecursion (λ (p : Piece). is_reversed p ≡ false) ps → overlap_from at l ps ≡ None → at ≤ len → Ordered at len ps
ordered_from len l at [] a b c h = h
ordered_from len l at (p ∷ ps) a b c h =
    let z = overlaps_none at l p ps c in
    let u = ltb-false len p.end a.0 in let v = ltb-false p.end p.start b.0 in let w = ltb-false p.start at z.0 in
    (w, v, ordered_from len (suc l) p.end ps a.1 b.1 z.1 u)

pub good_ordered : (h : History) (op : Operation) → answer h [] op ≡ Good → Ordered 0 (length (seq_where (sees (version_of op)) (newest_first h))) (pieces_of op)
good_ordered h op e =
    let p = passed h [] op e in
    let s = shaped op p.shape in
    let r = ranged (full (seen_history h (version_of op))) (pieces_of op) p.ranges in
    ordered_from (length (seq_where (sees (version_of op)) (newest_first h))) 0 0 (pieces_of op)
    (subst (λ (x : ℕ). AllByRecursion (λ (y : Piece). is_past x y ≡ false) (pieces_of op)) (seen_length h (version_of op)) r.0) s.forward s.apart (omega arith)

pub counts_there : (h : History) (op : Operation) → answer h [] op ≡ Good → AllByRecursion (λ (c : UndoCount). has_edit (seen_history h (version_of op)) c.edit ≡ true) (counts_of op)
counts_there h op e =
    let g : History = seen_history h (version_of op) in
    each_map (λ (c : UndoCount). not (has_edit g c.edit) ≡ false) (λ (c : UndoCount). has_edit g c.edit ≡ true) (λ c n. not-false (has_edit g c.edit) n) (counts_of op)
    (find_none (λ c. not (has_edit g c.edit)) (counts_of op) (map_none (λ c. NoSuchEdit c.edit) (find (λ c. not (has_edit g c.edit)) (counts_of op)) (passed h [] op e).counts))

-- undos count edits that are there
abbrev pub Counted : History → Type 0
Counted h = (o : Operation) → In h o → AllByRecursion (λ (c : UndoCount). has_edit h c.edit ≡ true) (counts_of o)

seen_there : (v : Entries) (h : History) (t : Lamport) → has_edit (seen_history h v) t ≡ true → has_edit h t ≡ true
seen_there v [] t e = e
seen_there v (o ∷ h) t e = elim (cases_Bool (sees v (stamp_of o))) [
  | inl s ↦ both (is_edit o && same_stamp (stamp_of o) t) (seen_there v h t) (rw s at e)
  | inr s ↦ or_right (is_edit o && same_stamp (stamp_of o) t) (has_edit h t) (seen_there v h t (rw s at e))
]
  where
    both : (b : Bool) → (has_edit (seen_history h v) t ≡ true → has_edit h t ≡ true) → (b || has_edit (seen_history h v) t) ≡ true → (b || has_edit h t) ≡ true
    both true f x = refl
    both false f x = f x

pub more_there : (h g : History) (t : Lamport) → has_edit h t ≡ true → has_edit (h ++ g) t ≡ true
more_there [] g t e = cc
more_there (o ∷ h) g t e = one (is_edit o && same_stamp (stamp_of o) t) (more_there h g t) e
  where
    one : (b : Bool) → (has_edit h t ≡ true → has_edit (h ++ g) t ≡ true) → (b || has_edit h t) ≡ true → (b || has_edit (h ++ g) t) ≡ true
    one true f x = refl
    one false f x = f x

pub counted_more : (h : History) (op : Operation) → Counted h → answer h [] op ≡ Good → Counted (h ++ op ∷ [])
counted_more h op c e o i = elim (in_append h op o i) [
  | inl a ↦ each_map (λ (x : UndoCount). has_edit h x.edit ≡ true) (λ (x : UndoCount). has_edit (h ++ op ∷ []) x.edit ≡ true) (λ x g. more_there h (op ∷ []) x.edit g) (counts_of o) (c o a)
  | inr a ↦ subst (λ (z : Operation). AllByRecursion (λ (x : UndoCount). has_edit (h ++ op ∷ []) x.edit ≡ true) (counts_of z)) (sym a)
      (each_map (λ (x : UndoCount). has_edit (seen_history h (version_of op)) x.edit ≡ true) (λ (x : UndoCount). has_edit (h ++ op ∷ []) x.edit ≡ true)
      (λ x g. more_there h (op ∷ []) x.edit (seen_there (version_of op) h x.edit g)) (counts_of op)
      (counts_there h op e))
]

pub not_there : (h : History) (t : Lamport) → AllByRecursion (λ (o : Operation). stamp_of o ≡ t → ⊥) h → has_edit h t ≡ true → ⊥
not_there [] t n e = cc
not_there (o ∷ h) t n e = go (cases_Bool (same_stamp (stamp_of o) t)) (not_there h t n.1)
  where
    less : (b c d : Bool) → ((b && c) || d) ≡ true → c ≡ false → d ≡ true
    less true true d x y = cc
    less true false d x y = x
    less false c d x y = x

    go : (same_stamp (stamp_of o) t ≡ true) ⊎ (same_stamp (stamp_of o) t ≡ false) → (has_edit h t ≡ true → ⊥) → ⊥
    go (inl s) f = n.0 (same_stamp_eq (stamp_of o) t s)
    go (inr s) f = f (less (is_edit o) (same_stamp (stamp_of o) t) (has_edit h t) e s)

count_none : (l : History) (t : Lamport) → ((o : Operation) → In l o → greatest_given (counts_of o) t ≡ 0) → count l t ≡ 0
count_none [] t f = refl
count_none (o ∷ l) t f = let a = f o (inl refl) in let b = count_none l t (λ p i. f p (inr i)) in rw (a, b) refl

-- a stamp that is new is counted by no undo
pub uncounted_new : (h : History) (t : Lamport) → Counted h → AllByRecursion (λ (o : Operation). stamp_of o ≡ t → ⊥) h → count (newest_first h) t ≡ 0
uncounted_new h t c n = count_none (newest_first h) t (λ o i. given_none (counts_of o) t
    (λ d m e. not_there h t n (ap (has_edit h) (sym e) ∙ each_member (λ (x : UndoCount). has_edit h x.edit ≡ true) (counts_of o) d (c o ((newest_same h o).0 i)) m)))

counted_from : (h : History) (ops : List Operation) → Counted h → LawfulFrom h ops → Counted (h ++ ops)
counted_from h [] c l = subst Counted (sym (append-nil h)) c
counted_from h (op ∷ ops) c l = subst Counted (append_assoc h (op ∷ []) ops) (counted_from (h ++ op ∷ []) ops (counted_more h op c l.0) l.1)

pub lawful_counted : (h : History) → Lawful h → Counted h
lawful_counted [] l = absurd l
lawful_counted (op ∷ ops) l = counted_from (op ∷ []) ops (subst (λ (x : Operation). Counted (x ∷ [])) (sym l.0.1) none) l.1
  where
    none : Counted (base l.0.0 ∷ [])
    none o i = elim i [ inl e ↦ subst (λ (z : Operation). AllByRecursion (λ (c : UndoCount). has_edit (base l.0.0 ∷ []) c.edit ≡ true) (counts_of z)) (sym e) tt | inr e ↦ absurd e ]
