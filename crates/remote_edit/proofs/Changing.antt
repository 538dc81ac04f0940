-- A piece without range and text changes no facts of the cells.
use Rattle.std.proofs.Common.{◌≡◌, ℕ, ◌+◌, ◌-◌, ◌<◌, ◌≤◌, Bool, List, [], ◌∷◌, length, refl, sym, ap, ◌∙◌, arith, subst, ◌&&◌, ◌||◌, true, false, inl, inr, leb, ltb}
use Rattle.std.proofs.lemmas.Bool.{cases_Bool, leb-true, le-ltb, ltb-false}
use Rattle.std.specs.List.{AllByRecursion, filter}
use Rattle.lamport_clock.specs.declared.stamp.Lamport.{Lamport}
use Rattle.lamport_clock.specs.Versions.{sees}
use Rattle.lamport_clock.proofs.Later.{later_irrefl}
use Rattle.lamport_clock.proofs.Sees.{passed_unseen}
use Rattle.op_model.specs.declared.operation.Piece.{Piece}
use Rattle.op_model.specs.declared.operation.Operation.{Operation}
use Rattle.op_model.specs.Operations.{stamp_of, version_of, pieces_of}
use Rattle.op_model.specs.Histories.{History}
use Rattle.op_model.specs.Shown.{in_pieces}
use Rattle.op_model.specs.Answers.{answer}
use Rattle.op_model.specs.Answers.Answer.{Good}
use Rattle.op_model.specs.Lawful.{Lawful}
use Rattle.op_model.specs.Facts.{Fact, cell_facts, alike, Marking, lay_facts, marks, put_at, fact_index_after}
use Rattle.op_model.specs.Walked.{Run, facts_of, kept_len, Ordered, walk}
use Rattle.op_model.proofs.shown.Walking.{walk_lays}
use Rattle.op_model.proofs.answers.Counted.{good_ordered}
use Rattle.op_model.proofs.shown.OnePass.{not_self}
use Rattle.op_model.proofs.histories.OneMore.{Fits}
use Rattle.op_model.proofs.answers.Good.{lawful_ready, checked_of, fits_of}
use Rattle.op_model.proofs.shown.Alike.{put_none, kept_len_seen}
use Rattle.op_model.proofs.texts.Pieces.{ordered_down}
use Rattle.remote_edit.specs.Walk.{changes}

-- the pieces that change something
abbrev pub changing : List Piece → List Piece
changing ps = filter changes ps

pub no_text : (p : Piece) → changes p ≡ false → length p.text ≡ 0
no_text p e = go (ltb p.start p.end) (ltb 0 (length p.text)) e refl
  where
    go : (a b : Bool) → (a || b) ≡ false → ltb 0 (length p.text) ≡ b → length p.text ≡ 0
    go true b e f = cc
    go false true e f = cc
    go false false e f = let k = ltb-false 0 (length p.text) f in omega arith

no_range : (p : Piece) → changes p ≡ false → p.end ≤ p.start
no_range p e = go (ltb p.start p.end) (ltb 0 (length p.text)) e refl
  where
    go : (a b : Bool) → (a || b) ≡ false → ltb p.start p.end ≡ a → p.end ≤ p.start
    go true b e f = cc
    go false b e f = ltb-false p.start p.end f

lay_changing : (keep : Lamport → Bool) (t : Lamport) (at k : ℕ) (ps : List Piece) (s : List Fact) → lay_facts keep t at k (changing ps) s ≡ lay_facts keep t at k ps s
lay_changing keep t at k [] s = refl
lay_changing keep t at k (p ∷ ps) s = elim (cases_Bool (changes p)) [
  | inl e ↦ rw e (ap (λ (r : List Fact). put_at (fact_index_after keep r (p.start - at)) t (alike t k (length p.text) true []) r) (lay_changing keep t at (k + length p.text) ps s))
  | inr e ↦ rw e (
      let n = no_text p e in
      let r : List Fact = lay_facts keep t at (k + length p.text) ps s in
      let z : k ≡ k + length p.text = omega arith in
      lay_changing keep t at k ps s ∙ ap (λ (j : ℕ). lay_facts keep t at j ps s) z ∙ sym (put_none (fact_index_after keep r (p.start - at)) t r)
      ∙ ap (λ (j : ℕ). put_at (fact_index_after keep r (p.start - at)) t (alike t k j true []) r) (sym n))
]

-- ---- no cell is in its range

outside : (i a z : ℕ) → z ≤ a → (leb a i && ltb i z) ≡ false
outside i a z h = elim (cases_Bool (leb a i)) [ inl e ↦ (let k = leb-true a i e in rw e (le-ltb i z (omega arith))) | inr e ↦ rw e refl ]

in_changing : (ps : List Piece) (i : ℕ) → in_pieces ps i ≡ in_pieces (changing ps) i
in_changing [] i = refl
in_changing (p ∷ ps) i = elim (cases_Bool (changes p)) [
  | inl e ↦ rw e (ap (λ (b : Bool). (leb p.start i && ltb i p.end) || b) (in_changing ps i))
  | inr e ↦ rw e (ap (λ (b : Bool). b || in_pieces ps i) (outside i p.start p.end (no_range p e)) ∙ in_changing ps i)
]

-- ---- the others are in order

pub ordered_changing : (at end : ℕ) (ps : List Piece) → Ordered at end ps → Ordered at end (changing ps)
ordered_changing at end [] o = o
ordered_changing at end (p ∷ ps) o = elim (cases_Bool (changes p)) [
  | inl e ↦ rw e ((o.0, o.1, ordered_changing p.end end ps o.2))
  | inr e ↦ rw e (ordered_changing at end ps (let k = o.0 in let l = o.1 in ordered_down at p.end end ps (omega arith) o.2))
]

-- the walk with and without them
pub walk_changing : (h : History) (op : Operation) (m : Marking) (rs : List Run) → Lawful h → answer h [] op ≡ Good → AllByRecursion (λ (r : Run). 0 < r.len) rs → facts_of rs ≡ cell_facts h
    → facts_of (walk m (sees (version_of op)) (stamp_of op) 0 0 (changing (pieces_of op)) rs) ≡ facts_of (walk m (sees (version_of op)) (stamp_of op) 0 0 (pieces_of op) rs)
walk_changing h op m rs l g some s =
    let v : Lamport → Bool = sees (version_of op) in
    let ps : List Piece = pieces_of op in
    let t : Lamport = stamp_of op in
    let k = checked_of h op g in
    let f : Fits h op = fits_of h op (lawful_ready h l).0 k.0 k.1 in
    let n = kept_len_seen h op rs l g s in
    let o : Ordered 0 (0 + kept_len v rs) ps = subst (λ z. Ordered 0 z ps) (omega arith) (good_ordered h op g) in
    let lays : (qs : List Piece) → Ordered 0 (0 + kept_len v rs) qs → ((j : ℕ) → in_pieces ps j ≡ in_pieces qs j)
    → lay_facts v t 0 0 qs (marks m v (in_pieces ps) 0 (facts_of rs)) ≡ facts_of (walk m v t 0 0 qs rs)
    = λ qs w i. walk_lays m v t (in_pieces ps) (not_self h op f) (later_irrefl t) (λ u. passed_unseen (version_of op) t u f.above) 0 0 qs rs some w (λ j x. i j) in
    sym (lays (changing ps) (ordered_changing 0 (0 + kept_len v rs) ps o) (in_changing ps))
    ∙ lay_changing v t 0 0 ps (marks m v (in_pieces ps) 0 (facts_of rs))
    ∙ lays ps o (λ j. refl)
