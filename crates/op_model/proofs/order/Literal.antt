-- The definitions in their own words: left neighbours, cells and deletions by the sequence of the part that a version
-- sees.
use Rattle.op_model.proofs.Elements.{each_map, each_append, false_from}
use Rattle.std.proofs.Common.{◌≡◌, Bool, List, [], ◌∷◌, ◌++◌, map, refl, sym, ◌∙◌, ap, subst, inl, inr, true, false, cond, ◌&&◌, arith, append_assoc}
use Rattle.std.proofs.lemmas.Bool.{leb-true}
use Rattle.std.specs.List.{AllByRecursion, filter}
use Rattle.lamport_clock.specs.declared.stamp.Lamport.{Lamport}
use Rattle.lamport_clock.specs.Stamps.{later}
use Rattle.lamport_clock.specs.Versions.{Entries, entry, sees}
use Rattle.lamport_clock.proofs.Later.{later_irrefl, one_way, later_of}
use Rattle.op_model.specs.declared.operation.Operation.{Operation}
use Rattle.op_model.specs.Sorted.{Member}
use Rattle.op_model.specs.Operations.{stamp_of, version_of, pieces_of}
use Rattle.op_model.specs.Histories.{History, In, kept_history, seen_history, newest_first}
use Rattle.op_model.specs.Cells.{Cell, PathCell, before, put_all, op_places, both, everything, seq_where, seq}
use Rattle.op_model.specs.Shown.{in_ranges, visible_by, deleters_where, shows_where, shows, deleters, deletes}
use Rattle.op_model.specs.Lawful.{Lawful}
use Rattle.op_model.proofs.order.Insertion.{member_new, member_old}
use Rattle.op_model.proofs.order.LateOperation.{seq_kept, seq_unkept}
use Rattle.op_model.proofs.order.SameSets.{Desc, newest_desc, newest_same, each_in, seq_seen}
use Rattle.op_model.proofs.shown.Deleters.{hits, deleters_kept, deleters_unkept}
use Rattle.op_model.proofs.shown.Parts.{shown_seen}
use Rattle.op_model.proofs.histories.Lawful.{LawInv, each_of_in}
use Rattle.op_model.proofs.answers.Good.{lawful_ready}

-- v sees none of them
abbrev pub SeesNone : Entries → History → Type 0
SeesNone v pre = AllByRecursion (λ (o : Operation). sees v (stamp_of o) ≡ false) pre

pub seq_past : (v : Entries) (pre rest : History) → SeesNone v pre → seq_where (sees v) (pre ++ rest) ≡ seq_where (sees v) rest
seq_past v [] rest e = refl
seq_past v (o ∷ pre) rest e = seq_unkept (sees v) o (pre ++ rest) e.0 ∙ seq_past v pre rest e.1

pub kept_past : (v : Entries) (pre rest : History) → SeesNone v pre → kept_history (sees v) (pre ++ rest) ≡ kept_history (sees v) rest
kept_past v [] rest e = refl
kept_past v (o ∷ pre) rest e = rw e.0 (kept_past v pre rest e.1)

pub deleters_past : (v : Entries) (pre rest : History) (c : Cell) → SeesNone v pre → deleters_where (sees v) (pre ++ rest) c ≡ deleters_where (sees v) rest c
deleters_past v [] rest c e = refl
deleters_past v (o ∷ pre) rest c e = deleters_unkept (sees v) o (pre ++ rest) c e.0 ∙ deleters_past v pre rest c e.1

pub shown_past : (v : Entries) (pre rest : History) (c : Cell) → SeesNone v pre → shows_where (sees v) (pre ++ rest) c ≡ shows_where (sees v) rest c
unfolding shows_where
shown_past v pre rest c e = ap (λ (x : History). visible_by x c.stamp (deleters_where (sees v) (pre ++ rest) c)) (kept_past v pre rest e)
    ∙ ap (λ (x : List Lamport). visible_by (kept_history (sees v) rest) c.stamp x) (deleters_past v pre rest c e)

-- no operation of the list sees itself or one before it in the list, which are later
abbrev pub Unseeing : History → Type 0
Unseeing [] = Unit {0}
Unseeing (o ∷ h) = (sees (version_of o) (stamp_of o) ≡ false) × AllByRecursion (λ (p : Operation). sees (version_of p) (stamp_of o) ≡ false) h × Unseeing h

-- the operations of the list see none of pre
abbrev Behind : History → History → Type 0
Behind pre rest = AllByRecursion (λ (o : Operation). SeesNone (version_of o) pre) rest

behind_more : (pre : History) (o : Operation) (rest : History) → Behind pre rest → AllByRecursion (λ (p : Operation). sees (version_of p) (stamp_of o) ≡ false) rest → Behind (pre ++ o ∷ []) rest
behind_more pre o [] a b = tt
behind_more pre o (p ∷ rest) a b = (each_append (λ (q : Operation). sees (version_of p) (stamp_of q) ≡ false) pre (o ∷ []) a.0 (b.0, tt), behind_more pre o rest a.1 b.1)

behind_none : (rest : History) → Behind [] rest
behind_none [] = tt
behind_none (o ∷ rest) = (tt, behind_none rest)

module _ (h : History) where
  -- what an operation sees of the operations after it is what it sees of all
  seq_literal : (pre : History) (o : Operation) (rest : History) → newest_first h ≡ (pre ++ o ∷ []) ++ rest → SeesNone (version_of o) (pre ++ o ∷ [])
      → seq (seen_history h (version_of o)) ≡ seq_where (sees (version_of o)) rest
  seq_literal pre o rest i e = seq_seen h (version_of o) ∙ ap (seq_where (sees (version_of o))) i ∙ seq_past (version_of o) (pre ++ o ∷ []) rest e

  shown_literal : (pre : History) (o : Operation) (rest : History) (c : Cell) → newest_first h ≡ (pre ++ o ∷ []) ++ rest → SeesNone (version_of o) (pre ++ o ∷ [])
      → shows (seen_history h (version_of o)) c ≡ shows_where (sees (version_of o)) rest c
  shown_literal pre o rest c i e = shown_seen h (version_of o) c ∙ ap (λ (x : History). shows_where (sees (version_of o)) x c) i ∙ shown_past (version_of o) (pre ++ o ∷ []) rest c e

  hits_literal : (pre : History) (o : Operation) (rest : History) (c : Cell) → newest_first h ≡ (pre ++ o ∷ []) ++ rest → SeesNone (version_of o) (pre ++ o ∷ [])
      → deletes h o c ≡ hits everything o rest c
  unfolding shows_where
  hits_literal pre o rest c i e =
      ap (λ (x : List PathCell). in_ranges x 0 (pieces_of o) c && shows (seen_history h (version_of o)) c) (seq_literal pre o rest i e)
      ∙ ap (λ (b : Bool). in_ranges (seq_where (sees (version_of o)) rest) 0 (pieces_of o) c && b) (shown_literal pre o rest c i e)

  step : (pre : History) (o : Operation) (rest : History) → newest_first h ≡ pre ++ o ∷ rest → newest_first h ≡ (pre ++ o ∷ []) ++ rest
  step pre o rest i = i ∙ sym (append_assoc pre (o ∷ []) rest)

  own : (pre : History) (o : Operation) (rest : History) → Behind pre (o ∷ rest) → sees (version_of o) (stamp_of o) ≡ false → SeesNone (version_of o) (pre ++ o ∷ [])
  own pre o rest b s = each_append (λ (q : Operation). sees (version_of o) (stamp_of q) ≡ false) pre (o ∷ []) b.0 (s, tt)

  pub deleters_from : (pre rest : History) (c : Cell) → newest_first h ≡ pre ++ rest → Behind pre rest → Unseeing rest
      → deleters_where everything rest c ≡ map stamp_of (filter (λ o. deletes h o c) rest)
  unfolding deleters_where
  deleters_from pre [] c i b u = refl
  deleters_from pre (o ∷ rest) c i b u =
      let j = step pre o rest i in
      let n = own pre o rest b u.0 in
      let ih = deleters_from (pre ++ o ∷ []) rest c j (behind_more pre o rest b.1 u.1) u.2 in
      deleters_kept everything o rest c refl ∙ ap (λ (x : Bool). cond x (stamp_of o ∷ deleters_where everything rest c) (deleters_where everything rest c)) (sym (hits_literal pre o rest c j n))
      ∙ pick (deletes h o c) (deleters_where everything rest c) ih
    where
      pick : (x : Bool) (d : List Lamport) → d ≡ map stamp_of (filter (λ q. deletes h q c) rest)
          → cond x (stamp_of o ∷ d) d ≡ map stamp_of (cond x (o ∷ filter (λ q. deletes h q c) rest) (filter (λ q. deletes h q c) rest))
      pick true d e = ap (λ (y : List Lamport). stamp_of o ∷ y) e
      pick false d e = e

  pub places_from : (pre rest : History) → newest_first h ≡ pre ++ rest → Behind pre rest → Unseeing rest
      → (o : Operation) → In rest o → AllByRecursion (λ (p : PathCell). Member p (seq_where everything rest)) (op_places (seq (seen_history h (version_of o))) o)
  places_from pre [] i b u o m = absurd m
  places_from pre (q ∷ rest) i b u o m =
      let j = step pre q rest i in
      let n = own pre q rest b u.0 in
      elim m [
        | inl e ↦ here e (seq_literal pre q rest j n)
        | inr e ↦ below (places_from (pre ++ q ∷ []) rest j (behind_more pre q rest b.1 u.1) u.2 o e)
      ]
    where
      grow : List PathCell
      grow = op_places (seq_where (both everything (version_of q)) rest) q

      to_all : (xs : List PathCell) → AllByRecursion (λ (p : PathCell). Member p (put_all grow (seq_where everything rest))) xs → AllByRecursion (λ (p : PathCell). Member p (seq_where everything (q ∷ rest))) xs
      to_all xs e = subst (λ (s : List PathCell). AllByRecursion (λ (p : PathCell). Member p s) xs) (sym (seq_kept everything q rest refl)) e

      here : o ≡ q → seq (seen_history h (version_of q)) ≡ seq_where (sees (version_of q)) rest
          → AllByRecursion (λ (p : PathCell). Member p (seq_where everything (q ∷ rest))) (op_places (seq (seen_history h (version_of o))) o)
      here e l = subst (λ (x : Operation). AllByRecursion (λ (p : PathCell). Member p (seq_where everything (q ∷ rest))) (op_places (seq (seen_history h (version_of x))) x)) (sym e)
          (subst (λ (s : List PathCell). AllByRecursion (λ (p : PathCell). Member p (seq_where everything (q ∷ rest))) (op_places s q)) (sym l)
          (to_all grow (member_new before grow (seq_where everything rest))))

      below : AllByRecursion (λ (p : PathCell). Member p (seq_where everything rest)) (op_places (seq (seen_history h (version_of o))) o)
          → AllByRecursion (λ (p : PathCell). Member p (seq_where everything (q ∷ rest))) (op_places (seq (seen_history h (version_of o))) o)
      below e = to_all (op_places (seq (seen_history h (version_of o))) o)
          (each_map (λ (p : PathCell). Member p (seq_where everything rest)) (λ (p : PathCell). Member p (put_all grow (seq_where everything rest)))
          (λ p m. member_old before p grow (seq_where everything rest) m) (op_places (seq (seen_history h (version_of o))) o) e)

pub unseeing_of : (h : History) → Desc h → ((o : Operation) → In h o → (u : Lamport) → sees (version_of o) u ≡ true → later (stamp_of o) u ≡ true) → Unseeing h
unseeing_of [] d f = tt
unseeing_of (o ∷ h) d f = (
  false_from (sees (version_of o) (stamp_of o)) (later (stamp_of o) (stamp_of o)) (f o (inl refl) (stamp_of o)) (later_irrefl (stamp_of o)),
  each_of_in (λ (p : Operation). sees (version_of p) (stamp_of o) ≡ false) h
      (λ p i. false_from (sees (version_of p) (stamp_of o)) (later (stamp_of p) (stamp_of o)) (f p (inr i) (stamp_of o))
      (one_way (stamp_of o) (stamp_of p) (each_in (λ (q : Operation). later (stamp_of o) (stamp_of q) ≡ true) h p d.0 i))),
  unseeing_of h d.1 (λ p i. f p (inr i)),
)

above : (h : History) → LawInv h → (o : Operation) → In (newest_first h) o → (u : Lamport) → sees (version_of o) u ≡ true → later (stamp_of o) u ≡ true
above h inv o i u s = let n = leb-true u.value (entry (version_of o) u.replica) s in
    let k = inv.above o ((newest_same h o).0 i) u.replica in later_of (stamp_of o) u (omega arith)

pub unseeing : (h : History) → LawInv h → Unseeing (newest_first h)
unseeing h inv = unseeing_of (newest_first h) (newest_desc h inv.distinct) (above h inv)

-- an edit deletes exactly the cells at its ranges of what its version sees that are shown there
pub lawful_deleters : (h : History) → Lawful h → (c : Cell) → deleters h c ≡ map stamp_of (filter (λ o. deletes h o c) (newest_first h))
lawful_deleters h l c = deleters_from h [] (newest_first h) c refl (behind_none (newest_first h)) (unseeing h (lawful_ready h l).0)

-- the cells of an operation stand where the sequence of what its version sees puts them
pub lawful_places : (h : History) → Lawful h → (o : Operation) → In h o → AllByRecursion (λ (p : PathCell). Member p (seq h)) (op_places (seq (seen_history h (version_of o))) o)
unfolding seq
lawful_places h l o i = places_from h [] (newest_first h) refl (behind_none (newest_first h)) (unseeing h (lawful_ready h l).0) o ((newest_same h o).1 i)
