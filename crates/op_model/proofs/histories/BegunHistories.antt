-- A lawful history whose operations are all in another one begins a history of the same operations as that.
use Rattle.std.proofs.Common.{◌≡◌, ◌⊎◌, inl, inr, List, [], ◌∷◌, ◌++◌, refl, sym, ap, ◌∙◌, subst, true, ℕ, append_assoc, append-nil}
use Rattle.lamport_clock.specs.Versions.{within}
use Rattle.op_model.specs.declared.operation.Operation.{Operation}
use Rattle.op_model.specs.Operations.{stamp_of, version_of}
use Rattle.op_model.specs.Histories.{History, In, SameSet, base, version, seen_history}
use Rattle.op_model.specs.Answers.{answer}
use Rattle.op_model.specs.Answers.Answer.{Good, Repeat, Waits}
use Rattle.op_model.specs.Lawful.{Lawful, LawfulFrom}
use Rattle.op_model.specs.Laws.{PartsBeginHistories, SameVersionsSameSets}
use Rattle.op_model.proofs.Elements.{member_left}
use Rattle.op_model.proofs.answers.Good.{lawful_ready}
use Rattle.op_model.proofs.answers.NeverRefused.{never_refused}
use Rattle.op_model.proofs.settling.AllApplied.{good_within}
use Rattle.op_model.proofs.settling.HonestRuns.{repeat_in}
use Rattle.op_model.proofs.settling.Settling.{not_waits, within_none}
use Rattle.op_model.proofs.histories.Lawful.{distinct_same, in_append}
use Rattle.op_model.proofs.histories.MoreLawful.{lawful_more}
use Rattle.op_model.proofs.histories.ClosedVersions.{fronts_seen}
use Rattle.op_model.proofs.histories.VersionLaws.{seen_all}
use Rattle.op_model.proofs.histories.SameVersions.{version_same}

-- each operation of the one is in the other
abbrev Part : List Operation → List Operation → Type 0
Part h g = (o : Operation) → In h o → In g o

-- two bases of one lawful history are one
base_there : (g h : History) → Lawful g → Lawful h → Part h g → (b : Operation) → In g b → (t : List ℕ) → b ≡ base t → In h b
base_there g [] lg lh p b i t e = absurd lh
base_there g (c ∷ h) lg lh p b i t e =
    let s : stamp_of b ≡ stamp_of c = ap stamp_of e ∙ sym (ap stamp_of lh.0.1) in
    let q : b ≡ c = distinct_same g b c (lawful_ready g lg).0.distinct i (p c (inl refl)) s in
    inl q

in_first : (h : List Operation) (more : List Operation) (o : Operation) → In h o → In (h ++ more) o
in_first h more o i = member_left o h more i

-- what is put together
record Begun (g h : History) (ops : List Operation) : Type 0 where
  more : List Operation
  lawful : Lawful (h ++ more)
  all : Part ops (h ++ more)
  part : Part (h ++ more) g

grow : (g : History) → Lawful g → (ops p h : List Operation) → LawfulFrom p ops → Lawful h → Part p h → Part h g → Part ops g → Begun g h ops
grow g lg [] p h l lh a b c = record { more = []; lawful = subst Lawful (sym (append-nil h)) lh; all = λ o i. absurd i; part = λ o i. b o (subst (λ (x : List Operation). In x o) (append-nil h) i) }
grow g lg (op ∷ ops) p h l lh a b c = go (grow g lg ops) (never_refused g h [] op lg lh b (λ o i. absurd i) (c op (inl refl)))
  where
    seen : within (version_of op) (version h) ≡ true
    seen = good_within p h op l.0 a

    there : ((p h : List Operation) → LawfulFrom p ops → Lawful h → Part p h → Part h g → Part ops g → Begun g h ops) → In h op → Begun g h (op ∷ ops)
    there rec i =
        let r : Begun g h ops = rec (p ++ op ∷ []) h l.1 lh (λ o j. elim (in_append p op o j) [ inl x ↦ a o x | inr x ↦ subst (In h) (sym x) i ]) b (λ o j. c o (inr j)) in
        record { more = r.more; lawful = r.lawful; all = λ o j. elim j [ inl x ↦ in_first h r.more o (subst (In h) (sym x) i) | inr x ↦ r.all o x ]; part = r.part }

    fresh : ((p h : List Operation) → LawfulFrom p ops → Lawful h → Part p h → Part h g → Part ops g → Begun g h ops) → answer h [] op ≡ Good → Begun g h (op ∷ ops)
    fresh rec e =
        let new : In (h ++ op ∷ []) op = Rattle.op_model.proofs.Elements.member_right op h (op ∷ []) (inl refl) in
        let r : Begun g (h ++ op ∷ []) ops = rec (p ++ op ∷ []) (h ++ op ∷ []) l.1 (lawful_more h op lh e)
        (λ o j. elim (in_append p op o j) [ inl x ↦ in_first h (op ∷ []) o (a o x) | inr x ↦ subst (In (h ++ op ∷ [])) (sym x) new ])
        (λ o j. elim (in_append h op o j) [ inl x ↦ b o x | inr x ↦ subst (In g) (sym x) (c op (inl refl)) ])
        (λ o j. c o (inr j)) in
        let q : (h ++ op ∷ []) ++ r.more ≡ h ++ (op ∷ r.more) = append_assoc h (op ∷ []) r.more in
        record {
          more = op ∷ r.more;
          lawful = subst Lawful q r.lawful;
          all = λ o j. subst (λ (x : List Operation). In x o) q (elim j [ inl x ↦ in_first (h ++ op ∷ []) r.more o (subst (In (h ++ op ∷ [])) (sym x) new) | inr x ↦ r.all o x ]);
          part = λ o j. r.part o (subst (λ (x : List Operation). In x o) (sym q) j);
        }

    go : ((p h : List Operation) → LawfulFrom p ops → Lawful h → Part p h → Part h g → Part ops g → Begun g h ops) → ((t : List ℕ) × (op ≡ base t)) ⊎ ((answer h [] op ≡ Repeat) ⊎ (((e : ℕ × ℕ) × (answer h [] op ≡ Waits e.0 e.1)) ⊎ (answer h [] op ≡ Good))) → Begun g h (op ∷ ops)
    go rec (inl x) = there rec (base_there g h lg lh b op (c op (inl refl)) x.0 x.1)
    go rec (inr (inl x)) = there rec (elim (repeat_in h [] op x) [ inl i ↦ i | inr i ↦ absurd i ])
    go rec (inr (inr (inl x))) = absurd (not_waits h [] op x.0.0 x.0.1 (within_none h (version_of op) seen) x.1)
    go rec (inr (inr (inr x))) = fresh rec x

pub part_begins : PartsBeginHistories
part_begins h [] lh lg p = absurd lg
part_begins h (b ∷ ops) lh lg p =
    let first : In h b = base_there (b ∷ ops) h lg lh p b (inl refl) lg.0.0 lg.0.1 in
    let r : Begun (b ∷ ops) h ops = grow (b ∷ ops) lg ops (b ∷ []) h lg.1 lh (λ o i. elim i [ inl x ↦ subst (In h) (sym x) first | inr x ↦ absurd x ]) p (λ o i. inr i) in
    (r.more, r.lawful, λ o. (r.part o, λ i. elim i [ inl x ↦ in_first h r.more o (subst (In h) (sym x) first) | inr x ↦ r.all o x ]))

pub versions_tell : SameVersionsSameSets
versions_tell h g lh lg p v =
    let r = part_begins h g lh lg p in
    let k : History = h ++ r.0 in
    let w : version k ≡ version g = version_same k g r.1 lg r.2 in
    let e : h ≡ k = sym (fronts_seen h r.0 lh r.1).1 ∙ ap (seen_history k) (v ∙ sym w) ∙ seen_all k in
    subst (λ (x : History). SameSet x g) (sym e) r.2
