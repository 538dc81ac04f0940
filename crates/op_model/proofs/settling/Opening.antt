-- A list opens without fault exactly where a buffer may have applied it; where all keep the rule Lf there is no CR.
use Rattle.std.proofs.Common.{◌≡◌, ℕ, zero, suc, ◌+◌, ◌<◌, ◌≤◌, ◌⊎◌, Bool, List, [], ◌∷◌, ◌++◌, map, length, get_or, refl, sym, ◌∙◌, ap, subst, inl, inr, true, false, cond, eqb, arith, append_assoc, append-nil, None, Some, Option}
use Rattle.std.specs.Prelude.{option_map}
use Rattle.std.specs.List.{AllByRecursion, list_any, position}
use Rattle.std.proofs.lemmas.Bool.{cases_Bool, or_parts}
use Rattle.std.proofs.lemmas.List.Folds.{list_any-append}
use Rattle.lamport_clock.specs.Stamps.{same_stamp}
use Rattle.lamport_clock.specs.declared.stamp.Lamport.{Lamport}
use Rattle.op_model.specs.declared.operation.Piece.{Piece}
use Rattle.op_model.specs.declared.operation.Operation.{Operation}
use Rattle.op_model.specs.declared.endings.Endings.TheVariants.{Lf}
use Rattle.op_model.specs.declared.faults.OpFault.{OpFault}
use Rattle.op_model.specs.declared.faults.OpFault.TheVariants.{Full, CarriageReturn}
use Rattle.op_model.specs.declared.faults.OpenFault.{OpenFault}
use Rattle.op_model.specs.declared.faults.OpenFault.TheVariants.{NotBase, Op}
use Rattle.op_model.specs.Choice.{first_of}
use Rattle.op_model.specs.Operations.{stamp_of, pieces_of, bytes_of, entries_of}
use Rattle.op_model.specs.Histories.{History, base, bytes_held, entries_held}
use Rattle.op_model.specs.Limited.{Excess, excess}
use Rattle.op_model.specs.Cells.{Cell, seq, cells}
use Rattle.op_model.specs.Shown.{texts, full, byte, new_bytes, IsCell}
use Rattle.op_model.specs.Answers.{Answer, same_op}
use Rattle.op_model.specs.Answers.Answer.{Good, Repeat, Waits, Refused}
use Rattle.op_model.specs.Lawful.{LawfulFrom}
use Rattle.op_model.specs.Rules.{Rules, KeepsRule, rule_fault, answer_under, has_return}
use Rattle.op_model.specs.Settled.{full_fault}
use Rattle.op_model.specs.Steps.{ask_limits, take_answer}
use Rattle.op_model.specs.Opened.{is_base, state_of, fault_at, fault_from, base_open_fault, open_fault, MayHaveApplied}
use Rattle.op_model.proofs.Elements.{each_append}
use Rattle.op_model.proofs.answers.Passed.{all_none, first_past, map_none, none_map, position_none}
use Rattle.op_model.proofs.answers.Under.{under_good, under_clean}
use Rattle.op_model.proofs.histories.Growing.{room_in, entries_more}
use Rattle.op_model.proofs.histories.Append.{bytes_held-append}
use Rattle.op_model.proofs.histories.Proper.{same_is, is_same}
use Rattle.op_model.proofs.settling.Settling.{limited_good}
use Rattle.op_model.proofs.settling.HonestSets.{holds_more}

-- ---- what is held of a front

held_front : (h g : History) → (bytes_held h ≤ bytes_held (h ++ g)) × (entries_held h ≤ entries_held (h ++ g))
held_front [] g = (omega arith, omega arith)
held_front (op ∷ h) g = let i = held_front h g in let a = i.0 in (omega arith, go (eqb (stamp_of op).replica 0) i.1)
  where
    go : (b : Bool) → entries_held h ≤ entries_held (h ++ g) → cond b (entries_held h) (entries_of op + entries_held h) ≤ cond b (entries_held (h ++ g)) (entries_of op + entries_held (h ++ g))
    go true e = e
    go false e = omega arith

-- ---- one operation

good_of : (i : ℕ) (a : Answer) → fault_at i a ≡ None → a ≡ Good
good_of i Good e = refl
good_of i Repeat e = cc
good_of i (Waits r v) e = cc
good_of i (Refused f) e = cc

pub limits_of_good : (a : Answer) (f : Option OpFault) → ask_limits a f ≡ Good → f ≡ None
limits_of_good Good None e = refl
limits_of_good Good (Some x) e = cc
limits_of_good Repeat f e = cc
limits_of_good (Waits r v) f e = cc
limits_of_good (Refused x) f e = cc

both_good : (a : Answer) (f : Option OpFault) → a ≡ Good → f ≡ None → ask_limits a f ≡ Good
both_good Good None e n = refl
both_good Good (Some x) e n = cc
both_good Repeat f e n = cc
both_good (Waits r v) f e n = cc
both_good (Refused x) f e n = cc

-- ---- all after the base

record Stays (l : Rules) (h : History) : Type 0 where
  rule : KeepsRule l.endings h
  bytes : bytes_held h ≤ l.limits.bytes
  entries : entries_held h ≤ l.limits.entries

opened : (l : Rules) (i : ℕ) (h ops : History) → Stays l h → fault_from l i h ops ≡ None → LawfulFrom h ops × Stays l (h ++ ops)
opened l i h [] s e = (tt, subst (Stays l) (sym (append-nil h)) s)
opened l i h (op ∷ ops) s e =
    let n = all_none (fault_at i (take_answer l (state_of h) op) ∷ fault_from l (suc i) (h ++ op ∷ []) ops ∷ []) e in
    let t : take_answer l (state_of h) op ≡ Good = good_of i (take_answer l (state_of h) op) n.0 in
    let u = under_good l.endings h [] op (limited_good (answer_under l.endings h [] op) (full_fault l h op) t) in
    let f : full_fault l h op ≡ None = limits_of_good (answer_under l.endings h [] op) (full_fault l h op) t in
    let r = room_in l.limits h (bytes_of op) (entries_of op) (map_none (λ (x : Excess). Full x.unit x.held x.adds) (excess l.limits h (bytes_of op) (entries_of op)) f) in
    let a = bytes_held-append h op in
    let b = entries_more h op u.0 in
    let x = r.0 in let y = r.1 in
    let k = opened l (suc i) (h ++ op ∷ []) ops (record {
      rule = each_append (λ (o : Operation). rule_fault l.endings o ≡ None) h (op ∷ []) s.rule (u.1, tt);
      bytes = omega arith;
      entries = omega arith;
    }) n.1.0 in
    ((u.0, k.0), subst (Stays l) (append_assoc h (op ∷ []) ops) k.1)

opens : (l : Rules) (i : ℕ) (h ops : History) → LawfulFrom h ops → KeepsRule l.endings ops → bytes_held (h ++ ops) ≤ l.limits.bytes → entries_held (h ++ ops) ≤ l.limits.entries → fault_from l i h ops ≡ None
opens l i h [] p r b e = refl
opens l i h (op ∷ ops) p r b e =
    let g : answer_under l.endings h [] op ≡ Good = under_clean l.endings h [] op r.0 ∙ p.0 in
    let q : (h ++ op ∷ []) ++ ops ≡ h ++ op ∷ ops = append_assoc h (op ∷ []) ops in
    let m = held_front (h ++ op ∷ []) ops in
    let m0 = m.0 in let m1 = m.1 in
    let x = bytes_held-append h op in
    let y = entries_more h op p.0 in
    let bb : bytes_held ((h ++ op ∷ []) ++ ops) ≤ l.limits.bytes = subst (λ (z : History). bytes_held z ≤ l.limits.bytes) (sym q) b in
    let ee : entries_held ((h ++ op ∷ []) ++ ops) ≤ l.limits.entries = subst (λ (z : History). entries_held z ≤ l.limits.entries) (sym q) e in
    let f : full_fault l h op ≡ None = holds_more l h op (omega arith) (omega arith) in
    let t : take_answer l (state_of h) op ≡ Good = both_good (answer_under l.endings h [] op) (full_fault l h op) g f in
    first_past (fault_at i (take_answer l (state_of h) op)) (fault_from l (suc i) (h ++ op ∷ []) ops ∷ []) (ap (fault_at i) t)
    ∙ first_past (fault_from l (suc i) (h ++ op ∷ []) ops) [] (opens l (suc i) (h ++ op ∷ []) ops p.1 r.1 bb ee)

-- ---- the base

base_is : (t : List ℕ) → is_base (base t) ≡ true
base_is t = subst (λ (x : List ℕ). same_op (base t) (base x) ≡ true) (sym (append-nil t)) (is_same (base t))

base_of : (op : Operation) → is_base op ≡ true → (t : List ℕ) × (op ≡ base t)
base_of op e = (texts (pieces_of op), same_is op (base (texts (pieces_of op))) e)

pub opens_applied : (l : Rules) (ops : List Operation) → (open_fault l ops ≡ None → MayHaveApplied l ops) × (MayHaveApplied l ops → open_fault l ops ≡ None)
opens_applied l [] = ((λ e. cc), (λ m. absurd m.lawful))
opens_applied l (op ∷ ops) = (there (cases_Bool (is_base op)), back)
  where
    none_if : (b : Bool) (x : Option OpenFault) → cond b x (Some NotBase) ≡ None → (b ≡ true) × (x ≡ None)
    none_if true x e = (refl, e)
    none_if false x e = cc

    there : (is_base op ≡ true) ⊎ (is_base op ≡ false) → open_fault l (op ∷ ops) ≡ None → MayHaveApplied l (op ∷ ops)
    there c e =
        let n = none_if (is_base op) (first_of (base_open_fault l op ∷ fault_from l 1 (op ∷ []) ops ∷ [])) e in
        let m = all_none (base_open_fault l op ∷ fault_from l 1 (op ∷ []) ops ∷ []) n.1 in
        let o = all_none (option_map (Op 0) (rule_fault l.endings op) ∷ option_map (λ (x : Excess). Op 0 (Full x.unit x.held x.adds)) (excess l.limits [] (bytes_of op) 0) ∷ []) m.0 in
        let r = room_in l.limits [] (bytes_of op) 0 (map_none (λ (x : Excess). Op 0 (Full x.unit x.held x.adds)) (excess l.limits [] (bytes_of op) 0) o.1.0) in
        let b = base_of op n.0 in
        let x = r.0 in
        let z : entries_held (op ∷ []) ≡ 0 = ap (λ (p : Operation). entries_held (p ∷ [])) b.1 in
        let k = opened l 1 (op ∷ []) ops (record {
          rule = (map_none (Op 0) (rule_fault l.endings op) o.0, tt);
          bytes = omega arith;
          entries = omega arith;
        }) m.1.0 in
        record { lawful = (b, k.0); rule = k.1.rule; bytes = k.1.bytes; entries = k.1.entries }

    back : MayHaveApplied l (op ∷ ops) → open_fault l (op ∷ ops) ≡ None
    back m =
        let b = m.lawful.0 in
        let i : is_base op ≡ true = subst (λ (p : Operation). is_base p ≡ true) (sym b.1) (base_is b.0) in
        let h = held_front (op ∷ []) ops in
        let x = h.0 in
        let y = m.bytes in
        let q : excess l.limits [] (bytes_of op) 0 ≡ None = first_limits (omega arith) in
        let o : base_open_fault l op ≡ None =
        first_past (option_map (Op 0) (rule_fault l.endings op)) _ (none_map (Op 0) (rule_fault l.endings op) m.rule.0)
        ∙ first_past (option_map (λ (x : Excess). Op 0 (Full x.unit x.held x.adds)) (excess l.limits [] (bytes_of op) 0)) [] (none_map (λ (x : Excess). Op 0 (Full x.unit x.held x.adds)) (excess l.limits [] (bytes_of op) 0) q) in
        ap (λ (c : Bool). cond c (first_of (base_open_fault l op ∷ fault_from l 1 (op ∷ []) ops ∷ [])) (Some NotBase)) i
        ∙ first_past (base_open_fault l op) (fault_from l 1 (op ∷ []) ops ∷ []) o
        ∙ first_past (fault_from l 1 (op ∷ []) ops) [] (opens l 1 (op ∷ []) ops m.lawful.1 m.rule.1 m.bytes m.entries)
      where
        first_limits : bytes_of op ≤ l.limits.bytes → excess l.limits [] (bytes_of op) 0 ≡ None
        first_limits b = rw (Rattle.std.proofs.lemmas.Bool.le-ltb l.limits.bytes (0 + bytes_of op) (omega arith), Rattle.std.proofs.lemmas.Bool.le-ltb l.limits.entries (0 + 0) (omega arith)) refl

-- ---- no CR

abbrev Bare : List ℕ → Type 0
Bare t = list_any (λ b. eqb b 13) t ≡ false

bare_append : (a b : List ℕ) → Bare a → Bare b → Bare (a ++ b)
bare_append a b x y = list_any-append (λ c. eqb c 13) a b ∙ rw (x, y) refl

bare_texts : (ps : List Piece) → AllByRecursion (λ (p : Piece). has_return p ≡ false) ps → Bare (texts ps)
bare_texts [] e = refl
bare_texts (p ∷ ps) e = bare_append p.text (texts ps) e.0 (bare_texts ps e.1)

bare_op : (op : Operation) → rule_fault Lf op ≡ None → Bare (texts (pieces_of op))
bare_op op e = bare_texts (pieces_of op) (position_none has_return (pieces_of op) (map_none CarriageReturn (position has_return (pieces_of op)) e))

bare_bytes : (h : History) (t : Lamport) → KeepsRule Lf h → Bare (new_bytes h t)
bare_bytes [] t k = refl
bare_bytes (op ∷ h) t k = elim (cases_Bool (same_stamp (stamp_of op) t)) [
  | inl y ↦ rw y (bare_op op k.0)
  | inr n ↦ rw n (bare_bytes h t k.1)
]

bare_at : (t : List ℕ) (k : ℕ) → Bare t → k < length t → eqb (get_or t k 0) 13 ≡ false
bare_at [] k b l = absurd (omega arith)
bare_at (x ∷ t) zero b l = (or_parts (eqb x 13) (list_any (λ c. eqb c 13) t) b).0
bare_at (x ∷ t) (suc k) b l = bare_at t k (or_parts (eqb x 13) (list_any (λ c. eqb c 13) t) b).1 (omega arith)

bare_cells : (h : History) (cs : List Cell) → KeepsRule Lf h → AllByRecursion (IsCell h) cs → Bare (map (byte h) cs)
bare_cells h [] k e = refl
bare_cells h (c ∷ cs) k e = let x : eqb (byte h c) 13 ≡ false = bare_at (new_bytes h c.stamp) c.k (bare_bytes h c.stamp k) e.0 in rw x (bare_cells h cs k e.1)

pub bare_full : (h : History) → KeepsRule Lf h → AllByRecursion (IsCell h) (cells (seq h)) → full h ≡ map (byte h) (cells (seq h)) → Bare (full h)
bare_full h k e f = ap (list_any (λ c. eqb c 13)) f ∙ bare_cells h (cells (seq h)) k e
