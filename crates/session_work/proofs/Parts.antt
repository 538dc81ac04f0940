-- An edit of excerpts at one buffer after the other.
use Rattle.std.proofs.Common.{◌≡◌, ◌⊎◌, inl, inr, ℕ, zero, suc, ◌+◌, ◌<◌, ◌≤◌, List, [], ◌∷◌, ◌++◌, length, drop, get_or, set, map, Option, None, Some, Result, Ok, Err, refl, sym, ap, ap₂, ◌∙◌, subst, arith, append-nil, append_assoc, length-append}
use Rattle.std.specs.Option.{option_map}
use Rattle.std.specs.Result.{result_ok}
use Rattle.std.proofs.lemmas.List.{drop-set-lt, drop_all, drop_more, map-append}
use Rattle.op_model.specs.declared.faults.EditFault.{EditFault}
use Rattle.op_model.specs.declared.faults.EditFault.TheVariants as fault
use Rattle.op_model.specs.declared.operation.Operation.{Operation}
use Rattle.op_model.specs.declared.operation.Piece.{Piece}
use Rattle.multi_buffer.specs.declared.parts.BufferPieces.{BufferPieces}
use Rattle.text_buffer.specs.Buffer.{BufferState, edit_fault, edit_of}
use Rattle.session_excerpts.specs.Answers.{pieces_at}
use Rattle.session_lines.specs.Report.{report_text}
use Rattle.session_lines.specs.Session.{unless}
use Rattle.session_lines.specs.declared.report.Report.{Report}
use Rattle.session_lines.proofs.Reports.{all_written, written}
use Rattle.session_more.specs.declared.report.NumberAnswer.{NumberAnswer}
use Rattle.session_more.specs.declared.report.PartAnswer.{PartAnswer}
use Rattle.session_more.specs.declared.report.PartAnswer.TheVariants as part
use Rattle.session_work.specs.Exchange.{AreThere, IsThere, operation_in}
use Rattle.session_work.specs.Parts.{after_part, after_parts_from, numbered, outcomes_from, part_answer, part_outcome, part_settled, settled_from}
use Rattle.session_work.specs.declared.exchange.Named.{Named}
use Rattle.session_work.proofs.Kept.{one_more}

abbrev Outcome : Type 0
Outcome = Result Operation PartAnswer

-- ---- one buffer

-- its pieces are refused, and not because an allocation failed
pub refused_part : (o : Option (List Piece)) (ps qs : List Piece) (a b : BufferState) (e : EditFault) → o ≡ Some ps → qs ≡ ps → a ≡ b → (edit_fault a qs ≡ Some e) ⊎ ((edit_fault a qs ≡ None) × (e ≡ fault.OutOfMemory))
    → (e ≡ fault.OutOfMemory → ⊥) → part_outcome o b ≡ Err (part.Refused e)
refused_part o ps qs a b e i q s (inl f) n =
    ap (λ (p : Option (List Piece)). part_outcome p b) i ∙ ap (λ (x : Option EditFault). unless (edit_of b ps) (option_map part.Refused x)) (sym (ap₂ edit_fault s q) ∙ f)
refused_part o ps qs a b e i q s (inr f) n = absurd (n f.1)

-- ---- the buffers, those from place i on being still to be edited

module _ (gs : List BufferPieces) where
  -- the first of all is buffer j
  abbrev pub left_from : ℕ → ℕ → List BufferState → List BufferState
  left_from j zero bs = after_parts_from j gs bs
  left_from j (suc i) [] = []
  left_from j (suc i) (b ∷ bs) = b ∷ left_from (j + 1) i bs

  abbrev outcome : ℕ → BufferState → Outcome
  outcome i b = part_outcome (pieces_at i gs) b

  one_left : (j i : ℕ) (bs : List BufferState) (b : BufferState) → i < length bs → b ≡ get_or bs i b
      → left_from j (suc i) (set bs i (after_part (outcome (j + i) b) b)) ≡ left_from j i bs
  one_left j i [] b l e = absurd (omega arith)
  one_left j zero (x ∷ bs) b l e =
      let same : j + zero ≡ j = omega arith in
      ap₂ (λ (k : ℕ) (y : BufferState). after_part (outcome k y) y ∷ after_parts_from (j + 1) gs bs) same e
  one_left j (suc i) (x ∷ bs) b l e =
      let same : j + suc i ≡ (j + 1) + i = omega arith in
      let rest = one_left (j + 1) i bs b (omega arith) e in
      ap (λ (k : ℕ). x ∷ left_from (j + 1) (suc i) (set bs i (after_part (outcome k b) b))) same ∙ ap (λ (l : List BufferState). x ∷ l) rest

  -- one more is edited, the first of all being buffer 0
  pub one_edited : (i : ℕ) (bs : List BufferState) (b c : BufferState) (all : List BufferState) → i < length bs → b ≡ get_or bs i b → c ≡ after_part (outcome i b) b → left_from 0 i bs ≡ all
      → left_from 0 (i + 1) (set bs i c) ≡ all
  one_edited i bs b c all l e is h =
      let next : i + 1 ≡ suc i = omega arith in
      let here : 0 + i ≡ i = omega arith in
      ap₂ (λ (k : ℕ) (d : BufferState). left_from 0 k (set bs i d)) next (is ∙ ap (λ (k : ℕ). after_part (outcome k b) b) (sym here)) ∙ (one_left 0 i bs b l e ∙ h)

  none_left : (j i : ℕ) (bs : List BufferState) → length bs ≤ i → left_from j i bs ≡ bs
  none_left j zero [] l = refl
  none_left j zero (b ∷ bs) l = absurd (omega arith)
  none_left j (suc i) [] l = refl
  none_left j (suc i) (b ∷ bs) l = ap (λ (l : List BufferState). b ∷ l) (none_left (j + 1) i bs (omega arith))

  -- all are edited
  pub all_edited : (i : ℕ) (bs all : List BufferState) → length bs ≤ i → left_from 0 i bs ≡ all → bs ≡ all
  all_edited i bs all l h = sym (none_left 0 i bs l) ∙ h

  -- ---- what is still to be said, from place i on

  -- what comes after place i is as before once the buffer there has changed
  same_rest : (i : ℕ) (bs : List BufferState) (c : BufferState) → drop (i + 1) (set bs i c) ≡ drop (i + 1) bs
  same_rest i bs c = drop-set-lt (i + 1) bs i c (omega arith)

  pub more_outcomes : (i : ℕ) (bs : List BufferState) (b c : BufferState) (o : Outcome) (old new all : List Outcome) → i < length bs → b ≡ get_or bs i b → o ≡ outcome i b → new ≡ old ++ o ∷ []
      → old ++ outcomes_from i gs (drop i bs) ≡ all → new ++ outcomes_from (i + 1) gs (drop (i + 1) (set bs i c)) ≡ all
  more_outcomes i bs b c o old new all l e is n h =
      let begins : drop i bs ≡ b ∷ drop (i + 1) bs = drop_more bs i b l ∙ ap (λ (x : BufferState). x ∷ drop (i + 1) bs) (sym e) in
      ap₂ (λ (x : List Outcome) (r : List BufferState). x ++ outcomes_from (i + 1) gs r) n (same_rest i bs c)
      ∙ (append_assoc old (o ∷ []) (outcomes_from (i + 1) gs (drop (i + 1) bs))
      ∙ (ap (λ (x : Outcome). old ++ x ∷ outcomes_from (i + 1) gs (drop (i + 1) bs)) is
      ∙ (ap (λ (r : List BufferState). old ++ outcomes_from i gs r) (sym begins) ∙ h)))

  pub more_settled : (i : ℕ) (bs : List BufferState) (b c : BufferState) (out new all : List ℕ) → i < length bs → b ≡ get_or bs i b → new ≡ out ++ report_text (part_settled (outcome i b) b)
      → out ++ report_text (settled_from i gs (drop i bs)) ≡ all → new ++ report_text (settled_from (i + 1) gs (drop (i + 1) (set bs i c))) ≡ all
  more_settled i bs b c out new all l e n h =
      let begins : drop i bs ≡ b ∷ drop (i + 1) bs = drop_more bs i b l ∙ ap (λ (x : BufferState). x ∷ drop (i + 1) bs) (sym e) in
      ap (λ (r : List BufferState). new ++ report_text (settled_from (i + 1) gs r)) (same_rest i bs c)
      ∙ written (part_settled (outcome i b) b) (settled_from (i + 1) gs (drop (i + 1) bs)) out new all (ap (λ (r : List BufferState). out ++ report_text (settled_from i gs r)) (sym begins) ∙ h) n

  pub outcomes_done : (i : ℕ) (bs : List BufferState) (old all : List Outcome) → length bs ≤ i → old ++ outcomes_from i gs (drop i bs) ≡ all → old ≡ all
  outcomes_done i bs old all l h = sym (ap (λ (r : List BufferState). old ++ outcomes_from i gs r) (drop_all i bs l) ∙ append-nil old) ∙ h

  pub settled_done : (i : ℕ) (bs : List BufferState) (out all : List ℕ) → length bs ≤ i → out ++ report_text (settled_from i gs (drop i bs)) ≡ all → out ≡ all
  settled_done i bs out all l h = all_written out all (ap (λ (r : List BufferState). out ++ report_text (settled_from i gs r)) (sym (drop_all i bs l)) ∙ h)

-- ---- how operations are kept

-- one more is kept
pub one_numbered : (k : Named) (a : NumberAnswer) (o : Outcome) (ks new : List Named) (old answers all : List NumberAnswer) (os left : List Outcome) → a ≡ record { number = length ks + 1; answer = part_answer o }
    → new ≡ ks ++ k ∷ [] → answers ≡ old ++ a ∷ [] → left ≡ o ∷ os → old ++ numbered (length ks + 1) left ≡ all → answers ++ numbered (length new + 1) os ≡ all
one_numbered k a o ks new old answers all os left is n m begins h =
    let longer : length new ≡ length ks + 1 = ap (λ (l : List Named). length l) n ∙ length-append ks (k ∷ []) in
    ap₂ (λ (x : List NumberAnswer) (c : ℕ). x ++ numbered (c + 1) os) m longer
    ∙ (append_assoc old (a ∷ []) (numbered ((length ks + 1) + 1) os)
    ∙ (ap (λ (x : NumberAnswer). old ++ x ∷ numbered ((length ks + 1) + 1) os) is
    ∙ (ap (λ (l : List Outcome). old ++ numbered (length ks + 1) l) (sym begins) ∙ h)))

pub one_kept : (bs : List BufferState) (k : Named) (o : Outcome) (ks new : List Named) (os left : List Outcome) (all : List (Option Operation)) → operation_in bs k ≡ result_ok o
    → new ≡ ks ++ k ∷ [] → left ≡ o ∷ os → map (operation_in bs) ks ++ map result_ok left ≡ all → map (operation_in bs) new ++ map result_ok os ≡ all
one_kept bs k o ks new os left all is n begins h =
    ap (λ (l : List Named). map (operation_in bs) l ++ map result_ok os) n
    ∙ (ap (λ (l : List (Option Operation)). l ++ map result_ok os) (map-append (operation_in bs) ks (k ∷ []))
    ∙ (append_assoc (map (operation_in bs) ks) (operation_in bs k ∷ []) (map result_ok os)
    ∙ (ap (λ (x : Option Operation). map (operation_in bs) ks ++ x ∷ map result_ok os) is
    ∙ (ap (λ (l : List Outcome). map (operation_in bs) ks ++ map result_ok l) (sym begins) ∙ h))))

pub one_there : (bs : List BufferState) (k : Named) (ks new : List Named) → IsThere bs k → new ≡ ks ++ k ∷ [] → AreThere bs ks → AreThere bs new
one_there bs k ks new t n a = subst (AreThere bs) (sym n) (one_more bs ks k a t)

-- all are kept
pub all_kept : (bs : List BufferState) (ks : List Named) (left : List Outcome) (all : List (Option Operation)) → length left ≡ 0 → map (operation_in bs) ks ++ map result_ok left ≡ all → map (operation_in bs) ks ≡ all
all_kept bs ks [] all none h = sym (append-nil (map (operation_in bs) ks)) ∙ h
all_kept bs ks (o ∷ os) all none h = absurd (omega arith)
