-- A replica that is found by its id, and what is done at it.
use Rattle.std.proofs.Common.{◌≡◌, ℕ, ◌+◌, ◌==◌, not, cond, nat_lt, List, [], ◌∷◌, ◌++◌, map, get_or, set, Option, None, Some, Result, Ok, Err, IfOk, OnOk, refl, sym, ap, ap₂, ◌∙◌}
use Rattle.std.specs.Option.{option_and_then}
use Rattle.std.specs.List.{position, position_or_len}
use Rattle.std.proofs.lemmas.List.{length-map}
use Rattle.text_buffer.specs.Buffer.{BaseText, BufferState}
use Rattle.session_lines.specs.Report.{report_text}
use Rattle.session_lines.specs.declared.report.Report.{Report}
use Rattle.session_work.specs.Work.{buffer_of, first_buffer, reports_at, with_buffer}
use Rattle.session_work.specs.Later.{AllGrow}
use Rattle.session_work.proofs.Buffers.{found, is_own, not_found}
use Rattle.session_work.proofs.Growth.{as_many}
use Rattle.session_work.proofs.Steps.{none_reported}

-- ---- buffers that are opened for ids

place-opened : (base : BaseText) (r : ℕ) (ids : List ℕ) → position_or_len (is_own r) (map (first_buffer base) ids) ≡ position_or_len (λ (i : ℕ). i == r) ids
place-opened base r [] = refl
place-opened base r (i ∷ ids) = ap (λ (m : ℕ). cond (not (i == r)) (1 + m) 0) (place-opened base r ids)

-- the place of a replica is that of its id
pub position-opened : (base : BaseText) (r : ℕ) (ids : List ℕ) → position (is_own r) (map (first_buffer base) ids) ≡ position (λ (i : ℕ). i == r) ids
position-opened base r ids = ap₂ (λ (m n : ℕ). cond (nat_lt m n) (Some m) None) (place-opened base r ids) (length-map ids (first_buffer base))

-- ---- buffers that grow

place-grown : (r : ℕ) (bs cs : List BufferState) → AllGrow bs cs → position_or_len (is_own r) bs ≡ position_or_len (is_own r) cs
place-grown r [] [] g = refl
place-grown r [] (c ∷ cs) g = absurd g
place-grown r (b ∷ bs) [] g = absurd g
place-grown r (b ∷ bs) (c ∷ cs) g = ap₂ (λ (q m : ℕ). cond (not (q == r)) (1 + m) 0) (sym g.0.0) (place-grown r bs cs g.1)

-- the place of a replica stays
pub position-grown : (r : ℕ) (bs cs : List BufferState) → AllGrow bs cs → position (is_own r) bs ≡ position (is_own r) cs
position-grown r bs cs g = ap₂ (λ (m n : ℕ). cond (nat_lt m n) (Some m) None) (place-grown r bs cs g) (sym (as_many bs cs g))

-- ---- f is what becomes of the buffer of replica r

module _ (r : ℕ) (f : BufferState → BufferState) (bs all : List BufferState) (same : all ≡ bs) where
  -- where it is there
  module _ (i : ℕ) (b : BufferState) (at : Some i ≡ position (is_own r) bs) (is : b ≡ get_or all i b) where
    kept : b ≡ get_or bs i b
    kept = is ∙ ap (λ (l : List BufferState). get_or l i b) same

    pub there : Some b ≡ buffer_of r bs
    there = ap Some kept ∙ sym (found r f bs i b at).0

    pub put : (c : BufferState) → c ≡ f b → set all i c ≡ with_buffer r f bs
    put c e = ap₂ (λ (l : List BufferState) (d : BufferState). set l i d) same (e ∙ ap f kept) ∙ sym (found r f bs i b at).1

    pub changed : {T E : Type 0} (x : Result T E) (c : BufferState) → OnOk x (c ≡ f b) → OnOk x (set all i c ≡ with_buffer r f bs)
    changed (Ok v) c e = put c e
    changed (Err v) c e = tt

    pub reported : {T E : Type 0} (g : BufferState → List Report) (x : Result T E) (out new : List ℕ) → OnOk x (new ≡ out ++ report_text (g b)) → OnOk x (new ≡ out ++ report_text (reports_at g (buffer_of r bs)))
    reported g (Ok v) out new e = e ∙ ap (λ (o : Option BufferState). out ++ report_text (reports_at g o)) there
    reported g (Err v) out new e = tt

    pub told : {A E : Type 0} (g : BufferState → Option A) (x : Result (Option A) E) → IfOk x (λ (o : Option A). o ≡ g b) → IfOk x (λ (o : Option A). o ≡ option_and_then g (buffer_of r bs))
    told g (Ok o) e = e ∙ ap (option_and_then g) there
    told g (Err v) e = tt

-- where it is not there
module _ (r : ℕ) (bs : List BufferState) (at : None ≡ position (is_own r) bs) where
  pub nowhere : None ≡ buffer_of r bs
  nowhere = sym (not_found r (λ (b : BufferState). b) bs at).0

  pub unchanged : (f : BufferState → BufferState) → bs ≡ with_buffer r f bs
  unchanged f = sym (not_found r f bs at).1

  pub unreported : (g : BufferState → List Report) (out : List ℕ) → out ≡ out ++ report_text (reports_at g (buffer_of r bs))
  unreported g out = none_reported g (buffer_of r bs) out nowhere
