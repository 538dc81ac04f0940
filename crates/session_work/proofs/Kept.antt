-- Operations that are kept by their places, while the buffers grow.
use Rattle.std.proofs.Common.{◌≡◌, ℕ, zero, suc, ◌+◌, Bool, true, false, cond, ◌==◌, List, [], ◌∷◌, ◌++◌, length, map, is_some, Option, None, Some, Result, Ok, Err, refl, sym, ap, ap₂, ◌∙◌, subst}
use Rattle.std.specs.Prelude.{slice_get}
use Rattle.std.specs.List.{count_by}
use Rattle.std.specs.Option.{option_and_then, option_map_or}
use Rattle.std.specs.Result.{result_ok}
use Rattle.std.proofs.lemmas.List.{map-append}
use Rattle.std.proofs.lemmas.List.Sums.{sum_by-cons}
use Rattle.op_model.specs.Steps.{Settles}
use Rattle.op_model.specs.declared.operation.Operation.{Operation}
use Rattle.text_buffer.specs.Buffer.{BufferState, after_apply, after_settle}
use Rattle.text_buffer.specs.Document.{IsFront}
use Rattle.session_lines.specs.declared.report.Report.{Report}
use Rattle.session_work.specs.Exchange.{AreThere, ExchangeState, IsThere, applied_at, applied_len, is_named, named_made, operation_in}
use Rattle.session_work.specs.Later.{AllGrow, Grows}
use Rattle.session_work.specs.Work.{after_outcome, buffer_of, with_buffer}
use Rattle.session_work.specs.declared.exchange.Named.{Named}
use Rattle.session_work.specs.declared.exchange.Named.TheVariants as named
use Rattle.session_work.proofs.Growth.{calls_grow, later, outcome_grows}

-- ---- what stands at a place

-- a front has its elements at the same places
got_front : (xs ys : List Operation) (i : ℕ) → is_some (slice_get xs i) ≡ true → slice_get (xs ++ ys) i ≡ slice_get xs i
got_front [] ys i e = absurd (cc e)
got_front (x ∷ xs) ys zero e = refl
got_front (x ∷ xs) ys (suc i) e = got_front xs ys i e

got_seam : (xs : List Operation) (x : Operation) (ys : List Operation) → slice_get ((xs ++ x ∷ []) ++ ys) (length xs) ≡ Some x
got_seam [] x ys = refl
got_seam (y ∷ xs) x ys = got_seam xs x ys

-- ---- the buffers grow from bs to cs

module _ (bs cs : List BufferState) (g : AllGrow bs cs) where
  stays_by : (r i : ℕ) (o : Option BufferState) → buffer_of r bs ≡ o → is_some (option_and_then (λ (b : BufferState). slice_get b.history i) o) ≡ true
      → applied_at r i cs ≡ option_and_then (λ (b : BufferState). slice_get b.history i) o
  stays_by r i None e t = absurd (cc t)
  stays_by r i (Some d) e t =
      let n = later r bs cs d g e in
      let f : IsFront d.history n.0.history = n.2 in
      ap (option_and_then (λ (b : BufferState). slice_get b.history i)) n.1
      ∙ (ap (λ (h : List Operation). slice_get h i) f.1 ∙ got_front d.history f.0 i t)

  stays : (k : Named) → IsThere bs k → operation_in cs k ≡ operation_in bs k
  stays (named.Made r i) t = stays_by r i (buffer_of r bs) refl t
  stays (named.Read op) t = refl
  stays named.Nothing t = refl

  pub all_stay : (ks : List Named) → AreThere bs ks → map (operation_in cs) ks ≡ map (operation_in bs) ks
  all_stay [] t = refl
  all_stay (k ∷ ks) t = ap₂ (λ (o : Option Operation) (os : List (Option Operation)). o ∷ os) (stays k t.0) (all_stay ks t.1)

  pub still_there : (ks : List Named) → AreThere bs ks → AreThere cs ks
  still_there [] t = tt
  still_there (k ∷ ks) t = (ap is_some (stays k t.0) ∙ t.0, still_there ks t.1)

pub one_more : (bs : List BufferState) (ks : List Named) (k : Named) → AreThere bs ks → IsThere bs k → AreThere bs (ks ++ k ∷ [])
one_more bs [] k t u = (u, tt)
one_more bs (j ∷ ks) k t u = (t.0, one_more bs ks k t.1 u)

pub counted : (bs : List BufferState) (ks : List Named) → AreThere bs ks → count_by is_some (map (operation_in bs) ks) ≡ count_by is_named ks
counted bs [] t = refl
counted bs (k ∷ ks) t =
    sum_by-cons (λ (o : Option Operation). cond (is_some o) 1 0) (operation_in bs k) (map (operation_in bs) ks)
    ∙ (ap₂ (λ (b : Bool) (n : ℕ). cond b 1 0 + n) t.0 (counted bs ks t.1) ∙ sym (sum_by-cons (λ (k : Named). cond (is_named k) 1 0) k ks))

-- ---- f is what comes of an operation line at the buffer of replica r

module _ (r : ℕ) (f : BufferState → Result Operation Report) where
  abbrev after : BufferState → BufferState
  after b = after_outcome (f b) b

  changed_by : (c b : BufferState) (bs : List BufferState) (t : Bool) → (c.replica == r) ≡ t → (buffer_of r bs ≡ Some b → buffer_of r (with_buffer r after bs) ≡ Some (after b))
      → cond t (Some c) (buffer_of r bs) ≡ Some b → buffer_of r (cond t (after c ∷ bs) (c ∷ with_buffer r after bs)) ≡ Some (after b)
  changed_by c b bs true e h k =
      let same : c ≡ b = cc k in
      ap (λ (t : Bool). cond t (Some (after c)) (buffer_of r bs)) (ap (λ (q : ℕ). q == r) (outcome_grows (f c) c).0 ∙ e) ∙ ap (λ (b : BufferState). Some (after b)) same
  changed_by c b bs false e h k = ap (λ (t : Bool). cond t (Some c) (buffer_of r (with_buffer r after bs))) e ∙ h k

  changed : (bs : List BufferState) (b : BufferState) → buffer_of r bs ≡ Some b → buffer_of r (with_buffer r after bs) ≡ Some (after b)
  changed [] b e = absurd (cc e)
  changed (c ∷ bs) b e = changed_by c b bs (c.replica == r) refl (changed bs b) e

  made_at : (b : BufferState) (o : Result Operation Report) (cs : List BufferState) (n : ℕ) → n ≡ length b.history → buffer_of r cs ≡ Some (after_outcome o b)
      → operation_in cs (named_made r n (result_ok o)) ≡ result_ok o
  made_at b (Ok op) cs n count e =
      let g : Grows (after_apply b op) (after_settle (after_apply b op)) = calls_grow (Settles ∷ []) (after_apply b op) in
      let h : IsFront (b.history ++ op ∷ []) (after_settle (after_apply b op)).history = g.1 in
      ap (option_and_then (λ (c : BufferState). slice_get c.history n)) e
      ∙ (ap (slice_get (after_settle (after_apply b op)).history) count
      ∙ (ap (λ (h : List Operation). slice_get h (length b.history)) h.1 ∙ got_seam b.history op h.0))
  made_at b (Err x) cs n count e = refl

  made_by : (bs : List BufferState) (o : Option BufferState) (n : ℕ) → buffer_of r bs ≡ o → n ≡ option_map_or (λ (b : BufferState). length b.history) o 0
      → operation_in (with_buffer r after bs) (named_made r n (option_and_then (λ (b : BufferState). result_ok (f b)) o)) ≡ option_and_then (λ (b : BufferState). result_ok (f b)) o
  made_by bs None n e count = refl
  made_by bs (Some b) n e count = made_at b (f b) (with_buffer r after bs) n count (changed bs b e)

is_made : (r n : ℕ) (o : Option Operation) → is_some o ≡ is_named (named_made r n o)
is_made r n None = refl
is_made r n (Some op) = refl

-- the buffers are cs after it, and `new` is how the operations are kept
module _ (r : ℕ) (f : BufferState → Result Operation Report) (bs cs : List BufferState) (ks new : List Named) (n : ℕ) (made : Option Operation)
    (grow : AllGrow bs cs) (there : AreThere bs ks) (is : cs ≡ with_buffer r (after r f) bs) (count : n ≡ applied_len r bs)
    (made_is : made ≡ option_and_then (λ (b : BufferState). result_ok (f b)) (buffer_of r bs)) (put : new ≡ ks ++ named_made r n made ∷ []) where
  made_in : operation_in cs (named_made r n made) ≡ made
  made_in = ap₂ (λ (l : List BufferState) (o : Option Operation). operation_in l (named_made r n o)) is made_is ∙ (made_by r f bs (buffer_of r bs) n refl count ∙ sym made_is)

  one_operation : map (operation_in cs) new ≡ map (operation_in bs) ks ++ option_and_then (λ (b : BufferState). result_ok (f b)) (buffer_of r bs) ∷ []
  one_operation =
      ap (map (operation_in cs)) put ∙ (map-append (operation_in cs) ks (named_made r n made ∷ [])
      ∙ ap₂ (λ (os : List (Option Operation)) (o : Option Operation). os ++ o ∷ []) (all_stay bs cs grow ks there) (made_in ∙ made_is))

  one_there : AreThere cs new
  one_there = subst (AreThere cs) (sym put) (one_more cs ks (named_made r n made) (still_there bs cs grow ks there) (ap is_some made_in ∙ is_made r n made))

-- the same of what an exchange holds, s being its value: g is what comes of the line at a buffer, by the line's number
module _ (r : ℕ) (g : ℕ → BufferState → Result Operation Report) (s : ExchangeState) (bs cs : List BufferState) (ks new : List Named) (number n : ℕ) (made : Option Operation) (k : Named)
    (view : ◌≡◌ {A = ExchangeState} (record { buffers = bs; operations = map (operation_in bs) ks }) s) (next : number ≡ length s.operations + 1) (count : n ≡ applied_len r s.buffers)
    (grow : AllGrow bs cs) (there : AreThere bs ks) (is : cs ≡ with_buffer r (after r (g number)) bs)
    (made_is : made ≡ option_and_then (λ (b : BufferState). result_ok (g number b)) (buffer_of r bs)) (kept : k ≡ named_made r n made) (put : new ≡ ks ++ k ∷ []) where
  count_in : n ≡ applied_len r bs
  count_in = count ∙ ap (λ (t : ExchangeState). applied_len r t.buffers) (sym view)

  put_in : new ≡ ks ++ named_made r n made ∷ []
  put_in = put ∙ ap (λ (j : Named). ks ++ j ∷ []) kept

  abbrev IsOneMore : ℕ → ExchangeState → Type 0
  IsOneMore m t = map (operation_in cs) new ≡ t.operations ++ option_and_then (λ (b : BufferState). result_ok (g m b)) (buffer_of r t.buffers) ∷ []

  pub more_operations : IsOneMore (length s.operations + 1) s
  more_operations =
      subst (λ (m : ℕ). IsOneMore m s) next
      (subst (IsOneMore number) view (one_operation r (g number) bs cs ks new n made grow there is count_in made_is put_in))

  pub more_there : AreThere cs new
  more_there = one_there r (g number) bs cs ks new n made grow there is count_in made_is put_in

-- the buffers of an exchange that stands for s have grown to cs
pub grown : (s : ExchangeState) (bs cs : List BufferState) (ks : List Named) → ◌≡◌ {A = ExchangeState} (record { buffers = bs; operations = map (operation_in bs) ks }) s → AllGrow bs cs → AllGrow s.buffers cs
grown s bs cs ks view g = subst (λ (t : ExchangeState). AllGrow t.buffers cs) view g
