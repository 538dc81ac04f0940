-- What was taken in of the buffers of a session's replicas stays behind them.
use Rattle.std.proofs.Common.{◌≡◌, ℕ, Bool, true, false, cond, ◌==◌, List, [], ◌∷◌, map, Option, None, Some, refl, sym, ap, subst, ◌∙◌, eqb-true}
use Rattle.std.specs.Prelude.{IfSome}
use Rattle.std.specs.Option.{option_map}
use Rattle.std.proofs.lemmas.Option.{IfSome_then}
use Rattle.op_model.specs.Histories.{History}
use Rattle.fold_map.specs.Calls.{IsWithin}
use Rattle.fold_map.specs.Folds.{FoldState}
use Rattle.fold_map.proofs.Within.{front_within}
use Rattle.text_buffer.specs.Buffer.{BufferState}
use Rattle.text_buffer.specs.Document.{IsFront}
use Rattle.session_folds.specs.Lines.{after_call}
use Rattle.session_folds.specs.State.{GoesOn, GoesOnAt, ReplicaFolds, folds_of, opening_folds, synced, with_folds, with_map}
use Rattle.session_work.specs.Behind.{AreBehind}
use Rattle.session_work.specs.Later.{AllGrow}
use Rattle.session_work.specs.Work.{buffer_of}

-- ---- a later history

-- what holds of a history holds of what it begins
abbrev pub Stays : (History → Type 0) → Type 0
Stays P = (h g : History) → IsFront h g → P h → P g

goes_on : (o : Option FoldState) → Stays (λ h. GoesOn h o)
goes_on None h g f w = tt
goes_on (Some m) h g f w = λ op i. front_within h g f op (w op i)

goes_on_at : (r : ℕ) (fs : List ReplicaFolds) → Stays (λ h. GoesOnAt r h fs)
goes_on_at r fs h g f w = IfSome_then (folds_of r fs) w (λ x y. goes_on x.shown h g f y)

-- ---- the buffer of one replica among those of all

module _ (r : ℕ) (P : History → Type 0) (stays : Stays P) where
  abbrev Holds : Option BufferState → Type 0
  Holds o = IfSome o (λ b. P b.history)

  one_later : (b c : BufferState) (o p : Option BufferState) (t u : Bool) → u ≡ t → IsFront b.history c.history → (Holds o → Holds p) → Holds (cond t (Some b) o) → Holds (cond u (Some c) p)
  one_later b c o p true true e f g h = stays b.history c.history f h
  one_later b c o p false false e f g h = g h
  one_later b c o p true false e f g h = absurd (cc e)
  one_later b c o p false true e f g h = absurd (cc e)

  pub holds_later : (bs cs : List BufferState) → AllGrow bs cs → Holds (buffer_of r bs) → Holds (buffer_of r cs)
  holds_later [] [] g h = tt
  holds_later [] (c ∷ cs) g h = absurd g
  holds_later (b ∷ bs) [] g h = absurd g
  holds_later (b ∷ bs) (c ∷ cs) g h =
      one_later b c (buffer_of r bs) (buffer_of r cs) (b.replica == r) (c.replica == r) (ap (λ q. q == r) g.0.0) g.0.1 (holds_later bs cs g.1) h

-- what holds of the history of a replica's buffer
holds_there : (P : History → Type 0) (o : Option BufferState) (h : History) → Some h ≡ option_map (λ (b : BufferState). b.history) o → IfSome o (λ b. P b.history) → P h
holds_there P None h e i = absurd (cc e)
holds_there P (Some b) h e i = let same : h ≡ b.history = cc e in subst P (sym same) i

-- ---- folds of all replicas

-- no map is there
none_shown : (r : ℕ) (h : History) (ids : List ℕ) → GoesOnAt r h (opening_folds ids)
none_shown r h [] = tt
none_shown r h (i ∷ ids) = elim (i == r) as (λ (t : Bool). IfSome (cond t (Some (record { replica = i; shown = None })) (folds_of r (opening_folds ids))) (λ f. GoesOn h f.shown)) [
  | true ↦ tt
  | false ↦ none_shown r h ids
]

in_all : (P : BufferState → Type 0) (o : Option BufferState) → ((b : BufferState) → P b) → IfSome o P
in_all P None f = tt
in_all P (Some b) f = f b

pub behind_opening : (bs : List BufferState) (ids : List ℕ) → AreBehind bs (opening_folds ids)
behind_opening bs ids r = in_all (λ b. GoesOnAt r b.history (opening_folds ids)) (buffer_of r bs) (λ b. none_shown r b.history ids)

pub behind_later : (bs cs : List BufferState) (fs : List ReplicaFolds) → AllGrow bs cs → AreBehind bs fs → AreBehind cs fs
behind_later bs cs fs g a r = holds_later r (λ h. GoesOnAt r h fs) (goes_on_at r fs) bs cs g (a r)

-- the map of a replica that is there
pub behind_at : (r : ℕ) (bs : List BufferState) (fs : List ReplicaFolds) (h : History) → Some h ≡ option_map (λ (b : BufferState). b.history) (buffer_of r bs) → AreBehind bs fs → GoesOnAt r h fs
behind_at r bs fs h e a = holds_there (λ g. GoesOnAt r g fs) (buffer_of r bs) h e (a r)

-- ---- the map of replica r is over the text of h once it was called

module _ (r : ℕ) (h : History) (g : FoldState → FoldState) (same : (m : FoldState) → (g m).history ≡ m.history) where
  abbrev called : ReplicaFolds → ReplicaFolds
  called f = with_map (g (synced h f)) f

  over : (f : ReplicaFolds) → IsWithin (g (synced h f)).history h
  over f = subst (λ (x : History). IsWithin x h) (sym (same (synced h f))) (λ op i. i)

  -- k is what replica q has applied, and h if q is r
  module _ (q : ℕ) (k : History) (own : q ≡ r → k ≡ h) where
    abbrev Goes : Option ReplicaFolds → Type 0
    Goes o = IfSome o (λ f. GoesOn k f.shown)

    there : (f : ReplicaFolds) (o : Option ReplicaFolds) (u : Bool) → f.replica ≡ r → (f.replica == q) ≡ u → Goes (cond u (Some f) o) → Goes (cond u (Some (called f)) o)
    there f o true e d w = subst (λ (x : History). IsWithin (g (synced h f)).history x) (sym (own (sym (eqb-true f.replica q d) ∙ e))) (over f)
    there f o false e d w = w

    elsewhere : (f : ReplicaFolds) (o p : Option ReplicaFolds) (u : Bool) → (Goes o → Goes p) → Goes (cond u (Some f) o) → Goes (cond u (Some f) p)
    elsewhere f o p true c w = w
    elsewhere f o p false c w = c w

    step : (f : ReplicaFolds) (fs : List ReplicaFolds) (t : Bool) → (f.replica == r) ≡ t → (Goes (folds_of q fs) → Goes (folds_of q (with_folds r called fs))) → Goes (folds_of q (f ∷ fs))
        → Goes (folds_of q (cond t (called f ∷ fs) (f ∷ with_folds r called fs)))
    step f fs true e c w = there f (folds_of q fs) (f.replica == q) (eqb-true f.replica r e) refl w
    step f fs false e c w = elsewhere f (folds_of q fs) (folds_of q (with_folds r called fs)) (f.replica == q) c w

    after : (fs : List ReplicaFolds) → Goes (folds_of q fs) → Goes (folds_of q (with_folds r called fs))
    after [] w = w
    after (f ∷ fs) w = step f fs (f.replica == r) refl (after fs) w

  own_history : (q : ℕ) (bs : List BufferState) (b : BufferState) → Some h ≡ option_map (λ (b : BufferState). b.history) (buffer_of r bs) → buffer_of q bs ≡ Some b → q ≡ r → b.history ≡ h
  own_history q bs b e d i =
      let same : Some h ≡ option_map (λ (b : BufferState). b.history) (buffer_of q bs) = subst (λ (x : ℕ). Some h ≡ option_map (λ (b : BufferState). b.history) (buffer_of x bs)) (sym i) e in
      let is : Some h ≡ Some b.history = same ∙ ap (option_map (λ (b : BufferState). b.history)) d in cc is

  each : (q : ℕ) (bs : List BufferState) (fs : List ReplicaFolds) (o : Option BufferState) → buffer_of q bs ≡ o → Some h ≡ option_map (λ (b : BufferState). b.history) (buffer_of r bs)
      → IfSome o (λ b. GoesOnAt q b.history fs) → IfSome o (λ b. GoesOnAt q b.history (after_call r h g fs))
  each q bs fs None d e w = tt
  each q bs fs (Some b) d e w = after q b.history (own_history q bs b e d) fs w

  pub behind_call : (bs : List BufferState) (fs : List ReplicaFolds) → Some h ≡ option_map (λ (b : BufferState). b.history) (buffer_of r bs) → AreBehind bs fs → AreBehind bs (after_call r h g fs)
  behind_call bs fs e a q = each q bs fs (buffer_of q bs) refl e (a q)
