-- Texts, anchors and edits since depend on the set of operations alone.
use Rattle.std.proofs.Common.{◌≡◌, ℕ, zero, suc, ◌<◌, ◌⊎◌, Bool, List, [], ◌∷◌, length, map, get_or, refl, sym, ◌∙◌, ap, subst, inl, inr, true, false, ◌&&◌}
use Rattle.std.specs.List.{AllByRecursion, filter, list_any}
use Rattle.std.proofs.lemmas.Bool.{cases_Bool, or_cases}
use Rattle.lamport_clock.specs.declared.stamp.Lamport.{Lamport}
use Rattle.lamport_clock.specs.Stamps.{same_stamp}
use Rattle.lamport_clock.specs.Versions.{Entries, sees}
use Rattle.lamport_clock.proofs.Later.{same_stamp_eq, same_stamp_refl}
use Rattle.op_model.specs.declared.operation.Operation.{Operation}
use Rattle.op_model.specs.Operations.{stamp_of, pieces_of, is_edit}
use Rattle.op_model.specs.Histories.{History, In, SameSet, Distinct, has_edit, newest_first}
use Rattle.op_model.specs.Cells.{Cell, PathCell, everything, seq_where, seq, cells}
use Rattle.op_model.specs.Shown.{texts, new_bytes, byte, shows_where, shows, text, text_where, full, full_where}
use Rattle.op_model.specs.Lawful.{Lawful}
use Rattle.op_model.specs.declared.anchor.Anchor.{Anchor}
use Rattle.op_model.specs.Anchors.{left_anchor, right_anchor, place, gap, compare_anchors, is_known}
use Rattle.op_model.specs.declared.anchor.Anchor.TheVariants.{Least, Greatest, At}
use Rattle.op_model.specs.declared.anchor.Bias.TheVariants.{Left, Right}
use Rattle.op_model.specs.Since.{Fate, fate, is_shown_at, fates, since, text_at}
use Rattle.op_model.proofs.order.SameSets.{newest_of_set, newest_same}
use Rattle.op_model.proofs.shown.Parts.{shown_seen}
use Rattle.op_model.proofs.shown.Bytes.{text_seen, map_each}
use Rattle.op_model.proofs.answers.Good.{lawful_ready, lawful_same}
use Rattle.op_model.proofs.order.CellsOnce.{From, all_from, bytes_of_one}
use Rattle.op_model.proofs.texts.WholeTexts.{byte_is}
use Rattle.op_model.proofs.Elements.{each_filter, any_member}

-- ---- the text in its own words

bytes_agree : (h : History) → Distinct h → (s : List PathCell) → AllByRecursion (From (newest_first h)) s → AllByRecursion (λ (c : Cell). byte (newest_first h) c ≡ byte h c) (cells s)
bytes_agree h d [] e = tt
bytes_agree h d (p ∷ s) e = (one p.cell e.0, bytes_agree h d s e.1)
  where
    one : (c : Cell) → (o : Operation) × In (newest_first h) o × (c.stamp ≡ stamp_of o) × (c.k < length (texts (pieces_of o))) → byte (newest_first h) c ≡ byte h c
    one c w = let i = (newest_same h w.0).0 w.1 in
        subst (λ (t : Lamport). byte (newest_first h) (record { stamp = t; k = c.k }) ≡ byte h (record { stamp = t; k = c.k })) (sym w.2)
        (byte_is h d w.0 i c.k ∙ sym (ap (λ (x : List ℕ). get_or x c.k 0) (bytes_of_one h w.0 d i)))

pub text_is : (h : History) → Distinct h → text h ≡ map (byte h) (filter (shows h) (cells (seq h)))
unfolding text text_where shows seq
text_is h d = map_each (byte (newest_first h)) (byte h) (filter (shows_where everything (newest_first h)) (cells (seq_where everything (newest_first h))))
    (each_filter (λ (c : Cell). byte (newest_first h) c ≡ byte h c) (shows_where everything (newest_first h)) (cells (seq_where everything (newest_first h))) (bytes_agree h d (seq_where everything (newest_first h)) (all_from (newest_first h))))

pub full_is : (h : History) → Distinct h → full h ≡ map (byte h) (cells (seq h))
unfolding full full_where seq
full_is h d = map_each (byte (newest_first h)) (byte h) (cells (seq_where everything (newest_first h))) (bytes_agree h d (seq_where everything (newest_first h)) (all_from (newest_first h)))

-- ---- equal sets

pub any_from : (t : Operation → Bool) (h : History) → list_any t h ≡ true → (m : Operation) × In h m × (t m ≡ true)
any_from t [] e = cc
any_from t (o ∷ h) e = elim (or_cases (t o) (list_any t h) e) [
  | inl q ↦ (o, inl refl, q)
  | inr n ↦ (let w = any_from t h n in (w.0, inr w.1, w.2))
]

pub any_same : (t : Operation → Bool) (h g : History) → SameSet h g → list_any t h ≡ list_any t g
any_same t h g s = go (cases_Bool (list_any t h)) (cases_Bool (list_any t g))
  where
    go : (list_any t h ≡ true) ⊎ (list_any t h ≡ false) → (list_any t g ≡ true) ⊎ (list_any t g ≡ false) → list_any t h ≡ list_any t g
    go (inl a) (inl b) = a ∙ sym b
    go (inl a) (inr b) = let w = any_from t h a in let c = any_member t g w.0 ((s w.0).0 w.1) w.2 in cc
    go (inr a) (inl b) = let w = any_from t g b in let c = any_member t h w.0 ((s w.0).1 w.1) w.2 in cc
    go (inr a) (inr b) = a ∙ sym b

-- a stamp that no operation has names no bytes
pub no_bytes : (h : History) (t : Lamport) → ((o : Operation) → In h o → stamp_of o ≡ t → ⊥) → new_bytes h t ≡ []
no_bytes [] t f = refl
no_bytes (o ∷ h) t f = go (cases_Bool (same_stamp (stamp_of o) t)) (no_bytes h t (λ p i. f p (inr i)))
  where
    go : (same_stamp (stamp_of o) t ≡ true) ⊎ (same_stamp (stamp_of o) t ≡ false) → new_bytes h t ≡ [] → new_bytes (o ∷ h) t ≡ []
    go (inl e) ih = absurd (f o (inl refl) (same_stamp_eq (stamp_of o) t e))
    go (inr e) ih = rw e ih

has_stamp : (h : History) (t : Lamport) → ((o : Operation) × In h o × (stamp_of o ≡ t)) ⊎ ((o : Operation) → In h o → stamp_of o ≡ t → ⊥)
has_stamp [] t = inr (λ o i e. absurd i)
has_stamp (o ∷ h) t = go (cases_Bool (same_stamp (stamp_of o) t)) (has_stamp h t)
  where
    go : (same_stamp (stamp_of o) t ≡ true) ⊎ (same_stamp (stamp_of o) t ≡ false) → ((o : Operation) × In h o × (stamp_of o ≡ t)) ⊎ ((o : Operation) → In h o → stamp_of o ≡ t → ⊥)
        → ((p : Operation) × In (o ∷ h) p × (stamp_of p ≡ t)) ⊎ ((p : Operation) → In (o ∷ h) p → stamp_of p ≡ t → ⊥)
    go (inl e) r = inl (o, inl refl, same_stamp_eq (stamp_of o) t e)
    go (inr e) (inl w) = inl (w.0, inr w.1, w.2)
    go (inr e) (inr n) = inr (λ p i q. elim i [ inl x ↦ other (sym (ap stamp_of x) ∙ q) e | inr y ↦ n p y q ])
      where
        other : stamp_of o ≡ t → same_stamp (stamp_of o) t ≡ false → ⊥
        other q e = let f : same_stamp t t ≡ false = subst (λ (x : Lamport). same_stamp x t ≡ false) q e in let g = same_stamp_refl t in cc

pub bytes_same : (h g : History) → Distinct h → Distinct g → SameSet h g → (t : Lamport) → new_bytes h t ≡ new_bytes g t
bytes_same h g d e s t = elim (has_stamp h t) [
  | inl w ↦ subst (λ (x : Lamport). new_bytes h x ≡ new_bytes g x) w.2 (bytes_of_one h w.0 d w.1 ∙ sym (bytes_of_one g w.0 e ((s w.0).0 w.1)))
  | inr n ↦ no_bytes h t n ∙ sym (no_bytes g t (λ o i q. n o ((s o).1 i) q))
]

module _ (h g : History) (l : Lawful h) (m : Lawful g) (s : SameSet h g) where
  newest : newest_first h ≡ newest_first g
  newest = newest_of_set h g (lawful_ready h l).0.distinct (lawful_ready g m).0.distinct s

  seqs : seq h ≡ seq g
  seqs = (lawful_same h g l m s).0

  texts_same : text h ≡ text g
  texts_same = (lawful_same h g l m s).1

  shows_same : shows h ≡ shows g
  unfolding shows
  shows_same = λ i c. shows_where everything (newest i) c

  edits : (t : Lamport) → has_edit h t ≡ has_edit g t
  edits t = any_same (λ o. is_edit o && same_stamp (stamp_of o) t) h g s

  bytes : (t : Lamport) → new_bytes h t ≡ new_bytes g t
  bytes t = bytes_same h g (lawful_ready h l).0.distinct (lawful_ready g m).0.distinct s t

  pub left_same : (o : ℕ) → left_anchor h o ≡ left_anchor g o
  unfolding left_anchor
  left_same zero = refl
  left_same (suc o) = rw (shows_same, seqs) refl

  pub right_same : (o : ℕ) → right_anchor h o ≡ right_anchor g o
  unfolding right_anchor
  right_same o = rw (shows_same, seqs, texts_same) refl

  pub place_same : (a : Anchor) → place h a ≡ place g a
  unfolding place
  place_same Least = refl
  place_same Greatest = ap length texts_same
  place_same (At t k Left) = rw (shows_same, seqs) refl
  place_same (At t k Right) = rw (shows_same, seqs) refl

  pub gap_same : (a : Anchor) → gap h a ≡ gap g a
  unfolding gap
  gap_same Least = refl
  gap_same Greatest = rw seqs refl
  gap_same (At t k Left) = rw seqs refl
  gap_same (At t k Right) = rw seqs refl

  pub compare_same : (a b : Anchor) → compare_anchors h a b ≡ compare_anchors g a b
  unfolding compare_anchors
  compare_same a b = rw (gap_same a, gap_same b) refl

  pub known_same : (a : Anchor) → is_known h a ≡ is_known g a
  unfolding is_known
  known_same Least = refl
  known_same Greatest = refl
  known_same (At t k Left) = rw (edits t, bytes t) refl
  known_same (At t k Right) = rw (edits t, bytes t) refl

  was : (v : Entries) (c : Cell) → is_shown_at h v c ≡ is_shown_at g v c
  was v c = ap (λ (b : Bool). sees v c.stamp && b) (shown_seen h v c ∙ ap (λ (x : History). shows_where (sees v) x c) newest ∙ sym (shown_seen g v c))

  pub since_same : (v : Entries) → since h v ≡ since g v
  unfolding since
  since_same v = ap (λ (f : List Fate). Rattle.op_model.specs.Since.edits_of 0 0 (Rattle.op_model.specs.Since.runs f)) all
    where
      all : fates h v ≡ fates g v
      all = ap (λ (f : Cell → Fate). map f (cells (seq h))) (λ i c. fate (was v c i) (shows_same i c)) ∙ ap (λ (x : List PathCell). map (λ (c : Cell). fate (is_shown_at g v c) (shows g c)) (cells x)) seqs

  pub text_at_same : (v : Entries) → text_at h v ≡ text_at g v
  text_at_same v = text_seen h v ∙ ap (λ (x : History). text_where (sees v) x) newest ∙ sym (text_seen g v)
