-- The bytes of h|v, read from h.
use Rattle.std.proofs.Common.{◌≡◌, ℕ, ◌⊎◌, Bool, List, [], ◌∷◌, map, get_or, refl, sym, ◌∙◌, ap, subst, inl, inr, true, false}
use Rattle.std.proofs.lemmas.List.Elements.{filter_agree}
use Rattle.std.proofs.lemmas.Bool.{cases_Bool}
use Rattle.std.specs.List.{AllByRecursion, filter}
use Rattle.lamport_clock.specs.declared.stamp.Lamport.{Lamport}
use Rattle.op_model.specs.Histories.{History, newest_first, kept_history, seen_history}
use Rattle.lamport_clock.specs.Versions.{Entries, sees}
use Rattle.lamport_clock.specs.Stamps.{same_stamp}
use Rattle.lamport_clock.proofs.Later.{same_stamp_eq}
use Rattle.op_model.specs.Operations.{stamp_of, version_of, pieces_of}
use Rattle.op_model.specs.Cells.{Cell, PathCell, before, op_places, both, everything, seq_where, cells}
use Rattle.op_model.specs.Shown.{shows_where, new_bytes, byte, text_where, full_where, text, full}
use Rattle.op_model.proofs.order.Insertion.{each_insert_all}
use Rattle.op_model.proofs.order.LateOperation.{seq_nil, seq_kept, seq_unkept}
use Rattle.op_model.proofs.order.Restricted.{new_of, each_of}
use Rattle.op_model.proofs.order.SameSets.{newest_seen, seq_part}
use Rattle.op_model.proofs.shown.Parts.{shown_part}
use Rattle.op_model.proofs.Elements.{each_filter}

pub passing : (keep : Lamport → Bool) (h : History) → AllByRecursion (λ (q : PathCell). keep q.cell.stamp ≡ true) (seq_where keep h)
passing keep [] = rw (seq_nil keep) tt
passing keep (o ∷ h) = elim (cases_Bool (keep (stamp_of o))) [
  | inl k ↦ rw (seq_kept keep o h k) (each_insert_all (λ (q : PathCell). keep q.cell.stamp ≡ true) before (op_places (seq_where (both keep (version_of o)) h) o) (seq_where keep h)
      (each_of keep true (stamp_of o) (op_places (seq_where (both keep (version_of o)) h) o) k (new_of (seq_where (both keep (version_of o)) h) (stamp_of o) 0 (pieces_of o))) (passing keep h))
  | inr k ↦ rw (seq_unkept keep o h k) (passing keep h)
]

bytes_kept : (keep : Lamport → Bool) (h : History) (t : Lamport) → keep t ≡ true → new_bytes (kept_history keep h) t ≡ new_bytes h t
bytes_kept keep [] t k = refl
bytes_kept keep (o ∷ h) t k = go (cases_Bool (same_stamp (stamp_of o) t)) (cases_Bool (keep (stamp_of o))) (bytes_kept keep h t k)
  where
    go : (same_stamp (stamp_of o) t ≡ true) ⊎ (same_stamp (stamp_of o) t ≡ false) → (keep (stamp_of o) ≡ true) ⊎ (keep (stamp_of o) ≡ false)
        → new_bytes (kept_history keep h) t ≡ new_bytes h t → new_bytes (kept_history keep (o ∷ h)) t ≡ new_bytes (o ∷ h) t
    go (inl s) (inl p) i = rw (p, s)
    go (inl s) (inr p) i = let e : keep (stamp_of o) ≡ true = subst (λ (x : Lamport). keep x ≡ true) (sym (same_stamp_eq (stamp_of o) t s)) k in cc
    go (inr s) (inl p) i = rw (p, s) i
    go (inr s) (inr p) i = rw (p, s) i

pub map_each : (f g : Cell → ℕ) (s : List Cell) → AllByRecursion (λ (c : Cell). f c ≡ g c) s → map f s ≡ map g s
map_each f g [] e = refl
map_each f g (c ∷ s) e = ap (λ (x : ℕ). x ∷ map f s) e.0 ∙ ap (λ (x : List ℕ). g c ∷ x) (map_each f g s e.1)

byte_each : (keep : Lamport → Bool) (h : History) (s : List PathCell) → AllByRecursion (λ (q : PathCell). keep q.cell.stamp ≡ true) s
    → AllByRecursion (λ (c : Cell). byte (kept_history keep h) c ≡ byte h c) (cells s)
byte_each keep h [] e = tt
byte_each keep h (q ∷ s) e = (ap (λ (x : List ℕ). get_or x q.cell.k 0) (bytes_kept keep h q.cell.stamp e.0), byte_each keep h s e.1)

text_part : (keep : Lamport → Bool) (h : History) → text_where everything (kept_history keep h) ≡ text_where keep h
unfolding text_where
text_part keep h =
    ap (λ (s : List PathCell). map (byte (kept_history keep h)) (filter (shows_where everything (kept_history keep h)) (cells s))) (seq_part everything keep h)
    ∙ ap (map (byte (kept_history keep h))) (filter_agree (shows_where everything (kept_history keep h)) (shows_where keep h) (λ c. shown_part everything keep h c) (cells (seq_where keep h)))
    ∙ map_each (byte (kept_history keep h)) (byte h) (filter (shows_where keep h) (cells (seq_where keep h)))
    (each_filter (λ (c : Cell). byte (kept_history keep h) c ≡ byte h c) (shows_where keep h) (cells (seq_where keep h)) (byte_each keep h (seq_where keep h) (passing keep h)))

full_part : (keep : Lamport → Bool) (h : History) → full_where everything (kept_history keep h) ≡ full_where keep h
unfolding full_where
full_part keep h =
    ap (λ (s : List PathCell). map (byte (kept_history keep h)) (cells s)) (seq_part everything keep h)
    ∙ map_each (byte (kept_history keep h)) (byte h) (cells (seq_where keep h)) (byte_each keep h (seq_where keep h) (passing keep h))

-- the text and the full text of h|v
pub text_seen : (h : History) (v : Entries) → text (seen_history h v) ≡ text_where (sees v) (newest_first h)
unfolding text
text_seen h v = ap (text_where everything) (newest_seen h v) ∙ text_part (sees v) (newest_first h)

pub full_seen : (h : History) (v : Entries) → full (seen_history h v) ≡ full_where (sees v) (newest_first h)
unfolding full
full_seen h v = ap (full_where everything) (newest_seen h v) ∙ full_part (sees v) (newest_first h)
