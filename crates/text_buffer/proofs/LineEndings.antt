-- What edits of texts as they enter have in common with the texts as they were handed in.
use Rattle.std.proofs.Common.{◌≡◌, ◌≢◌, ℕ, ◌+◌, ◌*◌, get_or, ◌<◌, ◌≤◌, Bool, true, false, cond, eqb, ltb, not, ◌&&◌, ◌||◌, List, [], ◌∷◌, length, map, refl, sym, ◌∙◌, ap, ap₂, subst, suc, arith, Some, Option}
use Rattle.std.specs.Prelude.{option_map}
use Rattle.std.specs.List.{list_any, position, position_from}
use Rattle.std.proofs.lemmas.Bool.{or_parts, both_ways, eq-eqb, ne_eqb}
use Rattle.std.proofs.lemmas.List.{length-map}
use Rattle.std.proofs.lemmas.List.Folds.{list_any_at}
use Rattle.std.proofs.lemmas.Iterator.Adapters.{position_from-zero}
use Rattle.op_model.specs.declared.endings.Endings.{Endings}
use Rattle.op_model.specs.declared.endings.Endings.TheVariants.{AsIs, Lf}
use Rattle.op_model.specs.declared.faults.EditFault.TheVariants.{Reversed, Overlap, PastEnd, InsideChar}
use Rattle.op_model.specs.declared.faults.OpFault.TheVariants.{CarriageReturn}
use Rattle.op_model.specs.declared.operation.Piece.{Piece}
use Rattle.op_model.specs.Choice.{first_of}
use Rattle.op_model.specs.Edits.{is_reversed, is_past, is_inside, overlap_from, piece_fault}
use Rattle.op_model.specs.Histories.{History, base}
use Rattle.op_model.specs.Rules.{KeepsRule, has_return, lf, lf_after, pieces_under, text_under}
use Rattle.op_model.proofs.answers.Passed.{none_map, none_position}
use Rattle.op_model.proofs.texts.Entering.{lf_clean, lf_none, lf_same}
use Rattle.fragments.specs.declared.fragment.Fragment.{Fragment}
use Rattle.remote_edit.specs.Costs.{is_met, touch_count, touch_count_behind}
use Rattle.remote_edit.specs.Fragments.{fragments_of}
use Rattle.remote_edit.specs.Offsets.{piece_in}
use Rattle.text_buffer.specs.Costs.{IsEditCost}
use Rattle.text_buffer.specs.Entering.{is_rewritten}

-- ---- lengths

shorter_after : (b : Bool) (t : List ℕ) → length (lf_after b t) ≤ length t
shorter_after b [] = omega arith
shorter_after b (x ∷ t) = go (eqb x 13) (b && eqb x 10) (shorter_after true t) (shorter_after false t)
  where
    go : (r n : Bool) → length (lf_after true t) ≤ length t → length (lf_after false t) ≤ length t
        → length (cond r (10 ∷ lf_after true t) (cond n (lf_after false t) (x ∷ lf_after false t))) ≤ suc (length t)
    go true n p q = omega arith
    go false true p q = omega arith
    go false false p q = omega arith

-- no text is longer once it has entered
pub no_longer : (e : Endings) (t : List ℕ) → length (text_under e t) ≤ length t
no_longer AsIs t = omega arith
no_longer Lf t = shorter_after false t

-- ---- which texts stay

abbrev lf_piece : Piece → Piece
lf_piece p = record { start = p.start; end = p.end; text = lf p.text }

-- pieces of which no text enters changed enter as they are
pub same_pieces : (e : Endings) (ps : List Piece) → is_rewritten e ps ≡ false → pieces_under e ps ≡ ps
same_pieces AsIs ps n = refl
same_pieces Lf ps n = go ps n
  where
    go : (ps : List Piece) → list_any has_return ps ≡ false → map lf_piece ps ≡ ps
    go [] n = refl
    go (p ∷ ps) n =
        let k = or_parts (has_return p) (list_any has_return ps) n in
        ap₂ (λ (t : List ℕ) (qs : List Piece). record { start = p.start; end = p.end; text = t } ∷ qs) (lf_same p.text k.0) (go ps k.1)

-- and if one does, the buffer has LFs alone
pub rewritten_pieces : (e : Endings) (ps : List Piece) → is_rewritten e ps ≡ true → pieces_under e ps ≡ pieces_under Lf ps
rewritten_pieces AsIs ps y = cc
rewritten_pieces Lf ps y = refl

-- ---- a CR in a text, by its bytes

none_found : (t : List ℕ) → ((k : ℕ) → k < length t → get_or t k 0 ≢ 13) → list_any (λ b. eqb b 13) t ≡ false
none_found [] n = refl
none_found (x ∷ t) n = rw (ne_eqb x 13 (n 0 (omega arith))) (none_found t (λ k l. n (suc k) (omega arith)))

pub return_found : (t : List ℕ) (r : Bool) → (r ≡ true → (k : ℕ) × (k < length t) × (get_or t k 0 ≡ 13)) → ((k : ℕ) → k < length t → get_or t k 0 ≡ 13 → r ≡ true)
    → r ≡ list_any (λ b. eqb b 13) t
return_found t true h g = let k = h refl in sym (list_any_at (λ b. eqb b 13) t k.0 0 k.1 (eq-eqb (get_or t k.0 0) 13 k.2))
return_found t false h g = sym (none_found t (λ k l e. both_ways false refl (g k l e)))

-- without one a text enters as it is
pub stays_unfound : (t : List ℕ) (r : Bool) → ((k : ℕ) → k < length t → get_or t k 0 ≡ 13 → r ≡ true) → not r ≡ true → lf t ≡ t
stays_unfound t true h e = cc
stays_unfound t false h e = lf_none t (λ k l q. both_ways false refl (h k l q))

-- ---- ranges stay

pub length_under : (e : Endings) (ps : List Piece) → length (pieces_under e ps) ≡ length ps
length_under AsIs ps = refl
length_under Lf ps = length-map ps lf_piece

position_lf : (q : Piece → Bool) → ((p : Piece) → q (lf_piece p) ≡ q p) → (ps : List Piece) → position q (map lf_piece ps) ≡ position q ps
position_lf q same ps = position_from-zero q (map lf_piece ps) ∙ from 0 ps ∙ sym (position_from-zero q ps)
  where
    from : (i : ℕ) (ps : List Piece) → position_from q i (map lf_piece ps) ≡ position_from q i ps
    from i [] = refl
    from i (p ∷ ps) = ap₂ (λ (b : Bool) (o : Option ℕ). cond b (Some i) o) (same p) (from (i + 1) ps)

overlap_lf : (at i : ℕ) (ps : List Piece) → overlap_from at i (map lf_piece ps) ≡ overlap_from at i ps
overlap_lf at i [] = refl
overlap_lf at i (p ∷ ps) = ap (λ (o : Option ℕ). cond (ltb p.start at) (Some i) o) (overlap_lf p.end (suc i) ps)

-- pieces meet the same fault against a text as they enter
pub piece_fault_under : (e : Endings) (t : List ℕ) (ps : List Piece) → piece_fault t (pieces_under e ps) ≡ piece_fault t ps
piece_fault_under AsIs t ps = refl
piece_fault_under Lf t ps =
    let a = position_lf is_reversed (λ p. refl) ps in
    let b = overlap_lf 0 0 ps in
    let c = position_lf (is_past (length t)) (λ p. refl) ps in
    let d = position_lf (is_inside t) (λ p. refl) ps in
    λ j. first_of (option_map Reversed (a j) ∷ option_map Overlap (b j) ∷ option_map (λ i. PastEnd i (length t)) (c j) ∷ option_map InsideChar (d j) ∷ [])

-- ---- costs stay

met_lf : (k n : ℕ) (fs : List Fragment) (ps : List Piece) → list_any (is_met k n) (map (piece_in fs) (map lf_piece ps)) ≡ list_any (is_met k n) (map (piece_in fs) ps)
met_lf k n fs [] = refl
met_lf k n fs (p ∷ ps) = ap (λ (b : Bool). is_met k n (piece_in fs p) || b) (met_lf k n fs ps)

touch_lf : (k : ℕ) (gs fs : List Fragment) (ps : List Piece) → touch_count_behind k (map (piece_in gs) (map lf_piece ps)) fs ≡ touch_count_behind k (map (piece_in gs) ps) fs
touch_lf k gs [] ps = refl
touch_lf k gs (f ∷ fs) ps = ap₂ (λ (b : Bool) (n : ℕ). cond b 1 0 + n) (met_lf k f.len gs ps) (touch_lf (k + f.len) gs fs ps)

touch_under : (e : Endings) (fs : List Fragment) (ps : List Piece) → touch_count fs (pieces_under e ps) ≡ touch_count fs ps
touch_under AsIs fs ps = refl
touch_under Lf fs ps = touch_lf 0 fs fs ps

-- an edit costs by its ranges alone
pub cost_under : (h : History) (e : Endings) (ps : List Piece) (n : ℕ) → IsEditCost h (pieces_under e ps) n → IsEditCost h ps n
cost_under h e ps n k = record {
  height = k.height;
  tall = k.tall;
  cost = subst (λ (m : ℕ). n ≤ 256 * (m + 1) * (k.height + 1)) (ap₂ (λ (a b : ℕ). a + b) (length_under e ps) (touch_under e (fragments_of h) ps)) k.cost;
}

-- ---- a base keeps the rule

pub base_rule : (e : Endings) (t : List ℕ) → KeepsRule e (base (text_under e t) ∷ [])
base_rule AsIs t = (refl, tt)
base_rule Lf t =
    let ps : List Piece = record { start = 0; end = 0; text = lf t } ∷ [] in
    (none_map CarriageReturn (position has_return ps) (none_position has_return ps (lf_clean t, tt)), tt)
