-- The cells of a history, split at one of them.
use Rattle.std.proofs.Common.{◌≡◌, ℕ, ◌+◌, ◌-◌, ◌<◌, Bool, true, false, cond, not, List, [], ◌∷◌, ◌++◌, length, get_or, refl, sym, ap, ◌∙◌, arith, subst, Some}
use Rattle.std.specs.Prelude.{slice_get}
use Rattle.std.specs.List.{AllByRecursion, filter}
use Rattle.std.proofs.lemmas.Bool.{false_from_ne_true}
use Rattle.std.proofs.lemmas.List.{length-append}
use Rattle.std.proofs.lemmas.List.Elements.{filter-append}
use Rattle.std.proofs.lemmas.List.Filters.{length-filter_both}
use Rattle.op_model.proofs.Elements.{each_right, got_at}
use Rattle.op_model.specs.Sorted.{EachPair}
use Rattle.op_model.specs.Histories.{History}
use Rattle.op_model.specs.Cells.{Cell, same_cell, seq, cells}
use Rattle.op_model.specs.Shown.{shows, byte, text, hidden_text}
use Rattle.op_model.specs.Lawful.{Lawful}
use Rattle.op_model.specs.Anchors.{cells_before, cells_upto, shown_count, shown_cells}
use Rattle.op_model.proofs.order.PathOrder.{same_cell_eq, same_cell_refl}
use Rattle.op_model.proofs.MainLaws.{each_cell_once, texts_are_shown_cells}
use Rattle.op_model.proofs.anchors.KnownAnchors.{got_map}

-- ---- cells before one

Apart : Cell → List Cell → Type 0
Apart c cs = AllByRecursion (λ (d : Cell). same_cell d c ≡ false) cs

apart : (cs : List Cell) (c : Cell) (ds : List Cell) → EachPair (λ (a b : Cell). a ≡ b → ⊥) (cs ++ c ∷ ds) → Apart c cs
unfolding Apart
apart [] c ds e = tt
apart (d ∷ cs) c ds e = (false_from_ne_true (same_cell d c) (λ q. (each_right (λ (b : Cell). d ≡ b → ⊥) cs (c ∷ ds) e.0).0 (same_cell_eq d c q)), apart cs c ds e.1)

before_at : (cs : List Cell) (c : Cell) (ds : List Cell) → Apart c cs → cells_before (cs ++ c ∷ ds) c ≡ cs
unfolding Apart
before_at [] c ds a = rw (same_cell_refl c) refl
before_at (d ∷ cs) c ds a = rw a.0 (ap (λ z. d ∷ z) (before_at cs c ds a.1))

upto_at : (cs : List Cell) (c : Cell) (ds : List Cell) → Apart c cs → cells_upto (cs ++ c ∷ ds) c ≡ cs ++ c ∷ []
unfolding Apart
upto_at [] c ds a = rw (same_cell_refl c) refl
upto_at (d ∷ cs) c ds a = rw a.0 (ap (λ z. d ∷ z) (upto_at cs c ds a.1))

one_more : (b : Bool) (c : Cell) → length (cond b (c ∷ []) []) ≡ cond b 1 0
one_more true c = refl
one_more false c = refl

module _ (h : History) (l : Lawful h) (cs : List Cell) (c : Cell) (ds : List Cell) (e : cells (seq h) ≡ cs ++ c ∷ ds) where
  all_apart : Apart c cs
  all_apart = apart cs c ds (subst (EachPair (λ (a b : Cell). a ≡ b → ⊥)) e (each_cell_once h l).1)

  pub before_is : cells_before (cells (seq h)) c ≡ cs
  before_is = ap (λ (s : List Cell). cells_before s c) e ∙ before_at cs c ds all_apart

  pub upto_is : cells_upto (cells (seq h)) c ≡ cs ++ c ∷ []
  upto_is = ap (λ (s : List Cell). cells_upto s c) e ∙ upto_at cs c ds all_apart

  pub number_upto : shown_count h (cells_upto (cells (seq h)) c) ≡ shown_count h cs + cond (shows h c) 1 0
  number_upto = ap (shown_count h) upto_is ∙ ap length (filter-append (shows h) cs (c ∷ [])) ∙ length-append (filter (shows h) cs) (filter (shows h) (c ∷ []))
      ∙ ap (λ n. shown_count h cs + n) (one_more (shows h c) c)

  pub length_upto : length (cells_upto (cells (seq h)) c) ≡ length cs + 1
  length_upto = ap length upto_is ∙ length-append cs (c ∷ [])

  -- the cell among the shown ones, and its byte in the text
  pub got_shown : shows h c ≡ true → slice_get (shown_cells h) (shown_count h cs) ≡ Some c
  got_shown v = ap (λ (s : List Cell). slice_get (filter (shows h) s) (shown_count h cs)) e ∙ got_at (shows h) cs c ds v

  pub in_text : shows h c ≡ true → (shown_count h cs < length (text h)) × (get_or (text h) (shown_count h cs) 0 ≡ byte h c)
  in_text v = let k = got_map (byte h) (shown_cells h) (shown_count h cs) c (got_shown v) in
      subst (λ (t : List ℕ). (shown_count h cs < length t) × (get_or t (shown_count h cs) 0 ≡ byte h c)) (sym (texts_are_shown_cells h l).0) k

  number_hidden : ℕ
  number_hidden = length (filter (λ (d : Cell). not (shows h d)) cs)

  hidden_count : number_hidden ≡ length cs - shown_count h cs
  unfolding number_hidden
  hidden_count = let k = length-filter_both (shows h) (λ (c : Cell). not (shows h c)) (λ (c : Cell). refl) cs in omega (arith, k)

  pub in_hidden : shows h c ≡ false → (length cs - shown_count h cs < length (hidden_text h)) × (get_or (hidden_text h) (length cs - shown_count h cs) 0 ≡ byte h c)
  unfolding number_hidden
  in_hidden v =
      let g : slice_get (filter (λ (d : Cell). not (shows h d)) (cells (seq h))) number_hidden ≡ Some c =
      ap (λ (s : List Cell). slice_get (filter (λ (d : Cell). not (shows h d)) s) number_hidden) e ∙ got_at (λ (d : Cell). not (shows h d)) cs c ds (ap not v) in
      let k = got_map (byte h) (filter (λ (d : Cell). not (shows h d)) (cells (seq h))) number_hidden c g in
      subst (λ (n : ℕ). (n < length (hidden_text h)) × (get_or (hidden_text h) n 0 ≡ byte h c)) hidden_count k
