-- The shown, the hidden and the whole text, cell by cell.
use Rattle.std.proofs.Common.{[], ◌≡◌, ◌+◌, length, refl, ◌∙◌, ap, arith, not, List, map, sym, Bool, ◌∷◌, true, false, cond}
use Rattle.std.specs.List.{filter}
use Rattle.std.proofs.lemmas.List.{length-map}
use Rattle.std.proofs.lemmas.List.Filters.{length-filter_both}
use Rattle.op_model.specs.Histories.{History, newest_first, seen_history, Distinct}
use Rattle.op_model.specs.Cells.{Cell, seq, cells, PathCell, everything, seq_where}
use Rattle.op_model.specs.Shown.{byte, shows, text, hidden_text, full, full_where}
use Rattle.op_model.specs.Lawful.{Lawful, IsClosed}
use Rattle.op_model.proofs.MainLaws.{texts_are_shown_cells}
use Rattle.op_model.specs.Facts.{Fact, cell_facts, fact}
use Rattle.op_model.proofs.order.Restricted.{restrict}
use Rattle.op_model.proofs.shown.Bytes.{full_seen}
use Rattle.op_model.proofs.texts.Utf8Runs.{bytes}
use Rattle.op_model.proofs.histories.ClosedVersions.{closed_part}
use Rattle.op_model.proofs.texts.WholeRuns.{byte_new}
use Rattle.lamport_clock.specs.Versions.{sees, Entries}
use Rattle.op_model.proofs.texts.WholeTexts.{byte_of, kept_told}

-- the lengths of both texts
pub both_lengths : (h : History) → Lawful h → length (text h) + length (hidden_text h) ≡ length (seq h)
both_lengths h l =
    let a = ap length (texts_are_shown_cells h l).0 ∙ length-map (filter (shows h) (cells (seq h))) (byte h) in
    let b = length-map (filter (λ (c : Cell). not (shows h c)) (cells (seq h))) (byte h) in
    let k = length-filter_both (shows h) (λ (c : Cell). not (shows h c)) (λ (c : Cell). refl) (cells (seq h)) in
    let n = length-map (seq h) (λ p. p.cell) in
    omega (arith, a, b, k, n)

-- ---- what a closed version sees of a history

pub seen_told : (h : History) (v : Entries) → Lawful h → IsClosed h v → full (seen_history h v) ≡ bytes (byte_of h) (filter (λ (q : Fact). sees v q.cell.stamp) (cell_facts h))
unfolding seq full_where
seen_told h v l c = full_seen h v
    ∙ ap (λ (s : List PathCell). map (byte_of h) (cells s)) (sym (restrict (sees v) (newest_first h) (closed_part h l v c)))
    ∙ sym (kept_told h (sees v) (seq_where everything (newest_first h)))

pub full_cells : (h : History) → full h ≡ map (byte_of h) (cells (seq h))
unfolding full full_where seq
full_cells h = refl

pub hidden_told : (h : History) → Distinct h → hidden_text h ≡ bytes (byte_of h) (filter (λ (q : Fact). not q.visible) (cell_facts h))
hidden_told h d = go (cells (seq h))
  where
    go : (s : List Cell) → map (byte h) (filter (λ (c : Cell). not (shows h c)) s) ≡ bytes (byte_of h) (filter (λ (q : Fact). not q.visible) (map (fact h) s))
    go [] = refl
    go (c ∷ s) = pick (shows h c) (go s)
      where
        pick : (b : Bool) → map (byte h) (filter (λ (x : Cell). not (shows h x)) s) ≡ bytes (byte_of h) (filter (λ (q : Fact). not q.visible) (map (fact h) s))
            → map (byte h) (cond (not b) (c ∷ filter (λ (x : Cell). not (shows h x)) s) (filter (λ (x : Cell). not (shows h x)) s))
            ≡ bytes (byte_of h) (cond (not b) (fact h c ∷ filter (λ (q : Fact). not q.visible) (map (fact h) s)) (filter (λ (q : Fact). not q.visible) (map (fact h) s)))
        pick true e = e
        pick false e = ap (λ x. x ∷ map (byte h) (filter (λ (x : Cell). not (shows h x)) s)) (sym (byte_new h d c.stamp c.k)) ∙ ap (λ z. byte_of h c ∷ z) e
