-- The counts that a local undo gives.
use Rattle.std.proofs.Common.{◌++◌, ◌≤◌, drop, ◌≡◌, ℕ, ◌+◌, List, [], ◌∷◌, length, map, refl, sym, ◌∙◌, ap}
use Rattle.std.proofs.lemmas.List.{append-nil, drop_all}
use Rattle.lamport_clock.specs.declared.stamp.Lamport.{Lamport}
use Rattle.op_model.specs.declared.operation.UndoCount.{UndoCount}
use Rattle.op_model.specs.Histories.{History}
use Rattle.op_model.specs.Made.{next_count}
use Rattle.undo_map.specs.declared.entry.UndoEntry.{UndoEntry}
use Rattle.undo_map.specs.Undos.{undo_entries, next_of}
use Rattle.undo_map.proofs.Entries.{count_kept}

-- the next counts are those of the history
next_same : (h : History) (w : List UndoEntry) (ts : List Lamport) → w ≡ undo_entries h → map (next_of w) ts ≡ map (next_count h) ts
next_same h w [] q = refl
next_same h w (t ∷ ts) q =
    let n : next_of w t ≡ next_count h t = ap (λ (z : List UndoEntry). next_of z t) q ∙ ap (λ (n : ℕ). record { edit = t; count = n + 1 }) (count_kept h t) in
    ap (λ (c : UndoCount). c ∷ map (next_of w) ts) n ∙ ap (λ (cs : List UndoCount). next_count h t ∷ cs) (next_same h w ts q)

-- all counts are made
pub all_made : (h : History) (w : List UndoEntry) (ts : List Lamport) (i : ℕ) (cs r : List UndoCount) → r ≡ cs → length ts ≤ i → cs ++ map (next_of w) (drop i ts) ≡ map (next_of w) ts → w ≡ undo_entries h
    → r ≡ map (next_count h) ts
all_made h w ts i cs r e l m q = e ∙ sym (append-nil cs) ∙ sym (ap (λ (z : List Lamport). cs ++ map (next_of w) z) (drop_all i ts l)) ∙ m ∙ next_same h w ts q
