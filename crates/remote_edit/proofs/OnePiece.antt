-- What the only piece of an edit makes of a tree that is sought first.
use Rattle.std.proofs.Common.{◌≡◌, ℕ, ◌+◌, ◌-◌, List, [], ◌∷◌, ◌++◌, length, take, drop, refl, sym, ap, subst, ◌∙◌, None, Some}
use Rattle.lamport_clock.specs.declared.stamp.Lamport.{Lamport}
use Rattle.lamport_clock.specs.Versions.{Entries}
use Rattle.op_model.specs.declared.operation.Piece.{Piece}
use Rattle.undo_map.specs.declared.entry.UndoEntry.{UndoEntry}
use Rattle.fragments.specs.declared.fragment.Fragment.{Fragment}
use Rattle.fragments.specs.Laws.{cells_len}
use Rattle.remote_edit.specs.declared.gather.Gather.{Gather}
use Rattle.remote_edit.specs.Walk.{Zip, advance, skip_later, put_new, one_piece}
use Rattle.remote_edit.specs.Steps.{IsAt}
use Rattle.remote_edit.specs.Gathers.{so_far, ahead}

-- what follows the cells before a piece
abbrev after_first : List UndoEntry → Lamport → Entries → ℕ → Piece → Zip → Zip
after_first w t v k p a =
    let b : Zip = skip_later t v a.pre a.rest in
    let c : Zip = put_new t k (length p.text) b.pre b.rest in
    advance (Some w) t v (p.end - p.start) c.pre c.rest

pub one_gathered : (w : List UndoEntry) (t : Lamport) (v : Entries) (xs ys : List Fragment) (at left n k : ℕ) (p : Piece) (g : Gather) → ys ≡ xs → k ≡ 0 → advance None t v left (take at xs) (drop at xs) ≡ advance None t v n [] xs
    → IsAt v (one_piece w t v left k p (take at ys) (drop at ys)) (cells_len ys + length p.text) (so_far ys g) (ahead ys g) g.place
    → IsAt v (one_piece w t v n 0 p [] xs) (cells_len xs + length p.text) (so_far xs g) (ahead xs g) g.place
one_gathered w t v xs ys at left n k p g e z s i =
    let here : IsAt v (one_piece w t v left k p (take at xs) (drop at xs)) (cells_len xs + length p.text) (so_far xs g) (ahead xs g) g.place =
    subst (λ (q : List Fragment). IsAt v (one_piece w t v left k p (take at q) (drop at q)) (cells_len q + length p.text) (so_far q g) (ahead q g) g.place) e i in
    let first : one_piece w t v left k p (take at xs) (drop at xs) ≡ one_piece w t v n k p [] xs = ap (after_first w t v k p) s in
    let all : one_piece w t v left k p (take at xs) (drop at xs) ≡ one_piece w t v n 0 p [] xs = first ∙ ap (λ (j : ℕ). one_piece w t v n j p [] xs) z in
    subst (λ (q : Zip). IsAt v q (cells_len xs + length p.text) (so_far xs g) (ahead xs g) g.place) all here
