-- What is written part by part, while no sum passes the limit.
use Rattle.std.proofs.Common.{◌≡◌, ℕ, ◌+◌, ◌≤◌, List, [], ◌∷◌, ◌++◌, length, None, sym, ap, ◌∙◌, append_assoc, arith, get_or, take, drop, drop-cons, subst, ◌<◌, suc}
use Rattle.std.specs.List.{flat_map, AllByRecursion}
use Rattle.std.proofs.lemmas.List.{flat_map_more, take_more}
use Rattle.op_model.specs.declared.operation.Piece.{Piece}
use Rattle.op_wire.specs.Spelling.{limit, piece, long_sum}
use Rattle.op_wire.proofs.Records.{short_step}

pub four : (o s v p : List ℕ) (k : ℕ) → (((o ++ k ∷ []) ++ s) ++ v) ++ p ≡ o ++ (k ∷ (s ++ (v ++ p)))
four o s v p k = simp append_assoc

next_piece : (ps : List Piece) (i : ℕ) (p : Piece) → i < length ps → p ≡ get_or ps i p → drop i ps ≡ p ∷ drop (i + 1) ps
next_piece ps i p lt is =
    let k : suc i ≡ i + 1 = omega arith in
    drop-cons ps i p lt ∙ ap (λ (x : Piece). x ∷ drop (suc i) ps) (sym is) ∙ ap (λ (n : ℕ). p ∷ drop n ps) k

-- the piece that comes next, where no sum passes the limit
pub short_next : (so_far : ℕ) (ps : List Piece) (i : ℕ) (p : Piece) → i < length ps → p ≡ get_or ps i p → long_sum so_far (drop i ps) ≡ None
    → (length p.text ≤ limit) × (long_sum (so_far + length p.text) (drop (i + 1) ps) ≡ None)
short_next so_far ps i p lt is e =
    let h = short_step so_far p (drop (i + 1) ps) (subst (λ (x : List Piece). long_sum so_far x ≡ None) (next_piece ps i p lt is) e) in
    (omega (arith, h.0), h.1)

pub written_next : (o n : List ℕ) (ps : List Piece) (i : ℕ) (p : Piece) → i < length ps → p ≡ get_or ps i p
    → (o ++ (n ++ flat_map piece (take i ps))) ++ piece p ≡ o ++ (n ++ flat_map piece (take (i + 1) ps))
written_next o n ps i p lt is =
    let e : take (i + 1) ps ≡ take i ps ++ p ∷ [] = take_more ps i p lt ∙ ap (λ (x : Piece). take i ps ++ x ∷ []) (sym is) in
    append_assoc o (n ++ flat_map piece (take i ps)) (piece p) ∙ ap (λ (x : List ℕ). o ++ x) (flat_map_more piece n (take i ps) p) ∙ ap (λ (x : List Piece). o ++ (n ++ flat_map piece x)) (sym e)

each_push : {A : Type 0} (P : A → Type 0) (xs : List A) (x : A) → AllByRecursion P xs → P x → AllByRecursion P (xs ++ x ∷ [])
each_push P [] x h k = (k, tt)
each_push P (y ∷ xs) x h k = (h.0, each_push P xs x h.1 k)

pub each_next : {A : Type 0} (P : A → Type 0) (xs : List A) (i : ℕ) (x : A) → i < length xs → x ≡ get_or xs i x → AllByRecursion P (take i xs) → P x → AllByRecursion P (take (i + 1) xs)
each_next {A} P xs i x lt is h k =
    let e : take (i + 1) xs ≡ take i xs ++ x ∷ [] = take_more xs i x lt ∙ ap (λ (y : A). take i xs ++ y ∷ []) (sym is) in
    rw e (each_push P (take i xs) x h k)
