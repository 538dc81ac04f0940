-- What is left of a rope's chunks from an index on.
use Rattle.std.proofs.Common.{◌≡◌, ℕ, ◌+◌, ◌<◌, List, [], ◌++◌, length, get_or, take, drop, ap, sym, ◌∙◌, arith, append_assoc}
use Rattle.std.proofs.lemmas.List.{append-nil, drop-drop, drop-append-le}
use Rattle.std.proofs.Math.Seq.{drop-append-add, drop-append_seam}
use Rattle.sum_tree.specs.Seen.{Seen}
use Rattle.sum_tree.specs.Shape.{join_items}
use Rattle.sum_tree.proofs.Children.{joined_around}

-- what is left of the chunks ds from r on comes first of what is left of cs from i on
pub record IsTail (cs ds : List (List ℕ)) (r i : ℕ) : Type 0 where
  pub behind : List (List ℕ)
  pub all : drop i cs ≡ drop r ds ++ behind
  pub within : r < length ds

pub tail_whole : (cs : List (List ℕ)) (i : ℕ) → i < length cs → IsTail cs cs i i
tail_whole cs i h = record { behind = []; all = sym (append-nil (drop i cs)); within = h }

pub tail_child : (cs ds : List (List ℕ)) (ts : List (Seen (List ℕ))) (r i k q : ℕ) (t : Seen (List ℕ)) → IsTail cs ds r i → ds ≡ join_items ts → k < length ts → t ≡ get_or ts k t → length (join_items (take k ts)) + q ≡ r → q < length t.items → IsTail cs t.items q i
tail_child cs ds ts r i k q t p e within read before fits =
    let a : List (List ℕ) = join_items (take k ts) in
    let b : List (List ℕ) = join_items (drop (k + 1) ts) in
    let cut : drop r (join_items ts) ≡ drop q t.items ++ b =
    ap (λ xs. drop r xs) (joined_around ts k t within read)
    ∙ ap (λ n. drop n (a ++ (t.items ++ b))) (sym before)
    ∙ drop-append-add a (t.items ++ b) q
    ∙ drop-append-le q t.items b (omega (arith, fits)) in
    record {
      behind = b ++ p.behind;
      all = p.all ∙ ap (λ xs. drop r xs ++ p.behind) e ∙ ap (λ xs. xs ++ p.behind) cut ∙ append_assoc (drop q t.items) b p.behind;
      within = fits;
    }

pub tail_rest : (cs ds xs : List (List ℕ)) (r i : ℕ) → IsTail cs ds r i → xs ≡ drop r ds → drop i cs ≡ xs ++ drop (i + length xs) cs
tail_rest cs ds xs r i p e =
    let all : drop i cs ≡ xs ++ p.behind = p.all ∙ ap (λ ys. ys ++ p.behind) (sym e) in
    let behind : drop (i + length xs) cs ≡ p.behind = sym (drop-drop (length xs) i cs) ∙ ap (λ ys. drop (length xs) ys) all ∙ drop-append_seam xs p.behind in
    all ∙ ap (λ ys. xs ++ ys) (sym behind)
