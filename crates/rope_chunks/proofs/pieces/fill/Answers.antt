use Rattle.std.proofs.Common.{◌≡◌, ◌∙◌, ◌++◌, [], ◌∷◌, ap, sym, subst, List, ℕ, arith, length-append}
use Rattle.std.proofs.lemmas.List.Elements.{All-push, All-nil}
use Rattle.std.proofs.lemmas.Str.{IsUtf8-take, IsUtf8-append}
use Rattle.std.specs.Str.{IsUtf8}
use Rattle.std.specs.List.{All}
use Rattle.rope_chunks.specs.Chunks.{IsChunk}
use Rattle.rope_chunks.proofs.pieces.fill.Goals as goal

one : (cs ds : List (List ℕ)) (c d : List ℕ) → cs ≡ [] → ds ≡ cs ++ d ∷ [] → d ≡ c → IsChunk c → All IsChunk ds
one cs ds c d e f g h = subst (λ xs. All IsChunk xs) (sym (f ∙ ap (λ xs. xs ++ d ∷ []) e ∙ ap (λ x. x ∷ []) g)) (All-push IsChunk [] c (All-nil IsChunk) h)

pub cut_up-requires : goal.cut_up-requires
cut_up-requires c =
    let front : List ℕ = c.args.front.now in
    let piece : List ℕ = c.split_at.result.0.now in
    let text : IsUtf8 piece = rw c.split_at.ensures.front (IsUtf8-take c.args.text.now c.floor_char_boundary.result c.utf8.text c.floor_char_boundary.ensures.boundary) in
    let is : IsChunk (front ++ piece) = record {
      text = IsUtf8-append front piece c.utf8.front text;
      some = omega (arith, length-append front piece, c.requires.some);
      few = omega (arith, length-append front piece, c.requires.few, c.split_at.ensures.front_len, c.floor_char_boundary.ensures.bound);
    } in
    one c.new-chunks.result.items c.push.new.self.items (front ++ piece) c.join.result c.new-chunks.ensures.items c.in_ok-push.ensures.items c.join.ensures is
