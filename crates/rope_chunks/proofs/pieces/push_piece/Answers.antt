use Rattle.std.proofs.Common.{◌≡◌, ◌++◌, [], ◌∷◌, append_assoc, List, ℕ, refl}
use Rattle.std.proofs.lemmas.List.Elements.{All-push}
use Rattle.std.specs.List.{concat, All}
use Rattle.rope_chunks.specs.Chunks.{IsChunk}
use Rattle.rope_chunks.proofs.Texts.{concat-push}
use Rattle.rope_chunks.proofs.pieces.push_piece.Goals as goal

moved : (cs ds : List (List ℕ)) (piece new rest after all : List ℕ) → ds ≡ cs ++ new ∷ [] → new ≡ piece → rest ≡ piece ++ after → concat cs ++ rest ≡ all → concat ds ++ after ≡ all
moved cs ds piece new rest after all e n r h =
    rw (e, n, concat-push cs piece, append_assoc (concat cs) piece after, ← r) h

each : (cs ds : List (List ℕ)) (piece new : List ℕ) → ds ≡ cs ++ new ∷ [] → new ≡ piece → IsChunk piece → All IsChunk cs → All IsChunk ds
each cs ds piece new e n p a = rw (e, n) (All-push IsChunk cs piece a p)

pub returns-clause-text : goal.returns-clause-text
returns-clause-text c =
    moved c.args.chunks.now.items c.push.new.self.items c.first_piece.result.0.now c.new.result c.args.text.now c.first_piece.result.1.now _ c.in_ok-push.ensures.items c.new.ensures c.first_piece.ensures.joined refl

pub returns-clause-each : goal.returns-clause-each
returns-clause-each c =
    each c.args.chunks.now.items c.push.new.self.items c.first_piece.result.0.now c.new.result c.in_ok-push.ensures.items c.new.ensures c.first_piece.ensures.piece c.requires.each
