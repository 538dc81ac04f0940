use Rattle.std.proofs.Common.{◌≡◌, ◌<◌, ◌++◌, length, All}
use denote.Text.{Utf8}
use denote.Shadow.{shadow}
use Rattle.std.specs.List.{concat}
use Rattle.rope_chunks.specs.Chunks.{IsChunk}
use Rattle.rope_chunks.proofs.pieces.cut_block.Given as goal

abbrev pub invariant-loop-chunks : goal.invariant-loop-chunks
invariant-loop-chunks l = shadow (Utf8 l.rest) × (concat l.chunks.items ++ l.rest ≡ l.fn.text) × All IsChunk l.chunks.items × (length l.rest < length l.fn.text)

abbrev pub decreases-loop-chunks : goal.decreases-loop-chunks
decreases-loop-chunks l = length l.rest
