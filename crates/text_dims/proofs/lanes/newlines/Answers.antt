use Rattle.std.proofs.Common.{refl}
use Rattle.std.proofs.lemmas.Simd.{zip2_splat}
use Rattle.text_dims.specs.Counts.{is_newline}
use Rattle.text_dims.proofs.Bits.{masked}
use Rattle.text_dims.proofs.lanes.newlines.Goals as goal

pub returns : goal.returns
returns c =
    masked _ is_newline c.args.lanes _ c.fits-lanes.0 c.fits-lanes.1 (zip2_splat _ c.args.lanes 16 10 c.fits-lanes.0) refl
