use Rattle.std.proofs.Common.{ℕ, cond, leb, refl}
use Rattle.std.proofs.lemmas.Simd.{zip2_splat_left}
use Rattle.text_dims.specs.Counts.{begins_wide}
use Rattle.text_dims.proofs.Bits.{masked}
use Rattle.text_dims.proofs.lanes.wide.Goals as goal

pub returns : goal.returns
returns c =
    masked _ begins_wide c.args.lanes _ c.fits-lanes.0 c.fits-lanes.1 (zip2_splat_left (λ (a b : ℕ). cond {A = ℕ} (leb a b) 255 0) 240 16 c.args.lanes c.fits-lanes.0) refl
