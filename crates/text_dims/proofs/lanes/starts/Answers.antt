use Rattle.std.proofs.Common.{ℕ, cond, leb, refl}
use Rattle.std.proofs.lemmas.Simd.{zip2_splat, zip2_splat_left, zip2_of_maps}
use Rattle.text_dims.specs.Counts.{begins_char}
use Rattle.text_dims.proofs.Bits.{masked}
use Rattle.text_dims.proofs.lanes.starts.Goals as goal

pub returns : goal.returns
returns c =
    let v = c.args.lanes in
    let long = c.fits-lanes.0 in
    masked _ begins_char v _ long c.fits-lanes.1 (zip2_of_maps _ _ _ v (zip2_splat _ v 16 128 long) (zip2_splat_left (λ (a b : ℕ). cond {A = ℕ} (leb a b) 255 0) 192 16 v long)) refl
