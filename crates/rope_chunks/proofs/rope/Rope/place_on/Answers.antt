use Rattle.std.proofs.Common.{◌∙◌, ap, sym}
use Rattle.std.specs.Option.{unwrap_or}
use Rattle.rope_chunks.proofs.Clipping.{clipped_on}
use Rattle.rope_chunks.proofs.rope.Rope.place_on.Goals as goal

pub returns-in-Some : goal.returns-in-Some
returns-in-Some c =
    ap (λ h. unwrap_or h c.stop-stop.result.before) (sym c.in-Some.is)
    ∙ clipped_on c.args.self.now c.args.offset c.stop-stop.result c.stop-stop.ensures

pub returns-in-None : goal.returns-in-None
returns-in-None c =
    ap (λ h. unwrap_or h c.stop-stop.result.before) (sym c.in-None.is)
    ∙ clipped_on c.args.self.now c.args.offset c.stop-stop.result c.stop-stop.ensures
