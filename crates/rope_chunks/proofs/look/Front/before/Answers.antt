use Rattle.std.proofs.Common.{◌-◌, Bool, length, sym, subst, ◌∙◌}
use Rattle.tree_cursor.specs.declared.traits.Bias.TheVariants.{Left}
use Rattle.text_dims.specs.declared.places.Place.{Place}
use Rattle.text_dims.proofs.Fronts.{cut_within}
use Rattle.rope_chunks.specs.Stops.{HasRoom}
use Rattle.rope_chunks.proofs.Stops.{Stays}
use Rattle.rope_chunks.proofs.Fronts.{room_past, stop_behind}
use Rattle.rope_chunks.proofs.look.Front.before.Goals as goal

pub returns-clause-within : goal.returns-clause-within
returns-clause-within g c = cut_within c.args.bytes.now c.new-front.result.len c.new-front.ensures.cut

pub returns-clause-room : goal.returns-clause-room
returns-clause-room g c =
    let bs = c.args.bytes.now in
    let n = c.new-front.result.len in
    subst (λ (k : Place). HasRoom k (length bs - n)) (sym c.new-front.ensures.place) (room_past c.args.start bs n c.requires (cut_within bs n c.new-front.ensures.cut))

pub returns-clause-rest : goal.returns-clause-rest
returns-clause-rest g c =
    let p : Place → Bool = λ k. g.G.Target.passes c.args.target.now k Left in
    let stays : Stays p = record { stays = λ a b e l. g.met.G.Target.stays c.args.target.now a b Left e l } in
    let f = c.new-front.result in
    stop_behind p stays c.args.start f.place c.args.bytes.now f.len c.new-front.ensures.cut c.new-front.ensures.place (sym c.passed.ensures ∙ c.if-passed.false)
