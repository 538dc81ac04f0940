use Rattle.std.proofs.Common.{rules, ◌≡◌, ◌∙◌, Bool, Option, Some, None, length, List, ℕ, refl, arith}
use Rattle.std.specs.Option.{option_copied}
use Rattle.tree_cursor.specs.declared.traits.Bias.TheVariants.{Left}
use Rattle.text_dims.specs.declared.places.Place.{Place}
use Rattle.text_dims.specs.Summaries.{no_text, text_sum, summary_of}
use Rattle.sum_tree.specs.Laws.{fold}
use Rattle.rope_chunks.specs.At.{PlaceAndTextFit}
use Rattle.rope_chunks.proofs.Stops.{Stays, stop-found, found-room, chunks_fit}
use Rattle.rope_chunks.proofs.rope.Rope.stop.Goals as goal

pub look_up-requires : goal.look_up-requires
look_up-requires g c =
    let fit : PlaceAndTextFit c.start.result.0 (fold no_text text_sum summary_of c.self.inside.chunks.items) = chunks_fit c.self.inside.chunks.items c.self.invariant c.start.result.0 c.start.ensures in
    search rules

pub stop_in-requires : goal.stop_in-requires
stop_in-requires g c =
    found-room c.self.inside.chunks.items c.self.invariant c.start.result.0 c.start.ensures _ c.look_up.result.1.0 c.look_up.ensures.place (length c.as_str.result.now) c.as_str.ensures.few

pub stop_in-requires-in-None : goal.stop_in-requires-in-None
stop_in-requires-in-None g c =
    found-room c.self.inside.chunks.items c.self.invariant c.start.result.0 c.start.ensures _ c.look_up.result.1.0 c.look_up.ensures.place 0 (omega arith)

pub returns-in-Some : goal.returns-in-Some
returns-in-Some g c =
    let p : Place → Bool = λ k. g.G.Target.passes c.args.target.now k Left in
    let stays : Stays p = record { stays = λ a b e l. g.met.G.Target.stays c.args.target.now a b Left e l } in
    let item : Some c.as_str.result.now ≡ option_copied c.look_up.result.0 = rw (c.in-Some.is, c.as_str.ensures.value) refl in
    c.stop_in.ensures
    ∙ stop-found p stays c.self.inside.chunks.items c.self.invariant.each c.start.result.0 c.start.ensures c.args.self.now c.self.view_is c.look_up.result.1.0 c.look_up.ensures.place (Some c.as_str.result.now) (item ∙ c.look_up.ensures.item)

pub returns-in-None : goal.returns-in-None
returns-in-None g c =
    let p : Place → Bool = λ k. g.G.Target.passes c.args.target.now k Left in
    let stays : Stays p = record { stays = λ a b e l. g.met.G.Target.stays c.args.target.now a b Left e l } in
    let none : Option (List ℕ) = None in
    let item : none ≡ option_copied c.look_up.result.0 = rw c.in-None.is refl in
    c.stop_in-in-None.ensures
    ∙ stop-found p stays c.self.inside.chunks.items c.self.invariant.each c.start.result.0 c.start.ensures c.args.self.now c.self.view_is c.look_up.result.1.0 c.look_up.ensures.place None (item ∙ c.look_up.ensures.item)
