use Rattle.std.proofs.Common.{◌∙◌, sym, ap, refl, ◌≡◌, List, Option, Some, None, ℕ}
use Rattle.std.specs.List.{position}
use Rattle.std.specs.Prelude.{map}
use Rattle.std.proofs.lemmas.List.{get_or_default}
use Rattle.multi_buffer.specs.declared.grouping.Group.{Group}
use Rattle.multi_buffer.specs.Splits.{put_piece}
use Rattle.multi_buffer.specs.Groups.{is_from, pieces_in}
use Rattle.multi_buffer.proofs.Gathered.{in_group, group_between, group_last, found_at, on_ok}
use Rattle.multi_buffer.proofs.grouping.put_in.Goals as goal

pub returns-in-Some : goal.returns-in-Some
returns-in-Some c =
    let gs : List Group = c.args.groups.now.items in
    let i : ℕ = c.in-Some.at in
    let d : Group = c.index_mut.result.now in
    let there : position (is_from c.args.buffer) gs ≡ Some i = ap (position (is_from c.args.buffer)) (sym c.as_slice.ensures.value) ∙ sym c.first_from.ensures ∙ c.in-Some.is in
    let same : d.buffer ≡ c.args.buffer = ap (λ (g : Group). g.buffer) c.index_mut.ensures.value ∙ ap (λ (g : Group). g.buffer) (get_or_default gs i d c.index.result.now (found_at (is_from c.args.buffer) gs i there).0) ∙ sym (ap (λ (g : Group). g.buffer) c.index.ensures) ∙ c.if-index-buffer.true in
    on_ok c.put_piece.result
    (λ e. in_group c.args.buffer c.args.piece gs (record { buffer = d.buffer; pieces = c.put_piece.new.pieces }) same i d c.index.result.now there
    (sym (ap (λ (g : Group). g.buffer) c.index.ensures) ∙ c.if-index-buffer.true) (e ∙ ap (λ (g : Group). put_piece c.args.piece g.pieces.items) c.index_mut.ensures.value))
    c.put_piece.ensures

pub returns-in_ok-insert-in-Some-2 : goal.returns-in_ok-insert-in-Some-2
returns-in_ok-insert-in-Some-2 c =
    let gs : List Group = c.args.groups.now.items in
    let i : ℕ = c.in-Some.at in
    let there : position (is_from c.args.buffer) gs ≡ Some i = ap (position (is_from c.args.buffer)) (sym c.as_slice.ensures.value) ∙ sym c.first_from.ensures ∙ c.in-Some.is in
    let made : Group = record { buffer = c.args.buffer; pieces = c.in_ok-pieces-in-Some-2.pieces } in
    ap (map pieces_in) c.in_ok-insert-in-Some-2.ensures.items
    ∙ group_between c.args.buffer c.args.piece gs made refl i c.index.result.now there (λ q. c.if-index-buffer.false (ap (λ (g : Group). g.buffer) c.index.ensures ∙ q)) c.in_ok-pieces-in-Some-2.ensures

pub returns-in_ok-push-in-None : goal.returns-in_ok-push-in-None
returns-in_ok-push-in-None c =
    let gs : List Group = c.args.groups.now.items in
    let none : Option ℕ = None in
    let missing : position (is_from c.args.buffer) gs ≡ none = ap (position (is_from c.args.buffer)) (sym c.as_slice.ensures.value) ∙ sym c.first_from.ensures ∙ c.in-None.is in
    let made : Group = record { buffer = c.args.buffer; pieces = c.in_ok-pieces-in-None.pieces } in
    ap (map pieces_in) c.in_ok-push-in-None.ensures.items ∙ group_last c.args.buffer c.args.piece gs made refl missing c.in_ok-pieces-in-None.ensures
