use Rattle.std.proofs.Common.{◌∙◌, sym, ap, ◌≡◌, Option, Some, None, ℕ}
use Rattle.std.specs.List.{position}
use Rattle.multi_buffer.specs.Groups.{is_after}
use Rattle.multi_buffer.proofs.Gathered.{piece_between, piece_last}
use Rattle.multi_buffer.proofs.grouping.put_piece.Goals as goal

pub returns-in_ok-insert-in-Some : goal.returns-in_ok-insert-in-Some
returns-in_ok-insert-in-Some c =
    let there : position (is_after c.args.piece.start) c.args.pieces.now.items ≡ Some c.in-Some.at = ap (position (is_after c.args.piece.start)) (sym c.as_slice.ensures.value) ∙ sym c.first_after.ensures ∙ c.in-Some.is in
    c.in_ok-insert-in-Some.ensures.items ∙ piece_between c.args.piece c.args.pieces.now.items c.in-Some.at there

pub returns-in_ok-push-in-None : goal.returns-in_ok-push-in-None
returns-in_ok-push-in-None c =
    let none : Option ℕ = None in
    let missing : position (is_after c.args.piece.start) c.args.pieces.now.items ≡ none = ap (position (is_after c.args.piece.start)) (sym c.as_slice.ensures.value) ∙ sym c.first_after.ensures ∙ c.in-None.is in
    c.in_ok-push-in-None.ensures.items ∙ piece_last c.args.piece c.args.pieces.now.items missing
