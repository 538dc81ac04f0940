use Rattle.std.proofs.Common.{◌≡◌, ◌∙◌, ◌++◌, ◌∷◌, [], List, None, Some, ap, subst, sym, length, arith}
use Rattle.std.specs.List.{slice_get}
use Rattle.std.specs.Option.{option_copied}
use Rattle.lamport_clock.specs.declared.stamp.Lamport.{Lamport}
use Rattle.c_values.specs.declared.stamps.Stamp.{Stamp}
use Rattle.c_values.specs.Stamps.{stamp}
use Rattle.buffer_handles.proofs.Listing.{IsListing, listing_begins, listing_next}
use Rattle.buffer_handles.proofs.Saves.{none_past}
use Rattle.buffer_handles.proofs.waits.stamps_of_waiting.Goals as goal

pub loop-last-init : goal.loop-last-init
loop-last-init c = subst (λ (xs : List Stamp). IsListing c.args.waiting.now xs None) (sym c.new-stamps.ensures.items) (listing_begins c.args.waiting.now)

pub loop-last-preserved : goal.loop-last-preserved
loop-last-preserved c =
    let w = c.args.waiting.now in let stamps = c.loop-last.stamps.items in let new = c.push_stamp.new.stamps.items in let op = c.in-Some.op.now in
    let made = c.in_ok-push_stamp-in-Some.ensures ∙ ap (λ (t : Lamport). stamps ++ stamp t ∷ []) c.stamp-in-Some.ensures in
    subst (λ (t : Lamport). IsListing w new (Some t)) (sym c.stamp.ensures)
    (listing_next w stamps new c.loop-last.last op c.len-len.ensures.ascending c.loop-last.invariant (sym c.in-Some.ensures) made)

pub unreachable-requires : goal.unreachable-requires
unreachable-requires c =
    let w = c.args.waiting.now in let n = length c.loop-last.stamps.items in
    let none : slice_get w n ≡ None = sym c.loop-last.invariant.next ∙ sym c.after.ensures ∙ ap option_copied c.in-None.is in
    omega (arith, none_past w n none, c.loop-last-test.true, c.len.ensures, c.len-len.ensures.len)
