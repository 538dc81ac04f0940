use Rattle.std.proofs.Common.{sym, ap, ◌∙◌, arith}
use Rattle.std.specs.Option.{option_copied}
use Rattle.anchors.proofs.Seeking.{byte_at}
use Rattle.anchors.proofs.Made.{no_byte, byte_is, byte_room}
use Rattle.anchors.proofs.making.shown_byte.Goals as goal

pub returns-in_default-clause-byte : goal.returns-in_default-clause-byte
returns-in_default-clause-byte c = λ w u h s l. no_byte c.args.tree.now.items w u h c.args.o s (sym (ap option_copied c.in_default.is) ∙ c.look_up.ensures.item)

pub overflow_sub-o : goal.overflow_sub-o
overflow_sub-o c =
    let a = byte_at c.args.tree.now.items c.args.o c.in-Some.fragment.now c.look_up.result.1.bytes (sym c.look_up.ensures.item ∙ ap option_copied c.in-Some.is) c.look_up.ensures.place in
    let l = a.low in omega (arith, l)

pub returns-clause-byte : goal.returns-clause-byte
returns-clause-byte c = λ w u h s l.
    byte_is c.args.tree.now.items w u h c.args.o c.look_up.result.1.bytes c.saturating_add-k.result c.in-Some.fragment.now s l
    (byte_at c.args.tree.now.items c.args.o c.in-Some.fragment.now c.look_up.result.1.bytes (sym c.look_up.ensures.item ∙ ap option_copied c.in-Some.is) c.look_up.ensures.place)
    c.saturating_add-k.ensures

pub returns-clause-room : goal.returns-clause-room
returns-clause-room c = λ w u h s.
    byte_room c.args.tree.now.items w u h c.args.o c.look_up.result.1.bytes c.saturating_add-k.result c.in-Some.fragment.now s
    (byte_at c.args.tree.now.items c.args.o c.in-Some.fragment.now c.look_up.result.1.bytes (sym c.look_up.ensures.item ∙ ap option_copied c.in-Some.is) c.look_up.ensures.place)
    c.saturating_add-k.ensures
