use Rattle.std.proofs.Common.{ap, refl, sym, ◌∙◌}
use Rattle.std.specs.Option.{option_copied}
use Rattle.std.proofs.lemmas.Bool.{eq-eqb, ne_eqb}
use Rattle.multi_buffer.proofs.Turns.{seeking_begins, seeking_ends, seeking_found, seeking_on, seeking_smaller}
use Rattle.multi_buffer.proofs.excerpts.Excerpts.sharing.Goals as goal

pub loop-member-init : goal.loop-member-init
loop-member-init c =
    seeking_begins c.args.part c.args.self.now c.self.inside.tree.items c.self.inside.members.items _ _ c.in-Ok.found c.self.invariant.members c.self.view_is refl c.in-Ok.ensures.made

pub returns-then-member-part : goal.returns-then-member-part
returns-then-member-part c =
    seeking_found c.args.part c.args.self.now c.loop-member.found c.next_meeting.new.found c.loop-member.invariant c.next_meeting.ensures.moved
    c.in-Some.member.now (sym c.next_meeting.ensures.item ∙ ap option_copied c.in-Some.is) (ne_eqb c.in-Some.member.now.index c.args.part.excerpt c.if-member-part.true)

pub loop-member-smaller : goal.loop-member-smaller
loop-member-smaller c =
    seeking_smaller c.args.part c.args.self.now c.loop-member.found c.next_meeting.new.found c.loop-member.invariant c.next_meeting.ensures.moved
    c.in-Some.member.now (sym c.next_meeting.ensures.item ∙ ap option_copied c.in-Some.is)

pub loop-member-preserved : goal.loop-member-preserved
loop-member-preserved c =
    seeking_on c.args.part c.args.self.now c.loop-member.found c.next_meeting.new.found c.loop-member.invariant c.next_meeting.ensures.moved
    c.in-Some.member.now (sym c.next_meeting.ensures.item ∙ ap option_copied c.in-Some.is) (eq-eqb c.in-Some.member.now.index c.args.part.excerpt c.if-member-part.false)

pub returns : goal.returns
returns c =
    seeking_ends c.args.part c.args.self.now c.loop-member.found c.next_meeting.new.found c.loop-member.invariant c.next_meeting.ensures.moved
    (sym c.next_meeting.ensures.item ∙ ap option_copied c.in_default-next_meeting.is)
