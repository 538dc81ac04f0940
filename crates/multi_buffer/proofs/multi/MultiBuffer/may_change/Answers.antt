use Rattle.std.proofs.Common.{◌≡◌, List, Bool, true, false, not, Option, Some, None, map, ap, refl, subst, sym, ◌∙◌}
use Rattle.std.specs.Option.{option_copied}
use Rattle.op_model.specs.Histories.{version}
use Rattle.multi_buffer.specs.declared.source.Source.{Source}
use Rattle.multi_buffer.specs.Calls.{followed_in, IsWithin}
use Rattle.multi_buffer.specs.State.{MultiState, history_in, history_of, source_of}
use Rattle.multi_buffer.proofs.Followed.{none_follow, same_follow}
use Rattle.multi_buffer.proofs.multi.MultiBuffer.may_change.Goals as goal

is_so : (b : Bool) → not b ≡ false → b ≡ true
is_so true e = refl
is_so false e = cc

pub returns-in-Some : goal.returns-in-Some
returns-in-Some c = λ e.
    let ss : List Source = c.self.inside.sources.items in
    let w = subst (λ (m : MultiState). IsWithin (history_of c.args.buffer m.synced) c.args.snap.now) (sym c.self.view_is) c.requires in
    let item : option_copied c.source_of.result ≡ Some c.in-Some.source.now = rw c.in-Some.is refl in
    let there : source_of c.args.buffer ss ≡ Some c.in-Some.source.now = ap (source_of c.args.buffer) (sym c.deref.ensures.value) ∙ sym c.source_of.ensures ∙ item in
    let t = is_so c.is_same.result e in
    let v : version (history_of c.args.buffer ss) ≡ version c.args.snap.now = ap (λ (o : Option Source). version (history_in o)) there ∙ sym c.version.ensures ∙ c.is_same.ensures t ∙ c.version-in-Some.ensures in
    subst (λ (m : MultiState). m.excerpts ≡ map (followed_in c.args.buffer c.args.snap.now) m.excerpts) c.self.view_is
    (same_follow ss c.args.buffer c.args.snap.now c.self.invariant.histories c.known.ensures.lawful w v c.self.inside.excerpts c.self.invariant.excerpts)

pub returns-in-None : goal.returns-in-None
returns-in-None c = λ e.
    let ss : List Source = c.self.inside.sources.items in
    let none : Option Source = None in
    let item : option_copied c.source_of.result ≡ none = rw c.in-None.is refl in
    let there : source_of c.args.buffer ss ≡ none = ap (source_of c.args.buffer) (sym c.deref.ensures.value) ∙ sym c.source_of.ensures ∙ item in
    subst (λ (m : MultiState). m.excerpts ≡ map (followed_in c.args.buffer c.args.snap.now) m.excerpts) c.self.view_is
    (none_follow ss c.args.buffer c.args.snap.now c.self.inside.excerpts there c.self.invariant.excerpts)
