use Rattle.std.proofs.Common.{◌≡◌, ◌∙◌, ◌++◌, ◌∷◌, [], refl, ap, sym, arith, true, false}
use Rattle.std.specs.Option.{option_copied}
use Rattle.fragments.specs.declared.fragment.Fragment.{Fragment}
use Rattle.remote_edit.specs.Marks.{touch, touch_index}
use Rattle.remote_edit.specs.Gathers.{so_far, ahead}
use Rattle.remote_edit.proofs.Gathers.{room_of, some_len}
use Rattle.remote_edit.proofs.Intake.{next_seen, few_none, few_whole, few_split}
use Rattle.remote_edit.proofs.OneFurther.{kept_passed, kept_indexed, whole_passed, whole_indexed, lower_room, upper_room, split_passed, split_indexed}
use Rattle.remote_edit.proofs.gather.Gather.pass_one.Goals as goal

pub returns-then-not-sees-clause-passed : goal.returns-then-not-sees-clause-passed
returns-then-not-sees-clause-passed c =
    let g = c.in_ok-keep.ensures in
    kept_passed c.args.edit.now c.args.tree.now.items c.args.self.now c.in-Some.first.now c.in-Some.ensures c.keep.new.self g.before g.after
    (option_copied c.args.marks) c.args.left c.requires.some (sym c.sees.ensures ∙ c.if-not-sees.true) c.requires.fit (g.place ∙ c.requires.place)

pub returns-then-not-sees-clause-indexed : goal.returns-then-not-sees-clause-indexed
returns-then-not-sees-clause-indexed c =
    let g = c.in_ok-keep.ensures in
    kept_indexed c.args.edit.now c.args.tree.now.items c.args.self.now c.in-Some.first.now c.in-Some.ensures c.keep.new.self g.before g.after g.number g.index c.requires.indexed

pub halves-requires-clause-room : goal.halves-requires-clause-room
halves-requires-clause-room c =
    let s = c.args.self.now in
    let xs = c.args.tree.now.items in
    let k = (room_of c.args.edit.now.version (so_far xs s) (ahead xs s) c.in-Some.first.now s.place c.requires.fit c.requires.place c.in-Some.ensures).2 in
    omega (arith, k, c.if-left-len.true)

pub put_halves-requires-clause-first : goal.put_halves-requires-clause-first
put_halves-requires-clause-first c =
    let h = c.in_ok-front.ensures in
    lower_room c.args.edit.now c.args.tree.now.items c.args.self.now c.in-Some.first.now c.in-Some.ensures c.args.self.now
    (option_copied c.args.marks) c.args.left c.requires.some c.requires.fit c.in_ok-front.front c.in_ok-front.back h.front h.back c.if-left-len.true c.requires.indexed

pub put_halves-requires-clause-second : goal.put_halves-requires-clause-second
put_halves-requires-clause-second c =
    let h = c.in_ok-front.ensures in
    upper_room c.args.edit.now c.args.tree.now.items c.args.self.now c.in-Some.first.now c.in-Some.ensures c.args.self.now
    (option_copied c.args.marks) c.args.left c.requires.some c.requires.fit c.in_ok-front.front c.in_ok-front.back h.front h.back c.if-left-len.true c.requires.indexed

pub overflow_add-self : goal.overflow_add-self
overflow_add-self c =
    let s = c.args.self.now in
    let xs = c.args.tree.now.items in
    let k = room_of c.args.edit.now.version (so_far xs s) (ahead xs s) c.in-Some.first.now s.place c.requires.fit c.requires.place c.in-Some.ensures in
    omega (arith, k.0, k.1, c.if-left-len.true, c.in_ok-put_halves.ensures.place)

pub returns-then-left-len-clause-passed : goal.returns-then-left-len-clause-passed
returns-then-left-len-clause-passed c =
    let h = c.in_ok-front.ensures in
    let g = c.in_ok-put_halves.ensures in
    split_passed c.args.edit.now c.args.tree.now.items c.args.self.now c.in-Some.first.now c.in-Some.ensures c.put_halves.new.self
    (option_copied c.args.marks) c.args.left c.requires.some c.requires.fit c.in_ok-front.front c.in_ok-front.back h.front h.back c.if-left-len.true
    g.from g.made g.rest (sym c.sees.ensures ∙ c.if-not-sees.false) c.requires.place g.place

pub returns-then-left-len-clause-indexed : goal.returns-then-left-len-clause-indexed
returns-then-left-len-clause-indexed c =
    let h = c.in_ok-front.ensures in
    let g = c.in_ok-put_halves.ensures in
    split_indexed c.args.edit.now c.args.tree.now.items c.args.self.now c.in-Some.first.now c.in-Some.ensures c.put_halves.new.self
    (option_copied c.args.marks) c.args.left c.requires.some c.requires.fit c.in_ok-front.front c.in_ok-front.back h.front h.back c.if-left-len.true
    g.from g.made g.rest g.number g.index c.requires.indexed

pub overflow_add-self-2 : goal.overflow_add-self-2
overflow_add-self-2 c =
    let s = c.args.self.now in
    let xs = c.args.tree.now.items in
    let k = room_of c.args.edit.now.version (so_far xs s) (ahead xs s) c.in-Some.first.now s.place c.requires.fit c.requires.place c.in-Some.ensures in
    omega (arith, k.0, k.1, c.in_ok-touch_next.ensures.place)

pub returns-clause-passed : goal.returns-clause-passed
returns-clause-passed c =
    let g = c.in_ok-touch_next.ensures in
    whole_passed c.args.edit.now c.args.tree.now.items c.args.self.now c.in-Some.first.now c.in-Some.ensures c.touch_next.new.self
    (option_copied c.args.marks) c.args.left c.requires.some c.requires.fit (touch (option_copied c.args.marks) c.args.edit.now.stamp c.args.edit.now.version c.in-Some.first.now) refl g.from (g.made ∙ ap (λ (z : Fragment). c.args.self.now.made.items ++ touch (option_copied c.args.marks) c.args.edit.now.stamp c.args.edit.now.version z ∷ []) c.in_ok-whole.ensures) g.rest c.if-left-len.false (sym c.sees.ensures ∙ c.if-not-sees.false) c.requires.place g.place

pub returns-clause-indexed : goal.returns-clause-indexed
returns-clause-indexed c =
    let g = c.in_ok-touch_next.ensures in
    whole_indexed c.args.edit.now c.args.tree.now.items c.args.self.now c.in-Some.first.now c.in-Some.ensures c.touch_next.new.self
    (option_copied c.args.marks) c.args.left c.requires.some c.requires.fit (touch (option_copied c.args.marks) c.args.edit.now.stamp c.args.edit.now.version c.in-Some.first.now) refl g.from (g.made ∙ ap (λ (z : Fragment). c.args.self.now.made.items ++ touch (option_copied c.args.marks) c.args.edit.now.stamp c.args.edit.now.version z ∷ []) c.in_ok-whole.ensures) g.rest g.number (g.index ∙ ap (λ (z : Fragment). touch_index (option_copied c.args.marks) c.args.edit.now.stamp c.args.edit.now.version z c.args.self.now.index) c.in_ok-whole.ensures) c.requires.indexed

pub returns-in_default-clause-few : goal.returns-in_default-clause-few
returns-in_default-clause-few c = λ a. few_none c.args.edit.now.version c.args.tree.now.items c.args.self.now c.args.left a c.in_default.ensures

pub returns-then-not-sees-clause-few : goal.returns-then-not-sees-clause-few
returns-then-not-sees-clause-few c = λ a.
    let y = (next_seen c.args.edit.now.version c.in-Some.first.now (ahead c.args.tree.now.items c.args.self.now) a c.in-Some.ensures).0 in
    let n = sym c.sees.ensures ∙ c.if-not-sees.true in absurd (let q : true ≡ false = sym y ∙ n in cc)

pub returns-then-left-len-clause-few : goal.returns-then-left-len-clause-few
returns-then-left-len-clause-few c = λ a.
    let g = c.in_ok-put_halves.ensures in
    few_split c.args.edit.now.version c.args.tree.now.items c.args.self.now _ c.in-Some.first.now c.in_ok-front.back c.args.left a c.in-Some.ensures c.in_ok-front.ensures.back c.requires.some c.if-left-len.true g.rest g.back g.count

pub returns-clause-few : goal.returns-clause-few
returns-clause-few c = λ a.
    let s = c.args.self.now in
    let xs = c.args.tree.now.items in
    let f = c.in-Some.first.now in
    let g = c.in_ok-touch_next.ensures in
    few_whole c.args.edit.now.version xs s _ f c.args.left a c.in-Some.ensures (some_len (so_far xs s) (ahead xs s) f c.requires.fit c.in-Some.ensures) c.requires.some c.if-left-len.false g.rest g.none g.count
