use Rattle.std.proofs.Common.{◌≡◌, ◌+◌, refl, sym, arith}
use Rattle.remote_edit.specs.Offsets.{full_in}
use Rattle.remote_edit.proofs.PassedPlaces.{passed_fits}
use Rattle.remote_edit.proofs.FullIn.{found, full_low}
use Rattle.remote_edit.proofs.offsets.full_offset.Goals as goal

pub look_up-requires : goal.look_up-requires
look_up-requires c κs = ((refl, tt), passed_fits c.args.tree.now.items c.requires.room)

pub overflow_add-result : goal.overflow_add-result
overflow_add-result c =
    let f : full_in c.args.tree.now.items c.args.offset ≡ c.args.offset + c.look_up.result.1.hidden = found c.args.tree.now.items c.args.offset c.look_up.result.1 c.look_up.ensures.place c.requires.within in
    let l = full_low c.args.tree.now.items c.args.offset in
    omega (arith, f, l, c.requires.room)

pub returns : goal.returns
returns c = sym (found c.args.tree.now.items c.args.offset c.look_up.result.1 c.look_up.ensures.place c.requires.within)
