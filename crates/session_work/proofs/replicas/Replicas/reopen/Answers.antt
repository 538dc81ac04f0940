use Rattle.std.proofs.Common.{ℕ, Some, ap, ◌∙◌}
use Rattle.std.specs.Option.{option_map}
use Rattle.text_buffer.specs.Buffer.{BufferState}
use Rattle.session_work.specs.Work.{after_reopen, applied_count}
use Rattle.session_work.proofs.Finding.{nowhere, put, there, unchanged}
use Rattle.session_work.proofs.Growth.{all_themselves, set_grows}
use Rattle.session_work.proofs.replicas.Replicas.reopen.Goals as goal

-- how many operations a buffer has applied
abbrev counted : BufferState → ℕ
counted b = applied_count b.history

pub returns-in_default-clause-count : goal.returns-in_default-clause-count
returns-in_default-clause-count c = ap (option_map counted) (nowhere c.args.id c.args.self.now c.in_default.ensures)

pub returns-in_default-clause-after : goal.returns-in_default-clause-after
returns-in_default-clause-after c = unchanged c.args.id c.args.self.now c.in_default.ensures after_reopen

pub returns-clause-count : goal.returns-clause-count
returns-clause-count c =
    ap Some c.in_ok-reopen.ensures.count
    ∙ ap (option_map counted) (there c.args.id (λ (b : BufferState). b) c.args.self.now c.self.inside.list.items c.self.view_is c.in-Some.index c.index_mut.result.now c.in-Some.ensures c.index_mut.ensures.value)

pub returns-clause-after : goal.returns-clause-after
returns-clause-after c =
    put c.args.id after_reopen c.args.self.now c.self.inside.list.items c.self.view_is c.in-Some.index c.index_mut.result.now c.in-Some.ensures c.index_mut.ensures.value
    c.reopen.new.self c.in_ok-reopen.ensures.after

pub returns-in_default-clause-grows : goal.returns-in_default-clause-grows
returns-in_default-clause-grows c = all_themselves c.args.self.now

pub returns-clause-grows : goal.returns-clause-grows
returns-clause-grows c =
    set_grows c.args.self.now c.self.inside.list.items c.in-Some.index c.index_mut.result.now _ c.self.view_is c.index_mut.ensures.value c.reopen.ensures.id c.reopen.ensures.grows

pub returns-in_err-reopen-clause-grows : goal.returns-in_err-reopen-clause-grows
returns-in_err-reopen-clause-grows c =
    set_grows c.args.self.now c.self.inside.list.items c.in-Some.index c.index_mut.result.now _ c.self.view_is c.index_mut.ensures.value c.reopen.ensures.id c.reopen.ensures.grows
