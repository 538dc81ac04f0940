use Rattle.std.proofs.Common.{◌∙◌, ◌≤◌, ◌^◌, subst, sym, length, Some, None}
use Rattle.undo_map.specs.declared.entry.UndoEntry.{UndoEntry}
use Rattle.undo_map.proofs.Setting.{set_in, counts_set, grown}
use Rattle.undo_map.proofs.map.UndoMap.set.Goals as goal

pub insert-requires-clause-short : goal.insert-requires-clause-short
insert-requires-clause-short c =
    let e : UndoEntry = record { edit = c.args.edit; by = c.args.by; count = c.args.count } in
    subst (λ w. length w ≤ 2 ^ 40) (sym (set_in e _ _ _ _ c.self.view_is c.kept_count-kept.ensures c.max.ensures)) c.requires

pub returns-clause-ok : goal.returns-clause-ok
returns-clause-ok c =
    let e : UndoEntry = record { edit = c.args.edit; by = c.args.by; count = c.args.count } in
    c.in_ok-insert.ensures.ok ∙ set_in e _ _ _ _ c.self.view_is c.kept_count-kept.ensures c.max.ensures

pub returns-clause-counts : goal.returns-clause-counts
returns-clause-counts c =
    let e : UndoEntry = record { edit = c.args.edit; by = c.args.by; count = c.args.count } in
    λ t. counts_set e c.args.self.now _ t None (c.in_ok-insert.ensures.ok ∙ set_in e _ _ _ _ c.self.view_is c.kept_count-kept.ensures c.max.ensures)

pub returns-clause-counts_seen : goal.returns-clause-counts_seen
returns-clause-counts_seen c =
    let e : UndoEntry = record { edit = c.args.edit; by = c.args.by; count = c.args.count } in
    λ t v. counts_set e c.args.self.now _ t (Some v) (c.in_ok-insert.ensures.ok ∙ set_in e _ _ _ _ c.self.view_is c.kept_count-kept.ensures c.max.ensures)

pub returns-clause-grows : goal.returns-clause-grows
returns-clause-grows c =
    let e : UndoEntry = record { edit = c.args.edit; by = c.args.by; count = c.args.count } in
    grown e c.args.self.now _ (c.in_ok-insert.ensures.ok ∙ set_in e _ _ _ _ c.self.view_is c.kept_count-kept.ensures c.max.ensures)
