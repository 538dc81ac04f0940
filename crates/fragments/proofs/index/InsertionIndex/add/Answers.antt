use Rattle.std.proofs.Common.{◌≡◌, ◌∙◌, ◌≤◌, ◌^◌, ◌++◌, [], ◌∷◌, List, length, subst, sym, ap}
use Rattle.fragments.specs.declared.index_entry.IndexEntry.{IndexEntry}
use Rattle.fragments.specs.Index.{with_entry, with_entries}
use Rattle.fragments.specs.DeletedRuns.{IndexState, with_insertion}
use Rattle.fragments.proofs.Beside.{with_last}
use Rattle.fragments.proofs.index.InsertionIndex.add.Goals as goal

-- the entries with one more, put last in the list
more : (b b' n w w' : List IndexEntry) (e : IndexEntry) → n ≡ b' ++ e ∷ [] → with_entries b' w' ≡ with_entries b w → with_entries n w' ≡ with_entry e (with_entries b w)
more b b' n w w' e q s = ap (λ (x : List IndexEntry). with_entries x w') q ∙ with_last b' e w' ∙ ap (with_entry e) s

pub invariant_of-self-2 : goal.invariant_of-self-2
invariant_of-self-2 c =
    let e : IndexEntry = record { stamp = c.args.stamp; offset = c.args.offset; id = c.args.id } in
    let d = c.self.inside in
    let q = more d.recent c.make_room.new.self c.push.new.self d.entries.items c.make_room.new.tree.items e c.in_ok-push.ensures.ok c.make_room.ensures.same in
    let short = subst (λ (x : IndexState). length (with_entry e x.entries) ≤ 2 ^ 40) (sym c.self.view_is) c.requires in
    (c.make_room.ensures.ascending, c.self.invariant.1, subst (λ (w : List IndexEntry). length w ≤ 2 ^ 40) (sym q) short)

pub returns-clause-ok : goal.returns-clause-ok
returns-clause-ok c =
    let e : IndexEntry = record { stamp = c.args.stamp; offset = c.args.offset; id = c.args.id } in
    let d = c.self.inside in
    let q = more d.recent c.make_room.new.self c.push.new.self d.entries.items c.make_room.new.tree.items e c.in_ok-push.ensures.ok c.make_room.ensures.same in
    ap (λ (w : List IndexEntry). record { entries = w; deletions = d.deletions.items }) q ∙ ap (with_insertion e) c.self.view_is
