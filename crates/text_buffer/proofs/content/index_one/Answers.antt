use Rattle.std.proofs.Common.{◌∙◌, List, ℕ, ◌≤◌, ◌^◌, [], ◌∷◌, length, sym, ap, subst, arith}
use Rattle.fragments.specs.declared.index_entry.IndexEntry.{IndexEntry}
use Rattle.fragments.specs.Index.{with_entry}
use Rattle.fragments.specs.DeletedRuns.{IndexState, with_insertion}
use Rattle.text_buffer.proofs.content.index_one.Goals as goal

pub add-requires : goal.add-requires
add-requires c =
    let f = c.args.fragment.now in
    subst (λ (z : IndexState). length (with_entry (record { stamp = f.stamp; offset = f.offset; id = c.in_ok-id.id }) z.entries) ≤ 2 ^ 40) (sym c.in_ok-index.ensures) (omega arith)

pub returns : goal.returns
returns c =
    let f = c.args.fragment.now in
    c.in_ok-add.ensures.ok ∙ ap (with_insertion (record { stamp = f.stamp; offset = f.offset; id = c.in_ok-id.id })) c.in_ok-index.ensures
    ∙ ap (λ (d : List ℕ). record { entries = record { stamp = f.stamp; offset = f.offset; id = d } ∷ []; deletions = [] }) c.in_ok-id.ensures.digits
