use Rattle.std.proofs.Common.{◌≡◌, ◌+◌, List, ap, ◌∙◌, arith}
use Rattle.tree_cursor.specs.Places.{place_behind}
use Rattle.fragments.specs.declared.fragment.Fragment.{Fragment}
use Rattle.fragments.specs.Summaries.{summary_of}
use Rattle.fragments.specs.SeenPlaces.{At, move_at}
use Rattle.fragments.proofs.Counts.{places_count_cells}
use Rattle.remote_edit.specs.Walk.{seen_bytes}
use Rattle.seen_text.proofs.Found.{all_over}
use Rattle.seen_text.proofs.Begins.{fewer}
use Rattle.seen_text.proofs.count.seen_cells.Goals as goal

pub returns : goal.returns
returns c =
    let v = c.args.version.now in
    let fs = c.args.fragments.now.items in
    let l = fewer v fs c.known.ensures.fits in
    let e : c.look_up.result.1.bytes ≡ 0 + seen_bytes v fs = ap (λ (p : At). p.1) (c.look_up.ensures.place ∙ ap (λ (xs : List Fragment). place_behind move_at summary_of (v, 0) xs) (all_over v 18446744073709551615 0 fs (omega (arith, l))) ∙ (places_count_cells fs 0).2 v) in
    omega (arith, e)
