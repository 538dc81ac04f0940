use Rattle.std.proofs.Common.{◌≡◌, ◌∙◌, ◌+◌, ◌-◌, ◌<◌, sym, ap, arith, length, get_or, take, false, ℕ, List}
use Rattle.std.specs.Option.{option_copied}
use Rattle.lamport_clock.specs.Stamps.{same_stamp}
use Rattle.undo_map.specs.declared.entry.UndoEntry.{UndoEntry}
use Rattle.undo_map.specs.Counts.{greatest, counts_for}
use Rattle.undo_map.proofs.Early.{front_counts, rest_counts, counts_more}
use Rattle.undo_map.proofs.Seeking.{here, all_before}
use Rattle.undo_map.proofs.map.greatest.Goals as goal

pub loop-entry-init : goal.loop-entry-init
loop-entry-init c =
    let e = c.entries_from-cursor.ensures in
    record {
      items = e.items;
      within = e.within;
      late = e.late;
      so_far = sym (front_counts c.args.entries.now.items c.args.edit (option_copied c.args.at) c.entries_from-cursor.result.index e.within e.early);
    }

pub returns-then-not-is_same : goal.returns-then-not-is_same
returns-then-not-is_same c =
    let w : List UndoEntry = c.args.entries.now.items in
    let i : ℕ = c.loop-entry.cursor.index in
    let v = c.loop-entry.invariant in
    let h = here w c.loop-entry.cursor.items i c.in-Some.entry.now v.items c.in-Some.ensures in
    let low : i < length w = h.within in
    let other : (d : UndoEntry) → same_stamp (get_or w i d).edit c.args.edit ≡ false = λ d. ap (λ (e : UndoEntry). same_stamp e.edit c.args.edit) (h.at d) ∙ sym c.is_same.ensures ∙ c.if-not-is_same.true in
    v.so_far ∙ sym (rest_counts w c.args.edit (option_copied c.args.at) i c.requires.ascending low (λ d. v.late i d (omega arith) low) other)

pub loop-entry-smaller : goal.loop-entry-smaller
loop-entry-smaller c =
    let w : List UndoEntry = c.args.entries.now.items in
    let v = c.loop-entry.invariant in
    let low = (here w c.loop-entry.cursor.items c.loop-entry.cursor.index c.in-Some.entry.now v.items c.in-Some.ensures).within in
    let long = ap length v.items in
    let on = ap (λ p. p.index) c.next.ensures.moved in
    let less : length w - c.next.new.self.index < length w - c.loop-entry.cursor.index = omega (arith, low, long, on) in less

pub loop-entry-preserved : goal.loop-entry-preserved
loop-entry-preserved c =
    let w : List UndoEntry = c.args.entries.now.items in
    let i : ℕ = c.loop-entry.cursor.index in
    let v = c.loop-entry.invariant in
    let h = here w c.loop-entry.cursor.items i c.in-Some.entry.now v.items c.in-Some.ensures in
    let low : i < length w = h.within in
    let long = ap length v.items in
    let on = ap (λ p. p.index) c.next.ensures.moved in
    let next : c.next.new.self.index ≡ i + 1 = omega (arith, low, long, on) in
    record {
      items = ap (λ p. p.items) c.next.ensures.moved ∙ v.items;
      within = omega (arith, low, next);
      late = λ k d l m. v.late k d (omega (arith, l, next)) m;
      so_far = c.max-greatest.ensures ∙ counts_more w c.args.edit (option_copied c.args.at) i c.loop-entry.greatest c.entry_count.result c.in-Some.entry.now low h.at v.so_far (sym c.is_same.ensures ∙ c.if-not-is_same.false) c.entry_count.ensures
          ∙ ap (λ (k : ℕ). greatest (counts_for c.args.edit (option_copied c.args.at)) (take k w)) (sym next);
    }

pub returns : goal.returns
returns c = c.loop-entry.invariant.so_far ∙ ap (greatest (counts_for c.args.edit (option_copied c.args.at))) (all_before c.args.entries.now.items c.loop-entry.cursor.items c.loop-entry.cursor.index c.loop-entry.invariant.items c.in_default.ensures)
