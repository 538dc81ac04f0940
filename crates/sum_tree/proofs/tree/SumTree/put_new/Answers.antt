use Rattle.std.proofs.Common.{◌≡◌, ◌≤◌, List, [], ◌∷◌, ◌++◌, length, sym, ap, subst, ◌∙◌, arith, length-append}
use Rattle.std.specs.Result.{OnOk, OnErr}
use Rattle.sum_tree.specs.Laws.{fold}
use Rattle.sum_tree.specs.Seen.{Seen}
use Rattle.sum_tree.specs.Spliced.{splice_list}
use Rattle.sum_tree.proofs.Folds.{fold_single}
use Rattle.sum_tree.proofs.Heres.{pushed_none, pushed_some}
use Rattle.sum_tree.proofs.Splices.{fits_new}
use Rattle.sum_tree.proofs.Keys.{put_behind}
use Rattle.sum_tree.proofs.tree.SumTree.put_new.Goals as goal

pub new-requires : goal.new-requires
new-requires g c =
    subst g.T.Summary.Summary.fits (fold_single g.met.T.Summary.Summary.laws g.T.Item.sum_of g.met.T.Item.admitted c.args.item) (fits_new g.met.T.Summary.Summary.laws g.T.Item.sum_of g.met.T.Item.admitted c.args.i c.args.i (c.args.item ∷ []) c.args.self.now.items c.requires.fits)

pub push_alone-requires-clause-short : goal.push_alone-requires-clause-short
push_alone-requires-clause-short g c =
    let xs = c.args.self.now.items in
    let end : length xs ≤ c.args.i = omega (arith, c.if-i-len.false, c.len.ensures) in
    omega (arith, ap length (put_behind c.args.i xs (c.args.item ∷ []) end), length-append xs (c.args.item ∷ []), c.requires.short)

pub push_alone-requires-clause-fits : goal.push_alone-requires-clause-fits
push_alone-requires-clause-fits g c =
    let xs = c.args.self.now.items in
    let end : length xs ≤ c.args.i = omega (arith, c.if-i-len.false, c.len.ensures) in
    let whole : splice_list c.args.i c.args.i (c.args.item ∷ []) xs ≡ xs ++ c.in_ok-new.field-0 ∷ [] = put_behind c.args.i xs (c.args.item ∷ []) end ∙ ap (λ (y : _). xs ++ y ∷ []) (sym c.in_ok-new.ensures) in
    subst (λ (zs : List _). g.T.Summary.Summary.fits (fold g.T.Summary.Summary.empty g.T.Summary.Summary.op g.T.Item.sum_of zs)) whole c.requires.fits

pub returns-in-None-clause-ok : goal.returns-in-None-clause-ok
returns-in-None-clause-ok g c =
    let xs = c.args.self.now.items in
    let end : length xs ≤ c.args.i = omega (arith, c.if-i-len.false, c.len.ensures) in
    let p = pushed_none c.args.self.now c.push_alone.new.tree c.in_ok-new.field-0 _ c.in-None.is c.in_ok-push_alone.ensures in
    p.0 ∙ ap (λ (y : _). xs ++ y ∷ []) c.in_ok-new.ensures ∙ sym (put_behind c.args.i xs (c.args.item ∷ []) end)

pub put-requires-clause-within : goal.put-requires-clause-within
put-requires-clause-within g c =
    let p = pushed_some c.args.self.now c.push_alone.new.tree c.in_ok-new.field-0 c.in-Some.entry _ c.in-Some.is c.in_ok-push_alone.ensures in
    omega (arith, ap (λ (t : Seen _). length t.items) p.0, c.requires.within)

pub put-requires-clause-short : goal.put-requires-clause-short
put-requires-clause-short g c =
    let p = pushed_some c.args.self.now c.push_alone.new.tree c.in_ok-new.field-0 c.in-Some.entry _ c.in-Some.is c.in_ok-push_alone.ensures in
    let same : splice_list c.args.i c.args.i c.in_ok-entries-in-Some.entries.items c.push_alone.new.tree.items ≡ splice_list c.args.i c.args.i (c.args.item ∷ []) c.args.self.now.items = ap (λ (zs : List _). splice_list c.args.i c.args.i zs c.push_alone.new.tree.items) (c.in_ok-entries-in-Some.ensures ∙ ap (λ (y : _). y ∷ []) (p.1 ∙ c.in_ok-new.ensures)) ∙ ap (λ (t : Seen _). splice_list c.args.i c.args.i (c.args.item ∷ []) t.items) p.0 in
    omega (arith, ap length same, c.requires.short)

pub put-requires-clause-fits : goal.put-requires-clause-fits
put-requires-clause-fits g c =
    let p = pushed_some c.args.self.now c.push_alone.new.tree c.in_ok-new.field-0 c.in-Some.entry _ c.in-Some.is c.in_ok-push_alone.ensures in
    let same : splice_list c.args.i c.args.i c.in_ok-entries-in-Some.entries.items c.push_alone.new.tree.items ≡ splice_list c.args.i c.args.i (c.args.item ∷ []) c.args.self.now.items = ap (λ (zs : List _). splice_list c.args.i c.args.i zs c.push_alone.new.tree.items) (c.in_ok-entries-in-Some.ensures ∙ ap (λ (y : _). y ∷ []) (p.1 ∙ c.in_ok-new.ensures)) ∙ ap (λ (t : Seen _). splice_list c.args.i c.args.i (c.args.item ∷ []) t.items) p.0 in
    subst (λ (zs : List _). g.T.Summary.Summary.fits (fold g.T.Summary.Summary.empty g.T.Summary.Summary.op g.T.Item.sum_of zs)) (sym same) c.requires.fits

pub returns-in_ok-entries-in-Some-clause-ok : goal.returns-in_ok-entries-in-Some-clause-ok
returns-in_ok-entries-in-Some-clause-ok g c =
    let p = pushed_some c.args.self.now c.push_alone.new.tree c.in_ok-new.field-0 c.in-Some.entry _ c.in-Some.is c.in_ok-push_alone.ensures in
    let same : splice_list c.args.i c.args.i c.in_ok-entries-in-Some.entries.items c.push_alone.new.tree.items ≡ splice_list c.args.i c.args.i (c.args.item ∷ []) c.args.self.now.items = ap (λ (zs : List _). splice_list c.args.i c.args.i zs c.push_alone.new.tree.items) (c.in_ok-entries-in-Some.ensures ∙ ap (λ (y : _). y ∷ []) (p.1 ∙ c.in_ok-new.ensures)) ∙ ap (λ (t : Seen _). splice_list c.args.i c.args.i (c.args.item ∷ []) t.items) p.0 in
    subst (λ (zs : List _). OnOk c.put.result (c.put.new.self.items ≡ zs)) same c.put.ensures.ok

pub returns-in_ok-entries-in-Some-clause-err : goal.returns-in_ok-entries-in-Some-clause-err
returns-in_ok-entries-in-Some-clause-err g c =
    let p = pushed_some c.args.self.now c.push_alone.new.tree c.in_ok-new.field-0 c.in-Some.entry _ c.in-Some.is c.in_ok-push_alone.ensures in
    subst (λ (t : Seen _). OnErr c.put.result (c.put.new.self ≡ t)) p.0 c.put.ensures.err
