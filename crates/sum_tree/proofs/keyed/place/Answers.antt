use Rattle.std.proofs.Common.{◌≡◌, ℕ, ◌+◌, ◌++◌, [], ◌∷◌, length, take, drop, sym, ap, subst, ◌∙◌, List, arith}
use Rattle.std.specs.List.{All}
use Rattle.std.specs.declared.cmp.Ordering.TheVariants.{Less, Equal, Greater}
use Rattle.std.proofs.lemmas.List.{drop_all, take_more}
use Rattle.std.proofs.lemmas.List.Elements.{All-nil}
use Rattle.sum_tree.proofs.Keys.{place_item, place_before, place_gap}
use Rattle.sum_tree.proofs.Runs.{All_push}
use Rattle.sum_tree.proofs.keyed.place.Goals as goal

pub returns-in-Equal : goal.returns-in-Equal
returns-in-Equal g c =
    let e : g.T.Key.Ord.cmp (g.T.KeyedItem.key_of c.index-entries-i.result) c.args.key.now ≡ Equal = ap (λ q. g.T.Key.Ord.cmp q c.args.key.now) (sym (c.key.ensures ∙ ap g.T.KeyedItem.key_of c.item.ensures)) ∙ sym c.in-Equal.ensures in
    place_item g.T.Key.Ord.cmp g.T.KeyedItem.key_of g.met.T.Key.Ord.total c.args.key.now c.args.entries.now c.loop-i.i c.index-entries-i.result c.requires.ascending c.loop-i-test.true c.index-entries-i.is e c.loop-i.invariant

pub returns-in-Greater : goal.returns-in-Greater
returns-in-Greater g c =
    let e : g.T.Key.Ord.cmp (g.T.KeyedItem.key_of c.index-entries-i.result) c.args.key.now ≡ Greater = ap (λ q. g.T.Key.Ord.cmp q c.args.key.now) (sym (c.key.ensures ∙ ap g.T.KeyedItem.key_of c.item.ensures)) ∙ sym c.in-Greater.ensures in
    place_before g.T.Key.Ord.cmp g.T.KeyedItem.key_of g.met.T.Key.Ord.total c.args.key.now c.args.entries.now c.loop-i.i c.index-entries-i.result c.requires.ascending c.loop-i-test.true c.index-entries-i.is e c.loop-i.invariant

pub loop-i-preserved : goal.loop-i-preserved
loop-i-preserved g c =
    let e : g.T.Key.Ord.cmp (g.T.KeyedItem.key_of c.index-entries-i.result) c.args.key.now ≡ Less = ap (λ q. g.T.Key.Ord.cmp q c.args.key.now) (sym (c.key.ensures ∙ ap g.T.KeyedItem.key_of c.item.ensures)) ∙ sym c.in-Less.ensures in
    let x = c.index-entries-i.result in
    let xs = c.args.entries.now in
    let more : take (c.loop-i.i + 1) xs ≡ take c.loop-i.i xs ++ x ∷ [] = take_more xs c.loop-i.i x c.loop-i-test.true ∙ ap (λ y. take c.loop-i.i xs ++ y ∷ []) (sym c.index-entries-i.is) in
    All_push (λ y. g.T.Key.Ord.cmp (g.T.KeyedItem.key_of y) c.args.key.now ≡ Less) (take c.loop-i.i xs) x (take (c.loop-i.i + 1) xs) more c.loop-i.invariant e

pub returns : goal.returns
returns g c =
    let xs = c.args.entries.now in
    let end : c.loop-i.i ≡ length xs = omega (arith, c.loop-i-test.false, c.loop-i.auto.i-end) in
    let less : All (λ y. g.T.Key.Ord.cmp (g.T.KeyedItem.key_of y) c.args.key.now ≡ Less) (take (length xs) xs) = subst (λ (m : ℕ). All (λ y. g.T.Key.Ord.cmp (g.T.KeyedItem.key_of y) c.args.key.now ≡ Less) (take m xs)) end c.loop-i.invariant in
    let greater : All (λ y. g.T.Key.Ord.cmp (g.T.KeyedItem.key_of y) c.args.key.now ≡ Greater) (drop (length xs) xs) = subst (λ (ys : List _). All (λ y. g.T.Key.Ord.cmp (g.T.KeyedItem.key_of y) c.args.key.now ≡ Greater) ys) (sym (drop_all (length xs) xs (omega arith))) (All-nil (λ y. g.T.Key.Ord.cmp (g.T.KeyedItem.key_of y) c.args.key.now ≡ Greater)) in
    place_gap g.T.Key.Ord.cmp g.T.KeyedItem.key_of g.met.T.Key.Ord.total c.args.key.now xs (length xs) (omega arith) less greater
