use Rattle.std.proofs.Common.{List, Some, sym, ap, subst, ◌∙◌}
use Rattle.sum_tree.specs.Keyed.{Ascending, item_of_key}
use Rattle.sum_tree.proofs.Keys.{put_inserted, put_between, ascending_inserted}
use Rattle.sum_tree.proofs.tree.SumTree.insert.Goals as goal

pub returns-in_ok-put_item-in-Ok-clause-replaced : goal.returns-in_ok-put_item-in-Ok-clause-replaced
returns-in_ok-put_item-in-Ok-clause-replaced g c =
    let x = c.at.result.now in
    ap Some (c.in_ok-old-in-Ok.ensures ∙ c.at.ensures x) ∙ sym (ap (λ q. item_of_key g.T.Key.Ord.cmp g.T.KeyedItem.key_of q c.args.self.now.items) (sym c.key.ensures) ∙ c.in-Ok.ensures.3 x)

pub returns-in_ok-put_item-in-Ok-clause-ascending : goal.returns-in_ok-put_item-in-Ok-clause-ascending
returns-in_ok-put_item-in-Ok-clause-ascending g c =
    let xs = c.args.self.now.items in
    subst (λ (zs : List _). Ascending g.T.Key.Ord.cmp g.T.KeyedItem.key_of zs) (sym (put_inserted g.T.Key.Ord.cmp g.T.KeyedItem.key_of g.met.T.Key.Ord.total c.key.result xs c.put_item.new.self.items c.args.item c.in-Ok.i c.in-Ok.ensures c.key.ensures c.in_ok-put_item-in-Ok.ensures.ok)) (ascending_inserted g.T.Key.Ord.cmp g.T.KeyedItem.key_of g.met.T.Key.Ord.total c.args.item xs c.requires.ascending)

pub returns-in_ok-put_new-in-Err-clause-ascending : goal.returns-in_ok-put_new-in-Err-clause-ascending
returns-in_ok-put_new-in-Err-clause-ascending g c =
    let xs = c.args.self.now.items in
    subst (λ (zs : List _). Ascending g.T.Key.Ord.cmp g.T.KeyedItem.key_of zs) (sym (put_between g.T.Key.Ord.cmp g.T.KeyedItem.key_of g.met.T.Key.Ord.total c.key.result xs c.put_new.new.self.items c.args.item c.in-Err.i c.in-Err.ensures c.key.ensures c.in_ok-put_new-in-Err.ensures.ok)) (ascending_inserted g.T.Key.Ord.cmp g.T.KeyedItem.key_of g.met.T.Key.Ord.total c.args.item xs c.requires.ascending)
