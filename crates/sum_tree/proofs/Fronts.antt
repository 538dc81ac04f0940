-- The first of an inner node's items, and the rest.
use Rattle.std.proofs.Common.{◌≡◌, ℕ, ◌+◌, ◌-◌, ◌<◌, ◌≤◌, List, ◌++◌, length, get_or, take, drop, sym, ap, subst, ◌∙◌, arith, length-append}
use Rattle.std.proofs.lemmas.List.{take-append-le, drop-append-le, take_rest}
use Rattle.std.proofs.Math.Seq.{take-append-add, drop-append-add}
use Rattle.sum_tree.specs.Seen.{Seen}
use Rattle.sum_tree.specs.Shape.{join_items}
use Rattle.sum_tree.proofs.Children.{joined-take_more, joined-split}
use Rattle.sum_tree.proofs.Opened.{IsInner}

pub take_of_child : {T : Type 0} (s : Seen T) (ts : List (Seen T)) (k j i : ℕ) (t : Seen T) → IsInner s ts → k < length ts → j < length t.items → length (join_items (take k ts)) + j ≡ i → t ≡ get_or ts k t → take i s.items ≡ join_items (take k ts) ++ take j t.items
take_of_child {T} s ts k j i t o lt ltj before read =
    let a = join_items (take k ts) in
    let r = join_items (drop (k + 1) ts) in
    let whole : s.items ≡ (a ++ t.items) ++ r = o.items ∙ sym (joined-split ts (k + 1)) ∙ ap (λ (xs : List T). xs ++ r) (joined-take_more ts k t lt read) in
    let fits : i ≤ length (a ++ t.items) = omega (arith, before, ltj, length-append a t.items) in
    ap (take i) whole ∙ take-append-le i (a ++ t.items) r fits ∙ ap (λ (n : ℕ). take n (a ++ t.items)) (sym before) ∙ take-append-add a t.items j

pub drop_of_child : {T : Type 0} (s : Seen T) (ts : List (Seen T)) (k j i : ℕ) (t : Seen T) → IsInner s ts → k < length ts → j < length t.items → length (join_items (take k ts)) + j ≡ i → t ≡ get_or ts k t → drop i s.items ≡ drop j t.items ++ join_items (drop (k + 1) ts)
drop_of_child {T} s ts k j i t o lt ltj before read =
    let a = join_items (take k ts) in
    let r = join_items (drop (k + 1) ts) in
    let whole : s.items ≡ (a ++ t.items) ++ r = o.items ∙ sym (joined-split ts (k + 1)) ∙ ap (λ (xs : List T). xs ++ r) (joined-take_more ts k t lt read) in
    let fits : i ≤ length (a ++ t.items) = omega (arith, before, ltj, length-append a t.items) in
    ap (drop i) whole ∙ drop-append-le i (a ++ t.items) r fits ∙ ap (λ (n : ℕ). drop n (a ++ t.items) ++ r) (sym before) ∙ ap (λ (xs : List T). xs ++ r) (drop-append-add a t.items j)

-- the rest of a node, from within its child k, is the rest of that child followed by the later children
pub rest_of_node : {T : Type 0} (s : Seen T) (ts us vs : List (Seen T)) (k j i : ℕ) (t : Seen T) (rest back : List T) → IsInner s ts → us ≡ ts → vs ≡ ts → k < length us → j < length (get_or us k t).items → length (join_items (take k us)) + j ≡ i → t ≡ get_or ts k t → rest ≡ drop j t.items → back ≡ join_items (take (length vs - (k + 1)) (drop (k + 1) vs)) → rest ++ back ≡ drop i s.items
rest_of_node {T} s ts us vs k j i t rest back o same again lt ltj before read r b =
    let lt' : k < length ts = omega (arith, lt, ap length same) in
    let ltj' : j < length t.items = subst (λ (u : Seen T). j < length u.items) (sym read) (subst (λ (ws : List (Seen T)). j < length (get_or ws k t).items) same ltj) in
    let before' : length (join_items (take k ts)) + j ≡ i = subst (λ (ws : List (Seen T)). length (join_items (take k ws)) + j ≡ i) same before in
    let behind : back ≡ join_items (drop (k + 1) ts) = b ∙ ap join_items (take_rest vs (k + 1)) ∙ ap (λ (ws : List (Seen T)). join_items (drop (k + 1) ws)) again in
    ap (λ (xs : List T). xs ++ back) r ∙ ap (λ (xs : List T). drop j t.items ++ xs) behind ∙ sym (drop_of_child s ts k j i t o lt' ltj' before' read)
