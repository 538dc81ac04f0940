use Rattle.std.proofs.Common.{◌≡◌, ◌%◌, ◌+◌, ◌<◌, ◌≤◌, ℕ, List, [], ◌∷◌, ◌++◌, length, reverse, set, Vec, Global, sym, ap, ◌∙◌, subst, arith, refl, length-append}
use Rattle.std.proofs.lemmas.List.{reverse-append, length-set}
use Rattle.std.proofs.lemmas.Nat.{mod_below}
use Rattle.queries.specs.declared.query.Answer.{Answer}
use Rattle.queries.proofs.Merges.{left_more, some_left, turn_at_place, turns_end, whole_list, IsTurn}
use Rattle.queries.proofs.gathering.in_order.Goals as goal

pub unreachable-requires : goal.unreachable-requires
unreachable-requires g c =
    let list = Vec (Answer g.row.Q.Denot g.row.A.Denot) Global in
    let e = c.requires.enough in
    let n = length c.args.lists.items in
    let many : c.len-workers.result ≡ n = c.len-workers.ensures ∙ c.args.lists.ok.0 in
    let k_is : c.loop-turn.turn % c.len-workers.result ≡ c.loop-turn.turn % n = ap (λ (m : ℕ). c.loop-turn.turn % m) many in
    let within : c.loop-turn.turn % c.len-workers.result < length c.loop-turn.lists.items = omega (arith, mod_below c.loop-turn.turn n c.requires.some, k_is, c.loop-turn.invariant.count) in
    let some = some_left g.Q.Query.plain [] n e.0 (λ (r : list). reverse r.items) c.args.lists.items e.1 (λ (r : list). length r.items) c.loop-turn.turn _ c.loop-turn.lists.items c.index_mut.result.now k_is (omega (arith, c.loop-turn-test.true, e.2)) within
    (c.loop-turn.invariant.enough e.0 e.1 e.2 e.3) c.index_mut.ensures.value in
    omega (arith, some, c.index_mut.result.now.ok.0, c.in-None.ensures.cases.0)

pub loop-turn-preserved : goal.loop-turn-preserved
loop-turn-preserved g c =
    let list = Vec (Answer g.row.Q.Denot g.row.A.Denot) Global in
    let n = length c.args.lists.items in
    let q = c.loop-turn.turn in
    let k = q % c.len-workers.result in
    let was = c.loop-turn.invariant in
    let many : c.len-workers.result ≡ n = c.len-workers.ensures ∙ c.args.lists.ok.0 in
    let k_is : k ≡ q % n = ap (λ (m : ℕ). q % m) many in
    let within : k < length c.loop-turn.lists.items = omega (arith, mod_below q n c.requires.some, k_is, was.count) in
    let a = c.in-Some.answer in
    let items : c.index_mut.result.now.items ≡ c.pop.new.self.items ++ a ∷ [] = c.in-Some.ensures.items in
    let first : reverse c.index_mut.result.now.items ≡ a ∷ reverse c.pop.new.self.items = ap reverse items ∙ reverse-append c.pop.new.self.items (a ∷ []) in record {
      count = length-set c.loop-turn.lists.items k c.pop.new.self ∙ was.count;
      enough = λ asks numbers count each.
          left_more g.Q.Query.plain [] n asks (λ (r : list). reverse r.items) c.args.lists.items numbers (λ (r : list). length r.items) q k c.loop-turn.lists.items c.index_mut.result.now c.pop.new.self k_is (omega (arith, c.loop-turn-test.true, count)) within
          (was.enough asks numbers count each) c.index_mut.ensures.value (omega (arith, ap (λ (l : List _). length l) items, length-append c.pop.new.self.items (a ∷ [])));
      turns = λ lasts asks numbers count final.
          subst (λ (as_ : List (Answer g.row.Q.Denot g.row.A.Denot)). IsTurn g.Q.Query.plain lasts n asks (λ (r : list). reverse r.items) c.args.lists.items (q + 1) as_ (set c.loop-turn.lists.items k c.pop.new.self)) (sym c.in_ok-push-in-Some.ensures.items)
          (turn_at_place g.Q.Query.plain lasts n asks (λ (r : list). reverse r.items) c.args.lists.items numbers q k c.loop-turn.answers.items c.loop-turn.lists.items c.index_mut.result.now c.pop.new.self a k_is (omega (arith, c.loop-turn-test.true, count)) within
          (was.turns lasts asks numbers count final) c.index_mut.ensures.value first);
    }

pub returns : goal.returns
returns g c = λ lasts asks numbers count final.
    let list = Vec (Answer g.row.Q.Denot g.row.A.Denot) Global in
    let n = length c.args.lists.items in
    let plain = g.Q.Query.plain in
    let f : list → List (Answer g.row.Q.Denot g.row.A.Denot) = λ r. reverse r.items in
    let done : length asks ≤ c.loop-turn.turn = omega (arith, c.loop-turn-test.false, count) in
    let turns = c.loop-turn.invariant.turns lasts asks numbers count final in (
      turns_end plain lasts n asks f c.args.lists.items numbers c.loop-turn.turn c.loop-turn.answers.items c.loop-turn.lists.items c.loop-turn.answers done c.loop-turn.invariant.count
          turns c.requires.some (λ w r within. (final w r within).never_fewer) refl,
      λ w r within. whole_list plain lasts n asks f c.args.lists.items numbers c.loop-turn.turn c.loop-turn.answers.items c.loop-turn.lists.items r done c.loop-turn.invariant.count turns w within,
    )
