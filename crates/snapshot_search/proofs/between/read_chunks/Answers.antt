use Rattle.std.proofs.Common.{rules, ℕ, List, ◌≡◌, ◌-◌, ◌<◌, length, take, ap, subst, arith}
use Rattle.std.specs.List.{concat}
use Rattle.snapshot_search.specs.Progress.{Holds, Reads}
use Rattle.snapshot_search.proofs.Chunks.{text_on, rest_on, none_left}
use Rattle.snapshot_search.proofs.Reading.{holds_begin, held_place, held_read}
use Rattle.std.proofs.lemmas.List.{length-take}
use Rattle.std.proofs.lemmas.Result.{on_ok_weaker}
use Rattle.snapshot_search.proofs.between.read_chunks.Goals as goal

pub loop-chunk-init : goal.loop-chunk-init
loop-chunk-init c = record {
  within = search rules;
  holds = holds_begin c.args.needle.now (concat c.args.chunks) c.new-window.result.items (c.args.count - c.args.count) c.args.progress.now c.requires.matched (omega arith) c.new-window.ensures.items;
  rest = search rules;
}

pub loop-chunk-preserved : goal.loop-chunk-preserved
loop-chunk-preserved c =
    let needle = c.args.needle.now in
    let text = concat c.args.chunks in
    let count = c.args.count in
    let left = c.loop-chunk.left in
    let was = c.loop-chunk.invariant in
    let within = was.within in
    let chunk = c.in-Some.chunk.now in
    let piece = c.front-piece.result.now in
    let some : 0 < left = omega (arith, c.if-left-eq0.false) in
    let at = was.rest some in
    let steps = c.in-Some.ensures.steps in
    let on = text_on text chunk piece c.loop-chunk.chunk-iterator c.next.new.self count left within at steps c.front-piece.ensures in
    record {
      within = omega arith;
      holds = subst (λ l. Holds needle l c.args.progress.now c.gather.new.progress c.gather.new.window.items) on (c.in_ok-gather.ensures c.args.progress.now (take (count - left) text) was.holds);
      rest = rest_on text chunk piece c.loop-chunk.chunk-iterator c.next.new.self count left within at steps c.front-piece.ensures;
    }

pub read-requires-clause-room : goal.read-requires-clause-room
read-requires-clause-room c =
    let text = concat c.args.chunks in
    let read = c.args.count - c.loop-chunk.left in
    let place = held_place c.args.needle.now (take read text) c.args.progress.now c.loop-chunk.progress c.loop-chunk.window.items c.loop-chunk.invariant.holds in
    let window = ap length c.deref.ensures.value in
    let most = c.requires.room in
    omega (arith, length-take read text)

pub gather-requires-clause-room : goal.gather-requires-clause-room
gather-requires-clause-room c =
    let text = concat c.args.chunks in
    let left = c.loop-chunk.left in
    let read = c.args.count - left in
    let within = c.loop-chunk.invariant.within in
    let place = held_place c.args.needle.now (take read text) c.args.progress.now c.loop-chunk.progress c.loop-chunk.window.items c.loop-chunk.invariant.holds in
    let piece = ap length c.front-piece.ensures in
    let most = c.requires.room in
    omega (arith, length-take read text, length-take left c.in-Some.chunk.now)

pub read-requires-2-clause-room : goal.read-requires-2-clause-room
read-requires-2-clause-room c =
    let text = concat c.args.chunks in
    let read = c.args.count - c.loop-chunk.left in
    let place = held_place c.args.needle.now (take read text) c.args.progress.now c.loop-chunk.progress c.loop-chunk.window.items c.loop-chunk.invariant.holds in
    let window = ap length c.deref-2.ensures.value in
    let most = c.requires.room in
    omega (arith, length-take read text)

-- all is read that is wanted
pub returns-then-left-eq0 : goal.returns-then-left-eq0
returns-then-left-eq0 c =
    let needle = c.args.needle.now in
    let text = concat c.args.chunks in
    let count = c.args.count in
    let p = c.args.progress.now in
    let q = c.loop-chunk.progress in
    let r = c.read.new.self in
    let none = c.if-left-eq0.true in
    let all : count - c.loop-chunk.left ≡ count = omega arith in
    on_ok_weaker c.read.result
    (λ (reads : Reads needle c.deref.result.now q r).
    subst (λ n. Reads needle (take n text) p r) all
    (held_read needle (take (count - c.loop-chunk.left) text) p q r c.loop-chunk.window.items c.loop-chunk.invariant.holds (subst (λ (l : List ℕ). Reads needle l q r) c.deref.ensures.value reads)))
    c.read.ensures

-- no chunk is left
pub returns : goal.returns
returns c =
    let needle = c.args.needle.now in
    let text = concat c.args.chunks in
    let count = c.args.count in
    let p = c.args.progress.now in
    let q = c.loop-chunk.progress in
    let r = c.read-2.new.self in
    let was = c.loop-chunk.invariant in
    let steps = c.in-None.ensures.steps in
    on_ok_weaker c.read-2.result
    (λ (reads : Reads needle c.deref-2.result.now q r).
    subst (λ (l : List ℕ). Reads needle l p r) (none_left text c.loop-chunk.chunk-iterator count c.loop-chunk.left was.within c.requires.enough was.rest steps.0)
    (held_read needle (take (count - c.loop-chunk.left) text) p q r c.loop-chunk.window.items was.holds (subst (λ (l : List ℕ). Reads needle l q r) c.deref-2.ensures.value reads)))
    c.read-2.ensures
