-- The laws of histories, which `src/laws.rt` shows.
use Rattle.std.specs.Prelude.{Bool, ◌⊎◌, None, Some, is_some, IsUtf8, IsCharBoundary, ◌≡◌, ◌↔◌, ℕ, suc, ◌<◌, ◌≤◌, true, false, if◌then◌else◌, List, [], ◌∷◌, ◌++◌, map, length, take, slice_get}
use Rattle.std.specs.List.{AllByRecursion, filter, list_any}
use Rattle.std.specs.declared.cmp.Ordering.TheVariants.{Less, Equal}
use Rattle.lamport_clock.specs.Versions.{Entries, IsVersion, sees, within}
use Rattle.op_model.specs.declared.operation.Operation.{Operation}
use Rattle.op_model.specs.Sorted.{EachPair, Member, Ascending}
use Rattle.op_model.specs.Operations.{stamp_of, version_of, pieces_of, is_edit}
use Rattle.op_model.specs.Histories.{base, History, In, SameSet, seen_history, newest_first, version, bytes_held, entries_held}
use Rattle.op_model.specs.Cells.{Cell, PathCell, before, op_places, seq_where, seq, cells}
use Rattle.op_model.specs.Laid.{only, lay, replay_by_stamps}
use Rattle.op_model.specs.Shown.{byte, IsCell, shows_where, shows, deleters, deletes, text_where, text, full_where, full, hidden_text, new_bytes, visible_by}
use Rattle.op_model.specs.Answers.Answer.{Good, Repeat, Waits}
use Rattle.op_model.specs.Lawful.{Lawful, Honest, IsClosed}
use Rattle.op_model.specs.Facts.{Fact, Marking, Continues, was_visible, cell_facts, edit_marking, with_deletion}
use Rattle.op_model.specs.Walked.{Run, IsWhole, facts_of, walk}
use Rattle.op_model.specs.Domains.{IsProper, IsReplica, IsHistory}
use Rattle.op_model.specs.Edits.{is_boundary, replace_ranges}
use Rattle.op_model.specs.Answers.{answer, same_op}
use Rattle.op_model.specs.declared.limits.Limits.{Limits as LimitsType}
use Rattle.op_model.specs.declared.operation.Piece.{Piece}
use Rattle.op_model.specs.declared.endings.Endings.{Endings}
use Rattle.op_model.specs.declared.endings.Endings.TheVariants.{Lf}
use Rattle.op_model.specs.Rules.{Rules, KeepsRule, answer_under, rule_fault, text_under, is_return}
use Rattle.op_model.specs.Made.{local_edit, local_undo, local_edit_fault, local_undo_fault}
use Rattle.lamport_clock.specs.declared.stamp.Lamport.{Lamport}
use Rattle.op_model.specs.Settled.{State, pass, passes, settle}
use Rattle.op_model.specs.Stopped.{AreAlike, stopped_settling}
use Rattle.op_model.specs.Steps.{older, Step, new_state, run, settle_step, IsProperStep, NoneForgotten}
use Rattle.op_model.specs.Opened.{open_fault, state_of, MayHaveApplied}
use Rattle.op_model.specs.declared.anchor.Anchor.{Anchor}
use Rattle.op_model.specs.declared.anchor.Anchor.TheVariants.{At}
use Rattle.op_model.specs.declared.anchor.Bias.TheVariants.{Left, Right}
use Rattle.op_model.specs.declared.anchor.TextEdit.{TextEdit}
use Rattle.op_model.specs.Anchors.{left_anchor, right_anchor, place, compare_anchors, is_known, place_fault, known_place, known_order, gap, shown_cells}
use Rattle.op_model.specs.Since.{is_shown_at, since, text_at, since_fault, apply_edits, fates}
use Rattle.op_model.specs.Places.{number_then, number_now, replaced_cells}
use Rattle.op_model.specs.Brought.{operations_of_calls, NoFull}

-- two lawful histories of the same operations, in whatever order, have the same sequence and show the same
abbrev pub SameSetsAgree : Type 0
SameSetsAgree = (h g : History) → Lawful h → Lawful g → SameSet h g
    → (seq h ≡ seq g) × ((c : Cell) → shows h c ≡ shows g c) × (text h ≡ text g) × (full h ≡ full g)

-- the definitions by a test of stamps are those of the filtered history
abbrev pub PartsAreFiltered : Type 0
PartsAreFiltered = (h : History) → (v : Entries) → (seq (seen_history h v) ≡ seq_where (sees v) (newest_first h))
    × ((c : Cell) → shows (seen_history h v) c ≡ shows_where (sees v) (newest_first h) c)
    × (text (seen_history h v) ≡ text_where (sees v) (newest_first h))
    × (full (seen_history h v) ≡ full_where (sees v) (newest_first h))

-- with a good operation at its end a history stays lawful, and its sequence is the old one with each text laid in after
-- its left neighbour, past the cells there whose stamps are later
abbrev pub GoodIsLaidIn : Type 0
GoodIsLaidIn = (h : History) → (op : Operation) → Lawful h → answer h [] op ≡ Good
    → Lawful (h ++ op ∷ []) × (seq (h ++ op ∷ []) ≡ lay (sees (version_of op)) (stamp_of op) 0 (pieces_of op) (seq h))

-- a lawful history's sequence is its operations replayed by stamps, each text put directly after its left neighbour
abbrev pub ReplayedByStamps : Type 0
ReplayedByStamps = (h : History) → Lawful h → seq h ≡ replay_by_stamps h

-- the cells of an operation stand where the sequence of what its version sees puts them: a piece's first cell under the
-- cell at start - 1 of that sequence, each other one under the cell before it
abbrev pub LeftNeighbours : Type 0
LeftNeighbours = (h : History) → Lawful h → (op : Operation) → In h op
    → AllByRecursion (λ (p : PathCell). Member p (seq h)) (op_places (seq (seen_history h (version_of op))) op)

-- a sequence has each cell of its history once, in path order
abbrev pub EachCellOnce : Type 0
EachCellOnce = (h : History) → Lawful h
    → Ascending before (seq h) × EachPair (λ (a b : Cell). a ≡ b → ⊥) (cells (seq h))
    × ((c : Cell) → Member c (cells (seq h)) ↔ IsCell h c)

-- an edit deletes exactly the cells at its ranges of the sequence of what its version sees that are shown there
abbrev pub DeletersDelete : Type 0
DeletersDelete = (h : History) → Lawful h → (c : Cell)
    → deleters h c ≡ map stamp_of (filter (λ op. deletes h op c) (newest_first h))

-- an edit deletes, besides what was deleted, the cells at its ranges that were shown to its author; they are shown no
-- longer
abbrev pub EditChanges : Type 0
EditChanges = (h : History) → (op : Operation) → Lawful h → answer h [] op ≡ Good → is_edit op ≡ true → (c : Cell)
    → (deleters (h ++ op ∷ []) c
    ≡ (if deletes h op c then with_deletion (stamp_of op) (deleters h c) else deleters h c))
    × (shows (h ++ op ∷ []) c ≡ (if deletes h op c then false else shows h c))

-- no edit deletes a cell of a new edit, and it is shown
abbrev pub NewCellsShown : Type 0
NewCellsShown = (h : History) → (op : Operation) → Lawful h → answer h [] op ≡ Good → is_edit op ≡ true → (n : ℕ)
    → (deleters (h ++ op ∷ []) (record { stamp = stamp_of op; k = n }) ≡ [])
    × (shows (h ++ op ∷ []) (record { stamp = stamp_of op; k = n }) ≡ true)

-- an undo deletes nothing; it shows and hides cells by the new counts of their edit and of those that delete them
abbrev pub UndoChanges : Type 0
UndoChanges = (h : History) → (op : Operation) → Lawful h → answer h [] op ≡ Good → is_edit op ≡ false → (c : Cell)
    → (deleters (h ++ op ∷ []) c ≡ deleters h c)
    × (shows (h ++ op ∷ []) c ≡ visible_by (h ++ op ∷ []) c.stamp (deleters h c))

-- one walk over runs of cells, from the first piece of a good edit to the last, makes runs that stand for the history
-- with it from runs that stand for the history: a run is passed whole where it is later, and split at most at the ends
-- of ranges
abbrev pub OneWalk : Type 0
OneWalk = (h : History) → (op : Operation) → (rs : List Run) → Lawful h → answer h [] op ≡ Good → is_edit op ≡ true
    → AllByRecursion (λ (r : Run). 0 < r.len) rs → facts_of rs ≡ cell_facts h
    → facts_of
    (walk (edit_marking (stamp_of op) (seen_history h (version_of op)) (version_of op))
    (sees (version_of op)) (stamp_of op) 0 0 (pieces_of op) rs)
    ≡ cell_facts (h ++ op ∷ [])

-- the text and the full text of a lawful history whose texts are UTF-8 are UTF-8
abbrev pub TextsAreUtf8 : Type 0
TextsAreUtf8 = (h : History) → Lawful h → AllByRecursion IsProper h → IsUtf8 (text h) × IsUtf8 (full h)

-- the test of a character boundary is std's definition of one
abbrev pub BoundariesAreStd : Type 0
BoundariesAreStd = (bs : List ℕ) → (i : ℕ) → (is_boundary bs i ≡ true) ↔ IsCharBoundary bs i

-- the test of equality means equality
abbrev pub EqualOperationsAreSame : Type 0
EqualOperationsAreSame = (a b : Operation) → (same_op a b ≡ true) ↔ (a ≡ b)

-- a local edit that meets no fault makes an operation that is good, and the new text is the old one with each range
-- replaced
abbrev pub EditsAreGood : Type 0
EditsAreGood = (l : LimitsType) → (h : History) → (r : ℕ) → (ps : List Piece) → Lawful h
    → AllByRecursion IsProper h → IsReplica r → local_edit_fault l h ps ≡ None
    → (answer h [] (local_edit h r ps) ≡ Good) × (text (h ++ local_edit h r ps ∷ []) ≡ replace_ranges ps (text h))

-- a local undo that meets no fault makes an operation that is good
abbrev pub UndosAreGood : Type 0
UndosAreGood = (l : LimitsType) → (h : History) → (r : ℕ) → (ts : List Lamport) → Lawful h
    → AllByRecursion IsProper h → IsReplica r → local_undo_fault l h ts ≡ None
    → answer h [] (local_undo h r ts) ≡ Good

-- after settling a further pass changes nothing, and each operation that waits misses a cause
abbrev pub SettlingEnds : Type 0
SettlingEnds = (l : Rules) → (h : History) → (w : List Operation)
    → (pass l (settle l h w).history (settle l h w).waiting ≡ record {
      history = (settle l h w).history;
      waiting = (settle l h w).waiting;
      refused = [];
    })
    × AllByRecursion
    (λ (op : Operation). within (version_of op) (version (settle l h w).history) ≡ false)
    (settle l h w).waiting

-- settling keeps a history lawful
abbrev pub SettlingKeepsLawful : Type 0
SettlingKeepsLawful = (l : Rules) → (h : History) → (w : List Operation) → Lawful h → Lawful (settle l h w).history

-- after every list of calls of a buffer, its history is lawful
abbrev pub RunsStayLawful : Type 0
RunsStayLawful = (l : Rules) → (r : ℕ) → (t : List ℕ) → (cs : List Step) → IsReplica r
    → IsUtf8 t → AllByRecursion IsProperStep cs → Lawful (run l r cs (new_state t)).history

-- the text is the bytes of the shown cells in order, the full text those of all; and both by the operations replayed by
-- stamps
abbrev pub TextsAreShownCells : Type 0
TextsAreShownCells = (h : History) → Lawful h
    → (text h ≡ map (byte h) (filter (shows h) (cells (seq h)))) × (full h ≡ map (byte h) (cells (seq h)))
    × (text h ≡ map (byte h) (filter (shows h) (cells (replay_by_stamps h))))
    × (full h ≡ map (byte h) (cells (replay_by_stamps h)))

-- two lawful histories of the same operations make and resolve anchors alike, order them alike, and have the same edits
-- since a version and the same text at it
abbrev pub SameSetsAnswerAlike : Type 0
SameSetsAnswerAlike = (h g : History) → Lawful h → Lawful g → SameSet h g
    → ((o : ℕ) → (left_anchor h o ≡ left_anchor g o) × (right_anchor h o ≡ right_anchor g o))
    × ((a : Anchor) → (is_known h a ≡ is_known g a) × (place h a ≡ place g a))
    × ((a b : Anchor) → compare_anchors h a b ≡ compare_anchors g a b)
    × ((v : Entries) → (since h v ≡ since g v) × (text_at h v ≡ text_at g v))

-- an anchor that is made at a place of the text stands there
abbrev pub AnchorsStandWhereMade : Type 0
AnchorsStandWhereMade = (h : History) → Lawful h → (o : ℕ) → (a : Anchor)
    → (left_anchor h o ≡ Some a → place h a ≡ o) × (right_anchor h o ≡ Some a → place h a ≡ o)

-- a right anchor that is made at a boundary of the text is known
abbrev pub RightAnchorsAreKnown : Type 0
RightAnchorsAreKnown = (h : History) → Lawful h → (o : ℕ) → (a : Anchor)
    → is_boundary (text h) o ≡ true → right_anchor h o ≡ Some a → is_known h a ≡ true

-- of two anchors the lesser never stands after the greater, and equal ones stand at one place
abbrev pub AnchorsStandInOrder : Type 0
AnchorsStandInOrder = (h : History) → (a b : Anchor)
    → (compare_anchors h a b ≡ Less → place h a ≤ place h b) × (compare_anchors h a b ≡ Equal → place h a ≡ place h b)

-- settling what waits by stamps is done with at most two passes, since causes have smaller stamps
abbrev pub TwoPassesAreEnough : Type 0
TwoPassesAreEnough = (l : Rules) → (h : History) → (w : List Operation) → Ascending older w
    → settle l h w ≡ passes 2 l h w

-- an operation of a lawful set, but its base, is refused by no history of operations of the set, whatever of it waits:
-- it is a repeat, it waits, or it is good
abbrev pub SetIsNeverRefused : Type 0
SetIsNeverRefused = (g h : History) → (w : List Operation) → (op : Operation) → Lawful g → Lawful h
    → ((o : Operation) → In h o → In g o) → ((o : Operation) → In w o → In g o) → In g op
    → ((t : List ℕ) × (op ≡ base t))
    ⊎ ((answer h w op ≡ Repeat) ⊎ (((e : ℕ × ℕ) × (answer h w op ≡ Waits e.0 e.1)) ⊎ (answer h w op ≡ Good)))

-- where each operation of a lawful set is applied or waits, and each that waits misses a cause, as after settling, all
-- are applied
abbrev pub SetIsAppliedWhole : Type 0
SetIsAppliedWhole = (g h : History) → (w : List Operation) → Lawful g → ((o : Operation) → In g o → In h o ⊎ In w o)
    → AllByRecursion (λ (op : Operation). within (version_of op) (version h) ≡ false) w
    → (o : Operation) → In g o → In h o

-- an honest set of which each member was made or taken by the calls of a buffer, in any order and with any repeats, and
-- besides which they made and took nothing, is applied whole after a last settling, where no Full came; the base counts
-- as made
abbrev pub HonestSetsAreAppliedWhole : Type 0
HonestSetsAreAppliedWhole = (l : Rules) → (r : ℕ) → (t : List ℕ) → (cs : List Step)
    → (ops : List Operation) → IsReplica r → IsUtf8 t → AllByRecursion IsProperStep cs
    → NoneForgotten cs → Honest ops → KeepsRule l.endings ops → In ops (base t) → NoFull l r cs (new_state t)
    → ((o : Operation) → Member o (operations_of_calls l r cs (new_state t)) → In ops o)
    → ((o : Operation) → In ops o → (o ≡ base t) ⊎ Member o (operations_of_calls l r cs (new_state t)))
    → SameSet (settle_step l (run l r cs (new_state t))).history ops

-- and so it is where the limits hold all of it, since then no Full comes
abbrev pub HonestSetsAreApplied : Type 0
HonestSetsAreApplied = (l : Rules) → (r : ℕ) → (t : List ℕ) → (cs : List Step)
    → (ops : List Operation) → IsReplica r → IsUtf8 t → AllByRecursion IsProperStep cs
    → NoneForgotten cs → Honest ops → KeepsRule l.endings ops → In ops (base t)
    → bytes_held ops ≤ l.limits.bytes → entries_held ops ≤ l.limits.entries
    → ((o : Operation) → Member o (operations_of_calls l r cs (new_state t)) → In ops o)
    → ((o : Operation) → In ops o → (o ≡ base t) ⊎ Member o (operations_of_calls l r cs (new_state t)))
    → SameSet (settle_step l (run l r cs (new_state t))).history ops

-- settling appends operations that waited
abbrev pub SettlingAppends : Type 0
SettlingAppends = (l : Rules) → (h : History) → (w : List Operation)
    → (g : List Operation) × ((settle l h w).history ≡ h ++ g) × AllByRecursion (λ (op : Operation). Member op w) g

-- every list of calls of a buffer appends to its history
abbrev pub RunsAppend : Type 0
RunsAppend = (l : Rules) → (r : ℕ) → (cs : List Step) → (s : State)
    → (g : List Operation) × ((run l r cs s).history ≡ s.history ++ g)

-- the front of a lawful history, with its base, is lawful
abbrev pub FrontsAreLawful : Type 0
FrontsAreLawful = (op : Operation) → (h g : History) → Lawful (op ∷ h ++ g) → Lawful (op ∷ h)

-- the version of a front is closed in the whole and sees that front alone
abbrev pub FrontsAreSeen : Type 0
FrontsAreSeen = (h g : History) → Lawful h → Lawful (h ++ g)
    → IsClosed (h ++ g) (version h) × (seen_history (h ++ g) (version h) ≡ h)

-- what a closed version sees is lawful, unless the version is empty; it has the cells that the version sees, with the
-- deletions that it sees
abbrev pub ClosedParts : Type 0
ClosedParts = (h : History) → (v : Entries) → Lawful h → IsClosed h v
    → (IsVersion v → (v ≡ []) ⊎ Lawful (seen_history h v)) × (seq (seen_history h v) ≡ only (sees v) (seq h))
    × ((c : Cell) → deleters (seen_history h v) c ≡ filter (sees v) (deleters h c))

-- a cell was shown at a closed version by its deletions in the whole history and the counts of what the version sees;
-- the text at the version is the bytes of the cells that were shown, in the order of the whole
abbrev pub TextsAtClosedVersions : Type 0
TextsAtClosedVersions = (h : History) → (v : Entries) → Lawful h → IsClosed h v
    → ((c : Cell) → shows (seen_history h v) c ≡ was_visible (seen_history h v) v c.stamp (deleters h c))
    × (text_at h v ≡ map (byte h) (filter (is_shown_at h v) (cells (seq h))))

-- two lawful histories of the same operations have one version, refuse the same places and versions, and resolve and
-- order the same anchors, alike
abbrev pub SameSetsRefuseAlike : Type 0
SameSetsRefuseAlike = (h g : History) → Lawful h → Lawful g → SameSet h g
    → (version h ≡ version g) × ((v : Entries) → since_fault h v ≡ since_fault g v)
    × ((o : ℕ) → place_fault h o ≡ place_fault g o)
    × ((a b : Anchor) → (known_place h a ≡ known_place g a) × (known_order h a b ≡ known_order g a b))

-- anchors that are known stay known, and keep their order, when a history grows
abbrev pub AnchorsKeepTheirOrder : Type 0
AnchorsKeepTheirOrder = (h g : History) → Lawful h → Lawful (h ++ g) → (a b : Anchor)
    → is_known h a ≡ true → is_known h b ≡ true
    → (is_known (h ++ g) a ≡ true) × (compare_anchors (h ++ g) a b ≡ compare_anchors h a b)

-- after an undo the same cells stand in their order with their deletions; whether they are shown is by the new counts
abbrev pub UndoIsTold : Type 0
UndoIsTold = (h : History) → (op : Operation) → Lawful h → answer h [] op ≡ Good → is_edit op ≡ false
    → cell_facts (h ++ op ∷ []) ≡ map (λ (q : Fact). record {
      cell = q.cell;
      visible = visible_by (h ++ op ∷ []) q.cell.stamp q.deletions;
      deletions = q.deletions;
    }) (cell_facts h)

-- a walk leaves no run without cells
abbrev pub WalksLeaveCells : Type 0
WalksLeaveCells = (m : Marking) → (keep : Lamport → Bool) → (t : Lamport) → (at k : ℕ)
    → (ps : List Piece) → (rs : List Run)
    → AllByRecursion (λ (r : Run). 0 < r.len) rs → AllByRecursion (λ (r : Run). 0 < r.len) (walk m keep t at k ps rs)

-- the edits since a version take the text then to the text now
abbrev pub EditsSinceTellTheChange : Type 0
EditsSinceTellTheChange = (h : History) → (v : Entries) → Lawful h → IsClosed h v
    → apply_edits 0 (since h v) (text_at h v) (text h) ≡ text h

-- the hidden bytes of a lawful history whose texts are UTF-8 are UTF-8, as the shown ones are
abbrev pub HiddenTextsAreUtf8 : Type 0
HiddenTextsAreUtf8 = (h : History) → Lawful h → AllByRecursion IsProper h → IsUtf8 (hidden_text h)

-- each run of alike facts begins and ends on a boundary of its edit's texts: so do the first and the last, and where
-- two neighbours are not of one run, a character ends after the one and one begins at the other
abbrev pub FactsChangeAtBoundaries : Type 0
FactsChangeAtBoundaries = (h : History) → Lawful h → AllByRecursion IsProper h
    → ((xs ys : List Fact) → (p q : Fact) → cell_facts h ≡ xs ++ p ∷ q ∷ ys → (Continues p q → ⊥)
    → (is_boundary (new_bytes h p.cell.stamp) (suc p.cell.k) ≡ true)
    × (is_boundary (new_bytes h q.cell.stamp) q.cell.k ≡ true))
    × ((ys : List Fact) → (q : Fact) → cell_facts h ≡ q ∷ ys → is_boundary (new_bytes h q.cell.stamp) q.cell.k ≡ true)
    × ((xs : List Fact) → (p : Fact) → cell_facts h ≡ xs ++ p ∷ []
    → is_boundary (new_bytes h p.cell.stamp) (suc p.cell.k) ≡ true)

-- a walk over runs that begin and end on boundaries makes such runs
abbrev pub WalksKeepRunsWhole : Type 0
WalksKeepRunsWhole = (h : History) → (op : Operation) → (rs : List Run) → Lawful h
    → AllByRecursion IsProper h → IsProper op → answer h [] op ≡ Good → is_edit op ≡ true
    → AllByRecursion (λ (r : Run). 0 < r.len) rs → facts_of rs ≡ cell_facts h → AllByRecursion (IsWhole h) rs
    → AllByRecursion (IsWhole (h ++ op ∷ []))
    (walk (edit_marking (stamp_of op) (seen_history h (version_of op)) (version_of op))
    (sees (version_of op)) (stamp_of op) 0 0 (pieces_of op) rs)

-- where there is no fault, anchors are made on both sides of a place, and they resolve to it
abbrev pub AnchorsResolve : Type 0
AnchorsResolve = (h : History) → Lawful h → AllByRecursion IsProper h → (o : ℕ) → place_fault h o ≡ None
    → (is_some (left_anchor h o) ≡ true) × (is_some (right_anchor h o) ≡ true)
    × ((a : Anchor) → left_anchor h o ≡ Some a → known_place h a ≡ Some o)
    × ((a : Anchor) → right_anchor h o ≡ Some a → known_place h a ≡ Some o)

-- the edits since a version begin and end at character boundaries of the text then and of the text now
abbrev pub EditsSinceAreAtBoundaries : Type 0
EditsSinceAreAtBoundaries = (h : History) → (v : Entries) → Lawful h → AllByRecursion IsProper h → IsClosed h v
    → AllByRecursion
    (λ (e : TextEdit). (is_boundary (text_at h v) e.old.0 ≡ true) × (is_boundary (text_at h v) e.old.1 ≡ true)
    × (is_boundary (text h) e.new.0 ≡ true) × (is_boundary (text h) e.new.1 ≡ true)) (since h v)

-- a lawful history is one: its stamps are distinct, and its base stands first
abbrev pub LawfulIsHistory : Type 0
LawfulIsHistory = (h : History) → Lawful h → IsHistory h

-- settling that was stopped, however often, and begun again ends as it would have ended without a stop
abbrev pub SettlingGoesOn : Type 0
SettlingGoesOn = (l : Rules) → (ks : List ℕ) → (s : State) → Ascending older s.waiting
    → AreAlike (settle_step l s) (settle_step l (stopped_settling ks l s))

-- what settling has applied when it is stopped begins with what was applied before, and is a front of what it would
-- apply
abbrev pub StopsLeaveFronts : Type 0
StopsLeaveFronts = (l : Rules) → (ks : List ℕ) → (s : State) → Ascending older s.waiting
    → (f : History) × (g : History) × ((stopped_settling ks l s).history ≡ s.history ++ f)
    × ((settle_step l s).history ≡ (stopped_settling ks l s).history ++ g)

-- an answer under a rule is Good exactly where the rule finds nothing and the plain answer is Good
abbrev pub GoodKeepsTheRule : Type 0
GoodKeepsTheRule = (e : Endings) → (h : History) → (w : List Operation) → (op : Operation)
    → (answer_under e h w op ≡ Good) ↔ ((rule_fault e op ≡ None) × (answer h w op ≡ Good))

-- a text that enters under Lf has no CR, and it stays UTF-8
abbrev pub EnteredTextsHaveNoReturn : Type 0
EnteredTextsHaveNoReturn = (t : List ℕ)
    → (list_any is_return (text_under Lf t) ≡ false) × (IsUtf8 t → IsUtf8 (text_under Lf t))

-- a text without CR enters as it is
abbrev pub TextsWithoutReturnStay : Type 0
TextsWithoutReturnStay = (e : Endings) → (t : List ℕ) → list_any is_return t ≡ false → text_under e t ≡ t

-- where each operation keeps the rule Lf, there is no CR among all bytes
abbrev pub NoReturnIsHeld : Type 0
NoReturnIsHeld = (h : History) → Lawful h → KeepsRule Lf h → list_any is_return (full h) ≡ false

-- a list opens without fault exactly where a buffer may have applied it
abbrev pub OpensWhatIsApplied : Type 0
OpensWhatIsApplied = (l : Rules) → (ops : List Operation)
    → (open_fault l ops ≡ None → MayHaveApplied l ops) × (MayHaveApplied l ops → open_fault l ops ≡ None)

-- what a buffer that was opened with a list has applied, after any calls, opens one again under the same rules
abbrev pub RunsOpenAgain : Type 0
RunsOpenAgain = (l : Rules) → (r : ℕ) → (g : List Operation) → (cs : List Step) → IsReplica r
    → AllByRecursion IsProper g → AllByRecursion IsProperStep cs → open_fault l g ≡ None
    → open_fault l (run l r cs (state_of g)).history ≡ None

-- an honest set is applied whole after a last settling by a buffer that was opened with a lawful list of some of it,
-- where each other member was made or taken by the calls, none was forgotten and no Full came; the list of a new buffer
-- is its base
abbrev pub OpenedSetsAreAppliedWhole : Type 0
OpenedSetsAreAppliedWhole = (l : Rules) → (r : ℕ) → (g : List Operation) → (cs : List Step)
    → (ops : List Operation) → IsReplica r → Lawful g → AllByRecursion IsProper g
    → AllByRecursion IsProperStep cs → NoneForgotten cs → Honest ops → KeepsRule l.endings ops
    → NoFull l r cs (state_of g) → ((o : Operation) → In g o → In ops o)
    → ((o : Operation) → Member o (operations_of_calls l r cs (state_of g)) → In ops o)
    → ((o : Operation) → In ops o → In g o ⊎ Member o (operations_of_calls l r cs (state_of g)))
    → SameSet (settle_step l (run l r cs (state_of g))).history ops

-- and so it is where the limits hold all of it, since then no Full comes
abbrev pub OpenedSetsAreApplied : Type 0
OpenedSetsAreApplied = (l : Rules) → (r : ℕ) → (g : List Operation) → (cs : List Step)
    → (ops : List Operation) → IsReplica r → Lawful g → AllByRecursion IsProper g
    → AllByRecursion IsProperStep cs → NoneForgotten cs → Honest ops → KeepsRule l.endings ops
    → bytes_held ops ≤ l.limits.bytes → entries_held ops ≤ l.limits.entries
    → ((o : Operation) → In g o → In ops o)
    → ((o : Operation) → Member o (operations_of_calls l r cs (state_of g)) → In ops o)
    → ((o : Operation) → In ops o → In g o ⊎ Member o (operations_of_calls l r cs (state_of g)))
    → SameSet (settle_step l (run l r cs (state_of g))).history ops

-- the place of a known anchor is a boundary of the text
abbrev pub PlacesAreBoundaries : Type 0
PlacesAreBoundaries = (h : History) → Lawful h → AllByRecursion IsProper h → (a : Anchor) → (p : ℕ)
    → known_place h a ≡ Some p → is_boundary (text h) p ≡ true

-- an anchor that was known has as many cells shown then before its gap as its place was, and as many shown now as its
-- place is; the text then and the text now have as many bytes as there are cells shown then and now
abbrev pub PlacesByFates : Type 0
PlacesByFates = (h g : History) → Lawful h → Lawful (h ++ g)
    → ((a : Anchor) → is_known h a ≡ true
    → (place h a ≡ number_then (take (gap (h ++ g) a).0 (fates (h ++ g) (version h))))
    × (place (h ++ g) a ≡ number_now (take (gap (h ++ g) a).0 (fates (h ++ g) (version h)))))
    × (length (text h) ≡ number_then (fates (h ++ g) (version h)))
    × (length (text (h ++ g)) ≡ number_now (fates (h ++ g) (version h)))

-- a history whose operations are all in another one begins a history of the same operations as that
abbrev pub PartsBeginHistories : Type 0
PartsBeginHistories = (h g : History) → Lawful h → Lawful g → ((op : Operation) → In h op → In g op)
    → (more : History) × Lawful (h ++ more) × SameSet (h ++ more) g

-- and where both have one version they are of the same operations
abbrev pub SameVersionsSameSets : Type 0
SameVersionsSameSets = (h g : History) → Lawful h → Lawful g → ((op : Operation) → In h op → In g op)
    → version h ≡ version g → SameSet h g

-- a local edit replaces the shown cells at its ranges by its own
abbrev pub LocalEditsReplaceCells : Type 0
LocalEditsReplaceCells = (l : LimitsType) → (h : History) → (r : ℕ) → (ps : List Piece) → Lawful h
    → AllByRecursion IsProper h → IsReplica r → local_edit_fault l h ps ≡ None
    → shown_cells (h ++ local_edit h r ps ∷ []) ≡ replaced_cells (local_edit h r ps) 0 0 ps (shown_cells h)

-- of the ends of a range that are made one is less than the other
abbrev pub MadeAnchorsStandInOrder : Type 0
MadeAnchorsStandInOrder = (h : History) → Lawful h → (s e : ℕ) → (a b : Anchor)
    → (s < e → right_anchor h s ≡ Some a → left_anchor h e ≡ Some b → compare_anchors h a b ≡ Less)
    × (s ≤ e → left_anchor h s ≡ Some a → right_anchor h e ≡ Some b → compare_anchors h a b ≡ Less)

-- where the byte that an anchor names is shown, the anchor that is made at its place on its side is itself
abbrev pub ShownAnchorsAreMadeAgain : Type 0
ShownAnchorsAreMadeAgain = (h : History) → Lawful h → (o : ℕ) → (c : Cell) → slice_get (shown_cells h) o ≡ Some c
    → (left_anchor h (suc o) ≡ Some (At c.stamp (suc c.k) Left)) × (right_anchor h o ≡ Some (At c.stamp c.k Right))
    × (place h (At c.stamp (suc c.k) Left) ≡ suc o) × (place h (At c.stamp c.k Right) ≡ o)
