-- Laws of histories whose operations are proper.
use Rattle.op_model.proofs.Elements.{each_map}
use Rattle.std.proofs.Common.{◌≡◌, ℕ, ◌<◌, Bool, List, [], ◌∷◌, ◌++◌, map, refl, ◌∙◌, ap, true, ◌&&◌, eqb, arith, None}
use Rattle.std.specs.List.{AllByRecursion}
use Rattle.std.specs.Prelude.{IsUtf8}
use Rattle.std.proofs.lemmas.Bool.{and_parts, eqb-true, and_from, eq-eqb}
use Rattle.lamport_clock.specs.declared.stamp.Lamport.{Lamport}
use Rattle.lamport_clock.specs.Stamps.{same_stamp}
use Rattle.lamport_clock.specs.Versions.{Entries}
use Rattle.lamport_clock.proofs.Later.{same_stamp_eq, same_stamp_refl}
use Rattle.op_model.specs.declared.operation.Piece.{Piece}
use Rattle.op_model.specs.declared.operation.UndoCount.{UndoCount}
use Rattle.op_model.specs.declared.operation.Operation.{Operation}
use Rattle.op_model.specs.declared.operation.Operation.TheVariants.{Edit, Undo}
use Rattle.op_model.specs.declared.limits.Limits.{Limits as LimitsType}
use Rattle.op_model.specs.Operations.{stamp_of, pieces_of}
use Rattle.op_model.specs.Histories.{History}
use Rattle.op_model.specs.Domains.{IsProper, IsReplica}
use Rattle.op_model.specs.Edits.{replace_ranges}
use Rattle.op_model.specs.Shown.{text, full}
use Rattle.op_model.specs.Made.{full_piece, local_edit, local_undo, local_edit_fault, local_undo_fault}
use Rattle.op_model.specs.Answers.{answer, same_list, same_version, same_piece, same_count, same_op}
use Rattle.op_model.specs.Answers.Answer.{Good}
use Rattle.op_model.specs.Lawful.{Lawful}
use Rattle.op_model.proofs.answers.Good.{lawful_ready}
use Rattle.op_model.proofs.answers.Counted.{lawful_counted}
use Rattle.op_model.proofs.histories.VersionLaws.{InRange, clock_under}
use Rattle.op_model.proofs.answers.OwnVersion.{stamps_of}
use Rattle.op_model.proofs.texts.WholeTexts.{Whole, lawful_whole, whole_full, whole_text}
use Rattle.op_model.proofs.answers.MadeGood.{sound, sound_undo, made_good, made_undo_good}
use Rattle.op_model.proofs.texts.Replacing.{replaced_text}

pub in_range : (h : History) → AllByRecursion IsProper h → InRange h
in_range h e = each_map IsProper (λ (o : Operation). (stamp_of o).value < 4294967296) (λ o p. p.0) h e

pub whole : (h : History) → Lawful h → AllByRecursion IsProper h → Whole h
whole h l e = lawful_whole h l (each_map IsProper (λ (o : Operation). AllByRecursion (λ (p : Piece). IsUtf8 p.text) (pieces_of o)) (λ o p. p.1) h e)

pub utf8 : (h : History) → Lawful h → AllByRecursion IsProper h → IsUtf8 (text h) × IsUtf8 (full h)
utf8 h l e = let w = whole h l e in (whole_text h w, whole_full h w)

pub edit_good : (l : LimitsType) (h : History) (r : ℕ) (ps : List Piece) → Lawful h → AllByRecursion IsProper h → IsReplica r → local_edit_fault l h ps ≡ None
    → (answer h [] (local_edit h r ps) ≡ Good) × (text (h ++ local_edit h r ps ∷ []) ≡ replace_ranges ps (text h))
edit_good l h r ps w e i f =
    let s = sound l h ps f in
    let g = made_good h r ps w (stamps_of h w (in_range h e)) (whole h w e) i s in
    (g, replaced_text h r ps (lawful_ready h w) (lawful_counted h w) s g)

pub undo_good : (l : LimitsType) (h : History) (r : ℕ) (ts : List Lamport) → Lawful h → AllByRecursion IsProper h → IsReplica r → local_undo_fault l h ts ≡ None → answer h [] (local_undo h r ts) ≡ Good
undo_good l h r ts w e i f = made_undo_good h r ts w (stamps_of h w (in_range h e)) i (sound_undo l h ts f)

utf8_full : (h : History) (ps : List Piece) → AllByRecursion (λ (p : Piece). IsUtf8 p.text) ps → AllByRecursion (λ (p : Piece). IsUtf8 p.text) (map (full_piece h) ps)
utf8_full h [] e = tt
utf8_full h (p ∷ ps) e = (e.0, utf8_full h ps e.1)

-- what is made is proper
pub made_proper : (l : LimitsType) (h : History) (r : ℕ) (ps : List Piece) → local_edit_fault l h ps ≡ None → AllByRecursion (λ (p : Piece). IsUtf8 p.text) ps → IsProper (local_edit h r ps)
unfolding local_edit
made_proper l h r ps f u = let c = clock_under h (sound l h ps f).open_clock in (omega arith, utf8_full h ps u)

pub undo_proper : (l : LimitsType) (h : History) (r : ℕ) (ts : List Lamport) → local_undo_fault l h ts ≡ None → IsProper (local_undo h r ts)
unfolding local_undo
undo_proper l h r ts f = let c = clock_under h (sound_undo l h ts f).open_clock in (omega arith, tt)

-- ---- equality

list_eq : {A : Type 0} (same : A → A → Bool) → ((x y : A) → same x y ≡ true → x ≡ y) → (xs ys : List A) → same_list same xs ys ≡ true → xs ≡ ys
list_eq same f [] [] e = refl
list_eq same f [] (y ∷ ys) e = cc
list_eq same f (x ∷ xs) [] e = cc
list_eq same f (x ∷ xs) (y ∷ ys) e =
    let a = and_parts (same x y) (same_list same xs ys) e in
    ap (λ z. z ∷ xs) (f x y a.0) ∙ ap (λ z. y ∷ z) (list_eq same f xs ys a.1)

list_refl : {A : Type 0} (same : A → A → Bool) → ((x : A) → same x x ≡ true) → (xs : List A) → same_list same xs xs ≡ true
list_refl same f [] = refl
list_refl same f (x ∷ xs) = and_from (same x x) (same_list same xs xs) (f x) (list_refl same f xs)

pair_eq : (d e : ℕ × ℕ) → (eqb d.0 e.0 && eqb d.1 e.1) ≡ true → d ≡ e
pair_eq d e q = let a = and_parts (eqb d.0 e.0) (eqb d.1 e.1) q in let x = eqb-true d.0 e.0 a.0 in let y = eqb-true d.1 e.1 a.1 in λ i. (x i, y i)

piece_eq : (p q : Piece) → same_piece p q ≡ true → p ≡ q
piece_eq p q e =
    let a = and_parts (eqb p.start q.start && eqb p.end q.end) (same_list (λ x y. eqb x y) p.text q.text) e in
    let b = and_parts (eqb p.start q.start) (eqb p.end q.end) a.0 in
    let x = eqb-true p.start q.start b.0 in
    let y = eqb-true p.end q.end b.1 in
    let z = list_eq (λ m n. eqb m n) (λ m n g. eqb-true m n g) p.text q.text a.1 in
    λ i. record { start = x i; end = y i; text = z i }

count_eq : (c d : UndoCount) → same_count c d ≡ true → c ≡ d
count_eq c d e =
    let a = and_parts (same_stamp c.edit d.edit) (eqb c.count d.count) e in
    let x = same_stamp_eq c.edit d.edit a.0 in
    let y = eqb-true c.count d.count a.1 in
    λ i. record { edit = x i; count = y i }

version_refl : (v : Entries) → same_version v v ≡ true
version_refl v = list_refl (λ (d e : ℕ × ℕ). eqb d.0 e.0 && eqb d.1 e.1) (λ x. and_from (eqb x.0 x.0) (eqb x.1 x.1) (eq-eqb x.0 x.0 refl) (eq-eqb x.1 x.1 refl)) v

pub same_is : (a b : Operation) → same_op a b ≡ true → a ≡ b
same_is (Edit a) (Edit b) e =
    let s = and_parts (same_stamp a.stamp b.stamp && same_version a.version b.version) (same_list same_piece a.pieces b.pieces) e in
    let t = and_parts (same_stamp a.stamp b.stamp) (same_version a.version b.version) s.0 in
    let x = same_stamp_eq a.stamp b.stamp t.0 in
    let y = list_eq (λ (d e : ℕ × ℕ). eqb d.0 e.0 && eqb d.1 e.1) pair_eq a.version b.version t.1 in
    let z = list_eq same_piece piece_eq a.pieces b.pieces s.1 in
    λ i. Edit (record { stamp = x i; version = y i; pieces = z i })
same_is (Edit a) (Undo b) e = cc
same_is (Undo a) (Edit b) e = cc
same_is (Undo a) (Undo b) e =
    let s = and_parts (same_stamp a.stamp b.stamp && same_version a.version b.version) (same_list same_count a.counts b.counts) e in
    let t = and_parts (same_stamp a.stamp b.stamp) (same_version a.version b.version) s.0 in
    let x = same_stamp_eq a.stamp b.stamp t.0 in
    let y = list_eq (λ (d e : ℕ × ℕ). eqb d.0 e.0 && eqb d.1 e.1) pair_eq a.version b.version t.1 in
    let z = list_eq same_count count_eq a.counts b.counts s.1 in
    λ i. Undo (record { stamp = x i; version = y i; counts = z i })

pub is_same : (a : Operation) → same_op a a ≡ true
is_same (Edit a) = and_from (same_stamp a.stamp a.stamp && same_version a.version a.version) (same_list same_piece a.pieces a.pieces)
    (and_from (same_stamp a.stamp a.stamp) (same_version a.version a.version) (same_stamp_refl a.stamp) (version_refl a.version))
    (list_refl same_piece (λ p. and_from (eqb p.start p.start && eqb p.end p.end) (same_list (λ x y. eqb x y) p.text p.text) (and_from (eqb p.start p.start) (eqb p.end p.end) (eq-eqb p.start p.start refl) (eq-eqb p.end p.end refl)) (list_refl (λ x y. eqb x y) (λ x. eq-eqb x x refl) p.text)) a.pieces)
is_same (Undo a) = and_from (same_stamp a.stamp a.stamp && same_version a.version a.version) (same_list same_count a.counts a.counts)
    (and_from (same_stamp a.stamp a.stamp) (same_version a.version a.version) (same_stamp_refl a.stamp) (version_refl a.version))
    (list_refl same_count (λ c. and_from (same_stamp c.edit c.edit) (eqb c.count c.count) (same_stamp_refl c.edit) (eq-eqb c.count c.count refl)) a.counts)
