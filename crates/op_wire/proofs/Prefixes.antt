-- Records have one reading.
use Rattle.std.proofs.Common.{◌≡◌, ℕ, ◌+◌, List, [], ◌∷◌, ◌++◌, length, refl, sym, ap, ◌∙◌, append_assoc, arith, length-append}
use Rattle.std.specs.List.{flat_map}
use Rattle.std.proofs.lemmas.List.Concat.{flat_map-cons}
use Rattle.op_model.specs.declared.operation.Operation.{Operation}
use Rattle.op_wire.specs.Spelling.{spelling, HasSpelling}
use Rattle.op_wire.specs.Reading.{record_at}
use Rattle.op_wire.specs.Laws.{NonePrefixes, SpelledIsRead, ReadIsSpelled, OneReading, HasNoRecord, OneSplit, StopsHaveNone, FaultsStay}
use Rattle.op_wire.proofs.Readers.{ok_is, never}
use Rattle.op_wire.proofs.Records.{record-reads, longer}

pub spelled_is_read : SpelledIsRead
spelled_is_read op rest h = record-reads.again op rest h

pub read_is_spelled : ReadIsSpelled
read_is_spelled bytes rest op fits e = let t = record-reads.takes bytes (op, rest) fits e in (t.0.parts, t.1)

pub faults_stay : FaultsStay
faults_stay bytes more w n fits e = (record-reads.within bytes w n fits e, record-reads.stays bytes more w n fits e)

pub none_prefixes : NonePrefixes
none_prefixes a b x y ha hb e =
    let p : (a, x) ≡ (b, y) = ok_is (a, x) (b, y) (sym (record-reads.again a x ha) ∙ ap record_at e ∙ record-reads.again b y hb) in
    (ap (λ (q : Operation × List ℕ). q.0) p, ap (λ (q : Operation × List ℕ). q.1) p)

nothing_spelled : {A : Type 0} (op : Operation) (rest : List ℕ) → [] ≡ spelling op ++ rest → A
nothing_spelled op rest e = let l : 0 ≡ length (spelling op) + length rest = ap length e ∙ length-append (spelling op) rest in absurd (omega (arith, l, longer op))

pub one_reading : OneReading
one_reading [] [] ha hb e = refl
one_reading [] (b ∷ bs) ha hb e = nothing_spelled b (flat_map spelling bs) (e ∙ flat_map-cons spelling b bs)
one_reading (a ∷ xs) [] ha hb e = nothing_spelled a (flat_map spelling xs) (sym e ∙ flat_map-cons spelling a xs)
one_reading (a ∷ xs) (b ∷ bs) ha hb e =
    let p = none_prefixes a b (flat_map spelling xs) (flat_map spelling bs) ha.0 hb.0 (sym (flat_map-cons spelling a xs) ∙ e ∙ flat_map-cons spelling b bs) in
    ap (λ (x : Operation). x ∷ xs) p.0 ∙ ap (λ (ys : List Operation). b ∷ ys) (one_reading xs bs ha.1 hb.1 p.1)

no_record : {A : Type 0} (op : Operation) (x y : List ℕ) → HasSpelling op → HasNoRecord x → x ≡ spelling op ++ y → A
no_record op x y h none e = absurd (none op y h e)

pub one_split : OneSplit
one_split [] [] x y ha hb hx hy e = (refl, e)
one_split [] (b ∷ bs) x y ha hb hx hy e = no_record b x (flat_map spelling bs ++ y) hb.0 hx (e ∙ ap (λ (z : List ℕ). z ++ y) (flat_map-cons spelling b bs) ∙ append_assoc (spelling b) (flat_map spelling bs) y)
one_split (a ∷ xs) [] x y ha hb hx hy e = no_record a y (flat_map spelling xs ++ x) ha.0 hy (sym e ∙ ap (λ (z : List ℕ). z ++ x) (flat_map-cons spelling a xs) ∙ append_assoc (spelling a) (flat_map spelling xs) x)
one_split (a ∷ xs) (b ∷ bs) x y ha hb hx hy e =
    let left : flat_map spelling (a ∷ xs) ++ x ≡ spelling a ++ (flat_map spelling xs ++ x) = ap (λ (z : List ℕ). z ++ x) (flat_map-cons spelling a xs) ∙ append_assoc (spelling a) (flat_map spelling xs) x in
    let right : flat_map spelling (b ∷ bs) ++ y ≡ spelling b ++ (flat_map spelling bs ++ y) = ap (λ (z : List ℕ). z ++ y) (flat_map-cons spelling b bs) ∙ append_assoc (spelling b) (flat_map spelling bs) y in
    let p = none_prefixes a b (flat_map spelling xs ++ x) (flat_map spelling bs ++ y) ha.0 hb.0 (sym left ∙ e ∙ right) in
    let q = one_split xs bs x y ha.1 hb.1 hx hy p.1 in
    (ap (λ (z : Operation). z ∷ xs) p.0 ∙ ap (λ (ys : List Operation). b ∷ ys) q.0, q.1)

-- an unfinished rest, and one with a faulty field, begin with no record
pub stops_have_none : StopsHaveNone
stops_have_none rest s e op more h k = never (op, more) s (sym (record-reads.again op more h) ∙ (ap record_at (sym k) ∙ e))
