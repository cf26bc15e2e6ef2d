-- What comes of reading and of checking a record, step by step.
use Rattle.std.proofs.Common.{◌≡◌, ◌≢◌, ◌*◌, ℕ, zero, suc, List, [], ◌∷◌, ◌++◌, Bool, true, false, cond, Option, Some, None, Result, Ok, Err, refl}
use Rattle.std.proofs.Common.{ap, sym, subst, ◌∙◌, append_assoc, append-nil}
use Rattle.std.proofs.lemmas.Bool.{ne_eqb}
use Rattle.fru_area.specs.Readings.{Appends, GivesFault, checked, seen}
use Rattle.fru_area.specs.Areas.{area_fields, named_ok}
use Rattle.fru_area.specs.Headers.{header, area_at}
use Rattle.fru_area.specs.declared.fault.Area.{Area}
use Rattle.fru_area.specs.declared.fault.Area.TheVariants.{Chassis, Board, Product}
use Rattle.fru_area.specs.declared.fault.FruFault.{FruFault}
use Rattle.fru_area.specs.declared.fault.FruFault.TheVariants as faults
use Rattle.fru_area.specs.declared.name.FieldName.{FieldName}
use Rattle.fru_area.specs.declared.field.Field.{Field}
use Rattle.fru_area.specs.declared.header.Header.{Header}
use Rattle.fru_record.specs.Records.{names_of, fields_start, is_english, fixed_fields, fields_of_area, fields_at, fields_under, record_of, ◌>>=◌}
use Rattle.std.specs.Prelude.{⊤}
use Rattle.fru_area.specs.Walks.{Raw, raw_fields, walk, first_field, field_then, with_field}

pub GivesFault-from : {X : Type 0} (fault : FruFault) (read : Result X FruFault) → read ≡ Err fault → GivesFault fault read
GivesFault-from faults.OutOfMemory read e = tt
GivesFault-from faults.FruShort read e = e
GivesFault-from faults.FruTooLong read e = e
GivesFault-from faults.HeaderVersion read e = e
GivesFault-from faults.HeaderChecksum read e = e
GivesFault-from (faults.AreaOutside a) read e = e
GivesFault-from (faults.AreaVersion a) read e = e
GivesFault-from (faults.AreaLength a) read e = e
GivesFault-from (faults.AreaChecksum a) read e = e
GivesFault-from (faults.FieldOutside a) read e = e
GivesFault-from (faults.NoEnd a) read e = e

-- a fault ends a reading
pub GivesFault-then : {X Y : Type 0} (fault : FruFault) (read : Result X FruFault) (f : X → Result Y FruFault) → GivesFault fault read
    → GivesFault fault (read >>= f)
GivesFault-then faults.OutOfMemory read f h = tt
GivesFault-then faults.FruShort read f h = ap (λ r. r >>= f) h
GivesFault-then faults.FruTooLong read f h = ap (λ r. r >>= f) h
GivesFault-then faults.HeaderVersion read f h = ap (λ r. r >>= f) h
GivesFault-then faults.HeaderChecksum read f h = ap (λ r. r >>= f) h
GivesFault-then (faults.AreaOutside a) read f h = ap (λ r. r >>= f) h
GivesFault-then (faults.AreaVersion a) read f h = ap (λ r. r >>= f) h
GivesFault-then (faults.AreaLength a) read f h = ap (λ r. r >>= f) h
GivesFault-then (faults.AreaChecksum a) read f h = ap (λ r. r >>= f) h
GivesFault-then (faults.FieldOutside a) read f h = ap (λ r. r >>= f) h
GivesFault-then (faults.NoEnd a) read f h = ap (λ r. r >>= f) h

-- the named fields of a whole area
abbrev pub named_of : Area → List ℕ → Result (List Field) FruFault
named_of area bytes = area_fields area (is_english area bytes) (names_of area) bytes (fields_start area)

pub ok_same : {X : Type 0} (x y : X) → (let r : Result X FruFault = Ok x in r ≡ Ok y) → x ≡ y
ok_same x y e = cc

-- a list to which what reading gives was appended
pub appended : {X : Type 0} (old new : List X) (read : Result (List X) FruFault) → seen (λ (more : List X). old ++ more) read ≡ Ok new
    → (more : List X) × (read ≡ Ok more) × (new ≡ old ++ more)
appended old new (Ok more) h = (more, refl, sym (ok_same (old ++ more) new h))
appended old new (Err fault) h = absurd (cc)

pub Appends-fields : (area : Area) (bytes : List ℕ) (answer : Result ⊤ FruFault) (old mid new : List Field) → mid ≡ old ++ fixed_fields area bytes
    → Appends answer mid new (named_of area bytes)
    → Appends answer old new (fields_of_area area bytes)
unfolding fields_of_area
Appends-fields area bytes (Err fault) old mid new m h = GivesFault-then fault (named_of area bytes) (λ fields. Ok (fixed_fields area bytes ++ fields)) h
Appends-fields area bytes (Ok done) old mid new m h =
    let read = appended mid new (named_of area bytes) h in
    rw (read.1) (ap Ok (sym (read.2 ∙ ap (λ (list : List Field). list ++ read.0) m ∙ append_assoc old (fixed_fields area bytes) read.0)))

pub fields_of_area-ok : (area : Area) (bytes : List ℕ) (fixed named all : List Field) → fixed ≡ fixed_fields area bytes
    → named_of area bytes ≡ Ok named → all ≡ fixed ++ named → fields_of_area area bytes ≡ Ok all
unfolding fields_of_area
fields_of_area-ok area bytes fixed named all f n a =
    ap (λ (r : Result (List Field) FruFault). r >>= (λ fields. Ok (fixed_fields area bytes ++ fields))) n
    ∙ ap (λ (fs : List Field). Ok (fs ++ named)) (sym f) ∙ ap Ok (sym a)

pub fields_at-absent : (area : Area) (bytes : List ℕ) (offset : ℕ) (none : List Field) → offset ≡ 0 → none ≡ [] → fields_at area bytes offset ≡ Ok none
unfolding fields_at
fields_at-absent area bytes offset none z n = rw (z, n) refl

pub fields_at-placed : (area : Area) (bytes : List ℕ) (offset : ℕ) → offset ≢ 0
    → fields_at area bytes offset ≡ (area_at area bytes (8 * offset) >>= fields_of_area area)
unfolding fields_at
fields_at-placed area bytes offset ne = rw (ne_eqb offset 0 ne) refl

pub fields_at-fault : (area : Area) (bytes : List ℕ) (offset : ℕ) (fault : FruFault) → offset ≢ 0 → area_at area bytes (8 * offset) ≡ Err fault
    → GivesFault fault (fields_at area bytes offset)
fields_at-fault area bytes offset fault ne e =
    GivesFault-from fault _ (fields_at-placed area bytes offset ne ∙ ap (λ (r : Result (List ℕ) FruFault). r >>= fields_of_area area) e)

pub fields_at-present : (area : Area) (bytes found : List ℕ) (offset : ℕ) → offset ≢ 0 → area_at area bytes (8 * offset) ≡ Ok found
    → fields_at area bytes offset ≡ fields_of_area area found
fields_at-present area bytes found offset ne e = fields_at-placed area bytes offset ne ∙ ap (λ (r : Result (List ℕ) FruFault). r >>= fields_of_area area) e

pub Appends-absent : (area : Area) (bytes : List ℕ) (offset : ℕ) (old : List Field) → offset ≡ 0 → Appends (Ok tt) old old (fields_at area bytes offset)
Appends-absent area bytes offset old z = rw (fields_at-absent area bytes offset [] z refl) (ap Ok (append-nil old))

-- where the header is whole, and where the areas before one are
pub record_of-header : (bytes : List ℕ) (at : Header) → header bytes ≡ Ok at → record_of bytes ≡ fields_under bytes at
unfolding record_of
record_of-header bytes at e = ap (λ (r : Result Header FruFault). r >>= fields_under bytes) e

pub record_of-no_header : (bytes : List ℕ) (fault : FruFault) → header bytes ≡ Err fault → GivesFault fault (record_of bytes)
unfolding record_of
record_of-no_header bytes fault e = GivesFault-from fault _ (ap (λ (r : Result Header FruFault). r >>= fields_under bytes) e)

pub fields_under-no_chassis : (bytes : List ℕ) (at : Header) (fault : FruFault) → GivesFault fault (fields_at Chassis bytes at.chassis)
    → GivesFault fault (fields_under bytes at)
unfolding fields_under
fields_under-no_chassis bytes at fault h = GivesFault-then fault (fields_at Chassis bytes at.chassis) _ h

pub fields_under-no_board : (bytes : List ℕ) (at : Header) (fault : FruFault) (chassis : List Field)
    → fields_at Chassis bytes at.chassis ≡ Ok chassis → GivesFault fault (fields_at Board bytes at.board) → GivesFault fault (fields_under bytes at)
unfolding fields_under
fields_under-no_board bytes at fault chassis c h = rw c (GivesFault-then fault (fields_at Board bytes at.board) _ h)

pub fields_under-no_product : (bytes : List ℕ) (at : Header) (fault : FruFault) (chassis board : List Field)
    → fields_at Chassis bytes at.chassis ≡ Ok chassis → fields_at Board bytes at.board ≡ Ok board
    → GivesFault fault (fields_at Product bytes at.product) → GivesFault fault (fields_under bytes at)
unfolding fields_under
fields_under-no_product bytes at fault chassis board c b h = rw (c, b) (GivesFault-then fault (fields_at Product bytes at.product) _ h)

pub fields_under-ok : (bytes : List ℕ) (at : Header) (chassis board product : List Field) → fields_at Chassis bytes at.chassis ≡ Ok chassis
    → fields_at Board bytes at.board ≡ Ok board → fields_at Product bytes at.product ≡ Ok product
    → fields_under bytes at ≡ Ok (chassis ++ board ++ product)
unfolding fields_under
fields_under-ok bytes at chassis board product c b p = rw (c, b, p) refl

-- the fields of an area break a rule where those that stand in it do
pub checked-fields : (area : Area) (bytes : List ℕ) → checked (fields_of_area area bytes) ≡ checked (raw_fields area bytes (fields_start area))
unfolding fields_of_area area_fields
checked-fields area bytes = of (raw_fields area bytes (fields_start area))
  where
    of : (read : Result (List Raw) FruFault) → checked (named_ok area (is_english area bytes) (names_of area) read >>=
        (λ fields. Ok (fixed_fields area bytes ++ fields))) ≡ checked read
    of (Ok raws) = refl
    of (Err fault) = refl

-- one check and then another
abbrev pub and_then : Result ⊤ FruFault → Result ⊤ FruFault → Result ⊤ FruFault
and_then (Ok t) next = next
and_then (Err fault) next = Err fault

checked-under : (bytes : List ℕ) (at : Header) → checked (fields_under bytes at) ≡ and_then (checked (fields_at Chassis bytes at.chassis)) (and_then
    (checked (fields_at Board bytes at.board)) (checked (fields_at Product bytes at.product)))
unfolding fields_under
checked-under bytes at = of (fields_at Chassis bytes at.chassis) (fields_at Board bytes at.board) (fields_at Product bytes at.product)
  where
    of : (chassis board product : Result (List Field) FruFault)
        → checked (chassis >>= (λ c. board >>= (λ b. product >>= (λ p. Ok (c ++ b ++ p))))) ≡ and_then (checked chassis)
        (and_then (checked board) (checked product))
    of (Err fault) board product = refl
    of (Ok c) (Err fault) product = refl
    of (Ok c) (Ok b) (Err fault) = refl
    of (Ok c) (Ok b) (Ok p) = refl

checked-record : (bytes : List ℕ) (at : Header) → header bytes ≡ Ok at
    → checked (record_of bytes) ≡ and_then (checked (fields_at Chassis bytes at.chassis))
    (and_then (checked (fields_at Board bytes at.board)) (checked (fields_at Product bytes at.product)))
checked-record bytes at e = ap (λ (r : Result (List Field) FruFault). checked r) (record_of-header bytes at e) ∙ checked-under bytes at

pub checked-no_header : (bytes : List ℕ) (fault : FruFault) → header bytes ≡ Err fault → Err fault ≡ checked (record_of bytes)
unfolding record_of
checked-no_header bytes fault e = sym (ap (λ (r : Result Header FruFault). checked (r >>= fields_under bytes)) e)

pub checked-no_chassis : (bytes : List ℕ) (at : Header) (fault : FruFault) → header bytes ≡ Ok at
    → Err fault ≡ checked (fields_at Chassis bytes at.chassis) → Err fault ≡ checked (record_of bytes)
checked-no_chassis bytes at fault e c = sym (rw (checked-record bytes at e, sym c) refl)

pub checked-no_board : (bytes : List ℕ) (at : Header) (t : ⊤) (fault : FruFault) → header bytes ≡ Ok at
    → Ok t ≡ checked (fields_at Chassis bytes at.chassis) → Err fault ≡ checked (fields_at Board bytes at.board)
    → Err fault ≡ checked (record_of bytes)
checked-no_board bytes at t fault e c b = sym (rw (checked-record bytes at e, sym c, sym b) refl)

pub checked-last : (bytes : List ℕ) (at : Header) (t u : ⊤) (answer : Result ⊤ FruFault) → header bytes ≡ Ok at
    → Ok t ≡ checked (fields_at Chassis bytes at.chassis) → Ok u ≡ checked (fields_at Board bytes at.board)
    → answer ≡ checked (fields_at Product bytes at.product) → answer ≡ checked (record_of bytes)
checked-last bytes at t u answer e c b p = p ∙ sym (rw (checked-record bytes at e, sym c, sym b) refl)

pub checked-outside : (area : Area) (bytes : List ℕ) (offset : ℕ) (fault : FruFault) → offset ≢ 0 → area_at area bytes (8 * offset) ≡ Err fault
    → Err fault ≡ checked (fields_at area bytes offset)
checked-outside area bytes offset fault ne e =
    sym (ap (λ (r : Result (List Field) FruFault). checked r)
    (fields_at-placed area bytes offset ne ∙ ap (λ (r : Result (List ℕ) FruFault). r >>= fields_of_area area) e))

pub checked-inside : (area : Area) (bytes found : List ℕ) (offset start : ℕ) (answer : Result ⊤ FruFault) → offset ≢ 0
    → area_at area bytes (8 * offset) ≡ Ok found → start ≡ fields_start area → answer ≡ checked (raw_fields area found start)
    → answer ≡ checked (fields_at area bytes offset)
checked-inside area bytes found offset start answer ne e s a =
    a ∙ ap (λ n. checked (raw_fields area found n)) s ∙ sym (checked-fields area found)
    ∙ sym (ap (λ (r : Result (List Field) FruFault). checked r) (fields_at-present area bytes found offset ne e))

pub checked-absent : (area : Area) (bytes : List ℕ) (offset : ℕ) → offset ≡ 0 → Ok tt ≡ checked (fields_at area bytes offset)
checked-absent area bytes offset z = sym (ap (λ (r : Result (List Field) FruFault). checked r) (fields_at-absent area bytes offset [] z refl))

-- a record whose areas were appended in turn
pub record_of-appended : (bytes : List ℕ) (at : Header) (a b c : ⊤) (none first second all : List Field) → header bytes ≡ Ok at → none ≡ []
    → Appends (Ok a) none first (fields_at Chassis bytes at.chassis) → Appends (Ok b) first second (fields_at Board bytes at.board)
    → Appends (Ok c) second all (fields_at Product bytes at.product) → record_of bytes ≡ Ok all
record_of-appended bytes at a b c none first second all e n chassis board product =
    let one = appended none first (fields_at Chassis bytes at.chassis) chassis in
    let two = appended first second (fields_at Board bytes at.board) board in
    let three = appended second all (fields_at Product bytes at.product) product in
    record_of-header bytes at e ∙ fields_under-ok bytes at one.0 two.0 three.0 one.1 two.1 three.1
    ∙ ap Ok (sym (three.2 ∙ ap (λ (list : List Field). list ++ three.0)
    (two.2 ∙ ap (λ (list : List Field). list ++ two.0) (one.2 ∙ ap (λ (list : List Field). list ++ one.0) n))))

-- each fault that reading can name is such a one
abbrev pub Faults : {X : Type 0} → (FruFault → Type 0) → Result X FruFault → Type 0
Faults P read = (fault : FruFault) → read ≡ Err fault → P fault

-- the faults of a header, and those of an area, of which some come before its fields are read
abbrev pub IsOfHeader : FruFault → Type 0
IsOfHeader faults.FruShort = ⊤
IsOfHeader faults.FruTooLong = ⊤
IsOfHeader faults.HeaderVersion = ⊤
IsOfHeader faults.HeaderChecksum = ⊤
IsOfHeader _ = ⊥

abbrev pub IsOfPlace : Area → FruFault → Type 0
IsOfPlace area (faults.AreaOutside other) = area ≡ other
IsOfPlace area (faults.AreaVersion other) = area ≡ other
IsOfPlace area (faults.AreaLength other) = area ≡ other
IsOfPlace area (faults.AreaChecksum other) = area ≡ other
IsOfPlace area _ = ⊥

abbrev pub IsOfFields : Area → FruFault → Type 0
IsOfFields area (faults.FieldOutside other) = area ≡ other
IsOfFields area (faults.NoEnd other) = area ≡ other
IsOfFields area fault = IsOfPlace area fault

err_same : {X : Type 0} (fault other : FruFault) → (let read : Result X FruFault = Err fault in read ≡ Err other) → fault ≡ other
err_same fault other e = cc

Faults-Ok : {X : Type 0} (P : FruFault → Type 0) (x : X) → Faults P (Ok x)
Faults-Ok P x = λ fault e. absurd (cc)

Faults-Err : {X Y : Type 0} (P : FruFault → Type 0) (fault : FruFault) → (let read : Result X FruFault = Err fault in Faults P read)
    → (let read : Result Y FruFault = Err fault in Faults P read)
Faults-Err P fault h = λ other e. subst P (err_same fault other e) (h fault refl)

Faults-test : {X : Type 0} (P : FruFault → Type 0) (broken : Bool) (fault : FruFault) (rest : Result X FruFault) → P fault → Faults P rest
    → Faults P (cond broken (Err fault) rest)
Faults-test P true fault rest p r = λ other e. subst P (err_same fault other e) p
Faults-test P false fault rest p r = r

Faults-mark : {X : Type 0} (P : FruFault → Type 0) (is_mark : Bool) (none : X) (rest : Result X FruFault) → Faults P rest
    → Faults P (cond is_mark (Ok none) rest)
Faults-mark P true none rest r = Faults-Ok P none
Faults-mark P false none rest r = r

Faults-then : {X Y : Type 0} (P : FruFault → Type 0) (read : Result X FruFault) (f : X → Result Y FruFault) → Faults P read
    → ((x : X) → Faults P (f x)) → Faults P (read >>= f)
Faults-then P (Ok x) f r h = h x
Faults-then P (Err fault) f r h = Faults-Err P fault r

pub Faults-header : (bytes : List ℕ) → Faults IsOfHeader (header bytes)
unfolding header
Faults-header bytes =
    Faults-test IsOfHeader _ faults.FruShort _ tt
    (Faults-test IsOfHeader _ faults.FruTooLong _ tt
    (Faults-test IsOfHeader _ faults.HeaderVersion _ tt
    (Faults-test IsOfHeader _ faults.HeaderChecksum _ tt (Faults-Ok IsOfHeader _))))

pub Faults-area_at : (area : Area) (bytes : List ℕ) (s : ℕ) → Faults (IsOfPlace area) (area_at area bytes s)
unfolding area_at
Faults-area_at area bytes s =
    Faults-test (IsOfPlace area) _ (faults.AreaOutside area) _ refl
    (Faults-test (IsOfPlace area) _ (faults.AreaVersion area) _ refl
    (Faults-test (IsOfPlace area) _ (faults.AreaLength area) _ refl
    (Faults-test (IsOfPlace area) _ (faults.AreaChecksum area) _ refl (Faults-Ok (IsOfPlace area) _))))

Faults-first_field : (area : Area) (bytes : List ℕ) → Faults (IsOfFields area) (first_field area bytes)
unfolding first_field
Faults-first_field area [] = λ other e. subst (IsOfFields area) (err_same (faults.NoEnd area) other e) refl
Faults-first_field area (head ∷ bytes) =
    Faults-mark (IsOfFields area) _ None _ (Faults-test (IsOfFields area) _ (faults.FieldOutside area) _ refl (Faults-Ok (IsOfFields area) _))

Faults-with_field : (P : FruFault → Type 0) (raw : Raw) (fields : Result (List Raw) FruFault) → Faults P fields → Faults P (with_field raw fields)
Faults-with_field P raw (Ok raws) h = Faults-Ok P (raw ∷ raws)
Faults-with_field P raw (Err fault) h = h

Faults-field_then : (P : FruFault → Type 0) (rest_of : List ℕ → Result (List Raw) FruFault) (first : Result (Option (Raw × List ℕ)) FruFault)
    → Faults P first → ((rest : List ℕ) → Faults P (rest_of rest)) → Faults P (field_then rest_of first)
Faults-field_then P rest_of (Ok None) f r = Faults-Ok P []
Faults-field_then P rest_of (Ok (Some found)) f r = Faults-with_field P found.0 (rest_of found.1) (r found.1)
Faults-field_then P rest_of (Err fault) f r = Faults-Err P fault f

Faults-walk : (area : Area) (most : ℕ) (bytes : List ℕ) → Faults (IsOfFields area) (walk area most bytes)
unfolding walk
Faults-walk area zero bytes = λ other e. subst (IsOfFields area) (err_same (faults.NoEnd area) other e) refl
Faults-walk area (suc most) bytes =
    Faults-field_then (IsOfFields area) (walk area most) (first_field area bytes) (Faults-first_field area bytes) (Faults-walk area most)

Faults-named : (P : FruFault → Type 0) (area : Area) (english : Bool) (names : List FieldName) (raws : Result (List Raw) FruFault) → Faults P raws
    → Faults P (named_ok area english names raws)
Faults-named P area english names (Ok raws) h = Faults-Ok P _
Faults-named P area english names (Err fault) h = Faults-Err P fault h

Faults-fields_of_area : (area : Area) (bytes : List ℕ) → Faults (IsOfFields area) (fields_of_area area bytes)
unfolding fields_of_area area_fields raw_fields
Faults-fields_of_area area bytes =
    Faults-then (IsOfFields area) (named_of area bytes) _ (Faults-named (IsOfFields area) area _ _ _ (Faults-walk area _ _))
    (λ fields. Faults-Ok (IsOfFields area) _)

-- a fault of an area's place is one of the area
of_place : (area : Area) (fault : FruFault) → IsOfPlace area fault → IsOfFields area fault
of_place area (faults.FieldOutside other) h = absurd h
of_place area (faults.NoEnd other) h = absurd h
of_place area faults.FruShort h = h
of_place area faults.FruTooLong h = h
of_place area faults.HeaderVersion h = h
of_place area faults.HeaderChecksum h = h
of_place area (faults.AreaOutside other) h = h
of_place area (faults.AreaVersion other) h = h
of_place area (faults.AreaLength other) h = h
of_place area (faults.AreaChecksum other) h = h
of_place area faults.OutOfMemory h = h

pub Faults-fields_at : (area : Area) (bytes : List ℕ) (offset : ℕ) → Faults (IsOfFields area) (fields_at area bytes offset)
unfolding fields_at
Faults-fields_at area bytes offset =
    Faults-mark (IsOfFields area) _ [] _
    (Faults-then (IsOfFields area) (area_at area bytes (8 * offset)) (fields_of_area area)
    (λ fault e. of_place area fault (Faults-area_at area bytes (8 * offset) fault e))
    (Faults-fields_of_area area))

-- A fault of a record names a rule, never want of memory.
abbrev pub NamesRule : FruFault → Type 0
NamesRule fault = fault ≢ faults.OutOfMemory

names_rule : (P : FruFault → Type 0) → (P faults.OutOfMemory → ⊥) → (fault : FruFault) → P fault → NamesRule fault
names_rule P none fault h e = none (subst P e h)

NamesRule-fields_at : (area : Area) (bytes : List ℕ) (offset : ℕ) → Faults NamesRule (fields_at area bytes offset)
NamesRule-fields_at area bytes offset = λ fault e. names_rule (IsOfFields area) (λ h. h) fault (Faults-fields_at area bytes offset fault e)

NamesRule-record_of : (bytes : List ℕ) → Faults NamesRule (record_of bytes)
unfolding record_of fields_under
NamesRule-record_of bytes =
    Faults-then NamesRule (header bytes) (fields_under bytes) (λ fault e. names_rule IsOfHeader (λ h. h) fault (Faults-header bytes fault e)) (λ at.
    Faults-then NamesRule (fields_at Chassis bytes at.chassis) _ (NamesRule-fields_at Chassis bytes at.chassis) (λ chassis.
    Faults-then NamesRule (fields_at Board bytes at.board) _ (NamesRule-fields_at Board bytes at.board) (λ board.
    Faults-then NamesRule (fields_at Product bytes at.product) _ (NamesRule-fields_at Product bytes at.product) (λ product. Faults-Ok NamesRule _))))

pub record_of-rule : (bytes : List ℕ) → record_of bytes ≢ Err faults.OutOfMemory
record_of-rule bytes = λ e. NamesRule-record_of bytes faults.OutOfMemory e refl

pub checked-rule : {X : Type 0} (read : Result X FruFault) → read ≢ Err faults.OutOfMemory → checked read ≢ Err faults.OutOfMemory
checked-rule (Ok x) h = λ e. absurd (cc)
checked-rule (Err fault) h = λ e. h (cc)
