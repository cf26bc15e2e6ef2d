-- Which texts are names of fields.
use Rattle.std.proofs.Common.{◌≡◌, ℕ, zero, suc, ◌+◌, ◌/◌, ◌^◌, ◌<◌, ◌≤◌, ◌⊎◌, inl, inr, Bool, true, false, nat_eq, bytes_eq, IsTrue, ◌↔◌, List, []}
use Rattle.std.proofs.Common.{◌∷◌, ◌++◌, length, drop, get_or, decimal, Option, Some, None, Result, Ok, refl, sym, ap, ◌∙◌, arith, find}
use Rattle.std.specs.Fmt.{digits, digits_onto}
use Rattle.std.specs.Str.Parse.{digits_value}
use Rattle.std.specs.List.{starts_with}
use Rattle.std.proofs.Math.Nat.{pow-succ'}
use Rattle.std.proofs.lemmas.Bool.{cases_lt, ne_eqb, false≢true, false_from_ne_true}
use Rattle.std.specs.Option.{IfNone, IfSome, option_or}
use Rattle.std.specs.Result.{result_ok}
use Rattle.std.specs.Str.Parse.{ParsesUnsigned}
use Rattle.std.proofs.lemmas.Slice.Eq.{bytes_eq-Decides}
use Rattle.std.proofs.lemmas.List.{append_cancel_left}
use Rattle.std.proofs.lemmas.Fmt.{parse-decimal, decimal_is_IsNumeral_wide, length-decimal-le}
use Rattle.fru_area.specs.declared.name.FieldName.{FieldName}
use Rattle.fru_area.specs.declared.name.FieldName.TheVariants.{ChassisType, ChassisPartNumber, ChassisSerialNumber, BoardManufactureDate}
use Rattle.fru_area.specs.declared.name.FieldName.TheVariants.{BoardManufacturer, BoardProductName, BoardSerialNumber, BoardPartNumber}
use Rattle.fru_area.specs.declared.name.FieldName.TheVariants.{BoardFruVersionId, ProductManufacturer, ProductProductName, ProductPartNumber}
use Rattle.fru_area.specs.declared.name.FieldName.TheVariants.{ProductVersion, ProductSerialNumber, ProductAssetTag, ProductFruVersionId, Custom}
use Rattle.fru_area.specs.declared.fault.Area.{Area}
use Rattle.fru_area.specs.declared.fault.Area.TheVariants.{Chassis, Board, Product}
use Rattle.fru_area.specs.declared.name.TheConstants.{FIXED}
use Rattle.fru_area.specs.Names.{name_text, custom_prefix, last_custom, IsName, IsFixed, LacksNumber, number_of}

-- the number that is read behind the prefix is the one that is written there
pub parsed_number :
    {E : Type 0} (front prefix text digits : List ℕ) (cut number : ℕ) (parsed : Result ℕ E) (value : Option ℕ) → front ≡ prefix →
    text ≡ front ++ drop cut text → digits ≡ drop cut text → ParsesUnsigned 16 10 digits parsed → value ≡ result_ok parsed → number ≤ last_custom →
    prefix ++ decimal number ≡ text → value ≡ Some number
parsed_number front prefix text digits cut number parsed value is_prefix split behind parses is_value limit same =
    let both : prefix ++ decimal number ≡ prefix ++ digits = same ∙ split ∙ rw (is_prefix, behind) refl in
    let written : digits ≡ decimal number = sym (append_cancel_left prefix (decimal number) digits both) in
    let read : parsed ≡ Ok number = parse-decimal 16 number digits parsed (omega arith) (omega arith) written parses in
    rw (is_value, read) refl

pub or_found :
    {X : Type 0} (P : X → Type 0) (one other either : Option X) → either ≡ option_or one other → IfSome one P → IfSome other P → IfSome either P
or_found P None other either is found other_found = rw is other_found
or_found P (Some x) other either is found other_found = rw is found

pub or_none :
    {X : Type 0} (P Q : Type 0) (one other either : Option X) → either ≡ option_or one other → IfNone one P → IfNone other Q → IfNone either (P × Q)
or_none P Q None None either is none other_none = rw is (none, other_none)
or_none P Q None (Some x) either is none other_none = rw is tt
or_none P Q (Some x) other either is none other_none = rw is tt

pub name_text-custom : (area : Area) (number : ℕ) → name_text (Custom area number) ≡ custom_prefix area ++ decimal number
unfolding name_text
name_text-custom area number = refl

-- a name is one without a number, or that of a custom field
name_cases :
    (P : FieldName → Type 0) → ((name : FieldName) → IsFixed name → P name) → ((area : Area) (number : ℕ) → P (Custom area number)) →
    (name : FieldName) → P name
name_cases P fixed custom (Custom area number) = custom area number
name_cases P fixed custom ChassisType = fixed ChassisType tt
name_cases P fixed custom ChassisPartNumber = fixed ChassisPartNumber tt
name_cases P fixed custom ChassisSerialNumber = fixed ChassisSerialNumber tt
name_cases P fixed custom BoardManufactureDate = fixed BoardManufactureDate tt
name_cases P fixed custom BoardManufacturer = fixed BoardManufacturer tt
name_cases P fixed custom BoardProductName = fixed BoardProductName tt
name_cases P fixed custom BoardSerialNumber = fixed BoardSerialNumber tt
name_cases P fixed custom BoardPartNumber = fixed BoardPartNumber tt
name_cases P fixed custom BoardFruVersionId = fixed BoardFruVersionId tt
name_cases P fixed custom ProductManufacturer = fixed ProductManufacturer tt
name_cases P fixed custom ProductProductName = fixed ProductProductName tt
name_cases P fixed custom ProductPartNumber = fixed ProductPartNumber tt
name_cases P fixed custom ProductVersion = fixed ProductVersion tt
name_cases P fixed custom ProductSerialNumber = fixed ProductSerialNumber tt
name_cases P fixed custom ProductAssetTag = fixed ProductAssetTag tt
name_cases P fixed custom ProductFruVersionId = fixed ProductFruVersionId tt

lacks_number :
    (text : List ℕ) → LacksNumber (custom_prefix Chassis) text → LacksNumber (custom_prefix Board) text → LacksNumber (custom_prefix Product) text →
    (area : Area) → LacksNumber (custom_prefix area) text
lacks_number text chassis board product Chassis = chassis
lacks_number text chassis board product Board = board
lacks_number text chassis board product Product = product

-- a text that is in no part of the names is no name
no_name :
    (text : List ℕ) → ((name : FieldName) → IsFixed name → name_text name ≡ text → ⊥) →
    LacksNumber (custom_prefix Chassis) text → LacksNumber (custom_prefix Board) text → LacksNumber (custom_prefix Product) text →
    (name : FieldName) → IsName name → name_text name ≡ text → ⊥
unfolding name_text
no_name text fixed chassis board product = name_cases (λ name. IsName name → name_text name ≡ text → ⊥)
    (λ name is_fixed is_name same. fixed name is_fixed same)
    (λ area number is_name same. lacks_number text chassis board product area number is_name.0 is_name.1 same)

-- where nothing was found in any part, the text is no name
pub IfNone_names :
    {X : Type 0} (found : Option X) (text : List ℕ) →
    IfNone found
    (((((name : FieldName) → IsFixed name → name_text name ≡ text → ⊥) × LacksNumber (custom_prefix Chassis) text)
    × LacksNumber (custom_prefix Board) text)
    × LacksNumber (custom_prefix Product) text) →
    IfNone found ((name : FieldName) → IsName name → name_text name ≡ text → ⊥)
IfNone_names None text parts = no_name text parts.0.0.0 parts.0.0.1 parts.0.1 parts.1
IfNone_names (Some x) text parts = parts

-- the table holds each name without a number
pub no_fixed :
    (text : List ℕ) (done : ℕ) → 16 ≤ done → ((k : ℕ) → k < done → name_text (get_or FIXED k ChassisType) ≡ text → ⊥) →
    (name : FieldName) → IsFixed name → name_text name ≡ text → ⊥
no_fixed text done all missed (Custom area number) fixed same = fixed
no_fixed text done all missed ChassisType fixed same = missed 0 (omega arith) same
no_fixed text done all missed ChassisPartNumber fixed same = missed 1 (omega arith) same
no_fixed text done all missed ChassisSerialNumber fixed same = missed 2 (omega arith) same
no_fixed text done all missed BoardManufactureDate fixed same = missed 3 (omega arith) same
no_fixed text done all missed BoardManufacturer fixed same = missed 4 (omega arith) same
no_fixed text done all missed BoardProductName fixed same = missed 5 (omega arith) same
no_fixed text done all missed BoardSerialNumber fixed same = missed 6 (omega arith) same
no_fixed text done all missed BoardPartNumber fixed same = missed 7 (omega arith) same
no_fixed text done all missed BoardFruVersionId fixed same = missed 8 (omega arith) same
no_fixed text done all missed ProductManufacturer fixed same = missed 9 (omega arith) same
no_fixed text done all missed ProductProductName fixed same = missed 10 (omega arith) same
no_fixed text done all missed ProductPartNumber fixed same = missed 11 (omega arith) same
no_fixed text done all missed ProductVersion fixed same = missed 12 (omega arith) same
no_fixed text done all missed ProductSerialNumber fixed same = missed 13 (omega arith) same
no_fixed text done all missed ProductAssetTag fixed same = missed 14 (omega arith) same
no_fixed text done all missed ProductFruVersionId fixed same = missed 15 (omega arith) same

-- the front of a name's text, up to its number
front_of : FieldName → List ℕ
front_of (Custom area number) = custom_prefix area
front_of name = name_text name

-- the name whose front the text begins with, with this number if it is that of a custom field
beginning : List ℕ → ℕ → Option FieldName
beginning text number =
    find (λ (name : FieldName). starts_with nat_eq text (front_of name))
    (FIXED ++ Custom Chassis number ∷ Custom Board number ∷ Custom Product number ∷ [])

beginning_fixed : (name : FieldName) (number : ℕ) → IsFixed name → beginning (name_text name) number ≡ Some name
unfolding name_text beginning front_of
beginning_fixed (Custom area number) other fixed = absurd fixed
beginning_fixed ChassisType number fixed = refl
beginning_fixed ChassisPartNumber number fixed = refl
beginning_fixed ChassisSerialNumber number fixed = refl
beginning_fixed BoardManufactureDate number fixed = refl
beginning_fixed BoardManufacturer number fixed = refl
beginning_fixed BoardProductName number fixed = refl
beginning_fixed BoardSerialNumber number fixed = refl
beginning_fixed BoardPartNumber number fixed = refl
beginning_fixed BoardFruVersionId number fixed = refl
beginning_fixed ProductManufacturer number fixed = refl
beginning_fixed ProductProductName number fixed = refl
beginning_fixed ProductPartNumber number fixed = refl
beginning_fixed ProductVersion number fixed = refl
beginning_fixed ProductSerialNumber number fixed = refl
beginning_fixed ProductAssetTag number fixed = refl
beginning_fixed ProductFruVersionId number fixed = refl

beginning_custom : (area : Area) (number other : ℕ) → beginning (name_text (Custom area number)) other ≡ Some (Custom area other)
unfolding name_text beginning front_of
beginning_custom Chassis number other = refl
beginning_custom Board number other = refl
beginning_custom Product number other = refl

beginning_own : (name : FieldName) → beginning (name_text name) (number_of name) ≡ Some name
beginning_own = name_cases (λ name. beginning (name_text name) (number_of name) ≡ Some name)
    (λ name fixed. beginning_fixed name (number_of name) fixed)
    (λ area number. beginning_custom area number number)

Some_injective : {X : Type 0} (x y : X) → Some x ≡ Some y → x ≡ y
Some_injective x y e = cc

-- what the text of a name begins with gives the name of any other with this text
same_beginning :
    (name other found : FieldName) → name_text name ≡ name_text other → beginning (name_text name) (number_of other) ≡ Some found → found ≡ other
same_beginning name other found same e =
    Some_injective found other (sym e ∙ ap (λ (text : List ℕ). beginning text (number_of other)) same ∙ beginning_own other)

ten_pow_positive : (k : ℕ) → 0 < 10 ^ k
ten_pow_positive zero = omega arith
ten_pow_positive (suc k) = omega (arith, pow-succ' 10 k, ten_pow_positive k)

-- of a number of more digits than `k` so many are written
length-digits_onto-full : (k number : ℕ) (written : List ℕ) → 10 ^ k ≤ number → length (digits_onto k 10 false number written) ≡ k + length written
length-digits_onto-full zero number written h = omega arith
length-digits_onto-full (suc k) number written h =
    let rest : 10 ^ k ≤ number / 10 = omega (arith, h, pow-succ' 10 k) in
    let more : number / 10 ≡ 0 → ⊥ = λ none. absurd (omega (arith, none, rest, ten_pow_positive k)) in
    rw (ne_eqb (number / 10) 0 more) (length-digits_onto-full k (number / 10) _ rest ∙ omega arith)

-- a small number has the digits of no other
decimal_one : (number other : ℕ) → number < 2 ^ 16 → decimal number ≡ decimal other → number ≡ other
unfolding digits
decimal_one number other small same = of (cases_lt other (10 ^ 64))
  where
    of : (other < 10 ^ 64) ⊎ (10 ^ 64 ≤ other) → number ≡ other
    of (inl fits) = sym ((decimal_is_IsNumeral_wide number (omega arith)).1) ∙ ap (digits_value 10) same ∙ (decimal_is_IsNumeral_wide other fits).1
    of (inr over) =
        let short = length-decimal-le 20 number (omega arith) (omega arith) (omega arith) in
        let long = length-digits_onto-full 64 other [] over in
        absurd (omega (arith, short, long, ap length same))

pub name_text_injective : (name other : FieldName) → number_of name < 2 ^ 16 → name_text name ≡ name_text other → name ≡ other
name_text_injective = name_cases (λ name. (other : FieldName) → number_of name < 2 ^ 16 → name_text name ≡ name_text other → name ≡ other)
    (λ name fixed other small same. same_beginning name other name same (beginning_fixed name (number_of other) fixed))
    (λ area number other small same. same_custom area number other small same
    (same_beginning (Custom area number) other (Custom area (number_of other)) same (beginning_custom area number (number_of other))))
  where
    same_custom :
        (area : Area) (number : ℕ) (other : FieldName) → number < 2 ^ 16 → name_text (Custom area number) ≡ name_text other →
        Custom area (number_of other) ≡ other → Custom area number ≡ other
    same_custom area number other small same is =
        let texts = sym (name_text-custom area number) ∙ same ∙ ap name_text (sym is) ∙ name_text-custom area (number_of other) in
        let digits = append_cancel_left (custom_prefix area) (decimal number) (decimal (number_of other)) texts in
        ap (Custom area) (decimal_one number (number_of other) small digits) ∙ is

-- names are the same where their texts are
pub same_name-same_text :
    (same : Bool) (name other : FieldName) → number_of other < 2 ^ 16 → IsTrue same ↔ (name ≡ other) → same ≡ bytes_eq (name_text name) (name_text other)
same_name-same_text true name other small h =
    sym ((bytes_eq-Decides (name_text name) (name_text other)).1 (ap name_text (h.0 refl)))
same_name-same_text false name other small h =
    let texts = bytes_eq (name_text name) (name_text other) in
    let differ : texts ≡ true → ⊥ = λ same.
    false≢true (h.1 (sym (name_text_injective other name small (sym ((bytes_eq-Decides (name_text name) (name_text other)).0 same))))) in
    sym (false_from_ne_true texts differ)
