-- Which words name a field.
use Rattle.std.proofs.Common.{◌≡◌, ℕ, ◌^◌, ◌<◌, ◌≤◌, ◌⊎◌, inl, inr, Bool, true, false, List, [], ◌∷◌, ◌++◌, Option, Some, None}
use Rattle.std.proofs.Common.{refl, ap, sym, subst, ◌∙◌, arith, rules, cond, decimal, bytes_eq, find}
use Rattle.std.specs.Prelude.{◌&&◌, fold}
use Rattle.std.specs.List.{list_all}
use Rattle.std.specs.Option.{IfSome, IfNone}
use Rattle.std.proofs.Math.Seq.{drop-append_seam}
use Rattle.std.proofs.lemmas.Bool.{le-leb}
use Rattle.std.proofs.lemmas.Bool.Decides.{nat_tests}
use Rattle.std.proofs.lemmas.Fmt.{digits_value-decimal}
use Rattle.std.proofs.lemmas.Slice.Eq.{bytes_eq-Decides}
use Rattle.std.proofs.lemmas.Str.Parse.{IsNumeralModel, numerals_by_fold}
use Rattle.fru_area.specs.Names.{name_text, custom_prefix, number_of, last_custom, IsName}
use Rattle.fru_area.specs.declared.fault.Area.{Area}
use Rattle.fru_area.specs.declared.fault.Area.TheVariants.{Chassis, Board, Product}
use Rattle.fru_area.specs.declared.name.FieldName.{FieldName}
use Rattle.fru_area.specs.declared.name.FieldName.TheVariants.{ChassisType, ChassisPartNumber, ChassisSerialNumber, BoardManufactureDate}
use Rattle.fru_area.specs.declared.name.FieldName.TheVariants.{BoardManufacturer, BoardProductName, BoardSerialNumber, BoardPartNumber}
use Rattle.fru_area.specs.declared.name.FieldName.TheVariants.{BoardFruVersionId, ProductManufacturer, ProductProductName, ProductPartNumber}
use Rattle.fru_area.specs.declared.name.FieldName.TheVariants.{ProductVersion, ProductSerialNumber, ProductAssetTag, ProductFruVersionId, Custom}
use Rattle.tmpl.specs.Operations.{is_digit, with_digit}
use Rattle.tmpl.specs.Words.{fixed_names, custom_in, is_name, field_of}

-- ---- digits

abbrev all_digits : List ℕ → Type 0
all_digits text = list_all is_digit text ≡ true

abbrev read_on : ℕ → List ℕ → ℕ
read_on number text = fold with_digit number text

-- these words are std's
own : IsNumeralModel all_digits (read_on 0)
own = numerals_by_fold _ (search rules) read_on (search rules)

-- ---- the first of a list that passes a test

abbrev Among : {X : Type 0} → X → List X → Type 0
Among x [] = ⊥
Among x (y ∷ ys) = (y ≡ x) ⊎ Among x ys

among_behind : {X : Type 0} (x : X) (xs ys : List X) → Among x ys → Among x (xs ++ ys)
among_behind x [] ys here = here
among_behind x (other ∷ xs) ys here = inr (among_behind x xs ys here)

find_only : {X : Type 0} (test : X → Bool) (x : X) (xs : List X) → test x ≡ true → ((y : X) → test y ≡ true → y ≡ x) → Among x xs → find test xs ≡ Some x
find_only test x [] passes one here = absurd here
find_only test x (y ∷ ys) passes one (inl e) = rw (ap test e ∙ passes) (ap Some e)
find_only test x (y ∷ ys) passes one (inr later) = by (test y) refl (find_only test x ys passes one later)
  where
    by : (b : Bool) → test y ≡ b → find test ys ≡ Some x → cond b (Some y) (find test ys) ≡ Some x
    by true e found = ap Some (one y e)
    by false e found = found

find_none : {X : Type 0} (test : X → Bool) (xs : List X) → ((y : X) → test y ≡ true → ⊥) → find test xs ≡ None
find_none test [] fails = refl
find_none test (y ∷ ys) fails = by (test y) refl (find_none test ys fails)
  where
    by : (b : Bool) → test y ≡ b → find test ys ≡ None → cond b (Some y) (find test ys) ≡ None
    by true e none = absurd (fails y e)
    by false e none = none

-- ---- names

is_name-true : (name : FieldName) → IsName name → is_name name ≡ true
is_name-true (Custom area number) (low, high) = rw (le-leb 1 number low) (le-leb number last_custom high)
is_name-true _ is = refl

IsName-from : (name : FieldName) → is_name name ≡ true → IsName name
IsName-from (Custom area number) is = (grind (arith, nat_tests, is), grind (arith, nat_tests, is))
IsName-from _ is = tt

small_number : (name : FieldName) → IsName name → number_of name < 2 ^ 16
small_number (Custom area number) (low, high) = omega arith
small_number _ is = omega arith

-- the number of a custom field stands behind what its name begins with
custom_is : (area : Area) (number : ℕ) → number ≤ last_custom → custom_in (custom_prefix area ++ decimal number) area ≡ Custom area number
custom_is area number high =
    ap (λ (xs : List ℕ). Custom area (fold with_digit 0 xs)) (drop-append_seam (custom_prefix area) (decimal number))
    ∙ ap (Custom area) (digits_value-decimal own number (omega arith))

abbrev names_in : List ℕ → List FieldName
names_in text = fixed_names ++ custom_in text Chassis ∷ custom_in text Board ∷ custom_in text Product ∷ []

-- behind the names without a number
customs_in : List ℕ → List FieldName
customs_in text = custom_in text Chassis ∷ custom_in text Board ∷ custom_in text Product ∷ []

custom_behind : (area : Area) (number : ℕ) → number ≤ last_custom → Among (Custom area number) (customs_in (custom_prefix area ++ decimal number))
unfolding customs_in
custom_behind Chassis number high = inl (custom_is Chassis number high)
custom_behind Board number high = inr (inl (custom_is Board number high))
custom_behind Product number high = inr (inr (inl (custom_is Product number high)))

custom_among : (area : Area) (number : ℕ) → number ≤ last_custom → Among (Custom area number) (names_in (custom_prefix area ++ decimal number))
unfolding customs_in
custom_among area number high =
    among_behind (Custom area number) fixed_names (customs_in (custom_prefix area ++ decimal number)) (custom_behind area number high)

name_among : (name : FieldName) → IsName name → Among name (names_in (name_text name))
unfolding name_text
name_among (Custom area number) (low, high) = custom_among area number high
name_among ChassisType is = inl refl
name_among ChassisPartNumber is = inr (inl refl)
name_among ChassisSerialNumber is = inr (inr (inl refl))
name_among BoardManufactureDate is = inr (inr (inr (inl refl)))
name_among BoardManufacturer is = inr (inr (inr (inr (inl refl))))
name_among BoardProductName is = inr (inr (inr (inr (inr (inl refl)))))
name_among BoardSerialNumber is = inr (inr (inr (inr (inr (inr (inl refl))))))
name_among BoardPartNumber is = inr (inr (inr (inr (inr (inr (inr (inl refl)))))))
name_among BoardFruVersionId is = inr (inr (inr (inr (inr (inr (inr (inr (inl refl))))))))
name_among ProductManufacturer is = inr (inr (inr (inr (inr (inr (inr (inr (inr (inl refl)))))))))
name_among ProductProductName is = inr (inr (inr (inr (inr (inr (inr (inr (inr (inr (inl refl))))))))))
name_among ProductPartNumber is = inr (inr (inr (inr (inr (inr (inr (inr (inr (inr (inr (inl refl)))))))))))
name_among ProductVersion is = inr (inr (inr (inr (inr (inr (inr (inr (inr (inr (inr (inr (inl refl))))))))))))
name_among ProductSerialNumber is = inr (inr (inr (inr (inr (inr (inr (inr (inr (inr (inr (inr (inr (inl refl)))))))))))))
name_among ProductAssetTag is = inr (inr (inr (inr (inr (inr (inr (inr (inr (inr (inr (inr (inr (inr (inl refl))))))))))))))
name_among ProductFruVersionId is = inr (inr (inr (inr (inr (inr (inr (inr (inr (inr (inr (inr (inr (inr (inr (inl refl)))))))))))))))

-- no two names have the same text
abbrev pub OneName : Type 0
OneName = (name other : FieldName) → number_of name < 2 ^ 16 → name_text name ≡ name_text other → name ≡ other

abbrev test_of : List ℕ → FieldName → Bool
test_of text name = is_name name && bytes_eq (name_text name) text

passes_with : (text : List ℕ) (name : FieldName) → IsName name → name_text name ≡ text → test_of text name ≡ true
passes_with text name is same = rw (is_name-true name is) ((bytes_eq-Decides (name_text name) text).1 same)

both_true : (a b : Bool) → (a && b) ≡ true → (a ≡ true) × (b ≡ true)
both_true true b e = (refl, e)
both_true false b e = (e, absurd (cc))

passed : (text : List ℕ) (name : FieldName) → test_of text name ≡ true → IsName name × (name_text name ≡ text)
passed text name e =
    let parts = both_true (is_name name) (bytes_eq (name_text name) text) e in
    (IsName-from name parts.0, (bytes_eq-Decides (name_text name) text).0 parts.1)

found_is : OneName → (text : List ℕ) (name : FieldName) → IsName name → name_text name ≡ text → field_of text ≡ Some name
unfolding field_of
found_is one text name is same =
    find_only (test_of text) name (names_in text) (passes_with text name is same)
    (λ other e. let parts = passed text other e in one other name (small_number other parts.0) (parts.1 ∙ sym same))
    (subst (λ (xs : List ℕ). Among name (names_in xs)) same (name_among name is))

missing_is : (text : List ℕ) → ((name : FieldName) → IsName name → name_text name ≡ text → ⊥) → field_of text ≡ None
unfolding field_of
missing_is text missing = find_none (test_of text) (names_in text) (λ name e. let parts = passed text name e in missing name parts.0 parts.1)

-- what is answered of a text is the field of this name
pub field_is : OneName → (text : List ℕ) (answer : Option FieldName) → IfSome answer (λ name. IsName name × (name_text name ≡ text))
    → IfNone answer ((name : FieldName) → IsName name → name_text name ≡ text → ⊥) → answer ≡ field_of text
field_is one text (Some name) found none = sym (found_is one text name found.0 found.1)
field_is one text None found none = sym (missing_is text none)
